use Rattle.std.proofs.Common.{◌≡◌, ◌≤◌, ◌-◌, ℕ, length, drop, refl, ap, ◌∙◌, arith}
use Rattle.merge_filter.specs.declared.kind.Kind.{Kind}
use Rattle.merge_filter.specs.Words.{front_len, behind_front}
use Rattle.merge_filter.specs.Runs.{behind_blanks, run_len}
use Rattle.merge_filter.proofs.WordLemmas.{one_more, front_is, not_empty}
use Rattle.merge_filter.proofs.tokens.tokens_of.Goals as goal

pub loop-rest-preserved : goal.loop-rest-preserved
loop-rest-preserved c =
    let rest = c.loop-rest.rest.now in
    let place = length c.args.text.now - length rest in
    let len : c.run_len-len.result ≡ front_len rest = c.run_len-len.ensures.count ∙ ap (λ (k : Kind). run_len k rest) c.kind_of-kind.ensures in
    let word = front_is rest c.kind_of-kind.result c.run_len-len.result place c.in_ok-word.field-0 c.in-Some.word c.kind_of-kind.ensures c.run_len-len.ensures.count c.in-Some.is c.in_ok-word.ensures in
    let next : c.behind_word-rest.result.now ≡ behind_front rest = c.behind_word-rest.ensures.value ∙ ap (λ (n : ℕ). behind_blanks (drop n rest)) len in
    let within : length rest ≤ length c.args.text.now = c.loop-rest.invariant.0 in
    let fits : length c.behind_word-rest.result.now ≤ length c.args.text.now = omega (arith, c.behind_word-rest.ensures.shorter) in
    let more = one_more c.args.text.now (behind_blanks c.args.text.now) c.loop-rest.words.items c.loop-rest.places.items rest c.in-Some.word place c.loop-rest.invariant.1 (not_empty rest c.loop-rest-test.ensures) refl word in
    (fits, rw (c.in_ok-push-in-Some.ensures.items, c.in_ok-push-in-Some-2.ensures.items, next) more)
