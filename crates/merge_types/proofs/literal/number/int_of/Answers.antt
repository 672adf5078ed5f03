use Rattle.std.proofs.Common.{rules, ◌≡◌, ℤ, w64, ap, sym, ◌∙◌, Ok, true, nat_eq, to_z, of_z}
use Rattle.std.specs.Fmt.{signed_decimal}
use Rattle.std.proofs.lemmas.Fmt.{parse-signed_decimal}
use Rattle.std.proofs.lemmas.Int.{to_z-of_z}
use Rattle.std.specs.Cmp.Lexicographic.{pointwise}
use Rattle.std.proofs.lemmas.Slice.Eq.{bytes_eq-Decides}
use Rattle.merge_types.proofs.literal.number.int_of.Goals as goal

pub returns-in_default-clause-none : goal.returns-in_default-clause-none
returns-in_default-clause-none c = λ z fits e.
    let p : c.parse.result ≡ Ok z = parse-signed_decimal w64 z c.args.text.now c.parse.result fits (search rules) e c.parse.ensures.value.0 in
    cc

pub returns-else-eq-clause-none : goal.returns-else-eq-clause-none
returns-else-eq-clause-none c = λ z fits e.
    let p : c.parse.result ≡ Ok z = parse-signed_decimal w64 z c.args.text.now c.parse.result fits (search rules) e c.parse.ensures.value.0 in
    let n : c.in-Ok.number ≡ z = cc in
    let printed : c.format.result.now ≡ signed_decimal (to_z w64 (of_z w64 c.in-Ok.number)) = c.format.ensures.text in
    let both : c.format.result.now ≡ c.args.text.now = printed ∙ ap (λ (x : ℤ). signed_decimal (to_z w64 (of_z w64 x))) n ∙ ap signed_decimal (to_z-of_z w64 z fits) ∙ sym e in
    let yes : pointwise nat_eq c.format.result.now c.args.text.now ≡ true = (bytes_eq-Decides _ _).1 both in
    cc
