use Rattle.std.proofs.Common.{rules, ◌≡◌, ℕ, ◌<◌, List, [], length, sym, None, subst}
use Rattle.std.proofs.lemmas.List.{nil_from_length}
use Rattle.merge_types.specs.Quoted.{piece_at}
use Rattle.merge_types.specs.Meaning.{meaning_bytes}
use Rattle.merge_types.proofs.Spelling.{Remains, Remains-begin, Remains-step, Remains-end, Remains-none, piece_shorter}
use Rattle.merge_types.proofs.literal.quoted.unescape.Goals as goal

pub loop-rest-init : goal.loop-rest-init
loop-rest-init c = rw c.new-bytes.ensures.items (Remains-begin c.args.inner.now)

pub returns-in_default-clause-none : goal.returns-in_default-clause-none
returns-in_default-clause-none c =
    let none : piece_at c.loop-rest.rest.now ≡ None = search rules in
    let some : 0 < length c.loop-rest.rest.now = search rules in
    Remains-none c.args.inner.now c.loop-rest.bytes.items c.loop-rest.rest.now none some c.loop-rest.invariant

pub loop-rest-smaller : goal.loop-rest-smaller
loop-rest-smaller c = piece_shorter c.loop-rest.rest.now (meaning_bytes c.in-Some.meaning) c.in-Some.after.now (sym c.in-Some.ensures)

pub loop-rest-preserved : goal.loop-rest-preserved
loop-rest-preserved c =
    rw c.in_ok-push_meaning.ensures
    (Remains-step c.args.inner.now c.loop-rest.bytes.items c.loop-rest.rest.now (meaning_bytes c.in-Some.meaning) c.in-Some.after.now (sym c.in-Some.ensures) c.loop-rest.invariant)

pub returns-clause-some : goal.returns-clause-some
returns-clause-some c =
    let none : length c.loop-rest.rest.now ≡ 0 = search rules in
    let nil : c.loop-rest.rest.now ≡ [] = nil_from_length c.loop-rest.rest.now none in
    Remains-end c.args.inner.now c.loop-rest.bytes.items (subst (λ (rest : List ℕ). Remains c.args.inner.now c.loop-rest.bytes.items rest) nil c.loop-rest.invariant)
