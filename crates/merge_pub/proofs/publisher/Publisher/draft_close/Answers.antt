use Rattle.std.proofs.Common.{◌≡◌, false, refl, subst, sym, true}
use Rattle.merge_pub.specs.Held.{Held}
use Rattle.merge_pub.proofs.Drafted.{same-rules, still-ready}
use Rattle.merge_pub.proofs.publisher.Publisher.draft_close.Goals as goal

pub returns-clause-ready : goal.returns-clause-ready
returns-clause-ready c =
    let still = c.still-draft.ensures in
    let old = c.self.invariant in
    still-ready _ _ _ _ old.live old.indexed old.moved (same-rules _ _ _ refl refl refl refl refl refl old.keeps) still.changes still.plan still.changed still.moved c.in_ok-last.ensures.ready

-- where nothing is filled it takes no memory
pub returns-in_err-last-clause-nothing : goal.returns-in_err-last-clause-nothing
returns-in_err-last-clause-nothing c = λ empty why was.
    let no : false ≡ true = c.in_err-last.ensures.nothing (subst (λ (h : Held). h.gens.book.filling.filled ≡ 0) (sym c.self.view_is) empty) in
    absurd cc
