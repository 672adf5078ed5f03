use Rattle.std.specs.Prelude.{◌≡◌, false, refl, true}
use Rattle.std.proofs.Common.{rules, subst, sym}
use Rattle.merge_sub.specs.Held.{Held}
use Rattle.merge_sub.proofs.Ready.{still-ready}
use Rattle.merge_sub.proofs.Opened.{closing-goes-on}
use Rattle.merge_sub.proofs.subscriber.Subscriber.draft_close.Goals as goal

pub returns-clause-ready : goal.returns-clause-ready
returns-clause-ready c = still-ready _ _ (search rules) _ _ _ c.still.ensures.changes c.still.ensures.index refl refl refl (closing-goes-on _ _ c.self.view_is _ c.in_ok-last.gens c.in_ok-check_counters.ensures.closed c.in_ok-last.ensures.plan) c.in_ok-last.ensures.ready c.rows.ensures.rising c.self.invariant

-- where nothing is filled it takes no memory
pub returns-in_err-last-clause-nothing : goal.returns-in_err-last-clause-nothing
returns-in_err-last-clause-nothing c = λ empty why was.
    let no : false ≡ true = c.in_err-last.ensures.nothing (subst (λ (h : Held). h.gens.book.filling.filled ≡ 0) (sym c.self.view_is) empty) in
    absurd cc
