use Rattle.std.specs.Prelude.{◌≡◌, false, refl, true}
use Rattle.std.proofs.Common.{rules}
use Rattle.merge_sub.proofs.Ready.{still-ready}
use Rattle.merge_sub.proofs.Opened.{still-goes-on}
use Rattle.merge_sub.proofs.subscriber.Subscriber.draft_message.Goals as goal

pub returns-clause-ready : goal.returns-clause-ready
returns-clause-ready c = still-ready _ _ (search rules) _ _ _ c.still.ensures.changes c.still.ensures.index refl refl refl (still-goes-on c.self.inside.gens.book c.in_ok-gens.gens c.in_ok-gens.ensures.plan) c.in_ok-gens.ensures.ready c.rows.ensures.rising c.self.invariant

-- what takes no memory is not refused
pub returns-in_err-gens-clause-nothing : goal.returns-in_err-gens-clause-nothing
returns-in_err-gens-clause-nothing c = let no : false ≡ true = c.in_err-gens.ensures.nothing refl in absurd cc
