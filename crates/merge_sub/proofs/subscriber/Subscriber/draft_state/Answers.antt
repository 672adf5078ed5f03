-- What takes no memory is not refused.
use Rattle.std.proofs.Common.{◌≡◌, false, refl, true}
use Rattle.merge_sub.proofs.subscriber.Subscriber.draft_state.Goals as goal

pub returns-in_err-gens-clause-nothing : goal.returns-in_err-gens-clause-nothing
returns-in_err-gens-clause-nothing c = let no : false ≡ true = c.in_err-gens.ensures.nothing refl in absurd cc
