use Rattle.std.proofs.Common.{◌≡◌, drop}
use Rattle.std.specs.Prelude.{find}
use Rattle.merge_part.specs.Subscribers.{is_site}
use Rattle.merge_part.proofs.subscribers.place_of.Given as goal

abbrev pub invariant-loop-place : goal.invariant-loop-place
invariant-loop-place l = find (is_site l.site) (drop l.place l.subscriptions) ≡ find (is_site l.site) l.subscriptions
