use Rattle.std.specs.Prelude.{◌≡◌, map, take}
use Rattle.merge_world.specs.Reports.{standing_of}
use Rattle.merge_world.proofs.reports.standings.Given as goal

abbrev pub invariant-loop-subscription : goal.invariant-loop-subscription
invariant-loop-subscription g l = l.sites ≡ map (standing_of (g.P.PublisherSite.view l.publisher).tables) (take l.subscription-index l.subscriptions)
