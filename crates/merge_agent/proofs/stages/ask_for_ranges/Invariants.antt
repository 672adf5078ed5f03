-- The requests so far led here.
use Rattle.std.proofs.Common.{◌≡◌, ◌-◌, ℕ}
use Rattle.merge_types.specs.Limits.{counter_limit}
use Rattle.merge_agent.specs.Meetings.{meeting}
use Rattle.merge_agent.specs.Sessions.{Asks, Leads, at}
use Rattle.merge_agent.proofs.stages.ask_for_ranges.Given as goal

abbrev pub invariant-asks : goal.invariant-asks
invariant-asks g l =
    ((x : ℕ) → Leads l.address (at Asks (g.S.SubscriberSite.view l.initial.site).tables x 0) (at Asks (g.S.SubscriberSite.view l.site).tables x 0)
    (meeting (g.S.SubscriberSite.view l.initial.site) (g.N.Link.coming l.initial.link) (g.N.Link.exchanges l.initial.link) (g.N.Link.count l.initial.link) (g.C.Clock.told l.initial.clock))
    (meeting (g.S.SubscriberSite.view l.site) (g.N.Link.coming l.link) (g.N.Link.exchanges l.link) (g.N.Link.count l.link) (g.C.Clock.told l.clock)))
    × (g.N.Link.peer l.link ≡ g.N.Link.peer l.initial.link)

abbrev pub decreases-asks : goal.decreases-asks
decreases-asks g l = counter_limit - (g.S.SubscriberSite.view l.site).tables.seq
