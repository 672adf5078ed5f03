-- The downloads so far led here, and each took a number.
use Rattle.std.proofs.Common.{◌≡◌, ◌≤◌, ◌-◌, ℕ}
use Rattle.std.specs.Prelude.{None}
use Rattle.merge_types.specs.Limits.{counter_limit}
use Rattle.merge_agent.specs.Meetings.{meeting}
use Rattle.merge_agent.specs.Sessions.{Downloads, Leads, at}
use Rattle.merge_agent.proofs.stages.download_all.Given as goal

abbrev pub invariant-downloads : goal.invariant-downloads
invariant-downloads g l =
    (l.count ≤ (g.S.SubscriberSite.view l.site).tables.seq)
    × ((x : ℕ) → Leads l.address (at (Downloads None) (g.S.SubscriberSite.view l.initial.site).tables x 0) (at (Downloads l.target) (g.S.SubscriberSite.view l.site).tables x l.count)
    (meeting (g.S.SubscriberSite.view l.initial.site) (g.N.Link.coming l.initial.link) (g.N.Link.exchanges l.initial.link) (g.N.Link.count l.initial.link) (g.C.Clock.told l.initial.clock))
    (meeting (g.S.SubscriberSite.view l.site) (g.N.Link.coming l.link) (g.N.Link.exchanges l.link) (g.N.Link.count l.link) (g.C.Clock.told l.clock)))
    × (g.N.Link.peer l.link ≡ g.N.Link.peer l.initial.link)

abbrev pub decreases-downloads : goal.decreases-downloads
decreases-downloads g l = counter_limit - (g.S.SubscriberSite.view l.site).tables.seq
