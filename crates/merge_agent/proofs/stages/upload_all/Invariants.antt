-- The uploads so far led here, and each took a number.
use Rattle.std.proofs.Common.{◌≡◌, ◌≤◌, ◌-◌}
use Rattle.merge_types.specs.Limits.{counter_limit}
use Rattle.merge_agent.specs.Meetings.{meeting}
use Rattle.merge_agent.specs.Sessions.{Leads, Uploads, at}
use Rattle.merge_agent.proofs.stages.upload_all.Given as goal

abbrev pub invariant-uploads : goal.invariant-uploads
invariant-uploads g l =
    (l.count ≤ (g.S.SubscriberSite.view l.site).tables.seq)
    × Leads l.address (at Uploads (g.S.SubscriberSite.view l.initial.site).tables 0 0) (at Uploads (g.S.SubscriberSite.view l.site).tables l.count 0)
    (meeting (g.S.SubscriberSite.view l.initial.site) (g.N.Link.coming l.initial.link) (g.N.Link.exchanges l.initial.link) (g.N.Link.count l.initial.link) (g.C.Clock.told l.initial.clock))
    (meeting (g.S.SubscriberSite.view l.site) (g.N.Link.coming l.link) (g.N.Link.exchanges l.link) (g.N.Link.count l.link) (g.C.Clock.told l.clock))
    × (g.N.Link.peer l.link ≡ g.N.Link.peer l.initial.link)

abbrev pub decreases-uploads : goal.decreases-uploads
decreases-uploads g l = counter_limit - (g.S.SubscriberSite.view l.site).tables.seq
