-- A run ends as its session does, or before.
use Rattle.std.proofs.Common.{List, Option, ap, refl, ℕ, ◌∙◌}
use Rattle.merge_types.specs.declared.identifiers.SiteId.{SiteId}
use Rattle.merge_ports.specs.Entries.{Map}
use Rattle.merge_program.proofs.Syncs.{subscribed-ends, unsubscribed-ends}
use Rattle.merge_program.proofs.sync.sync.Goals as goal

pub returns-in-Ok-clause-ends : goal.returns-in-Ok-clause-ends
returns-in-Ok-clause-ends g c = λ input reads failed. let e = c.in-Ok.ensures in subscribed-ends _ _ _ _ _ _ c.ending_of.ensures _ e.subscribed _ e.told _ e.offers (g.E.Outside.counts c.read_subscribed.new.outside) e.stores e.links c.sync-synced.ensures.ends

pub returns-in-Err-clause-ends : goal.returns-in-Err-clause-ends
returns-in-Err-clause-ends g c = λ input reads failed. let e = c.in-Err.ensures in unsubscribed-ends _ _ _ _ _ e.ends refl e.told e.offers e.links

pub returns-in-Ok-clause-others : goal.returns-in-Ok-clause-others
returns-in-Ok-clause-others g c = λ s p other. c.sync-synced.ensures.others s p other ∙ ap (λ (f : SiteId → List ℕ → Option Map). f s p) c.in-Ok.ensures.told

pub returns-in-Err-clause-others : goal.returns-in-Err-clause-others
returns-in-Err-clause-others g c = λ s p other. ap (λ (f : SiteId → List ℕ → Option Map). f s p) c.in-Err.ensures.told
