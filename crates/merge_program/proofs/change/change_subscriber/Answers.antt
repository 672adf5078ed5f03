-- The subscriber starts, and its keeper is given back.
use Rattle.std.proofs.Common.{refl, ◌∙◌}
use Rattle.merge_program.proofs.Changes.{site-ends, unopened-ends}
use Rattle.merge_program.proofs.Sites.{damage-at, kept-at, read-at, subscriber-ordered, subscriber-sites, subscribes}
use Rattle.merge_program.proofs.change.change_subscriber.Goals as goal

pub open_subscriber-requires-clause-subscribes : goal.open_subscriber-requires-clause-subscribes
open_subscriber-requires-clause-subscribes g c = subscribes _ c.requires.subscribes c.args.publication.now c.requires.known

pub change_sites-ending-requires-clause-ordered : goal.change_sites-ending-requires-clause-ordered
change_sites-ending-requires-clause-ordered g c = subscriber-ordered _ _ _ _ c.in-Ok.ensures.read

pub close_subscriber-requires-clause-alone : goal.close_subscriber-requires-clause-alone
close_subscriber-requires-clause-alone g c = subscriber-sites _ _ _ _ _ c.in-Ok.ensures.read c.change_sites-ending.ensures.part.happened.sites

pub returns-in-Err-clause-ends : goal.returns-in-Err-clause-ends
returns-in-Err-clause-ends g c = unopened-ends _ _ _ _ _ _ _ _ _ _ _ _ _ _ (λ table key u. damage-at _ c.requires.subscribes _ _ table key u.cause) c.in-Err.ensures.ends refl

pub returns-clause-ends : goal.returns-clause-ends
returns-clause-ends g c = let e = c.change_sites-ending.ensures in let closed = c.close_subscriber.ensures in
    site-ends _ _ _ _ _ _ _ _ _ _ _ _ _ _ _ _ (read-at _ c.requires.subscribes _ _ _ c.in-Ok.ensures.read) e.ends e.part (kept-at _ c.requires.subscribes _ _ closed.kept) _ c.in-Ok.ensures.kept closed.few

pub returns-clause-others : goal.returns-clause-others
returns-clause-others g c = λ s p other. c.close_subscriber.ensures.others s p other ∙ c.in-Ok.ensures.others s p other
