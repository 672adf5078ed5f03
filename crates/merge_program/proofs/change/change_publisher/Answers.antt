-- The publisher starts, and its keeper is given back.
use Rattle.std.proofs.Common.{refl, ◌∙◌}
use Rattle.merge_program.proofs.Changes.{site-ends, unopened-ends}
use Rattle.merge_program.proofs.Sites.{publisher-damage-at, publisher-kept-at, publisher-ordered, publisher-read-at, publisher-sites}
use Rattle.merge_program.proofs.change.change_publisher.Goals as goal

pub change_sites-ending-requires-clause-ordered : goal.change_sites-ending-requires-clause-ordered
change_sites-ending-requires-clause-ordered g c = publisher-ordered _ _ _ c.in-Ok.ensures.read

pub close_publisher-requires-clause-alone : goal.close_publisher-requires-clause-alone
close_publisher-requires-clause-alone g c = publisher-sites _ _ _ _ c.in-Ok.ensures.read c.change_sites-ending.ensures.part.happened.sites

pub returns-in-Err-clause-ends : goal.returns-in-Err-clause-ends
returns-in-Err-clause-ends g c = unopened-ends _ _ _ _ _ _ _ _ _ _ _ _ _ _ (λ table key u. publisher-damage-at _ c.requires.publishes _ _ table key u.cause) c.in-Err.ensures.ends refl

pub returns-clause-ends : goal.returns-clause-ends
returns-clause-ends g c = let e = c.change_sites-ending.ensures in let closed = c.close_publisher.ensures in
    site-ends _ _ _ _ _ _ _ _ _ _ _ _ _ _ _ _ (publisher-read-at _ c.requires.publishes _ _ _ c.in-Ok.ensures.read) e.ends e.part (publisher-kept-at _ c.requires.publishes _ _ closed.kept) _ c.in-Ok.ensures.kept closed.few

pub returns-clause-others : goal.returns-clause-others
returns-clause-others g c = λ s p other. c.close_publisher.ensures.others s p other ∙ c.in-Ok.ensures.others s p other
