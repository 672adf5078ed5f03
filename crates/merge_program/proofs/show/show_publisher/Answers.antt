-- The publisher starts, and its keeper is given back.
use Rattle.std.proofs.Common.{refl, ◌∙◌}
use Rattle.merge_program.proofs.Shows.{known-of, named-of, rows-named, shown-ends, unopened-ends}
use Rattle.merge_program.proofs.Sites.{publisher-damage-at, publisher-kept-at, publisher-of, publisher-ordered, publisher-read-at, publisher-sites}
use Rattle.merge_program.proofs.show.show_publisher.Goals as goal

pub show_sites-ending-requires-clause-ordered : goal.show_sites-ending-requires-clause-ordered
show_sites-ending-requires-clause-ordered g c = publisher-ordered _ _ _ c.in-Ok.ensures.read

pub show_sites-ending-requires-clause-known : goal.show_sites-ending-requires-clause-known
show_sites-ending-requires-clause-known g c = known-of _ _ (publisher-of _ _ _ c.in-Ok.ensures.read) _ c.requires.known

pub show_sites-ending-requires-clause-named : goal.show_sites-ending-requires-clause-named
show_sites-ending-requires-clause-named g c = named-of _ _ (publisher-of _ _ _ c.in-Ok.ensures.read) _ c.requires.named

pub close_publisher-requires-clause-alone : goal.close_publisher-requires-clause-alone
close_publisher-requires-clause-alone g c = publisher-sites _ _ _ _ c.in-Ok.ensures.read refl

pub returns-in-Err-clause-ends : goal.returns-in-Err-clause-ends
returns-in-Err-clause-ends g c = λ article named. unopened-ends _ _ _ _ _ _ _ _ _ _ _ _ _ (λ table key u. publisher-damage-at _ c.requires.publishes _ _ table key u.cause) c.in-Err.ensures.ends refl

pub returns-clause-ends : goal.returns-clause-ends
returns-clause-ends g c = λ article named. shown-ends _ _ article _ _ _ _ _ _ _ _ _ _ (publisher-read-at _ c.requires.publishes _ _ _ c.in-Ok.ensures.read)
    (rows-named _ _ (publisher-of _ _ _ c.in-Ok.ensures.read) _ _ c.show_sites-ending.ensures article named) (publisher-kept-at _ c.requires.publishes _ _ c.close_publisher.ensures.kept)

pub returns-clause-others : goal.returns-clause-others
returns-clause-others g c = λ s p other. c.close_publisher.ensures.others s p other ∙ c.in-Ok.ensures.others s p other
