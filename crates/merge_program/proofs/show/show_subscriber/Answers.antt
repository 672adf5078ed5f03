-- The subscriber starts, and its keeper is given back.
use Rattle.std.proofs.Common.{refl, ◌∙◌}
use Rattle.merge_program.proofs.Shows.{known-of, named-of, rows-named, shown-ends, unopened-ends}
use Rattle.merge_program.proofs.Sites.{damage-at, kept-at, subscriber-of, subscriber-ordered, read-at, subscriber-sites, subscribes}
use Rattle.merge_program.proofs.show.show_subscriber.Goals as goal

pub open_subscriber-requires-clause-subscribes : goal.open_subscriber-requires-clause-subscribes
open_subscriber-requires-clause-subscribes g c = subscribes _ c.requires.subscribes c.args.publication.now c.requires.known

pub show_sites-ending-requires-clause-ordered : goal.show_sites-ending-requires-clause-ordered
show_sites-ending-requires-clause-ordered g c = subscriber-ordered _ _ _ _ c.in-Ok.ensures.read

pub show_sites-ending-requires-clause-known : goal.show_sites-ending-requires-clause-known
show_sites-ending-requires-clause-known g c = known-of _ _ (subscriber-of _ _ _ _ c.in-Ok.ensures.read) _ c.requires.known

pub show_sites-ending-requires-clause-named : goal.show_sites-ending-requires-clause-named
show_sites-ending-requires-clause-named g c = named-of _ _ (subscriber-of _ _ _ _ c.in-Ok.ensures.read) _ c.requires.named

pub close_subscriber-requires-clause-alone : goal.close_subscriber-requires-clause-alone
close_subscriber-requires-clause-alone g c = subscriber-sites _ _ _ _ _ c.in-Ok.ensures.read refl

pub returns-in-Err-clause-ends : goal.returns-in-Err-clause-ends
returns-in-Err-clause-ends g c = λ article named. unopened-ends _ _ _ _ _ _ _ _ _ _ _ _ _ (λ table key u. damage-at _ c.requires.subscribes _ _ table key u.cause) c.in-Err.ensures.ends refl

pub returns-clause-ends : goal.returns-clause-ends
returns-clause-ends g c = λ article named. shown-ends _ _ article _ _ _ _ _ _ _ _ _ _ (read-at _ c.requires.subscribes _ _ _ c.in-Ok.ensures.read)
    (rows-named _ _ (subscriber-of _ _ _ _ c.in-Ok.ensures.read) _ _ c.show_sites-ending.ensures article named) (kept-at _ c.requires.subscribes _ _ c.close_subscriber.ensures.kept)

pub returns-clause-others : goal.returns-clause-others
returns-clause-others g c = λ s p other. c.close_subscriber.ensures.others s p other ∙ c.in-Ok.ensures.others s p other
