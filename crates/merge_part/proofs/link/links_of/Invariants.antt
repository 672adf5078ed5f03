use Rattle.std.proofs.Common.{◌≡◌, ◌++◌, drop}
use Rattle.merge_part.specs.Rules.{links_from}
use Rattle.merge_part.proofs.link.links_of.Given as goal

abbrev pub invariant-loop-child : goal.invariant-loop-child
invariant-loop-child l = l.links ++ links_from l.child (drop l.child l.publication.articles) ≡ links_from 0 l.publication.articles
