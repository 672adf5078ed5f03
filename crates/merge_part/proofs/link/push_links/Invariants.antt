use Rattle.std.proofs.Common.{◌≡◌, ◌++◌, map, drop}
use Rattle.merge_part.specs.Rules.{link_of}
use Rattle.merge_part.proofs.link.push_links.Given as goal

abbrev pub invariant-loop-join : goal.invariant-loop-join
invariant-loop-join l = l.links ++ map (link_of l.child) (drop l.join-index l.joins) ≡ l.fn.links ++ map (link_of l.child) l.joins
