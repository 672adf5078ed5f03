use Rattle.std.proofs.Common.{◌≡◌, take, map}
use Rattle.std.specs.Prelude.{filter_map}
use Rattle.std.specs.List.{enumerate_from}
use Rattle.merge_model.specs.Tables.Publications.{identity_of, rule_of}
use Rattle.merge_pub.proofs.beginning.rules_of.Given as goal

abbrev pub invariant-loop-place : goal.invariant-loop-place
invariant-loop-place l = l.rules ≡ map rule_of (filter_map identity_of (enumerate_from 0 (take l.place l.publication.articles)))
