use Rattle.std.proofs.Common.{◌≡◌, take, map}
use Rattle.std.specs.Prelude.{filter_map}
use Rattle.std.specs.List.{enumerate_from}
use Rattle.merge_model.specs.Tables.Publications.{identity_of}
use Rattle.merge_model.specs.Publisher.{holder_for}
use Rattle.merge_pub.proofs.beginning.new_holders.Given as goal

abbrev pub invariant-loop-place : goal.invariant-loop-place
invariant-loop-place l = l.held.rows ≡ map holder_for (filter_map identity_of (enumerate_from 0 (take l.place l.publication.articles)))
