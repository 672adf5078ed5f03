use Rattle.std.proofs.Common.{subst}
use Rattle.merge_lineage.proofs.Ascending.{ascending_complete}
use Rattle.std.specs.List.{AllByRecursion}
use Rattle.merge_json.specs.Rows.{dot_at}
use Rattle.merge_json.specs.Written.{ReadsBack, dot_data}
use Rattle.merge_json.proofs.Again.{lineage_again}
use Rattle.merge_json.proofs.written.lineage_value.Goals as goal

pub returns-clause-again : goal.returns-clause-again
returns-clause-again c = lineage_again c.args.lineage.now (ascending_complete c.args.lineage.now c.dots.ensures.ascending) (subst (AllByRecursion (ReadsBack dot_at dot_data)) c.dots.ensures.all c.in_ok-value.ensures.again)
