use Rattle.merge_sub.proofs.ChangedRows.{keeping_rows}
use Rattle.merge_sub.proofs.upload.keeping.Goals as goal

pub returns : goal.returns
returns c =
    keeping_rows c.args.rows.now.rows c.args.index.now.entries c.requires c.is_ordered.ensures.rows c.args.first c.args.end c.new-keys.result.items c.between.new.rows.items c.new-keys.ensures.items c.in_ok-between.ensures.rows
    c.sort_rows.new.rows.items c.sort_rows.ensures.ascending c.sort_rows.ensures.same
