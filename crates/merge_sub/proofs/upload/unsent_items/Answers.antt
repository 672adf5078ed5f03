use Rattle.std.specs.Prelude.{◌^◌}
use Rattle.std.proofs.Common.{rules}
use Rattle.merge_sub.proofs.ChangedRows.{all-sent, sent-below}
use Rattle.merge_sub.proofs.upload.unsent_items.Goals as goal

pub returns-clause-items : goal.returns-clause-items
returns-clause-items c = all-sent c.args.rows.now.rows c.args.from c.args.to c.in_ok-keys.keys.items c.in_ok-keys.ensures c.in_ok-items.items (search rules)

pub returns-clause-few : goal.returns-clause-few
returns-clause-few c =
    sent-below c.args.rows.now.rows c.args.from c.args.to (2 ^ 63) c.in_ok-items.items
    (all-sent c.args.rows.now.rows c.args.from c.args.to c.in_ok-keys.keys.items c.in_ok-keys.ensures c.in_ok-items.items (search rules)) (rw c.iter.ensures.rows at c.iter.ensures.fits)
