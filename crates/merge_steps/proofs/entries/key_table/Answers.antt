use Rattle.std.proofs.Common.{ap}
use Rattle.merge_types.specs.declared.row_key.RowKey.{RowKey}
use Rattle.std.specs.Prelude.{List}
use Rattle.merge_model.specs.Tables.Keys.{has_key}
use Rattle.merge_steps.proofs.KeyTables.{all-of, one-more}
use Rattle.merge_steps.proofs.entries.key_table.Goals as goal

pub loop-key-init : goal.loop-key-init
loop-key-init c = λ q. ap (λ (keys : List RowKey). has_key keys q) c.new-table.ensures.slots

pub loop-key-preserved : goal.loop-key-preserved
loop-key-preserved c = one-more c.args.keys.now _ _ _ _ c.loop-key-test.true c.loop-key.invariant c.in_ok-insert.ensures.slots

pub returns : goal.returns
returns c = all-of c.args.keys.now c.loop-key.table.slots c.loop-key.key-index c.loop-key-test.false c.loop-key.invariant
