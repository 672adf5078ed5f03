use Rattle.std.proofs.Common.{◌∙◌}
use Rattle.merge_pub.proofs.Restored.{kept-fit, restored-sound}
use Rattle.merge_pub.proofs.publisher.Publisher.restore.Goals as goal

pub indexes_of-requires-clause-rows : goal.indexes_of-requires-clause-rows
indexes_of-requires-clause-rows g c = rw c.as_slice-rows.ensures c.requires.stands.sorted.rows_ascend

pub indexes_of-requires-clause-mappings : goal.indexes_of-requires-clause-mappings
indexes_of-requires-clause-mappings g c = rw c.as_slice-mappings.ensures c.requires.stands.sorted.mappings_ascend

pub indexes_of-requires-clause-fits : goal.indexes_of-requires-clause-fits
indexes_of-requires-clause-fits g c = rw c.as_slice-rows.ensures (kept-fit c.args.publication.now _ c.args.kept.rows c.requires.stands.keeps.rows)

pub joined-requires : goal.joined-requires
joined-requires g c =
    restored-sound c.args.publication.now c.requires.valid _ c.requires.stands _ (rw (c.as_slice-rows.ensures, c.as_slice-mappings.ensures) at c.in_ok-indexes.ensures) _ (c.in_ok-tables.ensures.rules ∙ c.in_ok-rules.ensures.are) c.in_ok-tables.ensures.tables
