use Rattle.merge_pub.specs.Held.{tables_of}
use Rattle.merge_pub.proofs.OldRows.{entries-made, rows-made}
use Rattle.merge_pub.proofs.PurgeMade.{leaves-purge}
use Rattle.merge_pub.proofs.publisher.Publisher.old_edits.Goals as goal

pub returns-clause-rows : goal.returns-clause-rows
returns-clause-rows c = rows-made (tables_of c.args.self.now) c.args.cutoff _ _ c.in_ok-gone.ensures (rw c.as_slice.ensures at c.in_ok-rows.ensures)

pub returns-clause-leaves : goal.returns-clause-leaves
returns-clause-leaves c =
    leaves-purge _ _ c.self.view_is c.self.invariant c.is_ordered.ensures.rows c.is_ordered-2.ensures.rows c.args.cutoff _
    (rows-made (tables_of c.args.self.now) c.args.cutoff _ _ c.in_ok-gone.ensures (rw c.as_slice.ensures at c.in_ok-rows.ensures))
    (entries-made (tables_of c.args.self.now) c.args.cutoff _ _ c.in_ok-gone.ensures (rw c.as_slice-2.ensures at c.in_ok-entries.ensures)) c.in_ok-mappings.ensures
