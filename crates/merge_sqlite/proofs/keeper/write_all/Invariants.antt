-- The edits so far were written within the transaction, and nothing was committed.
use Rattle.std.proofs.Common.{◌≡◌, true, take, IsTrue}
use Rattle.sqlite.specs.Held.{state}
use Rattle.sqlite.specs.State.{HasCleanDisk, KeepsCommit, Survives}
use Rattle.merge_sqlite.specs.Writing.{WritesWithin}
use Rattle.merge_sqlite.proofs.keeper.write_all.Given as goal

abbrev pub invariant-loop-edit : goal.invariant-loop-edit
invariant-loop-edit g l =
    let old = state g.S.Store (record l.fn.conn { in_transaction = true }) in
    let now = state g.S.Store l.transaction.conn.now in
    (l.transaction.conn.ghost_name ≡ l.initial.transaction.conn.ghost_name)
    × Survives old now (λ _. ⊥)
    × (HasCleanDisk now → WritesWithin g.S.Store l.put.text l.take.text (take l.edit-index l.edits) l.fn.conn l.transaction.conn.now × KeepsCommit old now × IsTrue l.transaction.conn.now.in_transaction)
