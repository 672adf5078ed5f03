-- What a commit leaves, from what its parts do.
use Rattle.std.proofs.Common.{◌≡◌, ℕ, false, List, Result, Ok, Err, IsTrue, inl, refl, arith}
use Rattle.sqlite.specs.Held.{Held, state}
use Rattle.sqlite.specs.State.{HasCleanDisk, KeepsCommit, Survives}
use Rattle.sqlite.specs.Store.{Ghosts}
use Rattle.merge_ports.specs.declared.entry.EntryEdit.{EntryEdit}
use Rattle.merge_ports.specs.declared.keeper.KeepFault.{KeepFault}
use Rattle.merge_ports.specs.declared.keeper.KeepFault.TheVariants.{Failed}
use Rattle.merge_sqlite.specs.Keeping.{HasCommitted}
use Rattle.merge_sqlite.specs.Writing.{Commits, MayLeave, RefusesToCommit}

module _ {S : Type 0} (store : Ghosts S) (put_by take_by : List ℕ) (edits : List EntryEdit) where
  pub has_committed : {T : Type 0} (old new : Held S) (value : T) → (HasCleanDisk (state store new) → Commits store put_by take_by edits old new) → new.in_transaction ≡ false
      → Survives (state store old) (state store new) (MayLeave store put_by take_by edits old) → HasCommitted {T = T} store put_by take_by edits old new (Ok value)
  has_committed old new value done idle crash = record { done = done; err = λ _. tt; undone = λ _. tt; idle = λ _. idle; crash = crash }

  pub not_committed : {T : Type 0} (old new : Held S) (fault : KeepFault) (result : Result T KeepFault) → result ≡ Err fault → (HasCleanDisk (state store new) → RefusesToCommit store put_by take_by edits old new fault)
      → (HasCleanDisk (state store new) → KeepsCommit (state store old) (state store new)) → (old.in_transaction ≡ false → new.in_transaction ≡ false) → Survives (state store old) (state store new) (MayLeave store put_by take_by edits old)
      → HasCommitted store put_by take_by edits old new result
  not_committed old new fault result is err undone idle crash = record {
    done = λ _. rw is tt;
    err = λ clean. rw is (err clean);
    undone = λ clean. rw is (undone clean);
    idle = idle;
    crash = crash;
  }

  -- a connection that is within a transaction is left as it is
  pub within_one : {T : Type 0} (held : Held S) (result : Result T KeepFault) → result ≡ Err Failed → IsTrue held.in_transaction → HasCommitted store put_by take_by edits held held result
  within_one held result is within =
      not_committed held held Failed result is (λ _. inl (refl, within)) (λ _. record { was_open = λ h. h; committed = λ _. refl }) (λ idle. idle)
      (record { clean = omega arith; shield = λ h. h; counts = omega arith; limit = refl; closes = λ _ h. inl h; crash = λ _ db h. inl h })
