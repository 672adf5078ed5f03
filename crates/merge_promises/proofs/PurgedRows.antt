-- What a purge took, the history has as purged.
use Rattle.std.specs.Prelude.{◌⊎◌}
use Rattle.std.proofs.Common.{inl, inr}
use Rattle.merge_types.specs.declared.row_key.RowKey.{RowKey as Key}
use Rattle.merge_model.specs.History.Model.{Model}
use Rattle.merge_owed.specs.Purged.{KnownIsWithin, LackedWerePurged, PurgedWereTaken}
use Rattle.merge_promises.specs.Promises.{HasPurged}

either-right : {A B C : Type 0} → (B → C) → A ⊎ B → A ⊎ C
either-right f (inl a) = inl a
either-right f (inr b) = inr (f b)

module _ (m : Model) (Purged : Key → Type 0) (taken : PurgedWereTaken Purged m) where
  pub lacked-noted : LackedWerePurged Purged m → LackedWerePurged (HasPurged m) m
  lacked-noted lacked key dot lacks made accepted = (taken key).1 (lacked key dot lacks made accepted)

  pub within-noted : KnownIsWithin Purged m → KnownIsWithin (HasPurged m) m
  within-noted within site key dot known accepted = either-right (taken key).1 (within site key dot known accepted)
