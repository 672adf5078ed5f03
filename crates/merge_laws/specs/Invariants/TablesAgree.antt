-- Conflict tables have the rows of what the history has as lost, in its order.
use Rattle.std.specs.Prelude.{◌≡◌, ℕ, List, Some, map}
use Rattle.merge_conflict.specs.declared.row.ConflictRow.{ConflictRow}
use Rattle.merge_model.specs.History.{History, Past}
use Rattle.merge_model.specs.Tables.Keys.{at_number}
use Rattle.merge_model.specs.Laws.Promises.{key_of_conflict, lost_at}
use Rattle.merge_types.specs.declared.row_key.RowKey.{RowKey as Key}
use Rattle.merge_model.specs.Tables.{SubscriberTables}
use Rattle.merge_model.specs.World.{World}

-- the rows of the versions that were lost at a site
abbrev pub keys_lost : History → ℕ → List Key
keys_lost h site = map (λ (lost : Key × Past). lost.0) (lost_at h site)

abbrev pub TableAgrees : ℕ → History → List ConflictRow → Type 0
TableAgrees site h rows = map key_of_conflict rows ≡ keys_lost h site

pub record TablesAgree (w : World) (h : History) : Type 0 where
  pub publisher : TableAgrees 0 h w.publisher.conflicts
  pub subscribers : (n : ℕ) (s : SubscriberTables) → at_number w.subscribers n ≡ Some s → TableAgrees n h s.conflicts
