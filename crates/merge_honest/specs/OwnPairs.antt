-- What a site sends of its rows has its own number: a row that keeps a generation of the site was changed by it.
use Rattle.std.specs.List.{AllByRecursion}
use Rattle.std.specs.Prelude.{List, Some, [], true, ◌≡◌, ◌∷◌, ℕ}
use Rattle.merge_types.specs.declared.identifiers.Dot.{Dot}
use Rattle.merge_types.specs.declared.row_key.RowKey.{RowKey as Key}
use Rattle.merge_units.specs.declared.site_row.SubscriberRow.{SubscriberRow}
use Rattle.merge_batch.specs.Lineages.{has_pair_of}
use Rattle.merge_batch.specs.declared.request.Request.TheVariants as request
use Rattle.merge_batch.specs.declared.request.UploadItem.{UploadItem}
use Rattle.merge_model.specs.Tables.Keys.{at_number}
use Rattle.merge_model.specs.Tables.{SubscriberTables}
use Rattle.merge_model.specs.declared.letter.Letter.{Letter}
use Rattle.merge_model.specs.declared.letter.Message.{Message}
use Rattle.merge_model.specs.declared.letter.Message.TheVariants.{Asks}

abbrev pub HasOwn : ℕ → List ℕ → List Dot → Type 0
HasOwn n [] lineage = Unit {0}
HasOwn n (generation ∷ generations) lineage = has_pair_of n lineage ≡ true

abbrev pub RowHasOwn : ℕ → Key × SubscriberRow → Type 0
RowHasOwn n row = HasOwn n row.1.generations row.1.version.lineage

-- so has each item of an upload
abbrev pub MessageHasOwn : Message → Type 0
MessageHasOwn (Asks (request.Upload m)) = AllByRecursion (λ (item : UploadItem). has_pair_of m.site.0 item.version.lineage ≡ true) m.items
MessageHasOwn message = Unit {0}

pub record OwnPairs (subscribers : List (ℕ × SubscriberTables)) (pool : List Letter) : Type 0 where
  pub rows : (n : ℕ) (s : SubscriberTables) → at_number subscribers n ≡ Some s → AllByRecursion (RowHasOwn n) s.rows
  pub letters : AllByRecursion (λ (letter : Letter). MessageHasOwn letter.message) pool
