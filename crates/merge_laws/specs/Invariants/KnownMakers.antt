-- Every version of a row, and every change of it, knows the change that made the row.
use Rattle.std.specs.Prelude.{◌≡◌, ◌≤◌, ℕ, List, Some, true, is_some}
use Rattle.std.specs.List.{AllByRecursion, AllZip}
use Rattle.std.specs.List.Sorted.{IsStrictlySortedBy}
use Rattle.std.specs.Map.{keys_of}
use Rattle.merge_types.specs.declared.identifiers.Dot.{Dot}
use Rattle.merge_units.specs.declared.version.Version.{Version}
use Rattle.merge_batch.specs.Makers.{maker_of}
use Rattle.merge_model.specs.History.{History, MadeChange, Past, has, past_in, pasts_at}
use Rattle.merge_types.specs.RowKeys.{key_cmp}
use Rattle.merge_model.specs.Tables.Keys.{at_number, row_at}
use Rattle.merge_types.specs.declared.row_key.RowKey.{RowKey as Key}
use Rattle.merge_model.specs.Tables.{SubscriberTables}
use Rattle.merge_model.specs.World.{World}
use Rattle.merge_model.specs.declared.letter.Letter.{Letter}
use Rattle.merge_laws.specs.Facts.LineagesStand.{OfMessage}

abbrev pub KnowsMaker : Key → List Dot → Type 0
KnowsMaker key known = (maker : Dot) → maker_of key.row.0 ≡ Some maker → has known maker ≡ true

-- a change of a row is no earlier than the one of the same site that made the row
abbrev pub IsAfterMaker : MadeChange → Type 0
IsAfterMaker change = (maker : Dot) → maker_of change.key.row.0 ≡ Some maker → maker.site.0 ≡ change.dot.site.0 → maker.number ≤ change.dot.number

-- each row that is held knows its maker
abbrev pub HeldKnow : {A : Type 0} → List (Key × A) → List (Key × Past) → Type 0
HeldKnow rows pasts = (key : Key) → is_some (row_at rows key) ≡ true → KnowsMaker key (past_in pasts key).known

abbrev pub Ascend : List (Key × Past) → Type 0
Ascend pasts = IsStrictlySortedBy key_cmp (keys_of pasts)

pub record KnownMakers (w : World) (h : History) : Type 0 where
  -- the pasts of a site's rows ascend
  pub sorted : (n : ℕ) → Ascend (pasts_at h n)
  pub makers : AllByRecursion (λ (change : MadeChange). KnowsMaker change.key change.past.known) h.made
  pub firsts : AllByRecursion IsAfterMaker h.made
  pub here : HeldKnow w.publisher.rows (pasts_at h 0)
  pub there : (n : ℕ) (s : SubscriberTables) → at_number w.subscribers n ≡ Some s → HeldKnow s.rows (pasts_at h n)
  pub letters : AllZip (λ (letter : Letter) (pasts : List (Key × Past)). OfMessage (λ (key : Key) (version : Version) (past : Past). KnowsMaker key past.known) pasts letter.message) w.pool h.letters
