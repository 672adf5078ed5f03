-- What a subscriber keeps of its own changes with each row is what it made of the row.
use Rattle.std.specs.Prelude.{◌≡◌, ◌≤◌, ◌&&◌, ℕ, List, [], Bool, Option, Some, find, nat_lt, option_map, unwrap_or}
use Rattle.std.specs.List.{list_any}
use Rattle.merge_model.specs.Judge.ByHistory.{is_between_made}
use Rattle.merge_model.specs.Judge.ByNumbers.{last_between}
use Rattle.merge_model.specs.History.{History, MadeChange, made_at}
use Rattle.merge_model.specs.Tables.Keys.{at_number, row_at, same_key}
use Rattle.merge_types.specs.declared.row_key.RowKey.{RowKey as Key}
use Rattle.merge_units.specs.declared.site_row.SubscriberRow.{SubscriberRow}
use Rattle.merge_model.specs.Tables.{SubscriberTables}
use Rattle.merge_model.specs.World.{World}

-- the generations that are kept with a row
abbrev pub generations_in : List (Key × SubscriberRow) → Key → List ℕ
generations_in rows key = unwrap_or (option_map (λ (row : SubscriberRow). row.generations) (row_at rows key)) []

-- whether a row was changed in a generation above this one, and in which it was changed last, behind one and up to another
abbrev pub is_changed_above : ℕ → Key → List MadeChange → Bool
is_changed_above received key made = list_any (λ (change : MadeChange). nat_lt received change.generation && same_key key change.key) made

abbrev pub last_made : ℕ → ℕ → Key → List MadeChange → Option ℕ
last_made from to key made = option_map (λ (change : MadeChange). change.generation) (find (λ (change : MadeChange). is_between_made from to change && same_key key change.key) made)

-- of the rows of a site, above its received generation
pub record RowsTell (made : List MadeChange) (received : ℕ) (rows : List (Key × SubscriberRow)) : Type 0 where
  pub unsent : (key : Key) (above : ℕ) → received ≤ above → list_any (λ (generation : ℕ). nat_lt above generation) (generations_in rows key) ≡ is_changed_above above key made
  pub between : (key : Key) (from to : ℕ) → received ≤ from → last_between from to (generations_in rows key) ≡ last_made from to key made

-- of each subscriber
abbrev pub Unsent : World → History → Type 0
Unsent w h = (n : ℕ) (s : SubscriberTables) → (n ≡ 0 → ⊥) → at_number w.subscribers n ≡ Some s → RowsTell (made_at h n) s.received s.rows
