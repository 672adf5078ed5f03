-- Which tables of a subscriber keep the rules of a start.
use Rattle.std.specs.Prelude.{◌≡◌, ℕ, ◌+◌, ◌^◌, ◌<◌, true, nat_le, List, [], ◌∷◌, length, filter, Some}
use Rattle.std.specs.List.{AllByRecursion}
use Rattle.std.specs.Option.{option_map}
use Rattle.merge_types.specs.declared.row_key.RowKey.{RowKey}
use Rattle.merge_units.specs.declared.site_row.SubscriberRow.{SubscriberRow}
use Rattle.merge_gens.specs.declared.closings.Closing.{Closing}
use Rattle.merge_conflict.specs.declared.row.ConflictRow.{ConflictRow}
use Rattle.merge_ident.specs.Holders.{Holder}
use Rattle.merge_schema.specs.declared.publication.Publication.{Publication}
use Rattle.merge_record.specs.Rows.{IsSubscriberRow}
use Rattle.merge_record.specs.Tables.{IsRowKey, IsHeld}
use Rattle.merge_keeper.specs.Edits.{head_of_row}
use Rattle.merge_keeper.specs.Entries.{held_ranges, was_received}
use Rattle.merge_keeper.specs.Start.{conflict_is_sound, holder_of, identity_at, with_value_at, KeepOneByOne}
use Rattle.merge_keeper.specs.States.{IsConflict, IsSubscriberState}
use Rattle.merge_keeper.specs.Stored.{kind_of, outstanding_from, outstanding_number, outstanding_to, phase_number}
use Rattle.merge_keeper.specs.SubscriberStart.{closing_is_sound, held_is_sound, row_is_sound, state_is_sound, tables_with}
use Rattle.merge_keeper.specs.declared.states.ConflictValue.{ConflictValue}
use Rattle.merge_keeper.specs.declared.states.SubscriberState.{SubscriberState}
use Rattle.merge_keeper.specs.declared.stored.SubscriberStored.{SubscriberStored}

-- the state record of tables
abbrev pub state_of : SubscriberStored → SubscriberState
state_of t = record {
  front = record { site = t.site.0; changes = t.changes; last_closed = t.filling.last_closed; filled = t.filling.filled; conflicts = t.conflict_count; latest = t.latest.0 };
  talk = record { seq = t.seq; outstanding = outstanding_number t.outstanding; from = outstanding_from t.outstanding; to = outstanding_to t.outstanding; received = t.received; watermark = t.watermark; kind = kind_of t.outstanding; phase = phase_number t.is_joined };
}

abbrev pub value_of : ConflictRow → ConflictValue
value_of row = record { head = head_of_row row; losing = row.losing }

-- the tables with the state alone, and with each list up to some place
abbrev pub with_rows : SubscriberStored → List (ℕ × Holder) → List (RowKey × SubscriberRow) → SubscriberStored
with_rows t held rows = record (tables_with t.site held (state_of t)) { rows = rows }

abbrev pub with_closings : SubscriberStored → List (ℕ × Holder) → List Closing → SubscriberStored
with_closings t held closings = record (with_rows t held t.rows) { closings = closings }

abbrev pub with_conflicts : SubscriberStored → List (ℕ × Holder) → List ConflictRow → SubscriberStored
with_conflicts t held conflicts = record (with_closings t held t.closings) { conflicts = conflicts }

-- the ranges of some articles in place of those that were there
abbrev pub held_with : List (ℕ × Holder) → List (ℕ × Holder) → List (ℕ × Holder)
held_with held [] = held
held_with held (p ∷ ps) = held_with (with_value_at held p.0 p.1) ps

-- the generations run on from one to the last
abbrev pub Run : ℕ → ℕ → List Closing → Type 0
Run last next [] = next ≡ last + 1
Run last next (closing ∷ closings) = (closing.generation ≡ next) × (nat_le next last ≡ true) × Run last (next + 1) closings

-- the numbers of conflicts run on behind one, up to the counter
abbrev pub Numbered : ℕ → ℕ → List ConflictRow → Type 0
Numbered counter last [] = last ≡ counter
Numbered counter last (row ∷ rows) = (row.number ≡ last + 1) × Numbered counter (last + 1) rows

-- What every subscriber keeps that was started, where held is what it holds before any range was received: each record is one of the grammar and
-- keeps the rules behind those before it, closed generations and conflicts are all there, and nothing else is held than was received or there from
-- the beginning.
pub record KeepRules (publication : Publication) (held : List (ℕ × Holder)) (t : SubscriberStored) : Type 0 where
  pub fits : IsSubscriberState (state_of t)
  pub state : state_is_sound t.site t.conflict_count (state_of t) ≡ true
  pub rows : KeepOneByOne (λ front row. IsRowKey row.0 × IsSubscriberRow row.1 × (row_is_sound publication (with_rows t held front) row.0 row.1 ≡ true)) [] t.rows
  pub closings : KeepOneByOne (λ front closing. (closing.generation < 2 ^ 64) × (closing.moment.0 < 2 ^ 64) × (closing_is_sound (with_closings t held front) closing ≡ true)) [] t.closings
  pub run : Run t.filling.last_closed (t.received + 1) t.closings
  pub conflicts : KeepOneByOne (λ front row. (row.number < 2 ^ 64) × IsConflict (value_of row) × (conflict_is_sound publication (length front) t.conflict_count row ≡ true)) [] t.conflicts
  pub numbered : Numbered t.conflict_count 0 t.conflicts
  pub received : AllByRecursion (λ p. (p.0 < 2 ^ 8) × IsHeld (held_ranges p.1) × (held_is_sound publication p.0 (held_ranges p.1) ≡ true) × (option_map (λ identity. holder_of identity (held_ranges p.1)) (identity_at publication p.0) ≡ Some p.1)) (filter was_received t.held)
  pub all_held : held_with held (filter was_received t.held) ≡ t.held
