-- What contracts see of a desk and of its seats.
use Rattle.std.specs.List.{AllByRecursion}
use Rattle.std.specs.Prelude.{List, [], length, map, suc, zero, ℕ, ◌+◌, ◌∷◌, ◌≡◌, ◌≤◌}
use Rattle.merge_schema.specs.declared.publication.Publication.{Publication}
use Rattle.merge_model.specs.Tables.{PublisherTables}
use Rattle.merge_model.specs.World.{Saying}
use Rattle.merge_draft.specs.Drafting.{DraftingView}
use Rattle.merge_desk.specs.Replay.{AreDecided, mark_in, marks_from, replay}
use Rattle.merge_desk.specs.declared.entry.Entry.{Entry}
use Rattle.merge_desk.specs.declared.mark.Mark.{Mark}

-- the publisher's tables, how often its resolvers were asked and its store failed, the journal, and the totals of both ledgers
pub record DeskView : Type 0 where
  pub tables : PublisherTables
  pub tallies : List ℕ
  pub store_faults : ℕ
  pub journal : List Entry
  pub calls : ℕ
  pub faults : ℕ

-- A journal that was kept since an opening: the tables are those behind all entries, the marks are theirs, and resolvers that say this
-- decided their conflicts.
pub record IsJournal (publication : Publication) (says : Saying) (opening : PublisherTables) (journal : List Entry) (now : PublisherTables) : Type 0 where
  pub tables : now ≡ replay publication opening journal
  pub marks : map mark_in journal ≡ marks_from publication opening 1 journal
  pub decided : AreDecided publication says opening journal

-- the publisher is that of the opening, and each call that was answered has its entry, for which a permit was spent
pub record IsKeptDesk (publication : Publication) (opening : PublisherTables) (says : Saying) (count : ℕ) (v : DraftingView) (journal : List Entry) (calls faults spent : ℕ) : Type 0 where
  pub of-publication : v.publication ≡ publication
  pub of-says : v.says ≡ says
  pub kept : IsJournal publication says opening journal v.tables
  pub counted : length journal ≡ calls
  pub few : count + faults ≤ v.faults
  pub paid : length journal ≤ spent

-- A seat: its number, what it was told, and the amount and the parts of both its shares. What it was told and both amounts are
-- noted as the last of its connections was closed.
pub record SeatView : Type 0 where
  pub number : ℕ
  pub told : List Mark
  pub calls : ℕ
  pub faults : ℕ
  pub call_parts : ℕ
  pub fault_parts : ℕ
  pub closed_told : List Mark
  pub closed_calls : ℕ
  pub closed_faults : ℕ

-- the seat, which is noted as it is
abbrev pub seat_noted : SeatView → SeatView
seat_noted s = record s { closed_told = s.told; closed_calls = s.calls; closed_faults = s.faults }

-- what is noted of a seat stays
abbrev pub IsNotedAs : SeatView → SeatView → Type 0
IsNotedAs s t = (t.closed_told ≡ s.closed_told) × (t.closed_calls ≡ s.closed_calls) × (t.closed_faults ≡ s.closed_faults)

abbrev pub seat_calls : SeatView → ℕ
seat_calls s = s.calls

abbrev pub seat_faults : SeatView → ℕ
seat_faults s = s.faults

abbrev pub seat_call_parts : SeatView → ℕ
seat_call_parts s = s.call_parts

abbrev pub seat_fault_parts : SeatView → ℕ
seat_fault_parts s = s.fault_parts

abbrev pub seat_number : SeatView → ℕ
seat_number s = s.number

-- how many marks it was told
abbrev pub seat_marks : SeatView → ℕ
seat_marks s = length s.told

-- no seat was told more marks than it made calls
abbrev pub AreToldInCalls : List SeatView → Type 0
AreToldInCalls seats = AllByRecursion (λ (s : SeatView). length s.told ≤ s.calls) seats

-- so many numbers from one on
abbrev pub numbers_from : ℕ → ℕ → List ℕ
numbers_from first zero = []
numbers_from first (suc count) = first ∷ numbers_from (first + 1) count
