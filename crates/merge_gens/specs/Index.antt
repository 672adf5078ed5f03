-- Rows by generation.
use Rattle.std.specs.Prelude.{◌≡◌, ℕ, ◌*◌, ◌<◌, ◌≤◌, ◌↔◌, IsTrue, List, [], ◌∷◌, ◌++◌, Contains, length, map, nat_le, refl}
use Rattle.std.specs.Coded.{Coded, code_by, coded×, coded_list}
use Rattle.std.specs.List.Sorted.{IsStrictlySortedBy}
use Rattle.std.specs.FinSet as set
use Rattle.merge_types.specs.declared.row_key.RowKey.{RowKey}
use Rattle.merge_table.specs.declared.edit.Edit.{Edit}
use Rattle.merge_table.specs.declared.edit.Edit.TheVariants.{Put, Take}
use Rattle.merge_gens.specs.declared.index.IndexEntry.{IndexEntry}
use Rattle.merge_gens.specs.Entries.{entry_cmp, entry_code, entry_of, is_between, row_of}

-- a set of entries, and the entries that the memory is there for
pub record Index : Type 0 where
  pub entries : set.FinSet entry_cmp
  pub slots : List IndexEntry

-- an index is stored as its two parts
abbrev pub index_code : Coded Index
index_code = code_by (set.FinSet entry_cmp × List IndexEntry) (coded× (set.code entry_code) (coded_list entry_code)) (λ i. (i.entries, i.slots)) (λ p. record { entries = p.0; slots = p.1 }) (λ _. refl)

-- the memory that is kept is at most for twice the entries that there are
abbrev pub IsCompact : Index → Type 0
IsCompact index = length index.slots ≤ 2 * set.len index.entries

-- the row has a generation behind one, up to another
abbrev pub HasBetween : set.FinSet entry_cmp → ℕ → ℕ → RowKey → Type 0
HasBetween entries from to key = (generation : ℕ) × (from < generation) × (generation ≤ to) × IsTrue (set.contains entries (entry_of generation key))

-- behind a list stand the rows of the entries between, in the order of these entries: a row with several of the generations stands there as often
pub record AddsRowsBetween (entries : set.FinSet entry_cmp) (from to : ℕ) (old new : List RowKey) : Type 0 where
  pub between : List IndexEntry
  pub ascending : IsStrictlySortedBy entry_cmp between
  pub each : (entry : IndexEntry) → Contains between entry ↔ (IsTrue (is_between from to entry) × IsTrue (set.contains entries entry))
  pub added : new ≡ old ++ map row_of between

-- the entries of a generation and of those behind it, in order
pub record AreFrom (entries : set.FinSet entry_cmp) (first : ℕ) (from : List IndexEntry) : Type 0 where
  pub ascending : IsStrictlySortedBy entry_cmp from
  pub each : (entry : IndexEntry) → Contains from entry ↔ (IsTrue (nat_le first entry.generation) × IsTrue (set.contains entries entry))

-- the entries after one change, and after all of them in order
abbrev pub entries_after : set.FinSet entry_cmp → Edit IndexEntry (Unit {0}) → set.FinSet entry_cmp
entries_after entries (Put entry _) = set.insert entries entry
entries_after entries (Take entry) = set.remove entries entry

abbrev pub entries_after_all : set.FinSet entry_cmp → List (Edit IndexEntry (Unit {0})) → set.FinSet entry_cmp
entries_after_all entries [] = entries
entries_after_all entries (change ∷ changes) = entries_after_all (entries_after entries change) changes
