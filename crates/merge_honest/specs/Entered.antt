-- How many entries of the publisher stand in a generation, so that what was touched in one generation fits into a reply.
use Rattle.std.specs.Prelude.{Bool, List, count_by, false, true, ℕ, ◌&&◌, ◌+◌, ◌<◌, ◌==◌, ◌≡◌, ◌≤◌}
use Rattle.merge_types.specs.Limits.{entry_limit}
use Rattle.merge_gens.specs.declared.filling.Filling.{Filling}
use Rattle.merge_model.specs.History.{Changed, EnteredFor, GoneFor, History, LeftFor, Line, LineKind}
use Rattle.merge_model.specs.World.{World}

-- a row that changed and one that moved are entries. That a leaving is no longer told is none
abbrev pub is_entry : LineKind → Bool
is_entry kind = elim kind [
  | Changed ↦ true
  | EnteredFor site ↦ true
  | LeftFor site ↦ true
  | GoneFor site ↦ false
]

abbrev pub stands_in : ℕ → Line → Bool
stands_in generation line = is_entry line.kind && (line.generation == generation)

abbrev pub entries_in : List Line → ℕ → ℕ
entries_in lines generation = count_by (stands_in generation) lines

-- no generation has more entries than fill one, the open one has as many as its filling says, and none is behind it
pub record Fills (counted : ℕ → ℕ) (filling : Filling) : Type 0 where
  pub few : (generation : ℕ) → counted generation ≤ entry_limit
  pub entered : counted (filling.last_closed + 1) ≡ filling.filled
  pub behind : (generation : ℕ) → filling.last_closed + 1 < generation → counted generation ≡ 0

abbrev pub EntriesFill : World → History → Type 0
EntriesFill w h = Fills (entries_in h.lines) w.publisher.gens.filling
