-- What contracts see of a keeper in memory, and what its calls make of it.
use Rattle.std.specs.Prelude.{◌≡◌, ℕ, Bool, true, false, ◌||◌, ◌==◌, if◌then◌else◌, ◌⊎◌, List, find, is_some}
use Rattle.std.specs.declared.option.Option.{Option}
use Rattle.std.specs.declared.option.Option.TheVariants.{None, Some}
use Rattle.std.specs.Option.{option_map}
use Rattle.merge_ports.specs.Entries.{Map, map_after}
use Rattle.merge_ports.specs.Faults.{is_listed, one_more}
use Rattle.merge_ports.specs.declared.entry.EntryEdit.{EntryEdit}
use Rattle.merge_keeper.specs.declared.memory.Stop.{Stop}

-- the map that it tells, what a stop left, the calls that fail and the commits that stop, and what was counted
pub record Kept : Type 0 where
  pub map : Map
  pub left : Map
  pub failing : List ℕ
  pub stops : List Stop
  pub calls : ℕ
  pub count : ℕ
  pub is_stopped : Bool

-- whether the commit with this number stops, and then whether its edits are made before
abbrev pub stop_at : List Stop → ℕ → Option Bool
stop_at stops call = option_map (λ stop. stop.is_after) (find (λ stop. stop.call == call) stops)

-- a call fails from a stop on, and where it is listed
abbrev pub is_refused : Kept → Bool
is_refused k = k.is_stopped || is_listed k.failing k.calls

-- and a commit where it stops
abbrev pub commit_fails : Kept → Bool
commit_fails k = is_refused k || is_some (stop_at k.stops k.calls)

-- a call was counted
abbrev pub after_call : Kept → Kept
after_call k = record k { calls = one_more k.calls }

-- a fault was counted
abbrev pub with_fault : Kept → Kept
with_fault k = record k { count = one_more k.count }

abbrev pub after_load : Kept → Kept
after_load k = if is_refused k then with_fault (after_call k) else after_call k

-- the edits are made
abbrev pub with_edits : List EntryEdit → Kept → Kept
with_edits edits k = record k { map = map_after edits k.map; left = map_after edits k.map }

-- a stop leaves the map from before the edits, or the map from after them, and tells the one from before
abbrev pub with_stop : Bool → List EntryEdit → Kept → Kept
with_stop is_after edits k = record k { left = (if is_after then map_after edits k.map else k.map); is_stopped = true }

abbrev pub after_stop : Option Bool → List EntryEdit → Kept → Kept
after_stop None edits k = with_edits edits k
after_stop (Some is_after) edits k = with_fault (with_stop is_after edits k)

-- what a commit makes of the keeper where there is memory
abbrev pub after_commit : List EntryEdit → Kept → Kept
after_commit edits k = if is_refused k then with_fault (after_call k) else after_stop (stop_at k.stops k.calls) edits (after_call k)

-- what is left is as before the commit, or as after it
abbrev pub IsLeft : List EntryEdit → Kept → Kept → Type 0
IsLeft edits old new = (new.left ≡ old.left) ⊎ (new.left ≡ map_after edits old.left)
