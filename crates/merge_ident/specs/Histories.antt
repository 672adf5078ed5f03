-- A site's history of an article: the ranges that it received, the last one first, each with how many of its values were used.
use Rattle.std.specs.Prelude.{ℕ, ℤ, pos, if◌then◌else◌, List, [], ◌∷◌, length, filter}
use Rattle.merge_ident.specs.declared.ranges.RangeEvent.{RangeEvent}
use Rattle.merge_ident.specs.declared.ranges.RangeEvent.TheVariants.{Take, Receive}
use Rattle.merge_ident.specs.Holders.{Received, Holder, unused, has_values, used_once_more}

-- one more value of a range is used, if it has one
abbrev pub use_if_any : Received → Received
use_if_any received = if has_values received then used_once_more received else received

-- a take uses a value of the first of the last two ranges that has one
abbrev pub history_after_take : List Received → List Received
history_after_take [] = []
history_after_take (only ∷ []) = use_if_any only ∷ []
history_after_take (last ∷ before ∷ older) = if has_values before then last ∷ used_once_more before ∷ older else use_if_any last ∷ before ∷ older

abbrev pub history_after : List Received → List RangeEvent → List Received
history_after history [] = history
history_after history (Take ∷ events) = history_after (history_after_take history) events
history_after history (Receive number range ∷ events) = history_after (unused range ∷ history) events

-- held are those of the last two ranges that have a value that was not used
abbrev pub held_of : List Received → List Received
held_of [] = []
held_of (only ∷ []) = filter has_values (only ∷ [])
held_of (last ∷ before ∷ older) = filter has_values (before ∷ last ∷ [])

abbrev pub last_end_of : List Received → ℤ
last_end_of [] = pos 0
last_end_of (last ∷ older) = last.range.end

abbrev pub holder_of : ℕ → List Received → Holder
holder_of threshold history = record { threshold = threshold; have = length history; last_end = last_end_of history; held = held_of history }
