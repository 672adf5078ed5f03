-- What a site holds of the ranges of an article that it received.
use Rattle.std.specs.Prelude.{◌≡◌, ℕ, ℤ, pos, ◌+◌, ◌*◌, ◌-◌, ◌≤◌, ◌+ℤ◌, ◌-ℤ◌, ◌≤ℤ◌, Bool, true, All, List, [], ◌∷◌, ◌++◌, length, drop, map, filter, Result, Ok, Err, nat_le, nat_lt, slice_get}
use Rattle.std.specs.Option.{option_map}
use Rattle.std.specs.List.{AllByRecursion}
use Rattle.merge_ident.specs.declared.grants.Range.{Range}
use Rattle.merge_ident.specs.declared.ranges.IdentityUsedUp.{IdentityUsedUp}
use Rattle.merge_ident.specs.declared.ranges.Holding.{Holding}
use Rattle.merge_ident.specs.Grants.{natural}

-- a range that was received, and how many of its values were used, from its begin on
pub record Received : Type 0 where
  pub range : Range
  pub used : ℕ

-- what a site was told of an article and still holds: how many ranges it received, the end of the last one, 0 where there is none, and the ranges with values that it may use, in the order in which they came
pub record Holder : Type 0 where
  pub threshold : ℕ
  pub have : ℕ
  pub last_end : ℤ
  pub held : List Received

-- how many values a range has
abbrev pub size_of : Range → ℕ
size_of range = natural ((range.end +ℤ pos 1) -ℤ range.begin)

abbrev pub range_of : Received → Range
range_of received = received.range

abbrev pub unused : Range → Received
unused range = record { range = range; used = 0 }

-- the first value of a range that was not used
abbrev pub next_of : Received → ℤ
next_of received = received.range.begin +ℤ pos received.used

-- whether a range has a value that was not used
abbrev pub has_values : Received → Bool
has_values received = nat_lt received.used (size_of received.range)

abbrev pub used_once_more : Received → Received
used_once_more received = record received { used = received.used + 1 }

-- the last two members of a list
abbrev pub last_two : {X : Type 0} → List X → List X
last_two xs = drop (length xs - 2) xs

-- no range yet
abbrev pub new_holder : ℕ → Holder
new_holder threshold = record { threshold = threshold; have = 0; last_end = pos 0; held = [] }

-- the next value is that of the first range held
abbrev pub answer_by_held : ℤ → List Received → Result ℤ IdentityUsedUp
answer_by_held last_end [] = Err (record { end = last_end })
answer_by_held last_end (first ∷ rest) = Ok (next_of first)

abbrev pub answer_to_take : Holder → Result ℤ IdentityUsedUp
answer_to_take holder = answer_by_held holder.last_end holder.held

-- one more value of the first range is used, and a used-up range is dropped
abbrev pub held_after_take : List Received → List Received
held_after_take [] = []
held_after_take (first ∷ rest) = filter has_values (used_once_more first ∷ rest)

-- a third range drops the first one with its unused values
abbrev pub held_after_receive : List Received → Range → List Received
held_after_receive held range = last_two (held ++ unused range ∷ [])

abbrev pub after_take : Holder → Holder
after_take holder = record holder { held = held_after_take holder.held }

abbrev pub after_receive : Holder → Range → Holder
after_receive holder range = record { threshold = holder.threshold; have = holder.have + 1; last_end = range.end; held = held_after_receive holder.held range }

-- another range is due where fewer than two are held, or where the used values of the first one reach the threshold, in hundredths of its size
abbrev pub is_due_by : ℕ → List Received → Bool
is_due_by threshold [] = true
is_due_by threshold (only ∷ []) = true
is_due_by threshold (first ∷ second ∷ rest) = nat_le (threshold * size_of first.range) (first.used * 100)

abbrev pub is_due : Holder → Bool
is_due holder = is_due_by holder.threshold holder.held

-- what is told of a holder
abbrev pub holding_of : Holder → Holding
holding_of holder = record {
  have = holder.have;
  next = option_map next_of (slice_get holder.held 0);
  first = option_map range_of (slice_get holder.held 0);
  second = option_map range_of (slice_get holder.held 1);
}

-- a range has values
abbrev pub HasValues : Range → Type 0
HasValues range = range.begin ≤ℤ range.end

-- at most two ranges are held, each with a value that was not used
pub record AreHeld (held : List Received) : Type 0 where
  pub two : length held ≤ 2
  pub values : AllByRecursion (λ received. has_values received ≡ true) held

-- the holder with these ranges, of which the first one's next value is given
abbrev pub held_from : List Range → ℤ → List Received
held_from [] next = []
held_from (first ∷ rest) next = record { range = first; used = natural (next -ℤ first.begin) } ∷ map unused rest

-- the next value lies in the first range, and is 0 where there is none
abbrev pub IsNextIn : List Range → ℤ → Type 0
IsNextIn [] next = next ≡ pos 0
IsNextIn (first ∷ rest) next = (first.begin ≤ℤ next) × (next ≤ℤ first.end)

-- ranges as they are kept: two at most, each with values, and the next value
pub record AreKept (ranges : List Range) (next : ℤ) : Type 0 where
  pub two : length ranges ≤ 2
  pub values : All HasValues ranges
  pub next_in : IsNextIn ranges next
