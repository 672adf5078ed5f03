-- The two ranges of a site as they are kept: the first with how many of its values were used.
use Rattle.std.specs.Prelude.{◌≡◌, ℕ, ◌<◌, List, [], ◌∷◌, refl}
use Rattle.merge_ident.specs.declared.grants.Range.{Range}
use Rattle.merge_ident.specs.declared.slots.Slots.{Slots}
use Rattle.merge_ident.specs.declared.slots.Slots.TheVariants.{Empty, One, Two}
use Rattle.merge_ident.specs.Holders.{Received, size_of, unused, HasValues}

abbrev pub held_in : Slots → List Received
held_in Empty = []
held_in (One range used) = record { range = range; used = used } ∷ []
held_in (Two first used second) = record { range = first; used = used } ∷ unused second ∷ []

-- the slots that hold these ranges
abbrev pub slots_from : List Received → Slots
slots_from [] = Empty
slots_from (first ∷ []) = One first.range first.used
slots_from (first ∷ second ∷ rest) = Two first.range first.used second.range

-- slots come back from what they hold
pub slots_back : (slots : Slots) → slots_from (held_in slots) ≡ slots
slots_back Empty = refl
slots_back (One range used) = refl
slots_back (Two first used second) = refl

-- each range has values, and the first has one that was not used
abbrev pub AreSlots : Slots → Type 0
AreSlots Empty = Unit {0}
AreSlots (One range used) = HasValues range × (used < size_of range)
AreSlots (Two first used second) = HasValues first × (used < size_of first) × HasValues second
