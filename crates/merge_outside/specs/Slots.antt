-- Keepers that are kept while their stores are not open, each under its site and path.
use Rattle.std.specs.Prelude.{◌≡◌, ℕ, ◌<◌, ◌==◌, ◌&&◌, Bool, List, [], ◌∷◌, length, bytes_eq}
use Rattle.std.specs.List.{find, position_or_len}
use Rattle.std.specs.declared.option.Option.{Option}
use Rattle.std.specs.declared.option.Option.TheVariants.{None, Some}
use Rattle.merge_types.specs.declared.identifiers.SiteId.{SiteId}
use Rattle.merge_ports.specs.Entries.{Map}
use Rattle.merge_outside.specs.declared.slots.Slot.{Slot}

-- the slot is that of a store
abbrev pub is_slot : {K : Type 0} → SiteId → List ℕ → Slot K → Bool
is_slot site path slot = (slot.site.0 == site.0) && bytes_eq slot.path path

abbrev pub kept_by : {K : Type 0} → Option (Slot K) → Option K
kept_by None = None
kept_by (Some slot) = slot.kept

-- what is kept of a store
abbrev pub kept_in : {K : Type 0} → List (Slot K) → SiteId → List ℕ → Option K
kept_in slots site path = kept_by (find (is_slot site path) slots)

-- there is a slot for a store
abbrev pub HasSlot : {K : Type 0} → List (Slot K) → SiteId → List ℕ → Type 0
HasSlot slots site path = position_or_len (is_slot site path) slots < length slots

-- every slot is still there
abbrev pub KeepsSlots : {K : Type 0} → List (Slot K) → List (Slot K) → Type 0
KeepsSlots old new = (s : SiteId) (p : List ℕ) → HasSlot old s p → HasSlot new s p

-- the same is kept of all stores but one
abbrev pub KeepsOthers : {K : Type 0} → SiteId → List ℕ → List (Slot K) → List (Slot K) → Type 0
KeepsOthers site path old new = (s : SiteId) (p : List ℕ) → ((s ≡ site) × (p ≡ path) → ⊥) → kept_in new s p ≡ kept_in old s p

-- what is told of a store of which nothing is kept: one in memory starts empty, one in a file tells nothing
abbrev pub told_unkept : List ℕ → Option Map
told_unkept [] = Some []
told_unkept (byte ∷ path) = None

abbrev pub told_or : {K : Type 0} → (K → Option Map) → Option Map → Option K → Option Map
told_or told unkept None = unkept
told_or told unkept (Some keeper) = told keeper

abbrev pub told_in : {K : Type 0} → (K → Option Map) → List (Slot K) → SiteId → List ℕ → Option Map
told_in told slots site path = told_or told (told_unkept path) (kept_in slots site path)
