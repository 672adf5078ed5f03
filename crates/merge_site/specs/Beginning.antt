-- A site begins at a store that has no entry.
use Rattle.std.specs.Prelude.{IfSome, List, Option, [], ℕ, ◌∷◌, ◌≡◌, ◌⊎◌}
use Rattle.merge_batch.specs.declared.refusal.Refusal.{Refusal}
use Rattle.merge_ports.specs.Entries.{Map}
use Rattle.merge_ports.specs.declared.entry.EntryKey.{EntryKey}
use Rattle.merge_site.specs.Calls.{StopsAs}
use Rattle.merge_site.specs.Loading.{damage}

-- nothing is stored, where the keeper tells it
abbrev pub IsEmptyStore : Option Map → Type 0
IsEmptyStore told = IfSome told (λ (map : Map). map ≡ [])

-- the first of these entries has this key
abbrev pub BeginsAt : EntryKey → Map → Type 0
BeginsAt key map = (value : List ℕ) × (rest : Map) × (map ≡ (key, value) ∷ rest)

-- the first entry of a store has this key, where the keeper tells it
abbrev pub IsFirstKey : EntryKey → Option Map → Type 0
IsFirstKey key told = IfSome told (BeginsAt key)

-- the store is told to be damaged at its first entry
abbrev pub NamesEntry : Refusal → Option Map → Type 0
NamesEntry why told = (key : EntryKey) × (why ≡ damage key) × IsFirstKey key told

-- why a site does not begin: memory was wanting, or the store could not be read, which is counted; or it has entries, the first of
-- which is named, and no fault is counted
abbrev pub StartsNot : Refusal → Option Map → ℕ → ℕ → Type 0
StartsNot why told before after = StopsAs why before after ⊎ (after ≡ before) × NamesEntry why told
