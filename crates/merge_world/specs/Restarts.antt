-- What a restart of a site does.
use Rattle.std.specs.Prelude.{Contains, Err, List, Ok, Result, ℕ, ◌+◌, ◌≡◌, ◌≤◌, ◌⊎◌}
use Rattle.merge_types.specs.declared.identifiers.SiteId.{SiteId}
use Rattle.merge_batch.specs.declared.refusal.Refusal.{Refusal}
use Rattle.merge_batch.specs.declared.refusal.Refusal.TheVariants.{Damaged, NoMemory, StoreFault}

-- the site is not seen again: its store cannot be read, which is counted, or its records are damaged
abbrev pub IsLost : Refusal → ℕ → ℕ → Type 0
IsLost why before after = ((why ≡ StoreFault) × (before + 1 ≤ after)) ⊎ (((table : ℕ) × (key : List ℕ) × (why ≡ Damaged table key)) × (before ≤ after))

-- its tables are as they were, however it ends, and no fault is counted where it is seen again or memory is wanting
abbrev pub RestartEnds : {T : Type 0} → T → T → ℕ → ℕ → Result Unit Refusal → Type 0
RestartEnds old new before after (Ok done) = (new ≡ old) × (after ≡ before)
RestartEnds old new before after (Err why) = (new ≡ old) × ((why ≡ NoMemory) × (after ≡ before) ⊎ IsLost why before after)

-- the record with this key is damaged in the store of a site: of the publisher, which is 0, or of the subscriber with its number
pub record IsDamagedAt {P S : Type 0} (publisher : P → ℕ → List ℕ → Type 0) (subscriber : S → ℕ → List ℕ → Type 0) (number : S → ℕ) (p : P) (subscribers : List S) (site : SiteId) (table : ℕ) (key : List ℕ) : Type 0 where
  pub damage : ((site.0 ≡ 0) × publisher p table key) ⊎ ((s : S) × Contains subscribers s × (number s ≡ site.0) × subscriber s table key)
