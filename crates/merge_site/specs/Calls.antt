-- What a call of a kept site may do.
use Rattle.std.specs.Prelude.{Bool, Err, IfOk, None, Ok, Option, Result, Some, true, ℕ, ◌+◌, ◌≡◌, ◌≤◌, ◌⊎◌}
use Rattle.merge_batch.specs.declared.refusal.Refusal.{Refusal}
use Rattle.merge_batch.specs.declared.refusal.Refusal.TheVariants as refusal

-- why a commit is not made: memory was wanting, and no fault is counted; or the store failed, which is counted
abbrev pub StopsAs : Refusal → ℕ → ℕ → Type 0
StopsAs why before after = (why ≡ refusal.NoMemory) × (after ≡ before) ⊎ (why ≡ refusal.StoreFault) × (before + 1 ≤ after)

-- a step that is refused is so by the definition, or memory was wanting
abbrev pub IsRefused : {R : Type 0} → Result R Refusal → Refusal → Type 0
IsRefused by why = (why ≡ refusal.NoMemory) ⊎ (by ≡ Err why)

-- A step was worked out on the tables `s`, by its definition: what it makes, or why not.
pub record WorkedOut {D R : Type 0} (made : D → R) (by : Result R Refusal) (worked : Result D Refusal) : Type 0 where
  pub done : IfOk worked (λ d. by ≡ Ok (made d))
  pub refused : (why : Refusal) → worked ≡ Err why → IsRefused by why
