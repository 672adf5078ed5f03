-- Calls that find no memory, and do nothing.
use Rattle.std.proofs.Common.{Bool, Err, List, Result, inl, inr, refl, ℕ}
use Rattle.merge_batch.specs.declared.refusal.Refusal.{Refusal}
use Rattle.merge_batch.specs.declared.refusal.Refusal.TheVariants as refusal
use Rattle.merge_model.specs.World.Calls.{Called, Counted}

pub called-not : {T A : Type 0} (by : Result (T × A) Refusal) (commits : A → Bool) (t : T) (n : ℕ) → Called by commits t t n n (Err refusal.NoMemory)
called-not by commits t n = (refl, inr (inl (refl, refl)))

pub counted-not : {T A Q : Type 0} (by : Result (T × A) Refusal) (questions : List (ℕ × Q)) (tallies : List ℕ) → Counted by questions tallies tallies (Err refusal.NoMemory)
counted-not by questions tallies = ((0, refl), λ other is. refl)
