-- What a call did: it made its step, it was refused, or its commit failed.
use Rattle.std.proofs.Common.{◌≡◌, ◌||◌, ℕ, Bool, true, false, nat_lt, inl, inr, ap, refl, subst, sym, arith}
use Rattle.std.specs.Prelude.{Err, IfOk, Ok, Option, Result, Some}
use Rattle.std.proofs.lemmas.Bool.Decides.{nat_tests}
use Rattle.std.proofs.lemmas.Result.{IfOk-at_ok}
use Rattle.merge_batch.specs.declared.refusal.Refusal.{Refusal}
use Rattle.merge_batch.specs.declared.refusal.Refusal.TheVariants as refusal
use Rattle.merge_model.specs.World.Calls.{Called, message_commits, message_or_none}
use Rattle.merge_site.specs.Calls.{IsRefused, StopsAs}

module _ {T A : Type 0} (by : Result (T × A) Refusal) (commits : A → Bool) (old new : T) (before after : ℕ) where
  pub called-refused : (why : Refusal) → IsRefused by why → new ≡ old → after ≡ before → Called by commits old new before after (Err why)
  called-refused why (inl starved) same still = (same, inr (inl (starved, still)))
  called-refused why (inr refused) same still = (same, inl (refused, still))

  pub called-stopped : (why : Refusal) (done : T × A) → by ≡ Ok done → commits done.1 ≡ true → StopsAs why before after → new ≡ old → Called by commits old new before after (Err why)
  called-stopped why done is makes (inl starved) same = (same, inr (inl starved))
  called-stopped why done is makes (inr failed) same = (same, inr (inr (failed.0, (done, is, makes), failed.1)))

-- a fact that holds of every value
pub ok-all : {X E : Type 0} {P : X → Type 0} (result : Result X E) → ((x : X) → P x) → IfOk result P
ok-all (Ok x) all = all x
ok-all (Err e) all = tt

-- and one that holds of the same
pub ok-same : {X E T : Type 0} (f : X → T) (P : T → Type 0) (result : Result X E) (t : T) → P t → IfOk result (λ x. f x ≡ t) → IfOk result (λ x. P (f x))
ok-same f P (Ok x) t holds is = subst P (sym is) holds
ok-same f P (Err e) t holds is = tt

-- where a closing commits nothing, nothing is filled
pub none-filled : (later : Bool) (filled : ℕ) → (later || nat_lt 0 filled) ≡ false → filled ≡ 0
none-filled true filled quiet = absurd cc
none-filled false filled quiet = grind (arith, nat_tests, quiet)

-- a draft was worked out, and its commit failed
pub stopped : {X T A : Type 0} (f : X → T) (by : Result (T × A) Refusal) (of : A → Bool) (commits : Bool) (worked : Result (X × A) Refusal) (x : X) (a : A) (old new : T) (before after : ℕ) (why : Refusal)
    → IfOk worked (λ m. by ≡ Ok (f m.0, m.1)) → IfOk worked (λ m. commits ≡ true → of m.1 ≡ true) → worked ≡ Ok (x, a) → commits ≡ true → StopsAs why before after → new ≡ old → Called by of old new before after (Err why)
stopped f by of commits worked x a old new before after why done makes was committed stops same =
    called-stopped by of old new before after why (f x, a) (IfOk-at_ok (λ m. by ≡ Ok (f m.0, m.1)) was done) (IfOk-at_ok (λ m. commits ≡ true → of m.1 ≡ true) was makes committed) stops same

-- a message was worked out, and its commit failed
pub message-stopped : {T A : Type 0} (by : Result (Option (T × A)) Refusal) (old new made : T) (message : A) (before after : ℕ) (why : Refusal)
    → by ≡ Ok (Some (made, message)) → StopsAs why before after → new ≡ old → Called (message_or_none old by) message_commits old new before after (Err why)
message-stopped {T = T} {A = A} by old new made message before after why is stops same =
    called-stopped (message_or_none old by) message_commits old new before after why (made, Some message) (ap (λ (r : Result (Option (T × A)) Refusal). message_or_none old r) is) refl stops same
