-- A list of takes and receives goes on by one call, and with it what a site holds.
use Rattle.std.specs.Prelude.{◌≡◌, ◌≤◌, ◌+◌, ◌++◌, ℕ, ℤ, List, [], ◌∷◌, Bool, Result, Ok, Err, refl, count_by, cond}
use Rattle.std.specs.Ordering.{int_eq}
use Rattle.std.proofs.Common.{arith, subst, sym, ap, ◌∙◌}
use Rattle.std.proofs.lemmas.List.Sums.{sum_by-cons}
use Rattle.merge_ident.specs.declared.grants.Grant.{Grant}
use Rattle.merge_ident.specs.declared.grants.Range.{Range}
use Rattle.merge_ident.specs.declared.ranges.RangeEvent.{RangeEvent}
use Rattle.merge_ident.specs.declared.ranges.RangeEvent.TheVariants.{Take, Receive}
use Rattle.merge_ident.specs.declared.ranges.IdentityUsedUp.{IdentityUsedUp}
use Rattle.merge_ident.specs.Grants.{is_in}
use Rattle.merge_ident.specs.Holders.{Holder, new_holder, after_take, after_receive, answer_to_take, HasValues}
use Rattle.merge_ident.specs.Runs.{after_event, answer_to_event, after_all, answers_to, EventFits, EventsFit, have_after, values_in, received_in, times_taken, times_received}
use Rattle.merge_ident.proofs.Taken.{taken_at_most}
use Rattle.merge_model.specs.History.{MadeChange}
use Rattle.merge_laws.specs.Facts.Identities.{takes_at, gives_heard, Held}

-- counts
pub counts-cons : {X : Type 0} (test : X → Bool) (x : X) (xs : List X) → count_by test (x ∷ xs) ≡ cond (test x) 1 0 + count_by test xs
counts-cons {X = X} test x xs = sum_by-cons (λ (y : X). cond (test y) 1 0) x xs

-- one call more, behind the others

all-more : (holder : Holder) (calls : List RangeEvent) (call : RangeEvent) → after_all holder (calls ++ call ∷ []) ≡ after_event (after_all holder calls) call
all-more holder [] call = refl
all-more holder (first ∷ calls) call = all-more (after_event holder first) calls call

values-more : (value : ℤ) (xs ys : List (Result ℤ IdentityUsedUp)) → count_by (int_eq value) (values_in (xs ++ ys)) ≡ count_by (int_eq value) (values_in xs) + count_by (int_eq value) (values_in ys)
values-more value [] ys = omega arith
values-more value (Ok x ∷ xs) ys = omega (arith, values-more value xs ys, counts-cons (int_eq value) x (values_in (xs ++ ys)), counts-cons (int_eq value) x (values_in xs))
values-more value (Err used_up ∷ xs) ys = values-more value xs ys

taken-more : (value : ℤ) (holder : Holder) (calls : List RangeEvent) (call : RangeEvent)
    → times_taken value holder (calls ++ call ∷ []) ≡ times_taken value holder calls + count_by (int_eq value) (values_in (answer_to_event (after_all holder calls) call))
taken-more value holder [] call = values-more value (answer_to_event holder call) []
    ∙ omega arith
taken-more value holder (first ∷ calls) call =
    omega (arith, values-more value (answer_to_event holder first) (answers_to (after_event holder first) (calls ++ call ∷ [])), values-more value (answer_to_event holder first) (answers_to (after_event holder first) calls), taken-more value (after_event holder first) calls call)

received-more : (value : ℤ) (calls : List RangeEvent) (number : ℕ) (range : Range) → times_received value (received_in (calls ++ Receive number range ∷ [])) ≡ times_received value (received_in calls) + cond (is_in value range) 1 0
received-more value [] number range = counts-cons (is_in value) range []
    ∙ omega arith
received-more value (Take ∷ calls) number range = received-more value calls number range
received-more value (Receive k other ∷ calls) number range =
    omega (arith, received-more value calls number range, counts-cons (is_in value) other (received_in (calls ++ Receive number range ∷ [])), counts-cons (is_in value) other (received_in calls))

received-taking : (calls : List RangeEvent) → received_in (calls ++ Take ∷ []) ≡ received_in calls
received-taking [] = refl
received-taking (Take ∷ calls) = received-taking calls
received-taking (Receive number range ∷ calls) = ap (λ (rs : List Range). range ∷ rs) (received-taking calls)

abbrev heard_after : ℕ → List RangeEvent → ℕ
heard_after have [] = have
heard_after have (call ∷ calls) = heard_after (have_after have call) calls

fit-more : (have : ℕ) (calls : List RangeEvent) (call : RangeEvent) → EventsFit have calls → EventFits (heard_after have calls) call → EventsFit have (calls ++ call ∷ [])
fit-more have [] call fits last = (last, tt)
fit-more have (first ∷ calls) call fits last = (fits.0, fit-more (have_after have first) calls call fits.1 last)

-- What a site holds goes on.

-- nothing was received
pub nothing-held : (site article threshold : ℕ) → Held [] [] site article (new_holder threshold)
nothing-held site article threshold = record { calls = []; fit = tt; left = refl; taken = λ value. refl; received = λ value. omega arith }

-- with other lists, of which the counts are as before, or more grants
pub held-with : (grants more : List Grant) (made after : List MadeChange) (site article : ℕ) (holder : Holder) → ((test : Grant → Bool) → count_by test grants ≤ count_by test more)
    → ((value : ℤ) → count_by (takes_at site article value) after ≡ count_by (takes_at site article value) made) → Held grants made site article holder → Held more after site article holder
held-with grants more made after site article holder grow same k = record {
  calls = k.calls;
  fit = k.fit;
  left = k.left;
  taken = λ value. same value ∙ k.taken value;
  received = λ value. omega (arith, k.received value, grow (gives_heard site article holder.have value));
}

-- a value is taken
one-value : (value x : ℤ) → count_by (int_eq value) (x ∷ []) ≡ cond (int_eq value x) 1 0
one-value value x = counts-cons (int_eq value) x [] ∙ omega arith

pub held-take : (grants : List Grant) (made after : List MadeChange) (site article : ℕ) (holder : Holder) (taken : ℤ) → answer_to_take holder ≡ Ok taken
    → ((value : ℤ) → count_by (takes_at site article value) after ≡ count_by (takes_at site article value) made + cond (int_eq value taken) 1 0) → Held grants made site article holder → Held grants after site article (after_take holder)
held-take grants made after site article holder taken answers more k =
    let first : Holder = new_holder holder.threshold in
    let answer : answer_to_take (after_all first k.calls) ≡ Ok taken = ap answer_to_take k.left ∙ answers in
    record {
      calls = k.calls ++ Take ∷ [];
      fit = fit-more 0 k.calls Take k.fit tt;
      left = all-more first k.calls Take ∙ ap after_take k.left;
      taken = λ value. (let told : count_by (int_eq value) (values_in (answer_to_take (after_all first k.calls) ∷ [])) ≡ cond (int_eq value taken) 1 0 = ap (λ (a : Result ℤ IdentityUsedUp). count_by (int_eq value) (values_in (a ∷ []))) answer ∙ one-value value taken in
          omega (arith, more value, k.taken value, taken-more value first k.calls Take, told));
      received = λ value. subst (λ (rs : List Range). times_received value rs ≤ count_by (gives_heard site article holder.have value) grants) (sym (received-taking k.calls)) (k.received value);
    }

-- a range is received
pub held-receive : (grants more : List Grant) (made : List MadeChange) (site article : ℕ) (holder : Holder) (range : Range) → HasValues range
    → ((value : ℤ) → count_by (gives_heard site article holder.have value) grants + cond (is_in value range) 1 0 ≤ count_by (gives_heard site article (holder.have + 1) value) more)
    → Held grants made site article holder → Held more made site article (after_receive holder range)
held-receive grants more made site article holder range some grow k =
    let first : Holder = new_holder holder.threshold in
    let number : ℕ = heard_after 0 k.calls + 1 in
    record {
      calls = k.calls ++ Receive number range ∷ [];
      fit = fit-more 0 k.calls (Receive number range) k.fit (refl, some);
      left = all-more first k.calls (Receive number range) ∙ ap (λ (h : Holder). after_receive h range) k.left;
      taken = λ value. omega (arith, k.taken value, taken-more value first k.calls (Receive number range));
      received = λ value. omega (arith, k.received value, received-more value k.calls number range, grow value);
    }

-- What was taken was granted.
pub held-granted : (grants : List Grant) (made : List MadeChange) (site article : ℕ) (holder : Holder) (value : ℤ) → Held grants made site article holder
    → count_by (takes_at site article value) made ≤ count_by (gives_heard site article holder.have value) grants
held-granted grants made site article holder value k =
    let most = taken_at_most (new_holder holder.threshold) k.calls (record { two = omega arith; values = tt }) k.fit value in
    omega (arith, k.taken value, most, k.received value)
