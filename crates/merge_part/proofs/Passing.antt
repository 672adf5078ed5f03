-- How the subscribers of whose hosts a filter is true are found, one after another.
use Rattle.std.proofs.Common.{◌≡◌, ◌≤◌, ◌+◌, ℕ, Bool, true, false, ◌||◌, ◌&&◌, List, length, refl, sym, ap, ◌∙◌, arith}
use Rattle.std.specs.Prelude.{◌==◌, nat_lt}
use Rattle.std.proofs.lemmas.Bool.Decides.{nat_tests}
use Rattle.std.proofs.lemmas.Option.{slice_get_past}
use Rattle.merge_types.specs.declared.values.Value.{Value}
use Rattle.merge_filter.specs.Syntax.{Syntax}
use Rattle.merge_schema.specs.declared.publication.Subscription.{Subscription}
use Rattle.merge_part.specs.Filtering.{passes_at, true_for}

passed_twice : (lower passes : Bool) → (passes || (lower && passes)) ≡ passes
passed_twice lower true = refl
passed_twice true false = refl
passed_twice false false = refl

pass_tests : (lower same upper passes truth : Bool) → (same ≡ true → passes ≡ truth) → (same || lower) ≡ upper → ((same && truth) || (lower && passes)) ≡ (upper && passes)
pass_tests lower true upper passes truth is tests = let all : true ≡ upper = tests in rw (sym (is refl), ← all) (passed_twice lower passes)
pass_tests lower false upper passes truth is tests = ap (λ b. b && passes) tests

below_next : (other place : ℕ) → (other == place || nat_lt other place) ≡ nat_lt other (place + 1)
below_next other place = grind (arith, nat_tests)

pub passing_next : (filter : Syntax) (subscriptions : List Subscription) (values : List Value) (place other : ℕ) (truth : Bool) → passes_at filter subscriptions values place ≡ truth
    → ((other == place && truth) || (nat_lt other place && passes_at filter subscriptions values other)) ≡ (nat_lt other (place + 1) && passes_at filter subscriptions values other)
passing_next filter subscriptions values place other truth is =
    pass_tests (nat_lt other place) (other == place) (nat_lt other (place + 1)) (passes_at filter subscriptions values other) truth
    (λ same. let e : other ≡ place = grind (arith, nat_tests) in ap (passes_at filter subscriptions values) e ∙ is) (below_next other place)

past_all : (filter : Syntax) (subscriptions : List Subscription) (values : List Value) (count other : ℕ) → length subscriptions ≤ count → (b : Bool) → nat_lt other count ≡ b
    → (b && passes_at filter subscriptions values other) ≡ passes_at filter subscriptions values other
past_all filter subscriptions values count other all true is = refl
past_all filter subscriptions values count other all false is =
    let past : length subscriptions ≤ other = grind (arith, nat_tests) in sym (ap (true_for filter values) (slice_get_past subscriptions other past))

pub passing_all : (filter : Syntax) (subscriptions : List Subscription) (values : List Value) (count other : ℕ) → length subscriptions ≤ count
    → (nat_lt other count && passes_at filter subscriptions values other) ≡ passes_at filter subscriptions values other
passing_all filter subscriptions values count other all = past_all filter subscriptions values count other all (nat_lt other count) refl
