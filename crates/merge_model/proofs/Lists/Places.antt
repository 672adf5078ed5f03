-- A subscriber's tables in the list of a world.
use Rattle.std.proofs.Common.{◌≡◌, ◌<◌, ℕ, zero, suc, List, [], ◌∷◌, Some, length, get_or, map, set, arith}
use Rattle.std.proofs.lemmas.Bool.Decides.{nat_tests}
use Rattle.merge_model.specs.Tables.Keys.{at_number, put_number}
use Rattle.merge_model.specs.Tables.{SubscriberTables}

module _ {S : Type 0} (f : S → SubscriberTables) where
  abbrev entry : S → ℕ × SubscriberTables
  entry s = ((f s).site.0, f s)

  -- put where it stands: all before it have lesser numbers
  pub put-in-place : (ss : List S) (i : ℕ) (s' : S) → i < length ss → (f (get_or ss i s')).site.0 ≡ (f s').site.0 → ((k : ℕ) → k < i → (f (get_or ss k s')).site.0 < (f s').site.0)
      → put_number (map entry ss) (f s').site.0 (f s') ≡ map entry (set ss i s')
  put-in-place [] i s' lt same before = absurd (omega (arith, lt))
  put-in-place (x ∷ ss) zero s' lt same before = grind (arith, nat_tests, same)
  put-in-place (x ∷ ss) (suc i) s' lt same before =
      let first : (f x).site.0 < (f s').site.0 = before 0 (omega arith) in
      let rest = put-in-place ss i s' (omega (arith, lt)) same (λ k less. before (suc k) (omega (arith, less))) in
      grind (arith, nat_tests, first, rest)

  pub found-in-place : (ss : List S) (i : ℕ) (s' : S) → i < length ss → ((k : ℕ) → k < i → (f (get_or ss k s')).site.0 < (f (get_or ss i s')).site.0)
      → at_number (map entry ss) (f (get_or ss i s')).site.0 ≡ Some (f (get_or ss i s'))
  found-in-place [] i s' lt before = absurd (omega (arith, lt))
  found-in-place (x ∷ ss) zero s' lt before = grind (arith, nat_tests)
  found-in-place (x ∷ ss) (suc i) s' lt before =
      let first : (f x).site.0 < (f (get_or ss i s')).site.0 = before 0 (omega arith) in
      let rest = found-in-place ss i s' (omega (arith, lt)) (λ k less. before (suc k) (omega (arith, less))) in
      grind (arith, nat_tests, first, rest)
