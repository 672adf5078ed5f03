-- Names of which none stood before are distinct.
use Rattle.std.proofs.Common.{◌≡◌, ◌≢◌, ℕ, Bool, true, false, cond, inl, inr, List, [], ◌∷◌, ◌++◌, Option, Some, None, bytes_eq, Result, Ok, Err, refl, sym, ◌∙◌, arith}
use Rattle.std.specs.List.{Contains}
use Rattle.std.proofs.lemmas.Bool.{false≢true}
use Rattle.std.proofs.lemmas.List.Elements.{Contains-append_left, Contains-append_right}
use Rattle.std.proofs.lemmas.List.Kept.{AllPairs-cons}
use Rattle.std.proofs.lemmas.Slice.Eq.{bytes_eq-Decides}
use Rattle.merge_schema.specs.declared.fault.SchemaFault.{SchemaFault}
use Rattle.merge_schema.specs.declared.fault.SchemaFault.TheVariants.{Duplicate}
use Rattle.merge_schema.specs.Checks.{distinct, not_repeated}
use Rattle.merge_schema.specs.Lookups.{stands_in, repeated_behind, first_repeated}
use Rattle.merge_schema.specs.Valid.{AreDistinct}
use Rattle.merge_schema.proofs.ListMembers.{any_at, contains_cases, contains_none}
use Rattle.merge_schema.proofs.Searches.{all_members}

-- names that are distinct, and none of which is among those before
abbrev AreNew : List (List ℕ) → List (List ℕ) → Type 0
AreNew before names = AreDistinct names × ((x y : List ℕ) → Contains before x → Contains names y → x ≢ y)

some_not : (x : List ℕ) → Some x ≡ None → ⊥
some_not x h = cc

first : (x : List ℕ) (xs : List (List ℕ)) → Contains (x ∷ xs) x
first x xs = (0, omega arith, refl)

all_new : (before names : List (List ℕ)) → repeated_behind before names ≡ None → AreNew before names
all_new before [] h = ((λ i j d lower less. absurd (omega arith)), (λ x y inside there same. contains_none y there))
all_new before (name ∷ names) h = by (stands_in before name) refl h (all_new (before ++ name ∷ []) names)
  where
    by : (b : Bool) → stands_in before name ≡ b → cond b (Some name) (repeated_behind (before ++ name ∷ []) names) ≡ None
        → (repeated_behind (before ++ name ∷ []) names ≡ None → AreNew (before ++ name ∷ []) names) → AreNew before (name ∷ names)
    by true e g others = absurd (some_not name g)
    by false e g others =
        let rest = others g in (
          AllPairs-cons (λ (a b : List ℕ). a ≢ b) name names (all_members (λ (y : List ℕ). name ≢ y) names (λ y there. rest.1 name y (Contains-append_right before (name ∷ []) name (first name [])) there)) rest.0,
          λ x y inside there same. elim (contains_cases name names y there) [
            | inl here ↦ false≢true (sym e ∙ any_at (λ other. bytes_eq other name) before x inside ((bytes_eq-Decides x name).1 (same ∙ sym here)))
            | inr more ↦ rest.1 x y (Contains-append_left before (name ∷ []) x inside) more same
          ],
        )

not_duplicate : (name : Option (List ℕ)) → not_repeated name ≡ Ok tt → name ≡ None
not_duplicate None h = refl
not_duplicate (Some name) h = absurd (refused h)
  where
    refused : ◌≡◌ {A = Result (Unit {0}) SchemaFault} (Err (Duplicate name)) (Ok tt) → ⊥
    refused e = cc

pub distinct_names : (names : List (List ℕ)) → distinct names ≡ Ok tt → AreDistinct names
distinct_names names h = (all_new [] names (not_duplicate (first_repeated names) h)).0
