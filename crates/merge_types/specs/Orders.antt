-- Orders in which only equal texts, lists and values tie.
use Rattle.std.specs.Prelude.{◌≡◌, true, false, List, [], ◌∷◌}
use Rattle.std.proofs.Common.{refl, sym, ap, ◌∙◌}
use Rattle.std.proofs.lemmas.Bool.{false≢true}
use Rattle.std.specs.declared.cmp.Ordering.{Ordering}
use Rattle.std.specs.declared.cmp.Ordering.TheVariants.{Less, Equal, Greater}
use Rattle.std.specs.Ordering.{is_eq, nat_cmp, ordering_then}
use Rattle.std.specs.Cmp.Lexicographic.{slice_cmp}
use Rattle.std.proofs.lemmas.Map.Lookups.{exact_bytes, exact_signed, exact_unsigned}
use Rattle.merge_types.specs.contracts.values.ValueOrd.TheImpl.{cmp-value}
use Rattle.merge_types.specs.declared.identifiers.SiteId.{SiteId}
use Rattle.merge_types.specs.declared.values.Value.{Value}
use Rattle.merge_types.specs.declared.values.Value.TheVariants.{Null, Int, Bit, Text, Day, Guid, Bytes}

not_equal : {A : Type 0} → (r : Ordering) → is_eq r ≡ false → r ≡ Equal → A
not_equal r differs e = absurd (false≢true (sym differs ∙ ap is_eq e))

both_equal : (a b : Ordering) → ordering_then a b ≡ Equal → (a ≡ Equal) × (b ≡ Equal)
both_equal Less b e = not_equal Less refl e
both_equal Equal b e = (refl, e)
both_equal Greater b e = not_equal Greater refl e

-- lists of members of which only equal ones tie
pub exact_lists : {T : Type 0} (cmp : T → T → Ordering) → ((x y : T) → cmp x y ≡ Equal → x ≡ y) → (xs ys : List T) → slice_cmp cmp xs ys ≡ Equal → xs ≡ ys
exact_lists cmp exact [] [] e = refl
exact_lists cmp exact [] (y ∷ ys) e = not_equal Less refl e
exact_lists cmp exact (x ∷ xs) [] e = not_equal Greater refl e
exact_lists cmp exact (x ∷ xs) (y ∷ ys) e =
    let ties = both_equal (cmp x y) (slice_cmp cmp xs ys) e in
    λ i. exact x y ties.0 i ∷ exact_lists cmp exact xs ys ties.1 i

-- sites that tie are the same
pub site_exact : (x y : SiteId) → nat_cmp x.0 y.0 ≡ Equal → x ≡ y
site_exact x y e = λ i. record { 0 = exact_unsigned x.0 y.0 e i }

-- values that tie are the same
pub value_exact : (x y : Value) → cmp-value.it x y ≡ Equal → x ≡ y
value_exact Null Null e = refl
value_exact (Int x) (Int y) e = ap Int (exact_signed x y e)
value_exact (Bit true) (Bit true) e = refl
value_exact (Bit false) (Bit false) e = refl
value_exact (Text x) (Text y) e = ap Text (exact_bytes x y e)
value_exact (Day x) (Day y) e = ap Day (exact_signed x y e)
value_exact (Guid x) (Guid y) e = ap Guid (exact_unsigned x y e)
value_exact (Bytes x) (Bytes y) e = ap Bytes (exact_bytes x y e)
value_exact x y e = not_equal (cmp-value.it x y) refl e
