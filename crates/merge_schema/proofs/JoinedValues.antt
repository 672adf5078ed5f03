-- Values that join, and rows that have a parent.
use Rattle.std.proofs.Common.{◌≡◌, Bool, true, false, ◌&&◌, ◌==◌, List, Some, refl, ap, subst}
use Rattle.std.specs.Prelude.{◌↔◌}
use Rattle.std.specs.declared.cmp.Ordering.{Ordering}
use Rattle.std.specs.declared.cmp.Ordering.TheVariants.{Less, Equal, Greater}
use Rattle.std.specs.Ordering.{nat_cmp, int_cmp, bool_cmp}
use Rattle.std.specs.Cmp.{IsTotalOrder, Equal-is, eq_by_cmp_equiv, nat_cmp_total, int_cmp_total, bool_cmp_total}
use Rattle.std.specs.Cmp.Lexicographic.{slice_cmp}
use Rattle.std.proofs.lemmas.Cmp.{nat_list_cmp_total}
use Rattle.std.proofs.lemmas.Map.Lookups.{exact_unsigned, exact_signed, exact_bytes}
use Rattle.merge_types.specs.declared.values.Value.{Value}
use Rattle.merge_types.specs.declared.values.Value.TheVariants as values
use Rattle.merge_filter.specs.declared.word.Sign.TheVariants as signs
use Rattle.merge_filter.specs.Eval.{truth_at}
use Rattle.merge_schema.specs.declared.publication.JoinFilter.{JoinFilter}
use Rattle.merge_schema.specs.Partition.{LiveRow, value_at, are_joined, is_true, is_parent, has_parent}
use Rattle.merge_schema.proofs.ListMembers.{any_found}

-- an order of values at which `=` is true, and where it is
tied : (o : Ordering) → is_true (truth_at signs.Equal (Some o)) ≡ true → o ≡ Equal
tied Less holds = absurd cc
tied Equal holds = refl
tied Greater holds = absurd cc

ties : {K : Type 0} (cmp : K → K → Ordering) → IsTotalOrder cmp → (k : K) → is_true (truth_at signs.Equal (Some (cmp k k))) ≡ true
ties cmp total k = rw ((Equal-is (cmp k k)).0 ((eq_by_cmp_equiv total).refl k)) refl

bool_tied : (a b : Bool) → bool_cmp a b ≡ Equal → a ≡ b
bool_tied false false is = refl
bool_tied false true is = absurd cc
bool_tied true false is = absurd cc
bool_tied true true is = refl

joined_same : (child parent : Value) → are_joined child parent ≡ true → (child ≡ parent) × (child ≡ values.Null → ⊥)
joined_same (values.Int a) (values.Int b) holds = (ap values.Int (exact_signed a b (tied (int_cmp a b) holds)), λ null. absurd cc)
joined_same (values.Bit a) (values.Bit b) holds = (ap values.Bit (bool_tied a b (tied (bool_cmp a b) holds)), λ null. absurd cc)
joined_same (values.Text a) (values.Text b) holds = (ap values.Text (exact_bytes a b (tied (slice_cmp nat_cmp a b) holds)), λ null. absurd cc)
joined_same (values.Day a) (values.Day b) holds = (ap values.Day (exact_signed a b (tied (int_cmp a b) holds)), λ null. absurd cc)
joined_same (values.Guid a) (values.Guid b) holds = (ap values.Guid (exact_unsigned a b (tied (nat_cmp a b) holds)), λ null. absurd cc)
joined_same (values.Bytes a) (values.Bytes b) holds = (ap values.Bytes (exact_bytes a b (tied (slice_cmp nat_cmp a b) holds)), λ null. absurd cc)
joined_same child parent holds = absurd cc

joined_itself : (value : Value) → (value ≡ values.Null → ⊥) → are_joined value value ≡ true
joined_itself values.Null some = absurd (some refl)
joined_itself (values.Int a) some = ties int_cmp int_cmp_total a
joined_itself (values.Bit a) some = ties bool_cmp bool_cmp_total a
joined_itself (values.Text a) some = ties (slice_cmp nat_cmp) nat_list_cmp_total a
joined_itself (values.Day a) some = ties int_cmp int_cmp_total a
joined_itself (values.Guid a) some = ties nat_cmp nat_cmp_total a
joined_itself (values.Bytes a) some = ties (slice_cmp nat_cmp) nat_list_cmp_total a

pub same_values_join : (child parent : Value) → (are_joined child parent ≡ true) ↔ ((child ≡ parent) × (child ≡ values.Null → ⊥))
same_values_join child parent = (joined_same child parent, λ same. subst (λ (value : Value). are_joined child value ≡ true) same.0 (joined_itself child same.1))

second : (b c : Bool) → (b && c) ≡ true → c ≡ true
second true c holds = holds
second false c holds = absurd cc

pub null_has_no_parent : (inside : List LiveRow) (row : LiveRow) (join : JoinFilter) → value_at row join.column ≡ values.Null → has_parent inside row join ≡ false
null_has_no_parent inside row join null = by (has_parent inside row join) refl
  where
    by : (b : Bool) → has_parent inside row join ≡ b → has_parent inside row join ≡ false
    by false none = none
    by true one =
        let found = any_found (is_parent join row) inside one in
        let parent : LiveRow = found.0 in
        absurd ((joined_same (value_at row join.column) (value_at parent join.parent_column) (second (parent.article == join.parent) (are_joined (value_at row join.column) (value_at parent join.parent_column)) found.2)).1 null)
