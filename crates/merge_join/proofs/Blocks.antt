-- The entries of a value by a join stand together.
use Rattle.std.proofs.Common.{◌≡◌, ℕ, ◌+◌, Bool, true, false, not, cond, ◌&&◌, ◌||◌, ◌==◌, List, [], ◌∷◌, filter, refl, sym, ap, ◌∙◌, arith}
use Rattle.std.specs.List.{list_any}
use Rattle.std.specs.Map.{keys_of}
use Rattle.std.specs.declared.cmp.Ordering.{Ordering}
use Rattle.std.specs.declared.cmp.Ordering.TheVariants.{Less, Equal, Greater}
use Rattle.std.specs.declared.ops.Bound.TheVariants.{Included, Excluded}
use Rattle.std.specs.Ordering.{nat_cmp, ordering_then, is_le, is_eq, is_gt}
use Rattle.std.specs.BTreeMap.{is_at}
use Rattle.std.specs.BTreeMap.Range.{IsLeBy, range_contains, entries_between}
use Rattle.std.proofs.lemmas.Cmp.{tied_itself}
use Rattle.std.proofs.lemmas.Bool.Decides.{nat_tests}
use Rattle.merge_types.specs.declared.RowId.{RowId}
use Rattle.merge_types.specs.declared.values.Value.{Value}
use Rattle.merge_types.specs.ValueOrder.{value_cmp, value_total}
use Rattle.merge_join.specs.declared.entry.JoinEntry.{JoinEntry}
use Rattle.merge_join.specs.Entries.{entry_cmp, is_of}
use Rattle.merge_join.specs.Index.{has, of_value}

-- what stands before all entries of the value by the join
abbrev pub first_of : ℕ → Value → JoinEntry
first_of join value = record { value = value; join = join; child = record { 0 = 0 } }

from_first : (join other child : ℕ) → is_le (ordering_then (nat_cmp join other) (nat_cmp 0 child)) ≡ is_le (nat_cmp join other)
from_first join other child = grind (arith, nat_tests)

in_joins : (join other child : ℕ) → (is_le (ordering_then (nat_cmp join other) (nat_cmp 0 child)) && not (is_le (ordering_then (nat_cmp (join + 1) other) (nat_cmp 0 child)))) ≡ (other == join)
in_joins join other child = rw (from_first join other child, from_first (join + 1) other child) (grind (arith, nat_tests))

in_values : (o : Ordering) (join other child : ℕ)
    → (is_le (ordering_then o (ordering_then (nat_cmp join other) (nat_cmp 0 child))) && not (is_le (ordering_then o (ordering_then (nat_cmp (join + 1) other) (nat_cmp 0 child))))) ≡ (is_eq o && (other == join))
in_values Less join other child = refl
in_values Equal join other child = in_joins join other child
in_values Greater join other child = refl

pub in_block : (join : ℕ) (value : Value) (q : JoinEntry) → range_contains entry_cmp (Included (first_of join value)) (Excluded (first_of (join + 1) value)) q ≡ is_of join value q
in_block join value q = in_values (value_cmp value q.value) join q.join q.child.0

block_step : {X : Type 0} (join : ℕ) (value : Value) (e : JoinEntry × X) (es : List (JoinEntry × X)) (left : List (JoinEntry × X)) → keys_of left ≡ of_value (keys_of es) join value
    → (b : Bool) → keys_of (cond b (e ∷ left) left) ≡ cond b (e.0 ∷ of_value (keys_of es) join value) (of_value (keys_of es) join value)
block_step join value e es left ih true = ap (λ (ks : List JoinEntry). e.0 ∷ ks) ih
block_step join value e es left ih false = ih

pub keys-between : {X : Type 0} (join : ℕ) (value : Value) (es : List (JoinEntry × X))
    → keys_of (entries_between entry_cmp (Included (first_of join value)) (Excluded (first_of (join + 1) value)) es) ≡ of_value (keys_of es) join value
keys-between join value [] = refl
keys-between join value (e ∷ es) =
    ap (λ (b : Bool). keys_of (cond b (e ∷ entries_between entry_cmp (Included (first_of join value)) (Excluded (first_of (join + 1) value)) es) (entries_between entry_cmp (Included (first_of join value)) (Excluded (first_of (join + 1) value)) es))) (in_block join value e.0)
    ∙ block_step join value e es (entries_between entry_cmp (Included (first_of join value)) (Excluded (first_of (join + 1) value)) es) (keys-between join value es) (is_of join value e.0)

-- the one bound stands before the other
pub forward : (join : ℕ) (value : Value) → IsLeBy entry_cmp (first_of join value) (first_of (join + 1) value)
forward join value = rw (tied_itself value_total value) (grind (arith, nat_tests))

-- the test for one entry is the tests for its value, its join and its child
numbers_tell : (join other child one : ℕ) → is_eq (ordering_then (nat_cmp join other) (nat_cmp child one)) ≡ ((other == join) && (one == child))
numbers_tell join other child one = grind (arith, nat_tests)

pub tests_tell : (o : Ordering) (join other child one : ℕ) → is_eq (ordering_then o (ordering_then (nat_cmp join other) (nat_cmp child one))) ≡ ((is_eq o && (other == join)) && (one == child))
tests_tell Less join other child one = refl
tests_tell Equal join other child one = numbers_tell join other child one
tests_tell Greater join other child one = refl

found_step : (p b rest : Bool) → (cond p (b || rest) rest) ≡ ((p && b) || rest)
found_step true b rest = refl
found_step false b rest = refl

any_cond : (test : JoinEntry → Bool) (p : Bool) (e : JoinEntry) (es : List JoinEntry) → list_any test (cond p (e ∷ es) es) ≡ cond p (test e || list_any test es) (list_any test es)
any_cond test true e es = refl
any_cond test false e es = refl

pub found-value : (set : List JoinEntry) (join : ℕ) (value : Value) (child : RowId)
    → list_any (λ (e : JoinEntry). e.child.0 == child.0) (of_value set join value) ≡ has set (record { value = value; join = join; child = child })
found-value [] join value child = refl
found-value (e ∷ es) join value child =
    any_cond (λ (x : JoinEntry). x.child.0 == child.0) (is_of join value e) e (of_value es join value)
    ∙ found_step (is_of join value e) (e.child.0 == child.0) (list_any (λ (x : JoinEntry). x.child.0 == child.0) (of_value es join value))
    ∙ ap (λ (rest : Bool). (is_of join value e && (e.child.0 == child.0)) || rest) (found-value es join value child)
    ∙ ap (λ (b : Bool). b || has es (record { value = value; join = join; child = child })) (sym (tests_tell (value_cmp value e.value) join e.join child.0 e.child.0))
