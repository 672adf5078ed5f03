-- What is found by a number after one is put, what holds of all letters of a pool, and the letter that comes.
use Rattle.std.specs.Prelude.{◌≡◌, ◌++◌, ℕ, zero, suc, List, [], ◌∷◌, Bool, true, false, Option, Some, None, slice_get, cond, unwrap_or}
use Rattle.std.specs.List.{AllByRecursion, AllZip}
use Rattle.std.specs.BTreeMap.{is_at}
use Rattle.std.specs.Ordering.{nat_cmp}
use Rattle.std.specs.Cmp.{nat_cmp_total}
use Rattle.std.proofs.Common.{arith, subst, sym, ap, ◌∙◌}
use Rattle.std.proofs.lemmas.Bool.Decides.{nat_tests}
use Rattle.merge_table.proofs.LookUps.{lookup-insert_entry}
use Rattle.merge_model.specs.Tables.Keys.{at_number, put_number}
use Rattle.merge_model.specs.History.{History, Past, pasts_with}
use Rattle.merge_types.specs.declared.row_key.RowKey.{RowKey as Key}
use Rattle.merge_model.specs.World.{World, letter_at}
use Rattle.merge_model.specs.declared.letter.Letter.{Letter}

pub at_put : {V : Type 0} (n q : ℕ) (v : V) (es : List (ℕ × V)) → at_number (put_number es n v) q ≡ cond (is_at (nat_cmp q) n) (Some v) (at_number es q)
at_put n q v es = lookup-insert_entry nat_cmp nat_cmp_total n q v es

is_at-same : (n : ℕ) → is_at (nat_cmp n) n ≡ true
is_at-same n = grind (arith, nat_tests)

is_at-other : (n q : ℕ) → (q ≡ n → ⊥) → is_at (nat_cmp q) n ≡ false
is_at-other n q differs = grind (arith, nat_tests, differs)

pub at_put_same : {V : Type 0} (n : ℕ) (v : V) (es : List (ℕ × V)) → at_number (put_number es n v) n ≡ Some v
at_put_same {V = V} n v es = at_put n n v es ∙ ap (λ (b : Bool). (let found : Option V = cond b (Some v) (at_number es n) in found)) (is_at-same n)

pub at_put_other : {V : Type 0} (n q : ℕ) (v : V) (es : List (ℕ × V)) → (q ≡ n → ⊥) → at_number (put_number es n v) q ≡ at_number es q
at_put_other {V = V} n q v es differs = at_put n q v es ∙ ap (λ (b : Bool). (let found : Option V = cond b (Some v) (at_number es q) in found)) (is_at-other n q differs)

-- who is found is named, where none has the publisher's number
pub found-named : {V : Type 0} (es : List (ℕ × V)) (n : ℕ) (v : V) → at_number es 0 ≡ None → at_number es n ≡ Some v → n ≡ 0 → ⊥
found-named {V = V} es n v none at zero_is = (let no : (let found : Option V = Some v in found) ≡ None = sym at ∙ ap (λ (k : ℕ). at_number es k) zero_is ∙ none in absurd cc)

-- all letters, with one more, and under a weaker fact
pub all-more : {X : Type 0} (P : X → Type 0) (xs : List X) (x : X) → AllByRecursion P xs → P x → AllByRecursion P (xs ++ x ∷ [])
all-more P [] x all new = (new, tt)
all-more P (y ∷ ys) x all new = (all.0, all-more P ys x all.1 new)

pub all-weaker : {X : Type 0} (P Q : X → Type 0) (weaker : (x : X) → P x → Q x) (xs : List X) → AllByRecursion P xs → AllByRecursion Q xs
all-weaker P Q weaker [] all = tt
all-weaker P Q weaker (x ∷ xs) all = (weaker x all.0, all-weaker P Q weaker xs all.1)

pub some_same : {X : Type 0} (x y : X) → Some x ≡ Some y → x ≡ y
some_same x y e = cc

pub all-at : {X : Type 0} (P : X → Type 0) (xs : List X) (k : ℕ) (x : X) → slice_get xs k ≡ Some x → AllByRecursion P xs → P x
all-at P [] k x at all = absurd (grind (arith, at))
all-at P (y ∷ ys) zero x at all = subst P (some_same y x at) all.0
all-at P (y ∷ ys) (suc k) x at all = all-at P ys k x at all.1

-- the letter that comes, alone and with its pasts
pub pool-at : (P : Letter → Type 0) (w : World) (number : ℕ) (letter : Letter) → letter_at w number ≡ Some letter → AllByRecursion P w.pool → P letter
pool-at P w zero letter at all = absurd (grind (arith, at))
pool-at P w (suc k) letter at all = all-at P w.pool k letter at all

zip-at : {X Y : Type 0} (R : X → Y → Type 0) (xs : List X) (ys : List Y) (none : Y) (k : ℕ) (x : X) → AllZip R xs ys → slice_get xs k ≡ Some x → R x (unwrap_or (slice_get ys k) none)
zip-at R [] ys none k x all at = absurd (grind (arith, at))
zip-at R (y ∷ xs) [] none k x all at = absurd all
zip-at R (y ∷ xs) (z ∷ ys) none zero x all at = subst (λ (a : _). R a z) (some_same y x at) all.0
zip-at R (y ∷ xs) (z ∷ ys) none (suc k) x all at = zip-at R xs ys none k x all.1 at

pub letter-zip : (R : Letter → List (Key × Past) → Type 0) (w : World) (h : History) (number : ℕ) (letter : Letter) → AllZip R w.pool h.letters → letter_at w number ≡ Some letter → R letter (pasts_with h number)
letter-zip R w h zero letter all at = absurd (grind (arith, at))
letter-zip R w h (suc k) letter all at = zip-at R w.pool h.letters [] k letter all at
