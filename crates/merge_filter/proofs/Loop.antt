-- Parts one after the other, as a loop reads them.
use Rattle.std.proofs.Common.{◌≡◌, ◌≢◌, ℕ, zero, suc, ◌-◌, ◌+◌, ◌≤◌, ◌<◌, List, length, Result, Ok, Err, Option, Some, None, refl, sym, ◌∙◌, arith}
use Rattle.merge_filter.specs.declared.form.Stuck.{Stuck}
use Rattle.merge_filter.specs.declared.form.FormFault.{FormFault}
use Rattle.merge_filter.specs.declared.form.FormFault.TheVariants as faults
use Rattle.merge_filter.specs.declared.word.Word.{Word}
use Rattle.merge_filter.specs.declared.form.Stuck.TheVariants.{TooDeep}
use Rattle.merge_filter.specs.Syntax.{Syntax, Not}
use Rattle.merge_types.specs.declared.values.Column.{Column}
use Rattle.merge_filter.specs.Form.{◌>>=◌, Fails, Read, more, neg_at, below, neg_with, filter_of, behind_not, behind_open, behind_close}

pub more_goes : (behind : List Word → Option (List Word)) (join : Syntax → Syntax → Syntax) (item : List Word → Read Syntax) (n i : ℕ) (left : Syntax) (ws after : List Word) (right : Syntax) (rest : List Word) (total : Read Syntax)
    → i < n → behind ws ≡ Some after → item after ≡ Ok (right, rest) → more behind join item (n - i) left ws ≡ total → more behind join item (n - (i + 1)) (join left right) rest ≡ total
unfolding more
more_goes behind join item n i left ws after right rest total lt b h so_far =
    let k : n - i ≡ suc (n - (i + 1)) = omega arith in
    let one : more behind join item (n - i) left ws ≡ more behind join item (n - (i + 1)) (join left right) rest = rw (k, b, h) refl in
    sym one ∙ so_far

pub more_fails : (e : FormFault) (behind : List Word → Option (List Word)) (join : Syntax → Syntax → Syntax) (item : List Word → Read Syntax) (n i : ℕ) (left : Syntax) (ws after : List Word) (total : Read Syntax)
    → i < n → behind ws ≡ Some after → Fails e (item after) → more behind join item (n - i) left ws ≡ total → Fails e total
unfolding more
more_fails faults.NoMemory behind join item n i left ws after total lt b h so_far = tt
more_fails (faults.Stuck f) behind join item n i left ws after total lt b h so_far =
    let k : n - i ≡ suc (n - (i + 1)) = omega arith in
    let one : more behind join item (n - i) left ws ≡ Err f = rw (k, b, h) refl in
    sym so_far ∙ one

pub more_none : (behind : List Word → Option (List Word)) (join : Syntax → Syntax → Syntax) (item : List Word → Read Syntax) (k : ℕ) (left : Syntax) (ws : List Word) → behind ws ≡ None → more behind join item k left ws ≡ Ok (left, ws)
unfolding more
more_none behind join item zero left ws b = refl
more_none behind join item (suc k) left ws b = rw b refl

pub more_stops : (behind : List Word → Option (List Word)) (join : Syntax → Syntax → Syntax) (item : List Word → Read Syntax) (n i : ℕ) (left : Syntax) (ws : List Word) (total : Read Syntax)
    → behind ws ≡ None → more behind join item (n - i) left ws ≡ total → total ≡ Ok (left, ws)
more_stops behind join item n i left ws total b so_far = sym so_far ∙ more_none behind join item (n - i) left ws b

pub more_ends : (behind : List Word → Option (List Word)) (join : Syntax → Syntax → Syntax) (item : List Word → Read Syntax) (n i : ℕ) (left : Syntax) (ws : List Word) (total : Read Syntax)
    → n ≤ i → more behind join item (n - i) left ws ≡ total → total ≡ Ok (left, ws)
unfolding more
more_ends behind join item n i left ws total le so_far =
    let k : n - i ≡ 0 = omega arith in
    let one : more behind join item (n - i) left ws ≡ Ok (left, ws) = rw k refl in
    sym so_far ∙ one

pub fails_then : {A B : Type 0} (e : FormFault) (r : Result A Stuck) (f : A → Result B Stuck) → Fails e r → Fails e (r >>= f)
fails_then faults.NoMemory r f h = tt
fails_then (faults.Stuck d) r f h = rw h refl

-- the level below, at the number that the code has
pub below_is : (columns : List Column) (d : ℕ) → d ≢ 0 → below columns d ≡ Some (neg_at columns (d - 1))
unfolding below
below_is columns zero h = absurd (h refl)
below_is columns (suc d) h = let k : suc d - 1 ≡ d = omega arith in rw k refl

pub below_none : (columns : List Column) (d : ℕ) → d ≡ 0 → below columns d ≡ None
unfolding below
below_none columns d h = rw h refl

abbrev done : {A : Type 0} → A → Result A Stuck
done x = Ok x

pub ok_is : {A : Type 0} (x y : A) → done x ≡ done y → x ≡ y
ok_is x y e = cc

-- a part behind NOT, and one behind an opening bracket
pub at_not : (columns : List Column) (d : ℕ) (ws after : List Word) → d ≢ 0 → behind_not ws ≡ Some after → neg_at columns d ws ≡ (neg_at columns (d - 1) after >>= λ x. Ok (Not x.0, x.1))
unfolding neg_with
at_not columns d ws after h b = rw (b, below_is columns d h) refl

pub not_too_deep : (columns : List Column) (d : ℕ) (ws after : List Word) → d ≡ 0 → behind_not ws ≡ Some after → neg_at columns d ws ≡ Err (TooDeep (length ws))
unfolding neg_with
not_too_deep columns d ws after h b = rw (b, below_none columns d h) refl

pub at_open : (columns : List Column) (d : ℕ) (ws after : List Word) → d ≢ 0 → behind_not ws ≡ None → behind_open ws ≡ Some after
    → neg_at columns d ws ≡ (filter_of (neg_at columns (d - 1)) after >>= λ x. behind_close x.1 >>= λ rest. Ok (x.0, rest))
unfolding neg_with
at_open columns d ws after h n b = rw (n, b, below_is columns d h) refl

pub open_too_deep : (columns : List Column) (d : ℕ) (ws after : List Word) → d ≡ 0 → behind_not ws ≡ None → behind_open ws ≡ Some after → neg_at columns d ws ≡ Err (TooDeep (length ws))
unfolding neg_with
open_too_deep columns d ws after h n b = rw (n, b, below_none columns d h) refl
