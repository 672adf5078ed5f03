-- The rows of the slots in a range.
use Rattle.std.proofs.Common.{◌≡◌, Bool, true, false, List, [], ◌∷◌, ◌++◌, ◌<◌, Some, None, refl, ap, length, length-append, arith}
use Rattle.std.specs.Prelude.{filter, is_some}
use Rattle.std.proofs.lemmas.List.{append-nil}
use Rattle.std.specs.declared.option.Option.{Option}
use Rattle.std.specs.declared.cmp.Ordering.{Ordering}
use Rattle.std.specs.declared.cmp.Ordering.TheVariants.{Less}
use Rattle.std.specs.List.{AllByRecursion}
use Rattle.std.specs.List.Sorted.{IsStrictlySortedBy}
use Rattle.std.specs.Map.{keys_of}
use Rattle.merge_table.specs.Contents.{rows_of}

filter_step : {K V : Type 0} (p : K → Bool) (k : K) (x : Option V) (es : List (K × Option V)) → rows_of (filter (λ e. p e.0) es) ≡ filter (λ r. p r.0) (rows_of es)
    → (b : Bool) → p k ≡ b
    → rows_of (filter (λ e. p e.0) ((k, x) ∷ es)) ≡ filter (λ r. p r.0) (rows_of ((k, x) ∷ es))
filter_step p k None es ih true e = rw e ih
filter_step p k None es ih false e = rw e ih
filter_step p k (Some v) es ih true e = rw e (ap (λ l. (k, v) ∷ l) ih)
filter_step p k (Some v) es ih false e = rw e ih

-- the rows of the slots whose keys pass are the rows whose keys pass
pub rows-filter : {K V : Type 0} (p : K → Bool) (es : List (K × Option V)) → rows_of (filter (λ e. p e.0) es) ≡ filter (λ r. p r.0) (rows_of es)
rows-filter p [] = refl
rows-filter p ((k, x) ∷ es) = filter_step p k x es (rows-filter p es) (p k) refl

pub filter-all : {X : Type 0} (xs : List X) → filter (λ _. true) xs ≡ xs
filter-all [] = refl
filter-all (x ∷ xs) = ap (λ l. x ∷ l) (filter-all xs)

all_rows : {K V : Type 0} (P : K → Type 0) (es : List (K × Option V)) → AllByRecursion P (keys_of es) → AllByRecursion P (keys_of (rows_of es))
all_rows P [] h = tt
all_rows P ((k, None) ∷ es) h = all_rows P es h.1
all_rows P ((k, Some v) ∷ es) h = (h.0, all_rows P es h.1)

-- rows stand in the order of their slots
pub sorted-rows : {K V : Type 0} (cmp : K → K → Ordering) (es : List (K × Option V)) → IsStrictlySortedBy cmp (keys_of es) → IsStrictlySortedBy cmp (keys_of (rows_of es))
unfolding IsStrictlySortedBy
sorted-rows cmp [] s = tt
sorted-rows cmp ((k, None) ∷ es) s = sorted-rows cmp es s.1
sorted-rows cmp ((k, Some v) ∷ es) s = (all_rows (λ y. cmp k y ≡ Less) es s.0, sorted-rows cmp es s.1)

pub rows-append : {K V : Type 0} (es fs : List (K × Option V)) → rows_of (es ++ fs) ≡ rows_of es ++ rows_of fs
rows-append [] fs = refl
rows-append ((k, None) ∷ es) fs = rows-append es fs
rows-append ((k, Some v) ∷ es) fs = ap (λ l. (k, v) ∷ l) (rows-append es fs)

-- a walk from the back passes a slot without a row by
pub rows-last_none : {K V : Type 0} (es fs : List (K × Option V)) (k : K) (x : Option V) → es ≡ fs ++ (k, x) ∷ [] → x ≡ None → rows_of es ≡ rows_of fs
rows-last_none es fs k x is none = rw (is, none, rows-append fs ((k, None) ∷ [])) (append-nil (rows_of fs))

-- and gives the row of one that has it
pub rows-last_some : {K V : Type 0} (es fs : List (K × Option V)) (k : K) (x : Option V) (row : V) → es ≡ fs ++ (k, x) ∷ [] → x ≡ Some row → rows_of es ≡ rows_of fs ++ (k, row) ∷ []
rows-last_some es fs k x row is some = rw (is, some) (rows-append fs ((k, Some row) ∷ []))

pub length-before_last : {X : Type 0} (xs ys : List X) (x : X) → xs ≡ ys ++ x ∷ [] → length ys < length xs
length-before_last xs ys x is = rw is (omega (arith, length-append ys (x ∷ [])))

swept_step : {K V : Type 0} (k : K) (x : Option V) (es : List (K × Option V)) → rows_of (filter (λ e. is_some e.1) es) ≡ rows_of es → rows_of (filter (λ e. is_some e.1) ((k, x) ∷ es)) ≡ rows_of ((k, x) ∷ es)
swept_step k None es ih = ih
swept_step k (Some v) es ih = ap (λ l. (k, v) ∷ l) ih

-- the slots that have a row have all rows
pub rows-swept : {K V : Type 0} (es : List (K × Option V)) → rows_of (filter (λ e. is_some e.1) es) ≡ rows_of es
rows-swept [] = refl
rows-swept ((k, x) ∷ es) = swept_step k x es (rows-swept es)

-- and their keys are those of the rows
pub keys-swept : {K V : Type 0} (es : List (K × Option V)) → keys_of (filter (λ e. is_some e.1) es) ≡ keys_of (rows_of es)
keys-swept [] = refl
keys-swept ((k, None) ∷ es) = keys-swept es
keys-swept ((k, Some v) ∷ es) = ap (λ l. k ∷ l) (keys-swept es)
