-- Rows that a test keeps, and rows that come last.
use Rattle.std.proofs.Common.{◌≡◌, ◌∙◌, ◌<◌, Bool, true, false, List, [], ◌∷◌, ◌++◌, filter, cond, append_assoc, refl, sym, ap, arith}
use Rattle.std.specs.List.{AllByRecursion}
use Rattle.std.specs.List.Sorted.{IsStrictlySortedBy}
use Rattle.std.specs.declared.cmp.Ordering.{Ordering}
use Rattle.std.specs.declared.cmp.Ordering.TheVariants.{Less, Greater}
use Rattle.std.specs.Ordering.{is_eq, ordering_reverse}
use Rattle.std.specs.Cmp.{IsTotalOrder}
use Rattle.std.specs.Map.{keys_of, remove_entry}
use Rattle.std.specs.BTreeMap.{is_at, insert_entry}
use Rattle.std.proofs.lemmas.Cmp.{tied_itself}
use Rattle.std.proofs.lemmas.List.Elements.{All-cons}
use Rattle.std.proofs.lemmas.Map.Keys.{sorted_head, sorted_tail}
use Rattle.merge_table.specs.declared.edit.Edit.{Edit}
use Rattle.merge_table.specs.declared.edit.Edit.TheVariants.{Put, Take}
use Rattle.merge_table.specs.Edits.{key_of, rows_after, rows_after_all, takes_of, is_ready, IsReady}

-- the keys of the changes meet a fact
abbrev pub AllEditKeys : {K V : Type 0} → (K → Type 0) → List (Edit K V) → Type 0
AllEditKeys P edits = AllByRecursion (λ edit. P (key_of edit)) edits

below : {K : Type 0} (cmp : K → K → Ordering) → IsTotalOrder cmp → (a k : K) → cmp a k ≡ Less → cmp k a ≡ Greater
below cmp o a k less = o.antisymm k a ∙ ap ordering_reverse less

module _ {K V : Type 0} (cmp : K → K → Ordering) (o : IsTotalOrder cmp) where
  -- changes of keys above the first leave the first row
  pub rest_after : (a : K) (x : V) (edits : List (Edit K V)) → AllEditKeys (λ k. cmp a k ≡ Less) edits → (rows : List (K × V)) → rows_after_all cmp ((a, x) ∷ rows) edits ≡ (a, x) ∷ rows_after_all cmp rows edits
  rest_after a x [] h rows = refl
  rest_after a x (Put k v ∷ edits) h rows = ap (λ l. rows_after_all cmp l edits) (rw (below cmp o a k h.0) refl) ∙ rest_after a x edits h.1 (insert_entry cmp rows k v)
  rest_after a x (Take k ∷ edits) h rows = ap (λ l. rows_after_all cmp l edits) (rw (below cmp o a k h.0) refl) ∙ rest_after a x edits h.1 (remove_entry (is_at (cmp k)) rows)

  above_step : (a b : K) (y : V) (keep : K × V → Bool) (rows : List (K × V)) → cmp a b ≡ Less → AllEditKeys (λ k. cmp a k ≡ Less) (takes_of keep rows)
      → (c : Bool) → keep (b, y) ≡ c → AllEditKeys (λ k. cmp a k ≡ Less) (takes_of keep ((b, y) ∷ rows))
  above_step a b y keep rows h ih true e = rw e ih
  above_step a b y keep rows h ih false e = rw e (h, ih)

  takes_above : (a : K) (keep : K × V → Bool) (rows : List (K × V)) → AllByRecursion (λ k. cmp a k ≡ Less) (keys_of rows) → AllEditKeys (λ k. cmp a k ≡ Less) (takes_of keep rows)
  takes_above a keep [] h = tt
  takes_above a keep ((b, y) ∷ rows) h = above_step a b y keep rows h.0 (takes_above a keep rows h.1) (keep (b, y)) refl

  filter_step : (a : K) (x : V) (keep : K × V → Bool) (rows : List (K × V)) → AllByRecursion (λ k. cmp a k ≡ Less) (keys_of rows) → rows_after_all cmp rows (takes_of keep rows) ≡ filter keep rows
      → (c : Bool) → keep (a, x) ≡ c → rows_after_all cmp ((a, x) ∷ rows) (takes_of keep ((a, x) ∷ rows)) ≡ filter keep ((a, x) ∷ rows)
  filter_step a x keep rows h ih true e = rw e (rest_after a x (takes_of keep rows) (takes_above a keep rows h) rows ∙ ap (λ l. (a, x) ∷ l) ih)
  filter_step a x keep rows h ih false e =
      let tied : is_at (cmp a) a ≡ true = ap is_eq (tied_itself o a) in
      let one : rows_after cmp ((a, x) ∷ rows) (Take a) ≡ rows = rw tied refl in
      rw e (ap (λ l. rows_after_all cmp l (takes_of keep rows)) one ∙ ih)

  -- the rows that a test keeps are those left when the others are taken
  pub filter_is_takes : (keep : K × V → Bool) (rows : List (K × V)) → IsStrictlySortedBy cmp (keys_of rows) → rows_after_all cmp rows (takes_of keep rows) ≡ filter keep rows
  filter_is_takes keep [] s = refl
  filter_is_takes keep ((a, x) ∷ rows) s = filter_step a x keep rows (sorted_head cmp a (keys_of rows) s) (filter_is_takes keep rows (sorted_tail cmp a (keys_of rows) s)) (keep (a, x)) refl

  in_middle : (P : K → Type 0) (front : List (K × V)) (k : K) (v : V) (rest : List (K × V)) → AllByRecursion P (keys_of (front ++ (k, v) ∷ rest)) → P k
  in_middle P [] k v rest h = h.0
  in_middle P (row ∷ front) k v rest h = in_middle P front k v rest h.1

  -- a row whose key is behind all others comes last
  pub insert_last : (front : List (K × V)) (k : K) (v : V) (rest : List (K × V)) → IsStrictlySortedBy cmp (keys_of (front ++ (k, v) ∷ rest))
      → insert_entry cmp front k v ≡ front ++ (k, v) ∷ []
  insert_last [] k v rest s = refl
  insert_last ((a, x) ∷ front) k v rest s =
      let less : cmp a k ≡ Less = in_middle (λ y. cmp a y ≡ Less) front k v rest (sorted_head cmp a (keys_of (front ++ (k, v) ∷ rest)) s) in
      rw (below cmp o a k less) (ap (λ l. (a, x) ∷ l) (insert_last front k v rest (sorted_tail cmp a (keys_of (front ++ (k, v) ∷ rest)) s)))

  ready_step : (slots : List K) (k : K) (edits : List (Edit K V)) → IsReady cmp slots edits → (c : Bool) → IsReady cmp slots (cond c edits (Take k ∷ edits))
  unfolding IsReady
  ready_step slots k edits ready true = ready
  ready_step slots k edits ready false = All-cons (λ edit. is_ready cmp slots edit ≡ true) (Take k) edits refl ready

  -- taking rows needs no memory
  pub takes_ready : (slots : List K) (keep : K × V → Bool) (rows : List (K × V)) → IsReady cmp slots (takes_of keep rows)
  unfolding IsReady
  takes_ready slots keep [] = λ k d less. absurd (omega (arith, less))
  takes_ready slots keep (row ∷ rows) = ready_step slots row.0 (takes_of keep rows) (takes_ready slots keep rows) (keep row)

-- a walk over the rows collects the takes
abbrev pub Collecting : {K V : Type 0} → (K × V → Bool) → List (Edit K V) → List (K × V) → List (K × V) → Type 0
Collecting keep edits rest rows = edits ++ takes_of keep rest ≡ takes_of keep rows

pub collect_kept : {K V : Type 0} (keep : K × V → Bool) (edits : List (Edit K V)) (old rest rows : List (K × V)) (row : K × V)
    → old ≡ row ∷ rest → keep row ≡ true → Collecting keep edits old rows → Collecting keep edits rest rows
collect_kept keep edits old rest rows row step passes so_far =
    let next : takes_of keep old ≡ takes_of keep rest = rw (step, passes) refl in
    ap (λ l. edits ++ l) (sym next) ∙ so_far

pub collect_taken : {K V : Type 0} (keep : K × V → Bool) (edits : List (Edit K V)) (old rest rows : List (K × V)) (row : K × V) (key : K)
    → old ≡ row ∷ rest → key ≡ row.0 → keep row ≡ false → Collecting keep edits old rows → Collecting keep (edits ++ Take key ∷ []) rest rows
collect_taken keep edits old rest rows row key step same fails so_far =
    let next : takes_of keep old ≡ Take row.0 ∷ takes_of keep rest = rw (step, fails) refl in
    append_assoc edits (Take key ∷ []) (takes_of keep rest)
    ∙ ap (λ k. edits ++ Take k ∷ takes_of keep rest) same
    ∙ ap (λ l. edits ++ l) (sym next)
    ∙ so_far
