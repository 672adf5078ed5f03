-- The rows that a subscriber changed, by what is kept with its rows, and by the changes that it made.
use Rattle.std.specs.Prelude.{◌≡◌, ◌≤◌, ◌-◌, ◌&&◌, ℕ, List, [], ◌∷◌, Bool, true, false, Option, Some, None, refl, if◌then◌else◌, cond, filter, filter_map, find, max, option_map, unwrap_or}
use Rattle.std.specs.BTreeMap.{is_at}
use Rattle.std.specs.List.{cons_option, fold}
use Rattle.std.specs.List.Sorted.{IsStrictlySortedBy}
use Rattle.std.specs.Map.{keys_of}
use Rattle.std.specs.declared.cmp.Ordering.TheVariants.{Less}
use Rattle.std.proofs.Common.{arith, subst, sym, ap, ◌∙◌}
use Rattle.std.proofs.lemmas.Bool.Decides.{nat_tests}
use Rattle.std.proofs.lemmas.Map.Keys.{sorted_tail}
use Rattle.merge_table.proofs.Sorted.{sorted_put}
use Rattle.merge_table.proofs.LookUps.{rows_from_look_ups}
use Rattle.merge_table.proofs.Room.{AreAbove}
use Rattle.merge_model.specs.Judge.ByHistory.{is_between_made, with_change_of}
use Rattle.merge_model.specs.Judge.ByNumbers.{changed_row_between, last_between}
use Rattle.merge_model.specs.History.{MadeChange}
use Rattle.merge_types.specs.RowKeys.{key_cmp}
use Rattle.merge_model.specs.Tables.Keys.{row_at, same_key}
use Rattle.merge_types.specs.declared.row_key.RowKey.{RowKey as Key}
use Rattle.merge_units.specs.declared.site_row.SubscriberRow.{SubscriberRow}
use Rattle.merge_model.proofs.Publishers.Sorted.{key_total}
use Rattle.merge_laws.specs.Facts.Numbered.{InOrder}
use Rattle.merge_laws.specs.Invariants.Unsent.{RowsTell, generations_in, last_made}
use Rattle.merge_model.proofs.Lists.KeyLookUps.{keys-same, keys-tied, none-behind, row-put}

-- By rows: what is found of a row is its last generation in the interval.

abbrev changed_rows : ℕ → ℕ → List (Key × SubscriberRow) → List (Key × ℕ)
changed_rows from to rows = filter_map (changed_row_between from to) rows

abbrev pub gens_of : Option SubscriberRow → List ℕ
gens_of found = unwrap_or (option_map (λ (row : SubscriberRow). row.generations) found) []

abbrev with_found : Key → Option ℕ → List (Key × ℕ) → List (Key × ℕ)
with_found key None rest = rest
with_found key (Some generation) rest = (key, generation) ∷ rest

rows-step : (from to : ℕ) (q : Key) (row : Key × SubscriberRow) (rows : List (Key × SubscriberRow)) (kept : List (Key × ℕ)) (last : Option ℕ) (here : Bool) → last_between from to row.1.generations ≡ last → is_at (key_cmp q) row.0 ≡ here → (here ≡ true → row_at rows q ≡ None)
    → row_at kept q ≡ last_between from to (generations_in rows q) → row_at (with_found row.0 last kept) q ≡ last_between from to (gens_of (let found : Option SubscriberRow = cond here (Some row.1) (row_at rows q) in found))
rows-step from to q row rows kept None true is at none h = h ∙ ap (λ (found : Option SubscriberRow). last_between from to (gens_of found)) (none refl) ∙ sym is
rows-step from to q row rows kept None false is at none h = h
rows-step from to q row rows kept (Some generation) true is at none h = ap (λ (b : Bool). (let found : Option ℕ = cond b (Some generation) (row_at kept q) in found)) at ∙ sym is
rows-step from to q row rows kept (Some generation) false is at none h = ap (λ (b : Bool). (let found : Option ℕ = cond b (Some generation) (row_at kept q) in found)) at ∙ h

cons-found : (key : Key) (last : Option ℕ) (rest : List (Key × ℕ)) → cons_option (option_map (λ (generation : ℕ). (let entry : Key × ℕ = (key, generation) in entry)) last) rest ≡ with_found key last rest
cons-found key None rest = refl
cons-found key (Some generation) rest = refl

changed-cons : (from to : ℕ) (row : Key × SubscriberRow) (rows : List (Key × SubscriberRow)) → changed_rows from to (row ∷ rows) ≡ with_found row.0 (last_between from to row.1.generations) (changed_rows from to rows)
changed-cons from to row rows = cons-found row.0 (last_between from to row.1.generations) (changed_rows from to rows)

pub rows-changed : (from to : ℕ) (q : Key) (rows : List (Key × SubscriberRow)) → IsStrictlySortedBy key_cmp (keys_of rows) → row_at (changed_rows from to rows) q ≡ last_between from to (generations_in rows q)
rows-changed from to q [] sorted = refl
rows-changed from to q (row ∷ rows) sorted = ap (λ (kept : List (Key × ℕ)). row_at kept q) (changed-cons from to row rows)
    ∙ rows-step from to q row rows (changed_rows from to rows) (last_between from to row.1.generations) (is_at (key_cmp q) row.0) refl refl (λ here. none-behind q row rows sorted here) (rows-changed from to q rows (sorted_tail key_cmp row.0 (keys_of rows) sorted))

-- they stay in order
above-found : (k key : Key) (last : Option ℕ) (kept : List (Key × ℕ)) → key_cmp k key ≡ Less → AreAbove key_cmp k (keys_of kept) → AreAbove key_cmp k (keys_of (with_found key last kept))
above-found k key None kept first rest = rest
above-found k key (Some generation) kept first rest = (first, rest)

ascend-found : (key : Key) (last : Option ℕ) (kept : List (Key × ℕ)) → AreAbove key_cmp key (keys_of kept) → IsStrictlySortedBy key_cmp (keys_of kept) → IsStrictlySortedBy key_cmp (keys_of (with_found key last kept))
unfolding IsStrictlySortedBy
ascend-found key None kept above rest = rest
ascend-found key (Some generation) kept above rest = (above, rest)

above-kept : (k : Key) (from to : ℕ) (rows : List (Key × SubscriberRow)) → AreAbove key_cmp k (keys_of rows) → AreAbove key_cmp k (keys_of (changed_rows from to rows))
above-kept k from to [] above = tt
above-kept k from to (row ∷ rows) above = subst (λ (kept : List (Key × ℕ)). AreAbove key_cmp k (keys_of kept)) (sym (changed-cons from to row rows)) (above-found k row.0 (last_between from to row.1.generations) (changed_rows from to rows) above.0 (above-kept k from to rows above.1))

pub rows-ascend : (from to : ℕ) (rows : List (Key × SubscriberRow)) → IsStrictlySortedBy key_cmp (keys_of rows) → IsStrictlySortedBy key_cmp (keys_of (changed_rows from to rows))
unfolding IsStrictlySortedBy
rows-ascend from to [] sorted = tt
rows-ascend from to (row ∷ rows) sorted = subst (λ (kept : List (Key × ℕ)). IsStrictlySortedBy key_cmp (keys_of kept)) (sym (changed-cons from to row rows))
    (ascend-found row.0 (last_between from to row.1.generations) (changed_rows from to rows) (above-kept row.0 from to rows sorted.0) (rows-ascend from to rows sorted.1))

-- By changes: each that comes raises the generation of its row.

abbrev best : Key → Option ℕ → List MadeChange → Option ℕ
best q most [] = most
best q most (c ∷ changes) = best q (if same_key q c.key then Some (max c.generation (unwrap_or most 0)) else most) changes

raised : (b : Bool) (q k : Key) (generation : ℕ) (rows : List (Key × ℕ)) → (b ≡ true → q ≡ k) → (if b then Some (max generation (unwrap_or (row_at rows k) 0)) else row_at rows q) ≡ (if b then Some (max generation (unwrap_or (row_at rows q) 0)) else row_at rows q)
raised true q k generation rows same = ap (λ (key : Key). (let found : Option ℕ = Some (max generation (unwrap_or (row_at rows key) 0)) in found)) (sym (same refl))
raised false q k generation rows same = refl

fold-best : (q : Key) (changes : List MadeChange) (rows : List (Key × ℕ)) → row_at (fold with_change_of rows changes) q ≡ best q (row_at rows q) changes
fold-best q [] rows = refl
fold-best q (c ∷ changes) rows = fold-best q changes (with_change_of rows c)
    ∙ ap (λ (most : Option ℕ). best q most changes) (row-put rows c.key (max c.generation (unwrap_or (row_at rows c.key) 0)) q ∙ raised (same_key q c.key) q c.key c.generation rows (λ e. keys-same q c.key e))

-- in order, later ones of the list don't raise it
stays-top : (b : Bool) (generation top : ℕ) → generation ≤ top → (let found : Option ℕ = if b then Some (max generation top) else Some top in found) ≡ Some top
stays-top true generation top up = ap (λ (n : ℕ). (let found : Option ℕ = Some n in found)) (let same : max generation top ≡ top = grind (arith, nat_tests, up) in same)
stays-top false generation top up = refl

top-step : (b : Bool) (q : Key) (top : ℕ) (c : MadeChange) (kept : List MadeChange) → c.generation ≤ top → best q (Some top) kept ≡ Some top → best q (Some top) (let all : List MadeChange = cond b (c ∷ kept) kept in all) ≡ Some top
top-step true q top c kept up h = ap (λ (most : Option ℕ). best q most kept) (stays-top (same_key q c.key) c.generation top up) ∙ h
top-step false q top c kept up h = h

best-top : (from to number generation top : ℕ) (q : Key) (made : List MadeChange) → generation ≤ top → InOrder number generation made → best q (Some top) (filter (is_between_made from to) made) ≡ Some top
best-top from to number generation top q [] up o = refl
best-top from to number generation top q (c ∷ made) up o =
    let head : c.generation ≤ generation = o.1.1.0 in
    top-step (is_between_made from to c) q top c (filter (is_between_made from to) made) (omega (arith, head, up)) (best-top from to (number - 1) c.generation top q made (omega (arith, head, up)) o.1.1.1.1)

first-top : (generation : ℕ) → max generation 0 ≡ generation
first-top generation = grind (arith, nat_tests)

found-step : (b same : Bool) (q : Key) (c : MadeChange) (kept : List MadeChange) (rest : Option MadeChange) → same_key q c.key ≡ same → best q None kept ≡ option_map (λ (change : MadeChange). change.generation) rest → best q (Some c.generation) kept ≡ Some c.generation
    → best q None (let all : List MadeChange = cond b (c ∷ kept) kept in all) ≡ option_map (λ (change : MadeChange). change.generation) (let found : Option MadeChange = cond (b && same_key q c.key) (Some c) rest in found)
found-step true true q c kept rest is h top =
    ap (λ (x : Bool). best q (if x then Some (max c.generation 0) else None) kept) is ∙ ap (λ (n : ℕ). best q (Some n) kept) (first-top c.generation) ∙ top
    ∙ ap (λ (x : Bool). option_map (λ (change : MadeChange). change.generation) (let found : Option MadeChange = cond x (Some c) rest in found)) (sym is)
found-step true false q c kept rest is h top =
    ap (λ (x : Bool). best q (if x then Some (max c.generation 0) else None) kept) is ∙ h
    ∙ ap (λ (x : Bool). option_map (λ (change : MadeChange). change.generation) (let found : Option MadeChange = cond x (Some c) rest in found)) (sym is)
found-step false same q c kept rest is h top = h

best-found : (from to number generation : ℕ) (q : Key) (made : List MadeChange) → InOrder number generation made → best q None (filter (is_between_made from to) made) ≡ last_made from to q made
best-found from to number generation q [] o = refl
best-found from to number generation q (c ∷ made) o =
    found-step (is_between_made from to c) (same_key q c.key) q c (filter (is_between_made from to) made) (find (λ (change : MadeChange). is_between_made from to change && same_key q change.key) made) refl
    (best-found from to (number - 1) c.generation q made o.1.1.1.1) (best-top from to (number - 1) c.generation c.generation q made (omega arith) o.1.1.1.1)

abbrev pub changed_made : ℕ → ℕ → List MadeChange → List (Key × ℕ)
changed_made from to made = fold with_change_of [] (filter (is_between_made from to) made)

pub made-changed : (from to number generation : ℕ) (q : Key) (made : List MadeChange) → InOrder number generation made → row_at (changed_made from to made) q ≡ last_made from to q made
made-changed from to number generation q made o = fold-best q (filter (is_between_made from to) made) [] ∙ best-found from to number generation q made o

pub fold-ascends : (changes : List MadeChange) (rows : List (Key × ℕ)) → IsStrictlySortedBy key_cmp (keys_of rows) → IsStrictlySortedBy key_cmp (keys_of (fold with_change_of rows changes))
fold-ascends [] rows sorted = sorted
fold-ascends (c ∷ changes) rows sorted = fold-ascends changes (with_change_of rows c) (sorted_put key_cmp key_total c.key _ rows sorted)

pub none-ascends : IsStrictlySortedBy key_cmp (keys_of (let none : List (Key × ℕ) = [] in none))
unfolding IsStrictlySortedBy
none-ascends = tt

-- Both are the same list.
pub changed-same : (from to received number generation : ℕ) (rows : List (Key × SubscriberRow)) (made : List MadeChange) → received ≤ from → IsStrictlySortedBy key_cmp (keys_of rows) → InOrder number generation made → RowsTell made received rows
    → changed_rows from to rows ≡ changed_made from to made
changed-same from to received number generation rows made up sorted o tells =
    rows_from_look_ups key_cmp key_total keys-tied (changed_rows from to rows) (changed_made from to made) (rows-ascend from to rows sorted) (fold-ascends (filter (is_between_made from to) made) [] none-ascends)
    (λ q. rows-changed from to q rows sorted ∙ tells.between q from to up ∙ sym (made-changed from to number generation q made o))
