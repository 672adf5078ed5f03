-- What was touched in one generation has an entry there, so that it fits into a reply.
use Rattle.std.specs.List.{cons_option, list_any}
use Rattle.std.specs.List.Sorted.{IsStrictlySortedBy}
use Rattle.std.specs.Prelude.{Bool, List, None, Option, Some, [], cond, count_by, false, filter_map, find, max, nat_le, nat_lt, option_map, refl, true, ℕ, ◌&&◌, ◌+◌, ◌<◌, ◌≡◌, ◌≤◌, ◌||◌, ◌∷◌}
use Rattle.std.specs.declared.cmp.Ordering.TheVariants.{Less}
use Rattle.std.proofs.Common.{ap, arith, subst, sym, ◌∙◌}
use Rattle.std.proofs.Math.Bool.{and-false}
use Rattle.std.proofs.lemmas.Bool.Decides.{nat_tests}
use Rattle.std.proofs.lemmas.List.Sums.{sum_by-cons}
use Rattle.merge_table.proofs.Room.{AreAbove}
use Rattle.merge_types.specs.RowKeys.{key_cmp}
use Rattle.merge_types.specs.declared.identifiers.SiteId.{SiteId}
use Rattle.merge_types.specs.declared.row_key.RowKey.{RowKey as Key}
use Rattle.merge_model.specs.Judge.ByHistory.{is_change_of, is_line_for, last_line, touch_by_line, touched_inside, touched_outside}
use Rattle.merge_model.specs.History.{Changed, EnteredFor, GoneFor, History, LeftFor, Line, LineKind}
use Rattle.merge_model.specs.Judge.{PublisherJudge}
use Rattle.merge_model.specs.Tables.Keys.{has_key, same_key}
use Rattle.merge_model.specs.Publisher.PublisherDownload.{TouchedRow, is_between, touched_row}
use Rattle.merge_honest.specs.Entered.{entries_in, is_entry, stands_in}
use Rattle.merge_honest.proofs.EntriesFill.{entries-cons}

-- an entry of a row in a generation
abbrev pub is_entry_of : ℕ → Key → Line → Bool
is_entry_of generation key line = same_key key line.key && stands_in generation line

abbrev pub HasEntry : List Line → Key → ℕ → Type 0
HasEntry lines key generation = list_any (is_entry_of generation key) lines ≡ true

-- What is found is there.

found-step : (test other : Line → Bool) (x line : Line) (found : Option Line) (rest b : Bool) → ((y : Line) → y ≡ line → test y ≡ true → other y ≡ true) → test x ≡ b → (found ≡ Some line → rest ≡ true) → cond b (Some x) found ≡ Some line → (other x || rest) ≡ true
found-step test other x line found rest true each is more e = let same : x ≡ line = cc in let here = each x same is in grind (arith, here)
found-step test other x line found rest false each is more e = let there = more e in grind (arith, there)

found-any : (test other : Line → Bool) (lines : List Line) (line : Line) → ((y : Line) → y ≡ line → test y ≡ true → other y ≡ true) → find test lines ≡ Some line → list_any other lines ≡ true
found-any test other [] line each e = absurd cc
found-any test other (x ∷ lines) line each e = found-step test other x line (find test lines) (list_any other lines) (test x) each refl (λ there. found-any test other lines line each there) e

-- A row's last change, and its last line for a site where it tells of a move.

change-stands : (key k : Key) (kind : LineKind) (generation : ℕ) → is_change_of key (record { key = k; kind = kind; generation = generation }) ≡ true → (same_key key k && is_entry kind) ≡ true
change-stands key k Changed generation is = is
change-stands key k (EnteredFor site) generation is = absurd (grind (arith, nat_tests, is))
change-stands key k (LeftFor site) generation is = absurd (grind (arith, nat_tests, is))
change-stands key k (GoneFor site) generation is = absurd (grind (arith, nat_tests, is))

stands-here : (key : Key) (line y : Line) → y ≡ line → (same_key key y.key && is_entry y.kind) ≡ true → is_entry_of line.generation key y ≡ true
stands-here key line y same is = let here : y.generation ≡ line.generation = ap (λ (x : Line). x.generation) same in grind (arith, nat_tests, here, is)

change-there : (lines : List Line) (key : Key) (line : Line) → find (is_change_of key) lines ≡ Some line → HasEntry lines key line.generation
change-there lines key line e = found-any (is_change_of key) (is_entry_of line.generation key) lines line (λ y same is. stands-here key line y same (change-stands key y.key y.kind y.generation is)) e

line-key : (key k : Key) (site : ℕ) (b : Bool) → (same_key key k && b) ≡ true → same_key key k ≡ true
line-key key k site b is = grind (arith, is)

move-there : (lines : List Line) (key : Key) (site : ℕ) (line : Line) → is_entry line.kind ≡ true → find (is_line_for key site) lines ≡ Some line → HasEntry lines key line.generation
move-there lines key site line entry e = found-any (is_line_for key site) (is_entry_of line.generation key) lines line
    (λ y same is. (let kind : is_entry y.kind ≡ true = ap (λ (x : Line). is_entry x.kind) same ∙ entry in
    let row : same_key key y.key ≡ true = line-key key y.key site _ is in
    stands-here key line y same (grind (arith, kind, row)))) e

greater-of : (P : ℕ → Type 0) (a b : ℕ) → P a → P b → P (max a b)
greater-of P a b first second = elim (nat_le a b) as (λ (c : Bool). nat_le a b ≡ c → P (max a b)) [
  | true ↦ (λ e. (let is : max a b ≡ b = grind (arith, nat_tests, e) in subst P (sym is) second))
  | false ↦ (λ e. (let is : max a b ≡ a = grind (arith, nat_tests, e) in subst P (sym is) first))
] refl

module _ (lines : List Line) (key : Key) (site : ℕ) where
  kind-inside : (changed generation : ℕ) (k : Key) (kind : LineKind) → HasEntry lines key changed → (is_entry kind ≡ true → HasEntry lines key generation)
      → HasEntry lines key (touched_inside changed (Some (record { key = k; kind = kind; generation = generation })))
  kind-inside changed generation k Changed first second = first
  kind-inside changed generation k (EnteredFor other) first second = greater-of (HasEntry lines key) changed generation first (second refl)
  kind-inside changed generation k (LeftFor other) first second = first
  kind-inside changed generation k (GoneFor other) first second = first

  found-inside : (changed : ℕ) (found : Option Line) → find (is_line_for key site) lines ≡ found → HasEntry lines key changed → HasEntry lines key (touched_inside changed found)
  found-inside changed None e first = first
  found-inside changed (Some line) e first = kind-inside changed line.generation line.key line.kind first (λ entry. move-there lines key site line entry e)

  change-inside : (found : Option Line) (generation : ℕ) → find (is_change_of key) lines ≡ found
      → option_map (λ (changed : ℕ). touched_inside changed (find (is_line_for key site) lines)) (option_map (λ (line : Line). line.generation) found) ≡ Some generation → HasEntry lines key generation
  change-inside None generation e is = absurd cc
  change-inside (Some line) generation e is =
      let same : touched_inside line.generation (find (is_line_for key site) lines) ≡ generation = cc in
      subst (HasEntry lines key) same (found-inside line.generation (find (is_line_for key site) lines) refl (change-there lines key line e))

  kind-outside : (at generation : ℕ) (k : Key) (kind : LineKind) → (is_entry kind ≡ true → HasEntry lines key at) → touched_outside (Some (record { key = k; kind = kind; generation = at })) ≡ Some generation → HasEntry lines key generation
  kind-outside at generation k Changed there is = absurd cc
  kind-outside at generation k (EnteredFor other) there is = absurd cc
  kind-outside at generation k (LeftFor other) there is = let same : at ≡ generation = cc in subst (HasEntry lines key) same (there refl)
  kind-outside at generation k (GoneFor other) there is = absurd cc

  found-outside : (found : Option Line) (generation : ℕ) → find (is_line_for key site) lines ≡ found → touched_outside found ≡ Some generation → HasEntry lines key generation
  found-outside None generation e is = absurd cc
  found-outside (Some line) generation e is = kind-outside line.generation generation line.key line.kind (λ entry. move-there lines key site line entry e) is

touched-there : (h : History) (key : Key) (site : ℕ) (is_in : Bool) (generation : ℕ) → touch_by_line h key site is_in ≡ Some generation → HasEntry h.lines key generation
touched-there h key site true generation is = change-inside h.lines key site (find (is_change_of key) h.lines) generation refl is
touched-there h key site false generation is = found-outside h.lines key site (last_line h key site) generation refl is

-- Keys that are each of an entry are no more than the entries.

module _ (a b : Key → Bool) where
  either-one : (key : Key) (n m k : ℕ) → n ≤ m + k → cond (a key || b key) 1 0 + n ≤ cond (a key) 1 0 + m + (cond (b key) 1 0 + k)
  either-one key n m k up = grind (arith, nat_tests, up)

  either-few : (keys : List Key) → count_by (λ (key : Key). a key || b key) keys ≤ count_by a keys + count_by b keys
  either-few [] = omega arith
  either-few (key ∷ keys) =
      let all = sum_by-cons (λ (x : Key). cond (a x || b x) 1 0) key keys in
      let first = sum_by-cons (λ (x : Key). cond (a x) 1 0) key keys in
      let second = sum_by-cons (λ (x : Key). cond (b x) 1 0) key keys in
      let step = either-one key (count_by (λ (x : Key). a x || b x) keys) (count_by a keys) (count_by b keys) (either-few keys) in
      omega (arith, all, first, second, step)

none-of : (test : Key → Bool) → ((key : Key) → test key ≡ false) → (keys : List Key) → count_by test keys ≡ 0
none-of test none [] = refl
none-of test none (key ∷ keys) =
    let first = sum_by-cons (λ (x : Key). cond (test x) 1 0) key keys in
    let no = none key in
    let rest = none-of test none keys in
    grind (arith, nat_tests, first, no, rest)

-- a row stands once among keys in order
above-other : (key x k : Key) → same_key key k ≡ true → key_cmp key x ≡ Less → same_key x k ≡ false
above-other key x k same less = grind (arith, nat_tests, same, less)

above-none : (key k : Key) (keys : List Key) → same_key key k ≡ true → AreAbove key_cmp key keys → count_by (λ (x : Key). same_key x k) keys ≡ 0
above-none key k [] same above = refl
above-none key k (x ∷ keys) same above =
    let first = sum_by-cons (λ (y : Key). cond (same_key y k) 1 0) x keys in
    let no = above-other key x k same above.0 in
    let rest = above-none key k keys same above.1 in
    grind (arith, nat_tests, first, no, rest)

once-step : (b : Bool) (count : ℕ) → count ≤ 1 → (b ≡ true → count ≡ 0) → cond b 1 0 + count ≤ 1
once-step true count up none = let no = none refl in omega (arith, no)
once-step false count up none = omega (arith, up)

key-once : (k : Key) (keys : List Key) → IsStrictlySortedBy key_cmp keys → count_by (λ (x : Key). same_key x k) keys ≤ 1
unfolding IsStrictlySortedBy
key-once k [] sorted = omega arith
key-once k (key ∷ keys) sorted =
    let first = sum_by-cons (λ (y : Key). cond (same_key y k) 1 0) key keys in
    let step = once-step (same_key key k) (count_by (λ (x : Key). same_key x k) keys) (key-once k keys sorted.1) (λ same. above-none key k keys same sorted.0) in
    omega (arith, first, step)

-- where the line is an entry, whose key it is decides
and-true : (b : Bool) → (b && true) ≡ b
and-true true = refl
and-true false = refl

counted-same : (test other : Key → Bool) → ((key : Key) → test key ≡ other key) → (keys : List Key) → count_by test keys ≡ count_by other keys
counted-same test other each [] = refl
counted-same test other each (key ∷ keys) =
    sum_by-cons (λ (x : Key). cond (test x) 1 0) key keys ∙ ap (λ (b : Bool). cond b 1 0 + count_by test keys) (each key)
    ∙ ap (λ (count : ℕ). cond (other key) 1 0 + count) (counted-same test other each keys) ∙ sym (sum_by-cons (λ (x : Key). cond (other x) 1 0) key keys)

line-once : (k : Key) (keys : List Key) (b : Bool) → IsStrictlySortedBy key_cmp keys → count_by (λ (x : Key). same_key x k && b) keys ≤ cond b 1 0
line-once k keys true sorted = subst (λ (count : ℕ). count ≤ 1) (sym (counted-same (λ (x : Key). same_key x k && true) (λ (x : Key). same_key x k) (λ x. and-true (same_key x k)) keys)) (key-once k keys sorted)
line-once k keys false sorted = let none = none-of (λ (x : Key). same_key x k && false) (λ x. and-false (same_key x k)) keys in omega (arith, none)

pub keys-few : (generation : ℕ) (keys : List Key) (lines : List Line) → IsStrictlySortedBy key_cmp keys → count_by (λ (key : Key). list_any (is_entry_of generation key) lines) keys ≤ entries_in lines generation
keys-few generation keys [] sorted = let none = none-of (λ (key : Key). false) (λ key. refl) keys in omega (arith, none)
keys-few generation keys (line ∷ lines) sorted =
    let either = either-few (λ (key : Key). is_entry_of generation key line) (λ (key : Key). list_any (is_entry_of generation key) lines) keys in
    let one = line-once line.key keys (stands_in generation line) sorted in
    let rest = keys-few generation keys lines sorted in
    let all = entries-cons generation line lines in
    omega (arith, either, one, rest, all)

-- The rows that were touched for a site.

not-between : (from generation : ℕ) → (generation ≡ from + 1 → ⊥) → (let counted : ℕ = cond (nat_lt from generation && nat_le generation (from + 1)) 1 0 in counted ≡ 0)
not-between from generation differs = elim (nat_lt from generation && nat_le generation (from + 1)) as (λ (b : Bool). (nat_lt from generation && nat_le generation (from + 1)) ≡ b → (let counted : ℕ = cond b 1 0 in counted ≡ 0)) [
  | true ↦ (λ e. absurd (differs (let low : from < generation = grind (arith, nat_tests, e) in let up : generation ≤ from + 1 = grind (arith, nat_tests, e) in omega (arith, low, up))))
  | false ↦ (λ e. refl)
] refl

module _ (h : History) (judge : PublisherJudge) (site : SiteId) (inside : List Key) (by_lines : (key : Key) (is_in : Bool) → judge.touch key site.0 is_in ≡ touch_by_line h key site.0 is_in) where
  row-counted : (key : Key) (is_in : Bool) (from : ℕ) (found : Option ℕ) (rows : List TouchedRow) (b : Bool) (count : ℕ) → list_any (is_entry_of (from + 1) key) h.lines ≡ b → touch_by_line h key site.0 is_in ≡ found → count_by (is_between from (from + 1)) rows ≤ count
      → count_by (is_between from (from + 1)) (cons_option (option_map (λ (generation : ℕ). (let row : TouchedRow = record { key = key; is_in = is_in; generation = generation } in row)) found) rows) ≤ cond b 1 0 + count
  row-counted key is_in from None rows b count is found up = omega (arith, up)
  row-counted key is_in from (Some generation) rows true count is found up =
      let row : TouchedRow = record { key = key; is_in = is_in; generation = generation } in
      let first = sum_by-cons (λ (x : TouchedRow). cond (is_between from (from + 1) x) 1 0) row rows in
      let one : cond (is_between from (from + 1) row) 1 0 ≤ 1 = grind (arith, nat_tests) in
      omega (arith, first, one, up)
  row-counted key is_in from (Some generation) rows false count is found up =
      let row : TouchedRow = record { key = key; is_in = is_in; generation = generation } in
      let first = sum_by-cons (λ (x : TouchedRow). cond (is_between from (from + 1) x) 1 0) row rows in
      let there : HasEntry h.lines key generation = touched-there h key site.0 is_in generation found in
      let differs : generation ≡ from + 1 → ⊥ = λ same. (let both : false ≡ true = sym is ∙ subst (HasEntry h.lines key) same there in absurd cc) in
      let none = not-between from generation differs in
      omega (arith, first, none, up)

  rows-counted : (from : ℕ) (keys : List Key) → count_by (is_between from (from + 1)) (filter_map (touched_row judge site inside) keys) ≤ count_by (λ (key : Key). list_any (is_entry_of (from + 1) key) h.lines) keys
  rows-counted from [] = omega arith
  rows-counted from (key ∷ keys) =
      let is_in : Bool = has_key inside key in
      let rows : List TouchedRow = filter_map (touched_row judge site inside) keys in
      let all = sum_by-cons (λ (x : Key). cond (list_any (is_entry_of (from + 1) x) h.lines) 1 0) key keys in
      let here = row-counted key is_in from (judge.touch key site.0 is_in) rows (list_any (is_entry_of (from + 1) key) h.lines) (count_by (λ (x : Key). list_any (is_entry_of (from + 1) x) h.lines) keys) refl (sym (by_lines key is_in)) (rows-counted from keys) in
      omega (arith, all, here)

  pub touched-few : (from : ℕ) (keys : List Key) → IsStrictlySortedBy key_cmp keys → count_by (is_between from (from + 1)) (filter_map (touched_row judge site inside) keys) ≤ entries_in h.lines (from + 1)
  touched-few from keys sorted =
      let rows = rows-counted from keys in
      let few = keys-few (from + 1) keys h.lines sorted in
      omega (arith, rows, few)
