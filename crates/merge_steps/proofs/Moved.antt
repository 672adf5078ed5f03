-- The moves of a step as a map: what is found at a row and site, and their order.
use Rattle.std.specs.Prelude.{◌≡◌, ◌==◌, ◌&&◌, ◌||◌, ◌++◌, ℕ, List, [], ◌∷◌, Bool, true, false, Option, Some, None, refl, cond, filter_map, flat_map, map, option_map}
use Rattle.std.specs.BTreeMap.{is_at}
use Rattle.std.specs.List.{AllByRecursion, cons_option, list_any}
use Rattle.std.specs.List.Sorted.{IsStrictlySortedBy}
use Rattle.std.specs.Map.{keys_of, lookup}
use Rattle.std.specs.Ordering.{nat_cmp}
use Rattle.std.specs.Cmp.{IsTotalOrder, then_total, on_total, nat_cmp_total}
use Rattle.std.specs.declared.cmp.Ordering.{Ordering}
use Rattle.std.specs.declared.cmp.Ordering.TheVariants.{Less}
use Rattle.std.proofs.Common.{arith, sym, ap, ◌∙◌}
use Rattle.std.proofs.lemmas.Bool.Decides.{nat_tests}
use Rattle.merge_types.specs.declared.identifiers.RowId.{RowId}
use Rattle.merge_types.specs.declared.row_key.RowKey.{RowKey as Key}
use Rattle.merge_gens.specs.declared.moves.RowSite.{RowSite}
use Rattle.merge_gens.specs.declared.moves.MoveKind.{MoveKind}
use Rattle.merge_model.specs.Tables.Keys.{at_row_site, has_key, same_key}
use Rattle.merge_types.specs.RowKeys.{key_cmp}
use Rattle.merge_gens.specs.Moves.{row_site_cmp}
use Rattle.merge_model.specs.Publisher.Entries.{Parts, Touched, move_at, move_of, moves_of}
use Rattle.merge_model.proofs.Lists.KeyLookUps.{keys-same}
use Rattle.merge_model.proofs.Lists.{all-append}
use Rattle.merge_steps.specs.Tie.{Says, moved_for}

abbrev pub place : Key → ℕ → RowSite
place key site = record { key = key; site = site }

pub place-is : (q : RowSite) (key : Key) (site : ℕ) → is_at (row_site_cmp q) (place key site) ≡ (same_key q.key key && (site == q.site))
place-is q key site = grind (arith, nat_tests)

-- what is found in two lists one behind the other
abbrev pub or_else : {A : Type 0} → Option A → Option A → Option A
or_else (Some a) other = Some a
or_else None other = other

found-head : {V : Type 0} (b : Bool) (v : V) (found other : Option V) → cond b (Some v) (or_else found other) ≡ or_else (cond b (Some v) found) other
found-head true v found other = refl
found-head false v found other = refl

pub lookup-append : {K V : Type 0} (test : K → Bool) (xs ys : List (K × V)) → lookup test (xs ++ ys) ≡ or_else (lookup test xs) (lookup test ys)
lookup-append test [] ys = refl
lookup-append {V = V} test (x ∷ xs) ys =
    ap (λ (o : Option V). (let found : Option V = cond (test x.0) (Some x.1) o in found)) (lookup-append test xs ys) ∙ found-head (test x.0) x.1 (lookup test xs) (lookup test ys)

module _ (touched : Touched) where
  abbrev pub block : Key → List Parts → List (RowSite × MoveKind)
  block k parts = filter_map (move_at touched k) parts

  -- of another row nothing is found
  other-head : (q : RowSite) (k : Key) (site : ℕ) (kind : Option MoveKind) (rest : List (RowSite × MoveKind)) → same_key q.key k ≡ false → at_row_site rest q ≡ None
      → at_row_site (cons_option (option_map (λ (x : MoveKind). (place k site, x)) kind) rest) q ≡ None
  other-head q k site None rest other none = none
  other-head q k site (Some kind) rest other none =
      let here : is_at (row_site_cmp q) (place k site) ≡ false = grind (arith, place-is q k site, other) in
      ap (λ (b : Bool). (let found : Option MoveKind = cond b (Some kind) (at_row_site rest q) in found)) here ∙ none

  block-other : (q : RowSite) (k : Key) (parts : List Parts) → same_key q.key k ≡ false → at_row_site (block k parts) q ≡ None
  block-other q k [] other = refl
  block-other q k (p ∷ parts) other = other-head q k p.site (moved_for touched k p) (block k parts) other (block-other q k parts other)

  -- of the row itself, what its parts for the site say
  same-head : (q : RowSite) (k : Key) (site : ℕ) (kind here : Option MoveKind) (more b : Bool) (rest : List (RowSite × MoveKind)) → same_key q.key k ≡ true → (site == q.site) ≡ b → (b ≡ true → kind ≡ here)
      → at_row_site rest q ≡ cond more here None → at_row_site (cons_option (option_map (λ (x : MoveKind). (place k site, x)) kind) rest) q ≡ cond (b || more) here None
  same-head q k site None here more true rest same is fits found = found ∙ (let none : None ≡ here = fits refl in elim more as (λ (m : Bool). (let e : Option MoveKind = cond m here None in e) ≡ here) [ true ↦ refl | false ↦ none ])
  same-head q k site None here more false rest same is fits found = found
  same-head q k site (Some kind) here more true rest same is fits found =
      let at : is_at (row_site_cmp q) (place k site) ≡ true = grind (arith, place-is q k site, same, is) in
      ap (λ (c : Bool). (let o : Option MoveKind = cond c (Some kind) (at_row_site rest q) in o)) at ∙ fits refl
  same-head q k site (Some kind) here more false rest same is fits found =
      let at : is_at (row_site_cmp q) (place k site) ≡ false = grind (arith, place-is q k site, same, is) in
      ap (λ (c : Bool). (let o : Option MoveKind = cond c (Some kind) (at_row_site rest q) in o)) at ∙ found

  block-same : (q : RowSite) (k : Key) (here : Option MoveKind) (parts : List Parts) → same_key q.key k ≡ true → AllByRecursion (Says touched q.site k here) parts
      → at_row_site (block k parts) q ≡ cond (list_any (λ (p : Parts). p.site == q.site) parts) here None
  block-same q k here [] same each = refl
  block-same q k here (p ∷ parts) same each =
      same-head q k p.site (moved_for touched k p) here (list_any (λ (p : Parts). p.site == q.site) parts) (p.site == q.site) (block k parts) same refl each.0 (block-same q k here parts same each.1)

  joined-true : (here : Option MoveKind) (more any : Bool) → or_else (let one : Option MoveKind = cond any here None in one) (cond (more && any) here None) ≡ cond any here None
  joined-true None more true = elim more as (λ (m : Bool). (let e : Option MoveKind = cond (m && true) None None in e) ≡ None) [ true ↦ refl | false ↦ refl ]
  joined-true (Some kind) more true = refl
  joined-true here true false = refl
  joined-true here false false = refl

  says-for : (q : RowSite) (k : Key) (here : Option MoveKind) (parts : List Parts) → q.key ≡ k → AllByRecursion (Says touched q.site q.key here) parts → AllByRecursion (Says touched q.site k here) parts
  says-for q k here parts same each = rw (← same) each

  moves-step : (q : RowSite) (k : Key) (keys : List Key) (here : Option MoveKind) (parts : List Parts) (b : Bool) → same_key q.key k ≡ b → AllByRecursion (Says touched q.site q.key here) parts
      → at_row_site (moves_of touched parts keys) q ≡ cond (has_key keys q.key && list_any (λ (p : Parts). p.site == q.site) parts) here None
      → at_row_site (moves_of touched parts (k ∷ keys)) q ≡ cond ((b || has_key keys q.key) && list_any (λ (p : Parts). p.site == q.site) parts) here None
  moves-step q k keys here parts true same each rest =
      lookup-append (is_at (row_site_cmp q)) (block k parts) (moves_of touched parts keys)
      ∙ ap (λ (o : Option MoveKind). or_else o (at_row_site (moves_of touched parts keys) q)) (block-same q k here parts same (says-for q k here parts (keys-same q.key k same) each))
      ∙ ap (λ (o : Option MoveKind). or_else (let one : Option MoveKind = cond (list_any (λ (p : Parts). p.site == q.site) parts) here None in one) o) rest
      ∙ joined-true here (has_key keys q.key) (list_any (λ (p : Parts). p.site == q.site) parts)
  moves-step q k keys here parts false same each rest =
      lookup-append (is_at (row_site_cmp q)) (block k parts) (moves_of touched parts keys)
      ∙ ap (λ (o : Option MoveKind). or_else o (at_row_site (moves_of touched parts keys) q)) (block-other q k parts same)
      ∙ rest

  -- what is found among the moves at a row and site
  pub moves-found : (q : RowSite) (keys : List Key) (here : Option MoveKind) (parts : List Parts) → AllByRecursion (Says touched q.site q.key here) parts
      → at_row_site (moves_of touched parts keys) q ≡ cond (has_key keys q.key && list_any (λ (p : Parts). p.site == q.site) parts) here None
  moves-found q [] here parts each = refl
  moves-found q (k ∷ keys) here parts each = moves-step q k keys here parts (same_key q.key k) refl each (moves-found q keys here parts each)

  -- The order.

  abbrev Below : RowSite → RowSite × MoveKind → Type 0
  Below p x = row_site_cmp p x.0 ≡ Less

  below-head : (p : RowSite) (k : Key) (site : ℕ) (kind : Option MoveKind) (rest : List (RowSite × MoveKind)) → row_site_cmp p (place k site) ≡ Less → AllByRecursion (Below p) rest
      → AllByRecursion (Below p) (cons_option (option_map (λ (x : MoveKind). (place k site, x)) kind) rest)
  below-head p k site None rest less all = all
  below-head p k site (Some kind) rest less all = (less, all)

  -- by site in a block
  site-less : (k : Key) (n s : ℕ) → nat_cmp n s ≡ Less → row_site_cmp (place k n) (place k s) ≡ Less
  site-less k n s less = grind (arith, nat_tests, less)

  block-above : (k : Key) (n : ℕ) (parts : List Parts) → AllByRecursion (λ (s : ℕ). nat_cmp n s ≡ Less) (map (λ (p : Parts). p.site) parts) → AllByRecursion (Below (place k n)) (block k parts)
  block-above k n [] all = tt
  block-above k n (p ∷ parts) all = below-head (place k n) k p.site (moved_for touched k p) (block k parts) (site-less k n p.site all.0) (block-above k n parts all.1)

  -- and by row between blocks
  row-less : (p : RowSite) (k : Key) (s : ℕ) → key_cmp p.key k ≡ Less → row_site_cmp p (place k s) ≡ Less
  row-less p k s less = grind (arith, nat_tests, less)

  block-later : (p : RowSite) (k : Key) (parts : List Parts) → key_cmp p.key k ≡ Less → AllByRecursion (Below p) (block k parts)
  block-later p k [] less = tt
  block-later p k (part ∷ parts) less = below-head p k part.site (moved_for touched k part) (block k parts) (row-less p k part.site less) (block-later p k parts less)

  moves-later : (p : RowSite) (parts : List Parts) (keys : List Key) → AllByRecursion (λ (k : Key). key_cmp p.key k ≡ Less) keys → AllByRecursion (Below p) (moves_of touched parts keys)
  moves-later p parts [] all = tt
  moves-later p parts (k ∷ keys) all = all-append (Below p) (block k parts) (moves_of touched parts keys) (block-later p k parts all.0) (moves-later p parts keys all.1)

  keyed : (p : RowSite) (xs : List (RowSite × MoveKind)) → AllByRecursion (Below p) xs → AllByRecursion (λ (y : RowSite). row_site_cmp p y ≡ Less) (keys_of xs)
  keyed p [] all = tt
  keyed p (x ∷ xs) all = (all.0, keyed p xs all.1)

  abbrev Ascends : List (RowSite × MoveKind) → Type 0
  Ascends xs = IsStrictlySortedBy row_site_cmp (keys_of xs)

  -- a block in front of what is behind all of it
  head-sorted : (k : Key) (site : ℕ) (kind : Option MoveKind) (rest : List (RowSite × MoveKind)) → AllByRecursion (Below (place k site)) rest → Ascends rest → Ascends (cons_option (option_map (λ (x : MoveKind). (place k site, x)) kind) rest)
  unfolding IsStrictlySortedBy
  head-sorted k site None rest above sorted = sorted
  head-sorted k site (Some kind) rest above sorted = (keyed (place k site) rest above, sorted)

  move-front : (k : Key) (site : ℕ) (kind : Option MoveKind) (xs ys : List (RowSite × MoveKind)) → cons_option (option_map (λ (x : MoveKind). (place k site, x)) kind) xs ++ ys ≡ cons_option (option_map (λ (x : MoveKind). (place k site, x)) kind) (xs ++ ys)
  move-front k site None xs ys = refl
  move-front k site (Some kind) xs ys = refl

  front-sorted : (k : Key) (parts : List Parts) (rest : List (RowSite × MoveKind)) → IsStrictlySortedBy nat_cmp (map (λ (p : Parts). p.site) parts) → ((site : ℕ) → AllByRecursion (Below (place k site)) rest) → Ascends rest → Ascends (block k parts ++ rest)
  unfolding IsStrictlySortedBy
  front-sorted k [] rest sites above sorted = sorted
  front-sorted k (p ∷ parts) rest sites above sorted =
      rw (move-front k p.site (moved_for touched k p) (block k parts) rest)
      (head-sorted k p.site (moved_for touched k p) (block k parts ++ rest)
      (all-append (Below (place k p.site)) (block k parts) rest (block-above k p.site parts sites.0) (above p.site)) (front-sorted k parts rest sites.1 above sorted))

  -- the moves ascend by row and site
  pub moves-ascend : (parts : List Parts) (keys : List Key) → IsStrictlySortedBy nat_cmp (map (λ (p : Parts). p.site) parts) → IsStrictlySortedBy key_cmp keys → Ascends (moves_of touched parts keys)
  unfolding IsStrictlySortedBy
  moves-ascend parts [] sites sorted = tt
  moves-ascend parts (k ∷ keys) sites sorted =
      front-sorted k parts (moves_of touched parts keys) sites (λ site. moves-later (place k site) parts keys sorted.0) (moves-ascend parts keys sites sorted.1)
