-- The moves of a step at one row and site: what they are, and where nothing is told any more.
use Rattle.std.specs.Prelude.{◌≡◌, ◌==◌, ◌&&◌, ◌||◌, ℕ, List, [], ◌∷◌, Bool, true, false, not, Option, Some, None, IfSome, refl, cond, filter, filter_map, map, option_map}
use Rattle.std.specs.List.{AllByRecursion, list_any}
use Rattle.std.proofs.Common.{arith, sym, ap, ◌∙◌}
use Rattle.std.proofs.lemmas.Bool.Decides.{nat_tests}
use Rattle.merge_model.specs.Publisher.Entries.{Parts, Touched, comes_back, move_at, move_of, moves_of, returned_rows}
use Rattle.merge_model.specs.Judge.{PublisherJudge}
use Rattle.merge_model.specs.Tables.Keys.{has_key, same_key}
use Rattle.merge_types.specs.declared.row_key.RowKey.{RowKey as Key}
use Rattle.merge_gens.specs.declared.moves.MoveKind.{MoveKind}
use Rattle.merge_gens.specs.declared.moves.RowSite.{RowSite}
use Rattle.merge_model.proofs.Lists.Finding.{all-weaker}
use Rattle.merge_model.proofs.Lists.KeyLookUps.{keys-same}
use Rattle.merge_model.proofs.Lists.PlaceLookUps.{has_place, is_place}
use Rattle.merge_model.proofs.Entries.EntryLists.{all-flat, all-given, any-flat, any-given, none-flat, passes}
use Rattle.merge_model.proofs.Entries.StepParts.{IsPart}

back-none : (b a c left : Bool) → (not b && (a && c)) ≡ false → (not b && a && c && left) ≡ false
back-none true a c left out = refl
back-none false true true left out = absurd (grind (arith, out))
back-none false true false left out = refl
back-none false false c left out = refl

module _ (touched : Touched) (key : Key) (n : ℕ) (before after : List Key) where
  -- how the row moved for the site
  abbrev pub moved_here : Option MoveKind
  moved_here = move_of (has_key before key) (has_key after key) (has_key touched.changed key) ((n == touched.uploader) && has_key touched.acted key)

  abbrev moved_for : Key → Parts → Option MoveKind
  moved_for k part = move_of (has_key part.before k) (has_key part.after k) (has_key touched.changed k) ((part.site == touched.uploader) && has_key touched.acted k)

  moved-same : (k : Key) (part : Parts) → same_key key k ≡ true → (part.site == n) ≡ true → IsPart n before after part → moved_for k part ≡ moved_here
  moved-same k part same is fits =
      let site : part.site ≡ n = grind (arith, nat_tests, is) in
      sym (ap (λ (x : Key). moved_for x part) (keys-same key k same))
      ∙ ap (λ (s : ℕ). move_of (has_key part.before key) (has_key part.after key) (has_key touched.changed key) ((s == touched.uploader) && has_key touched.acted key)) site
      ∙ ap (λ (keys : List Key). move_of (has_key keys key) (has_key part.after key) (has_key touched.changed key) ((n == touched.uploader) && has_key touched.acted key)) (fits is).0
      ∙ ap (λ (keys : List Key). move_of (has_key before key) (has_key keys key) (has_key touched.changed key) ((n == touched.uploader) && has_key touched.acted key)) (fits is).1

  -- a move of this row and site is this one
  abbrev pub IsMoveHere : RowSite × MoveKind → Type 0
  IsMoveHere move = is_place key n move.0 ≡ true → moved_here ≡ Some move.1

  one-is : (k : Key) (part : Parts) (kind : Option MoveKind) → moved_for k part ≡ kind → IsPart n before after part
      → IfSome (option_map (λ (found : MoveKind). (record { key = k; site = part.site }, found)) kind) IsMoveHere
  one-is k part None is fits = tt
  one-is k part (Some kind) is fits = λ there. sym (moved-same k part (grind (arith, there)) (grind (arith, there)) fits) ∙ is

  pub moves-are : (parts : List Parts) (keys : List Key) → AllByRecursion (IsPart n before after) parts → AllByRecursion IsMoveHere (moves_of touched parts keys)
  moves-are parts keys all = all-flat IsMoveHere (λ (k : Key). filter_map (move_at touched k) parts)
      (λ k. all-given IsMoveHere (move_at touched k) parts
      (all-weaker (IsPart n before after) (λ (part : Parts). IfSome (move_at touched k part) IsMoveHere) (λ part fits. one-is k part (moved_for k part) refl fits) parts all)) keys

  abbrev pub is_here : RowSite × MoveKind → Bool
  is_here move = is_place key n move.0

  one-here : (k : Key) (part : Parts) (kind : MoveKind) → moved_here ≡ Some kind → same_key key k ≡ true → IsPart n before after part → (part.site == n) ≡ true → passes is_here (move_at touched k part) ≡ true
  one-here k part kind e same fits is =
      ap (λ (found : Option MoveKind). passes is_here (option_map (λ (x : MoveKind). (record { key = k; site = part.site }, x)) found)) (moved-same k part same is fits ∙ e)
      ∙ (let here : (same_key key k && (part.site == n)) ≡ true = grind (arith, same, is) in here)

  pub move-made : (parts : List Parts) (keys : List Key) (kind : MoveKind) → AllByRecursion (IsPart n before after) parts → list_any (λ (part : Parts). part.site == n) parts ≡ true → has_key keys key ≡ true → moved_here ≡ Some kind
      → list_any is_here (moves_of touched parts keys) ≡ true
  move-made parts keys kind all stands held e = any-flat is_here (λ (k : Key). filter_map (move_at touched k) parts) (same_key key)
      (λ k same. any-given is_here (move_at touched k) (λ (part : Parts). part.site == n) parts
      (all-weaker (IsPart n before after) (λ (part : Parts). (part.site == n) ≡ true → passes is_here (move_at touched k part) ≡ true) (λ part fits is. one-here k part kind e same fits is) parts all) stands) keys held

  -- Rows that come back.

  module _ (judge : PublisherJudge) (out : (not (has_key before key) && (has_key after key && has_key touched.changed key)) ≡ false) where
    back-here : (k : Key) (part : Parts) → same_key key k ≡ true → (part.site == n) ≡ true → IsPart n before after part → comes_back judge touched k part ≡ false
    back-here k part same is fits =
        sym (ap (λ (x : Key). comes_back judge touched x part) (keys-same key k same))
        ∙ ap (λ (keys : List Key). not (has_key keys key) && has_key part.after key && has_key touched.changed key && judge.has_left key part.site) (fits is).0
        ∙ ap (λ (keys : List Key). not (has_key before key) && has_key keys key && has_key touched.changed key && judge.has_left key part.site) (fits is).1
        ∙ back-none (has_key before key) (has_key after key) (has_key touched.changed key) (judge.has_left key part.site) out

    abbrev place_for : Key → Parts → RowSite
    place_for k part = record { key = k; site = part.site }

    not-here : (k : Key) (part : Parts) (t : Bool) → is_place key n (place_for k part) ≡ t → comes_back judge touched k part ≡ true → IsPart n before after part → t ≡ false
    not-here k part true is back fits = absurd (grind (arith, back, back-here k part (grind (arith, is)) (grind (arith, is)) fits))
    not-here k part false is back fits = refl

    back-head : (k : Key) (part : Parts) (rest : List Parts) (b : Bool) → comes_back judge touched k part ≡ b → IsPart n before after part → list_any (is_place key n) (map (place_for k) rest) ≡ false
        → (let kept : List Parts = cond b (part ∷ rest) rest in list_any (is_place key n) (map (place_for k) kept) ≡ false)
    back-head k part rest true back fits none = ap (λ (b : Bool). b || list_any (is_place key n) (map (place_for k) rest)) (not-here k part (is_place key n (place_for k part)) refl back fits) ∙ none
    back-head k part rest false back fits none = none

    back-none_here : (k : Key) (parts : List Parts) → AllByRecursion (IsPart n before after) parts → list_any (is_place key n) (map (place_for k) (filter (comes_back judge touched k) parts)) ≡ false
    back-none_here k [] all = refl
    back-none_here k (part ∷ parts) all = back-head k part (filter (comes_back judge touched k) parts) (comes_back judge touched k part) refl all.0 (back-none_here k parts all.1)

    pub none-returned : (parts : List Parts) (keys : List Key) → AllByRecursion (IsPart n before after) parts → has_place (returned_rows judge touched parts keys) key n ≡ false
    none-returned parts keys all = none-flat (is_place key n) (λ (k : Key). map (place_for k) (filter (comes_back judge touched k) parts)) (λ k. back-none_here k parts all) keys
