-- Subscribers by their sites.
use Rattle.std.proofs.Common.{◌≡◌, ◌≤◌, ◌<◌, ◌-◌, ◌==◌, ℕ, suc, Bool, true, false, cond, List, [], ◌∷◌, Some, None, get_or, length, map, option_map, refl, ap, sym, subst, ◌∙◌, arith, ltb}
use Rattle.std.specs.List.{last_or, position, position_or_len, slice_get}
use Rattle.std.proofs.lemmas.Bool.Decides.{nat_tests}
use Rattle.std.proofs.lemmas.List.{get_or-map, length-map}
use Rattle.std.proofs.lemmas.List.Quantifiers.{position-Some}
use Rattle.merge_types.specs.declared.changes.Change.{Change}
use Rattle.merge_types.specs.declared.identifiers.Moment.{Moment}
use Rattle.merge_types.specs.declared.identifiers.SiteId.{SiteId}
use Rattle.merge_schema.specs.declared.publication.Publication.{Publication}
use Rattle.merge_batch.specs.Articles.{has_article}
use Rattle.merge_batch.specs.LocalChanges.{article_of}
use Rattle.merge_model.specs.Tables.Keys.{at_number}
use Rattle.merge_model.specs.World.{subscriber_at}
use Rattle.merge_model.specs.declared.letter.Letter.{Letter}
use Rattle.merge_world.specs.Naming.{IsPlaced}
use Rattle.merge_world.specs.Sessions.{last_in}
use Rattle.merge_world.specs.Views.{IsOrdered, PublisherView, SubscriberView, entry_of, site_of, sites_view, world_of}
use Rattle.merge_world.proofs.Doing.{found-at, publication-at}

-- no member passes the test
abbrev AllFail : {X : Type 0} → (X → Bool) → List X → Type 0
AllFail p [] = Unit {0}
AllFail p (x ∷ xs) = (p x ≡ false) × AllFail p xs

cond_none : (b : Bool) (n : ℕ) → cond b (Some n) None ≡ None → b ≡ false
cond_none true n e = absurd cc
cond_none false n e = refl

not_below : (a b : ℕ) → ltb a b ≡ false → b ≤ a
not_below a b e = grind (arith, nat_tests)

none_fails : {X : Type 0} (p : X → Bool) (xs : List X) → length xs ≤ position_or_len p xs → AllFail p xs
none_fails p [] h = tt
none_fails p (x ∷ xs) h = by (p x) refl (none_fails p xs)
  where
    by : (b : Bool) → p x ≡ b → (length xs ≤ position_or_len p xs → AllFail p xs) → (p x ≡ false) × AllFail p xs
    by true e ih = absurd (let k = rw e at h in omega arith)
    by false e ih = (e, ih (let k = rw e at h in omega arith))

all_fail : {X : Type 0} (p : X → Bool) (xs : List X) → position p xs ≡ None → AllFail p xs
all_fail p xs e = none_fails p xs (not_below (position_or_len p xs) (length xs) (cond_none (ltb (position_or_len p xs) (length xs)) (position_or_len p xs) e))

same-number : (a b : ℕ) → (a == b) ≡ true → b ≡ a
same-number a b e = grind (arith, nat_tests)

module _ {S : Type 0} (f : S → SubscriberView) where
  abbrev pub is_of : ℕ → S → Bool
  is_of site x = (f x).tables.site.0 == site

  nowhere : (site : ℕ) (items : List S) → AllFail (is_of site) items → at_number (map entry_of (map f items)) site ≡ None
  nowhere site [] fail = refl
  nowhere site (x ∷ items) fail = let rest = nowhere site items fail.1 in let first = fail.0 in grind (arith, nat_tests, first, rest)

  -- a site that no subscriber has
  pub unfound : (p : PublisherView) (pool : List Letter) (moment : Moment) (items : List S) (site : SiteId) (tallies : List ℕ) → None ≡ position (is_of site.0) items
      → subscriber_at (world_of (sites_view p (map f items) pool moment) tallies) site ≡ None
  unfound p pool moment items site tallies none = nowhere site.0 items (all_fail (is_of site.0) items (sym none))

  pub at-place : (items : List S) (i : ℕ) (s : S) → i < length items → s ≡ get_or items i s → f s ≡ get_or (map f items) i (f s)
  at-place items i s lt here = ap f here ∙ sym (get_or-map f items i s (f s) lt)

  pub within : (items : List S) (i : ℕ) → i < length items → i < length (map f items)
  within items i lt = omega (arith, lt, length-map items f)

  -- the subscriber at a place that was found
  pub placed : (items : List S) (i : ℕ) (s : S) (site : ℕ) → Some i ≡ position (is_of site) items → s ≡ get_or items i s → (i < length items) × (site ≡ site_of (f s))
  placed items i s site found here = let at = position-Some (is_of site) items i s (sym found) in
      (at.0, same-number (site_of (f s)) site (ap (is_of site) here ∙ at.1))

  pub found-place : (p : PublisherView) (pool : List Letter) (moment : Moment) (items : List S) (i : ℕ) (s : S) (site : SiteId) (tallies : List ℕ) → IsOrdered (sites_view p (map f items) pool moment)
      → Some i ≡ position (is_of site.0) items → s ≡ get_or items i s → subscriber_at (world_of (sites_view p (map f items) pool moment) tallies) site ≡ Some (f s).tables
  found-place p pool moment items i s site tallies ordered found here = let at = placed items i s site.0 found here in
      found-at p pool moment (map f items) i (f s) tallies ordered (within items i at.0) (at-place items i s at.0 here) site at.1

  pub publication-place : (p : PublisherView) (pool : List Letter) (moment : Moment) (items : List S) (i : ℕ) (s : S) → IsOrdered (sites_view p (map f items) pool moment)
      → i < length items → s ≡ get_or items i s → (f s).publication ≡ p.publication
  publication-place p pool moment items i s ordered lt here = publication-at p pool moment (map f items) i (f s) ordered (within items i lt) (at-place items i s lt here)

  -- a change that has its places there
  pub placed-place : (p : PublisherView) (pool : List Letter) (moment : Moment) (items : List S) (i : ℕ) (s : S) (site : ℕ) (change : Change) → IsOrdered (sites_view p (map f items) pool moment)
      → Some i ≡ position (is_of site) items → s ≡ get_or items i s → IsPlaced p.publication change → has_article (f s).publication (article_of change) ≡ true
  placed-place p pool moment items i s site change ordered found here is = subst (λ (q : Publication). has_article q (article_of change) ≡ true)
      (sym (publication-place p pool moment items i s ordered (placed items i s site found here).0 here)) is.article

less-one : (n : ℕ) → n ≡ suc n - 1
less-one n = omega arith

-- the last of a list
last-of : {X Y : Type 0} (f : X → Y) (x : X) (xs : List X) → last_or (Some (f x)) (map f xs) ≡ option_map f (slice_get (x ∷ xs) (length xs))
last-of f x [] = refl
last-of f x (y ∷ ys) = last-of f y ys

pub last-message : (pool : List Letter) → last_in pool ≡ option_map (λ (letter : Letter). letter.message) (slice_get pool (length pool - 1))
last-message [] = refl
last-message (letter ∷ letters) = last-of (λ (x : Letter). x.message) letter letters
    ∙ ap (λ (n : ℕ). option_map (λ (x : Letter). x.message) (slice_get (letter ∷ letters) n)) (less-one (length letters))
