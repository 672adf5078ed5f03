-- How the reasons of one row are found, link by link.
use Rattle.std.proofs.Common.{◌≡◌, ◌≢◌, ◌⊎◌, inl, inr, ◌<◌, ◌+◌, ℕ, Bool, true, false, ◌||◌, ◌&&◌, List, length, get_or, Option, None, Some, refl, sym, ap, ◌∙◌, subst, arith}
use Rattle.std.proofs.lemmas.List.{get_or_default}
use Rattle.merge_types.specs.declared.identifiers.RowId.{RowId}
use Rattle.merge_types.specs.declared.values.Value.{Value}
use Rattle.merge_types.specs.declared.values.Value.TheVariants.{Null}
use Rattle.merge_schema.specs.Partition.{are_joined}
use Rattle.merge_schema.proofs.JoinedValues.{same_values_join}
use Rattle.merge_types.specs.declared.row_key.RowKey.{RowKey}
use Rattle.merge_part.specs.declared.sites.Sites.{Sites}
use Rattle.merge_part.specs.declared.content.Content.{Content}
use Rattle.merge_part.specs.declared.link.Link.{Link}
use Rattle.merge_part.specs.Sites.{has_site}
use Rattle.merge_part.specs.Rule.{value_at, parent_value, gives, parent_of, row_gives, IsAt, Parent, Reason}
use Rattle.merge_part.specs.Index.{Entries, HasEntry, AreParentsIndexed}

pub both : (a b : Bool) → (a && b) ≡ true → (a ≡ true) × (b ≡ true)
both true b h = (refl, h)
both false b h = absurd cc

-- links with one number are one
pub same_link : (links : List Link) (number : ℕ) (one other : Link) → IsAt links number one → IsAt links number other → one ≡ other
same_link links number one other at_one at_other = sym at_one.1 ∙ get_or_default links number one other at_one.0 ∙ at_other.1

pub link_at : (links : List Link) (number : ℕ) → number < length links → IsAt links number (get_or links number (record { child = 0; column = 0; parent = 0; parent_column = 0 }))
link_at links number less = (less, get_or_default links number _ _ less)

parent_is : (link : Link) (parent : RowKey) → parent.article ≡ link.parent → parent_of link parent.row ≡ parent
parent_is link parent above = let f : ℕ → RowKey = λ article. record { article = article; row = parent.row } in sym (ap f above)

-- a value that joins is that of a live row, and not Null
pub joined_is : (value : Value) (link : Link) (held : Option Content) → are_joined value (parent_value link held) ≡ true → (content : Content) × (held ≡ Some content) × (value ≡ value_at content.values link.parent_column) × (value ≡ Null → ⊥)
joined_is value link None h = let was = (same_values_join value Null).0 h in absurd (was.1 was.0)
joined_is value link (Some content) h = let was = (same_values_join value (value_at content.values link.parent_column)).0 h in (content, refl, was.0, was.1)

module _ (links : List Link) (rows : RowKey → Option Content) (marks : RowKey → Sites) (key : RowKey) (content : Content) where
  -- what was found at the first links
  pub record Reaching (found : Sites) (count : ℕ) : Type 0 where
    pub reason : (place : ℕ) → has_site found place ≡ true → Reason links rows marks key content place
    pub filtered : (place : ℕ) → has_site content.filtered place ≡ true → has_site found place ≡ true
    pub reached : (place : ℕ) (p : Parent links rows marks key content place) → p.number < count → has_site found place ≡ true

  pub reaching_none : Reaching content.filtered 0
  reaching_none = record { reason = λ place h. inl h; filtered = λ place h. h; reached = λ place p less. absurd (omega arith) }

  last_or_before : (n count : ℕ) → n < count + 1 → (n < count) ⊎ (n ≡ count)
  last_or_before n count less = grind arith

  -- a link of another article adds nothing
  pub reaching_passed : (found : Sites) (count : ℕ) (link : Link) → IsAt links count link → link.child ≢ key.article → Reaching found count → Reaching found (count + 1)
  reaching_passed found count link at other so_far = record {
    reason = so_far.reason;
    filtered = so_far.filtered;
    reached = λ place p less.
        elim (last_or_before p.number count less) [
          | inl before ↦ so_far.reached place p before
          | inr last ↦
              let here : IsAt links p.number link = subst (λ n. IsAt links n link) (sym last) at in
              absurd (other (ap (λ (l : Link). l.child) (same_link links p.number link p.link here p.among) ∙ p.below))
        ];
  }

  or_left : (a b : Bool) → a ≡ true → (a || b) ≡ true
  or_left true b h = refl
  or_left false b h = absurd cc

  or_right : (a b : Bool) → b ≡ true → (a || b) ≡ true
  or_right true b h = refl
  or_right false b h = h

  or_cases : (a b : Bool) → (a || b) ≡ true → (a ≡ true) ⊎ (b ≡ true)
  or_cases true b h = inl refl
  or_cases false b h = inr h

  -- a parent's row is found by its child's value
  parent_entry : (parents : Entries) → AreParentsIndexed links parents rows → (place : ℕ) (p : Parent links rows marks key content place) → HasEntry parents p.number (value_at content.values p.link.column) p.parent.row
  parent_entry parents indexed place p =
      let joined = joined_is (value_at content.values p.link.column) p.link (rows p.parent) (both _ _ p.given).0 in
      subst (λ v. HasEntry parents p.number v p.parent.row) (sym joined.2) (indexed p.parent joined.0 joined.1 p.number p.link p.among (sym p.above))

  pub parent_gives : (place : ℕ) (p : Parent links rows marks key content place) → row_gives rows marks (value_at content.values p.link.column) p.link place p.parent.row ≡ true
  parent_gives place p = ap (λ q. gives (value_at content.values p.link.column) p.link (rows q) (marks q) place) (parent_is p.link p.parent p.above) ∙ p.given

  -- a link of the row's article adds what its parents give
  pub reaching_added : (parents : Entries) → AreParentsIndexed links parents rows → (found more next : Sites) (count : ℕ) (link : Link) → IsAt links count link → link.child ≡ key.article
      → ((place : ℕ) → has_site next place ≡ (has_site found place || has_site more place))
      → ((place : ℕ) → has_site more place ≡ true → (row : RowId) × (row_gives rows marks (value_at content.values link.column) link place row ≡ true))
      → ((place : ℕ) (row : RowId) → HasEntry parents count (value_at content.values link.column) row → row_gives rows marks (value_at content.values link.column) link place row ≡ true → has_site more place ≡ true)
      → Reaching found count → Reaching next (count + 1)
  reaching_added parents indexed found more next count link at below union given all so_far = record {
    reason = λ place h.
        elim (or_cases (has_site found place) (has_site more place) (sym (union place) ∙ h)) [
          | inl before ↦ so_far.reason place before
          | inr now ↦
              let by = given place now in
              inr (record { number = count; link = link; parent = parent_of link by.0; among = at; below = below; above = refl; given = by.1 })
        ];
    filtered = λ place h. union place ∙ or_left (has_site found place) (has_site more place) (so_far.filtered place h);
    reached = λ place p less.
        elim (last_or_before p.number count less) [
          | inl before ↦ union place ∙ or_left (has_site found place) (has_site more place) (so_far.reached place p before)
          | inr last ↦
              let here : IsAt links count p.link = subst (λ n. IsAt links n p.link) last p.among in
              let same : p.link ≡ link = same_link links count p.link link here at in
              let entry : HasEntry parents count (value_at content.values p.link.column) p.parent.row = subst (λ n. HasEntry parents n (value_at content.values p.link.column) p.parent.row) last (parent_entry parents indexed place p) in
              union place ∙ or_right (has_site found place) (has_site more place)
              (all place p.parent.row (subst (λ (l : Link). HasEntry parents count (value_at content.values l.column) p.parent.row) same entry)
              (subst (λ (l : Link). row_gives rows marks (value_at content.values l.column) l place p.parent.row ≡ true) same (parent_gives place p)))
        ];
  }

  pub reaching_all : (found : Sites) → Reaching found (length links) → (place : ℕ) → Reason links rows marks key content place → has_site found place ≡ true
  reaching_all found all place (inl h) = all.filtered place h
  reaching_all found all place (inr p) = all.reached place p p.among.0
