-- The joins of a publication, listed with their articles.
use Rattle.std.proofs.Common.{◌≡◌, inl, inr, ◌+◌, ℕ, zero, suc, List, [], ◌∷◌, map, Some, refl, sym, ap, ◌∙◌, subst, arith}
use Rattle.std.specs.List.{Contains, slice_get}
use Rattle.std.proofs.lemmas.List.Elements.{Contains-append_left, Contains-append_right, Contains-append_cases}
use Rattle.merge_schema.specs.declared.publication.Article.{Article}
use Rattle.merge_schema.specs.declared.publication.JoinFilter.{JoinFilter}
use Rattle.merge_schema.proofs.ListMembers.{contains_cases, contains_none}
use Rattle.merge_part.specs.declared.link.Link.{Link}
use Rattle.merge_part.specs.Rules.{link_of, links_from}

module _ {X Y : Type 0} (f : X → Y) where
  -- what stands in a list stands changed in the changed list, and nothing else
  pub contains_map : (xs : List X) (x : X) → Contains xs x → Contains (map f xs) (f x)
  contains_map [] x there = absurd (contains_none x there)
  contains_map (y ∷ xs) x there =
      elim (contains_cases y xs x there) [
        | inl same ↦ (0, omega arith, ap f same)
        | inr later ↦ Contains-append_right (f y ∷ []) (map f xs) (f x) (contains_map xs x later)
      ]

  pub contains_from_map : (xs : List X) (y : Y) → Contains (map f xs) y → (x : X) × Contains xs x × (f x ≡ y)
  contains_from_map [] y there = absurd (contains_none y there)
  contains_from_map (x ∷ xs) y there =
      elim (contains_cases (f x) (map f xs) y there) [
        | inl same ↦ (x, (0, omega arith, refl), same)
        | inr later ↦ let more = contains_from_map xs y later in (more.0, Contains-append_right (x ∷ []) xs more.0 more.1, more.2)
      ]

-- each join of an article is a link with the article's place
pub link_there : (first : ℕ) (articles : List Article) (i : ℕ) (article : Article) (join : JoinFilter) → slice_get articles i ≡ Some article → Contains article.joins join → (place : ℕ) → place ≡ first + i
    → Contains (links_from first articles) (link_of place join)
link_there first [] i article join is there place at = absurd cc
link_there first (next ∷ articles) zero article join is there place at =
    let same : next ≡ article = cc in
    let here : place ≡ first = omega arith in
    Contains-append_left (map (link_of first) next.joins) (links_from (suc first) articles) (link_of place join)
    (subst (λ p. Contains (map (link_of first) next.joins) (link_of p join)) (sym here) (contains_map (link_of first) next.joins join (subst (λ (a : Article). Contains a.joins join) (sym same) there)))
link_there first (next ∷ articles) (suc i) article join is there place at =
    Contains-append_right (map (link_of first) next.joins) (links_from (suc first) articles) (link_of place join) (link_there (suc first) articles i article join is there place (omega arith))

-- a join of an article, and where it stands
pub record Origin (first : ℕ) (articles : List Article) (link : Link) : Type 0 where
  pub place : ℕ
  pub article : Article
  pub join : JoinFilter
  pub stands : slice_get articles place ≡ Some article
  pub among : Contains article.joins join
  pub child : link.child ≡ first + place
  pub is : link ≡ link_of link.child join

pub link_from : (first : ℕ) (articles : List Article) (link : Link) → Contains (links_from first articles) link → Origin first articles link
link_from first [] link there = absurd (contains_none link there)
link_from first (next ∷ articles) link there =
    elim (Contains-append_cases (map (link_of first) next.joins) (links_from (suc first) articles) link there) [
      | inl here ↦
          let from = contains_from_map (link_of first) next.joins link here in
          let child : link.child ≡ first = ap (λ (l : Link). l.child) (sym from.2) in
          record {
            place = 0;
            article = next;
            join = from.0;
            stands = refl;
            among = from.1;
            child = omega (arith, child);
            is = sym from.2 ∙ ap (λ p. link_of p from.0) (sym child);
          }
      | inr later ↦
          let from = link_from (suc first) articles link later in
          record {
            place = suc from.place;
            article = from.article;
            join = from.join;
            stands = from.stands;
            among = from.among;
            child = omega (arith, from.child);
            is = from.is;
          }
    ]
