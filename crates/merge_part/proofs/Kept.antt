-- How the rule goes on holding where one row changes.
use Rattle.std.proofs.Common.{◌≡◌, ◌⊎◌, inl, inr, ℕ, ◌&&◌, Bool, true, false, List, Option, Some, refl, sym, ap, ◌∙◌, subst}
use Rattle.std.specs.declared.cmp.Ordering.{Ordering}
use Rattle.std.specs.declared.cmp.Ordering.TheVariants.{Less, Equal, Greater}
use Rattle.std.specs.Ordering.{is_eq}
use Rattle.std.specs.BTreeMap.{is_at}
use Rattle.merge_types.specs.declared.values.Value.{Value}
use Rattle.merge_schema.specs.Partition.{are_joined}
use Rattle.merge_types.specs.declared.row_key.RowKey.{RowKey}
use Rattle.merge_part.specs.declared.sites.Sites.{Sites}
use Rattle.merge_part.specs.declared.content.Content.{Content}
use Rattle.merge_part.specs.declared.link.Link.{Link}
use Rattle.merge_types.specs.RowKeys.{key_cmp, key_exact}
use Rattle.merge_part.specs.Sites.{has_site}
use Rattle.merge_part.specs.Settling.{AllMeet, AreMarksOf, NoneFollowsItself}
use Rattle.merge_part.specs.Covering.{AnotherGives}
use Rattle.merge_part.specs.Rule.{value_at, parent_value, gives, parent_of, IsAt, Parent, Meets}

is_equal : (r : Ordering) → is_eq r ≡ true → r ≡ Equal
is_equal Less h = absurd cc
is_equal Equal h = refl
is_equal Greater h = absurd cc

pub same_key : (a b : RowKey) → is_at (key_cmp a) b ≡ true → a ≡ b
same_key a b h = key_exact a b (is_equal _ h)

-- what another row gives it goes on giving
another_gives : (rows rows' : RowKey → Option Content) (marks marks' : RowKey → Sites) (key : RowKey)
    → ((p : RowKey) → is_at (key_cmp key) p ≡ false → rows' p ≡ rows p) → ((p : RowKey) → is_at (key_cmp key) p ≡ false → marks' p ≡ marks p)
    → (link : Link) (value : Value) (place : ℕ) → AnotherGives rows marks key link value place → AnotherGives rows' marks' key link value place
another_gives rows rows' marks marks' key other_rows other_marks link value place other = (
  other.0,
  other.1,
  ap (λ held. gives value link held (marks' (parent_of link other.0)) place) (other_rows (parent_of link other.0) other.1) ∙ ap (λ sites. gives value link (rows (parent_of link other.0)) sites place) (other_marks (parent_of link other.0) other.1) ∙ other.2,
)

-- at each link from the one row to the other, the other gives what it gave, or another row does
abbrev pub GivesAlike : List Link → RowKey → RowKey → (rows rows' : RowKey → Option Content) → (marks marks' : RowKey → Sites) → Type 0
GivesAlike links key k rows rows' marks marks' =
    (number : ℕ) (link : Link) (content : Content) (place : ℕ) → IsAt links number link → link.child ≡ k.article → link.parent ≡ key.article → rows k ≡ Some content
    → (gives (value_at content.values link.column) link (rows key) (marks key) place ≡ gives (value_at content.values link.column) link (rows' key) (marks' key) place)
    ⊎ AnotherGives rows marks key link (value_at content.values link.column) place

-- a parent goes on giving what it gave, or another does
parent_kept_by : (links : List Link) (key k : RowKey) (rows rows' : RowKey → Option Content) (marks marks' : RowKey → Sites)
    → ((p : RowKey) → is_at (key_cmp key) p ≡ false → rows' p ≡ rows p) → ((p : RowKey) → is_at (key_cmp key) p ≡ false → marks' p ≡ marks p)
    → (content : Content) (place : ℕ) (p : Parent links rows marks k content place)
    → (p.link.parent ≡ key.article
    → (gives (value_at content.values p.link.column) p.link (rows key) (marks key) place ≡ gives (value_at content.values p.link.column) p.link (rows' key) (marks' key) place)
    ⊎ AnotherGives rows marks key p.link (value_at content.values p.link.column) place)
    → (b : Bool) → is_at (key_cmp key) p.parent ≡ b → Parent links rows' marks' k content place
unfolding another_gives
parent_kept_by links key k rows rows' marks marks' other_rows other_marks content place p alike false apart = record {
  number = p.number;
  link = p.link;
  parent = p.parent;
  among = p.among;
  below = p.below;
  above = p.above;
  given = ap (λ held. gives (value_at content.values p.link.column) p.link held (marks' p.parent) place) (other_rows p.parent apart) ∙ ap (λ sites. gives (value_at content.values p.link.column) p.link (rows p.parent) sites place) (other_marks p.parent apart) ∙ p.given;
}
parent_kept_by links key k rows rows' marks marks' other_rows other_marks content place p alike true is =
    let same : key ≡ p.parent = same_key key p.parent is in
    let given : gives (value_at content.values p.link.column) p.link (rows key) (marks key) place ≡ true = subst (λ (q : RowKey). gives (value_at content.values p.link.column) p.link (rows q) (marks q) place ≡ true) (sym same) p.given in
    elim (alike (sym p.above ∙ ap (λ (q : RowKey). q.article) (sym same))) [
      | inl still ↦ record {
        number = p.number;
        link = p.link;
        parent = key;
        among = p.among;
        below = p.below;
        above = ap (λ (q : RowKey). q.article) same ∙ p.above;
        given = sym still ∙ given;
      }
      | inr other ↦ record {
        number = p.number;
        link = p.link;
        parent = parent_of p.link other.0;
        among = p.among;
        below = p.below;
        above = refl;
        given = (another_gives rows rows' marks marks' key other_rows other_marks p.link (value_at content.values p.link.column) place other).2;
      }
    ]

parent_kept : (links : List Link) (key k : RowKey) (rows rows' : RowKey → Option Content) (marks marks' : RowKey → Sites)
    → ((p : RowKey) → is_at (key_cmp key) p ≡ false → rows' p ≡ rows p) → ((p : RowKey) → is_at (key_cmp key) p ≡ false → marks' p ≡ marks p)
    → GivesAlike links key k rows rows' marks marks' → (content : Content) (place : ℕ) → rows k ≡ Some content
    → Parent links rows marks k content place → Parent links rows' marks' k content place
parent_kept links key k rows rows' marks marks' other_rows other_marks alike content place live p =
    parent_kept_by links key k rows rows' marks marks' other_rows other_marks content place p
    (λ above. alike p.number p.link content place p.among p.below above live)
    (is_at (key_cmp key) p.parent) refl

alike_back : (links : List Link) (key k : RowKey) (rows rows' : RowKey → Option Content) (marks marks' : RowKey → Sites)
    → ((p : RowKey) → is_at (key_cmp key) p ≡ false → rows' p ≡ rows p) → ((p : RowKey) → is_at (key_cmp key) p ≡ false → marks' p ≡ marks p)
    → rows' k ≡ rows k → GivesAlike links key k rows rows' marks marks' → GivesAlike links key k rows' rows marks' marks
alike_back links key k rows rows' marks marks' other_rows other_marks same alike number link content place among below above live =
    elim (alike number link content place among below above (sym same ∙ live)) [
      | inl still ↦ inl (sym still)
      | inr other ↦ inr (another_gives rows rows' marks marks' key other_rows other_marks link (value_at content.values link.column) place other)
    ]

reason_kept : (links : List Link) (rows rows' : RowKey → Option Content) (marks marks' : RowKey → Sites) (k : RowKey) (content : Content) (place : ℕ)
    → (Parent links rows marks k content place → Parent links rows' marks' k content place)
    → (has_site content.filtered place ≡ true) ⊎ Parent links rows marks k content place → (has_site content.filtered place ≡ true) ⊎ Parent links rows' marks' k content place
reason_kept links rows rows' marks marks' k content place kept (inl h) = inl h
reason_kept links rows rows' marks marks' k content place kept (inr h) = inr (kept h)

-- a row meets the rule as before where one other row changes, and that or another gives it the same
pub kept : (links : List Link) (key k : RowKey) (rows rows' : RowKey → Option Content) (marks marks' : RowKey → Sites)
    → rows' k ≡ rows k → marks' k ≡ marks k
    → ((p : RowKey) → is_at (key_cmp key) p ≡ false → rows' p ≡ rows p) → ((p : RowKey) → is_at (key_cmp key) p ≡ false → marks' p ≡ marks p)
    → GivesAlike links key k rows rows' marks marks' → Meets links rows marks k → Meets links rows' marks' k
kept links key k rows rows' marks marks' same_row same_marks other_rows other_marks alike meets = record {
  reason = λ place inside.
      let was = meets.reason place (ap (λ sites. has_site sites place) (sym same_marks) ∙ inside) in
      (was.0, same_row ∙ was.1, reason_kept links rows rows' marks marks' k was.0 place (parent_kept links key k rows rows' marks marks' other_rows other_marks alike was.0 place was.1) was.2);
  reached = λ place content live why.
      let lived : rows k ≡ Some content = sym same_row ∙ live in
      let back = reason_kept links rows' rows marks' marks k content place
      (parent_kept links key k rows' rows marks' marks (λ p apart. sym (other_rows p apart)) (λ p apart. sym (other_marks p apart)) (alike_back links key k rows rows' marks marks' other_rows other_marks same_row alike) content place live)
      why in
      ap (λ sites. has_site sites place) same_marks ∙ meets.reached place content lived back;
}

and_false : (b : Bool) → b ≡ false → (c d : Bool) → (b && c) ≡ (b && d)
and_false b is c d = rw is refl

-- the children that a row's new marks reach wait, or others give them what differs
abbrev pub MarksReach : List Link → RowKey → (RowKey → Option Content) → (marks marks' : RowKey → Sites) → (waits' : RowKey → Bool) → Type 0
MarksReach links key rows marks marks' waits' =
    (k : RowKey) (number : ℕ) (link : Link) (content : Content) → IsAt links number link → link.child ≡ k.article → link.parent ≡ key.article → rows k ≡ Some content
    → are_joined (value_at content.values link.column) (parent_value link (rows key)) ≡ true
    → (place : ℕ) → (has_site (marks' key) place ≡ has_site (marks key) place) ⊎ ((waits' k ≡ true) ⊎ AnotherGives rows marks key link (value_at content.values link.column) place)

-- what does not wait is given by another
waits_or : (waits : Bool) (Given : Type 0) → waits ≡ false → (waits ≡ true) ⊎ Given → Given
waits_or waits Given done (inl does) = let bad : true ≡ false = sym does ∙ done in absurd cc
waits_or waits Given done (inr given) = given

marks_alike : (value : Value) (link : Link) (held : Option Content) (sites sites' : Sites) (place : ℕ) (waits : Bool) (Given : Type 0) → waits ≡ false
    → (b : Bool) → are_joined value (parent_value link held) ≡ b → (b ≡ true → (has_site sites' place ≡ has_site sites place) ⊎ ((waits ≡ true) ⊎ Given))
    → (gives value link held sites place ≡ gives value link held sites' place) ⊎ Given
marks_alike value link held sites sites' place waits Given done false is reach = inl (and_false (are_joined value (parent_value link held)) is (has_site sites place) (has_site sites' place))
marks_alike value link held sites sites' place waits Given done true is reach =
    elim (reach refl) [ inl same ↦ inl (ap (λ b. are_joined value (parent_value link held) && b) (sym same)) | inr either ↦ inr (waits_or waits Given done either) ]

marks_moved_at : (links : List Link) (key k : RowKey) (rows : RowKey → Option Content) (marks marks' : RowKey → Sites) (waits waits' : RowKey → Bool)
    → ((p : RowKey) → is_at (key_cmp key) p ≡ false → marks' p ≡ marks p) → Meets links rows marks' key
    → ((p : RowKey) → is_at (key_cmp key) p ≡ false → waits' p ≡ false → waits p ≡ false)
    → MarksReach links key rows marks marks' waits' → AllMeet links rows marks waits
    → waits' k ≡ false → (b : Bool) → is_at (key_cmp key) k ≡ b → Meets links rows marks' k
marks_moved_at links key k rows marks marks' waits waits' others itself fewer reach all done true is = subst (λ (q : RowKey). Meets links rows marks' q) (same_key key k is) itself
marks_moved_at links key k rows marks marks' waits waits' others itself fewer reach all done false apart =
    kept links key k rows rows marks marks' refl (others k apart) (λ p h. refl) others
    (λ number link content place among below above live.
    marks_alike (value_at content.values link.column) link (rows key) (marks key) (marks' key) place (waits' k) (AnotherGives rows marks key link (value_at content.values link.column) place) done
    (are_joined (value_at content.values link.column) (parent_value link (rows key))) refl (λ joined. reach k number link content among below above live joined place))
    (all k (fewer k apart done))

-- a row's marks become what the rule says, and the children that these reach wait
pub marks_moved : (links : List Link) (key : RowKey) (rows : RowKey → Option Content) (marks marks' : RowKey → Sites) (waits waits' : RowKey → Bool)
    → ((p : RowKey) → is_at (key_cmp key) p ≡ false → marks' p ≡ marks p) → Meets links rows marks' key
    → ((p : RowKey) → is_at (key_cmp key) p ≡ false → waits' p ≡ false → waits p ≡ false)
    → MarksReach links key rows marks marks' waits' → AllMeet links rows marks waits → AllMeet links rows marks' waits'
marks_moved links key rows marks marks' waits waits' others itself fewer reach all k done =
    marks_moved_at links key k rows marks marks' waits waits' others itself fewer reach all done (is_at (key_cmp key) k) refl

-- a child that joins a row with this content waits, or others give it what the row may
abbrev pub IsHandled : RowKey → (rows : RowKey → Option Content) → (marks : RowKey → Sites) → Link → Value → Option Content → (waits : Bool) → Type 0
IsHandled key rows marks link value held waits =
    are_joined value (parent_value link held) ≡ true → (place : ℕ) → has_site (marks key) place ≡ true → (waits ≡ true) ⊎ AnotherGives rows marks key link value place

-- at each link a row's parent value stays, or the children of the one before and of the one after are handled so
abbrev pub RowReaches : List Link → RowKey → (rows rows' : RowKey → Option Content) → (marks : RowKey → Sites) → (waits' : RowKey → Bool) → Type 0
RowReaches links key rows rows' marks waits' =
    (k : RowKey) (number : ℕ) (link : Link) (content : Content) → IsAt links number link → link.child ≡ k.article → link.parent ≡ key.article → rows k ≡ Some content
    → (parent_value link (rows key) ≡ parent_value link (rows' key))
    ⊎ (IsHandled key rows marks link (value_at content.values link.column) (rows key) (waits' k) × IsHandled key rows marks link (value_at content.values link.column) (rows' key) (waits' k))

joins_alike : (site one two waits : Bool) (Given : Type 0) → waits ≡ false → (one ≡ true → site ≡ true → (waits ≡ true) ⊎ Given) → (two ≡ true → site ≡ true → (waits ≡ true) ⊎ Given)
    → ((one && site) ≡ (two && site)) ⊎ Given
joins_alike site false false waits Given done before after = inl refl
joins_alike false false true waits Given done before after = inl refl
joins_alike false true false waits Given done before after = inl refl
joins_alike site true true waits Given done before after = inl refl
joins_alike true true false waits Given done before after = inr (waits_or waits Given done (before refl refl))
joins_alike true false true waits Given done before after = inr (waits_or waits Given done (after refl refl))

row_alike : (key : RowKey) (rows : RowKey → Option Content) (marks : RowKey → Sites) (value : Value) (link : Link) (held held' : Option Content) (place : ℕ) (waits : Bool) → waits ≡ false
    → (parent_value link held ≡ parent_value link held') ⊎ (IsHandled key rows marks link value held waits × IsHandled key rows marks link value held' waits)
    → (gives value link held (marks key) place ≡ gives value link held' (marks key) place) ⊎ AnotherGives rows marks key link value place
row_alike key rows marks value link held held' place waits done (inl same) = inl (ap (λ v. are_joined value v && has_site (marks key) place) same)
row_alike key rows marks value link held held' place waits done (inr reach) =
    joins_alike (has_site (marks key) place) (are_joined value (parent_value link held)) (are_joined value (parent_value link held')) waits (AnotherGives rows marks key link value place) done
    (λ joined has. reach.0 joined place has) (λ joined has. reach.1 joined place has)

-- a row is changed, and waits with the children that this reaches and others do not cover
pub row_changed : (links : List Link) (key : RowKey) (rows rows' : RowKey → Option Content) (marks : RowKey → Sites) (waits waits' : RowKey → Bool)
    → ((p : RowKey) → is_at (key_cmp key) p ≡ false → rows' p ≡ rows p)
    → ((p : RowKey) → waits' p ≡ false → (is_at (key_cmp key) p ≡ false) × (waits p ≡ false))
    → RowReaches links key rows rows' marks waits' → AllMeet links rows marks waits → AllMeet links rows' marks waits'
row_changed links key rows rows' marks waits waits' others fewer reach all k done =
    let was = fewer k done in
    kept links key k rows rows' marks marks (others k was.0) refl others (λ p h. refl)
    (λ number link content place among below above live.
    row_alike key rows marks (value_at content.values link.column) link (rows key) (rows' key) place (waits' k) done (reach k number link content among below above live))
    (all k was.1)

-- a row meets the rule with the marks that the rule says of it, since it does not follow itself
pub marks_met : (links : List Link) → NoneFollowsItself links → (key : RowKey) (rows : RowKey → Option Content) (marks marks' : RowKey → Sites)
    → ((p : RowKey) → is_at (key_cmp key) p ≡ false → marks' p ≡ marks p) → AreMarksOf links rows marks key (marks' key) → Meets links rows marks' key
marks_met links apart key rows marks marks' others are =
    let none : GivesAlike links key key rows rows marks marks' = λ number link content place among below above live. absurd (apart number link among (below ∙ sym above)) in
    let none_back : GivesAlike links key key rows rows marks' marks = λ number link content place among below above live. absurd (apart number link among (below ∙ sym above)) in
    record {
      reason = λ place inside.
          let was = are.reason place inside in
          (was.0, was.1, reason_kept links rows rows marks marks' key was.0 place (parent_kept links key key rows rows marks marks' (λ p h. refl) others none was.0 place was.1) was.2);
      reached = λ place content live why.
          are.reached place content live (reason_kept links rows rows marks' marks key content place (parent_kept links key key rows rows marks' marks (λ p h. refl) (λ p h. sym (others p h)) none_back content place live) why);
    }
