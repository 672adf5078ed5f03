-- How rows come to meet the rule, one after another.
use Rattle.std.proofs.Common.{◌≡◌, ◌⊎◌, inl, inr, ℕ, Bool, true, false, ◌||◌, ◌&&◌, List, [], ◌∷◌, length, Option, Some, refl, sym, ap, ◌∙◌, subst}
use Rattle.std.specs.Prelude.{◌==◌, unwrap_or, cond}
use Rattle.std.specs.List.{filter}
use Rattle.std.specs.BTreeMap.{is_at, insert_entry}
use Rattle.merge_table.proofs.LookUps.{lookup-insert_entry}
use Rattle.merge_part.specs.Draft.{found, marks_of, marks_in}
use Rattle.std.specs.declared.cmp.Ordering.{Ordering}
use Rattle.std.specs.declared.cmp.Ordering.TheVariants.{Less, Equal, Greater}
use Rattle.std.specs.Ordering.{is_eq, ordering_reverse}
use Rattle.std.proofs.lemmas.Cmp.{tied_itself}
use Rattle.merge_types.specs.declared.row_key.RowKey.{RowKey}
use Rattle.merge_part.specs.declared.sites.Sites.{Sites}
use Rattle.merge_part.specs.declared.content.Content.{Content}
use Rattle.merge_part.specs.declared.link.Link.{Link}
use Rattle.merge_types.specs.RowKeys.{key_cmp}
use Rattle.merge_part.specs.Rule.{value_at, parent_value, IsAt}
use Rattle.merge_part.specs.Index.{Entries, HasEntry, AreChildrenIndexed}
use Rattle.merge_schema.specs.Partition.{are_joined}
use Rattle.merge_part.specs.Sites.{has_site}
use Rattle.merge_part.specs.Covering.{AnotherGives, IsUnion}
use Rattle.merge_part.specs.Waiting.{waits, KeepsWaiting, AreSpared, ReachedByMarks, child_of}
use Rattle.merge_part.specs.Settling.{AreMarksOf, IsSettled, AllMeet, is_among, pends, ChildrenCome, NoneFollowsItself}
use Rattle.merge_part.proofs.Drafts.{key_total}
use Rattle.merge_part.proofs.Kept.{same_key, MarksReach, marks_moved, marks_met}
use Rattle.merge_part.proofs.Reasons.{joined_is}

is_eq-reverse : (r : Ordering) → is_eq (ordering_reverse r) ≡ is_eq r
is_eq-reverse Less = refl
is_eq-reverse Equal = refl
is_eq-reverse Greater = refl

-- two keys are equal either way round
pub is_at-swap : (a b : RowKey) → is_at (key_cmp a) b ≡ is_at (key_cmp b) a
is_at-swap a b = ap is_eq (key_total.antisymm a b) ∙ is_eq-reverse (key_cmp b a)

pub is_at-itself : (a : RowKey) → is_at (key_cmp a) a ≡ true
is_at-itself a = ap is_eq (tied_itself key_total a)

or_false : (a b : Bool) → (a || b) ≡ false → (a ≡ false) × (b ≡ false)
or_false true b h = absurd cc
or_false false b h = (refl, h)

and_still_false : (a b c : Bool) → (b ≡ true → c ≡ true) → (a && c) ≡ false → (a && b) ≡ false
and_still_false false b c more h = refl
and_still_false true false c more h = refl
and_still_false true true c more h = let bad : true ≡ false = sym (more refl) ∙ h in absurd cc

-- what still waits within an article, or in the articles to come
abbrev pub pends_within : List RowKey → List ℕ → List RowKey → RowKey → Bool
pends_within batch articles waiting key = waits batch key || pends articles waiting key

fewer_wait : (key : RowKey) (later : List RowKey) (articles : List ℕ) (waiting waiting' : List RowKey) → KeepsWaiting waiting waiting' → (p : RowKey) → is_at (key_cmp key) p ≡ false
    → pends_within later articles waiting' p ≡ false → pends_within (key ∷ later) articles waiting p ≡ false
fewer_wait key later articles waiting waiting' kept p apart none =
    let parts = or_false (waits later p) (pends articles waiting' p) none in
    rw (is_at-swap p key, apart, parts.0) (and_still_false (is_among articles p.article) (waits waiting p) (waits waiting' p) (kept p) parts.1)

or_right : (a b : Bool) → b ≡ true → (a || b) ≡ true
or_right true b h = refl
or_right false b h = h

pub both_true : (a b : Bool) → a ≡ true → b ≡ true → (a && b) ≡ true
both_true true b ha hb = hb
both_true false b ha hb = absurd cc

pub child_is : (link : Link) (k : RowKey) → link.child ≡ k.article → child_of link k.row ≡ k
child_is link k below = let f : ℕ → RowKey = λ article. record { article = article; row = k.row } in ap f below

-- a subscriber that neither or both have stays, and another is asked for
stays_or : (was is : Bool) (Given : Type 0) → ((was || is) ≡ true → Given) → (is ≡ was) ⊎ Given
stays_or true true Given asked = inl refl
stays_or false false Given asked = inl refl
stays_or true false Given asked = inr (asked refl)
stays_or false true Given asked = inr (asked refl)

still_false : (a b : Bool) → (a ≡ true → b ≡ true) → b ≡ false → a ≡ false
still_false false b more none = refl
still_false true b more none = let bad : true ≡ false = sym (more refl) ∙ none in absurd cc

-- a child that joins a row with this content waits, or others give it each of these subscribers
pub child_spared : (links : List Link) (children : Entries) (rows : RowKey → Option Content) → AreChildrenIndexed links children rows → (marks : RowKey → Sites) (key : RowKey) (sites : Sites) (waiting : List RowKey) (held : Option Content)
    → (k : RowKey) (number : ℕ) (link : Link) (content : Content) → IsAt links number link → link.child ≡ k.article → rows k ≡ Some content
    → AreSpared rows marks key sites children number link (parent_value link held) waiting → are_joined (value_at content.values link.column) (parent_value link held) ≡ true
    → (place : ℕ) → has_site sites place ≡ true → (waits waiting k ≡ true) ⊎ AnotherGives rows marks key link (value_at content.values link.column) place
child_spared links children rows indexed marks key sites waiting held k number link content at below live (inl wait) joined place has =
    let is = joined_is (value_at content.values link.column) link held joined in
    let value : value_at content.values link.column ≡ parent_value link held = is.2 ∙ ap (parent_value link) (sym is.1) in
    let entry : HasEntry children number (parent_value link held) k.row = subst (λ v. HasEntry children number v k.row) value (indexed k content live number link at below) in
    let waits_there : waits waiting (child_of link k.row) ≡ true = wait k.row entry (λ null. is.3 (value ∙ null)) in
    inl (subst (λ q. waits waiting q ≡ true) (child_is link k below) waits_there)
child_spared links children rows indexed marks key sites waiting held k number link content at below live (inr covered) joined place has =
    let is = joined_is (value_at content.values link.column) link held joined in
    let value : value_at content.values link.column ≡ parent_value link held = is.2 ∙ ap (parent_value link) (sym is.1) in
    inr (subst (λ v. AnotherGives rows marks key link v place) (sym value) (covered place has))

module _ (links : List Link) (children : Entries) (rows : RowKey → Option Content) (indexed : AreChildrenIndexed links children rows) (apart : NoneFollowsItself links) where
  reach_waits : (key : RowKey) (marks marks' : RowKey → Sites) (waiting' : List RowKey) → IsSettled links children rows marks marks' key waiting' → MarksReach links key rows marks marks' (waits waiting')
  reach_waits key marks marks' waiting' settled k number link content at below above live joined place =
      elim settled.children_wait [
        | inl same ↦ inl (ap (λ sites. has_site sites place) same)
        | inr wait ↦
            stays_or (has_site (marks key) place) (has_site (marks' key) place) ((waits waiting' k ≡ true) ⊎ AnotherGives rows marks key link (value_at content.values link.column) place)
            (λ either. child_spared links children rows indexed marks key wait.0 waiting' (rows key) k number link content at below live (wait.2 number link at.0 at above) joined place (wait.1 place ∙ either))
      ]

  reach : (key : RowKey) (marks marks' : RowKey → Sites) (later : List RowKey) (articles : List ℕ) (waiting' : List RowKey)
      → ChildrenCome links key.article articles → IsSettled links children rows marks marks' key waiting' → MarksReach links key rows marks marks' (pends_within later articles waiting')
  reach key marks marks' later articles waiting' come settled k number link content at below above live joined place =
      elim (reach_waits key marks marks' waiting' settled k number link content at below above live joined place) [
        | inl same ↦ inl same
        | inr either ↦
            inr (pends_or (waits waiting' k) _ _ (λ here.
            let comes : is_among articles k.article ≡ true = subst (λ a. is_among articles a ≡ true) below (come number link at above) in
            or_right (waits later k) (pends articles waiting' k) (both_true (is_among articles k.article) (waits waiting' k) comes here)) either)
      ]
    where
      pends_or : (here pends : Bool) (Given : Type 0) → (here ≡ true → pends ≡ true) → (here ≡ true) ⊎ Given → (pends ≡ true) ⊎ Given
      pends_or here pends Given does (inl waits) = inl (does waits)
      pends_or here pends Given does (inr given) = inr given

  -- while a row is settled, each row that does not wait goes on meeting the rule
  pub quiet_settled : (key : RowKey) (marks marks' : RowKey → Sites) (waiting waiting' : List RowKey) → KeepsWaiting waiting waiting' → IsSettled links children rows marks marks' key waiting'
      → AllMeet links rows marks (waits waiting) → AllMeet links rows marks' (waits waiting')
  quiet_settled key marks marks' waiting waiting' kept settled all =
      marks_moved links key rows marks marks' (waits waiting) (waits waiting') settled.others (marks_met links apart key rows marks marks' settled.others settled.itself)
      (λ p other none. still_false (waits waiting p) (waits waiting' p) (kept p) none) (reach_waits key marks marks' waiting' settled) all

  -- a row of the article is settled
  pub row_settled : (key : RowKey) (marks marks' : RowKey → Sites) (later : List RowKey) (articles : List ℕ) (waiting waiting' : List RowKey)
      → ChildrenCome links key.article articles → KeepsWaiting waiting waiting' → IsSettled links children rows marks marks' key waiting'
      → AllMeet links rows marks (pends_within (key ∷ later) articles waiting) → AllMeet links rows marks' (pends_within later articles waiting')
  row_settled key marks marks' later articles waiting waiting' come kept settled all =
      marks_moved links key rows marks marks' (pends_within (key ∷ later) articles waiting) (pends_within later articles waiting') settled.others
      (marks_met links apart key rows marks marks' settled.others settled.itself)
      (fewer_wait key later articles waiting waiting' kept)
      (reach key marks marks' later articles waiting' come settled) all

marks_put : (held drafted : List (RowKey × Sites)) (key : RowKey) (sites : Sites) (q : RowKey) → (b : Bool) → is_at (key_cmp q) key ≡ b
    → unwrap_or (cond b (Some sites) (found drafted q)) (marks_of held q) ≡ cond b sites (marks_in held drafted q)
marks_put held drafted key sites q true is = refl
marks_put held drafted key sites q false is = refl

-- the marks after those of one row are put in their place
pub marks_in-insert : (held drafted : List (RowKey × Sites)) (key : RowKey) (sites : Sites) (q : RowKey) → marks_in held (insert_entry key_cmp drafted key sites) q ≡ cond (is_at (key_cmp key) q) sites (marks_in held drafted q)
marks_in-insert held drafted key sites q =
    ap (λ o. unwrap_or o (marks_of held q)) (lookup-insert_entry key_cmp key_total key q sites drafted)
    ∙ marks_put held drafted key sites q (is_at (key_cmp q) key) refl
    ∙ ap (λ b. cond b sites (marks_in held drafted q)) (is_at-swap q key)

pub settled_by : (links : List Link) (children : Entries) (rows : RowKey → Option Content) (held drafted drafted' : List (RowKey × Sites)) (key : RowKey) (sites both : Sites) (waiting : List RowKey)
    → drafted' ≡ insert_entry key_cmp drafted key sites → AreMarksOf links rows (marks_in held drafted) key sites → IsUnion (marks_in held drafted key) sites both
    → ReachedByMarks links (length links) rows (marks_in held drafted) key both children (rows key) waiting
    → IsSettled links children rows (marks_in held drafted) (marks_in held drafted') key waiting
settled_by links children rows held drafted drafted' key sites both waiting is are union reached =
    let put : marks_in held (insert_entry key_cmp drafted key sites) key ≡ sites = marks_in-insert held drafted key sites key ∙ ap (λ b. cond b sites (marks_in held drafted key)) (is_at-itself key) in
    rw is record {
      others = λ k apart. marks_in-insert held drafted key sites k ∙ ap (λ b. cond b sites (marks_in held drafted k)) apart;
      itself = subst (AreMarksOf links rows (marks_in held drafted) key) (sym put) are;
      children_wait = inr (both, subst (λ s. IsUnion (marks_in held drafted key) s both) (sym put) union, reached);
    }

same_article : (k w : RowKey) → is_at (key_cmp k) w ≡ true → k.article ≡ w.article
same_article k w h = ap (λ (q : RowKey). q.article) (same_key k w h)

filter_waits_step : (article : ℕ) (w : RowKey) (waiting : List RowKey) (k : RowKey) → (k.article == article) ≡ true
    → (waits (filter (λ (v : RowKey). v.article == article) waiting) k ≡ false → waits waiting k ≡ false)
    → (b c : Bool) → (w.article == article) ≡ b → is_at (key_cmp k) w ≡ c
    → waits (cond b (w ∷ filter (λ (v : RowKey). v.article == article) waiting) (filter (λ (v : RowKey). v.article == article) waiting)) k ≡ false → (c || waits waiting k) ≡ false
filter_waits_step article w waiting k of ih true true is at none = let bad : true ≡ false = sym at ∙ (or_false (is_at (key_cmp k) w) (waits (filter (λ (v : RowKey). v.article == article) waiting) k) none).0 in absurd cc
filter_waits_step article w waiting k of ih true false is at none = ih (or_false (is_at (key_cmp k) w) (waits (filter (λ (v : RowKey). v.article == article) waiting) k) none).1
filter_waits_step article w waiting k of ih false false is at none = ih none
filter_waits_step article w waiting k of ih false true is at none =
    let bad : true ≡ false = sym of ∙ ap (λ a. a == article) (same_article k w at) ∙ is in absurd cc

filter_waits : (article : ℕ) (waiting : List RowKey) (k : RowKey) → (k.article == article) ≡ true → waits (filter (λ (v : RowKey). v.article == article) waiting) k ≡ false → waits waiting k ≡ false
filter_waits article [] k of none = refl
filter_waits article (w ∷ waiting) k of none = filter_waits_step article w waiting k of (filter_waits article waiting k of) (w.article == article) (is_at (key_cmp k) w) refl refl none

-- within an article: each row of it that waits stands in the batch
in_batch : (article : ℕ) (articles : List ℕ) (waiting : List RowKey) (k : RowKey) → waits (filter (λ w. w.article == article) waiting) k ≡ false → (b : Bool) → (k.article == article) ≡ b → (b && waits waiting k) ≡ false
in_batch article articles waiting k none false is = refl
in_batch article articles waiting k none true is = filter_waits article waiting k is none

split_pends : (a b w : Bool) → (a && w) ≡ false → (b && w) ≡ false → ((a || b) && w) ≡ false
split_pends true b w first second = first
split_pends false b w first second = second

-- each row that does not wait meets the rule, whatever articles are to come
pub quiet_by : (links : List Link) (rows : RowKey → Option Content) (marks : RowKey → Sites) (articles : List ℕ) (waiting : List RowKey) → AllMeet links rows marks (pends articles waiting) → AllMeet links rows marks (waits waiting)
quiet_by links rows marks articles waiting all k none = all k (and_none (is_among articles k.article) (waits waiting k) none)
  where
    and_none : (a b : Bool) → b ≡ false → (a && b) ≡ false
    and_none true b none = none
    and_none false b none = refl

-- the rows of the next article that wait are its batch, and the others wait for articles to come
pub batch_begins : (links : List Link) (rows : RowKey → Option Content) (marks : RowKey → Sites) (article : ℕ) (articles : List ℕ) (waiting : List RowKey)
    → AllMeet links rows marks (pends (article ∷ articles) waiting) → AllMeet links rows marks (pends_within (filter (λ (w : RowKey). w.article == article) waiting) articles waiting)
batch_begins links rows marks article articles waiting all k none =
    let parts = or_false (waits (filter (λ (w : RowKey). w.article == article) waiting) k) (pends articles waiting k) none in
    all k (split_pends (k.article == article) (is_among articles k.article) (waits waiting k) (in_batch article articles waiting k parts.0 (k.article == article) refl) parts.1)
