-- Marks that meet the rule are the partitions.
use Rattle.std.proofs.Common.{◌≡◌, ◌⊎◌, inl, inr, ◌<◌, ℕ, Bool, true, false, ◌||◌, ◌&&◌, List, length, Option, Some, None, refl, sym, ap, ◌∙◌, subst, arith}
use Rattle.std.specs.Prelude.{◌==◌, nat_lt, is_none}
use Rattle.std.specs.List.{Contains, slice_get, filter, list_any}
use Rattle.std.specs.List.Sorted.{IsStrictlySortedBy}
use Rattle.std.specs.Map.{keys_of}
use Rattle.std.specs.BTreeMap.{is_at}
use Rattle.std.specs.Cmp.{eq_by_cmp_equiv}
use Rattle.std.proofs.lemmas.Bool.Decides.{nat_tests}
use Rattle.std.proofs.lemmas.Map.Keys.{IsDistinct-from_sorted}
use Rattle.std.proofs.lemmas.Map.Views.{Contains-from_lookup, lookup-from_Contains}
use Rattle.std.proofs.lemmas.Option.{slice_get_within}
use Rattle.merge_types.specs.declared.identifiers.RowId.{RowId}
use Rattle.merge_filter.specs.Syntax.{Syntax}
use Rattle.merge_schema.specs.declared.publication.Article.{Article}
use Rattle.merge_schema.specs.declared.publication.JoinFilter.{JoinFilter}
use Rattle.merge_schema.specs.declared.publication.Publication.{Publication}
use Rattle.merge_schema.specs.declared.publication.Subscription.{Subscription}
use Rattle.merge_schema.specs.EvaluationOrder.{IsEvaluationOrder}
use Rattle.merge_schema.specs.Partition.{LiveRow, are_joined, is_empty, is_whole, passes, is_parent, has_parent, belongs, belongs_to, article_at, is_in}
use Rattle.merge_schema.proofs.ListMembers.{any_found, any_at, contains_filter, contains_from_filter}
use Rattle.merge_schema.proofs.Partitions.{partition_least, partition_only, in_by_partition}
use Rattle.merge_types.specs.declared.row_key.RowKey.{RowKey}
use Rattle.merge_part.specs.declared.sites.Sites.{Sites}
use Rattle.merge_part.specs.declared.content.Content.{Content}
use Rattle.merge_part.specs.declared.link.Link.{Link}
use Rattle.merge_types.specs.RowKeys.{key_cmp}
use Rattle.merge_part.specs.Draft.{found}
use Rattle.merge_part.specs.Filtering.{filter_at, true_for}
use Rattle.merge_part.specs.Live.{values_held, live_of, live_row, live_rows}
use Rattle.merge_part.specs.Rule.{value_at, parent_value, Parent, Reason, Meets}
use Rattle.merge_part.specs.Rules.{link_of, links_of, AreFiltered}
use Rattle.merge_part.specs.Sites.{has_site}
use Rattle.merge_part.specs.Taking.{filtered_by}
use Rattle.merge_part.proofs.Drafts.{key_total}
use Rattle.merge_part.proofs.Kept.{same_key}
use Rattle.merge_part.proofs.LinkLists.{contains_map, contains_from_map, link_there, link_from}
use Rattle.merge_part.proofs.Reasons.{both, joined_is}

-- the row of an entry, and the key of a row
abbrev pub row_of : RowKey × Content → LiveRow
row_of entry = live_row (values_held entry)

abbrev pub key_of : LiveRow → RowKey
key_of row = record { article = row.article; row = row.row }

module _ (rows : List (RowKey × Content)) (sorted : IsStrictlySortedBy key_cmp (keys_of rows)) where
  -- the live rows are what look-ups find
  live_there : (key : RowKey) (content : Content) → found rows key ≡ Some content → Contains (live_rows (live_of rows)) (row_of (key, content))
  live_there key content is = contains_map live_row (live_of rows) (values_held (key, content)) (contains_map values_held rows (key, content) (Contains-from_lookup {eq = λ a b. is_at (key_cmp a) b} same_key key content rows is))

  live_from : (row : LiveRow) → Contains (live_rows (live_of rows)) row → (content : Content) × (found rows (key_of row) ≡ Some content) × (row ≡ row_of (key_of row, content))
  live_from row there =
      let one = contains_from_map live_row (live_of rows) row there in
      let two = contains_from_map values_held rows one.0 one.1 in
      let entry = two.0 in
      let is : row ≡ row_of entry = sym one.2 ∙ ap live_row (sym two.2) in
      let key : key_of row ≡ entry.0 = ap key_of is in
      let at : found rows entry.0 ≡ Some entry.1 = lookup-from_Contains {eq = λ a b. is_at (key_cmp a) b} (eq_by_cmp_equiv key_total) entry.0 entry.1 rows (IsDistinct-from_sorted key_cmp (keys_of rows) sorted) two.1 in
      (entry.1, ap (found rows) key ∙ at, is ∙ ap (λ k. row_of (k, entry.1)) (sym key))

or_left : (a b : Bool) → a ≡ true → (a || b) ≡ true
or_left true b h = refl
or_left false b h = absurd cc

or_right : (a b : Bool) → b ≡ true → (a || b) ≡ true
or_right true b h = refl
or_right false b h = h

or_cases : (a b : Bool) → (a || b) ≡ true → (a ≡ true) ⊎ (b ≡ true)
or_cases true b h = inl refl
or_cases false b h = inr h

both_true : (a b : Bool) → a ≡ true → b ≡ true → (a && b) ≡ true
both_true true b ha hb = hb
both_true false b ha hb = absurd cc

-- what a row filter says, as the rule has it
filter_belongs : (filter : Option Syntax) (alone : Bool) (subscriptions : List Subscription) (subscription : Subscription) (place : ℕ) (row : LiveRow) → slice_get subscriptions place ≡ Some subscription
    → filter_at filter alone subscriptions row.values place ≡ true → ((is_none filter && alone) || passes filter subscription.host row) ≡ true
filter_belongs None alone subscriptions subscription place row is h = or_left alone false (both alone (nat_lt place (length subscriptions)) h).0
filter_belongs (Some filter) alone subscriptions subscription place row is h = ap (true_for filter row.values) (sym is) ∙ h

belongs_filter : (filter : Option Syntax) (alone : Bool) (subscriptions : List Subscription) (subscription : Subscription) (place : ℕ) (row : LiveRow) → slice_get subscriptions place ≡ Some subscription
    → ((is_none filter && alone) || passes filter subscription.host row) ≡ true → filter_at filter alone subscriptions row.values place ≡ true
belongs_filter None alone subscriptions subscription place row is h =
    let within : place < length subscriptions = slice_get_within subscriptions place subscription is in
    let alone_is : alone ≡ true = elim (or_cases alone false h) [ inl a ↦ a | inr b ↦ absurd cc ] in
    both_true alone (nat_lt place (length subscriptions)) alone_is (grind (arith, nat_tests))
belongs_filter (Some filter) alone subscriptions subscription place row is h = ap (true_for filter row.values) is ∙ h

or_three : (a b c : Bool) → (a || b || c) ≡ true → ((a || b) ≡ true) ⊎ (c ≡ true)
or_three a b c h = or_cases (a || b) c h

module _ (publication : Publication) (rows : List (RowKey × Content)) (sorted : IsStrictlySortedBy key_cmp (keys_of rows)) (marks : RowKey → Sites) (links : List Link) (links_are : links ≡ links_of publication)
    (met : (key : RowKey) → Meets links (found rows) marks key) (filtered : AreFiltered publication (found rows))
    (place : ℕ) (subscription : Subscription) (at : slice_get publication.subscriptions place ≡ Some subscription) where
  abbrev live : List LiveRow
  live = live_rows (live_of rows)

  abbrev marked : LiveRow → Bool
  marked row = has_site (marks (key_of row)) place

  -- the rows that are marked
  abbrev inside : List LiveRow
  inside = filter marked live

  by_filter : (row : LiveRow) (article : Option Article) → filtered_by article publication.subscriptions row.values place ≡ true → belongs_to article subscription.host inside row ≡ true
  by_filter row None h = absurd cc
  by_filter row (Some article) h =
      or_left (is_whole article || passes article.filter subscription.host row) (list_any (has_parent inside row) article.joins)
      (filter_belongs article.filter (is_empty article.joins) publication.subscriptions subscription place row at h)

  parent_is : (row : LiveRow) (content : Content) → row.values ≡ content.values → (join : JoinFilter) (p : Parent links (found rows) marks (key_of row) content place) → p.link ≡ link_of p.link.child join
      → (held : Content) → found rows p.parent ≡ Some held → is_parent join row (row_of (p.parent, held)) ≡ true
  parent_is row content values join p is held lives =
      let joined : are_joined (value_at content.values p.link.column) (parent_value p.link (found rows p.parent)) ≡ true = (both _ _ p.given).0 in
      let joined_held : are_joined (value_at content.values p.link.column) (parent_value p.link (Some held)) ≡ true = subst (λ h. are_joined (value_at content.values p.link.column) (parent_value p.link h) ≡ true) lives joined in
      let joined_link : are_joined (value_at content.values join.column) (value_at held.values join.parent_column) ≡ true
      = subst (λ (l : Link). are_joined (value_at content.values l.column) (parent_value l (Some held)) ≡ true) is joined_held in
      let joined_row : are_joined (value_at row.values join.column) (value_at held.values join.parent_column) ≡ true
      = subst (λ vs. are_joined (value_at vs join.column) (value_at held.values join.parent_column) ≡ true) (sym values) joined_link in
      let parent_article : p.parent.article ≡ join.parent = p.above ∙ ap (λ (l : Link). l.parent) is in
      let same : (p.parent.article == join.parent) ≡ true = grind (arith, nat_tests) in
      both_true (p.parent.article == join.parent) _ same joined_row

  by_parent : (row : LiveRow) (content : Content) → row.values ≡ content.values → Parent links (found rows) marks (key_of row) content place → belongs publication subscription.host inside row ≡ true
  by_parent row content values p =
      let there : Contains (links_of publication) p.link = subst (λ ls. Contains ls p.link) links_are (p.number, p.among.0, p.among.1) in
      let from = link_from 0 publication.articles p.link there in
      let place_is : from.place ≡ row.article = omega (arith, from.child, p.below) in
      let article_is : article_at publication row.article ≡ Some from.article = ap (slice_get publication.articles) (sym place_is) ∙ from.stands in
      let joined = joined_is (value_at content.values p.link.column) p.link (found rows p.parent) (both _ _ p.given).0 in
      let parent = row_of (p.parent, joined.0) in
      let parent_inside : Contains inside parent = contains_filter marked live parent (live_there rows sorted p.parent joined.0 joined.1) (both _ _ p.given).1 in
      let has : has_parent inside row from.join ≡ true = any_at (is_parent from.join row) inside parent parent_inside (parent_is row content values from.join p from.is joined.0 joined.1) in
      let any : list_any (has_parent inside row) from.article.joins ≡ true = any_at (has_parent inside row) from.article.joins from.join from.among has in
      ap (λ article. belongs_to article subscription.host inside row) article_is ∙ or_right (is_whole from.article || passes from.article.filter subscription.host row) (list_any (has_parent inside row) from.article.joins) any

  reason_belongs : (row : LiveRow) (content : Content) → found rows (key_of row) ≡ Some content → row.values ≡ content.values → Reason links (found rows) marks (key_of row) content place
      → belongs publication subscription.host inside row ≡ true
  reason_belongs row content lives values (inl h) =
      by_filter row (article_at publication row.article)
      (ap (λ vs. filtered_by (article_at publication row.article) publication.subscriptions vs place) values ∙ sym (filtered (key_of row) content lives place) ∙ h)
  reason_belongs row content lives values (inr p) = by_parent row content values p

  has_reasons : (row : LiveRow) → Contains inside row → Contains live row × (belongs publication subscription.host inside row ≡ true)
  has_reasons row there =
      let kept = contains_from_filter marked live row there in
      let lives = live_from rows sorted row kept.0 in
      let why = (met (key_of row)).reason place kept.1 in
      let same : lives.0 ≡ why.0 = (let both_are : Some lives.0 ≡ Some why.0 = sym lives.1 ∙ why.1 in cc) in
      let values : row.values ≡ why.0.values = ap (λ (r : LiveRow). r.values) lives.2 ∙ ap (λ (x : Content). x.values) same in
      (kept.0, reason_belongs row why.0 why.1 values why.2)

  by_join : (row : LiveRow) (content : Content) → row.values ≡ content.values → (article : Article) → slice_get publication.articles row.article ≡ Some article
      → list_any (has_parent inside row) article.joins ≡ true → Parent links (found rows) marks (key_of row) content place
  by_join row content values article is any =
      let join = any_found (has_parent inside row) article.joins any in
      let parent = any_found (is_parent join.0 row) inside join.2 in
      let kept = contains_from_filter marked live parent.0 parent.1 in
      let lives = live_from rows sorted parent.0 kept.0 in
      let tests = both (parent.0.article == join.0.parent) (are_joined (value_at row.values join.0.column) (value_at parent.0.values join.0.parent_column)) parent.2 in
      let there : Contains links (link_of row.article join.0) = subst (λ ls. Contains ls (link_of row.article join.0)) (sym links_are) (link_there 0 publication.articles row.article article join.0 is join.1 row.article (omega arith)) in
      let parent_values : parent.0.values ≡ lives.0.values = ap (λ (r : LiveRow). r.values) lives.2 in
      let joined : are_joined (value_at content.values join.0.column) (parent_value (link_of row.article join.0) (found rows (key_of parent.0))) ≡ true
      = ap (λ h. are_joined (value_at content.values join.0.column) (parent_value (link_of row.article join.0) h)) lives.1
      ∙ ap (λ vs. are_joined (value_at content.values join.0.column) (value_at vs join.0.parent_column)) (sym parent_values)
      ∙ ap (λ vs. are_joined (value_at vs join.0.column) (value_at parent.0.values join.0.parent_column)) (sym values)
      ∙ tests.1 in
      let same : (parent.0.article == join.0.parent) ≡ true = tests.0 in
      record {
        number = there.0;
        link = link_of row.article join.0;
        parent = key_of parent.0;
        among = (there.1, there.2);
        below = refl;
        above = grind (arith, nat_tests);
        given = both_true _ (has_site (marks (key_of parent.0)) place) joined kept.1;
      }

  belongs_reason : (row : LiveRow) (content : Content) → found rows (key_of row) ≡ Some content → row.values ≡ content.values → (article : Option Article) → slice_get publication.articles row.article ≡ article
      → belongs_to article subscription.host inside row ≡ true → Reason links (found rows) marks (key_of row) content place
  belongs_reason row content lives values None is h = absurd cc
  belongs_reason row content lives values (Some article) is h =
      elim (or_three (is_whole article) (passes article.filter subscription.host row) (list_any (has_parent inside row) article.joins) h) [
        | inl passed ↦ inl (
            filtered (key_of row) content lives place
            ∙ ap (λ a. filtered_by a publication.subscriptions content.values place) is
            ∙ ap (λ vs. filtered_by (Some article) publication.subscriptions vs place) (sym values)
            ∙ belongs_filter article.filter (is_empty article.joins) publication.subscriptions subscription place row at passed)
        | inr any ↦ inr (by_join row content values article is any)
      ]

  meets_rule : (row : LiveRow) → Contains live row → belongs publication subscription.host inside row ≡ true → Contains inside row
  meets_rule row there h =
      let lives = live_from rows sorted row there in
      let values : row.values ≡ lives.0.values = ap (λ (r : LiveRow). r.values) lives.2 in
      contains_filter marked live row there
      ((met (key_of row)).reached place lives.0 lives.1 (belongs_reason row lives.0 lives.1 values (slice_get publication.articles row.article) refl h))

  -- a marked row is in the partition
  pub marked_is_in : (order : List ℕ) → IsEvaluationOrder publication order → (key : RowKey) → has_site (marks key) place ≡ true → is_in publication subscription.host live key.article key.row ≡ true
  marked_is_in order ordered key h =
      let why = (met key).reason place h in
      let row = row_of (key, why.0) in
      let row_inside : Contains inside row = contains_filter marked live row (live_there rows sorted key why.0 why.1) h in
      (in_by_partition publication subscription.host live key.article key.row).1 (row, partition_only publication subscription.host live order ordered inside has_reasons row row_inside, refl, refl)

  key_is : (row : LiveRow) (key : RowKey) → row.article ≡ key.article → row.row ≡ key.row → key_of row ≡ key
  key_is row key article id =
      let by_article : ℕ → RowKey = λ a. record { article = a; row = row.row } in
      let by_row : RowId → RowKey = λ r. record { article = key.article; row = r } in
      ap by_article article ∙ ap by_row id

  -- and a row of the partition is marked
  pub is_in_marked : (key : RowKey) → is_in publication subscription.host live key.article key.row ≡ true → has_site (marks key) place ≡ true
  is_in_marked key h =
      let row = (in_by_partition publication subscription.host live key.article key.row).0 h in
      let kept = contains_from_filter marked live row.0 (partition_least publication subscription.host live inside meets_rule row.0 row.1) in
      subst (λ k. has_site (marks k) place ≡ true) (key_is row.0 key row.2 row.3) kept.1
