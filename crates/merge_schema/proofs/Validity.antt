-- What the readings and checks of a file say of its publication.
use Rattle.std.proofs.Common.{◌≡◌, ◌≢◌, ℕ, zero, suc, ◌<◌, ◌≤◌, ◌+◌, inl, inr, Bool, true, false, not, bytes_eq, codes, decimal, List, [], ◌∷◌, length, map, slice_get, find, All, Option, Some, None, IsSome, option_map, IfOk, Result, Ok, Err, refl, sym, ap, subst, ◌∙◌, arith}
use Rattle.std.specs.List.{Contains, AllPairs, AllZip, list_any}
use Rattle.std.proofs.lemmas.Bool.{false≢true}
use Rattle.std.proofs.Math.ListN.{get_or-map}
use Rattle.std.proofs.lemmas.List.{length-map}
use Rattle.std.proofs.lemmas.List.Elements.{Contains-append_right, All-map}
use Rattle.std.proofs.lemmas.Slice.Zip.{AllZip-long}
use Rattle.merge_types.specs.declared.values.Column.{Column}
use Rattle.merge_filter.specs.Syntax.{Syntax}
use Rattle.merge_filter.specs.Types.{column_type, are_alike}
use Rattle.merge_schema.specs.declared.draft.ArticleDraft.{ArticleDraft}
use Rattle.merge_schema.specs.declared.draft.Draft.{Draft}
use Rattle.merge_schema.specs.declared.draft.JoinDraft.{JoinDraft}
use Rattle.merge_schema.specs.declared.fault.SchemaFault.{SchemaFault}
use Rattle.merge_schema.specs.declared.fault.SchemaFault.TheVariants.{BadValue, UnknownArticle, JoinTypes, JoinCycle}
use Rattle.merge_schema.specs.declared.publication.Article.{Article}
use Rattle.merge_schema.specs.declared.publication.JoinFilter.{JoinFilter}
use Rattle.merge_schema.specs.declared.publication.Publication.{Publication}
use Rattle.merge_schema.specs.declared.publication.Subscription.{Subscription}
use Rattle.merge_schema.specs.Ancestors.{columns_if, is_unlike, joins_alike, is_ancestor, no_own_ancestor, joins_checked}
use Rattle.merge_schema.specs.Answers.{IsCheckedAnswer, accepted}
use Rattle.merge_schema.specs.Building.{placed_join, placed_article, IsPlaced, ArePlaced, publication_of, HasFewPlaces}
use Rattle.merge_schema.specs.Checks.{article_names, column_names, site_names, distinct, distinct_columns, not_unknown, parents_known, lacks_column, lacks_parent_column, lacks_named, lacks_resolver_column, decides_by, cannot_decide, names_checked}
use Rattle.merge_schema.specs.Lookups.{stands_in, column_place, draft_place, has_column, columns_of, columns_named, found}
use Rattle.merge_schema.specs.Partition.{joins_of}
use Rattle.merge_schema.specs.Steps.{◌>>=◌, every, refused_if, UnlessMemory}
use Rattle.merge_schema.specs.FileTables.{needs_column}
use Rattle.merge_schema.specs.Valid.{IsWithin, AreDistinct, FilterFits, IsValidJoin, IsValidDecider, IsValidArticle, IsValid}
use Rattle.merge_schema.specs.ValidTables.{IsValidDraft, HasValidTables}
use Rattle.merge_schema.proofs.Distinct.{distinct_names}
use Rattle.merge_schema.proofs.Found.{all_at}
use Rattle.merge_schema.proofs.ListMembers.{contains_cases, contains_none}
use Rattle.merge_schema.proofs.Orders.{evaluation_order_is}
use Rattle.merge_schema.proofs.Searches.{both, not_refused, not_false, every_at, none_at, none_found, place_of_any, place_of_some, all_members, any_map}

-- what the checks of names leave
record AreChecked (draft : Draft) : Type 0 where
  distinct_articles : AreDistinct (article_names draft.articles)
  distinct_columns_of : (article : ArticleDraft) → Contains draft.articles article → AreDistinct (column_names article.columns)
  distinct_sites : AreDistinct (site_names draft.subscriptions)
  parents : (article : ArticleDraft) → Contains draft.articles article → parents_known (article_names draft.articles) article ≡ Ok tt
  columns : (article : ArticleDraft) → Contains draft.articles article → lacks_column article ≡ false
  parent_columns : (article : ArticleDraft) → Contains draft.articles article → lacks_parent_column draft.articles article ≡ false
  resolver_columns : (article : ArticleDraft) → Contains draft.articles article → lacks_resolver_column article ≡ false
  deciders : (article : ArticleDraft) → Contains draft.articles article → cannot_decide article ≡ false

are_checked : (draft : Draft) → names_checked draft ≡ Ok tt → AreChecked draft
unfolding names_checked
are_checked draft h =
    let s8 : Result (Unit {0}) SchemaFault = refused_if (list_any cannot_decide draft.articles) (BadValue (codes "resolver_column")) in
    let r7 : Result (Unit {0}) SchemaFault = refused_if (list_any lacks_resolver_column draft.articles) (BadValue (codes "resolver_column")) in
    let s7 : Result (Unit {0}) SchemaFault = r7 >>= λ _. s8 in
    let r6 : Result (Unit {0}) SchemaFault = refused_if (list_any (lacks_parent_column draft.articles) draft.articles) (BadValue (codes "parent_column")) in
    let s6 : Result (Unit {0}) SchemaFault = r6 >>= λ _. s7 in
    let r5 : Result (Unit {0}) SchemaFault = refused_if (list_any lacks_column draft.articles) (BadValue (codes "column")) in
    let s5 : Result (Unit {0}) SchemaFault = r5 >>= λ _. s6 in
    let r4 : Result (Unit {0}) SchemaFault = every (parents_known (article_names draft.articles)) draft.articles in
    let s4 : Result (Unit {0}) SchemaFault = r4 >>= λ _. s5 in
    let r3 : Result (Unit {0}) SchemaFault = distinct (site_names draft.subscriptions) in
    let s3 : Result (Unit {0}) SchemaFault = r3 >>= λ _. s4 in
    let r2 : Result (Unit {0}) SchemaFault = every distinct_columns draft.articles in
    let s2 : Result (Unit {0}) SchemaFault = r2 >>= λ _. s3 in
    let h1 = both (distinct (article_names draft.articles)) s2 h in
    let h2 = both r2 s3 h1.1 in
    let h3 = both r3 s4 h2.1 in
    let h4 = both r4 s5 h3.1 in
    let h5 = both r5 s6 h4.1 in
    let h6 = both r6 s7 h5.1 in
    let h7 = both r7 s8 h6.1 in
    record {
      distinct_articles = distinct_names (article_names draft.articles) h1.0;
      distinct_columns_of = λ article there. distinct_names (column_names article.columns) (every_at distinct_columns draft.articles h2.0 article there);
      distinct_sites = distinct_names (site_names draft.subscriptions) h3.0;
      parents = λ article there. every_at (parents_known (article_names draft.articles)) draft.articles h4.0 article there;
      columns = λ article there. none_at lacks_column draft.articles (not_refused (list_any lacks_column draft.articles) (BadValue (codes "column")) h5.0) article there;
      parent_columns = λ article there. none_at (lacks_parent_column draft.articles) draft.articles (not_refused (list_any (lacks_parent_column draft.articles) draft.articles) (BadValue (codes "parent_column")) h6.0) article there;
      resolver_columns = λ article there. none_at lacks_resolver_column draft.articles (not_refused (list_any lacks_resolver_column draft.articles) (BadValue (codes "resolver_column")) h7.0) article there;
      deciders = λ article there. none_at cannot_decide draft.articles (not_refused (list_any cannot_decide draft.articles) (BadValue (codes "resolver_column")) h7.1) article there;
    }

-- columns and parents that are there

column_known : (columns : List Column) (name : List ℕ) → not (has_column columns name) ≡ false → found (column_place columns name) < length columns
column_known columns name h = (place_of_some (λ (column : Column). bytes_eq column.name name) columns (not_false (has_column columns name) h)).0

no_orphan : (found_join : Option JoinDraft) → not_unknown found_join ≡ Ok tt → found_join ≡ None
no_orphan None h = refl
no_orphan (Some join) h = absurd (refused h)
  where
    refused : ◌≡◌ {A = Result (Unit {0}) SchemaFault} (Err (UnknownArticle join.parent)) (Ok tt) → ⊥
    refused e = cc

-- the parent of a join is an article, at the place that its name is found at
parent_known : (drafts : List ArticleDraft) (article : ArticleDraft) → parents_known (article_names drafts) article ≡ Ok tt → (join : JoinDraft) → Contains article.joins join
    → (found (draft_place drafts join.parent) < length drafts) × (columns_named drafts join.parent ≡ columns_of (slice_get drafts (found (draft_place drafts join.parent))))
parent_known drafts article h join there =
    let orphan : JoinDraft → Bool = λ j. not (stands_in (article_names drafts) j.parent) in
    let none = none_found orphan article.joins (no_orphan (find orphan article.joins) h) in
    let stands : stands_in (article_names drafts) join.parent ≡ true = not_false (stands_in (article_names drafts) join.parent) (none_at orphan article.joins none join there) in
    let named : ArticleDraft → Bool = λ d. bytes_eq d.name join.parent in
    let place = place_of_any named drafts (sym (any_map (λ (d : ArticleDraft). d.name) (λ other. bytes_eq other join.parent) drafts) ∙ stands) in
    (place.0, ap columns_of place.1)

contains_map : {A B : Type 0} (f : A → B) (xs : List A) (x : A) → Contains xs x → Contains (map f xs) (f x)
contains_map f [] x there = absurd (contains_none x there)
contains_map f (y ∷ ys) x there = elim (contains_cases y ys x there) [
  | inl same ↦ (0, omega arith, ap f same)
  | inr more ↦ Contains-append_right (f y ∷ []) (map f ys) (f x) (contains_map f ys x more)
]

-- articles beside the drafts that they come of

placed_from : (drafts : List ArticleDraft) (ds : List ArticleDraft) (articles : List Article) → AllZip (IsPlaced drafts) ds articles → (article : Article) → Contains articles article
    → (draft : ArticleDraft) × Contains ds draft × IsPlaced drafts draft article
placed_from drafts [] [] zipped article there = absurd (contains_none article there)
placed_from drafts [] (a ∷ articles) zipped article there = absurd zipped
placed_from drafts (d ∷ ds) [] zipped article there = absurd zipped
placed_from drafts (d ∷ ds) (a ∷ articles) zipped article there = elim (contains_cases a articles article there) [
  | inl same ↦ (d, (0, omega arith, refl), subst (λ (x : Article). IsPlaced drafts d x) same zipped.0)
  | inr more ↦ let rest = placed_from drafts ds articles zipped.1 article more in (rest.0, Contains-append_right (d ∷ []) ds rest.0 rest.1, rest.2)
]

same_columns : (drafts : List ArticleDraft) (ds : List ArticleDraft) (articles : List Article) → AllZip (IsPlaced drafts) ds articles → (place : ℕ) → columns_if (slice_get articles place) ≡ columns_of (slice_get ds place)
same_columns drafts [] [] zipped place = refl
same_columns drafts [] (a ∷ articles) zipped place = absurd zipped
same_columns drafts (d ∷ ds) [] zipped place = absurd zipped
same_columns drafts (d ∷ ds) (a ∷ articles) zipped zero = ap (λ (x : Article). x.columns) zipped.0.1
same_columns drafts (d ∷ ds) (a ∷ articles) zipped (suc place) = same_columns drafts ds articles zipped.1 place

same_names : (drafts : List ArticleDraft) (ds : List ArticleDraft) (articles : List Article) → AllZip (IsPlaced drafts) ds articles → map (λ (article : Article). article.name) articles ≡ article_names ds
same_names drafts [] [] zipped = refl
same_names drafts [] (a ∷ articles) zipped = absurd zipped
same_names drafts (d ∷ ds) [] zipped = absurd zipped
same_names drafts (d ∷ ds) (a ∷ articles) zipped = λ i. (zipped.0.1 i).name ∷ same_names drafts ds articles zipped.1 i

-- one article
module _ (draft : Draft) (articles : List Article) (zipped : AllZip (IsPlaced draft.articles) draft.articles articles) (good : AreChecked draft) where
  as_long : length draft.articles ≡ length articles
  as_long = sym (AllZip-long (IsPlaced draft.articles) draft.articles articles zipped)

  valid_join : (article : ArticleDraft) → Contains draft.articles article → (filter : Option Syntax) → joins_alike articles (placed_article draft.articles article filter) ≡ Ok tt
      → (join : JoinDraft) → Contains article.joins join → IsValidJoin articles article.columns (placed_join draft.articles article.columns join)
  valid_join article inside filter alike join there =
      let parent = parent_known draft.articles article (good.parents article inside) join there in
      let place : ℕ = found (draft_place draft.articles join.parent) in
      let columns : columns_if (slice_get articles place) ≡ columns_named draft.articles join.parent = same_columns draft.articles draft.articles articles zipped place ∙ sym parent.1 in
      let there_column = column_known article.columns join.column (none_at (λ (j : JoinDraft). not (has_column article.columns j.column)) article.joins (good.columns article inside) join there) in
      let there_parent = column_known (columns_named draft.articles join.parent) join.parent_column (none_at (λ (j : JoinDraft). not (has_column (columns_named draft.articles j.parent) j.parent_column)) article.joins (good.parent_columns article inside) join there) in
      let made : Article = placed_article draft.articles article filter in
      let none : list_any (is_unlike articles made) made.joins ≡ false = not_refused (list_any (is_unlike articles made) made.joins) (JoinTypes made.name) alike in
      let listed : Contains made.joins (placed_join draft.articles article.columns join) = contains_map (placed_join draft.articles article.columns) article.joins join there in
      record {
        column = there_column;
        parent = subst (λ (n : ℕ). place < n) as_long parent.0;
        parent_column = subst (λ (cs : List Column). found (column_place (columns_named draft.articles join.parent) join.parent_column) < length cs) (sym columns) there_parent;
        alike = not_false (are_alike (column_type article.columns (found (column_place article.columns join.column))) (column_type (columns_if (slice_get articles place)) (found (column_place (columns_named draft.articles join.parent) join.parent_column))))
            (none_at (is_unlike articles made) made.joins none (placed_join draft.articles article.columns join) listed);
      }

  valid_decider_of : (article : ArticleDraft) (name : Option (List ℕ)) → (needs_column article.resolver ≡ true → IsSome name) → lacks_named article.columns name ≡ false
      → not (decides_by article name) ≡ false → IsValidDecider article.columns article.identity article.resolver (option_map (λ n. found (column_place article.columns n)) name)
  valid_decider_of article None has lacks fits = λ needs. false≢true (has needs)
  valid_decider_of article (Some name) has lacks fits = (column_known article.columns name lacks, not_false (decides_by article (Some name)) fits)

  valid_article : (resolvers : ℕ) (article : ArticleDraft) → Contains draft.articles article → IsValidDraft resolvers article → (filter : Option Syntax)
      → joins_alike articles (placed_article draft.articles article filter) ≡ Ok tt → FilterFits filter (length article.columns) → IsValidArticle resolvers articles (placed_article draft.articles article filter)
  valid_article resolvers article inside valid filter alike fits = record {
    named = valid.named;
    some_columns = valid.some_columns;
    named_columns = valid.named_columns;
    distinct_columns = good.distinct_columns_of article inside;
    few_joins = subst (λ (n : ℕ). n ≤ 8) (sym (length-map article.joins (placed_join draft.articles article.columns))) valid.few_joins;
    valid_joins = All-map (IsValidJoin articles article.columns) (placed_join draft.articles article.columns) article.joins
        (all_members (λ (join : JoinDraft). IsValidJoin articles article.columns (placed_join draft.articles article.columns join)) article.joins (λ join there. valid_join article inside filter alike join there));
    valid_resolver = valid.valid_resolver;
    valid_decider = valid_decider_of article article.resolver_column valid.has_decider (good.resolver_columns article inside) (good.deciders article inside);
    valid_identity = valid.valid_identity;
    filter_fits = fits;
  }

no_own : (articles : List Article) (from : ℕ) (rest : List Article) → no_own_ancestor articles from rest ≡ Ok tt → (i : ℕ) → i < length rest → is_ancestor articles (from + i) (from + i) ≡ false
no_own articles from [] h i less = absurd (omega arith)
no_own articles from (article ∷ rest) h i less =
    let parts = both (refused_if (is_ancestor articles from from) (JoinCycle article.name)) (no_own_ancestor articles (from + 1) rest) h in
    at i less parts.0 (no_own articles (from + 1) rest parts.1)
  where
    at : (i : ℕ) → i < suc (length rest) → refused_if (is_ancestor articles from from) (JoinCycle article.name) ≡ Ok tt
        → ((k : ℕ) → k < length rest → is_ancestor articles (from + 1 + k) (from + 1 + k) ≡ false) → is_ancestor articles (from + i) (from + i) ≡ false
    at zero less first others = let e : from ≡ from + 0 = omega arith in subst (λ (n : ℕ). is_ancestor articles n n ≡ false) e (not_refused (is_ancestor articles from from) (JoinCycle article.name) first)
    at (suc k) less first others = let e : from + 1 + k ≡ from + suc k = omega arith in subst (λ (n : ℕ). is_ancestor articles n n ≡ false) e (others k (omega arith))

-- a join of the article at a place is a join of an article
joins_member : (xs : List Article) (place : ℕ) (join : JoinFilter) → Contains (joins_of (slice_get xs place)) join → (article : Article) × Contains xs article × Contains article.joins join
joins_member [] place join there = absurd (contains_none join there)
joins_member (x ∷ xs) zero join there = (x, (0, omega arith, refl), there)
joins_member (x ∷ xs) (suc place) join there = let rest = joins_member xs place join there in (rest.0, Contains-append_right (x ∷ []) xs rest.0 rest.1, rest.2)

map_map : (xs : List Subscription) → map decimal (map (λ (subscription : Subscription). subscription.site.0) xs) ≡ site_names xs
map_map [] = refl
map_map (x ∷ xs) = ap (λ names. decimal x.site.0 ∷ names) (map_map xs)

sites_distinct : (subscriptions : List Subscription) → AreDistinct (site_names subscriptions) → AllPairs (λ (a b : ℕ). a ≢ b) (map (λ (subscription : Subscription). subscription.site.0) subscriptions)
sites_distinct subscriptions names = λ i j d lower less same.
    let sites : List ℕ = map (λ (subscription : Subscription). subscription.site.0) subscriptions in
    let both_names : site_names subscriptions ≡ map decimal sites = sym (map_map subscriptions) in
    let pairs : AreDistinct (map decimal sites) = subst (λ (ns : List (List ℕ)). AreDistinct ns) both_names names in
    pairs i j (decimal d) lower (subst (λ (n : ℕ). j < n) (sym (length-map sites decimal)) less) (get_or-map decimal sites i d ∙ ap decimal same ∙ sym (get_or-map decimal sites j d))

accepted_parts : (r : Result (Unit {0}) SchemaFault) (p q : Publication) → Ok q ≡ (r >>= λ _. Ok p) → (r ≡ Ok tt) × (q ≡ p)
accepted_parts (Ok u) p q h = (refl, cc)
accepted_parts (Err fault) p q h = absurd (unlike h)
  where
    unlike : ◌≡◌ {A = Result Publication SchemaFault} (Ok q) (Err fault) → ⊥
    unlike e = cc

valid_publication : (resolvers : ℕ) (draft : Draft) (articles : List Article) → HasValidTables resolvers draft → AreChecked draft → AllZip (IsPlaced draft.articles) draft.articles articles → joins_checked articles ≡ Ok tt
    → All (λ (article : Article). FilterFits article.filter (length article.columns)) articles → IsValid resolvers (publication_of draft articles)
unfolding joins_checked
valid_publication resolvers draft articles tables good zipped joins fits =
    let parts = both (every (joins_alike articles) articles) (no_own_ancestor articles 0 articles) joins in
    let long : length articles ≡ length draft.articles = AllZip-long (IsPlaced draft.articles) draft.articles articles zipped in
    let valid : (article : Article) → Contains articles article → IsValidArticle resolvers articles article = λ article there.
    let from = placed_from draft.articles draft.articles articles zipped article there in
    let same : article ≡ placed_article draft.articles from.0 article.filter = from.2.1 in
    let alike = subst (λ (a : Article). joins_alike articles a ≡ Ok tt) same (every_at (joins_alike articles) articles parts.0 article there) in
    let fit = subst (λ (cs : List Column). FilterFits article.filter (length cs)) (ap (λ (a : Article). a.columns) same) (all_at (λ (a : Article). FilterFits a.filter (length a.columns)) articles article fits there) in
    subst (λ (a : Article). IsValidArticle resolvers articles a) (sym same)
    (valid_article draft articles zipped good resolvers from.0 from.1 (all_at (λ (d : ArticleDraft). IsValidDraft resolvers d) draft.articles from.0 tables.valid_articles from.1) article.filter alike fit) in
    record {
      named = tables.named;
      valid_retention = tables.valid_retention;
      valid_conflict_retention = tables.valid_conflict_retention;
      some_articles = subst (λ (n : ℕ). IsWithin 1 32 n) (sym long) tables.some_articles;
      distinct_articles = subst (λ (ns : List (List ℕ)). AreDistinct ns) (sym (same_names draft.articles draft.articles articles zipped)) good.distinct_articles;
      valid_articles = all_members (IsValidArticle resolvers articles) articles valid;
      in_order = evaluation_order_is (publication_of draft articles)
          (λ place less. let e : 0 + place ≡ place = omega arith in subst (λ (n : ℕ). is_ancestor articles n n ≡ false) e (no_own articles 0 articles parts.1 place less))
          (λ place join there. let at = joins_member articles place join there in (all_at (IsValidJoin articles at.0.columns) at.0.joins join (valid at.0 at.1).valid_joins at.2).parent);
      few_subscriptions = tables.few_subscriptions;
      distinct_sites = sites_distinct draft.subscriptions good.distinct_sites;
      valid_subscriptions = tables.valid_subscriptions;
    }

-- what a checked file says is valid
pub valid_from : (resolvers : ℕ) (draft : Draft) (publication : Publication) → HasValidTables resolvers draft → names_checked draft ≡ Ok tt → IsCheckedAnswer draft (Ok publication)
    → All (λ (article : Article). FilterFits article.filter (length article.columns)) publication.articles → IsValid resolvers publication
valid_from resolvers draft publication tables checked (placed, are, same) fits = by placed are same
  where
    by : (placed : Result (List Article) SchemaFault) → ArePlaced draft.articles placed → Ok publication ≡ accepted draft placed → IsValid resolvers publication
    by (Err fault) are same = absurd (unlike same)
      where
        unlike : ◌≡◌ {A = Result Publication SchemaFault} (Ok publication) (Err fault) → ⊥
        unlike e = cc
    by (Ok articles) are same =
        let parts = accepted_parts (joins_checked articles) (publication_of draft articles) publication same in
        let fit = subst (λ (p : Publication). All (λ (article : Article). FilterFits article.filter (length article.columns)) p.articles) parts.1 fits in
        subst (λ (p : Publication). IsValid resolvers p) (sym parts.1) (valid_publication resolvers draft articles tables (are_checked draft checked) are parts.0 fit)

pub few_places : (resolvers : ℕ) (draft : Draft) → HasValidTables resolvers draft → HasFewPlaces draft.articles
few_places resolvers draft valid = record {
  few_articles = valid.some_articles.1;
  few_columns = λ k d less. (valid.valid_articles k d less).some_columns.1;
}

pub valid_result : (resolvers : ℕ) (draft : Draft) (result : Result Publication SchemaFault) → HasValidTables resolvers draft → names_checked draft ≡ Ok tt → UnlessMemory (IsCheckedAnswer draft) result
    → IfOk result (λ (publication : Publication). All (λ (article : Article). FilterFits article.filter (length article.columns)) publication.articles) → IfOk result (λ (publication : Publication). IsValid resolvers publication)
valid_result resolvers draft (Ok publication) tables checked answer fits = valid_from resolvers draft publication tables checked answer fits
valid_result resolvers draft (Err fault) tables checked answer fits = tt
