-- The live rows after a change is taken up.
use Rattle.std.proofs.Common.{◌≡◌, ◌<◌, ℕ, Bool, true, false, cond, List, [], ◌∷◌, length, Option, None, Some, refl, sym, ap, ◌∙◌, subst}
use Rattle.std.specs.List.{slice_get}
use Rattle.std.specs.declared.cmp.Ordering.{Ordering}
use Rattle.std.specs.declared.cmp.Ordering.TheVariants.{Less, Equal, Greater}
use Rattle.std.specs.Ordering.{match_ordering}
use Rattle.std.specs.Map.{remove_entry}
use Rattle.std.specs.BTreeMap.{is_at, insert_entry}
use Rattle.std.proofs.lemmas.Option.{slice_get_within}
use Rattle.merge_types.specs.declared.values.Value.{Value}
use Rattle.merge_table.specs.declared.edit.Edit.{Edit}
use Rattle.merge_table.specs.Edits.{rows_after, rows_after_all}
use Rattle.merge_schema.specs.declared.publication.Article.{Article}
use Rattle.merge_schema.specs.declared.publication.Publication.{Publication}
use Rattle.merge_types.specs.declared.row_key.RowKey.{RowKey}
use Rattle.merge_part.specs.declared.content.Content.{Content}
use Rattle.merge_part.specs.declared.change.RowChange.{RowChange}
use Rattle.merge_types.specs.RowKeys.{key_cmp}
use Rattle.merge_part.specs.Draft.{edit_to}
use Rattle.merge_part.specs.Live.{live_of, live_with, live_after}
use Rattle.merge_part.specs.Sites.{has_site}
use Rattle.merge_part.specs.Taking.{HoldsNew, TakesUp, FitsArticle, fits_columns, filtered_in, key_of_change}
use Rattle.merge_part.specs.Rules.{AreFiltered}
use Rattle.merge_part.proofs.Drafts.{rows_after_all-push}
use Rattle.merge_part.proofs.Kept.{same_key}
use Rattle.merge_part.specs.Entering.{IsChangedTo}

live-insert_step : (key k : RowKey) (content x : Content) (rows : List (RowKey × Content)) → live_of (insert_entry key_cmp rows key content) ≡ insert_entry key_cmp (live_of rows) key content.values
    → (r : Ordering) → live_of (match_ordering r ((key, content) ∷ (k, x) ∷ rows) ((k, content) ∷ rows) ((k, x) ∷ insert_entry key_cmp rows key content))
    ≡ match_ordering r ((key, content.values) ∷ (k, x.values) ∷ live_of rows) ((k, content.values) ∷ live_of rows) ((k, x.values) ∷ insert_entry key_cmp (live_of rows) key content.values)
live-insert_step key k content x rows ih Less = refl
live-insert_step key k content x rows ih Equal = refl
live-insert_step key k content x rows ih Greater = ap (λ live. (k, x.values) ∷ live) ih

live-insert : (key : RowKey) (content : Content) (rows : List (RowKey × Content)) → live_of (insert_entry key_cmp rows key content) ≡ insert_entry key_cmp (live_of rows) key content.values
live-insert key content [] = refl
live-insert key content ((k, x) ∷ rows) = live-insert_step key k content x rows (live-insert key content rows) (key_cmp key k)

live-remove : (test : RowKey → Bool) (rows : List (RowKey × Content)) → live_of (remove_entry test rows) ≡ remove_entry test (live_of rows)
live-remove test [] = refl
live-remove test ((k, x) ∷ rows) = elim (test k) as (λ b. live_of (cond b rows ((k, x) ∷ remove_entry test rows)) ≡ cond b (live_of rows) ((k, x.values) ∷ remove_entry test (live_of rows))) [
  | true ↦ refl
  | false ↦ ap (λ live. (k, x.values) ∷ live) (live-remove test rows)
]

live-edit : (publication : Publication) (article : ℕ) (key : RowKey) (new : Option (List Value)) (content : Option Content) (rows : List (RowKey × Content)) → HoldsNew publication article new content
    → live_of (rows_after key_cmp rows (edit_to key content)) ≡ live_with (live_of rows) key new
live-edit publication article key None None rows holds = live-remove (is_at (key_cmp key)) rows
live-edit publication article key (Some values) (Some content) rows holds = live-insert key content rows ∙ ap (insert_entry key_cmp (live_of rows) key) holds.values_are
live-edit publication article key None (Some content) rows holds = absurd holds
live-edit publication article key (Some values) None rows holds = absurd holds

-- the live rows change as they are told
pub live_step : (publication : Publication) (change : RowChange) (held : List (RowKey × Content)) (edits edits' : List (Edit RowKey Content)) → TakesUp publication change edits edits'
    → live_of (rows_after_all key_cmp held edits') ≡ live_after (live_of (rows_after_all key_cmp held edits)) change
live_step publication change held edits edits' (content, is, holds) =
    ap (λ es. live_of (rows_after_all key_cmp held es)) is
    ∙ ap live_of (rows_after_all-push key_cmp held edits (edit_to (key_of_change change) content))
    ∙ live-edit publication change.article (key_of_change change) change.new content (rows_after_all key_cmp held edits) holds

filtered_new : (publication : Publication) (article : ℕ) (new : Option (List Value)) (content : Option Content) (x : Content) → HoldsNew publication article new content → content ≡ Some x
    → (place : ℕ) → has_site x.filtered place ≡ filtered_in publication article x.values place
filtered_new publication article None None x holds is place = absurd cc
filtered_new publication article (Some values) (Some content) x holds is place =
    let same : content ≡ x = cc in
    let has : has_site content.filtered place ≡ filtered_in publication article content.values place = holds.filtered_are place ∙ ap (λ vs. filtered_in publication article vs place) (sym holds.values_are) in
    subst (λ (y : Content). has_site y.filtered place ≡ filtered_in publication article y.values place) same has
filtered_new publication article None (Some content) x holds is place = absurd holds
filtered_new publication article (Some values) None x holds is place = absurd holds

filtered_at : (publication : Publication) (change : RowChange) (content : Option Content) (rows : RowKey → Option Content) → HoldsNew publication change.article change.new content → AreFiltered publication rows
    → (q : RowKey) (x : Content) → (b : Bool) → is_at (key_cmp (key_of_change change)) q ≡ b → cond b content (rows q) ≡ Some x → (place : ℕ) → has_site x.filtered place ≡ filtered_in publication q.article x.values place
filtered_at publication change content rows holds before q x true is live place =
    filtered_new publication change.article change.new content x holds live place ∙ ap (λ (k : RowKey). filtered_in publication k.article x.values place) (same_key (key_of_change change) q is)
filtered_at publication change content rows holds before q x false is live place = before q x live place

-- each row goes on knowing the subscribers whose filter it passes
pub filtered_step : (publication : Publication) (change : RowChange) (content : Option Content) (rows rows' : RowKey → Option Content) → HoldsNew publication change.article change.new content
    → IsChangedTo (key_of_change change) content rows rows' → AreFiltered publication rows → AreFiltered publication rows'
filtered_step publication change content rows rows' holds changed before = λ q x live place.
    filtered_at publication change content rows holds before q x (is_at (key_cmp (key_of_change change)) q) refl (sym (changed q) ∙ live) place

in_range : (articles : List Article) (place : ℕ) (new : Option (List Value)) (article : Option Article) → slice_get articles place ≡ article → fits_columns article new → place < length articles
in_range articles place new None is fits = absurd fits
in_range articles place new (Some article) is fits = slice_get_within articles place article is

-- a change that fits is of an article of the publication
pub article_in_range : (publication : Publication) (change : RowChange) → FitsArticle publication change → change.article < length publication.articles
article_in_range publication change fits = in_range publication.articles change.article change.new (slice_get publication.articles change.article) refl fits
