-- Facts of each row, as rows are put and dropped.
use Rattle.std.specs.Prelude.{◌≡◌, ◌+◌, ◌≤◌, ℕ, Bool, true, false, List, None, Option, Some, cond, if◌then◌else◌, refl}
use Rattle.std.proofs.Common.{ap, arith, subst, sym, ◌∙◌}
use Rattle.merge_types.specs.declared.identifiers.SiteId.{SiteId}
use Rattle.merge_types.specs.declared.row_key.RowKey.{RowKey}
use Rattle.merge_units.specs.declared.site_row.SubscriberRow.{SubscriberRow}
use Rattle.merge_lineage.specs.Lineage.{number_of}
use Rattle.merge_schema.specs.declared.publication.Publication.{Publication}
use Rattle.merge_batch.specs.Articles.{fits_article}
use Rattle.merge_model.specs.Tables.Keys.{drop_row, put_row, row_at, same_key}
use Rattle.merge_model.proofs.Lists.KeyLookUps.{keys-same, row-put}
use Rattle.merge_sub.specs.Held.{AreFitting, AreMade, EachRow}

each-put-by : (P : RowKey → SubscriberRow → Type 0) (rows : List (RowKey × SubscriberRow)) → EachRow P rows → (key : RowKey) (row : SubscriberRow) → P key row
    → (q : RowKey) (found : SubscriberRow) (same : Bool) → same_key q key ≡ same → (if same then Some row else row_at rows q) ≡ Some found → P q found
each-put-by P rows each key row new q found true same is =
    let at : q ≡ key = keys-same q key same in
    let it : row ≡ found = cc in
    subst (λ (r : SubscriberRow). P q r) it (subst (λ (k : RowKey). P k row) (sym at) new)
each-put-by P rows each key row new q found false same is = each q found is

pub each-put : (P : RowKey → SubscriberRow → Type 0) (rows : List (RowKey × SubscriberRow)) → EachRow P rows → (key : RowKey) (row : SubscriberRow) → P key row → EachRow P (put_row rows key row)
each-put P rows each key row new q found is = each-put-by P rows each key row new q found (same_key q key) refl (sym (row-put rows key row q) ∙ is)

pub fitting-put : (publication : Publication) (rows : List (RowKey × SubscriberRow)) → AreFitting publication rows → (key : RowKey) (row : SubscriberRow) → fits_article publication key.article row.version.body ≡ true
    → AreFitting publication (put_row rows key row)
unfolding AreFitting
fitting-put publication rows fitting key row fits = each-put (λ (k : RowKey) (r : SubscriberRow). fits_article publication k.article r.version.body ≡ true) rows fitting key row fits

-- with a change more
pub made-more : (site : SiteId) (changes : ℕ) (rows : List (RowKey × SubscriberRow)) → AreMade site changes rows → AreMade site (changes + 1) rows
unfolding AreMade
made-more site changes rows made key row found = let before = made key row found in omega (arith, before)

pub made-put : (site : SiteId) (changes : ℕ) (rows : List (RowKey × SubscriberRow)) → AreMade site changes rows → (key : RowKey) (row : SubscriberRow) → number_of row.version.lineage site.0 ≤ changes
    → AreMade site changes (put_row rows key row)
unfolding AreMade
made-put site changes rows made key row below = each-put (λ (k : RowKey) (r : SubscriberRow). number_of r.version.lineage site.0 ≤ changes) rows made key row below
