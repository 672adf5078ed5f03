-- An item of an upload that is not refused stands, whoever sent it: its rules ask for no less.
use Rattle.std.specs.List.{AllByRecursion, list_all}
use Rattle.std.specs.Option.{option_map_or}
use Rattle.std.specs.Prelude.{Bool, List, None, Option, Some, [], false, if◌then◌else◌, is_some, nat_le, nat_lt, not, refl, true, unwrap_or, ℕ, ◌+◌, ◌==◌, ◌||◌, ◌≡◌, ◌≤◌, ◌∷◌}
use Rattle.std.proofs.Common.{arith, subst, sym}
use Rattle.std.proofs.lemmas.Bool.Decides.{nat_tests}
use Rattle.merge_types.specs.declared.identifiers.Dot.{Dot}
use Rattle.merge_types.specs.declared.row_key.RowKey.{RowKey as Key}
use Rattle.merge_lineage.specs.Lineage.{IsAscending, number_at, number_of}
use Rattle.merge_lineage.proofs.Rising.{RisesFrom, ascending_from_rises}
use Rattle.merge_units.specs.declared.version.Body.{Body}
use Rattle.merge_units.specs.declared.version.Body.TheVariants.{Dead, Live}
use Rattle.merge_units.specs.declared.version.Cell.{Cell}
use Rattle.merge_schema.specs.Valid.{IsValid}
use Rattle.merge_schema.specs.declared.publication.Publication.{Publication}
use Rattle.merge_batch.specs.Articles.{has_article}
use Rattle.merge_batch.specs.Known.{Known}
use Rattle.merge_batch.specs.Laws.{IsValidItem}
use Rattle.merge_batch.specs.Lineages.{has_top, has_tops, is_pair, is_well_formed, sites_ascend}
use Rattle.merge_batch.specs.Makers.{maker_of}
use Rattle.merge_batch.specs.Uploads.{lineage_fits, maker_is_heard_of, was_seen}
use Rattle.merge_batch.specs.declared.request.Upload.{Upload}
use Rattle.merge_batch.specs.declared.request.UploadItem.{UploadItem}
use Rattle.merge_record.specs.Tables.{IsRowKey}
use Rattle.merge_keeper.specs.Start.{cell_site_is_known, top_sites_are_known, was_made}
use Rattle.merge_model.specs.Publisher.Acts.{key_of_item}
use Rattle.merge_stored.proofs.Records.{row-fits}
use Rattle.merge_stored.proofs.Subscriptions.{item-low}
use Rattle.merge_stored.proofs.Versions.{article-low}
use Rattle.merge_stored.proofs.AnyCalls.Bodies.{fits-right, fits-there}
use Rattle.merge_stored.proofs.AnyCalls.Versions.{OfSite, RowStands, most, tops-stand}

-- Lineages whose sites ascend.

rises-above : (site : ℕ) (dots : List Dot) → list_all (λ (later : Dot). nat_lt site later.site.0) dots ≡ true → sites_ascend dots ≡ true → RisesFrom (site + 1) dots
rises-above site [] above ascend = tt
rises-above site (dot ∷ dots) above ascend =
    let first : nat_lt site dot.site.0 ≡ true = grind (arith, above) in
    let later : list_all (λ (other : Dot). nat_lt dot.site.0 other.site.0) dots ≡ true = grind (arith, ascend) in
    (grind (arith, nat_tests, first), rises-above dot.site.0 dots later (grind (arith, ascend)))

pub ascends-from : (dots : List Dot) → sites_ascend dots ≡ true → IsAscending dots
ascends-from [] ascend = ascending_from_rises 0 [] tt
ascends-from (dot ∷ dots) ascend =
    let later : list_all (λ (other : Dot). nat_lt dot.site.0 other.site.0) dots ≡ true = grind (arith, ascend) in
    ascending_from_rises 0 (dot ∷ dots) (omega arith, rises-above dot.site.0 dots later (grind (arith, ascend)))

-- A key of an article that there is, whose row a change made.

pub key-fits : (resolvers : ℕ) (publication : Publication) → IsValid resolvers publication → (key : Key) → has_article publication key.article ≡ true → is_some (maker_of key.row.0) ≡ true → IsRowKey key
key-fits resolvers publication valid key there made =
    let low = article-low publication.articles key.article there in
    let some = valid.some_articles.1 in
    (omega (arith, low, some), row-fits key.row.0 (maker_of key.row.0) refl made)

-- The maker.

heard-some : (publication : Publication) (known : Known) (uploader : ℕ) (found : Option Dot) → option_map_or (maker_is_heard_of publication known uploader) found false ≡ true → is_some found ≡ true
heard-some publication known uploader None heard = absurd cc
heard-some publication known uploader (Some maker) heard = refl

made-by : (b other : Bool) (number changes : ℕ) → (let heard : Bool = if b then nat_le number changes else other in heard) ≡ true → (not b || nat_le number changes) ≡ true
made-by true other number changes heard = grind (arith, heard)
made-by false other number changes heard = refl

heard-made : (publication : Publication) (known : Known) (uploader : ℕ) (found : Option Dot) → option_map_or (maker_is_heard_of publication known uploader) found false ≡ true → option_map_or (was_made 0 known.changes) found true ≡ true
heard-made publication known uploader None heard = refl
heard-made publication known uploader (Some maker) heard = made-by (maker.site.0 == 0) _ maker.number known.changes heard

-- The lineage.

own-by : (b other : Bool) (number changes : ℕ) (rest : Option ℕ) → (let seen : Bool = if b then nat_le number changes else other in seen) ≡ true → unwrap_or rest 0 ≤ changes → (let found : Option ℕ = if b then Some number else rest in unwrap_or found 0) ≤ changes
own-by true other number changes rest seen more = grind (arith, nat_tests, seen)
own-by false other number changes rest seen more = more

own-low : (known : Known) (uploader : ℕ) (lineage : List Dot) → list_all (was_seen known uploader) lineage ≡ true → number_of lineage 0 ≤ known.changes
own-low known uploader [] seen = omega arith
own-low known uploader (dot ∷ lineage) seen =
    let here : was_seen known uploader dot ≡ true = grind (arith, seen) in
    let rest = own-low known uploader lineage (grind (arith, seen)) in
    own-by (dot.site.0 == 0) _ dot.number known.changes (number_at lineage 0) here rest

within-by : (b : Bool) (lineage : List Dot) (changes n : ℕ) → (n == 0) ≡ b → number_of lineage 0 ≤ changes → number_of lineage n ≤ most → (let limit : ℕ = if b then changes else most in number_of lineage n ≤ limit)
within-by true lineage changes n is own low = (let same : n ≡ 0 = grind (arith, nat_tests, is) in subst (λ (k : ℕ). number_of lineage k ≤ changes) (sym same) own)
within-by false lineage changes n is own low = low

pub each-pair : (publication : Publication) (lineage : List Dot) → list_all (is_pair publication) lineage ≡ true → AllByRecursion (OfSite publication) lineage
each-pair publication [] all = tt
each-pair publication (dot ∷ lineage) all = ((let here : is_pair publication dot ≡ true = grind (arith, all) in grind (arith, here)), each-pair publication lineage (grind (arith, all)))

-- The tops.

cells-sites : (publication : Publication) (cells : List Cell) → list_all (has_top publication) cells ≡ true → list_all (cell_site_is_known publication) cells ≡ true
cells-sites publication [] all = refl
cells-sites publication (cell ∷ cells) all =
    let here : has_top publication cell ≡ true = grind (arith, all) in
    let site : cell_site_is_known publication cell ≡ true = grind (arith, here) in
    let rest = cells-sites publication cells (grind (arith, all)) in
    grind (arith, site, rest)

pub tops-sites : (publication : Publication) (body : Body) → has_tops publication body ≡ true → top_sites_are_known publication body ≡ true
tops-sites publication (Live cells) topped = cells-sites publication cells topped
tops-sites publication (Dead top) topped = grind (arith, topped)

-- Together.

module _ (resolvers : ℕ) (publication : Publication) (valid : IsValid resolvers publication) (known : Known) (m : Upload) where
  pub item-stands : (item : UploadItem) → IsValidItem publication known m item → RowStands publication known.changes (key_of_item item) item.version
  item-stands item is =
      let exists : has_article publication item.article ≡ true = fits-there publication item.article item.version.body is.fits in
      let maker = heard-some publication known m.site.0 (maker_of item.row.0) is.maker in
      let fits : lineage_fits publication m item ≡ true = is.lineage in
      let well : is_well_formed publication item.version.lineage ≡ true = grind (arith, fits) in
      let ascend : sites_ascend item.version.lineage ≡ true = grind (arith, well) in
      let pairs : list_all (is_pair publication) item.version.lineage ≡ true = grind (arith, well) in
      let own = own-low known m.site.0 item.version.lineage is.honest in
      record {
        stands = record {
          key_fits = key-fits resolvers publication valid (key_of_item item) exists maker;
          exists = exists;
          lineage = record { ascends = ascends-from item.version.lineage ascend; within = λ n. within-by (n == 0) item.version.lineage known.changes n refl own (let low = item-low publication m item fits n in omega (arith, low)) };
          sites = each-pair publication item.version.lineage pairs;
          right = fits-right publication (key_of_item item) item.version.body is.fits;
          tops = tops-stand publication item.version.lineage item.version.body (tops-sites publication item.version.body is.made) is.tops;
        };
        made = heard-made publication known m.site.0 (maker_of item.row.0) is.maker;
      }
