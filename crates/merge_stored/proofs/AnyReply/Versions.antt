-- The versions of a subscriber's rows: what a start asks of them but for values, and what is put by any reply that fits.
use Rattle.std.specs.List.{AllByRecursion, list_all}
use Rattle.std.specs.Option.{option_map_or}
use Rattle.std.specs.Prelude.{Bool, List, None, Option, Some, [], false, if◌then◌else◌, nat_le, not, refl, true, unwrap_or, ℕ, ◌&&◌, ◌<◌, ◌==◌, ◌^◌, ◌||◌, ◌≡◌, ◌≤◌, ◌∷◌}
use Rattle.std.proofs.Common.{arith, subst, sym}
use Rattle.std.proofs.lemmas.Bool.Decides.{nat_tests}
use Rattle.merge_types.specs.declared.identifiers.Dot.{Dot}
use Rattle.merge_types.specs.declared.row_key.RowKey.{RowKey as Key}
use Rattle.merge_lineage.specs.Lineage.{knows, number_at, number_of}
use Rattle.merge_units.specs.Version.{has_news}
use Rattle.merge_units.specs.declared.version.Body.TheVariants.{Live}
use Rattle.merge_units.specs.declared.version.Cell.{Cell}
use Rattle.merge_units.specs.declared.version.Version.{Version}
use Rattle.merge_schema.specs.Valid.{IsValid}
use Rattle.merge_schema.specs.declared.publication.Publication.{Publication}
use Rattle.merge_batch.specs.Articles.{fits_article, has_article}
use Rattle.merge_batch.specs.Lineages.{has_tops, is_pair, is_well_formed, knows_tops, sites_ascend}
use Rattle.merge_batch.specs.Makers.{maker_of}
use Rattle.merge_batch.specs.Replies as fitting
use Rattle.merge_batch.specs.Replies.{act_fits, maker_fits}
use Rattle.merge_batch.specs.declared.reply.Act.TheVariants as order
use Rattle.merge_batch.specs.declared.standing.Standing.{Standing}
use Rattle.merge_record.specs.Tables.{IsRowKey}
use Rattle.merge_record.specs.Versions.{IsVersion}
use Rattle.merge_keeper.specs.Start.{row_was_made, version_is_sound, was_made}
use Rattle.merge_typed.specs.Typed.{BodyIsTyped, CellIsTyped}
use Rattle.merge_stored.specs.HasTypes.{CellHasTypes}
use Rattle.merge_stored.specs.Versions.{VersionIsStored}
use Rattle.merge_stored.proofs.Versions.{article-low}
use Rattle.merge_stored.proofs.AnyCalls.Bodies.{fits-right, fits-there}
use Rattle.merge_stored.proofs.AnyCalls.Items.{ascends-from, each-pair, tops-sites}
use Rattle.merge_stored.proofs.AnyCalls.TypedValues.{fits-typed}
use Rattle.merge_stored.proofs.AnyCalls.Versions.{VersionStands, any, bound-by, known-none, most, numbers-low, tops-stand, up-by, version-from, version-loads, version-weaker}

-- of a site no change is known that it has yet to make
abbrev pub own_bound : ℕ → ℕ → ℕ → ℕ
own_bound site changes n = if n == site then changes else most

pub own-low : (site changes : ℕ) → changes ≤ most → (n : ℕ) → own_bound site changes n ≤ most
own-low site changes low n = bound-by (n == site) changes low

pub own-up : (site changes later : ℕ) → changes ≤ later → (n : ℕ) → own_bound site changes n ≤ own_bound site later n
own-up site changes later up n = up-by (n == site) changes later up

own-within : (b : Bool) (lineage : List Dot) (site changes n : ℕ) → (n == site) ≡ b → number_of lineage site ≤ changes → number_of lineage n ≤ most → (let limit : ℕ = if b then changes else most in number_of lineage n ≤ limit)
own-within true lineage site changes n is own low = (let same : n ≡ site = grind (arith, nat_tests, is) in subst (λ (k : ℕ). number_of lineage k ≤ changes) (sym same) own)
own-within false lineage site changes n is own low = low

module _ (publication : Publication) where
  pub record OwnStands (site changes : ℕ) (key : Key) (version : Version) : Type 0 where
    pub stands : VersionStands publication (own_bound site changes) key version
    pub made : option_map_or (was_made site changes) (maker_of key.row.0) true ≡ true

  -- As more changes are made.

  made-later : (b : Bool) (n changes later : ℕ) → changes ≤ later → (not b || nat_le n changes) ≡ true → (not b || nat_le n later) ≡ true
  made-later true n changes later up is = grind (arith, nat_tests, up, is)
  made-later false n changes later up is = refl

  maker-later : (site : ℕ) (found : Option Dot) (changes later : ℕ) → changes ≤ later → option_map_or (was_made site changes) found true ≡ true → option_map_or (was_made site later) found true ≡ true
  maker-later site None changes later up is = refl
  maker-later site (Some maker) changes later up is = made-later (maker.site.0 == site) maker.number changes later up is

  pub own-later : (site changes later : ℕ) → changes ≤ later → (key : Key) (version : Version) → OwnStands site changes key version → OwnStands site later key version
  own-later site changes later up key version r = record {
    stands = version-weaker publication (own_bound site changes) (own_bound site later) (own-up site changes later up) key version r.stands;
    made = maker-later site (maker_of key.row.0) changes later up r.made;
  }

  -- and where nothing is asked of changes
  pub own-any : (site changes : ℕ) → changes ≤ most → (key : Key) (version : Version) → OwnStands site changes key version → VersionStands publication any key version
  own-any site changes low key version r = version-weaker publication (own_bound site changes) any (own-low site changes low) key version r.stands

  -- From what a start asks, and to it.

  two : (a b : Bool) → (a && b) ≡ true → (a ≡ true) × (b ≡ true)
  two a b is = (grind (arith, is), grind (arith, is))

  made-parts : (site changes : ℕ) (key : Key) (version : Version) → row_was_made site changes key version ≡ true → (nat_le (number_of version.lineage site) changes ≡ true) × (option_map_or (was_made site changes) (maker_of key.row.0) true ≡ true)
  unfolding row_was_made
  made-parts site changes key version made = two (nat_le (number_of version.lineage site) changes) (option_map_or (was_made site changes) (maker_of key.row.0) true) made

  pub own-from : (site changes : ℕ) (key : Key) (version : Version) → IsRowKey key → IsVersion version → version_is_sound publication key.article version ≡ true → row_was_made site changes key version ≡ true → OwnStands site changes key version
  own-from site changes key version fits has sound made =
      let both = made-parts site changes key version made in
      let below = both.0 in
      let own : number_of version.lineage site ≤ changes = grind (arith, nat_tests, below) in
      record {
        stands = version-from publication (own_bound site changes) key version (λ n. own-within (n == site) version.lineage site changes n refl own (numbers-low publication version.lineage n has.0.0.1)) fits has sound;
        made = both.1;
      }

  itself : (site changes : ℕ) (b : Bool) → (site == site) ≡ b → (let n : ℕ = if b then changes else most in n ≤ changes)
  itself site changes true is = (let same : changes ≤ changes = omega arith in same)
  itself site changes false is = absurd (grind (arith, nat_tests, is))

  own-made : (site changes : ℕ) (key : Key) (version : Version) → OwnStands site changes key version → row_was_made site changes key version ≡ true
  unfolding row_was_made
  own-made site changes key version r =
      let within = r.stands.lineage.within site in
      let bound = itself site changes (site == site) refl in
      let up : number_of version.lineage site ≤ changes = omega (arith, within, bound) in
      let one : nat_le (number_of version.lineage site) changes ≡ true = grind (arith, nat_tests, up) in
      let other = r.made in
      grind (arith, one, other)

  pub own-stored : (resolvers : ℕ) → IsValid resolvers publication → (site changes : ℕ) → changes ≤ most → (key : Key) (version : Version) → OwnStands site changes key version → BodyIsTyped version.body → VersionIsStored publication site changes key version
  own-stored resolvers valid site changes low key version r typed = record {
    loads = version-loads publication resolvers valid (own_bound site changes) (own-low site changes low) key version r.stands typed;
    made = own-made site changes key version r;
  }

  -- A row that is put by a reply that fits.

  made-by : (b : Bool) (number changes : ℕ) (rest : Option ℕ) → (not b || nat_le number changes) ≡ true → unwrap_or rest 0 ≤ changes → (let found : Option ℕ = if b then Some number else rest in unwrap_or found 0) ≤ changes
  made-by true number changes rest made more = grind (arith, nat_tests, made)
  made-by false number changes rest made more = more

  number-made : (own : Standing) (lineage : List Dot) → list_all (fitting.was_made own) lineage ≡ true → number_of lineage own.site.0 ≤ own.changes
  number-made own [] made = omega arith
  number-made own (dot ∷ lineage) made =
      let here : fitting.was_made own dot ≡ true = grind (arith, made) in
      let rest = number-made own lineage (grind (arith, made)) in
      made-by (dot.site.0 == own.site.0) dot.number own.changes (number_at lineage own.site.0) here rest

  low-by : (b : Bool) (number : ℕ) (rest : Option ℕ) → number ≤ most → unwrap_or rest 0 ≤ most → (let found : Option ℕ = if b then Some number else rest in unwrap_or found 0) ≤ most
  low-by true number rest here more = here
  low-by false number rest here more = more

  pairs-low : (lineage : List Dot) (n : ℕ) → list_all (is_pair publication) lineage ≡ true → number_of lineage n ≤ most
  pairs-low [] n pairs = omega arith
  pairs-low (dot ∷ lineage) n pairs =
      let here : is_pair publication dot ≡ true = grind (arith, pairs) in
      let low : dot.number < 2 ^ 62 = grind (arith, nat_tests, here) in
      low-by (dot.site.0 == n) dot.number (number_at lineage n) (omega (arith, low)) (pairs-low lineage n (grind (arith, pairs)))

  pub key-of : (resolvers : ℕ) → IsValid resolvers publication → (key : Key) → has_article publication key.article ≡ true → key.row.0 < 2 ^ 128 → IsRowKey key
  key-of resolvers valid key there fits =
      let low = article-low publication.articles key.article there in
      let some = valid.some_articles.1 in
      (omega (arith, low, some), fits)

  maker-made : (own : Standing) (found : Option Dot) → maker_fits own found ≡ true → option_map_or (was_made own.site.0 own.changes) found true ≡ true
  maker-made own None fits = refl
  maker-made own (Some maker) fits = fits

  five : (a b c d e : Bool) → (a && b && c && d && e) ≡ true → (a ≡ true) × (b ≡ true) × (c ≡ true) × (d ≡ true) × (e ≡ true)
  five a b c d e is = (grind (arith, is), grind (arith, is), grind (arith, is), grind (arith, is), grind (arith, is))

  pub put-stands : (resolvers : ℕ) → IsValid resolvers publication → (own : Standing) (key : Key) (lineage : List Dot) (live : List Cell) → act_fits publication own key.article (order.Put lineage live) ≡ true → maker_fits own (maker_of key.row.0) ≡ true → key.row.0 < 2 ^ 128
      → (let version : Version = record { lineage = lineage; body = Live live } in OwnStands own.site.0 own.changes key version)
  put-stands resolvers valid own key lineage live fits maker row =
      let parts = five (fits_article publication key.article (Live live)) (is_well_formed publication lineage) (has_tops publication (Live live)) (knows_tops lineage (Live live)) (list_all (fitting.was_made own) lineage) fits in
      let exists : has_article publication key.article ≡ true = fits-there publication key.article (Live live) parts.0 in
      let well = parts.1 in
      let ascend : sites_ascend lineage ≡ true = grind (arith, well) in
      let pairs : list_all (is_pair publication) lineage ≡ true = grind (arith, well) in
      let none : has_news (knows lineage) (Live live) ≡ false = known-none publication lineage (Live live) parts.3 in
      record {
        stands = record {
          key_fits = key-of resolvers valid key exists row;
          exists = exists;
          lineage = record { ascends = ascends-from lineage ascend; within = λ n. own-within (n == own.site.0) lineage own.site.0 own.changes n refl (number-made own lineage parts.4) (pairs-low lineage n pairs) };
          sites = each-pair publication lineage pairs;
          right = fits-right publication key (Live live) parts.0;
          tops = tops-stand publication lineage (Live live) (tops-sites publication (Live live) parts.2) none;
        };
        made = maker-made own (maker_of key.row.0) maker;
      }

-- Its values are typed.

pub put-typed : (publication : Publication) (own : Standing) (article : ℕ) (lineage : List Dot) (live : List Cell) → act_fits publication own article (order.Put lineage live) ≡ true → AllByRecursion CellHasTypes live → AllByRecursion CellIsTyped live
put-typed publication own article lineage live fits all = (let here : fits_article publication article (Live live) ≡ true = grind (arith, fits) in fits-typed publication article live here all)
