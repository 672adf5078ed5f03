-- What a local change of a subscriber leaves of its row stands.
use Rattle.std.specs.Option.{option_map_or}
use Rattle.std.specs.Prelude.{Bool, Err, IfOk, List, None, Ok, Option, Result, Some, [], false, if◌then◌else◌, is_some, nat_le, not, refl, true, ℕ, ℤ, ◌+◌, ◌<◌, ◌==◌, ◌^◌, ◌||◌, ◌≡◌, ◌≤◌, ◌∷◌}
use Rattle.std.proofs.Common.{ap, arith, subst, sym}
use Rattle.std.proofs.lemmas.Bool.Decides.{nat_tests}
use Rattle.merge_types.specs.Limits.{counter_limit}
use Rattle.merge_types.specs.declared.changes.Change.{Change}
use Rattle.merge_types.specs.declared.changes.Change.TheVariants.{Delete, Insert, Update}
use Rattle.merge_types.specs.declared.changes.Setting.{Setting}
use Rattle.merge_types.specs.declared.identifiers.Dot.{Dot}
use Rattle.merge_types.specs.declared.identifiers.RowId.{RowId}
use Rattle.merge_types.specs.declared.identifiers.SiteId.{SiteId}
use Rattle.merge_types.specs.declared.row_key.RowKey.{RowKey as Key}
use Rattle.merge_types.specs.declared.values.Value.{Value}
use Rattle.merge_types.specs.declared.values.Value.TheVariants.{Null}
use Rattle.merge_lineage.specs.Lineage.{IsAscending, with_dot}
use Rattle.merge_units.specs.Changes.{changed, new_row, removed}
use Rattle.merge_units.specs.Version.{cells_of, tops_of}
use Rattle.merge_units.specs.declared.version.Version.{Version}
use Rattle.merge_ident.specs.Holders.{Holder, answer_to_take}
use Rattle.merge_ident.specs.declared.ranges.IdentityUsedUp.{IdentityUsedUp as IdentityEnd}
use Rattle.merge_schema.specs.Places.{article_at}
use Rattle.merge_schema.specs.Valid.{IsValid}
use Rattle.merge_schema.specs.declared.publication.Publication.{Publication}
use Rattle.merge_batch.proofs.Makers.{maker_of-made}
use Rattle.merge_batch.specs.Articles.{has_article}
use Rattle.merge_batch.specs.Lineages.{is_site}
use Rattle.merge_batch.specs.LocalChanges.{article_of, change_refusal, identity_column, key_of, new_values, tracking_at, version_after}
use Rattle.merge_batch.specs.Makers.{maker_of}
use Rattle.merge_batch.specs.Uploads.{whole_number}
use Rattle.merge_batch.specs.declared.refusal.Refusal.{Refusal}
use Rattle.merge_keeper.specs.Start.{was_made}
use Rattle.merge_model.specs.History.{MadeChange, no_past}
use Rattle.merge_model.specs.History.Noting
use Rattle.merge_model.specs.History.Pasts.{past_after}
use Rattle.merge_model.specs.Publisher.{new_holders}
use Rattle.merge_model.specs.Subscriber.{subscriber_drawn, taken_value}
use Rattle.merge_model.specs.Tables.Keys.{at_number}
use Rattle.merge_model.specs.Tables.{SubscriberTables}
use Rattle.merge_model.proofs.Lists.Finding.{all-weaker, some_same}
use Rattle.merge_model.proofs.Lists.{OfSome}
use Rattle.merge_laws.proofs.Lineages.LineageLists.{made-dot, made-none}
use Rattle.merge_laws.proofs.Told.ToldRows.{HeldFits}
use Rattle.merge_laws.proofs.Told.ToldVersions.{cells-tops, changed-tops, new-tops}
use Rattle.merge_owed.proofs.VersionKept.{IsCarried}
use Rattle.merge_honest.proofs.RowsFit.{IsRight, changed-right}
use Rattle.merge_stored.proofs.HeldKeys.{HasKeys, keys-same}
use Rattle.merge_stored.proofs.RangeRule.{there}
use Rattle.merge_stored.proofs.Sites.{site-low}
use Rattle.merge_stored.proofs.AnyCalls.Items.{key-fits}
use Rattle.merge_stored.proofs.AnyCalls.LocalRows.{TakesWhole, column-there}
use Rattle.merge_stored.proofs.AnyCalls.Versions.{TopStands, dotted-more, dotted-own, dotted-sites, most}
use Rattle.merge_stored.proofs.AnyReply.Versions.{OwnStands, own-later, own_bound}

-- The identity value of a new row is a whole number, where its article has an identity column.

abbrev IsWhole : Value × List (ℕ × Holder) → Type 0
IsWhole d = is_some (whole_number (Some d.0)) ≡ true

taken-whole : (s : SubscriberTables) (article : ℕ) (holder : Holder) (result : Result ℤ IdentityEnd) → IfOk (taken_value s article holder result) IsWhole
taken-whole s article holder (Ok value) = refl
taken-whole s article holder (Err used_up) = tt

found-whole : (s : SubscriberTables) (article : ℕ) (found : Option Holder) (holder : Holder) → found ≡ Some holder
    → (let draw : Result (Value × List (ℕ × Holder)) Refusal = elim found [ None ↦ Ok (Null, s.held) | Some h ↦ taken_value s article h (answer_to_take h) ] in IfOk draw IsWhole)
found-whole s article None holder at = absurd cc
found-whole s article (Some h) holder at = taken-whole s article h (answer_to_take h)

draw-whole : (publication : Publication) (s : SubscriberTables) (article : ℕ) (settings : List Setting) → HasKeys publication s.held → is_some (identity_column publication article) ≡ true → IfOk (subscriber_drawn s (Insert article settings)) IsWhole
draw-whole publication s article settings keys some =
    let one = there publication s.held article (keys-same s.held (new_holders publication) keys) (column-there (article_at publication article) some) in
    found-whole s article (at_number s.held article) one.0 one.1

whole-of : (d : Value × List (ℕ × Holder)) (draw : Result (Value × List (ℕ × Holder)) Refusal) → IfOk draw IsWhole → draw ≡ Ok d → IsWhole d
whole-of d draw all is = subst (λ (r : Result (Value × List (ℕ × Holder)) Refusal). IfOk r IsWhole) is all

pub takes-whole : (publication : Publication) (s : SubscriberTables) (change : Change) (d : Value × List (ℕ × Holder)) → HasKeys publication s.held → subscriber_drawn s change ≡ Ok d → TakesWhole publication change d.0
takes-whole publication s (Insert article settings) d keys is = λ some. whole-of d (subscriber_drawn s (Insert article settings)) (draw-whole publication s article settings keys some) is
takes-whole publication s (Update article row settings) d keys is = tt
takes-whole publication s (Delete article row) d keys is = tt

-- The version.

module _ (resolvers : ℕ) (publication : Publication) (valid : IsValid resolvers publication) (site : SiteId) (subscribes : is_site publication site.0 ≡ true) (changes : ℕ) (low : changes < counter_limit) where
  abbrev dot : Dot
  dot = record { site = site; number = changes + 1 }

  abbrev Stands : ℕ → Key → Version → Type 0
  Stands count key version = OwnStands publication site.0 count key version

  none-ascends : IsAscending []
  none-ascends = (made-none (own_bound site.0 (changes + 1))).ascends

  site-fits : site.0 < 2 ^ 16
  site-fits = (let few = site-low resolvers publication valid site.0 subscribes in omega (arith, few))

  own-by : (b : Bool) → (site.0 == site.0) ≡ b → changes + 1 ≤ (if b then changes + 1 else most)
  own-by true is = (let self : changes + 1 ≤ changes + 1 = omega arith in self)
  own-by false is = absurd (grind (arith, nat_tests, is))

  own-low : dot.number ≤ own_bound site.0 (changes + 1) dot.site.0
  own-low = own-by (site.0 == site.0) refl

  carried : IsCarried dot
  carried = record { site = site-fits; from_one = omega arith; fits = omega (arith, low) }

  -- what the change takes
  abbrev taken : Change → Value → List MadeChange
  taken change value = Noting.made_change publication dot 0 change value (key_of dot change) (past_after publication dot change no_past) ∷ []

  held-right : (change : Change) (value : Value) (held : Option Version) → OfSome (Stands changes (key_of dot change)) held → HeldFits (IsRight publication (taken change value)) (key_of dot change) held no_past
  held-right change value None stands = tt
  held-right change value (Some version) stands = λ took. stands.stands.right

  after-right : (change : Change) (value : Value) (held : Option Version) (rows : ℕ) → change_refusal publication dot change held rows ≡ None → OfSome (Stands changes (key_of dot change)) held
      → HeldFits (IsRight publication (taken change value)) (key_of dot change) (version_after publication dot value change held) (past_after publication dot change no_past)
  after-right change value held rows fine stands = changed-right resolvers publication valid [] dot 0 change value held rows no_past carried fine (held-right change value held stands)

  -- an insert
  self-made : (b : Bool) → (not b || nat_le (changes + 1) (changes + 1)) ≡ true
  self-made b = grind (arith, nat_tests)

  inserted-maker : (row : ℕ) → maker_of row ≡ Some dot → option_map_or (was_made site.0 (changes + 1)) (maker_of row) true ≡ true
  inserted-maker row is = subst (λ (found : Option Dot). option_map_or (was_made site.0 (changes + 1)) found true ≡ true) (sym is) (self-made (site.0 == site.0))

  inserted-stands : (article : ℕ) (settings : List Setting) (value : Value) (held : Option Version) (rows : ℕ) → has_article publication article ≡ true → change_refusal publication dot (Insert article settings) held rows ≡ None
      → (is_some (identity_column publication article) ≡ true → is_some (whole_number (Some value)) ≡ true) → OfSome (Stands changes (key_of dot (Insert article settings))) held
      → Stands (changes + 1) (key_of dot (Insert article settings)) (new_row dot (new_values publication article value settings) (tracking_at publication article))
  inserted-stands article settings value held rows exists fine whole stands =
      let key : Key = key_of dot (Insert article settings) in
      let maker : maker_of key.row.0 ≡ Some dot = maker_of-made key.row.0 site.0 (changes + 1) (record { site_fits = site-fits; from_one = omega arith; fits = omega (arith, low); same = refl }) in
      let made : is_some (maker_of key.row.0) ≡ true = ap (λ (found : Option Dot). is_some found) maker in
      record {
        stands = record {
          key_fits = key-fits resolvers publication valid key exists made;
          exists = exists;
          lineage = made-dot (own_bound site.0 (changes + 1)) dot [] own-low (made-none (own_bound site.0 (changes + 1)));
          sites = dotted-sites publication dot [] subscribes tt;
          right = after-right (Insert article settings) value held rows fine stands ((λ is has. whole has), tt);
          tops = new-tops (TopStands publication (with_dot dot [])) (tracking_at publication article) dot (new_values publication article value settings) (dotted-own publication dot [] none-ascends subscribes);
        };
        made = inserted-maker key.row.0 maker;
      }

  -- No row is held that the change makes.
  never-here : (b : Bool) → (site.0 == site.0) ≡ b → (not b || nat_le (changes + 1) changes) ≡ true → ⊥
  never-here true is made = (let up : nat_le (changes + 1) changes ≡ true = grind (arith, made) in grind (arith, nat_tests, up))
  never-here false is made = grind (arith, nat_tests, is)

  never-made : (found : Option Dot) → option_map_or (was_made site.0 changes) found true ≡ true → found ≡ Some dot → ⊥
  never-made None made is = absurd cc
  never-made (Some maker) made is =
      let same : maker ≡ dot = some_same maker dot is in
      let own : was_made site.0 changes dot ≡ true = subst (λ (d : Dot). was_made site.0 changes d ≡ true) same made in
      never-here (site.0 == site.0) refl own

  later : (key : Key) (version : Version) → Stands changes key version → Stands (changes + 1) key version
  later key version r = own-later publication site.0 changes (changes + 1) (let up : changes ≤ changes + 1 = omega arith in up) key version r

  updated-stands : (article : ℕ) (row : RowId) (settings : List Setting) (value : Value) (version : Version) (rows : ℕ) → change_refusal publication dot (Update article row settings) (Some version) rows ≡ None
      → Stands changes (key_of dot (Update article row settings)) version → Stands (changes + 1) (key_of dot (Update article row settings)) (changed version dot settings (tracking_at publication article))
  updated-stands article row settings value version rows fine r =
      let key : Key = key_of dot (Update article row settings) in
      let more = later key version r in
      let ascends = r.stands.lineage.ascends in
      let lineage : List Dot = with_dot dot version.lineage in
      let held = all-weaker (TopStands publication version.lineage) (TopStands publication lineage) (dotted-more publication dot version.lineage ascends) (tops_of version.body) r.stands.tops in
      record {
        stands = record {
          key_fits = r.stands.key_fits;
          exists = r.stands.exists;
          lineage = made-dot (own_bound site.0 (changes + 1)) dot version.lineage own-low more.stands.lineage;
          sites = dotted-sites publication dot version.lineage subscribes r.stands.sites;
          right = after-right (Update article row settings) value (Some version) rows fine r ((λ is has. absurd (never-made (maker_of key.row.0) r.made is)), tt);
          tops = changed-tops (TopStands publication lineage) (tracking_at publication article) dot settings (cells_of version.body) (dotted-own publication dot version.lineage ascends subscribes) (cells-tops (TopStands publication lineage) version.body held);
        };
        made = more.made;
      }

  removed-stands : (article : ℕ) (row : RowId) (value : Value) (version : Version) (rows : ℕ) → change_refusal publication dot (Delete article row) (Some version) rows ≡ None
      → Stands changes (key_of dot (Delete article row)) version → Stands (changes + 1) (key_of dot (Delete article row)) (removed version dot)
  removed-stands article row value version rows fine r =
      let key : Key = key_of dot (Delete article row) in
      let more = later key version r in
      let ascends = r.stands.lineage.ascends in
      record {
        stands = record {
          key_fits = r.stands.key_fits;
          exists = r.stands.exists;
          lineage = made-dot (own_bound site.0 (changes + 1)) dot version.lineage own-low more.stands.lineage;
          sites = dotted-sites publication dot version.lineage subscribes r.stands.sites;
          right = after-right (Delete article row) value (Some version) rows fine r ((λ is has. absurd (never-made (maker_of key.row.0) r.made is)), tt);
          tops = (dotted-own publication dot version.lineage ascends subscribes, tt);
        };
        made = more.made;
      }

  pub change-stands : (change : Change) (value : Value) (held : Option Version) (rows : ℕ) → has_article publication (article_of change) ≡ true → change_refusal publication dot change held rows ≡ None → TakesWhole publication change value
      → OfSome (Stands changes (key_of dot change)) held → OfSome (Stands (changes + 1) (key_of dot change)) (version_after publication dot value change held)
  change-stands (Insert article settings) value held rows exists fine whole stands = inserted-stands article settings value held rows exists fine whole stands
  change-stands (Update article row settings) value None rows exists fine whole stands = tt
  change-stands (Update article row settings) value (Some version) rows exists fine whole stands = updated-stands article row settings value version rows fine stands
  change-stands (Delete article row) value None rows exists fine whole stands = tt
  change-stands (Delete article row) value (Some version) rows exists fine whole stands = removed-stands article row value version rows fine stands
