-- What a local change of the publisher leaves of its row stands.
use Rattle.std.specs.Option.{option_and_then, option_map_or}
use Rattle.std.specs.Prelude.{Err, IfOk, List, None, Ok, Option, Result, Some, [], is_some, nat_le, option_map, refl, true, ℕ, ℤ, ◌+◌, ◌<◌, ◌≡◌, ◌≤◌, ◌∷◌}
use Rattle.std.proofs.Common.{ap, arith, subst, sym}
use Rattle.std.proofs.lemmas.Bool.Decides.{nat_tests}
use Rattle.merge_types.specs.Limits.{counter_limit}
use Rattle.merge_types.specs.declared.changes.Change.{Change}
use Rattle.merge_types.specs.declared.changes.Change.TheVariants.{Delete, Insert, Update}
use Rattle.merge_types.specs.declared.changes.Setting.{Setting}
use Rattle.merge_types.specs.declared.identifiers.Dot.{Dot}
use Rattle.merge_types.specs.declared.identifiers.RowId.{RowId}
use Rattle.merge_types.specs.declared.row_key.RowKey.{RowKey as Key}
use Rattle.merge_types.specs.declared.values.Value.{Value}
use Rattle.merge_lineage.specs.Lineage.{IsAscending, with_dot}
use Rattle.merge_units.specs.Changes.{changed, new_row, removed}
use Rattle.merge_units.specs.Version.{cells_of, tops_of}
use Rattle.merge_units.specs.declared.version.Version.{Version}
use Rattle.merge_ident.specs.Answers.{Answer, answer_of, grants_after}
use Rattle.merge_ident.specs.Holders.{Holder, after_receive, answer_to_take}
use Rattle.merge_ident.specs.declared.grants.Grant.{Grant}
use Rattle.merge_ident.specs.declared.grants.GrantAnswer.TheVariants.{Granted, Kept, NotDue}
use Rattle.merge_ident.specs.declared.ranges.IdentityUsedUp.{IdentityUsedUp as IdentityEnd}
use Rattle.merge_schema.specs.Places.{article_at}
use Rattle.merge_schema.specs.Valid.{IsValid}
use Rattle.merge_schema.specs.declared.publication.Article.{Article}
use Rattle.merge_schema.specs.declared.publication.Identity.{Identity}
use Rattle.merge_schema.specs.declared.publication.Publication.{Publication}
use Rattle.merge_batch.proofs.Makers.{maker_of-made}
use Rattle.merge_batch.specs.Articles.{has_article}
use Rattle.merge_batch.specs.LocalChanges.{article_of, change_refusal, identity_column, key_of, new_values, tracking_at, version_after}
use Rattle.merge_batch.specs.Makers.{maker_of}
use Rattle.merge_batch.specs.Uploads.{whole_number}
use Rattle.merge_batch.specs.declared.refusal.Refusal.{Refusal}
use Rattle.merge_record.specs.Reading.{◌>>=◌}
use Rattle.merge_keeper.specs.Start.{was_made}
use Rattle.merge_model.specs.History.{MadeChange, no_past}
use Rattle.merge_model.specs.History.Noting
use Rattle.merge_model.specs.History.Pasts.{past_after}
use Rattle.merge_model.specs.Publisher.{new_holders}
use Rattle.merge_model.specs.Publisher.PublisherLocal.{Drawn, after_answer, draw_for_change, drawn_from, no_draw, own_ask, taken_from}
use Rattle.merge_model.specs.Tables.Keys.{at_number}
use Rattle.merge_model.specs.Tables.Publications.{rules_of}
use Rattle.merge_model.specs.Tables.{PublisherTables}
use Rattle.merge_model.proofs.Lists.Finding.{all-weaker, some_same}
use Rattle.merge_model.proofs.Lists.{OfSome}
use Rattle.merge_laws.proofs.Lineages.LineageLists.{made-dot, made-none}
use Rattle.merge_laws.proofs.Told.ToldRows.{HeldFits}
use Rattle.merge_laws.proofs.Told.ToldVersions.{cells-tops, changed-tops, new-tops}
use Rattle.merge_owed.proofs.VersionKept.{IsCarried}
use Rattle.merge_honest.proofs.RowsFit.{IsRight, changed-right}
use Rattle.merge_stored.proofs.HeldKeys.{HasKeys, keys-same}
use Rattle.merge_stored.proofs.RangeRule.{there}
use Rattle.merge_stored.proofs.AnyCalls.Items.{key-fits}
use Rattle.merge_stored.proofs.AnyCalls.Versions.{RowStands, TopStands, bound, dotted-more, dotted-own, dotted-sites, own_dot, row-later}

-- The identity value of a new row is a whole number, where its article has an identity column.

abbrev pub IsWhole : Drawn → Type 0
IsWhole d = is_some (whole_number (Some d.value)) ≡ true

taken-whole : (p : PublisherTables) (grants : List Grant) (article : ℕ) (holder : Holder) (result : Result ℤ IdentityEnd) → IfOk (taken_from p grants article holder result) IsWhole
taken-whole p grants article holder (Ok value) = refl
taken-whole p grants article holder (Err used_up) = tt

answered-whole : (p : PublisherTables) (article : ℕ) (holder : Holder) (answer : Answer) → IfOk (after_answer p article holder answer) IsWhole
answered-whole p article holder (Ok (Granted number range)) = taken-whole p (grants_after p.grants (own_ask p article) (Ok (Granted number range))) article (after_receive holder range) (answer_to_take (after_receive holder range))
answered-whole p article holder (Ok (Kept number range)) = taken-whole p p.grants article holder (answer_to_take holder)
answered-whole p article holder (Ok NotDue) = taken-whole p p.grants article holder (answer_to_take holder)
answered-whole p article holder (Err fault) = taken-whole p p.grants article holder (answer_to_take holder)

from-whole : (publication : Publication) (p : PublisherTables) (article : ℕ) (holder : Holder) (result : Result ℤ IdentityEnd) → IfOk (drawn_from publication p article holder result) IsWhole
from-whole publication p article holder (Ok value) = taken-whole p p.grants article holder (Ok value)
from-whole publication p article holder (Err used_up) = answered-whole p article holder (answer_of (rules_of publication) p.grants (own_ask p article))

found-whole : (publication : Publication) (p : PublisherTables) (article : ℕ) (found : Option Holder) (holder : Holder) → found ≡ Some holder
    → (let draw : Result Drawn Refusal = elim found [ None ↦ Ok (no_draw p) | Some h ↦ drawn_from publication p article h (answer_to_take h) ] in IfOk draw IsWhole)
found-whole publication p article None holder at = absurd cc
found-whole publication p article (Some h) holder at = from-whole publication p article h (answer_to_take h)

mapped-some : {X Y : Type 0} (f : X → Y) (found : Option X) → is_some (option_map f found) ≡ true → is_some found ≡ true
mapped-some f None some = absurd cc
mapped-some f (Some x) some = refl

pub column-there : (found : Option Article) → is_some (option_map (λ (identity : Identity). identity.column) (option_and_then (λ (article : Article). article.identity) found)) ≡ true → is_some (found >>= λ article. article.identity) ≡ true
column-there None some = absurd cc
column-there (Some article) some = mapped-some (λ (identity : Identity). identity.column) article.identity some

pub draw-whole : (publication : Publication) (p : PublisherTables) (article : ℕ) (settings : List Setting) → HasKeys publication p.held → is_some (identity_column publication article) ≡ true → IfOk (draw_for_change publication p (Insert article settings)) IsWhole
draw-whole publication p article settings keys some =
    let one = there publication p.held article (keys-same p.held (new_holders publication) keys) (column-there (article_at publication article) some) in
    found-whole publication p article (at_number p.held article) one.0 one.1

-- what an insert is asked of its value
abbrev pub TakesWhole : Publication → Change → Value → Type 0
TakesWhole publication (Insert article settings) value = is_some (identity_column publication article) ≡ true → is_some (whole_number (Some value)) ≡ true
TakesWhole publication change value = Unit {0}

-- The version.

module _ (resolvers : ℕ) (publication : Publication) (valid : IsValid resolvers publication) (changes : ℕ) (low : changes < counter_limit) where
  abbrev dot : Dot
  dot = own_dot (changes + 1)

  none-ascends : IsAscending []
  none-ascends = (made-none (bound (changes + 1))).ascends

  own-low : dot.number ≤ bound (changes + 1) dot.site.0
  own-low = (let self : changes + 1 ≤ changes + 1 = omega arith in self)

  carried : IsCarried dot
  carried = record { site = omega arith; from_one = omega arith; fits = omega (arith, low) }

  -- what the change takes
  abbrev taken : Change → Value → List MadeChange
  taken change value = Noting.made_change publication dot 0 change value (key_of dot change) (past_after publication dot change no_past) ∷ []

  abbrev Right : Change → Value → Option Version → Type 0
  Right change value held = HeldFits (IsRight publication (taken change value)) (key_of dot change) held no_past

  held-right : (change : Change) (value : Value) (held : Option Version) → OfSome (RowStands publication changes (key_of dot change)) held → Right change value held
  held-right change value None stands = tt
  held-right change value (Some version) stands = λ took. stands.stands.right

  after-right : (change : Change) (value : Value) (held : Option Version) (rows : ℕ) → change_refusal publication dot change held rows ≡ None → OfSome (RowStands publication changes (key_of dot change)) held
      → HeldFits (IsRight publication (taken change value)) (key_of dot change) (version_after publication dot value change held) (past_after publication dot change no_past)
  after-right change value held rows fine stands = changed-right resolvers publication valid [] dot 0 change value held rows no_past carried fine (held-right change value held stands)

  -- an insert
  inserted-maker : (row : ℕ) → maker_of row ≡ Some dot → option_map_or (was_made 0 (changes + 1)) (maker_of row) true ≡ true
  inserted-maker row is = subst (λ (found : Option Dot). option_map_or (was_made 0 (changes + 1)) found true ≡ true) (sym is) (let self : nat_le (changes + 1) (changes + 1) ≡ true = grind (arith, nat_tests) in grind (arith, self))

  inserted-stands : (article : ℕ) (settings : List Setting) (value : Value) (held : Option Version) (rows : ℕ) → has_article publication article ≡ true → change_refusal publication dot (Insert article settings) held rows ≡ None
      → (is_some (identity_column publication article) ≡ true → is_some (whole_number (Some value)) ≡ true) → OfSome (RowStands publication changes (key_of dot (Insert article settings))) held
      → RowStands publication (changes + 1) (key_of dot (Insert article settings)) (new_row dot (new_values publication article value settings) (tracking_at publication article))
  inserted-stands article settings value held rows exists fine whole stands =
      let key : Key = key_of dot (Insert article settings) in
      let maker : maker_of key.row.0 ≡ Some dot = maker_of-made key.row.0 0 (changes + 1) (record { site_fits = omega arith; from_one = omega arith; fits = omega (arith, low); same = refl }) in
      let made : is_some (maker_of key.row.0) ≡ true = ap (λ (found : Option Dot). is_some found) maker in
      record {
        stands = record {
          key_fits = key-fits resolvers publication valid key exists made;
          exists = exists;
          lineage = made-dot (bound (changes + 1)) dot [] own-low (made-none (bound (changes + 1)));
          sites = dotted-sites publication dot [] refl tt;
          right = after-right (Insert article settings) value held rows fine stands ((λ is has. whole has), tt);
          tops = new-tops (TopStands publication (with_dot dot [])) (tracking_at publication article) dot (new_values publication article value settings) (dotted-own publication dot [] none-ascends refl);
        };
        made = inserted-maker key.row.0 maker;
      }

  -- No row is held that the change makes.
  never-made : (found : Option Dot) → option_map_or (was_made 0 changes) found true ≡ true → found ≡ Some dot → ⊥
  never-made None made is = absurd cc
  never-made (Some maker) made is =
      let same : maker ≡ dot = some_same maker dot is in
      let own : was_made 0 changes dot ≡ true = subst (λ (d : Dot). was_made 0 changes d ≡ true) same made in
      let up : nat_le (changes + 1) changes ≡ true = grind (arith, own) in
      grind (arith, nat_tests, up)

  abbrev later : (key : Key) (version : Version) → RowStands publication changes key version → RowStands publication (changes + 1) key version
  later key version r = row-later publication changes (changes + 1) (let up : changes ≤ changes + 1 = omega arith in up) key version r

  updated-stands : (article : ℕ) (row : RowId) (settings : List Setting) (value : Value) (version : Version) (rows : ℕ) → change_refusal publication dot (Update article row settings) (Some version) rows ≡ None
      → RowStands publication changes (key_of dot (Update article row settings)) version
      → RowStands publication (changes + 1) (key_of dot (Update article row settings)) (changed version dot settings (tracking_at publication article))
  updated-stands article row settings value version rows fine r =
      let key : Key = key_of dot (Update article row settings) in
      let more = later key version r in
      let ascends = r.stands.lineage.ascends in
      let lineage : List Dot = with_dot dot version.lineage in
      let held = all-weaker (TopStands publication version.lineage) (TopStands publication lineage) (dotted-more publication dot version.lineage ascends) (tops_of version.body) r.stands.tops in
      record {
        stands = record {
          key_fits = r.stands.key_fits;
          exists = r.stands.exists;
          lineage = made-dot (bound (changes + 1)) dot version.lineage own-low more.stands.lineage;
          sites = dotted-sites publication dot version.lineage refl r.stands.sites;
          right = after-right (Update article row settings) value (Some version) rows fine r ((λ is has. absurd (never-made (maker_of key.row.0) r.made is)), tt);
          tops = changed-tops (TopStands publication lineage) (tracking_at publication article) dot settings (cells_of version.body) (dotted-own publication dot version.lineage ascends refl) (cells-tops (TopStands publication lineage) version.body held);
        };
        made = more.made;
      }

  removed-stands : (article : ℕ) (row : RowId) (value : Value) (version : Version) (rows : ℕ) → change_refusal publication dot (Delete article row) (Some version) rows ≡ None
      → RowStands publication changes (key_of dot (Delete article row)) version → RowStands publication (changes + 1) (key_of dot (Delete article row)) (removed version dot)
  removed-stands article row value version rows fine r =
      let key : Key = key_of dot (Delete article row) in
      let more = later key version r in
      let ascends = r.stands.lineage.ascends in
      record {
        stands = record {
          key_fits = r.stands.key_fits;
          exists = r.stands.exists;
          lineage = made-dot (bound (changes + 1)) dot version.lineage own-low more.stands.lineage;
          sites = dotted-sites publication dot version.lineage refl r.stands.sites;
          right = after-right (Delete article row) value (Some version) rows fine r ((λ is has. absurd (never-made (maker_of key.row.0) r.made is)), tt);
          tops = (dotted-own publication dot version.lineage ascends refl, tt);
        };
        made = more.made;
      }

  pub after-stands : (change : Change) (value : Value) (held : Option Version) (rows : ℕ) → has_article publication (article_of change) ≡ true → change_refusal publication dot change held rows ≡ None → TakesWhole publication change value
      → OfSome (RowStands publication changes (key_of dot change)) held → OfSome (RowStands publication (changes + 1) (key_of dot change)) (version_after publication dot value change held)
  after-stands (Insert article settings) value held rows exists fine whole stands = inserted-stands article settings value held rows exists fine whole stands
  after-stands (Update article row settings) value None rows exists fine whole stands = tt
  after-stands (Update article row settings) value (Some version) rows exists fine whole stands = updated-stands article row settings value version rows fine stands
  after-stands (Delete article row) value None rows exists fine whole stands = tt
  after-stands (Delete article row) value (Some version) rows exists fine whole stands = removed-stands article row value version rows fine stands
