-- The publisher's conflicts are numbered from 1 to their counter, which stays below the limit.
use Rattle.std.specs.List.{AllByRecursion}
use Rattle.std.specs.Prelude.{Bool, Err, IfOk, List, None, Ok, Option, Result, Some, [], false, if◌then◌else◌, length, max, not, refl, true, ℕ, ◌*◌, ◌+◌, ◌<◌, ◌≡◌, ◌≤◌, ◌∷◌}
use Rattle.std.proofs.Common.{arith, subst, sym}
use Rattle.std.proofs.lemmas.Bool.Decides.{nat_tests}
use Rattle.std.proofs.lemmas.List.{length-map}
use Rattle.std.specs.List.{fold}
use Rattle.merge_types.specs.Limits.{counter_limit, item_limit}
use Rattle.merge_types.specs.declared.changes.Change.{Change}
use Rattle.merge_types.specs.declared.identifiers.Moment.{Moment}
use Rattle.merge_types.specs.declared.identifiers.RowId.{RowId}
use Rattle.merge_types.specs.declared.identifiers.SiteId.{SiteId}
use Rattle.merge_units.specs.declared.result.Decision.{Decision}
use Rattle.merge_conflict.specs.declared.row.ConflictRow.{ConflictRow}
use Rattle.merge_schema.specs.Places.{is_subscription}
use Rattle.merge_schema.specs.Valid.{IsValid}
use Rattle.merge_schema.specs.declared.publication.Publication.{Publication}
use Rattle.merge_batch.specs.Laws.{IsValidUpload}
use Rattle.merge_batch.specs.Lineages.{is_site}
use Rattle.merge_batch.specs.Uploads.{broken_by_upload}
use Rattle.merge_batch.specs.declared.refusal.Refusal.{Refusal}
use Rattle.merge_batch.specs.declared.refusal.Refusal.TheVariants.{Gap, UnknownSite}
use Rattle.merge_batch.specs.declared.request.Join.{Join}
use Rattle.merge_batch.specs.declared.request.Upload.{Upload}
use Rattle.merge_batch.proofs.Valid.{valid_upload}
use Rattle.merge_keeper.specs.SubscriberRules.{Numbered}
use Rattle.merge_model.specs.Publisher.Acts.{Act, acts_of, lost_from}
use Rattle.merge_model.specs.World.Faults.{known_by, upload_fault}
use Rattle.merge_model.specs.Judge.{PublisherJudge}
use Rattle.merge_model.specs.Publisher.{at_moment, counters, empty_publisher, site_refusal, unknown_site}
use Rattle.merge_model.specs.Publisher.PublisherJoin.{join_acts, join_taken, tables_after_join}
use Rattle.merge_model.specs.Publisher.PublisherLocal.{Drawn, draw_for_change, local_refusal, made_locally}
use Rattle.merge_model.specs.Publisher.PublisherUpload.{brings_news, tables_after_upload, taken_in, too_many_new, upload_refusal}
use Rattle.merge_model.specs.Tables.Refusals.{counter_end, refused_if, unless}
use Rattle.merge_model.specs.Tables.{PublisherTables}
use Rattle.merge_model.specs.Judge.ByHistory.{by_history}
use Rattle.merge_model.specs.Failing.{Slips}
use Rattle.merge_model.specs.History.{History}
use Rattle.merge_model.specs.Failing.Runs.{model_behind}
use Rattle.merge_model.specs.World.{Saying, World}
use Rattle.merge_model.specs.declared.event.Event.{Event}
use Rattle.merge_model.proofs.Runs.Refusals.{first-none}
use Rattle.merge_model.proofs.Lists.{all-append}
use Rattle.merge_laws.proofs.Received.Arrivals.{not-refused}
use Rattle.merge_laws.proofs.Runs.Ground.{grounded-always}
use Rattle.merge_laws.proofs.Told.ToldItems.{fault-none}
use Rattle.merge_honest.proofs.UploadCounts.{upload-items}
use Rattle.merge_stored.specs.Conflicts.{LostAt}
use Rattle.merge_stored.proofs.ConflictLists.{acts-few, acts-lost, acts-numbered, later-lost, numbered-append}
use Rattle.merge_stored.proofs.PublisherCalls.{PublisherCallsKeep, publisher-step}

-- What an upload passed that is not refused.

pub record UploadPassed (publication : Publication) (judge : PublisherJudge) (m : Upload) (p : PublisherTables) : Type 0 where
  pub subscribes : is_site publication m.site.0 ≡ true
  pub valid : IsValidUpload publication (known_by publication judge p) m
  pub sound : upload_fault publication judge m p ≡ None
  pub counted : counter_end (counters p) ≡ None

pub site-known : (publication : Publication) (site : SiteId) → unknown_site publication site ≡ None → is_site publication site.0 ≡ true
site-known publication site none = grind (arith, not-refused (not (is_subscription publication site.0)) (UnknownSite site) none)

pub upload-passed : (publication : Publication) (judge : PublisherJudge) (now : Moment) (m : Upload) (p : PublisherTables) → upload_refusal publication judge now m p ≡ None → UploadPassed publication judge m p
upload-passed publication judge now m p fine =
    let all = first-none (site_refusal publication m.site m.seq now p) _ fine in
    let known = first-none (unknown_site publication m.site) _ all.0 in
    let gap = first-none (refused_if (judge.is_gap m.site.0 m.from) (Gap m.from (judge.received m.site.0))) _ all.1 in
    let fault = first-none (upload_fault publication judge m p) _ gap.1 in
    let many = first-none (too_many_new (acts_of judge m [] p) p) _ fault.1 in
    let held = known_by publication judge p in
    let valid : IsValidUpload publication held m = (valid_upload publication held m).0 (fault-none (broken_by_upload publication held m) fault.0) in
    record { subscribes = site-known publication m.site known.0; valid = valid; sound = fault.0; counted = (first-none (counter_end (counters p)) _ many.1).0 }

-- Where nothing refuses, each counter is below the limit.

greatest-of : (most : ℕ) (counters : List ℕ) → most ≤ fold max most counters
greatest-of most [] = omega arith
greatest-of most (counter ∷ counters) =
    let first : most ≤ max most counter = grind (arith, nat_tests) in
    let rest = greatest-of (max most counter) counters in
    omega (arith, first, rest)

abbrev AllBelow : List ℕ → Type 0
AllBelow [] = Unit {0}
AllBelow (counter ∷ counters) = (counter < counter_limit) × AllBelow counters

pub all-below : (most : ℕ) (counters : List ℕ) → fold max most counters < counter_limit → AllBelow counters
all-below most [] low = tt
all-below most (counter ∷ counters) low =
    let first : counter ≤ max most counter = grind (arith, nat_tests) in
    let rest = greatest-of (max most counter) counters in
    (omega (arith, first, rest, low), all-below (max most counter) counters low)

pub conflicts-low : (p : PublisherTables) → counter_end (counters p) ≡ None → p.conflict_count < counter_limit
conflicts-low p none = (all-below 0 (counters p) (grind (arith, nat_tests, none))).1.1.0

-- The walk.

abbrev most : ℕ
most = counter_limit + 2 * item_limit

pub record PublisherConflicts (publication : Publication) (p : PublisherTables) : Type 0 where
  pub numbered : Numbered p.conflict_count 0 p.conflicts
  pub each : AllByRecursion (LostAt publication p.latest.0) p.conflicts
  pub few : p.conflict_count ≤ most

module _ (publication : Publication) where
  abbrev S : PublisherTables → Type 0
  S p = PublisherConflicts publication p

  -- a later moment, where conflicts stay
  same-on : (p q : PublisherTables) → q.conflicts ≡ p.conflicts → q.conflict_count ≡ p.conflict_count → p.latest.0 ≤ q.latest.0 → S p → S q
  same-on p q rows count up b = record {
    numbered = subst (λ (n : ℕ). Numbered n 0 q.conflicts) (sym count) (subst (λ (x : List ConflictRow). Numbered p.conflict_count 0 x) (sym rows) b.numbered);
    each = later-lost publication p.latest.0 q.latest.0 q.conflicts up (subst (λ (x : List ConflictRow). AllByRecursion (LostAt publication p.latest.0) x) (sym rows) b.each);
    few = (let low = b.few in omega (arith, count, low));
  }

  at-later : (now : Moment) (p : PublisherTables) → p.latest.0 ≤ (at_moment now p).latest.0
  at-later now p = grind (arith, nat_tests)

  unless-on : {A : Type 0} (refusal : Option Refusal) (q : PublisherTables) (a : A) → (refusal ≡ None → S q) → (let done : Result (PublisherTables × A) Refusal = unless refusal (q, a) in IfOk done (λ x. S x.0))
  unless-on (Some why) q a each = tt
  unless-on None q a each = each refl

  drawn-on : (judge : PublisherJudge) (now : Moment) (change : Change) (p : PublisherTables) (draw : Result Drawn Refusal) → S p
      → (let done : Result (PublisherTables × RowId) Refusal = elim draw [ Err refusal ↦ Err refusal | Ok d ↦ Ok (made_locally publication judge change d (at_moment now p)) ] in IfOk done (λ x. S x.0))
  drawn-on judge now change p (Err refusal) b = tt
  drawn-on judge now change p (Ok d) b = same-on p (made_locally publication judge change d (at_moment now p)).0 refl refl (at-later now p) b

  local-on : (judge : PublisherJudge) (now : Moment) (change : Change) (p : PublisherTables) (found : Option Refusal) → S p
      → (let done : Result (PublisherTables × RowId) Refusal = elim found [ Some refusal ↦ Err refusal | None ↦ elim (draw_for_change publication p change) [ Err refusal ↦ Err refusal | Ok d ↦ Ok (made_locally publication judge change d (at_moment now p)) ] ] in IfOk done (λ x. S x.0))
  local-on judge now change p (Some refusal) b = tt
  local-on judge now change p None b = drawn-on judge now change p (draw_for_change publication p change) b

  taken-on : (judge : PublisherJudge) (m : Upload) (decisions : List Decision) (p : PublisherTables) → is_site publication m.site.0 ≡ true → length (acts_of judge m decisions p) ≤ item_limit → p.conflict_count < counter_limit → S p → S (taken_in publication judge m (acts_of judge m decisions p) p)
  taken-on judge m decisions p subscribes few low b =
      let acts : List Act = acts_of judge m decisions p in
      let lost : List ConflictRow = lost_from publication m.site p.latest (p.conflict_count + 1) acts in
      record {
        numbered = numbered-append 0 p.conflict_count (p.conflict_count + length lost) p.conflicts lost b.numbered (acts-numbered publication m.site p.latest p.conflict_count (p.conflict_count + 1) acts refl);
        each = all-append (LostAt publication p.latest.0) p.conflicts lost b.each (acts-lost publication m.site p.latest subscribes (p.conflict_count + 1) acts);
        few = (let two = acts-few publication m.site p.latest (p.conflict_count + 1) acts in omega (arith, two, few, low));
      }

  news-on : (judge : PublisherJudge) (m : Upload) (decisions : List Decision) (p : PublisherTables) (b : Bool) → is_site publication m.site.0 ≡ true → length (acts_of judge m decisions p) ≤ item_limit → p.conflict_count < counter_limit → S p
      → S (if b then taken_in publication judge m (acts_of judge m decisions p) p else p)
  news-on judge m decisions p true subscribes few low s = taken-on judge m decisions p subscribes few low s
  news-on judge m decisions p false subscribes few low s = s

  upload-on : (judge : PublisherJudge) (now : Moment) (m : Upload) (decisions : List Decision) (p : PublisherTables) → upload_refusal publication judge now m p ≡ None → S p → S (tables_after_upload publication judge m decisions (at_moment now p))
  upload-on judge now m decisions p fine s =
      let passed = upload-passed publication judge now m p fine in
      let counts = upload-items publication judge m decisions p (at_moment now p).latest passed.sound in
      let acts : List Act = acts_of judge m decisions (at_moment now p) in
      let keys = length-map acts (λ (act : Act). act.key) in
      let acted = counts.acted in
      news-on judge m decisions (at_moment now p) (brings_news judge m) passed.subscribes (omega (arith, keys, acted)) (conflicts-low p passed.counted) (same-on p (at_moment now p) refl refl (at-later now p) s)

  pub conflicts-keep : PublisherCallsKeep publication S
  conflicts-keep = record {
    of_local = λ judge now change p s. local-on judge now change p (local_refusal publication change p) s;
    of_close = λ now p s. unless-on _ _ _ (λ fine. same-on p _ refl refl (at-later now p) s);
    of_join = λ now m p s. unless-on _ (tables_after_join m (at_moment now p)) _ (λ fine. join-on now m p (join_acts m (at_moment now p)) s);
    of_upload = λ judge now m decisions p s. unless-on (upload_refusal publication judge now m p) (tables_after_upload publication judge m decisions (at_moment now p)) _ (λ fine. upload-on judge now m decisions p fine s);
    of_ranges = λ judge now m p s. unless-on _ _ _ (λ fine. same-on p _ refl refl (at-later now p) s);
    of_ask = λ judge now m p s. unless-on _ _ _ (λ fine. same-on p _ refl refl (at-later now p) s);
    of_purge = λ now p s. same-on p _ refl refl (at-later now p) s;
  }
    where
      join-on : (now : Moment) (m : Join) (p : PublisherTables) (b : Bool) → S p → S (if b then join_taken m (at_moment now p) else at_moment now p)
      join-on now m p true s = same-on p (join_taken m (at_moment now p)) refl refl (at-later now p) s
      join-on now m p false s = same-on p (at_moment now p) refl refl (at-later now p) s

  conflicts-begin : S (empty_publisher publication)
  conflicts-begin = record { numbered = refl; each = tt; few = omega arith }

  pub publisher-conflicts : (says : Saying) (tallies : List ℕ) (slips : Slips) (events : List Event) → (resolvers : ℕ) × IsValid resolvers publication → S (model_behind publication says tallies slips events).world.publisher
  publisher-conflicts says tallies slips events valid =
      (grounded-always publication says tallies slips events valid (λ (w : World) (h : History). S w.publisher) (λ m action g s. publisher-step publication S m.world s conflicts-keep says (by_history m.history) action)
      (λ w h others s. s) conflicts-begin).1
