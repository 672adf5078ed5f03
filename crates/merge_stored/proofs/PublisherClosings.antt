-- The closed generations that the publisher keeps are numbered from 1.
use Rattle.std.specs.List.{AllByRecursion}
use Rattle.std.specs.Prelude.{Bool, Err, IfOk, List, None, Ok, Option, Result, Some, if◌then◌else◌, nat_le, false, true, ℕ}
use Rattle.merge_types.specs.declared.changes.Change.{Change}
use Rattle.merge_types.specs.declared.identifiers.Moment.{Moment}
use Rattle.merge_types.specs.declared.identifiers.RowId.{RowId}
use Rattle.merge_units.specs.declared.result.Decision.{Decision}
use Rattle.merge_gens.specs.declared.closings.Closing.{Closing}
use Rattle.merge_gens.specs.Filling as fill
use Rattle.merge_schema.specs.Valid.{IsValid}
use Rattle.merge_schema.specs.declared.publication.Publication.{Publication}
use Rattle.merge_batch.specs.declared.refusal.Refusal.{Refusal}
use Rattle.merge_batch.specs.declared.request.Join.{Join}
use Rattle.merge_batch.specs.declared.request.Upload.{Upload}
use Rattle.merge_model.specs.Publisher.Acts.{acts_of}
use Rattle.merge_model.specs.Judge.ByHistory.{by_history}
use Rattle.merge_model.specs.Publisher.Entries.{changing_entries, entry_count}
use Rattle.merge_model.specs.Failing.{Slips}
use Rattle.merge_model.specs.History.{History}
use Rattle.merge_model.specs.Judge.{PublisherJudge}
use Rattle.merge_model.specs.Publisher.{at_moment, counters, tables_after_close}
use Rattle.merge_model.specs.Publisher.PublisherDownload.{download_refusal, tables_after_download}
use Rattle.merge_model.specs.Publisher.PublisherJoin.{join_acts, join_refusal, join_taken, tables_after_join}
use Rattle.merge_model.specs.Publisher.PublisherLocal.{Drawn, changing_locally, draw_for_change, local_refusal, made_locally, with_draw}
use Rattle.merge_model.specs.Publisher.PublisherPurge.{cutoff}
use Rattle.merge_model.specs.Publisher.PublisherRanges.{plans, ranges_refusal, with_grants}
use Rattle.merge_model.specs.Publisher.PublisherUpload.{brings_news, changing_by, tables_after_upload, taken_in, upload_refusal, with_acts}
use Rattle.merge_model.specs.Tables.Refusals.{counter_end, unless}
use Rattle.merge_model.specs.Failing.Runs.{model_behind}
use Rattle.merge_model.specs.Tables.{PublisherTables}
use Rattle.merge_model.specs.World.{Saying, World}
use Rattle.merge_model.specs.declared.event.Event.{Event}
use Rattle.merge_model.proofs.Lists.{all-filter}
use Rattle.merge_laws.proofs.Runs.Ground.{grounded-always}
use Rattle.merge_stored.proofs.ClosingLists.{IsFromOne, moved-from}
use Rattle.merge_stored.proofs.PublisherCalls.{PublisherCallsKeep, publisher-step}

abbrev pub ClosingsFrom : PublisherTables → Type 0
ClosingsFrom p = AllByRecursion IsFromOne p.gens.closings

module _ (publication : Publication) where
  unless-on : {A : Type 0} (refusal : Option Refusal) (q : PublisherTables) (a : A) → ClosingsFrom q → (let done : Result (PublisherTables × A) Refusal = unless refusal (q, a) in IfOk done (λ x. ClosingsFrom x.0))
  unless-on (Some why) q a is = tt
  unless-on None q a is = is

  drawn-on : (judge : PublisherJudge) (now : Moment) (change : Change) (p : PublisherTables) (draw : Result Drawn Refusal) → ClosingsFrom p
      → (let done : Result (PublisherTables × RowId) Refusal = elim draw [ Err refusal ↦ Err refusal | Ok d ↦ Ok (made_locally publication judge change d (at_moment now p)) ] in IfOk done (λ x. ClosingsFrom x.0))
  drawn-on judge now change p (Err refusal) b = tt
  drawn-on judge now change p (Ok d) b =
      let q : PublisherTables = with_draw d (at_moment now p) in
      let count : ℕ = entry_count (changing_entries publication judge (changing_locally publication change d.value (at_moment now p)) q) in
      moved-from p.gens.filling.last_closed (fill.filled_by p.gens.filling count).last_closed q.latest p.gens.closings b

  local-on : (judge : PublisherJudge) (now : Moment) (change : Change) (p : PublisherTables) (found : Option Refusal) → ClosingsFrom p
      → (let done : Result (PublisherTables × RowId) Refusal = elim found [ Some refusal ↦ Err refusal | None ↦ elim (draw_for_change publication p change) [ Err refusal ↦ Err refusal | Ok d ↦ Ok (made_locally publication judge change d (at_moment now p)) ] ] in IfOk done (λ x. ClosingsFrom x.0))
  local-on judge now change p (Some refusal) b = tt
  local-on judge now change p None b = drawn-on judge now change p (draw_for_change publication p change) b

  upload-on : (judge : PublisherJudge) (m : Upload) (decisions : List Decision) (p : PublisherTables) (b : Bool) → ClosingsFrom p → ClosingsFrom (if b then taken_in publication judge m (acts_of judge m decisions p) p else p)
  upload-on judge m decisions p true b =
      let acts = acts_of judge m decisions p in
      let count : ℕ = entry_count (changing_entries publication judge (changing_by m acts) (with_acts publication m acts p)) in
      moved-from p.gens.filling.last_closed (fill.filled_by p.gens.filling count).last_closed p.latest p.gens.closings b
  upload-on judge m decisions p false b = b

  closed-on : (p : PublisherTables) → ClosingsFrom p → ClosingsFrom (tables_after_close p)
  closed-on p b = moved-from p.gens.filling.last_closed (fill.filling_after_close p.gens.filling).last_closed p.latest p.gens.closings b

  join-on : (m : Join) (p : PublisherTables) (b : Bool) → ClosingsFrom p → ClosingsFrom (if b then join_taken m p else p)
  join-on m p true b = b
  join-on m p false b = b

  pub closings-keep : PublisherCallsKeep publication ClosingsFrom
  closings-keep = record {
    of_local = λ judge now change p b. local-on judge now change p (local_refusal publication change p) b;
    of_close = λ now p b. unless-on (counter_end (counters p)) (tables_after_close (at_moment now p)) _ (closed-on (at_moment now p) b);
    of_join = λ now m p b. unless-on (join_refusal publication m p) (tables_after_join m (at_moment now p)) _ (join-on m (at_moment now p) (join_acts m (at_moment now p)) b);
    of_upload = λ judge now m decisions p b. unless-on (upload_refusal publication judge now m p) (tables_after_upload publication judge m decisions (at_moment now p)) _ (upload-on judge m decisions (at_moment now p) (brings_news judge m) b);
    of_ranges = λ judge now m p b. unless-on (ranges_refusal publication judge now m p) (with_grants (plans publication m p) (at_moment now p)) _ b;
    of_ask = λ judge now m p b. unless-on (download_refusal publication now m p) (tables_after_download m (at_moment now p)) _ (moved-from p.gens.filling.last_closed (fill.filling_after_close p.gens.filling).last_closed (at_moment now p).latest p.gens.closings b);
    of_purge = λ now p b. all-filter IsFromOne (λ (c : Closing). nat_le (cutoff publication (at_moment now p)).0 c.moment.0) p.gens.closings b;
  }

  pub closings-from : (says : Saying) (tallies : List ℕ) (slips : Slips) (events : List Event) → (resolvers : ℕ) × IsValid resolvers publication → ClosingsFrom (model_behind publication says tallies slips events).world.publisher
  closings-from says tallies slips events valid =
      (grounded-always publication says tallies slips events valid (λ (w : World) (h : History). ClosingsFrom w.publisher) (λ m action g b. publisher-step publication ClosingsFrom m.world b closings-keep says (by_history m.history) action)
      (λ w h others b. b) tt).1
