-- Where the values of a call are those of their types, so are those of the publisher's tables behind it.
use Rattle.std.specs.List.{AllByRecursion}
use Rattle.std.specs.Prelude.{Err, IfOk, List, None, Ok, Option, Result, Some, [], max, refl, ℕ, ◌≡◌}
use Rattle.std.proofs.Common.{arith}
use Rattle.std.proofs.lemmas.List.Elements.{recursion_from_All}
use Rattle.merge_types.specs.declared.changes.Change.{Change}
use Rattle.merge_types.specs.declared.identifiers.Moment.{Moment}
use Rattle.merge_units.specs.declared.result.Decision.{Decision}
use Rattle.merge_ident.specs.Grants.{granted_to}
use Rattle.merge_ident.proofs.Stored.{no_grants}
use Rattle.merge_schema.specs.Valid.{IsValid}
use Rattle.merge_schema.specs.declared.publication.Identity.{Identity}
use Rattle.merge_schema.specs.declared.publication.Publication.{Publication}
use Rattle.merge_batch.specs.Laws.{IsValidItem}
use Rattle.merge_batch.specs.declared.refusal.Refusal.{Refusal}
use Rattle.merge_batch.specs.declared.reply.DownloadItem.{DownloadItem}
use Rattle.merge_batch.specs.declared.reply.Downloaded.{Downloaded}
use Rattle.merge_batch.specs.declared.reply.Joined.{Joined}
use Rattle.merge_batch.specs.declared.reply.Ranged.{Ranged}
use Rattle.merge_batch.specs.declared.reply.Reply.TheVariants as reply
use Rattle.merge_batch.specs.declared.reply.Uploaded.{Uploaded}
use Rattle.merge_batch.specs.declared.request.Download.{Download}
use Rattle.merge_batch.specs.declared.request.Join.{Join}
use Rattle.merge_batch.specs.declared.request.RangeAsk.{RangeAsk}
use Rattle.merge_batch.specs.declared.request.Request.{Request}
use Rattle.merge_batch.specs.declared.request.Request.TheVariants as request
use Rattle.merge_batch.specs.declared.request.Upload.{Upload}
use Rattle.merge_model.specs.Judge.{PublisherJudge}
use Rattle.merge_model.specs.Judge.ByNumbers.{by_numbers}
use Rattle.merge_model.specs.Publisher.{at_moment, close_generation, empty_publisher, holder_for}
use Rattle.merge_model.specs.Publisher.PublisherDownload.{download}
use Rattle.merge_model.specs.Publisher.PublisherJoin.{join}
use Rattle.merge_model.specs.Publisher.PublisherLocal.{Drawn, draw_for_change, local}
use Rattle.merge_model.specs.Publisher.PublisherPurge.{purge}
use Rattle.merge_model.specs.Publisher.PublisherRanges.{ranges}
use Rattle.merge_model.specs.Publisher.PublisherUpload.{tables_after_upload, upload, upload_refusal}
use Rattle.merge_model.specs.Tables.Publications.{identities}
use Rattle.merge_model.specs.Tables.{PublisherTables}
use Rattle.merge_model.specs.Tables.Refusals.{unless}
use Rattle.merge_model.specs.World.Calls.{result_of_request}
use Rattle.merge_model.specs.World.Faults.{known_by}
use Rattle.merge_model.specs.World.Steps.{kept_decisions, upload_questions}
use Rattle.merge_model.specs.World.{Saying}
use Rattle.merge_model.proofs.Lists.Finding.{all-weaker}
use Rattle.merge_model.proofs.Lists.{all-both, all-map, all-unit}
use Rattle.merge_laws.proofs.Runs.ValidRules.{valid-rules}
use Rattle.merge_record.specs.Versions.{IsValue}
use Rattle.merge_typed.specs.Messages.{ItemIsTyped, OrderIsTyped, RequestIsTyped, ToldIsTyped}
use Rattle.merge_typed.specs.Outside.{ChangeIsTyped, PublicationIsTyped}
use Rattle.merge_typed.specs.Typed.{HolderIsTyped, MomentFits, PublisherIsTyped}
use Rattle.merge_typed.proofs.Calls.{ok-weaker}
use Rattle.merge_typed.proofs.Holders.{holder-typed, new-fits}
use Rattle.merge_typed.proofs.Moments.{OwnMoments, moments-asked, moments-closed, moments-joined, moments-local, moments-purged, moments-ranged, moments-uploaded}
use Rattle.merge_typed.proofs.OwnRanges.{Drew, OwnFits, OwnRanges, draws, ranges-asked, ranges-closed, ranges-joined, ranges-local, ranges-purged, ranges-ranged, ranges-uploaded}
use Rattle.merge_typed.proofs.OwnValues.{OwnValues, values-asked, values-closed, values-joined, values-local, values-purged, values-ranged, values-uploaded}
use Rattle.merge_stored.specs.HasTypes.{RequestHasTypes, SentHasTypes}
use Rattle.merge_stored.proofs.PublisherConflicts.{upload-passed}
use Rattle.merge_stored.proofs.AnyCalls.Parts.{as-ok}
use Rattle.merge_stored.proofs.AnyCalls.TypedValues.{body-fits-typed}
use Rattle.merge_stored.proofs.ValidPublications.{valid-typed}

module _ (resolvers : ℕ) (publication : Publication) (valid : IsValid resolvers publication) where
  abbrev fitting : PublicationIsTyped publication
  fitting = valid-typed resolvers publication valid

  abbrev Ranges : PublisherTables → Type 0
  Ranges p = OwnRanges publication fitting p

  -- what every call keeps of values
  pub record Fit (p : PublisherTables) : Type 0 where
    pub ranges : Ranges p
    pub moments : OwnMoments p
    pub values : OwnValues p

  pub tables-typed : (p : PublisherTables) → Fit p → PublisherIsTyped p
  tables-typed p f = record {
    rows = f.values.rows;
    conflicts = f.values.conflicts;
    closings = f.moments.closings;
    sites = f.moments.sites;
    grants = f.ranges.book.typed;
    held = all-weaker (OwnFits p.grants) HolderIsTyped (λ entry own. holder-typed entry own.fits) p.held f.ranges.held;
    latest = f.values.latest;
  }

  pub begin-fit : Fit (empty_publisher publication)
  begin-fit = record {
    ranges = record {
      book = record { book = record { rules_fit = valid-rules resolvers publication valid; grants_fit = no_grants; in_order = tt }; typed = tt; room = λ article site. (let none : granted_to article site [] ≡ 0 = refl in omega (arith, none)) };
      held = all-map (λ (place : ℕ × Identity). Unit {0}) (OwnFits []) holder_for (λ place none. record { fits = new-fits place.1.threshold; few = omega arith }) (identities publication) (all-unit (identities publication));
    };
    moments = record { closings = tt; sites = tt; latest = omega arith };
    values = record { rows = tt; conflicts = tt; latest = omega arith };
  }

  -- The three together, of what a call makes.

  all-fit : {A : Type 0} (done : Result (PublisherTables × A) Refusal) → IfOk done (λ a. Ranges a.0) → IfOk done (λ a. OwnMoments a.0) → IfOk done (λ a. OwnValues a.0) → IfOk done (λ a. Fit a.0)
  all-fit (Ok a) ranges moments values = record { ranges = ranges; moments = moments; values = values }
  all-fit (Err refusal) ranges moments values = tt

  -- the tables of what is made, without the answer
  tables-of : {A : Type 0} (S : PublisherTables → Type 0) (R : A → Type 0) (done : Result (PublisherTables × A) Refusal) → IfOk done (λ a. S a.0 × R a.1) → IfOk done (λ a. S a.0)
  tables-of S R (Ok a) is = is.0
  tables-of S R (Err refusal) is = tt

  abbrev Any : (A : Type 0) → A → Type 0
  Any A answer = Unit {0}

  module _ (says : Saying) (tallies : List ℕ) (now : Moment) (low : MomentFits now) (p : PublisherTables) (f : Fit p) where
    abbrev judge : PublisherJudge
    judge = by_numbers p

    -- an upload that is not refused has values that a record can have
    items-typed : (m : Upload) → upload_refusal publication judge now m p ≡ None → RequestHasTypes (request.Upload m) → RequestIsTyped (request.Upload m)
    items-typed m fine has =
        let passed = upload-passed publication judge now m p fine in
        all-both (IsValidItem publication (known_by publication judge p) m) SentHasTypes ItemIsTyped (λ item is types. body-fits-typed publication item.article item.version.body is.fits types) m.items
        (recursion_from_All (IsValidItem publication (known_by publication judge p) m) m.items passed.valid.items) has

    upload-fit : (m : Upload) → RequestHasTypes (request.Upload m) → IfOk (upload publication judge now m (kept_decisions says tallies (upload_questions publication judge now m p)) p) (λ a. Fit a.0)
    upload-fit m has =
        let decisions : List Decision = kept_decisions says tallies (upload_questions publication judge now m p) in
        let done : Result (PublisherTables × Uploaded) Refusal = upload publication judge now m decisions p in
        fit-by (upload_refusal publication judge now m p) (tables_after_upload publication judge m decisions (at_moment now p), record { seq = m.seq; received = max m.to (judge.received m.site.0) })
        (λ fine. all-fit done (tables-of Ranges (Any Uploaded) done (ranges-uploaded publication fitting now p f.ranges judge m decisions)) (tables-of OwnMoments (Any Uploaded) done (moments-uploaded publication now p low f.moments judge m decisions))
        (tables-of OwnValues (Any Uploaded) done (values-uploaded publication now p low f.values says judge m tallies (items-typed m fine has))))
      where
        fit-by : (refusal : Option Refusal) (done : PublisherTables × Uploaded) → (refusal ≡ None → IfOk (unless refusal done) (λ a. Fit a.0)) → IfOk (unless refusal done) (λ a. Fit a.0)
        fit-by None done each = each refl
        fit-by (Some why) done each = tt

    join-fit : (m : Join) → IfOk (join publication now m p) (λ a. Fit a.0)
    join-fit m = (let done : Result (PublisherTables × Joined) Refusal = join publication now m p in
        all-fit done (tables-of Ranges (Any Joined) done (ranges-joined publication fitting now p f.ranges m)) (tables-of OwnMoments (Any Joined) done (moments-joined publication now p low f.moments m)) (tables-of OwnValues (Any Joined) done (values-joined publication now p low f.values m)))

    ranges-fit : (m : RangeAsk) → IfOk (ranges publication judge now m p) (λ a. Fit a.0)
    ranges-fit m = (let done : Result (PublisherTables × Ranged) Refusal = ranges publication judge now m p in
        all-fit done (tables-of Ranges (λ (a : Ranged). AllByRecursion ToldIsTyped a.grants) done (ranges-ranged publication fitting now p f.ranges judge m)) (tables-of OwnMoments (Any Ranged) done (moments-ranged publication now p low f.moments judge m))
        (tables-of OwnValues (Any Ranged) done (values-ranged publication now p low f.values judge m)))

    ask-fit : (m : Download) → IfOk (download publication judge now m p) (λ a. Fit a.0)
    ask-fit m = (let done : Result (PublisherTables × Downloaded) Refusal = download publication judge now m p in
        all-fit done (tables-of Ranges (Any Downloaded) done (ranges-asked publication fitting now p f.ranges judge m)) (tables-of OwnMoments (Any Downloaded) done (moments-asked publication now p low f.moments judge m))
        (tables-of OwnValues (λ (a : Downloaded). AllByRecursion (λ (item : DownloadItem). OrderIsTyped item.act) a.items) done (values-asked publication now p low f.values judge m)))

    pub handled-fit : (m : Request) → RequestHasTypes m → IfOk (result_of_request publication says tallies now m p) (λ a. Fit a.0)
    handled-fit (request.Join m) is = as-ok Fit (λ (a : Joined). reply.Joined a) (join publication now m p) (join-fit m)
    handled-fit (request.Upload m) is = as-ok Fit (λ (a : Uploaded). reply.Uploaded a) (upload publication judge now m (kept_decisions says tallies (upload_questions publication judge now m p)) p) (upload-fit m is)
    handled-fit (request.Ranges m) is = as-ok Fit (λ (a : Ranged). reply.Ranged a) (ranges publication judge now m p) (ranges-fit m)
    handled-fit (request.Download m) is = as-ok Fit (λ (a : Downloaded). reply.Downloaded a) (download publication judge now m p) (ask-fit m)

  module _ (now : Moment) (low : MomentFits now) (p : PublisherTables) (f : Fit p) where
    pub changed-fit : (change : Change) → ChangeIsTyped change → IfOk (local publication (by_numbers p) now change p) (λ a. Fit a.0)
    changed-fit change is =
        let value : IfOk (draw_for_change publication p change) (λ d. IsValue d.value) = ok-weaker (Drew publication fitting) (λ (d : Drawn). IsValue d.value) (λ d drew. drew.value) (draw_for_change publication p change) (draws publication fitting p change f.ranges) in
        all-fit (local publication (by_numbers p) now change p) (ranges-local publication fitting now p f.ranges (by_numbers p) change) (moments-local publication now p low f.moments (by_numbers p) change) (values-local publication now p low f.values (by_numbers p) change is value)

    pub closed-fit : IfOk (close_generation now p) (λ a. Fit a.0)
    closed-fit = all-fit (close_generation now p) (ranges-closed publication fitting now p f.ranges) (moments-closed publication now p low f.moments) (values-closed publication now p low f.values)

    pub purged-fit : Fit (purge publication now p).0
    purged-fit = record { ranges = ranges-purged publication fitting now p f.ranges; moments = moments-purged publication now p low f.moments; values = values-purged publication now p low f.values }
