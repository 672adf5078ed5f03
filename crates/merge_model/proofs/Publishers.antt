-- What the publisher's own steps keep.
-- The room holds what follows of steps and runs: numbers that rise, lists that stay sorted, generations that act once.
pub mod PublisherSteps
pub mod Rising
pub mod Sorted
pub mod DoneOnce
use Rattle.std.specs.Prelude.{ℕ, ℤ, List, [], ◌∷◌, Bool, true, false, Option, Some, None, Result, Ok, Err, if◌then◌else◌, IfOk, max, map}
use Rattle.merge_types.specs.declared.identifiers.Moment.{Moment}
use Rattle.merge_types.specs.declared.identifiers.RowId.{RowId}
use Rattle.merge_types.specs.declared.changes.Change.{Change}
use Rattle.merge_types.specs.declared.changes.Change.TheVariants.{Insert, Update, Delete}
use Rattle.merge_units.specs.declared.result.Decision.{Decision}
use Rattle.merge_ident.specs.declared.grants.Grant.{Grant}
use Rattle.merge_ident.specs.declared.grants.Ask.{Ask}
use Rattle.merge_ident.specs.declared.grants.GrantAnswer.TheVariants.{Granted, Kept, NotDue}
use Rattle.merge_ident.specs.declared.ranges.IdentityUsedUp.{IdentityUsedUp as IdentityEnd}
use Rattle.merge_ident.specs.Books.{IsBook}
use Rattle.merge_ident.specs.Answers.{Answer, answer_of, plans_of, plan_of, grants_with, grants_with_all, grants_after}
use Rattle.merge_ident.specs.Holders.{Holder, answer_to_take, after_receive}
use Rattle.merge_ident.proofs.Plans.{book-with_plan}
use Rattle.merge_batch.specs.declared.refusal.Refusal.{Refusal}
use Rattle.merge_batch.specs.declared.request.Join.{Join}
use Rattle.merge_batch.specs.declared.request.Upload.{Upload}
use Rattle.merge_batch.specs.declared.request.RangeAsk.{RangeAsk}
use Rattle.merge_batch.specs.declared.request.Download.{Download}
use Rattle.merge_schema.specs.declared.publication.Publication.{Publication}
use Rattle.merge_model.specs.Tables.{PublisherTables}
use Rattle.merge_model.specs.Tables.Publications.{rules_of}
use Rattle.merge_model.specs.Tables.Refusals.{unless, counter_end}
use Rattle.merge_batch.specs.declared.reply.Joined.{Joined}
use Rattle.merge_batch.specs.declared.reply.Uploaded.{Uploaded}
use Rattle.merge_batch.specs.declared.reply.Ranged.{Ranged}
use Rattle.merge_batch.specs.declared.reply.Downloaded.{Downloaded}
use Rattle.merge_model.specs.Tables.Keys.{at_number}
use Rattle.merge_model.specs.Judge.{PublisherJudge}
use Rattle.merge_model.specs.Publisher.Acts.{acts_of}
use Rattle.merge_model.specs.Publisher.{close_generation, at_moment, tables_after_close, last_closed, counters}
use Rattle.merge_model.specs.Publisher.PublisherLocal.{local, local_refusal, draw_for_change, Drawn, drawn_from, taken_from, no_draw, after_answer, own_ask, made_locally}
use Rattle.merge_model.specs.Publisher.PublisherJoin.{join, join_refusal, join_taken, join_acts, tables_after_join}
use Rattle.merge_model.specs.Publisher.PublisherUpload.{upload, tables_after_upload, taken_in, brings_news, upload_refusal}
use Rattle.merge_model.specs.Publisher.PublisherRanges.{ranges, ranges_refusal, reply_to_ranges, plans, with_grants, ask_by}
use Rattle.merge_model.specs.Publisher.PublisherDownload.{download, download_refusal, tables_after_download, reply_to}
use Rattle.merge_model.specs.World.{World, Judges, Saying}
use Rattle.merge_model.specs.World.Steps.{Action, step_by}
use Rattle.merge_model.proofs.Publishers.PublisherSteps.{step-holds}

-- where nothing refuses, the step is made
unless-ok : {A : Type 0} (P : A → Type 0) (refusal : Option Refusal) (a : A) → P a → IfOk (unless refusal a) P
unless-ok P (Some refusal) a h = tt
unless-ok P None a h = h

if-ok : (Q : PublisherTables → Type 0) (b : Bool) (x y : PublisherTables) → Q x → Q y → Q (if b then x else y)
if-ok Q true x y first second = first
if-ok Q false x y first second = second

-- a local change, by what holds of the tables with what its identity value took
drawn-ok : (Q : PublisherTables → Type 0) (publication : Publication) (judge : PublisherJudge) (change : Change) (p : PublisherTables) (draw : Result Drawn Refusal)
    → IfOk draw (λ d. Q (made_locally publication judge change d p).0)
    → (let done : Result (PublisherTables × RowId) Refusal = elim draw [ Err refusal ↦ Err refusal | Ok d ↦ Ok (made_locally publication judge change d p) ] in IfOk done (λ a. Q a.0))
drawn-ok Q publication judge change p (Err refusal) h = tt
drawn-ok Q publication judge change p (Ok d) h = h

pub local-ok : (Q : PublisherTables → Type 0) (publication : Publication) (judge : PublisherJudge) (now : Moment) (change : Change) (p : PublisherTables)
    → IfOk (draw_for_change publication p change) (λ d. Q (made_locally publication judge change d (at_moment now p)).0) → IfOk (local publication judge now change p) (λ done. Q done.0)
local-ok Q publication judge now change p h = elim (local_refusal publication change p)
    as (λ (refusal : Option Refusal). (let done : Result (PublisherTables × RowId) Refusal = elim refusal [
      | Some why ↦ Err why
      | None ↦ elim (draw_for_change publication p change) [ Err why ↦ Err why | Ok d ↦ Ok (made_locally publication judge change d (at_moment now p)) ]
    ] in IfOk done (λ a. Q a.0))) [
      | Some why ↦ tt
      | None ↦ drawn-ok Q publication judge change (at_moment now p) (draw_for_change publication p change) h
    ]

pub upload-ok : (Q : PublisherTables → Type 0) (publication : Publication) (judge : PublisherJudge) (now : Moment) (m : Upload) (decisions : List Decision) (p : PublisherTables)
    → Q (taken_in publication judge m (acts_of judge m decisions (at_moment now p)) (at_moment now p)) → Q (at_moment now p) → IfOk (upload publication judge now m decisions p) (λ done. Q done.0)
upload-ok Q publication judge now m decisions p news none = unless-ok (λ (done : PublisherTables × Uploaded). Q done.0) (upload_refusal publication judge now m p) (tables_after_upload publication judge m decisions (at_moment now p), record { seq = m.seq; received = max m.to (judge.received m.site.0) })
    (if-ok Q (brings_news judge m) (taken_in publication judge m (acts_of judge m decisions (at_moment now p)) (at_moment now p)) (at_moment now p) news none)

pub close-ok : (Q : PublisherTables → Type 0) (now : Moment) (p : PublisherTables) → Q (tables_after_close (at_moment now p)) → IfOk (close_generation now p) (λ done. Q done.0)
close-ok Q now p h = unless-ok (λ (done : PublisherTables × ℕ). Q done.0) (counter_end (counters p)) (tables_after_close (at_moment now p), last_closed (tables_after_close (at_moment now p))) h

pub join-ok : (Q : PublisherTables → Type 0) (publication : Publication) (now : Moment) (m : Join) (p : PublisherTables)
    → Q (join_taken m (at_moment now p)) → Q (at_moment now p) → IfOk (join publication now m p) (λ done. Q done.0)
join-ok Q publication now m p news none = unless-ok (λ (done : PublisherTables × Joined). Q done.0) (join_refusal publication m p) (tables_after_join m (at_moment now p), record { seq = m.seq })
    (if-ok Q (join_acts m (at_moment now p)) (join_taken m (at_moment now p)) (at_moment now p) news none)

pub ranges-ok : (Q : PublisherTables → Type 0) (publication : Publication) (judge : PublisherJudge) (now : Moment) (m : RangeAsk) (p : PublisherTables)
    → Q (with_grants (plans publication m p) (at_moment now p)) → IfOk (ranges publication judge now m p) (λ done. Q done.0)
ranges-ok Q publication judge now m p h = unless-ok (λ (done : PublisherTables × Ranged). Q done.0) (ranges_refusal publication judge now m p)
    (with_grants (plans publication m p) (at_moment now p), reply_to_ranges m (plans publication m p)) h

pub download-ok : (Q : PublisherTables → Type 0) (publication : Publication) (judge : PublisherJudge) (now : Moment) (m : Download) (p : PublisherTables)
    → Q (tables_after_download m (at_moment now p)) → IfOk (download publication judge now m p) (λ done. Q done.0)
download-ok Q publication judge now m p h = unless-ok (λ (done : PublisherTables × Downloaded). Q done.0) (download_refusal publication now m p)
    (tables_after_download m (at_moment now p), reply_to publication judge m (tables_after_download m (at_moment now p))) h

-- Ranges: the grants are a book.

module _ (publication : Publication) where
  abbrev IsGranting : List Grant → Type 0
  IsGranting grants = IsBook (rules_of publication) grants

  taken-book : (p : PublisherTables) (grants : List Grant) (article : ℕ) (holder : Holder) (result : Result ℤ IdentityEnd) → IsGranting grants → IfOk (taken_from p grants article holder result) (λ d. IsGranting d.grants)
  taken-book p grants article holder (Ok value) h = h
  taken-book p grants article holder (Err used_up) h = tt

  answer-book : (p : PublisherTables) (article : ℕ) (holder : Holder) (answer : Answer) → IsGranting (grants_after p.grants (own_ask p article) answer) → IsGranting p.grants
      → IfOk (after_answer p article holder answer) (λ d. IsGranting d.grants)
  answer-book p article holder (Ok (Granted number range)) new old = taken-book p (grants_after p.grants (own_ask p article) (Ok (Granted number range))) article (after_receive holder range) (answer_to_take (after_receive holder range)) new
  answer-book p article holder (Ok (Kept number range)) new old = taken-book p p.grants article holder (answer_to_take holder) old
  answer-book p article holder (Ok NotDue) new old = taken-book p p.grants article holder (answer_to_take holder) old
  answer-book p article holder (Err fault) new old = taken-book p p.grants article holder (answer_to_take holder) old

  from-book : (p : PublisherTables) (article : ℕ) (holder : Holder) (result : Result ℤ IdentityEnd) → IsGranting p.grants → IfOk (drawn_from publication p article holder result) (λ d. IsGranting d.grants)
  from-book p article holder (Ok value) h = h
  from-book p article holder (Err used_up) h = answer-book p article holder (answer_of (rules_of publication) p.grants (own_ask p article)) (book-with_plan (rules_of publication) p.grants (own_ask p article) h) h

  found-book : (p : PublisherTables) (article : ℕ) (found : Option Holder) → IsGranting p.grants
      → (let draw : Result Drawn Refusal = elim found [ None ↦ Ok (no_draw p) | Some holder ↦ drawn_from publication p article holder (answer_to_take holder) ] in IfOk draw (λ d. IsGranting d.grants))
  found-book p article None h = h
  found-book p article (Some holder) h = from-book p article holder (answer_to_take holder) h

  drawn-book : (p : PublisherTables) (change : Change) → IsGranting p.grants → IfOk (draw_for_change publication p change) (λ d. IsGranting d.grants)
  drawn-book p (Insert article values) h = found-book p article (at_number p.held article) h
  drawn-book p (Update article row values) h = h
  drawn-book p (Delete article row) h = h

  plans-book : (grants : List Grant) (asks : List Ask) → IsGranting grants → IsGranting (grants_with_all grants (plans_of (rules_of publication) grants asks))
  plans-book grants [] h = h
  plans-book grants (ask ∷ asks) h = plans-book (grants_with grants (plan_of (rules_of publication) grants ask)) asks (book-with_plan (rules_of publication) grants ask h)

  pub step-book : (says : Saying) (judges : Judges) (w : World) (action : Action) → IsGranting w.publisher.grants → IsGranting (step_by publication says judges w action).0.publisher.grants
  step-book says judges w action h = step-holds publication (λ (p : PublisherTables). IsGranting p.grants)
      (λ judge now change p k. local-ok (λ (q : PublisherTables). IsGranting q.grants) publication judge now change p (drawn-book p change k))
      (λ now p k. close-ok (λ (q : PublisherTables). IsGranting q.grants) now p k)
      (λ now m p k. join-ok (λ (q : PublisherTables). IsGranting q.grants) publication now m p k k)
      (λ judge now m decisions p k. upload-ok (λ (q : PublisherTables). IsGranting q.grants) publication judge now m decisions p k k)
      (λ judge now m p k. ranges-ok (λ (q : PublisherTables). IsGranting q.grants) publication judge now m p (plans-book p.grants (map (ask_by m.site) m.wants) k))
      (λ judge now m p k. download-ok (λ (q : PublisherTables). IsGranting q.grants) publication judge now m p k)
      (λ now p k. k)
      says judges w action h
