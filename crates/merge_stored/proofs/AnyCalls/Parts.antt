-- Every call of the publisher keeps all parts of what a start asks, whoever sent the message.
use Rattle.std.specs.List.{AllByRecursion}
use Rattle.std.specs.Prelude.{Err, IfOk, List, None, Ok, Result, length, nat_lt, true, ℕ, ◌<◌, ◌^◌, ◌≡◌}
use Rattle.merge_types.specs.declared.changes.Change.{Change}
use Rattle.merge_types.specs.declared.identifiers.Moment.{Moment}
use Rattle.merge_units.specs.declared.result.Decision.{Decision}
use Rattle.merge_ident.specs.Books.{IsBook}
use Rattle.merge_schema.specs.Valid.{IsValid}
use Rattle.merge_schema.specs.declared.publication.Publication.{Publication}
use Rattle.merge_batch.specs.Articles.{has_article}
use Rattle.merge_batch.specs.LocalChanges.{article_of}
use Rattle.merge_batch.specs.declared.refusal.Refusal.{Refusal}
use Rattle.merge_batch.specs.declared.refusal.Refusal.TheVariants.{WrongWatermark}
use Rattle.merge_batch.specs.declared.reply.Downloaded.{Downloaded}
use Rattle.merge_batch.specs.declared.reply.Joined.{Joined}
use Rattle.merge_batch.specs.declared.reply.Ranged.{Ranged}
use Rattle.merge_batch.specs.declared.reply.Reply.{Reply}
use Rattle.merge_batch.specs.declared.reply.Reply.TheVariants as reply
use Rattle.merge_batch.specs.declared.reply.Uploaded.{Uploaded}
use Rattle.merge_batch.specs.declared.request.Download.{Download}
use Rattle.merge_batch.specs.declared.request.Join.{Join}
use Rattle.merge_batch.specs.declared.request.RangeAsk.{RangeAsk}
use Rattle.merge_batch.specs.declared.request.Request.{Request}
use Rattle.merge_batch.specs.declared.request.Request.TheVariants as request
use Rattle.merge_batch.specs.declared.request.Upload.{Upload}
use Rattle.merge_model.specs.Judge.ByNumbers.{by_numbers}
use Rattle.merge_model.specs.Judge.{PublisherJudge}
use Rattle.merge_model.specs.Publisher.{at_moment, close_generation, counters, last_closed, site_refusal, state_of, tables_after_close, with_state}
use Rattle.merge_model.specs.Publisher.PublisherDownload.{download, download_refusal, state_after_download, tables_after_download}
use Rattle.merge_model.specs.Publisher.PublisherJoin.{join, join_acts, join_refusal, tables_after_join}
use Rattle.merge_model.specs.Publisher.PublisherLocal.{local}
use Rattle.merge_model.specs.Publisher.PublisherPurge.{purge}
use Rattle.merge_model.specs.Publisher.PublisherRanges.{plans, ranges, ranges_refusal, with_grants}
use Rattle.merge_model.specs.Publisher.PublisherUpload.{tables_after_upload, upload, upload_refusal}
use Rattle.merge_model.specs.Tables.Publications.{rules_of}
use Rattle.merge_model.specs.Tables.Refusals.{counter_end, refused_if}
use Rattle.merge_model.specs.Tables.{PublisherTables}
use Rattle.merge_model.specs.World.Calls.{as_reply, result_of_request}
use Rattle.merge_model.specs.World.Steps.{kept_decisions, upload_questions}
use Rattle.merge_model.specs.World.{Saying}
use Rattle.merge_model.proofs.Runs.Refusals.{first-none}
use Rattle.merge_typed.proofs.Calls.{local-ok, unless-ok}
use Rattle.merge_laws.proofs.Runs.ValidRules.{valid-rules}
use Rattle.merge_honest.proofs.Bounded.{publisher-low}
use Rattle.merge_stored.proofs.GrantsKnown.{GrantIsKnown, grants-keep}
use Rattle.merge_stored.proofs.HeldKeys.{HasKeys}
use Rattle.merge_stored.proofs.HeldWalk.{EntryIsWell, keys-keep}
use Rattle.merge_stored.proofs.Own.{Held, own-keep}
use Rattle.merge_stored.proofs.PublisherCalls.{PublisherCallsKeep}
use Rattle.merge_stored.proofs.PublisherEntries.{HasRooms, rooms-keep}
use Rattle.merge_stored.proofs.Subscriptions.{SiteIs, sites-keep}
use Rattle.merge_stored.proofs.AnyCalls.Base.{Base, at-base, closed-base, join-base, made-base, purge-base, upload-base}

-- what a start asks of tables whose values are typed, part by part
pub record Parts (publication : Publication) (p : PublisherTables) : Type 0 where
  pub base : Base publication p
  pub rooms : HasRooms p
  pub sites : AllByRecursion (SiteIs publication (last_closed p)) p.sites
  pub grants : AllByRecursion (GrantIsKnown publication) p.grants
  pub own : IsBook (rules_of publication) p.grants × Held p.grants p.held
  pub keys : HasKeys publication p.held × AllByRecursion EntryIsWell p.held

pub as-ok : {A : Type 0} (S : PublisherTables → Type 0) (message : A → Reply) (done : Result (PublisherTables × A) Refusal) → IfOk done (λ a. S a.0) → IfOk (as_reply message done) (λ a. S a.0)
as-ok S message (Ok done) is = is
as-ok S message (Err refusal) is = tt

-- what each call keeps, every request keeps
keeps-handled : (publication : Publication) (S : PublisherTables → Type 0) → PublisherCallsKeep publication S → (says : Saying) (tallies : List ℕ) (now : Moment) (m : Request) (p : PublisherTables) → S p → IfOk (result_of_request publication says tallies now m p) (λ done. S done.0)
keeps-handled publication S keeps says tallies now (request.Join m) p s = as-ok S (λ (a : Joined). reply.Joined a) (join publication now m p) (keeps.of_join now m p s)
keeps-handled publication S keeps says tallies now (request.Upload m) p s = (let decisions : List Decision = kept_decisions says tallies (upload_questions publication (by_numbers p) now m p) in
    as-ok S (λ (a : Uploaded). reply.Uploaded a) (upload publication (by_numbers p) now m decisions p) (keeps.of_upload (by_numbers p) now m decisions p s))
keeps-handled publication S keeps says tallies now (request.Ranges m) p s = as-ok S (λ (a : Ranged). reply.Ranged a) (ranges publication (by_numbers p) now m p) (keeps.of_ranges (by_numbers p) now m p s)
keeps-handled publication S keeps says tallies now (request.Download m) p s = as-ok S (λ (a : Downloaded). reply.Downloaded a) (download publication (by_numbers p) now m p) (keeps.of_ask (by_numbers p) now m p s)

module _ (resolvers : ℕ) (publication : Publication) (valid : IsValid resolvers publication) where
  abbrev B : PublisherTables → Type 0
  B p = Base publication p

  asked-base : (now : Moment) (m : Download) (p : PublisherTables) → B p → download_refusal publication now m p ≡ None → B (tables_after_download m (at_moment now p))
  asked-base now m p b fine =
      let passed = first-none (site_refusal publication m.site m.seq now p) _ fine in
      let mark = first-none (refused_if (nat_lt (last_closed p) m.from) (WrongWatermark m.from (last_closed p))) _ passed.1 in
      let counted = first-none (counter_end (counters p)) _ mark.1 in
      let q : PublisherTables = at_moment now p in
      let with_site : PublisherTables = with_state m.site (state_after_download m q (state_of q m.site)) q in
      let base : B with_site = record { changes = b.changes; closed = b.closed; conflict_count = b.conflict_count; rows = b.rows; moves = b.moves; lost = b.lost; numbered = b.numbered; closings = b.closings } in
      closed-base publication with_site (publisher-low p counted.0).1 base

  -- What each call leaves of the base.

  close-call : (now : Moment) (p : PublisherTables) → B p → IfOk (close_generation now p) (λ done. B done.0)
  close-call now p b = unless-ok (λ (done : PublisherTables × ℕ). B done.0) (counter_end (counters p)) (tables_after_close (at_moment now p), last_closed (tables_after_close (at_moment now p)))
      (λ fine. closed-base publication (at_moment now p) (publisher-low p fine).1 (at-base publication now p b))

  join-call : (now : Moment) (m : Join) (p : PublisherTables) → B p → IfOk (join publication now m p) (λ done. B done.0)
  join-call now m p b = unless-ok (λ (done : PublisherTables × Joined). B done.0) (join_refusal publication m p) (tables_after_join m (at_moment now p), _) (λ fine. join-base publication m (at_moment now p) (join_acts m (at_moment now p)) (at-base publication now p b))

  ranges-call : (now : Moment) (m : RangeAsk) (p : PublisherTables) → B p → IfOk (ranges publication (by_numbers p) now m p) (λ done. B done.0)
  ranges-call now m p b = unless-ok (λ (done : PublisherTables × Ranged). B done.0) (ranges_refusal publication (by_numbers p) now m p) (with_grants (plans publication m p) (at_moment now p), _)
      (λ fine. record { changes = b.changes; closed = b.closed; conflict_count = b.conflict_count; rows = b.rows; moves = b.moves; lost = b.lost; numbered = b.numbered; closings = b.closings })

  ask-call : (now : Moment) (m : Download) (p : PublisherTables) → B p → IfOk (download publication (by_numbers p) now m p) (λ done. B done.0)
  ask-call now m p b = unless-ok (λ (done : PublisherTables × Downloaded). B done.0) (download_refusal publication now m p) (tables_after_download m (at_moment now p), _) (λ fine. asked-base now m p b fine)

  upload-call : (says : Saying) (tallies : List ℕ) (now : Moment) (m : Upload) (p : PublisherTables) → length p.rows < 2 ^ 64 → Parts publication p
      → IfOk (upload publication (by_numbers p) now m (kept_decisions says tallies (upload_questions publication (by_numbers p) now m p)) p) (λ done. B done.0)
  upload-call says tallies now m p rows parts =
      let decisions : List Decision = kept_decisions says tallies (upload_questions publication (by_numbers p) now m p) in
      unless-ok (λ (done : PublisherTables × Uploaded). B done.0) (upload_refusal publication (by_numbers p) now m p) (tables_after_upload publication (by_numbers p) m decisions (at_moment now p), _)
      (λ fine. upload-base publication resolvers valid (by_numbers p) says tallies now m p parts.base parts.rooms.unfilled rows fine)

  handled-call : (says : Saying) (tallies : List ℕ) (now : Moment) (m : Request) (p : PublisherTables) → length p.rows < 2 ^ 64 → Parts publication p → IfOk (result_of_request publication says tallies now m p) (λ done. B done.0)
  handled-call says tallies now (request.Join m) p rows parts = as-ok B (λ (a : Joined). reply.Joined a) (join publication now m p) (join-call now m p parts.base)
  handled-call says tallies now (request.Upload m) p rows parts =
      as-ok B (λ (a : Uploaded). reply.Uploaded a) (upload publication (by_numbers p) now m (kept_decisions says tallies (upload_questions publication (by_numbers p) now m p)) p) (upload-call says tallies now m p rows parts)
  handled-call says tallies now (request.Ranges m) p rows parts = as-ok B (λ (a : Ranged). reply.Ranged a) (ranges publication (by_numbers p) now m p) (ranges-call now m p parts.base)
  handled-call says tallies now (request.Download m) p rows parts = as-ok B (λ (a : Downloaded). reply.Downloaded a) (download publication (by_numbers p) now m p) (ask-call now m p parts.base)

  -- Together.

  all-parts : {A : Type 0} (done : Result (PublisherTables × A) Refusal) → IfOk done (λ a. B a.0) → IfOk done (λ a. HasRooms a.0) → IfOk done (λ a. AllByRecursion (SiteIs publication (last_closed a.0)) a.0.sites) → IfOk done (λ a. AllByRecursion (GrantIsKnown publication) a.0.grants)
      → IfOk done (λ a. IsBook (rules_of publication) a.0.grants × Held a.0.grants a.0.held) → IfOk done (λ a. HasKeys publication a.0.held × AllByRecursion EntryIsWell a.0.held) → IfOk done (λ a. Parts publication a.0)
  all-parts (Ok a) base rooms sites grants own keys = record { base = base; rooms = rooms; sites = sites; grants = grants; own = own; keys = keys }
  all-parts (Err refusal) base rooms sites grants own keys = tt

  abbrev Sites : PublisherTables → Type 0
  Sites p = AllByRecursion (SiteIs publication (last_closed p)) p.sites

  abbrev Grants : PublisherTables → Type 0
  Grants p = AllByRecursion (GrantIsKnown publication) p.grants

  abbrev Owned : PublisherTables → Type 0
  Owned p = IsBook (rules_of publication) p.grants × Held p.grants p.held

  abbrev Keyed : PublisherTables → Type 0
  Keyed p = HasKeys publication p.held × AllByRecursion EntryIsWell p.held

  pub handled-parts : (says : Saying) (tallies : List ℕ) (now : Moment) (m : Request) (p : PublisherTables) → length p.rows < 2 ^ 64 → Parts publication p → IfOk (result_of_request publication says tallies now m p) (λ done. Parts publication done.0)
  handled-parts says tallies now m p rows parts = all-parts (result_of_request publication says tallies now m p) (handled-call says tallies now m p rows parts)
      (keeps-handled publication HasRooms (rooms-keep publication) says tallies now m p parts.rooms) (keeps-handled publication Sites (sites-keep publication) says tallies now m p parts.sites)
      (keeps-handled publication Grants (grants-keep publication) says tallies now m p parts.grants) (keeps-handled publication Owned (own-keep publication resolvers valid) says tallies now m p parts.own)
      (keeps-handled publication Keyed (keys-keep publication (valid-rules resolvers publication valid)) says tallies now m p parts.keys)

  pub changed-parts : (now : Moment) (change : Change) (p : PublisherTables) → has_article publication (article_of change) ≡ true → length p.rows < 2 ^ 64 → Parts publication p → IfOk (local publication (by_numbers p) now change p) (λ done. Parts publication done.0)
  changed-parts now change p exists rows parts =
      let judge : PublisherJudge = by_numbers p in
      let base : IfOk (local publication judge now change p) (λ done. B done.0) = local-ok publication judge now change p B (λ fine d is. made-base publication resolvers valid judge now change p d exists parts.base parts.rooms.unfilled rows parts.keys.0 fine is) in
      all-parts (local publication judge now change p) base ((rooms-keep publication).of_local judge now change p parts.rooms) ((sites-keep publication).of_local judge now change p parts.sites)
      ((grants-keep publication).of_local judge now change p parts.grants) ((own-keep publication resolvers valid).of_local judge now change p parts.own) ((keys-keep publication (valid-rules resolvers publication valid)).of_local judge now change p parts.keys)

  pub closed-parts : (now : Moment) (p : PublisherTables) → Parts publication p → IfOk (close_generation now p) (λ done. Parts publication done.0)
  closed-parts now p parts = all-parts (close_generation now p) (close-call now p parts.base) ((rooms-keep publication).of_close now p parts.rooms) ((sites-keep publication).of_close now p parts.sites)
      ((grants-keep publication).of_close now p parts.grants) ((own-keep publication resolvers valid).of_close now p parts.own) ((keys-keep publication (valid-rules resolvers publication valid)).of_close now p parts.keys)

  pub purged-parts : (now : Moment) (p : PublisherTables) → Parts publication p → Parts publication (purge publication now p).0
  purged-parts now p parts = record {
    base = purge-base publication now p parts.base;
    rooms = (rooms-keep publication).of_purge now p parts.rooms;
    sites = (sites-keep publication).of_purge now p parts.sites;
    grants = (grants-keep publication).of_purge now p parts.grants;
    own = (own-keep publication resolvers valid).of_purge now p parts.own;
    keys = (keys-keep publication (valid-rules resolvers publication valid)).of_purge now p parts.keys;
  }
