-- What every exchange of a session leaves, the session does.
use Rattle.std.specs.Prelude.{None, Option, Some, if◌then◌else◌, nat_le, refl, suc, zero, ℕ, ◌+◌, ◌-◌, ◌≡◌}
use Rattle.std.proofs.Common.{arith}
use Rattle.merge_types.specs.declared.identifiers.SiteId.{SiteId}
use Rattle.merge_schema.specs.declared.publication.Publication.{Publication}
use Rattle.merge_batch.specs.declared.refusal.Refusal.{Refusal}
use Rattle.merge_batch.specs.declared.reply.Downloaded.{Downloaded}
use Rattle.merge_model.specs.History.Model.{Model, model}
use Rattle.merge_model.specs.World.Session.{Session, after_download, all_downloads, all_ranges, all_uploads, as_it_is, downloaded_in, downloads_up_to, exchange, has_grant, is_joined_in, join_if_due, last_message, range_asks, range_requests_up_to, session, unless_stopped, unsent_generations, uploads_up_to, with_answer, with_upload}
use Rattle.merge_model.specs.World.Session.{ask as asking}
use Rattle.merge_model.specs.World.Steps.{SendDownload, SendJoin, SendRanges, SendUpload, Sending}
use Rattle.merge_model.specs.World.{Saying}
use Rattle.merge_laws.proofs.Sessions.SessionLaw.{Known, Settles, exchange-settles, if-settles}
use Rattle.merge_laws.proofs.Sessions.SessionSteps.{Answered}

-- a part that goes on where nothing ended the one before
pub stopped-goes : (publication : Publication) (says : Saying) (site : SiteId) (P Q : Model → Type 0) (next : Session Model → Session Model) (u : Session Model) (stop : Option Refusal) → u.stop ≡ stop → Settles publication says site P u
    → ((v : Session Model) → P v.world → Settles publication says site Q (next v)) → Settles publication says site Q (let v : Session Model = elim stop [ Some refusal ↦ u | None ↦ next u ] in v)
stopped-goes publication says site P Q next u (Some refusal) is p more = λ none. absurd (grind (arith, none, is))
stopped-goes publication says site P Q next u None is p more = more u (p is)

module _ (publication : Publication) (says : Saying) (site : SiteId) (R : Model → Model → Type 0) (joins : (m k n : Model) → R m k → R k n → R m n) where
  abbrev pub Goes : Sending → Type 0
  Goes sending = (k : Model) → Known publication says site k → Answered publication says (R k) (R k) site (asking (model publication says) site sending k)

  -- what is known, and how far it went
  abbrev pub Gone : Model → Model → Type 0
  Gone start k = Known publication says site k × R start k

  abbrev GoesOn : Model → Session Model → Type 0
  GoesOn start u = Settles publication says site (Gone start) u

  exchange-goes : (start : Model) (sending : Sending) → Goes sending → (u : Session Model) (counted next : Session Model → Session Model) → Gone start u.world → ((v : Session Model) → Gone start v.world → GoesOn start (next v))
      → GoesOn start (exchange (model publication says) site sending counted next u)
  exchange-goes start sending of_sending u counted next gone more = exchange-settles publication says site (R u.world) (R u.world) (Gone start) sending u counted next (of_sending u.world gone.0) gone.0
      (λ v g acts. more v (g, joins start u.world v.world gone.1 acts)) (λ n g rests. (g, joins start u.world n gone.1 rests))

  uploading-goes : Goes SendUpload → (start : Model) (count : ℕ) (u : Session Model) → Gone start u.world → GoesOn start (uploads_up_to (model publication says) site count u)
  uploading-goes of_upload start zero u gone = λ none. gone
  uploading-goes of_upload start (suc count) u gone = exchange-goes start SendUpload of_upload u (with_upload (model publication says) site) (uploads_up_to (model publication says) site count) gone (λ v more. uploading-goes of_upload start count v more)

  asking-goes : Goes SendRanges → (start : Model) (count : ℕ) (u : Session Model) → Gone start u.world → GoesOn start (range_requests_up_to (model publication says) site count u)
  asking-goes of_ranges start zero u gone = λ none. gone
  asking-goes of_ranges start (suc count) u gone = exchange-goes start SendRanges of_ranges u (as_it_is (model publication says) site)
      (λ (t : Session Model). if has_grant (model publication says) site (last_message (model publication says) site t.world) then range_requests_up_to (model publication says) site count t else t) gone
      (λ v more. if-settles publication says site (Gone start) (has_grant (model publication says) site (last_message (model publication says) site v.world)) (range_requests_up_to (model publication says) site count v) v (λ is. asking-goes of_ranges start count v more) (λ is none. more))

  after-goes : (start : Model) (next : Downloaded → Session Model → Session Model) (v : Session Model) → Gone start v.world → ((d : Downloaded) → GoesOn start (next d v)) → GoesOn start (after_download (model publication says) site next v)
  after-goes start next v gone more = elim (downloaded_in (model publication says) site (last_message (model publication says) site v.world)) as (λ (found : Option Downloaded). GoesOn start (let u : Session Model = elim found [ None ↦ v | Some d ↦ next d v ] in u)) [
    | None ↦ (λ none. gone)
    | Some d ↦ more d
  ]

  downloading-goes : Goes SendDownload → (start : Model) (count target : ℕ) (u : Session Model) → Gone start u.world → GoesOn start (downloads_up_to (model publication says) site count target u)
  downloading-goes of_download start zero target u gone = λ none. gone
  downloading-goes of_download start (suc count) target u gone =
      let next : Downloaded → Session Model → Session Model = λ (d : Downloaded) (t : Session Model). if nat_le target d.from then t else downloads_up_to (model publication says) site count target t in
      exchange-goes start SendDownload of_download u (with_answer (model publication says) site) (after_download (model publication says) site next) gone (λ v more. after-goes start next v more (λ d.
      if-settles publication says site (Gone start) (nat_le target d.from) v (downloads_up_to (model publication says) site count target v) (λ is none. more) (λ is. downloading-goes of_download start count target v more)))

  downloads-go : Goes SendDownload → (start : Model) (u : Session Model) → Gone start u.world → GoesOn start (all_downloads (model publication says) site u)
  downloads-go of_download start u gone =
      let next : Downloaded → Session Model → Session Model = λ (d : Downloaded) (t : Session Model). if nat_le d.last d.from then t else downloads_up_to (model publication says) site (d.last + 1 - d.from) d.last t in
      exchange-goes start SendDownload of_download u (with_answer (model publication says) site) (after_download (model publication says) site next) gone (λ v more. after-goes start next v more (λ d.
      if-settles publication says site (Gone start) (nat_le d.last d.from) v (downloads_up_to (model publication says) site (d.last + 1 - d.from) d.last v) (λ is none. more) (λ is. downloading-goes of_download start (d.last + 1 - d.from) d.last v more)))

  -- from the range requests on
  pub rest-goes : Goes SendRanges → Goes SendDownload → (start : Model) (sent : Session Model) → GoesOn start sent
      → GoesOn start (unless_stopped (model publication says) site (all_downloads (model publication says) site) (unless_stopped (model publication says) site (all_ranges (model publication says) site) sent))
  rest-goes of_ranges of_download start sent gone =
      let ranged : Session Model = unless_stopped (model publication says) site (all_ranges (model publication says) site) sent in
      stopped-goes publication says site (Gone start) (Gone start) (all_downloads (model publication says) site) ranged ranged.stop refl
      (stopped-goes publication says site (Gone start) (Gone start) (all_ranges (model publication says) site) sent sent.stop refl gone (λ v more. asking-goes of_ranges start (range_asks (model publication says) site v.world) v more))
      (λ v more. downloads-go of_download start v more)

  -- and from its begin
  pub session-goes : ((sending : Sending) → Goes sending) → (m : Model) → Gone m m → GoesOn m (session (model publication says) site m)
  session-goes of_each m gone =
      let started : Session Model = record { world = m; uploads = 0; downloads = 0; stop = None } in
      let as_is : Session Model → Session Model = as_it_is (model publication says) site in
      let joined : Session Model = join_if_due (model publication says) site started in
      rest-goes (of_each SendRanges) (of_each SendDownload) m (unless_stopped (model publication says) site (all_uploads (model publication says) site) joined)
      (stopped-goes publication says site (Gone m) (Gone m) (all_uploads (model publication says) site) joined joined.stop refl
      (if-settles publication says site (Gone m) (is_joined_in (model publication says) site m) started (exchange (model publication says) site SendJoin as_is as_is started) (λ is none. gone)
      (λ is. exchange-goes m SendJoin (of_each SendJoin) started as_is as_is gone (λ v more none. more)))
      (λ v more. uploading-goes (of_each SendUpload) m (unsent_generations (model publication says) site v.world) v more))
