-- A message that comes to the publisher keeps what the numbers say.
use Rattle.std.specs.Prelude.{◌≡◌, ◌≤◌, ◌<◌, ◌==◌, ◌+◌, ◌-◌, ◌++◌, ◌&&◌, max, ℕ, List, [], ◌∷◌, Bool, true, false, not, Option, Some, None, Result, Ok, Err, refl, if◌then◌else◌, IfOk, is_some, map, filter}
use Rattle.std.specs.List.{fold, list_any, range_with_len}
use Rattle.std.proofs.Common.{arith, subst, sym, ap, ◌∙◌}
use Rattle.std.proofs.lemmas.Bool.Decides.{nat_tests}
use Rattle.merge_types.specs.declared.identifiers.SiteId.{SiteId}
use Rattle.merge_units.specs.declared.result.Decision.{Decision}
use Rattle.merge_batch.specs.declared.refusal.Refusal.{Refusal}
use Rattle.merge_batch.specs.declared.request.Join.{Join}
use Rattle.merge_batch.specs.declared.request.Upload.{Upload}
use Rattle.merge_batch.specs.declared.request.Request.{Request}
use Rattle.merge_batch.specs.declared.request.Request.TheVariants as request
use Rattle.merge_batch.specs.declared.reply.Reply.{Reply}
use Rattle.merge_batch.specs.declared.reply.Reply.TheVariants as reply
use Rattle.merge_batch.specs.declared.reply.Joined.{Joined}
use Rattle.merge_batch.specs.declared.reply.Uploaded.{Uploaded}
use Rattle.merge_batch.specs.declared.reply.Ranged.{Ranged}
use Rattle.merge_batch.specs.declared.reply.Downloaded.{Downloaded}
use Rattle.merge_schema.specs.declared.publication.Publication.{Publication}
use Rattle.merge_resolve.specs.Asked.{tallies_after}
use Rattle.merge_types.specs.declared.row_key.RowKey.{RowKey as Key}
use Rattle.merge_model.specs.Tables.{PublisherTables, SubscriberTables}
use Rattle.merge_model.specs.Tables.Keys.{at_number, put_number}
use Rattle.merge_model.specs.Tables.Refusals.{unless}
use Rattle.merge_model.specs.Judge.{PublisherJudge}
use Rattle.merge_model.specs.Publisher.Acts.{Act, acts_of}
use Rattle.merge_model.specs.Publisher.Entries.{Entries}
use Rattle.merge_model.specs.Judge.ByNumbers.{received_by_number}
use Rattle.merge_model.specs.Judge.ByHistory.{by_past}
use Rattle.merge_model.specs.Publisher.{at_moment, last_closed, tables_after_close}
use Rattle.merge_model.specs.Publisher.PublisherJoin.{join, join_refusal, join_acts, join_taken, tables_after_join}
use Rattle.merge_model.specs.Publisher.PublisherUpload.{upload_refusal, tables_after_upload, taken_in, brings_news}
use Rattle.merge_model.specs.Publisher.PublisherRanges.{ranges, plans, with_grants}
use Rattle.merge_model.specs.Publisher.PublisherDownload.{download}
use Rattle.merge_model.specs.World.{World, Saying, with_publisher}
use Rattle.merge_model.specs.declared.letter.Message.TheVariants.{Asks, Replies}
use Rattle.merge_model.specs.World.Steps.{post, post_reply, after_upload, kept_decisions, upload_questions, deliver_request}
use Rattle.merge_model.specs.declared.outcome.Outcome.{Outcome}
use Rattle.merge_model.specs.History.{History, Past, Line}
use Rattle.merge_model.specs.History.Noting
use Rattle.merge_model.specs.History.Model.{noted_if, noted_request, did_something}
use Rattle.merge_model.specs.World.Steps.{deliver_upload}
use Rattle.merge_resolve.specs.Questions.{question_of as asked_of}
use Rattle.merge_model.proofs.Publishers.{ranges-ok, download-ok}
use Rattle.merge_model.proofs.Publishers.DoneOnce.{lines-done, acts-done}
use Rattle.merge_laws.proofs.Runs.Tallied.{received-tallied}
use Rattle.merge_laws.specs.Facts.Received.{joined_at, JoinFits, UploadFits, MessageFits, LetterFits, Received}
use Rattle.merge_laws.proofs.Received.Arrivals.{has_closed, join-fits, tells_all, upload-fits, upload-known}
use Rattle.merge_laws.proofs.Received.MessageFacts.{acts-later, join-site, upload-site}
use Rattle.merge_laws.proofs.Received.Publishing.{SameNumbers}
use Rattle.merge_laws.proofs.Received.Publishing.{same-sites, asked-same, joined-joined}
use Rattle.merge_laws.proofs.Received.Worlds.{history-same, posted-fits, publisher-same, received-is, no-gap}

-- a step keeps it, with what it notes where it did something
abbrev pub Keeps : World × Outcome → History → History → Type 0
Keeps done after before = Received done.0 (noted_if (did_something done.1) after before)

-- the same generations join where the same have acted
with_done-same : (site from to : ℕ) (k h : History) → k.done ≡ h.done → (Noting.with_done site from to k).done ≡ (Noting.with_done site from to h).done
with_done-same site from to k h e = ap (λ (done : List (ℕ × ℕ)). done ++ map (λ (generation : ℕ). (site, generation)) (filter (λ (generation : ℕ). not (list_any (λ (entry : ℕ × ℕ). (entry.0 == site) && (entry.1 == generation)) done)) (range_with_len (from + 1) (to - from)))) e

module _ (w : World) (h : History) (r : Received w h) where
  -- an answer to a message that moves none of the numbers
  answered-fine : {A : Type 0} (site : SiteId) (message : A → Reply) → ((q : PublisherTables) (a : A) → LetterFits w.subscribers q (record { site = site; message = Replies (message a) }))
      → (done : Result (PublisherTables × A) Refusal) → IfOk done (λ a. SameNumbers w.publisher a.0) → Keeps (post_reply site message w done) h h
  answered-fine site message fits (Err refusal) ok = r
  answered-fine site message fits (Ok a) ok = posted-fits (with_publisher a.0 w) h (record { site = site; message = Replies (message a.1) }) (fits a.0 a.1) (publisher-same w h a.0 ok r)

  -- Joins.

  join-tells : (m : Join) (joined : ℕ) (site : SiteId) (found : Option SubscriberTables) → JoinFits joined site m found → joined < m.seq → tells_all m found
  join-tells m joined site None fits later = fits
  join-tells m joined site (Some s) fits later = (fits.2 later).1

  acts-not : (m : Join) (p : PublisherTables) → join_acts m p ≡ false → m.seq ≤ joined_at p m.site
  acts-not m p none = grind (arith, nat_tests, none)

  abbrev here : PublisherTables
  here = at_moment w.moment w.publisher

  moved : Received (with_publisher here w) h
  moved = publisher-same w h here (same-sites w.publisher here refl) r

  join-made : (judge : PublisherJudge) (m : Join) (b : Bool) → join_acts m w.publisher ≡ b → JoinFits (joined_at w.publisher m.site) m.site m (at_number w.subscribers m.site.0)
      → (let q : PublisherTables = if b then join_taken m here else here in
      let k : History = if b then Noting.with_lines (map (Noting.gone_line (last_closed w.publisher + 1)) (map (Noting.gone_for m.site) (Noting.left_rows judge m.site)))
      (record (Noting.with_done m.site.0 0 m.generation h) { bases = put_number h.bases m.site.0 (last_closed w.publisher) }) else h in
      Received (post m.site (Replies (reply.Joined (record { seq = m.seq }))) (with_publisher q w)).0 k)
  join-made judge m true acts fits =
      let lines : List Line = map (Noting.gone_line (last_closed w.publisher + 1)) (map (Noting.gone_for m.site) (Noting.left_rows judge m.site)) in
      let done : History = Noting.with_done m.site.0 0 m.generation h in
      let based : History = record done { bases = put_number h.bases m.site.0 (last_closed w.publisher) } in
      let q : PublisherTables = join_taken m here in
      let same : joined_at q m.site ≡ m.seq = joined-joined m here m.site true refl in
      history-same (record (with_publisher q w) { pool = w.pool ++ record { site = m.site; message = Replies (reply.Joined (record { seq = m.seq })) } ∷ [] }) done (Noting.with_lines lines based) (lines-done lines based)
      (posted-fits (with_publisher q w) done (record { site = m.site; message = Replies (reply.Joined (record { seq = m.seq })) }) (omega (arith, same))
      (join-fits m (with_publisher here w) h acts (join-tells m (joined_at w.publisher m.site) m.site (at_number w.subscribers m.site.0) fits (acts-later m w.publisher acts)) moved))
  join-made judge m false none fits = posted-fits (with_publisher here w) h (record { site = m.site; message = Replies (reply.Joined (record { seq = m.seq })) }) (acts-not m w.publisher none) moved

  join-answered : (judge : PublisherJudge) (m : Join) (refusal : Option Refusal) → JoinFits (joined_at w.publisher m.site) m.site m (at_number w.subscribers m.site.0)
      → (let done : Result (PublisherTables × Joined) Refusal = unless refusal (tables_after_join m here, record { seq = m.seq }) in Keeps (post_reply m.site (λ (made : Joined). reply.Joined made) w done) (Noting.noted_join judge m w.publisher h) h)
  join-answered judge m (Some why) fits = r
  join-answered judge m None fits = join-made judge m (join_acts m w.publisher) refl fits

  join-fine : (publication : Publication) (judge : PublisherJudge) (m : Join) (site : SiteId) → JoinFits (joined_at w.publisher site) site m (at_number w.subscribers site.0)
      → Keeps (post_reply site (λ (made : Joined). reply.Joined made) w (join publication w.moment m w.publisher)) (Noting.noted_join judge m w.publisher h) h
  join-fine publication judge m site fits =
      let same : m.site ≡ site = join-site m (joined_at w.publisher site) site (at_number w.subscribers site.0) fits in
      subst (λ (x : SiteId). Keeps (post_reply x (λ (made : Joined). reply.Joined made) w (join publication w.moment m w.publisher)) (Noting.noted_join judge m w.publisher h) h) same
      (join-answered judge m (join_refusal publication m w.publisher) (subst (λ (x : SiteId). JoinFits (joined_at w.publisher x) x m (at_number w.subscribers x.0)) (sym same) fits))

  -- Uploads.

  upload-closed : (m : Upload) (site : SiteId) (found : Option SubscriberTables) → UploadFits site m found → has_closed m found
  upload-closed m site None fits = fits
  upload-closed m site (Some s) fits = fits.1

  pub news-above : (incoming : List (Key × Past)) (m : Upload) → brings_news (by_past h incoming) m ≡ true → received_by_number w.publisher m.site.0 < m.to
  news-above incoming m news = grind (arith, nat_tests, received-is h w.publisher m.site.0 r.done, news)

  upload-taken : (publication : Publication) (incoming : List (Key × Past)) (m : Upload) (acts : List Act) (tallies : List ℕ) (told : Uploaded) (b : Bool) → brings_news (by_past h incoming) m ≡ b
      → is_some (at_number w.publisher.sites m.site.0) ≡ true → m.from ≤ received_by_number w.publisher m.site.0 → has_closed m (at_number w.subscribers m.site.0)
      → (let judge : PublisherJudge = by_past h incoming in
      let q : PublisherTables = if b then taken_in publication judge m acts here else here in
      let k : History = if b then Noting.with_acts_noted publication judge m acts incoming here h else h in
      Received (post m.site (Replies (reply.Uploaded told)) (record w { publisher = q; tallies = tallies })).0 k)
  upload-taken publication incoming m acts tallies told true news known begins closed =
      let judge : PublisherJudge = by_past h incoming in
      let q : PublisherTables = taken_in publication judge m acts here in
      let entries : Entries = Noting.acts_entries publication judge m acts here in
      let lines : List Line = Noting.lines_of_entries (last_closed here + 1) entries in
      let acted : History = fold (Noting.with_act incoming entries) h acts in
      let noted : History = Noting.with_lines lines acted in
      let same : noted.done ≡ h.done = lines-done lines acted ∙ acts-done incoming entries acts h in
      let done : History = Noting.with_done m.site.0 m.from m.to h in
      let v : World = record w { publisher = q; tallies = tallies } in
      history-same (record v { pool = w.pool ++ record { site = m.site; message = Replies (reply.Uploaded told) } ∷ [] }) done (Noting.with_done m.site.0 m.from m.to noted) (with_done-same m.site.0 m.from m.to noted h same)
      (posted-fits v done (record { site = m.site; message = Replies (reply.Uploaded told) }) tt
      (received-tallied (with_publisher q w) tallies done (upload-fits m acts (with_publisher here w) q h refl known begins (news-above incoming m news) closed moved)))
  upload-taken publication incoming m acts tallies told false none known begins closed =
      let v : World = record w { publisher = here; tallies = tallies } in
      posted-fits v h (record { site = m.site; message = Replies (reply.Uploaded told) }) tt (received-tallied (with_publisher here w) tallies h moved)

  upload-answered : (publication : Publication) (says : Saying) (incoming : List (Key × Past)) (m : Upload) (decisions : List Decision) (told : Uploaded) (refusal : Option Refusal) → upload_refusal publication (by_past h incoming) w.moment m w.publisher ≡ refusal
      → has_closed m (at_number w.subscribers m.site.0)
      → (let judge : PublisherJudge = by_past h incoming in
      Keeps (after_upload publication says judge m.site m w (unless refusal (tables_after_upload publication judge m decisions here, told))) (Noting.noted_upload publication judge m decisions incoming here h) h)
  upload-answered publication says incoming m decisions told (Some why) is closed = r
  upload-answered publication says incoming m decisions told None is closed =
      let judge : PublisherJudge = by_past h incoming in
      let facts = upload-known publication judge w.moment m w.publisher is in
      upload-taken publication incoming m (acts_of judge m decisions here) (tallies_after w.tallies (map asked_of (upload_questions publication judge w.moment m w.publisher))) told (brings_news judge m) refl
      facts.0 (no-gap h w.publisher m.site.0 m.from r.done facts.1) closed

  upload-fine : (publication : Publication) (says : Saying) (incoming : List (Key × Past)) (m : Upload) (site : SiteId) → UploadFits site m (at_number w.subscribers site.0)
      → (let judge : PublisherJudge = by_past h incoming in
      Keeps (deliver_upload publication says judge site m w) (noted_request publication says judge incoming w (request.Upload m) h) h)
  upload-fine publication says incoming m site fits =
      let judge : PublisherJudge = by_past h incoming in
      let same : m.site ≡ site = upload-site m site (at_number w.subscribers site.0) fits in
      subst (λ (x : SiteId). Keeps (deliver_upload publication says judge x m w) (noted_request publication says judge incoming w (request.Upload m) h) h) same
      (upload-answered publication says incoming m (kept_decisions says w.tallies (upload_questions publication judge w.moment m w.publisher)) (record { seq = m.seq; received = max m.to (judge.received m.site.0) })
      (upload_refusal publication judge w.moment m w.publisher) refl
      (subst (λ (x : SiteId). has_closed m (at_number w.subscribers x.0)) (sym same) (upload-closed m site (at_number w.subscribers site.0) fits)))

  -- Every message.

  pub request-fine : (publication : Publication) (says : Saying) (incoming : List (Key × Past)) (site : SiteId) (m : Request) → MessageFits (joined_at w.publisher site) site (at_number w.subscribers site.0) (Asks m)
      → Keeps (deliver_request publication says (by_past h incoming) site m w) (noted_request publication says (by_past h incoming) incoming w m h) h
  request-fine publication says incoming site (request.Join m) fits = join-fine publication (by_past h incoming) m site fits
  request-fine publication says incoming site (request.Upload m) fits = upload-fine publication says incoming m site fits
  request-fine publication says incoming site (request.Ranges m) fits =
      let judge : PublisherJudge = by_past h incoming in
      answered-fine site (λ (made : Ranged). reply.Ranged made) (λ q a. tt) (ranges publication judge w.moment m w.publisher)
      (ranges-ok (λ (q : PublisherTables). SameNumbers w.publisher q) publication judge w.moment m w.publisher (same-sites w.publisher (with_grants (plans publication m w.publisher) here) refl))
  request-fine publication says incoming site (request.Download m) fits =
      let judge : PublisherJudge = by_past h incoming in
      answered-fine site (λ (made : Downloaded). reply.Downloaded made) (λ q a. tt) (download publication judge w.moment m w.publisher)
      (download-ok (λ (q : PublisherTables). SameNumbers w.publisher q) publication judge w.moment m w.publisher (record { received = λ n. (asked-same m here).received n; number = λ n. (asked-same m here).number n; joined = λ x. (asked-same m here).joined x }))
