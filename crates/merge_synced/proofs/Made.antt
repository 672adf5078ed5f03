-- What a site made that made a message, what the publisher made that answered it, and what the site took.
use Rattle.std.specs.Option.{option_or}
use Rattle.std.specs.Prelude.{Bool, Err, List, None, Ok, Option, Result, Some, [], false, filter, filter_map, if◌then◌else◌, map, max, nat_le, nat_lt, option_map, refl, true, ℕ, ◌&&◌, ◌+◌, ◌<◌, ◌==◌, ◌≡◌, ◌≤◌, ◌∷◌}
use Rattle.std.specs.List.{cons_option, last_or}
use Rattle.std.proofs.Common.{ap, arith, subst, sym, ◌∙◌}
use Rattle.std.proofs.lemmas.Bool.Decides.{nat_tests}
use Rattle.merge_types.specs.declared.identifiers.Moment.{Moment}
use Rattle.merge_types.specs.declared.row_key.RowKey.{RowKey as Key}
use Rattle.merge_gens.specs.Filling.{filling_after_close as closed_filling}
use Rattle.merge_gens.specs.declared.filling.Filling.{Filling}
use Rattle.merge_ident.specs.Holders.{Holder}
use Rattle.merge_units.specs.declared.result.Decision.{Decision}
use Rattle.merge_units.specs.declared.site_row.SubscriberRow.{SubscriberRow}
use Rattle.merge_schema.specs.declared.publication.Publication.{Publication}
use Rattle.merge_batch.specs.Heads.{answered_kind, kind_of, seq_of as number_of}
use Rattle.merge_batch.specs.Replies.{broken_by_reply}
use Rattle.merge_batch.specs.Search.{broken_by_items, broken_by_message}
use Rattle.merge_batch.specs.Uploads.{broken_by_upload, has_generations, item_rules}
use Rattle.merge_batch.specs.declared.refusal.Refusal.{Refusal}
use Rattle.merge_batch.specs.declared.refusal.Refusal.TheVariants.{Gap}
use Rattle.merge_batch.specs.declared.reply.Downloaded.{Downloaded}
use Rattle.merge_batch.specs.declared.reply.Joined.{Joined}
use Rattle.merge_batch.specs.declared.reply.Reply.{Reply}
use Rattle.merge_batch.specs.declared.reply.Reply.TheVariants as reply
use Rattle.merge_batch.specs.declared.reply.Uploaded.{Uploaded}
use Rattle.merge_batch.specs.declared.request.Download.{Download}
use Rattle.merge_batch.specs.declared.request.Join.{Join}
use Rattle.merge_batch.specs.declared.request.Outstanding.{Outstanding}
use Rattle.merge_batch.specs.declared.request.Outstanding.TheVariants as ask
use Rattle.merge_batch.specs.declared.request.RangeAsk.{RangeAsk}
use Rattle.merge_batch.specs.declared.request.Request.{Request}
use Rattle.merge_batch.specs.declared.request.Request.TheVariants as request
use Rattle.merge_batch.specs.declared.request.Upload.{Upload}
use Rattle.merge_batch.specs.declared.rules.BrokenRule.{BrokenRule}
use Rattle.merge_model.specs.Judge.ByNumbers.{by_numbers, by_rows, changed_row_between}
use Rattle.merge_model.specs.Judge.{PublisherJudge, SubscriberJudge}
use Rattle.merge_model.specs.Publisher.PublisherDownload.{download_refusal, reply_to, tables_after_download}
use Rattle.merge_model.specs.Publisher.PublisherJoin.{join, join_refusal, tables_after_join}
use Rattle.merge_model.specs.Publisher.PublisherRanges.{plans, ranges_refusal, reply_to_ranges, with_grants}
use Rattle.merge_model.specs.Publisher.PublisherUpload.{tables_after_upload, upload_refusal}
use Rattle.merge_model.specs.Publisher.{at_moment, site_refusal}
use Rattle.merge_model.specs.Subscriber.Sending.{join_made, join_of, make_ask, make_join, make_ranges, make_upload, ranges_made, sending_refusal, unsent_rows, upload_made, upload_sent, want_of, with_message}
use Rattle.merge_model.specs.Subscriber.Taking.{met_by, seq_of, tables_after_reply, take_reply}
use Rattle.merge_model.specs.Subscriber.{subscriber_at_moment, subscriber_closed, subscriber_counters, subscriber_last_closed}
use Rattle.merge_model.specs.Tables.Refusals.{counter_end, refused_if, unless}
use Rattle.merge_model.specs.Tables.{PublisherTables, SubscriberTables}
use Rattle.merge_model.specs.World.Calls.{as_reply, result_of_request}
use Rattle.merge_model.specs.World.Faults.{fault_of, known_by, reply_fault, upload_fault}
use Rattle.merge_model.specs.World.Steps.{SendDownload, SendJoin, SendRanges, SendUpload, Sending, kept_decisions, upload_questions}
use Rattle.merge_model.specs.World.{Saying}
use Rattle.merge_model.specs.declared.outcome.Taken.{Taken}
use Rattle.merge_model.specs.declared.outcome.Taken.TheVariants.{Acted, Missed}
use Rattle.merge_model.proofs.Runs.Refusals.{first-none}
use Rattle.merge_world.specs.Messages.{as_request, request_of_sending, some_if_made}
use Rattle.merge_laws.proofs.Sessions.SessionExchanges.{upload-goes}

-- Of any call: what is made where it is not refused.

unless-made : {A : Type 0} (fault : Option Refusal) (a b : A) → unless fault a ≡ Ok b → (fault ≡ None) × (a ≡ b)
unless-made (Some why) a b e = absurd cc
unless-made None a b e = (refl, cc)

request-made : {A : Type 0} (message : A → Request) (made : Result (Option (SubscriberTables × A)) Refusal) (sent : SubscriberTables) (q : Request) → as_request message made ≡ Ok (Some (sent, q))
    → (m : A) × (made ≡ Ok (Some (sent, m))) × (message m ≡ q)
request-made message (Ok (Some made)) sent q e =
    let pair : (let both : SubscriberTables × Request = (made.0, message made.1) in both) ≡ (sent, q) = cc in
    let same : made.0 ≡ sent = ap (λ (both : SubscriberTables × Request). both.0) pair in
    (made.1, ap (λ (x : SubscriberTables). Ok (Some (x, made.1))) same, ap (λ (both : SubscriberTables × Request). both.1) pair)
request-made message (Ok None) sent q e = absurd cc
request-made message (Err why) sent q e = absurd cc

ask-made : (made : Result (SubscriberTables × Download) Refusal) (sent : SubscriberTables) (m : Download) → some_if_made made ≡ Ok (Some (sent, m)) → made ≡ Ok (sent, m)
ask-made (Ok made) sent m e = (let pair : made ≡ (sent, m) = cc in ap (λ (both : SubscriberTables × Download). Ok both) pair)
ask-made (Err why) sent m e = absurd cc

-- What each message is.

pub record JoinMade (s sent : SubscriberTables) (q : Request) : Type 0 where
  pub tables : with_message ask.Join s ≡ sent
  pub asks : request.Join (join_of s) ≡ q

pub record UploadMade (now : Moment) (s sent : SubscriberTables) (q : Request) : Type 0 where
  pub batch : Upload
  pub some : unsent_rows (by_rows s) s ≡ [] → ⊥
  pub made : upload_sent (by_rows s) (subscriber_closed (subscriber_at_moment now s)) ≡ (sent, batch)
  pub asks : request.Upload batch ≡ q

pub record RangesMade (s sent : SubscriberTables) (q : Request) : Type 0 where
  pub tables : with_message ask.Ranges s ≡ sent
  pub asks : request.Ranges (record { site = s.site; seq = s.seq + 1; wants = map want_of s.held }) ≡ q

pub record AskMade (s sent : SubscriberTables) (q : Request) : Type 0 where
  pub tables : with_message (ask.Download s.watermark) s ≡ sent
  pub asks : request.Download (record { site = s.site; seq = s.seq + 1; from = s.watermark }) ≡ q

joined-or : (b : Bool) (a c : SubscriberTables × Join) → (let made : Option (SubscriberTables × Join) = if b then None else Some a in made) ≡ Some c → a ≡ c
joined-or true a c e = absurd cc
joined-or false a c e = cc

pub join-made : (now : Moment) (s sent : SubscriberTables) (q : Request) → request_of_sending SendJoin now s ≡ Ok (Some (sent, q)) → JoinMade s sent q
join-made now s sent q e =
    let m = request-made request.Join (make_join s) sent q e in
    let pair : (let both : SubscriberTables × Join = (with_message ask.Join s, join_of s) in both) ≡ (sent, m.0) = joined-or s.is_joined (with_message ask.Join s, join_of s) (sent, m.0) (unless-made (counter_end (subscriber_counters s)) (join_made s) (Some (sent, m.0)) m.1).1 in
    record { tables = ap (λ (both : SubscriberTables × Join). both.0) pair; asks = ap (λ (both : SubscriberTables × Join). request.Join both.1) pair ∙ m.2 }

uploaded-or : (rows : List (Key × ℕ)) (a c : SubscriberTables × Upload) → (let made : Option (SubscriberTables × Upload) = elim rows [ [] ↦ None | row ∷ rest ↦ Some a ] in made) ≡ Some c → (rows ≡ [] → ⊥) × (a ≡ c)
uploaded-or [] a c e = absurd cc
uploaded-or (row ∷ rest) a c e = (λ none. absurd cc, cc)

pub upload-made : (now : Moment) (s sent : SubscriberTables) (q : Request) → request_of_sending SendUpload now s ≡ Ok (Some (sent, q)) → UploadMade now s sent q
upload-made now s sent q e =
    let m = request-made request.Upload (make_upload (by_rows s) now s) sent q e in
    let made = uploaded-or (unsent_rows (by_rows s) s) (upload_sent (by_rows s) (subscriber_closed (subscriber_at_moment now s))) (sent, m.0) (unless-made (sending_refusal s) (upload_made (by_rows s) now s) (Some (sent, m.0)) m.1).1 in
    record { batch = m.0; some = made.0; made = made.1; asks = m.2 }

ranged-or : (held : List (ℕ × Holder)) (a c : SubscriberTables × RangeAsk) → (let made : Option (SubscriberTables × RangeAsk) = elim held [ [] ↦ None | entry ∷ entries ↦ Some a ] in made) ≡ Some c → a ≡ c
ranged-or [] a c e = absurd cc
ranged-or (entry ∷ entries) a c e = cc

pub ranges-made : (now : Moment) (s sent : SubscriberTables) (q : Request) → request_of_sending SendRanges now s ≡ Ok (Some (sent, q)) → RangesMade s sent q
ranges-made now s sent q e =
    let a : RangeAsk = record { site = s.site; seq = s.seq + 1; wants = map want_of s.held } in
    let m = request-made request.Ranges (make_ranges s) sent q e in
    let pair : (let both : SubscriberTables × RangeAsk = (with_message ask.Ranges s, a) in both) ≡ (sent, m.0) = ranged-or s.held (with_message ask.Ranges s, a) (sent, m.0) (unless-made (sending_refusal s) (ranges_made s) (Some (sent, m.0)) m.1).1 in
    record { tables = ap (λ (both : SubscriberTables × RangeAsk). both.0) pair; asks = ap (λ (both : SubscriberTables × RangeAsk). request.Ranges both.1) pair ∙ m.2 }

pub download-made : (now : Moment) (s sent : SubscriberTables) (q : Request) → request_of_sending SendDownload now s ≡ Ok (Some (sent, q)) → AskMade s sent q
download-made now s sent q e =
    let a : Download = record { site = s.site; seq = s.seq + 1; from = s.watermark } in
    let m = request-made request.Download (some_if_made (make_ask s)) sent q e in
    let pair : (let both : SubscriberTables × Download = (with_message (ask.Download s.watermark) s, a) in both) ≡ (sent, m.0) = (unless-made {A = SubscriberTables × Download} (sending_refusal s) (with_message (ask.Download s.watermark) s, a) (sent, m.0) (ask-made (make_ask s) sent m.0 m.1)).1 in
    record { tables = ap (λ (both : SubscriberTables × Download). both.0) pair; asks = ap (λ (both : SubscriberTables × Download). request.Download both.1) pair ∙ m.2 }

-- What refuses an upload refuses a request for ranges too.

unless-refused : {A : Type 0} (fault : Option Refusal) (a : A) (why : Refusal) → unless fault a ≡ Err why → fault ≡ Some why
unless-refused None a why e = absurd cc
unless-refused (Some other) a why e = (let same : other ≡ why = cc in ap (λ (x : Refusal). Some x) same)

request-refused : {A : Type 0} (message : A → Request) (made : Result (Option (SubscriberTables × A)) Refusal) (why : Refusal) → as_request message made ≡ Err why → made ≡ Err why
request-refused message (Ok made) why e = absurd cc
request-refused message (Err other) why e = (let same : other ≡ why = cc in ap (λ (x : Refusal). Err x) same)

pub ranges-refused : (now : Moment) (s : SubscriberTables) (why : Refusal) → request_of_sending SendUpload now s ≡ Err why → request_of_sending SendRanges now s ≡ Err why
ranges-refused now s why e =
    let refused : sending_refusal s ≡ Some why = unless-refused (sending_refusal s) (upload_made (by_rows s) now s) why (request-refused request.Upload (make_upload (by_rows s) now s) why e) in
    ap (λ (fault : Option Refusal). as_request request.Ranges (unless fault (ranges_made s))) refused

-- a site stays the one that it is
upload-sites : (now : Moment) (s sent : SubscriberTables) (u : Upload) → upload_sent (by_rows s) (subscriber_closed (subscriber_at_moment now s)) ≡ (sent, u) → sent.site ≡ s.site
upload-sites now s sent u e = sym (ap (λ (both : SubscriberTables × Upload). both.0.site) e)

pub sent-site : (sending : Sending) (now : Moment) (s sent : SubscriberTables) (q : Request) → request_of_sending sending now s ≡ Ok (Some (sent, q)) → sent.site ≡ s.site
sent-site SendJoin now s sent q e = sym (ap (λ (t : SubscriberTables). t.site) (join-made now s sent q e).tables)
sent-site SendUpload now s sent q e = (let made = upload-made now s sent q e in upload-sites now s sent made.batch made.made)
sent-site SendRanges now s sent q e = sym (ap (λ (t : SubscriberTables). t.site) (ranges-made now s sent q e).tables)
sent-site SendDownload now s sent q e = sym (ap (λ (t : SubscriberTables). t.site) (download-made now s sent q e).tables)

-- the message that it made is outstanding, under the number of the request

pub record Outstands (sent : SubscriberTables) (q : Request) : Type 0 where
  pub message : Outstanding
  pub here : sent.outstanding ≡ Some (number_of q, message)

outstands-by : (sent : SubscriberTables) (a q : Request) (message : Outstanding) → sent.outstanding ≡ Some (number_of a, message) → a ≡ q → Outstands sent q
outstands-by sent a q message here same = record { message = message; here = here ∙ ap (λ (x : Request). (let o : Option (ℕ × Outstanding) = Some (number_of x, message) in o)) same }

pub outstands : (sending : Sending) (now : Moment) (s sent : SubscriberTables) (q : Request) → request_of_sending sending now s ≡ Ok (Some (sent, q)) → Outstands sent q
outstands SendJoin now s sent q e = (let m = join-made now s sent q e in outstands-by sent (request.Join (join_of s)) q ask.Join (sym (ap (λ (t : SubscriberTables). t.outstanding) m.tables)) m.asks)
outstands SendUpload now s sent q e =
    let m = upload-made now s sent q e in
    let made : SubscriberTables × Upload = upload_sent (by_rows s) (subscriber_closed (subscriber_at_moment now s)) in
    outstands-by sent (request.Upload made.1) q (ask.Upload made.1.from made.1.to) (sym (ap (λ (both : SubscriberTables × Upload). both.0.outstanding) m.made)) (ap (λ (both : SubscriberTables × Upload). request.Upload both.1) m.made ∙ m.asks)
outstands SendRanges now s sent q e =
    (let m = ranges-made now s sent q e in outstands-by sent (request.Ranges (record { site = s.site; seq = s.seq + 1; wants = map want_of s.held })) q ask.Ranges (sym (ap (λ (t : SubscriberTables). t.outstanding) m.tables)) m.asks)
outstands SendDownload now s sent q e =
    (let m = download-made now s sent q e in outstands-by sent (request.Download (record { site = s.site; seq = s.seq + 1; from = s.watermark })) q (ask.Download s.watermark) (sym (ap (λ (t : SubscriberTables). t.outstanding) m.tables)) m.asks)

-- What the publisher answers.

reply-made : {A : Type 0} (message : A → Reply) (fault : Option Refusal) (a : PublisherTables × A) (p : PublisherTables) (r : Reply) → as_reply message (unless fault a) ≡ Ok (p, r) → (fault ≡ None) × (a.0 ≡ p) × (message a.1 ≡ r)
reply-made message (Some why) a p r e = absurd cc
reply-made message None a p r e =
    let pair : (let both : PublisherTables × Reply = (a.0, message a.1) in both) ≡ (p, r) = cc in
    (refl, ap (λ (both : PublisherTables × Reply). both.0) pair, ap (λ (both : PublisherTables × Reply). both.1) pair)

pub record UploadAnswered (u : Upload) (r : Reply) : Type 0 where
  pub told : Uploaded
  pub number : u.seq ≡ told.seq
  pub goes : u.from < u.to
  pub received : u.to ≤ told.received
  pub replied : reply.Uploaded told ≡ r

pub record RangesAnswered (publication : Publication) (now : Moment) (a : RangeAsk) (p : PublisherTables) (after : PublisherTables) (r : Reply) : Type 0 where
  pub fine : ranges_refusal publication (by_numbers p) now a p ≡ None
  pub tables : with_grants (plans publication a p) (at_moment now p) ≡ after
  pub replied : reply.Ranged (reply_to_ranges a (plans publication a p)) ≡ r

pub record AskAnswered (publication : Publication) (now : Moment) (a : Download) (p after : PublisherTables) (r : Reply) : Type 0 where
  pub tables : tables_after_download a (at_moment now p) ≡ after
  pub replied : reply.Downloaded (reply_to publication (by_numbers p) a (tables_after_download a (at_moment now p))) ≡ r

most-left : (a b : ℕ) → a ≤ max a b
most-left a b = grind (arith, nat_tests)

module _ (publication : Publication) (says : Saying) (tallies : List ℕ) (now : Moment) (p after : PublisherTables) (r : Reply) where
  pub upload-answered : (u : Upload) → result_of_request publication says tallies now (request.Upload u) p ≡ Ok (after, r) → UploadAnswered u r
  upload-answered u e =
      let judge : PublisherJudge = by_numbers p in
      let decisions : List Decision = kept_decisions says tallies (upload_questions publication judge now u p) in
      let told : Uploaded = record { seq = u.seq; received = max u.to (judge.received u.site.0) } in
      let made = reply-made reply.Uploaded (upload_refusal publication judge now u p) (tables_after_upload publication judge u decisions (at_moment now p), told) after r e in
      record { told = told; number = refl; goes = upload-goes publication judge now u p made.0; received = most-left u.to (judge.received u.site.0); replied = made.2 }

  pub ranges-answered : (a : RangeAsk) → result_of_request publication says tallies now (request.Ranges a) p ≡ Ok (after, r) → RangesAnswered publication now a p after r
  ranges-answered a e =
      let made = reply-made reply.Ranged (ranges_refusal publication (by_numbers p) now a p) (with_grants (plans publication a p) (at_moment now p), reply_to_ranges a (plans publication a p)) after r e in
      record { fine = made.0; tables = made.1; replied = made.2 }

  pub download-answered : (a : Download) → result_of_request publication says tallies now (request.Download a) p ≡ Ok (after, r) → AskAnswered publication now a p after r
  download-answered a e =
      let q : PublisherTables = tables_after_download a (at_moment now p) in
      let made = reply-made reply.Downloaded (download_refusal publication now a p) (q, reply_to publication (by_numbers p) a q) after r e in
      record { tables = made.1; replied = made.2 }

  join-kind : (m : Join) (done : Result (PublisherTables × Joined) Refusal) → as_reply reply.Joined done ≡ Ok (after, r) → (told : Joined) × (reply.Joined told ≡ r)
  join-kind m (Ok done) e = (done.1, (let pair : (let both : PublisherTables × Reply = (done.0, reply.Joined done.1) in both) ≡ (after, r) = cc in ap (λ (both : PublisherTables × Reply). both.1) pair))
  join-kind m (Err why) e = absurd cc

  pub join-answered : (m : Join) → result_of_request publication says tallies now (request.Join m) p ≡ Ok (after, r) → (told : Joined) × (reply.Joined told ≡ r)
  join-answered m e = join-kind m (join publication now m p) e

  -- a reply answers what was asked
  pub answers-kind : (q : Request) → result_of_request publication says tallies now q p ≡ Ok (after, r) → kind_of q ≡ answered_kind r
  answers-kind (request.Join m) e = ap answered_kind (join-answered m e).1
  answers-kind (request.Upload u) e = ap answered_kind (upload-answered u e).replied
  answers-kind (request.Ranges a) e = ap answered_kind (ranges-answered a e).replied
  answers-kind (request.Download a) e = ap answered_kind (download-answered a e).replied

  join-number : (m : Join) (fault : Option Refusal) (made : PublisherTables) → as_reply reply.Joined (unless fault (made, record { seq = m.seq })) ≡ Ok (after, r) → m.seq ≡ seq_of r
  join-number m fault made e = ap seq_of (reply-made reply.Joined fault (made, record { seq = m.seq }) after r e).2

  -- under its number
  pub answers-number : (q : Request) → result_of_request publication says tallies now q p ≡ Ok (after, r) → number_of q ≡ seq_of r
  answers-number (request.Join m) e = join-number m (join_refusal publication m p) (tables_after_join m (at_moment now p)) e
  answers-number (request.Upload u) e = (let a = upload-answered u e in a.number ∙ ap seq_of a.replied)
  answers-number (request.Ranges a) e = ap seq_of (ranges-answered a e).replied
  answers-number (request.Download a) e = ap seq_of (download-answered a e).replied

-- What the site takes.

pub record Fit (publication : Publication) (now : Moment) (judge : SubscriberJudge) (m : Reply) (message : Outstanding) (s new : SubscriberTables) : Type 0 where
  pub fine : reply_fault publication message m s ≡ None
  pub tables : tables_after_reply judge now m s ≡ new

met-if : (b : Bool) (fault : Option Refusal) (a new s : SubscriberTables) (missed : Taken) → (missed ≡ Acted → ⊥) → (let done : Result (SubscriberTables × Taken) Refusal = if b then unless fault (a, Acted) else Ok (s, missed) in done) ≡ Ok (new, Acted) → (fault ≡ None) × (a ≡ new)
met-if true fault a new s missed never e =
    let made = unless-made {A = SubscriberTables × Taken} fault (a, Acted) (new, Acted) e in
    (made.0, ap (λ (both : SubscriberTables × Taken). both.0) made.1)
met-if false fault a new s missed never e = (let pair : (let both : SubscriberTables × Taken = (s, missed) in both) ≡ (new, Acted) = cc in absurd (never (ap (λ (both : SubscriberTables × Taken). both.1) pair)))

pub met-fits : (publication : Publication) (judge : SubscriberJudge) (now : Moment) (m : Reply) (s new : SubscriberTables) (number : ℕ) (message : Outstanding) → met_by publication judge now m s (Some (number, message)) ≡ Ok (new, Acted) → Fit publication now judge m message s new
met-fits publication judge now m s new number message e =
    let made = met-if (number == seq_of m) (reply_fault publication message m s) (tables_after_reply judge now m s) new s (Missed (seq_of m) number) (λ no. cc) e in
    record { fine = made.0; tables = made.1 }

pub met-out : (publication : Publication) (judge : SubscriberJudge) (now : Moment) (m : Reply) (s new : SubscriberTables) (number : ℕ) (message : Outstanding) → s.outstanding ≡ Some (number, message) → met_by publication judge now m s s.outstanding ≡ Ok (new, Acted)
    → Fit publication now judge m message s new
met-out publication judge now m s new number message out e = met-fits publication judge now m s new number message (subst (λ (o : Option (ℕ × Outstanding)). met_by publication judge now m s o ≡ Ok (new, Acted)) out e)

-- What it refuses, where the reply has the number of the message that is outstanding.

pub met-numbered : (publication : Publication) (judge : SubscriberJudge) (now : Moment) (m : Reply) (s : SubscriberTables) (number : ℕ) (message : Outstanding) → s.outstanding ≡ Some (number, message) → number ≡ seq_of m
    → met_by publication judge now m s s.outstanding ≡ unless {A = SubscriberTables × Taken} (reply_fault publication message m s) (tables_after_reply judge now m s, Acted)
met-numbered publication judge now m s number message out same =
    let is : (number == seq_of m) ≡ true = grind (arith, nat_tests, same) in
    ap (λ (o : Option (ℕ × Outstanding)). met_by publication judge now m s o) out
    ∙ ap (λ (b : Bool). (let done : Result (SubscriberTables × Taken) Refusal = if b then unless (reply_fault publication message m s) (tables_after_reply judge now m s, Acted) else Ok (s, Missed (seq_of m) number) in done)) is

-- a site stays the one that it is
missed-never : (publication : Publication) (judge : SubscriberJudge) (now : Moment) (m : Reply) (s new : SubscriberTables) (out : Option (ℕ × Outstanding)) → met_by publication judge now m s out ≡ Ok (new, Acted) → tables_after_reply judge now m s ≡ new
missed-never publication judge now m s new None e =
    let pair : (let both : SubscriberTables × Taken = (s, Missed (seq_of m) 0) in both) ≡ (new, Acted) = cc in
    let kinds : Missed (seq_of m) 0 ≡ Acted = ap (λ (both : SubscriberTables × Taken). both.1) pair in
    absurd cc
missed-never publication judge now m s new (Some sent) e = (met-fits publication judge now m s new sent.0 sent.1 e).tables

pub taken-site : (publication : Publication) (judge : SubscriberJudge) (now : Moment) (m : Reply) (s new : SubscriberTables) → take_reply publication judge now m s ≡ Ok (new, Acted) → new.site ≡ s.site
taken-site publication judge now (reply.Joined m) s new e = sym (ap (λ (t : SubscriberTables). t.site) (missed-never publication judge now (reply.Joined m) s new s.outstanding e))
taken-site publication judge now (reply.Uploaded m) s new e = sym (ap (λ (t : SubscriberTables). t.site) (missed-never publication judge now (reply.Uploaded m) s new s.outstanding e))
taken-site publication judge now (reply.Ranged m) s new e = sym (ap (λ (t : SubscriberTables). t.site) (missed-never publication judge now (reply.Ranged m) s new s.outstanding e))
taken-site publication judge now (reply.Downloaded m) s new e = sym (ap (λ (t : SubscriberTables). t.site) (missed-never publication judge now (reply.Downloaded m) s new s.outstanding e))
taken-site publication judge now (reply.Refused number values) s new e = sym (same s new e)
  where
    same : (a b : SubscriberTables) → (let done : Result (SubscriberTables × Taken) Refusal = Ok (a, Acted) in done) ≡ Ok (b, Acted) → a.site ≡ b.site
    same a b is = (let pair : (let both : SubscriberTables × Taken = (a, Acted) in both) ≡ (b, Acted) = cc in ap (λ (both : SubscriberTables × Taken). both.0.site) pair)

-- What a reply to an ask that fits says.
pub record FitsAsk (from : ℕ) (d : Downloaded) (s : SubscriberTables) : Type 0 where
  pub within : d.to ≤ d.last
  pub up : d.from ≤ d.to
  pub onward : d.from < d.last → d.from < d.to

pub fits-ask : (publication : Publication) (from : ℕ) (d : Downloaded) (s : SubscriberTables) → reply_fault publication (ask.Download from) (reply.Downloaded d) s ≡ None → FitsAsk from d s
unfolding broken_by_reply
fits-ask publication from d s none = record {
  within = grind (arith, nat_tests, none);
  up = grind (arith, nat_tests, none);
  onward = λ below. grind (arith, nat_tests, none, below);
}

-- Where all generations are received, no row is unsent.

none-filtered : (from to : ℕ) (generations : List ℕ) → to ≤ from → filter (λ (generation : ℕ). nat_lt from generation && nat_le generation to) generations ≡ []
none-filtered from to [] low = refl
none-filtered from to (g ∷ generations) low =
    let no : (nat_lt from g && nat_le g to) ≡ false = grind (arith, nat_tests, low) in
    ap (λ (b : Bool). if b then g ∷ filter (λ (generation : ℕ). nat_lt from generation && nat_le generation to) generations else filter (λ (generation : ℕ). nat_lt from generation && nat_le generation to) generations) no
    ∙ none-filtered from to generations low

none-between : (from to : ℕ) (row : Key × SubscriberRow) → to ≤ from → changed_row_between from to row ≡ None
none-between from to row low = ap (λ (generations : List ℕ). (let found : Option (Key × ℕ) = option_map (λ (generation : ℕ). (row.0, generation)) (last_or None generations) in found)) (none-filtered from to row.1.generations low)

none-changed : (from to : ℕ) (rows : List (Key × SubscriberRow)) → to ≤ from → filter_map (changed_row_between from to) rows ≡ []
none-changed from to [] low = refl
none-changed from to (row ∷ rows) low = ap (λ (found : Option (Key × ℕ)). cons_option found (filter_map (changed_row_between from to) rows)) (none-between from to row low) ∙ none-changed from to rows low

pub none-unsent : (s : SubscriberTables) → subscriber_last_closed s + 1 ≤ s.received → unsent_rows (by_rows s) s ≡ []
none-unsent s low = none-changed s.received (subscriber_last_closed s + 1) s.rows low

-- a closing closes one generation at most, and then no other
pub closes-one : (filling : Filling) → (closed_filling filling).last_closed ≤ filling.last_closed + 1
closes-one filling = grind (arith, nat_tests)

pub closed-twice : (filling : Filling) → (closed_filling (closed_filling filling)).last_closed ≡ (closed_filling filling).last_closed
closed-twice filling = grind (arith, nat_tests)

pub closed-still : (filling : Filling) → filling.filled ≡ 0 → (closed_filling filling).last_closed ≡ filling.last_closed
closed-still filling empty = grind (arith, nat_tests, empty)
