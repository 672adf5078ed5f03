-- What a turn of each kind leaves at both sites.
use Rattle.std.specs.List.{fold, list_all}
use Rattle.std.specs.Prelude.{List, Ok, [], map, refl, true, ℕ, ◌+◌, ◌<◌, ◌≡◌, ◌≤◌}
use Rattle.std.proofs.Common.{ap, arith, subst, sym, ◌∙◌}
use Rattle.merge_types.specs.declared.identifiers.Moment.{Moment}
use Rattle.merge_gens.specs.Filling.{filling_after_close as closed_filling}
use Rattle.merge_gens.specs.declared.filling.Filling.{Filling}
use Rattle.merge_ident.specs.Answers.{grants_with_all}
use Rattle.merge_ident.specs.declared.grants.Grant.{Grant}
use Rattle.merge_schema.specs.declared.publication.Publication.{Publication}
use Rattle.merge_batch.specs.Replies.{grant_fits}
use Rattle.merge_batch.specs.Search.{are_distinct}
use Rattle.merge_batch.specs.declared.reply.Downloaded.{Downloaded}
use Rattle.merge_batch.specs.declared.reply.Ranged.{Ranged}
use Rattle.merge_batch.specs.declared.reply.Reply.{Reply}
use Rattle.merge_batch.specs.declared.reply.Reply.TheVariants as reply
use Rattle.merge_batch.specs.declared.request.Download.{Download}
use Rattle.merge_batch.specs.declared.request.Outstanding.TheVariants as ask
use Rattle.merge_batch.specs.declared.request.RangeAsk.{RangeAsk}
use Rattle.merge_batch.specs.declared.request.Request.{Request}
use Rattle.merge_batch.specs.declared.request.Request.TheVariants as request
use Rattle.merge_batch.specs.declared.request.Upload.{Upload}
use Rattle.merge_model.specs.Judge.ByNumbers.{by_numbers, by_rows}
use Rattle.merge_model.specs.Publisher.PublisherDownload.{reply_to, tables_after_download}
use Rattle.merge_model.specs.Publisher.PublisherRanges.{plans, reply_to_ranges}
use Rattle.merge_model.specs.Publisher.{at_moment, last_closed}
use Rattle.merge_model.specs.Subscriber.Sending.{join_of, unsent_rows, upload_sent, want_of, with_message}
use Rattle.merge_model.specs.Subscriber.Taking.{take_reply, with_grant as receives}
use Rattle.merge_model.specs.Subscriber.{subscriber_at_moment, subscriber_closed}
use Rattle.merge_model.specs.Tables.Publications.{rules_of}
use Rattle.merge_model.specs.Tables.{PublisherTables, SubscriberTables}
use Rattle.merge_model.specs.World.Calls.{result_of_request}
use Rattle.merge_model.specs.World.Faults.{heard_by}
use Rattle.merge_model.specs.World.Steps.{SendDownload, SendJoin, SendRanges, SendUpload}
use Rattle.merge_model.specs.World.{Saying}
use Rattle.merge_model.specs.declared.outcome.Taken.TheVariants.{Acted}
use Rattle.merge_laws.proofs.Received.Subscribing.{filling-closed}
use Rattle.merge_owed.proofs.RangeAnswers.{articles_in, brought, planned}
use Rattle.merge_owed.proofs.RangesGo.{asks-distinct, reply-fits}
use Rattle.merge_synced.specs.Answering.{Serving}
use Rattle.merge_synced.proofs.Made.{AskAnswered, AskMade, Fit, FitsAsk, JoinMade, RangesAnswered, RangesMade, UploadAnswered, UploadMade, closed-still, closed-twice, download-answered, download-made, fits-ask, join-answered, join-made, met-out, ranges-answered, ranges-made, upload-answered, upload-made}
use Rattle.merge_synced.proofs.Turns.{Turned}

-- where the generations of a site end that is closed now
abbrev pub closing_in : SubscriberTables → ℕ
closing_in s = (closed_filling s.gens.filling).last_closed

pub record UploadTook (s new : SubscriberTables) : Type 0 where
  pub some : unsent_rows (by_rows s) s ≡ [] → ⊥
  pub held : new.held ≡ s.held
  pub received : s.received < new.received
  pub closing : closing_in new ≡ closing_in s

-- the request was for distinct articles, and the reply brings what was planned, which the site received
pub record RangesTook (publication : Publication) (s new : SubscriberTables) (r : Reply) (grants after : List Grant) : Type 0 where
  pub told : Ranged
  pub replied : r ≡ reply.Ranged told
  pub brings : told.grants ≡ brought (planned (rules_of publication) s.site grants s.held)
  pub held : new.held ≡ fold receives s.held (brought (planned (rules_of publication) s.site grants s.held))
  pub granted : after ≡ grants_with_all grants (planned (rules_of publication) s.site grants s.held)
  pub distinct : are_distinct (articles_in s.held) ≡ true
  pub fits : list_all (grant_fits (heard_by s)) (brought (planned (rules_of publication) s.site grants s.held)) ≡ true

-- the site holds the generations up to the end of the reply, and the publisher's open one has closed
pub record DownloadTook (s new : SubscriberTables) (r : Reply) (before after : PublisherTables) : Type 0 where
  pub told : Downloaded
  pub replied : r ≡ reply.Downloaded told
  pub from : told.from ≡ s.watermark
  pub held : new.watermark ≡ told.to
  pub last : told.last ≡ last_closed after
  pub empty : after.gens.filling.filled ≡ 0
  pub within : told.to ≤ told.last
  pub onward : told.from < told.last → told.from < told.to
  pub still : before.gens.filling.filled ≡ 0 → last_closed after ≡ last_closed before

module _ (publication : Publication) (says : Saying) (now : Moment) (s new : SubscriberTables) (r : Reply) (p q : Serving) where
  pub join-took : Turned publication says now SendJoin s new r p q → new.held ≡ s.held
  join-took t =
      let u : SubscriberTables = with_message ask.Join s in
      let m : JoinMade s t.sent t.request = join-made now s t.sent t.request t.made in
      let a = join-answered publication says p.tallies now p.publisher t.after r (join_of s)
      (subst (λ (x : Request). result_of_request publication says p.tallies now x p.publisher ≡ Ok (t.after, r)) (sym m.asks) t.answer) in
      let took : take_reply publication (by_rows u) now r u ≡ Ok (new, Acted) = subst (λ (x : SubscriberTables). take_reply publication (by_rows x) now r x ≡ Ok (new, Acted)) (sym m.tables) t.taken in
      let fit : Fit publication now (by_rows u) (reply.Joined a.0) ask.Join u new = met-out publication (by_rows u) now (reply.Joined a.0) u new (s.seq + 1) ask.Join refl
      (subst (λ (x : Reply). take_reply publication (by_rows u) now x u ≡ Ok (new, Acted)) (sym a.1) took) in
      sym (ap (λ (x : SubscriberTables). x.held) fit.tables)

  pub upload-took : Turned publication says now SendUpload s new r p q → UploadTook s new
  upload-took t =
      let made : SubscriberTables × Upload = upload_sent (by_rows s) (subscriber_closed (subscriber_at_moment now s)) in
      let u : SubscriberTables = made.0 in
      let m : UploadMade now s t.sent t.request = upload-made now s t.sent t.request t.made in
      let asks : request.Upload made.1 ≡ t.request = ap (λ (both : SubscriberTables × Upload). request.Upload both.1) m.made ∙ m.asks in
      let tables : u ≡ t.sent = ap (λ (both : SubscriberTables × Upload). both.0) m.made in
      let a : UploadAnswered made.1 r = upload-answered publication says p.tallies now p.publisher t.after r made.1
      (subst (λ (x : Request). result_of_request publication says p.tallies now x p.publisher ≡ Ok (t.after, r)) (sym asks) t.answer) in
      let took : take_reply publication (by_rows u) now r u ≡ Ok (new, Acted) = subst (λ (x : SubscriberTables). take_reply publication (by_rows x) now r x ≡ Ok (new, Acted)) (sym tables) t.taken in
      let fit : Fit publication now (by_rows u) (reply.Uploaded a.told) (ask.Upload s.received made.1.to) u new = met-out publication (by_rows u) now (reply.Uploaded a.told) u new (s.seq + 1) (ask.Upload s.received made.1.to) refl
      (subst (λ (x : Reply). take_reply publication (by_rows u) now x u ≡ Ok (new, Acted)) (sym a.replied) took) in
      let goes : s.received < made.1.to = a.goes in
      let up = a.received in
      let received : a.told.received ≡ new.received = ap (λ (x : SubscriberTables). x.received) fit.tables in
      let filling : closed_filling s.gens.filling ≡ new.gens.filling = ap (λ (x : SubscriberTables). x.gens.filling) fit.tables in
      record {
        some = m.some;
        held = sym (ap (λ (x : SubscriberTables). x.held) fit.tables);
        received = omega (arith, goes, up, received);
        closing = ap (λ (x : Filling). (closed_filling x).last_closed) (sym filling) ∙ closed-twice s.gens.filling;
      }

  pub ranges-took : Turned publication says now SendRanges s new r p q → RangesTook publication s new r p.publisher.grants q.publisher.grants
  ranges-took t =
      let u : SubscriberTables = with_message ask.Ranges s in
      let asks : RangeAsk = record { site = s.site; seq = s.seq + 1; wants = map want_of s.held } in
      let told : Ranged = reply_to_ranges asks (plans publication asks p.publisher) in
      let m : RangesMade s t.sent t.request = ranges-made now s t.sent t.request t.made in
      let a : RangesAnswered publication now asks p.publisher t.after r = ranges-answered publication says p.tallies now p.publisher t.after r asks
      (subst (λ (x : Request). result_of_request publication says p.tallies now x p.publisher ≡ Ok (t.after, r)) (sym m.asks) t.answer) in
      let took : take_reply publication (by_rows u) now r u ≡ Ok (new, Acted) = subst (λ (x : SubscriberTables). take_reply publication (by_rows x) now r x ≡ Ok (new, Acted)) (sym m.tables) t.taken in
      let fit : Fit publication now (by_rows u) (reply.Ranged told) ask.Ranges u new = met-out publication (by_rows u) now (reply.Ranged told) u new (s.seq + 1) ask.Ranges refl
      (subst (λ (x : Reply). take_reply publication (by_rows u) now x u ≡ Ok (new, Acted)) (sym a.replied) took) in
      record {
        told = told;
        replied = sym a.replied;
        brings = refl;
        held = sym (ap (λ (x : SubscriberTables). x.held) fit.tables);
        granted = ap (λ (x : PublisherTables). x.grants) (t.tables ∙ sym a.tables);
        distinct = asks-distinct publication (by_numbers p.publisher) now asks p.publisher a.fine;
        fits = reply-fits publication told u fit.fine;
      }

  pub download-took : Turned publication says now SendDownload s new r p q → DownloadTook s new r p.publisher q.publisher
  download-took t =
      let u : SubscriberTables = with_message (ask.Download s.watermark) s in
      let asks : Download = record { site = s.site; seq = s.seq + 1; from = s.watermark } in
      let after : PublisherTables = tables_after_download asks (at_moment now p.publisher) in
      let told : Downloaded = reply_to publication (by_numbers p.publisher) asks after in
      let m : AskMade s t.sent t.request = download-made now s t.sent t.request t.made in
      let a : AskAnswered publication now asks p.publisher t.after r = download-answered publication says p.tallies now p.publisher t.after r asks
      (subst (λ (x : Request). result_of_request publication says p.tallies now x p.publisher ≡ Ok (t.after, r)) (sym m.asks) t.answer) in
      let took : take_reply publication (by_rows u) now r u ≡ Ok (new, Acted) = subst (λ (x : SubscriberTables). take_reply publication (by_rows x) now r x ≡ Ok (new, Acted)) (sym m.tables) t.taken in
      let fit : Fit publication now (by_rows u) (reply.Downloaded told) (ask.Download s.watermark) u new = met-out publication (by_rows u) now (reply.Downloaded told) u new (s.seq + 1) (ask.Download s.watermark) refl
      (subst (λ (x : Reply). take_reply publication (by_rows u) now x u ≡ Ok (new, Acted)) (sym a.replied) took) in
      let fits : FitsAsk s.watermark told u = fits-ask publication s.watermark told u fit.fine in
      let there : after ≡ q.publisher = a.tables ∙ sym t.tables in
      record {
        told = told;
        replied = sym a.replied;
        from = refl;
        held = sym (ap (λ (x : SubscriberTables). x.watermark) fit.tables);
        last = ap (λ (x : PublisherTables). last_closed x) there;
        empty = ap (λ (x : PublisherTables). x.gens.filling.filled) (sym there) ∙ filling-closed p.publisher.gens.filling;
        within = fits.within;
        onward = fits.onward;
        still = λ empty. ap (λ (x : PublisherTables). last_closed x) (sym there) ∙ closed-still p.publisher.gens.filling empty;
      }
