-- What each exchange of a session leaves, where nothing was refused: a join, an upload, a range request and a download.
use Rattle.std.specs.Prelude.{◌≡◌, ◌≤◌, ◌<◌, ◌==◌, ◌-◌, ◌+◌, ◌++◌, ℕ, List, [], ◌∷◌, Bool, true, false, Option, Some, None, filter, if◌then◌else◌, map, max, nat_lt, refl, length, unwrap_or, ◌*◌}
use Rattle.std.specs.List.{last_or}
use Rattle.std.specs.Option.{option_or}
use Rattle.std.proofs.Common.{arith, subst, sym, ap, ◌∙◌}
use Rattle.std.proofs.lemmas.Bool.Decides.{nat_tests}
use Rattle.merge_types.specs.declared.identifiers.Moment.{Moment}
use Rattle.merge_gens.specs.Filling.{filling_after_close as closed_filling}
use Rattle.merge_gens.specs.declared.filling.Filling.{Filling}
use Rattle.merge_gens.specs.declared.sites.SiteState.{SiteState}
use Rattle.merge_ident.specs.Holders.{Holder}
use Rattle.merge_units.specs.declared.result.Decision.{Decision}
use Rattle.merge_schema.specs.declared.publication.Publication.{Publication}
use Rattle.merge_batch.specs.Replies.{broken_by_reply}
use Rattle.merge_batch.specs.Search.{broken_by_items, broken_by_message}
use Rattle.merge_batch.specs.Uploads.{broken_by_upload, has_generations, item_rules}
use Rattle.merge_batch.specs.declared.refusal.Refusal.TheVariants.{Gap}
use Rattle.merge_batch.specs.declared.reply.Downloaded.{Downloaded}
use Rattle.merge_batch.specs.declared.reply.Joined.{Joined}
use Rattle.merge_batch.specs.declared.reply.Ranged.{Ranged}
use Rattle.merge_batch.specs.declared.reply.Reply.TheVariants as reply
use Rattle.merge_batch.specs.declared.reply.Uploaded.{Uploaded}
use Rattle.merge_batch.specs.declared.request.Download.{Download}
use Rattle.merge_batch.specs.declared.request.Join.{Join}
use Rattle.merge_batch.specs.declared.request.Outstanding.TheVariants as ask
use Rattle.merge_batch.specs.declared.request.RangeAsk.{RangeAsk}
use Rattle.merge_batch.specs.declared.request.Request.TheVariants as request
use Rattle.merge_batch.specs.declared.request.Upload.{Upload}
use Rattle.merge_batch.specs.declared.rules.BrokenRule.{BrokenRule}
use Rattle.merge_model.specs.Judge.ByHistory.{by_history, by_made, by_past}
use Rattle.merge_model.specs.World.Faults.{fault_of, known_by, reply_fault, upload_fault}
use Rattle.merge_model.specs.History.{History, MadeChange, Past, made_at, pasts_with}
use Rattle.merge_model.specs.Judge.{PublisherJudge, SubscriberJudge}
use Rattle.merge_model.specs.Tables.Keys.{at_number}
use Rattle.merge_model.specs.History.Model.{Model, model}
use Rattle.merge_model.specs.History.Noting
use Rattle.merge_model.specs.Laws.Promises.{is_expired_at}
use Rattle.merge_model.specs.Publisher.{last_closed, later, no_state, site_refusal, state_of}
use Rattle.merge_model.specs.Publisher.PublisherDownload.{download_refusal, in_step, reply_to, state_after_download, tables_after_download}
use Rattle.merge_model.specs.Publisher.PublisherJoin.{join_refusal, tables_after_join}
use Rattle.merge_model.specs.Publisher.PublisherRanges.{plans, ranges_refusal, reply_to_ranges, with_grants}
use Rattle.merge_model.specs.Publisher.PublisherUpload.{brings_news, tables_after_upload, upload_refusal}
use Rattle.merge_model.specs.Tables.Refusals.{counter_end, refused_if}
use Rattle.merge_model.specs.Subscriber.Sending.{join_made, join_of, ranges_made, sending_refusal, unsent_rows, upload_end, upload_made, upload_sent, want_of, with_message}
use Rattle.merge_model.specs.World.Session.{ask as asking}
use Rattle.merge_model.specs.World.Steps.{SendDownload, SendJoin, SendRanges, SendUpload, kept_decisions, post, post_if_made, upload_questions}
use Rattle.merge_model.specs.declared.outcome.Outcome.{Outcome}
use Rattle.merge_model.specs.Subscriber.{subscriber_at_moment, subscriber_closed, subscriber_counters, subscriber_last_closed}
use Rattle.merge_types.specs.declared.row_key.RowKey.{RowKey as Key}
use Rattle.merge_model.specs.Tables.{PublisherTables, SubscriberTables}
use Rattle.merge_model.specs.Subscriber.Taking.{tables_after_reply}
use Rattle.merge_model.specs.World.{Saying, World, subscriber_at, with_publisher, with_subscriber}
use Rattle.merge_model.specs.declared.letter.Message.TheVariants.{Asks, Replies}
use Rattle.merge_model.specs.declared.letter.Letter.{Letter}
use Rattle.merge_model.specs.declared.letter.Message.{Message}
use Rattle.merge_model.proofs.Runs.Refusals.{first-none}
use Rattle.merge_model.proofs.Lists.Finding.{at_put_same}
use Rattle.merge_laws.proofs.Identities.IdentityNotes.{taker-made}
use Rattle.merge_laws.proofs.Received.Sendings.{batch-bound}
use Rattle.merge_laws.proofs.Sessions.SessionSteps.{After, Answered, Sent, back-step, comes-step, post-step, posted_model, reply-step, send-step, unless-step}
use Rattle.merge_laws.proofs.Settled.SettledExpired.{ask-live, expired_in}
use Rattle.merge_laws.proofs.Received.Subscribing.{filling-closed}
use Rattle.merge_laws.proofs.Numbered.Tellings.{uploaded-alike}
use Rattle.merge_laws.proofs.Walking.{acts_in, here, told_by, uploaded_world}
use Rattle.merge_laws.proofs.Sessions.RoundStays.{closed-still, if-made}

-- the site has joined
pub record JoinLeaves (s : SubscriberTables) (k : Model) : Type 0 where
  pub tables : SubscriberTables
  pub here : subscriber_at k.world s.site ≡ Some tables
  pub joined : tables.is_joined ≡ true

-- More of its generations are received, and its changes are the same. A subscriber 0 has closed no generation, so that no upload of it acts
pub record UploadLeaves (m : Model) (s : SubscriberTables) (k : Model) : Type 0 where
  pub tables : SubscriberTables
  pub here : subscriber_at k.world s.site ≡ Some tables
  pub named : s.site.0 ≡ 0 → ⊥
  pub joined : tables.is_joined ≡ s.is_joined
  pub received : s.received < tables.received
  pub made : made_at k.history s.site.0 ≡ made_at m.history s.site.0

-- or there was nothing to upload
pub record UploadRests (s : SubscriberTables) (k : Model) : Type 0 where
  pub here : subscriber_at k.world s.site ≡ Some s
  pub nothing : unsent_rows (by_made k.history s.site) s ≡ []

-- ranges change nothing of this
pub record RangesLeave (m : Model) (s : SubscriberTables) (k : Model) : Type 0 where
  pub tables : SubscriberTables
  pub here : subscriber_at k.world s.site ≡ Some tables
  pub joined : tables.is_joined ≡ s.is_joined
  pub received : tables.received ≡ s.received
  pub closed : subscriber_last_closed tables ≡ subscriber_last_closed s
  pub made : made_at k.history s.site.0 ≡ made_at m.history s.site.0

-- The site holds the generations up to the end of the reply, which is behind its beginning where there are more. The publisher's open
-- generation has closed, and the site is not expired
pub record DownloadLeaves (publication : Publication) (m : Model) (s : SubscriberTables) (k : Model) : Type 0 where
  pub tables : SubscriberTables
  pub told : Downloaded
  pub here : subscriber_at k.world s.site ≡ Some tables
  pub joined : tables.is_joined ≡ s.is_joined
  pub received : s.received ≤ tables.received
  pub closed : subscriber_last_closed tables ≡ subscriber_last_closed s
  pub made : made_at k.history s.site.0 ≡ made_at m.history s.site.0
  pub posted : last_or None (map (λ (letter : Letter). letter.message) k.world.pool) ≡ Some (Replies (reply.Downloaded told))
  pub from : told.from ≡ s.watermark
  pub held : tables.watermark ≡ told.to
  pub last : told.last ≡ last_closed k.world.publisher
  pub empty : k.world.publisher.gens.filling.filled ≡ 0
  pub within : told.to ≤ told.last
  pub up : told.from ≤ told.to
  pub onward : told.from < told.last → told.from < told.to
  pub in_time : is_expired_at publication k.world s.site ≡ false
  pub still : m.world.publisher.gens.filling.filled ≡ 0 → last_closed k.world.publisher ≡ last_closed m.world.publisher

pub last-posted : (before : Option Message) (pool : List Letter) (letter : Letter) → last_or before (map (λ (x : Letter). x.message) (pool ++ letter ∷ [])) ≡ Some letter.message
last-posted before [] letter = refl
last-posted before (other ∷ pool) letter = last-posted (Some other.message) pool letter

-- What a reply to an ask that fits says.
pub record FitsAsk (from : ℕ) (d : Downloaded) (s : SubscriberTables) : Type 0 where
  pub within : d.to ≤ d.last
  pub up : d.from ≤ d.to
  pub onward : d.from < d.last → d.from < d.to
  pub received : s.received ≤ d.received

fits-ask : (publication : Publication) (from : ℕ) (d : Downloaded) (s : SubscriberTables) → reply_fault publication (ask.Download from) (reply.Downloaded d) s ≡ None → FitsAsk from d s
unfolding broken_by_reply
fits-ask publication from d s none = record {
  within = grind (arith, nat_tests, none);
  up = grind (arith, nat_tests, none);
  onward = λ below. grind (arith, nat_tests, none, below);
  received = grind (arith, nat_tests, none);
}

-- An upload that is not refused has a generation.
rule-first : (b : Bool) (rules : List (ℕ × Bool)) (items : Option BrokenRule) → fault_of (option_or (broken_by_message ((1, b) ∷ rules)) items) ≡ None → b ≡ true
rule-first true rules items none = refl
rule-first false rules items none = absurd (grind (arith, none))

fault-goes : (publication : Publication) (judge : PublisherJudge) (u : Upload) (p : PublisherTables) → upload_fault publication judge u p ≡ None → u.from < u.to
unfolding broken_by_upload
fault-goes publication judge u p none =
    let goes : has_generations u ≡ true = rule-first (has_generations u) _ (broken_by_items (item_rules publication (known_by publication judge p) u) u.items) none in
    grind (arith, nat_tests, goes)

pub upload-goes : (publication : Publication) (judge : PublisherJudge) (now : Moment) (u : Upload) (p : PublisherTables) → upload_refusal publication judge now u p ≡ None → u.from < u.to
upload-goes publication judge now u p none =
    let all = first-none (site_refusal publication u.site u.seq now p) _ none in
    let gap = first-none (refused_if (judge.is_gap u.site.0 u.from) (Gap u.from (judge.received u.site.0))) _ all.1 in
    fault-goes publication judge u p (first-none (upload_fault publication judge u p) _ gap.1).0

-- A site that was answered is not expired.
live-before : (limit now latest last more : ℕ) → nat_lt limit (max now latest - last) ≡ false → nat_lt limit (now - max last more) ≡ false
live-before limit now latest last more live = grind (arith, nat_tests, live)

found-live : (publication : Publication) (now latest : Moment) (m : Download) (q : PublisherTables) (found : Option SiteState) → expired_in publication (later now latest) found ≡ false
    → expired_in publication now (Some (state_after_download m q (unwrap_or found no_state))) ≡ false
found-live publication now latest m q None live = absurd (grind (arith, live))
found-live publication now latest m q (Some state) live = live-before (86400 * publication.retention_days) now.0 latest.0 state.last_sync (in_step m q) live

-- an upload ends at a closed generation
closed-under : (filling : Filling) (received : ℕ) → received ≤ filling.last_closed → received ≤ (closed_filling filling).last_closed
closed-under filling received below = grind (arith, nat_tests, below)

end-under : (judge : SubscriberJudge) (s : SubscriberTables) → s.received ≤ subscriber_last_closed s → upload_end judge s ≤ subscriber_last_closed s
end-under judge s below = batch-bound (λ (to : ℕ). length (judge.changed_between s.received to)) s.received (subscriber_last_closed s) below

most-left : (a b c : ℕ) → a < b → a < max b c
most-left a b c low = grind (arith, nat_tests, low)

either-rows : (rows : List (Key × ℕ)) (P : List (Key × ℕ) → Type 0) → (rows ≡ [] → P []) → ((row : Key × ℕ) (rest : List (Key × ℕ)) → P (row ∷ rest)) → P rows
either-rows [] P none some = none refl
either-rows (row ∷ rest) P none some = some row rest

module _ (publication : Publication) (says : Saying) (m : Model) (s : SubscriberTables) (at : subscriber_at m.world s.site ≡ Some s) where
  abbrev w : World
  w = m.world

  abbrev h : History
  h = m.history

  -- A download.
  pub download-leaves : Answered publication says (DownloadLeaves publication m s) (λ k. ⊥) s.site (asking (model publication says) s.site SendDownload m)
  download-leaves =
      let Acts : Model → Type 0 = DownloadLeaves publication m s in
      let Rests : Model → Type 0 = λ k. ⊥ in
      let u : SubscriberTables = with_message (ask.Download s.watermark) s in
      let a : Download = record { site = s.site; seq = s.seq + 1; from = s.watermark } in
      let v : World = with_subscriber u w in
      let k : Model = posted_model s.site (Asks (request.Download a)) v h in
      let judge : PublisherJudge = by_past k.history (pasts_with k.history (length v.pool + 1)) in
      let q : PublisherTables = tables_after_download a (here k.world) in
      let d : Downloaded = reply_to publication judge a q in
      let x : World = with_publisher q k.world in
      let n : Model = posted_model s.site (Replies (reply.Downloaded d)) x k.history in
      let own : SubscriberJudge = by_made n.history s.site in
      let t : SubscriberTables = tables_after_reply own w.moment (reply.Downloaded d) u in
      let there : subscriber_at v s.site ≡ Some u = at_put_same s.site.0 u w.subscribers in
      let incoming : List (Key × Past) = pasts_with n.history (length x.pool + 1) in
      let noting : History = Noting.noted_reply own s.site incoming (reply.Downloaded d) n.history in
      send-step publication says Acts Rests s.site m s SendDownload at
      (unless-step (Sent publication says Acts Rests s.site) w h (λ why. tt) (sending_refusal s) (u, a) (λ (made : SubscriberTables × Download). post s.site (Asks (request.Download made.1)) (with_subscriber made.0 w)) h (λ fine.
      post-step (Sent publication says Acts Rests s.site) s.site (Asks (request.Download a)) v h h
      (comes-step publication says Acts Rests s.site (Answered publication says Acts Rests s.site) s.site (Asks (request.Download a)) v h
      (unless-step (Answered publication says Acts Rests s.site) k.world k.history (λ why. tt) (download_refusal publication w.moment a w.publisher) (q, d) (λ (made : PublisherTables × Downloaded). post s.site (Replies (reply.Downloaded made.1)) (with_publisher made.0 k.world)) k.history (λ taken_in.
      post-step (Answered publication says Acts Rests s.site) s.site (Replies (reply.Downloaded d)) x k.history k.history
      (back-step publication says Acts Rests s.site x k.history u (reply.Downloaded d) there
      (reply-step publication says Acts Rests s.site n.world n.history own u (reply.Downloaded d) (ask.Download s.watermark) noting (λ none.
      (let fits : FitsAsk s.watermark d u = fits-ask publication s.watermark d u none in record {
        tables = t;
        told = d;
        here = at_put_same s.site.0 t n.world.subscribers;
        joined = refl;
        received = fits.received;
        closed = refl;
        made = ap (λ (made : List MadeChange). filter (λ (change : MadeChange). change.dot.site.0 == s.site.0) made) (taker-made (by_history n.history) s.site incoming (reply.Downloaded d) (Some u) n.history);
        posted = last-posted None x.pool (record { site = s.site; message = Replies (reply.Downloaded d) });
        from = refl;
        held = refl;
        last = refl;
        empty = filling-closed w.publisher.gens.filling;
        within = fits.within;
        up = fits.up;
        onward = fits.onward;
        in_time = ap (λ (found : Option SiteState). expired_in publication w.moment found) (at_put_same s.site.0 (state_after_download a (here k.world) (state_of (here k.world) s.site)) w.publisher.sites)
            ∙ found-live publication w.moment w.publisher.latest a (here k.world) (at_number w.publisher.sites s.site.0) (ask-live publication w.moment a w.publisher taken_in);
        still = λ empty. closed-still w.publisher.gens.filling empty;
      })))))))))

  -- Range requests.
  pub ranges-leave : Answered publication says (RangesLeave m s) (λ k. (k.world ≡ w) × (k.history ≡ h)) s.site (asking (model publication says) s.site SendRanges m)
  ranges-leave =
      let Acts : Model → Type 0 = RangesLeave m s in
      let Rests : Model → Type 0 = λ k. (k.world ≡ w) × (k.history ≡ h) in
      let u : SubscriberTables = with_message ask.Ranges s in
      let a : RangeAsk = record { site = s.site; seq = s.seq + 1; wants = map want_of s.held } in
      let v : World = with_subscriber u w in
      let k : Model = posted_model s.site (Asks (request.Ranges a)) v h in
      let judge : PublisherJudge = by_past k.history (pasts_with k.history (length v.pool + 1)) in
      let q : PublisherTables = with_grants (plans publication a w.publisher) (here k.world) in
      let d : Ranged = reply_to_ranges a (plans publication a w.publisher) in
      let x : World = with_publisher q k.world in
      let n : Model = posted_model s.site (Replies (reply.Ranged d)) x k.history in
      let own : SubscriberJudge = by_made n.history s.site in
      let there : subscriber_at v s.site ≡ Some u = at_put_same s.site.0 u w.subscribers in
      let act : Option (SubscriberTables × RangeAsk) → World × Outcome = post_if_made s.site (λ (y : RangeAsk). request.Ranges y) w in
      send-step publication says Acts Rests s.site m s SendRanges at
      (unless-step (Sent publication says Acts Rests s.site) w h (λ why. tt) (sending_refusal s) (ranges_made s) act h (λ fine.
      elim s.held as (λ (held : List (ℕ × Holder)). (let made : Option (SubscriberTables × RangeAsk) = elim held [ [] ↦ None | entry ∷ entries ↦ Some (u, a) ] in After (Sent publication says Acts Rests s.site) (act made) h h)) [
        | [] ↦ (refl, refl)
        | entry ∷ entries ↦
            post-step (Sent publication says Acts Rests s.site) s.site (Asks (request.Ranges a)) v h h
            (comes-step publication says Acts Rests s.site (Answered publication says Acts Rests s.site) s.site (Asks (request.Ranges a)) v h
            (unless-step (Answered publication says Acts Rests s.site) k.world k.history (λ why. tt) (ranges_refusal publication judge w.moment a w.publisher) (q, d) (λ (made : PublisherTables × Ranged). post s.site (Replies (reply.Ranged made.1)) (with_publisher made.0 k.world)) k.history (λ taken_in.
            post-step (Answered publication says Acts Rests s.site) s.site (Replies (reply.Ranged d)) x k.history k.history
            (back-step publication says Acts Rests s.site x k.history u (reply.Ranged d) there
            (reply-step publication says Acts Rests s.site n.world n.history own u (reply.Ranged d) ask.Ranges n.history (λ none. record {
              tables = tables_after_reply own w.moment (reply.Ranged d) u;
              here = at_put_same s.site.0 (tables_after_reply own w.moment (reply.Ranged d) u) n.world.subscribers;
              joined = refl;
              received = refl;
              closed = refl;
              made = refl;
            }))))))
      ]))

  -- A join.
  pub join-leaves : s.is_joined ≡ false → Answered publication says (JoinLeaves s) (λ k. ⊥) s.site (asking (model publication says) s.site SendJoin m)
  join-leaves joining =
      let Acts : Model → Type 0 = JoinLeaves s in
      let Rests : Model → Type 0 = λ k. ⊥ in
      let u : SubscriberTables = with_message ask.Join s in
      let a : Join = join_of s in
      let v : World = with_subscriber u w in
      let k : Model = posted_model s.site (Asks (request.Join a)) v h in
      let judge : PublisherJudge = by_past k.history (pasts_with k.history (length v.pool + 1)) in
      let q : PublisherTables = tables_after_join a (here k.world) in
      let d : Joined = record { seq = a.seq } in
      let x : World = with_publisher q k.world in
      let noting : History = Noting.noted_join judge a w.publisher k.history in
      let n : Model = posted_model s.site (Replies (reply.Joined d)) x noting in
      let own : SubscriberJudge = by_made n.history s.site in
      let there : subscriber_at v s.site ≡ Some u = at_put_same s.site.0 u w.subscribers in
      let act : Option (SubscriberTables × Join) → World × Outcome = post_if_made s.site (λ (y : Join). request.Join y) w in
      send-step publication says Acts Rests s.site m s SendJoin at
      (unless-step (Sent publication says Acts Rests s.site) w h (λ why. tt) (counter_end (subscriber_counters s)) (join_made s) act h (λ fine.
      subst (λ (b : Bool). (let made : Option (SubscriberTables × Join) = if b then None else Some (u, a) in After (Sent publication says Acts Rests s.site) (act made) h h)) (sym joining)
      (post-step (Sent publication says Acts Rests s.site) s.site (Asks (request.Join a)) v h h
      (comes-step publication says Acts Rests s.site (Answered publication says Acts Rests s.site) s.site (Asks (request.Join a)) v h
      (unless-step (Answered publication says Acts Rests s.site) k.world k.history (λ why. tt) (join_refusal publication a w.publisher) (q, d) (λ (made : PublisherTables × Joined). post s.site (Replies (reply.Joined made.1)) (with_publisher made.0 k.world)) noting (λ taken_in.
      post-step (Answered publication says Acts Rests s.site) s.site (Replies (reply.Joined d)) x noting k.history
      (back-step publication says Acts Rests s.site x noting u (reply.Joined d) there
      (reply-step publication says Acts Rests s.site n.world n.history own u (reply.Joined d) ask.Join n.history (λ none. record {
        tables = tables_after_reply own w.moment (reply.Joined d) u;
        here = at_put_same s.site.0 (tables_after_reply own w.moment (reply.Joined d) u) n.world.subscribers;
        joined = refl;
      })))))))))

  -- An upload.
  pub upload-leaves : s.received ≤ subscriber_last_closed s → (s.site.0 ≡ 0 → (subscriber_last_closed s ≡ 0) × (s.gens.filling.filled ≡ 0)) → Answered publication says (UploadLeaves m s) (UploadRests s) s.site (asking (model publication says) s.site SendUpload m)
  upload-leaves below idle =
      let Acts : Model → Type 0 = UploadLeaves m s in
      let Rests : Model → Type 0 = UploadRests s in
      let made_by_site : SubscriberJudge = by_made h s.site in
      let made : SubscriberTables × Upload = upload_sent made_by_site (subscriber_closed (subscriber_at_moment w.moment s)) in
      let u : SubscriberTables = made.0 in
      let a : Upload = made.1 in
      let v : World = with_subscriber u w in
      let k : Model = posted_model s.site (Asks (request.Upload a)) v h in
      let judge : PublisherJudge = by_past k.history (pasts_with k.history (length v.pool + 1)) in
      let decisions : List Decision = kept_decisions says w.tallies (upload_questions publication judge w.moment a w.publisher) in
      let q : PublisherTables = tables_after_upload publication judge a decisions (here k.world) in
      let d : Uploaded = told_by judge a in
      let x : World = uploaded_world publication says judge a q k.world in
      let noting : History = Noting.noted_upload publication judge a decisions (pasts_with k.history (length v.pool + 1)) (here k.world) k.history in
      let n : Model = posted_model s.site (Replies (reply.Uploaded d)) x noting in
      let own : SubscriberJudge = by_made n.history s.site in
      let there : subscriber_at v s.site ≡ Some u = at_put_same s.site.0 u w.subscribers in
      let named-by : upload_refusal publication judge w.moment a w.publisher ≡ None → s.site.0 ≡ 0 → ⊥ = λ taken_in is. (
      let none = idle is in
      let still = closed-still s.gens.filling none.1 in
      let goes = upload-goes publication judge w.moment a w.publisher taken_in in
      let up = end-under made_by_site (subscriber_closed (subscriber_at_moment w.moment s)) (closed-under s.gens.filling s.received below) in
      absurd (omega (arith, none.0, still, goes, up))) in
      let act : Option (SubscriberTables × Upload) → World × Outcome = post_if_made s.site (λ (y : Upload). request.Upload y) w in
      let rows : List (Key × ℕ) → Type 0 = λ (unsent : List (Key × ℕ)). (let sent : Option (SubscriberTables × Upload) = elim unsent [ [] ↦ None | row ∷ rest ↦ Some made ] in After (Sent publication says Acts Rests s.site) (act sent) h h) in
      send-step publication says Acts Rests s.site m s SendUpload at
      (unless-step (Sent publication says Acts Rests s.site) w h (λ why. tt) (sending_refusal s) (upload_made made_by_site w.moment s) act h (λ fine.
      either-rows (unsent_rows made_by_site s) rows (λ nothing. record { here = at; nothing = nothing }) (λ row rest.
      post-step (Sent publication says Acts Rests s.site) s.site (Asks (request.Upload a)) v h h
      (comes-step publication says Acts Rests s.site (Answered publication says Acts Rests s.site) s.site (Asks (request.Upload a)) v h
      (unless-step (Answered publication says Acts Rests s.site) k.world k.history (λ why. tt) (upload_refusal publication judge w.moment a w.publisher) (q, d) (λ (done : PublisherTables × Uploaded). post s.site (Replies (reply.Uploaded done.1)) (uploaded_world publication says judge a done.0 k.world)) noting (λ taken_in.
      post-step (Answered publication says Acts Rests s.site) s.site (Replies (reply.Uploaded d)) x noting k.history
      (back-step publication says Acts Rests s.site x noting u (reply.Uploaded d) there
      (reply-step publication says Acts Rests s.site n.world n.history own u (reply.Uploaded d) (ask.Upload s.received a.to) n.history (λ none. record {
        tables = tables_after_reply own w.moment (reply.Uploaded d) u;
        here = at_put_same s.site.0 (tables_after_reply own w.moment (reply.Uploaded d) u) n.world.subscribers;
        joined = refl {a = s.is_joined};
        named = named-by taken_in;
        received = most-left s.received a.to (judge.received s.site.0) (upload-goes publication judge w.moment a w.publisher taken_in);
        made = if-made (brings_news judge a) (Noting.with_acts_noted publication judge a (acts_in publication says judge a k.world) (pasts_with k.history (length v.pool + 1)) (here k.world) k.history) k.history s.site.0
            ((uploaded-alike publication says judge a (pasts_with k.history (length v.pool + 1)) k.world k.history).made s.site.0 (named-by taken_in));
      })))))))))
