-- What an upload and a download of a site leave as it was: the tables of other sites, and the changes of all subscribers.
use Rattle.std.specs.Prelude.{◌≡◌, ◌==◌, ◌+◌, ℕ, List, [], ◌∷◌, Bool, true, false, Option, Some, None, filter, if◌then◌else◌, length, refl}
use Rattle.std.proofs.Common.{arith, ap, ◌∙◌}
use Rattle.std.proofs.lemmas.Bool.Decides.{nat_tests}
use Rattle.merge_types.specs.declared.identifiers.SiteId.{SiteId}
use Rattle.merge_types.specs.declared.row_key.RowKey.{RowKey as Key}
use Rattle.merge_gens.specs.Filling.{filling_after_close as closed_filling}
use Rattle.merge_gens.specs.declared.filling.Filling.{Filling}
use Rattle.merge_units.specs.declared.result.Decision.{Decision}
use Rattle.merge_schema.specs.declared.publication.Publication.{Publication}
use Rattle.merge_batch.specs.declared.reply.Downloaded.{Downloaded}
use Rattle.merge_batch.specs.declared.reply.Reply.TheVariants as reply
use Rattle.merge_batch.specs.declared.reply.Uploaded.{Uploaded}
use Rattle.merge_batch.specs.declared.request.Download.{Download}
use Rattle.merge_batch.specs.declared.request.Outstanding.TheVariants as ask
use Rattle.merge_batch.specs.declared.request.Request.TheVariants as request
use Rattle.merge_batch.specs.declared.request.Upload.{Upload}
use Rattle.merge_model.specs.Judge.ByHistory.{by_history, by_made, by_past}
use Rattle.merge_model.specs.History.{History, MadeChange, Past, made_at, pasts_with}
use Rattle.merge_model.specs.Judge.{PublisherJudge, SubscriberJudge}
use Rattle.merge_model.specs.Tables.Keys.{at_number}
use Rattle.merge_model.specs.History.Model.{Model, model}
use Rattle.merge_model.specs.History.Noting
use Rattle.merge_model.specs.Publisher.{last_closed, state_of}
use Rattle.merge_model.specs.Publisher.PublisherDownload.{download_refusal, reply_to, state_after_download, tables_after_download}
use Rattle.merge_model.specs.Publisher.PublisherUpload.{brings_news, tables_after_upload, upload_refusal}
use Rattle.merge_model.specs.Subscriber.Sending.{sending_refusal, unsent_rows, upload_made, upload_sent, with_message}
use Rattle.merge_model.specs.World.Session.{ask as asking}
use Rattle.merge_model.specs.World.Steps.{Deliver, SendDownload, SendUpload, kept_decisions, post, post_if_made, upload_questions}
use Rattle.merge_model.specs.declared.outcome.Outcome.{Outcome}
use Rattle.merge_model.specs.declared.outcome.Outcome.TheVariants.{NoPost, Posted, Refuses, Took}
use Rattle.merge_model.specs.Subscriber.{subscriber_at_moment, subscriber_closed}
use Rattle.merge_model.specs.Tables.{PublisherTables, SubscriberTables}
use Rattle.merge_model.specs.Subscriber.Taking.{tables_after_reply}
use Rattle.merge_model.specs.World.{Saying, World, subscriber_at, with_publisher, with_subscriber}
use Rattle.merge_model.specs.declared.letter.Message.TheVariants.{Asks, Replies}
use Rattle.merge_model.specs.History.Model.{model_step}
use Rattle.merge_model.proofs.Lists.Finding.{at_put_other, at_put_same}
use Rattle.merge_laws.proofs.Identities.IdentityNotes.{taker-made}
use Rattle.merge_laws.proofs.Sessions.SessionSteps.{After, Answered, Ends, Sent, back-step, comes-step, post-step, posted_model, reply-step, send-step, unless-step}
use Rattle.merge_laws.proofs.Received.Subscribing.{filling-closed}
use Rattle.merge_laws.proofs.Numbered.Tellings.{uploaded-alike}
use Rattle.merge_laws.proofs.Walking.{acts_in, here, told_by, uploaded_world}

-- other sites have the tables that they had, and every subscriber the changes that it made
pub record Stays (site : SiteId) (m k : Model) : Type 0 where
  pub others : (n : ℕ) → (n ≡ site.0 → ⊥) → at_number k.world.subscribers n ≡ at_number m.world.subscribers n
  pub made : (n : ℕ) → (n ≡ 0 → ⊥) → made_at k.history n ≡ made_at m.history n

pub record AskStays (site : SiteId) (m k : Model) : Type 0 where
  pub stays : Stays site m k
  -- what the publisher has of other sites, and the moment
  pub states : (n : ℕ) → (n ≡ site.0 → ⊥) → at_number k.world.publisher.sites n ≡ at_number m.world.publisher.sites n
  pub moment : k.world.moment ≡ m.world.moment
  -- the publisher's open generation is empty, and was closed only where it was not
  pub empty : k.world.publisher.gens.filling.filled ≡ 0
  pub still : m.world.publisher.gens.filling.filled ≡ 0 → last_closed k.world.publisher ≡ last_closed m.world.publisher

abbrev pub Unmoved : Model → Model → Type 0
Unmoved m k = (k.world ≡ m.world) × (k.history ≡ m.history)

pub stays-itself : (site : SiteId) (m : Model) → Stays site m m
stays-itself site m = record { others = λ n differs. refl; made = λ n named. refl }

pub stays-then : (site : SiteId) (m k n : Model) → Stays site m k → Stays site k n → Stays site m n
stays-then site m k n first second = record {
  others = λ x differs. second.others x differs ∙ first.others x differs;
  made = λ x named. second.made x named ∙ first.made x named;
}

pub stays-unmoved : (site : SiteId) (m k n : Model) → Stays site m k → Unmoved k n → Stays site m n
stays-unmoved site m k n first same = record {
  others = λ x differs. ap (λ (w : World). at_number w.subscribers x) same.0 ∙ first.others x differs;
  made = λ x named. ap (λ (h : History). made_at h x) same.1 ∙ first.made x named;
}

pub asks-then : (site : SiteId) (m k n : Model) → AskStays site m k → AskStays site k n → AskStays site m n
asks-then site m k n first second = record {
  stays = stays-then site m k n first.stays second.stays;
  states = λ x differs. second.states x differs ∙ first.states x differs;
  moment = second.moment ∙ first.moment;
  empty = second.empty;
  still = λ empty. second.still first.empty ∙ first.still empty;
}

-- two things that are said of an exchange
module _ (publication : Publication) (says : Saying) (A B R S : Model → Type 0) (site : SiteId) where
  ends-both : (done : Model × Outcome) → Ends A R done → Ends B S done → Ends (λ (k : Model). A k × B k) (λ (k : Model). R k × S k) done
  ends-both (k, Took taken) a b = (a, b)
  ends-both (k, Refuses refusal) a b = tt
  ends-both (k, NoPost) a b = (a, b)
  ends-both (k, outcome) a b = absurd a

  pub answered-both : (done : Model × Outcome) → Answered publication says A R site done → Answered publication says B S site done → Answered publication says (λ (k : Model). A k × B k) (λ (k : Model). R k × S k) site done
  answered-both (k, Posted number) a b = ends-both (model_step publication says k (Deliver number)) a b
  answered-both (k, Refuses refusal) a b = tt
  answered-both (k, NoPost) a b = (a, b)
  answered-both (k, outcome) a b = absurd a

pub if-made : (b : Bool) (x y : History) (n : ℕ) → made_at x n ≡ made_at y n → made_at (if b then x else y) n ≡ made_at y n
if-made true x y n same = same
if-made false x y n same = refl

pub closed-still : (filling : Filling) → filling.filled ≡ 0 → (closed_filling filling).last_closed ≡ filling.last_closed
closed-still filling empty = grind (arith, nat_tests, empty)

either-rows : (rows : List (Key × ℕ)) (P : List (Key × ℕ) → Type 0) → P [] → ((row : Key × ℕ) (rest : List (Key × ℕ)) → P (row ∷ rest)) → P rows
either-rows [] P none some = none
either-rows (row ∷ rest) P none some = some row rest

module _ (publication : Publication) (says : Saying) (m : Model) (s : SubscriberTables) (at : subscriber_at m.world s.site ≡ Some s) where
  abbrev w : World
  w = m.world

  abbrev h : History
  h = m.history

  -- the site's tables were put twice: as the message was made, and as the reply came
  two-puts : (t u : SubscriberTables) (n : ℕ) → (n ≡ s.site.0 → ⊥) → u.site ≡ s.site → t.site ≡ s.site → at_number (with_subscriber t (with_subscriber u w)).subscribers n ≡ at_number w.subscribers n
  two-puts t u n differs first second =
      at_put_other t.site.0 n t (with_subscriber u w).subscribers (λ same. differs (same ∙ ap (λ (x : SiteId). x.0) second)) ∙ at_put_other u.site.0 n u w.subscribers (λ same. differs (same ∙ ap (λ (x : SiteId). x.0) first))

  pub upload-stays : Answered publication says (Stays s.site m) (Unmoved m) s.site (asking (model publication says) s.site SendUpload m)
  upload-stays =
      let Acts : Model → Type 0 = Stays s.site m in
      let Rests : Model → Type 0 = Unmoved m in
      let made_by_site : SubscriberJudge = by_made h s.site in
      let made : SubscriberTables × Upload = upload_sent made_by_site (subscriber_closed (subscriber_at_moment w.moment s)) in
      let u : SubscriberTables = made.0 in
      let a : Upload = made.1 in
      let v : World = with_subscriber u w in
      let k : Model = posted_model s.site (Asks (request.Upload a)) v h in
      let judge : PublisherJudge = by_past k.history (pasts_with k.history (length v.pool + 1)) in
      let decisions : List Decision = kept_decisions says w.tallies (upload_questions publication judge w.moment a w.publisher) in
      let q : PublisherTables = tables_after_upload publication judge a decisions (here k.world) in
      let d : Uploaded = told_by judge a in
      let x : World = uploaded_world publication says judge a q k.world in
      let noting : History = Noting.noted_upload publication judge a decisions (pasts_with k.history (length v.pool + 1)) (here k.world) k.history in
      let n : Model = posted_model s.site (Replies (reply.Uploaded d)) x noting in
      let own : SubscriberJudge = by_made n.history s.site in
      let there : subscriber_at v s.site ≡ Some u = at_put_same s.site.0 u w.subscribers in
      let act : Option (SubscriberTables × Upload) → World × Outcome = post_if_made s.site (λ (y : Upload). request.Upload y) w in
      let rows : List (Key × ℕ) → Type 0 = λ (unsent : List (Key × ℕ)). (let sent : Option (SubscriberTables × Upload) = elim unsent [ [] ↦ None | row ∷ rest ↦ Some made ] in After (Sent publication says Acts Rests s.site) (act sent) h h) in
      send-step publication says Acts Rests s.site m s SendUpload at
      (unless-step (Sent publication says Acts Rests s.site) w h (λ why. tt) (sending_refusal s) (upload_made made_by_site w.moment s) act h (λ fine.
      either-rows (unsent_rows made_by_site s) rows (refl, refl) (λ row rest.
      post-step (Sent publication says Acts Rests s.site) s.site (Asks (request.Upload a)) v h h
      (comes-step publication says Acts Rests s.site (Answered publication says Acts Rests s.site) s.site (Asks (request.Upload a)) v h
      (unless-step (Answered publication says Acts Rests s.site) k.world k.history (λ why. tt) (upload_refusal publication judge w.moment a w.publisher) (q, d) (λ (done : PublisherTables × Uploaded). post s.site (Replies (reply.Uploaded done.1)) (uploaded_world publication says judge a done.0 k.world)) noting (λ taken_in.
      post-step (Answered publication says Acts Rests s.site) s.site (Replies (reply.Uploaded d)) x noting k.history
      (back-step publication says Acts Rests s.site x noting u (reply.Uploaded d) there
      (reply-step publication says Acts Rests s.site n.world n.history own u (reply.Uploaded d) (ask.Upload s.received a.to) n.history (λ none. record {
        others = λ site differs. two-puts (tables_after_reply own w.moment (reply.Uploaded d) u) u site differs refl refl;
        made = λ site named. if-made (brings_news judge a) (Noting.with_acts_noted publication judge a (acts_in publication says judge a k.world) (pasts_with k.history (length v.pool + 1)) (here k.world) k.history) k.history site
            ((uploaded-alike publication says judge a (pasts_with k.history (length v.pool + 1)) k.world k.history).made site named);
      })))))))))

  pub download-stays : Answered publication says (AskStays s.site m) (λ k. ⊥) s.site (asking (model publication says) s.site SendDownload m)
  download-stays =
      let Acts : Model → Type 0 = AskStays s.site m in
      let Rests : Model → Type 0 = λ k. ⊥ in
      let u : SubscriberTables = with_message (ask.Download s.watermark) s in
      let a : Download = record { site = s.site; seq = s.seq + 1; from = s.watermark } in
      let v : World = with_subscriber u w in
      let k : Model = posted_model s.site (Asks (request.Download a)) v h in
      let judge : PublisherJudge = by_past k.history (pasts_with k.history (length v.pool + 1)) in
      let q : PublisherTables = tables_after_download a (here k.world) in
      let d : Downloaded = reply_to publication judge a q in
      let x : World = with_publisher q k.world in
      let n : Model = posted_model s.site (Replies (reply.Downloaded d)) x k.history in
      let own : SubscriberJudge = by_made n.history s.site in
      let there : subscriber_at v s.site ≡ Some u = at_put_same s.site.0 u w.subscribers in
      let incoming : List (Key × Past) = pasts_with n.history (length x.pool + 1) in
      let noting : History = Noting.noted_reply own s.site incoming (reply.Downloaded d) n.history in
      send-step publication says Acts Rests s.site m s SendDownload at
      (unless-step (Sent publication says Acts Rests s.site) w h (λ why. tt) (sending_refusal s) (u, a) (λ (made : SubscriberTables × Download). post s.site (Asks (request.Download made.1)) (with_subscriber made.0 w)) h (λ fine.
      post-step (Sent publication says Acts Rests s.site) s.site (Asks (request.Download a)) v h h
      (comes-step publication says Acts Rests s.site (Answered publication says Acts Rests s.site) s.site (Asks (request.Download a)) v h
      (unless-step (Answered publication says Acts Rests s.site) k.world k.history (λ why. tt) (download_refusal publication w.moment a w.publisher) (q, d) (λ (made : PublisherTables × Downloaded). post s.site (Replies (reply.Downloaded made.1)) (with_publisher made.0 k.world)) k.history (λ taken_in.
      post-step (Answered publication says Acts Rests s.site) s.site (Replies (reply.Downloaded d)) x k.history k.history
      (back-step publication says Acts Rests s.site x k.history u (reply.Downloaded d) there
      (reply-step publication says Acts Rests s.site n.world n.history own u (reply.Downloaded d) (ask.Download s.watermark) noting (λ none. record {
        stays = record {
          others = λ site differs. two-puts (tables_after_reply own w.moment (reply.Downloaded d) u) u site differs refl refl;
          made = λ site named. ap (λ (made : List MadeChange). filter (λ (change : MadeChange). change.dot.site.0 == site) made) (taker-made (by_history n.history) s.site incoming (reply.Downloaded d) (Some u) n.history);
        };
        states = λ site differs. at_put_other s.site.0 site (state_after_download a (here k.world) (state_of (here k.world) s.site)) w.publisher.sites differs;
        moment = refl;
        empty = filling-closed w.publisher.gens.filling;
        still = λ empty. closed-still w.publisher.gens.filling empty;
      }))))))))
