-- What an exchange of a session leaves as it was: the tables of other sites, what the publisher has of them, and where the publisher
-- has nothing open its generations.
use Rattle.std.specs.Prelude.{Bool, List, None, Option, Some, [], false, if◌then◌else◌, length, map, refl, true, ℕ, ◌+◌, ◌∷◌, ◌≡◌}
use Rattle.std.proofs.Common.{ap, subst, sym, ◌∙◌}
use Rattle.merge_types.specs.declared.identifiers.SiteId.{SiteId}
use Rattle.merge_types.specs.declared.row_key.RowKey.{RowKey as Key}
use Rattle.merge_ident.specs.Holders.{Holder}
use Rattle.merge_schema.specs.declared.publication.Publication.{Publication}
use Rattle.merge_batch.specs.declared.refusal.Refusal.TheVariants.{UnknownSite}
use Rattle.merge_batch.specs.declared.reply.Joined.{Joined}
use Rattle.merge_batch.specs.declared.reply.Ranged.{Ranged}
use Rattle.merge_batch.specs.declared.reply.Reply.TheVariants as reply
use Rattle.merge_batch.specs.declared.request.Join.{Join}
use Rattle.merge_batch.specs.declared.request.Outstanding.TheVariants as ask
use Rattle.merge_batch.specs.declared.request.RangeAsk.{RangeAsk}
use Rattle.merge_batch.specs.declared.request.Request.TheVariants as request
use Rattle.merge_batch.specs.declared.request.Upload.{Upload}
use Rattle.merge_model.specs.History.{History, made_at, pasts_with}
use Rattle.merge_model.specs.History.Model.{Model, model, model_step}
use Rattle.merge_model.specs.History.Noting
use Rattle.merge_model.specs.Judge.ByHistory.{by_history, by_made, by_past}
use Rattle.merge_model.specs.Judge.{PublisherJudge, SubscriberJudge}
use Rattle.merge_model.specs.Publisher.{last_closed}
use Rattle.merge_model.specs.Publisher.PublisherJoin.{join_acts, join_refusal, tables_after_join}
use Rattle.merge_model.specs.Publisher.PublisherRanges.{plans, ranges_refusal, reply_to_ranges, with_grants}
use Rattle.merge_model.specs.Subscriber.Sending.{join_made, join_of, ranges_made, sending_refusal, unsent_rows, upload_made, upload_sent, want_of, with_message}
use Rattle.merge_model.specs.Subscriber.Taking.{tables_after_reply}
use Rattle.merge_model.specs.Subscriber.{subscriber_at_moment, subscriber_closed, subscriber_counters}
use Rattle.merge_model.specs.Tables.Keys.{at_number}
use Rattle.merge_model.specs.Tables.Refusals.{counter_end}
use Rattle.merge_model.specs.Tables.{PublisherTables, SubscriberTables}
use Rattle.merge_model.specs.World.Session.{ask as asking}
use Rattle.merge_model.specs.World.Steps.{Deliver, SendDownload, SendJoin, SendRanges, SendUpload, Sending, post, post_if_made, send_from}
use Rattle.merge_model.specs.World.{Saying, World, subscriber_at, with_publisher, with_subscriber}
use Rattle.merge_model.specs.declared.letter.Message.TheVariants.{Asks, Replies}
use Rattle.merge_model.specs.declared.outcome.Outcome.{Outcome}
use Rattle.merge_model.specs.declared.outcome.Outcome.TheVariants.{NoPost, Posted, Refuses, Took}
use Rattle.merge_model.proofs.Lists.Finding.{at_put_other, at_put_same}
use Rattle.merge_laws.proofs.Numbered.Tellings.{joined-alike}
use Rattle.merge_laws.proofs.Sessions.RoundStays.{AskStays, Stays, Unmoved, download-stays, if-made, stays-itself, stays-then, stays-unmoved, upload-stays}
use Rattle.merge_laws.proofs.Sessions.SessionLaw.{At, Known, own, same-site}
use Rattle.merge_laws.proofs.Sessions.SessionSteps.{After, Answered, Ends, Sent, back-step, comes-step, post-step, posted_model, reply-step, send-step, unless-step}
use Rattle.merge_laws.proofs.Walking.{here, join_noted}

-- of a session in which the site has nothing to send
pub record Calm (site : SiteId) (m k : Model) : Type 0 where
  pub stays : Stays site m k
  -- what the publisher has of other sites, and the moment
  pub states : (n : ℕ) → (n ≡ site.0 → ⊥) → at_number k.world.publisher.sites n ≡ at_number m.world.publisher.sites n
  pub moment : k.world.moment ≡ m.world.moment
  -- an open generation that is empty is so still, and none has closed
  pub open_stays : m.world.publisher.gens.filling.filled ≡ 0 → (k.world.publisher.gens.filling.filled ≡ 0) × (last_closed k.world.publisher ≡ last_closed m.world.publisher)

pub calm-itself : (site : SiteId) (m : Model) → Calm site m m
calm-itself site m = record { stays = stays-itself site m; states = λ n differs. refl; moment = refl; open_stays = λ empty. (empty, refl) }

pub calm-then : (site : SiteId) (m k n : Model) → Calm site m k → Calm site k n → Calm site m n
calm-then site m k n first second = record {
  stays = stays-then site m k n first.stays second.stays;
  states = λ x differs. second.states x differs ∙ first.states x differs;
  moment = second.moment ∙ first.moment;
  open_stays = λ empty. (let one = first.open_stays empty in let other = second.open_stays one.0 in (other.0, other.1 ∙ one.1));
}

pub calm-unmoved : (site : SiteId) (m k : Model) → Unmoved m k → Calm site m k
calm-unmoved site m k same = record {
  stays = stays-unmoved site m m k (stays-itself site m) same;
  states = λ n differs. ap (λ (w : World). at_number w.publisher.sites n) same.0;
  moment = ap (λ (w : World). w.moment) same.0;
  open_stays = λ empty. (ap (λ (w : World). w.publisher.gens.filling.filled) same.0 ∙ empty, ap (λ (w : World). last_closed w.publisher) same.0);
}

calm-asked : (site : SiteId) (m k : Model) → AskStays site m k → Calm site m k
calm-asked site m k a = record { stays = a.stays; states = a.states; moment = a.moment; open_stays = λ empty. (a.empty, a.still empty) }

-- what is said of an exchange, more weakly
module _ (publication : Publication) (says : Saying) (A B R S : Model → Type 0) (site : SiteId) (acts : (k : Model) → A k → B k) (rests : (k : Model) → R k → S k) where
  ends-weaker : (done : Model × Outcome) → Ends A R done → Ends B S done
  ends-weaker (k, Took taken) a = acts k a
  ends-weaker (k, Refuses refusal) a = tt
  ends-weaker (k, NoPost) a = rests k a
  ends-weaker (k, outcome) a = absurd a

  answered-weaker : (done : Model × Outcome) → Answered publication says A R site done → Answered publication says B S site done
  answered-weaker (k, Posted number) a = ends-weaker (model_step publication says k (Deliver number)) a
  answered-weaker (k, Refuses refusal) a = tt
  answered-weaker (k, NoPost) a = rests k a
  answered-weaker (k, outcome) a = absurd a

module _ (publication : Publication) (says : Saying) (m : Model) (s : SubscriberTables) (at : subscriber_at m.world s.site ≡ Some s) where
  abbrev w : World
  w = m.world

  abbrev h : History
  h = m.history

  two-puts : (t u : SubscriberTables) (n : ℕ) → (n ≡ s.site.0 → ⊥) → u.site ≡ s.site → t.site ≡ s.site → at_number (with_subscriber t (with_subscriber u w)).subscribers n ≡ at_number w.subscribers n
  two-puts t u n differs first second =
      at_put_other t.site.0 n t (with_subscriber u w).subscribers (λ same. differs (same ∙ ap (λ (x : SiteId). x.0) second)) ∙ at_put_other u.site.0 n u w.subscribers (λ same. differs (same ∙ ap (λ (x : SiteId). x.0) first))

  pub join-stays : Answered publication says (Stays s.site m) (Stays s.site m) s.site (asking (model publication says) s.site SendJoin m)
  join-stays =
      let Acts : Model → Type 0 = Stays s.site m in
      let u : SubscriberTables = with_message ask.Join s in
      let a : Join = join_of s in
      let v : World = with_subscriber u w in
      let k : Model = posted_model s.site (Asks (request.Join a)) v h in
      let judge : PublisherJudge = by_past k.history (pasts_with k.history (length v.pool + 1)) in
      let q : PublisherTables = tables_after_join a (here k.world) in
      let d : Joined = record { seq = a.seq } in
      let x : World = with_publisher q k.world in
      let noting : History = Noting.noted_join judge a w.publisher k.history in
      let n : Model = posted_model s.site (Replies (reply.Joined d)) x noting in
      let own : SubscriberJudge = by_made n.history s.site in
      let there : subscriber_at v s.site ≡ Some u = at_put_same s.site.0 u w.subscribers in
      let act : Option (SubscriberTables × Join) → World × Outcome = post_if_made s.site (λ (y : Join). request.Join y) w in
      send-step publication says Acts Acts s.site m s SendJoin at
      (unless-step (Sent publication says Acts Acts s.site) w h (λ why. tt) (counter_end (subscriber_counters s)) (join_made s) act h (λ fine.
      elim s.is_joined as (λ (b : Bool). (let made : Option (SubscriberTables × Join) = if b then None else Some (u, a) in After (Sent publication says Acts Acts s.site) (act made) h h)) [
        | true ↦ stays-itself s.site m
        | false ↦
            post-step (Sent publication says Acts Acts s.site) s.site (Asks (request.Join a)) v h h
            (comes-step publication says Acts Acts s.site (Answered publication says Acts Acts s.site) s.site (Asks (request.Join a)) v h
            (unless-step (Answered publication says Acts Acts s.site) k.world k.history (λ why. tt) (join_refusal publication a w.publisher) (q, d) (λ (made : PublisherTables × Joined). post s.site (Replies (reply.Joined made.1)) (with_publisher made.0 k.world)) noting (λ taken_in.
            post-step (Answered publication says Acts Acts s.site) s.site (Replies (reply.Joined d)) x noting k.history
            (back-step publication says Acts Acts s.site x noting u (reply.Joined d) there
            (reply-step publication says Acts Acts s.site n.world n.history own u (reply.Joined d) ask.Join n.history (λ none. record {
              others = λ site differs. two-puts (tables_after_reply own w.moment (reply.Joined d) u) u site differs refl refl;
              made = λ site named. if-made (join_acts a w.publisher) (join_noted judge a w.publisher k.history) k.history site ((joined-alike publication says k.history judge a w.publisher).made site named);
            }))))))
      ]))

  pub ranges-calm : Answered publication says (Calm s.site m) (Calm s.site m) s.site (asking (model publication says) s.site SendRanges m)
  ranges-calm =
      let Acts : Model → Type 0 = Calm s.site m in
      let u : SubscriberTables = with_message ask.Ranges s in
      let a : RangeAsk = record { site = s.site; seq = s.seq + 1; wants = map want_of s.held } in
      let v : World = with_subscriber u w in
      let k : Model = posted_model s.site (Asks (request.Ranges a)) v h in
      let judge : PublisherJudge = by_past k.history (pasts_with k.history (length v.pool + 1)) in
      let q : PublisherTables = with_grants (plans publication a w.publisher) (here k.world) in
      let d : Ranged = reply_to_ranges a (plans publication a w.publisher) in
      let x : World = with_publisher q k.world in
      let n : Model = posted_model s.site (Replies (reply.Ranged d)) x k.history in
      let own : SubscriberJudge = by_made n.history s.site in
      let there : subscriber_at v s.site ≡ Some u = at_put_same s.site.0 u w.subscribers in
      let act : Option (SubscriberTables × RangeAsk) → World × Outcome = post_if_made s.site (λ (y : RangeAsk). request.Ranges y) w in
      send-step publication says Acts Acts s.site m s SendRanges at
      (unless-step (Sent publication says Acts Acts s.site) w h (λ why. tt) (sending_refusal s) (ranges_made s) act h (λ fine.
      elim s.held as (λ (held : List (ℕ × Holder)). (let made : Option (SubscriberTables × RangeAsk) = elim held [ [] ↦ None | entry ∷ entries ↦ Some (u, a) ] in After (Sent publication says Acts Acts s.site) (act made) h h)) [
        | [] ↦ calm-itself s.site m
        | entry ∷ entries ↦
            post-step (Sent publication says Acts Acts s.site) s.site (Asks (request.Ranges a)) v h h
            (comes-step publication says Acts Acts s.site (Answered publication says Acts Acts s.site) s.site (Asks (request.Ranges a)) v h
            (unless-step (Answered publication says Acts Acts s.site) k.world k.history (λ why. tt) (ranges_refusal publication judge w.moment a w.publisher) (q, d) (λ (made : PublisherTables × Ranged). post s.site (Replies (reply.Ranged made.1)) (with_publisher made.0 k.world)) k.history (λ taken_in.
            post-step (Answered publication says Acts Acts s.site) s.site (Replies (reply.Ranged d)) x k.history k.history
            (back-step publication says Acts Acts s.site x k.history u (reply.Ranged d) there
            (reply-step publication says Acts Acts s.site n.world n.history own u (reply.Ranged d) ask.Ranges n.history (λ none. record {
              stays = record { others = λ site differs. two-puts (tables_after_reply own w.moment (reply.Ranged d) u) u site differs refl refl; made = λ site named. refl };
              states = λ site differs. refl;
              moment = refl;
              open_stays = λ empty. (empty, refl);
            }))))))
      ]))

  -- Of an upload where nothing is unsent, there is no message to make.
  pub nothing-sent : unsent_rows (by_made h s.site) s ≡ [] → Answered publication says (λ k. ⊥) (Unmoved m) s.site (asking (model publication says) s.site SendUpload m)
  nothing-sent nothing =
      let Acts : Model → Type 0 = λ k. ⊥ in
      let made : SubscriberTables × Upload = upload_sent (by_made h s.site) (subscriber_closed (subscriber_at_moment w.moment s)) in
      let act : Option (SubscriberTables × Upload) → World × Outcome = post_if_made s.site (λ (y : Upload). request.Upload y) w in
      send-step publication says Acts (Unmoved m) s.site m s SendUpload at
      (unless-step (Sent publication says Acts (Unmoved m) s.site) w h (λ why. tt) (sending_refusal s) (upload_made (by_made h s.site) w.moment s) act h (λ fine.
      subst (λ (unsent : List (Key × ℕ)). (let sent : Option (SubscriberTables × Upload) = elim unsent [ [] ↦ None | row ∷ rest ↦ Some made ] in After (Sent publication says Acts (Unmoved m) s.site) (act sent) h h)) (sym nothing) (refl, refl)))

  pub upload-leaves-others : Answered publication says (Stays s.site m) (Stays s.site m) s.site (asking (model publication says) s.site SendUpload m)
  upload-leaves-others = answered-weaker publication says (Stays s.site m) (Stays s.site m) (Unmoved m) (Stays s.site m) s.site (λ k a. a) (λ k same. stays-unmoved s.site m m k (stays-itself s.site m) same) (asking (model publication says) s.site SendUpload m)
      (upload-stays publication says m s at)

  pub download-calm : Answered publication says (Calm s.site m) (Calm s.site m) s.site (asking (model publication says) s.site SendDownload m)
  download-calm = answered-weaker publication says (AskStays s.site m) (Calm s.site m) (λ k. ⊥) (Calm s.site m) s.site (λ k a. calm-asked s.site m k a) (λ k never. absurd never) (asking (model publication says) s.site SendDownload m)
      (download-stays publication says m s at)

  calm-others : (sending : Sending) → Answered publication says (Calm s.site m) (Calm s.site m) s.site (asking (model publication says) s.site sending m) → Answered publication says (Stays s.site m) (Stays s.site m) s.site (asking (model publication says) s.site sending m)
  calm-others sending answered = answered-weaker publication says (Calm s.site m) (Stays s.site m) (Calm s.site m) (Stays s.site m) s.site (λ k a. a.stays) (λ k a. a.stays) (asking (model publication says) s.site sending m) answered

  pub leaves-others : (sending : Sending) → Answered publication says (Stays s.site m) (Stays s.site m) s.site (asking (model publication says) s.site sending m)
  leaves-others SendJoin = join-stays
  leaves-others SendUpload = upload-leaves-others
  leaves-others SendRanges = calm-others SendRanges ranges-calm
  leaves-others SendDownload = calm-others SendDownload download-calm

-- Whether or not there are tables of the site: where there are none, it is refused.
module _ (publication : Publication) (says : Saying) (R : SiteId → Model → Model → Type 0) (sending : Sending) (each : (k : Model) (s : SubscriberTables) → subscriber_at k.world s.site ≡ Some s → Answered publication says (R s.site k) (R s.site k) s.site (asking (model publication says) s.site sending k)) (site : SiteId) (k : Model) (known : Known publication says site k) where
  found-goes : (found : Option SubscriberTables) → subscriber_at k.world site ≡ found → Answered publication says (R site k) (R site k) site (asking (model publication says) site sending k)
  found-goes None is = subst (λ (found : Option SubscriberTables). (let done : World × Outcome = elim found [ None ↦ (k.world, Refuses (UnknownSite site)) | Some t ↦ send_from (by_history k.history) sending k.world t ] in After (Sent publication says (R site k) (R site k) site) done k.history k.history)) (sym is) tt
  found-goes (Some s) is =
      let a : At publication says site k = record { tables = s; known = known; here = is } in
      subst (λ (x : SiteId). Answered publication says (R x k) (R x k) x (asking (model publication says) x sending k)) (same-site publication says site k a) (each k s (own publication says site k a))

  pub goes : Answered publication says (R site k) (R site k) site (asking (model publication says) site sending k)
  goes = found-goes (subscriber_at k.world site) refl
