-- The messages of a session: each is fresh as it is delivered, so that it is refused for a counter's end or too many rows alone, and its
-- reply is never refused.
use Rattle.std.specs.List.{fold, list_any}
use Rattle.std.specs.Prelude.{Bool, List, None, Option, Some, [], count_by, false, if◌then◌else◌, length, map, max, nat_le, nat_lt, not, refl, suc, true, unwrap_or, ℕ, ◌&&◌, ◌+◌, ◌<◌, ◌≡◌, ◌≤◌, ◌∷◌}
use Rattle.std.proofs.Common.{ap, arith, inl, inr, length-append, subst, sym, ◌∙◌}
use Rattle.std.proofs.lemmas.Bool.Decides.{nat_tests}
use Rattle.merge_types.specs.Limits.{counter_limit, rows_limit}
use Rattle.merge_types.specs.declared.identifiers.Moment.{Moment}
use Rattle.merge_types.specs.declared.identifiers.SiteId.{SiteId}
use Rattle.merge_types.specs.declared.row_key.RowKey.{RowKey as Key}
use Rattle.merge_gens.specs.Retention.{is_expired}
use Rattle.merge_gens.specs.declared.sites.SiteState.{SiteState}
use Rattle.merge_ident.specs.Holders.{Holder}
use Rattle.merge_schema.specs.declared.publication.Publication.{Publication}
use Rattle.merge_batch.specs.declared.refusal.Refusal.{Refusal}
use Rattle.merge_batch.specs.declared.refusal.Refusal.TheVariants.{CounterEnd, Expired, Joining, Stale, TooManyRows, UnknownSite}
use Rattle.merge_batch.specs.declared.reply.Downloaded.{Downloaded}
use Rattle.merge_batch.specs.declared.reply.Joined.{Joined}
use Rattle.merge_batch.specs.declared.reply.Ranged.{Ranged}
use Rattle.merge_batch.specs.declared.reply.Reply.{Reply}
use Rattle.merge_batch.specs.declared.reply.Reply.TheVariants as reply
use Rattle.merge_batch.specs.declared.reply.Uploaded.{Uploaded}
use Rattle.merge_batch.specs.declared.request.Download.{Download}
use Rattle.merge_batch.specs.declared.request.Join.{Join}
use Rattle.merge_batch.specs.declared.request.Outstanding.TheVariants as ask
use Rattle.merge_batch.specs.declared.request.RangeAsk.{RangeAsk}
use Rattle.merge_batch.specs.declared.request.Request.{Request}
use Rattle.merge_batch.specs.declared.request.Request.TheVariants as request
use Rattle.merge_batch.specs.declared.request.Upload.{Upload}
use Rattle.merge_model.specs.Publisher.Acts.{Act, acts_of}
use Rattle.merge_model.specs.Judge.ByHistory.{by_history, by_made}
use Rattle.merge_model.specs.History.{History}
use Rattle.merge_model.specs.Judge.{PublisherJudge, SubscriberJudge}
use Rattle.merge_model.specs.Tables.Keys.{at_number}
use Rattle.merge_model.specs.History.Model.{Model, did_something, model_step, noted_action, noted_if, noted_letter, with_posted}
use Rattle.merge_model.specs.Laws.Promises.{is_expired_at}
use Rattle.merge_model.specs.Publisher.{counters, later, no_state, state_of}
use Rattle.merge_model.specs.Publisher.PublisherDownload.{download_refusal, reply_to, tables_after_download}
use Rattle.merge_model.specs.Publisher.PublisherJoin.{join_refusal, tables_after_join}
use Rattle.merge_model.specs.Publisher.PublisherRanges.{plans, ranges_refusal, reply_to_ranges, with_grants}
use Rattle.merge_model.specs.Publisher.PublisherUpload.{is_new, tables_after_upload, too_many_new, upload_refusal}
use Rattle.merge_model.specs.Tables.Refusals.{counter_end, first_refusal, refused_if, unless}
use Rattle.merge_model.specs.Subscriber.Sending.{join_made, join_of, ranges_made, sending_refusal, unsent_rows, upload_made, upload_sent, want_of, with_message}
use Rattle.merge_model.specs.World.Steps.{Deliver, Send, SendDownload, SendJoin, SendRanges, SendUpload, Sending, deliver_letter, deliver_request, kept_decisions, post, post_if_made, send_from, step_by, unless_refused, upload_questions}
use Rattle.merge_model.specs.Subscriber.{subscriber_at_moment, subscriber_closed, subscriber_counters}
use Rattle.merge_model.specs.Tables.{PublisherTables, SubscriberTables}
use Rattle.merge_model.specs.World.{Saying, World, letter_at, subscriber_at, with_publisher, with_subscriber}
use Rattle.merge_model.specs.declared.letter.Letter.{Letter}
use Rattle.merge_model.specs.declared.letter.Message.{Message}
use Rattle.merge_model.specs.declared.letter.Message.TheVariants.{Asks, Replies}
use Rattle.merge_model.specs.declared.outcome.Outcome.{Outcome}
use Rattle.merge_model.specs.declared.outcome.Outcome.TheVariants.{NoLetter, Posted, Refuses}
use Rattle.merge_model.proofs.Runs.Refused.{step_by-leaves}
use Rattle.merge_laws.specs.Laws.Effects.{history_judge}
use Rattle.merge_laws.proofs.Sessions.SessionSteps.{After, letter-there, post-step, posted_model, unless-step}
use Rattle.merge_laws.proofs.Settled.SettledExpired.{expired_in}
use Rattle.merge_laws.proofs.Walking.{here, letter-last, told_by, uploaded_world}
use Rattle.merge_honest.specs.Delivered.{IsRequest}
use Rattle.merge_honest.specs.Finished.{EndsFor}
use Rattle.merge_honest.specs.Replied.{IsReply}
use Rattle.merge_honest.specs.Taken.{HonestAreTaken, IsAnswered, expiry, reasons, staleness}

-- What refuses.

refused-is : (b : Bool) (refusal why : Refusal) → refused_if b refusal ≡ Some why → why ≡ refusal
refused-is true refusal why is = cc
refused-is false refusal why is = absurd cc

refused-not : (b : Bool) (refusal : Refusal) → b ≡ false → refused_if b refusal ≡ None
refused-not true refusal none = absurd cc
refused-not false refusal none = refl

first-passed : (refusal : Option Refusal) (rest : List (Option Refusal)) → refusal ≡ None → first_refusal (refusal ∷ rest) ≡ first_refusal rest
first-passed None rest none = refl
first-passed (Some why) rest none = absurd cc

first-only : (refusal : Option Refusal) → first_refusal (refusal ∷ []) ≡ refusal
first-only None = refl
first-only (Some why) = refl

pub record IsCounterEnd (counted : List ℕ) (why : Refusal) : Type 0 where
  pub value : ℕ
  pub is : why ≡ CounterEnd value
  pub ends : counter_end counted ≡ Some (CounterEnd value)

some-why : (a b : Refusal) → Some a ≡ Some b → a ≡ b
some-why a b e = cc

greatest : List ℕ → ℕ
greatest counted = fold max 0 counted

counter-is : (counted : List ℕ) (why : Refusal) → counter_end counted ≡ Some why → IsCounterEnd counted why
unfolding greatest
counter-is counted why is =
    let named : why ≡ CounterEnd (greatest counted) = refused-is (nat_le counter_limit (greatest counted)) (CounterEnd (greatest counted)) why is in
    record { value = greatest counted; is = named; ends = is ∙ ap (λ (r : Refusal). (let found : Option Refusal = Some r in found)) named }

-- A step that is made where nothing refuses it, of a refusal that is known.
unless-known : {A : Type 0} (K : Model × Outcome → Type 0) (w : World) (h : History) (fault : Option Refusal) → ((why : Refusal) → fault ≡ Some why → K (record { world = w; history = h }, Refuses why))
    → (a : A) (act : A → World × Outcome) (noting : History) → (fault ≡ None → After K (act a) noting h) → After K (unless_refused w (unless fault a) act) noting h
unless-known K w h (Some why) refused a act noting holds = refused why refl
unless-known K w h None refused a act noting holds = holds refl

pool-grows : (site : SiteId) (message : Message) (w : World) → length w.pool + 1 ≡ length (post site message w).0.pool
pool-grows site message w = let letter : Letter = record { site = site; message = message } in sym (length-append w.pool (letter ∷ []))

-- A request that is fresh: it is of the site, was made behind the site's last join, and but for a join its site is not expired.

module _ (publication : Publication) (says : Saying) where
  abbrev pub InTime : SiteId → Model → Type 0
  InTime site k = is_expired_at publication k.world site ≡ false

  pub record IsNewer (k : Model) (site told : SiteId) (seq : ℕ) : Type 0 where
    pub same : told ≡ site
    pub behind : (state_of k.world.publisher site).joined_at < seq

  abbrev pub IsFresh : Model → SiteId → Request → Type 0
  IsFresh k site (request.Join m) = IsNewer k site m.site m.seq
  IsFresh k site (request.Upload m) = IsNewer k site m.site m.seq × InTime site k
  IsFresh k site (request.Ranges m) = IsNewer k site m.site m.seq × InTime site k
  IsFresh k site (request.Download m) = IsNewer k site m.site m.seq × InTime site k

  pub record FreshLetter (k : Model) (site : SiteId) (number : ℕ) : Type 0 where
    pub sent : Request
    pub at : IsRequest k number site sent
    pub last : number ≡ length k.world.pool
    pub fresh : IsFresh k site sent

  -- what a message of the site comes to
  abbrev pub Asked : SiteId → Model × Outcome → Type 0
  Asked site (k, Posted number) = FreshLetter k site number
  Asked site (k, Refuses why) = EndsFor k site why
  Asked site (k, outcome) = Unit {0}

  module _ (m : Model) (s : SubscriberTables) (at : subscriber_at m.world s.site ≡ Some s) (behind : (state_of m.world.publisher s.site).joined_at ≤ s.seq) where
    abbrev w : World
    w = m.world

    abbrev h : History
    h = m.history

    abbrev K : Model × Outcome → Type 0
    K = Asked s.site

    own-ends : (why : Refusal) → counter_end (subscriber_counters s) ≡ Some why → EndsFor m s.site why
    own-ends why is = (let c = counter-is (subscriber_counters s) why is in subst (EndsFor m s.site) (sym c.is) (inr (record { tables = s; here = at; ends = c.ends })))

    unjoined : (b : Bool) → b ≡ true → not b ≡ false
    unjoined true is = refl
    unjoined false is = absurd cc

    sending-ends : s.is_joined ≡ true → (why : Refusal) → sending_refusal s ≡ Some why → EndsFor m s.site why
    sending-ends joined why is =
        let none : refused_if (not s.is_joined) Joining ≡ None = refused-not (not s.is_joined) Joining (unjoined s.is_joined joined) in
        own-ends why (sym (first-only (counter_end (subscriber_counters s))) ∙ sym (first-passed (refused_if (not s.is_joined) Joining) (counter_end (subscriber_counters s) ∷ []) none) ∙ is)

    newer : (message : Message) (u : SubscriberTables) → IsNewer (posted_model s.site message (with_subscriber u w) h) s.site s.site (s.seq + 1)
    newer message u = record { same = refl; behind = omega (arith, behind) }

    fresh-put : (r : Request) (u : SubscriberTables) → IsFresh (posted_model s.site (Asks r) (with_subscriber u w) h) s.site r → After K (post s.site (Asks r) (with_subscriber u w)) h h
    fresh-put r u fresh = post-step K s.site (Asks r) (with_subscriber u w) h h (record { sent = r; at = letter-there s.site (Asks r) (with_subscriber u w); last = pool-grows s.site (Asks r) (with_subscriber u w); fresh = fresh })

    step-made : (sending : Sending) → After K (send_from (by_history h) sending w s) h h → K (model_step publication says m (Send s.site sending))
    step-made sending holds =
        subst (λ (found : Option SubscriberTables). (let done : World × Outcome = elim found [ None ↦ (w, Refuses (UnknownSite s.site)) | Some t ↦ send_from (by_history h) sending w t ] in After K done h h)) (sym at) holds

    pub join-asked : s.is_joined ≡ false → Asked s.site (model_step publication says m (Send s.site SendJoin))
    join-asked joining =
        let u : SubscriberTables = with_message ask.Join s in
        let act : Option (SubscriberTables × Join) → World × Outcome = post_if_made s.site (λ (y : Join). request.Join y) w in
        step-made SendJoin
        (unless-known K w h (counter_end (subscriber_counters s)) own-ends (join_made s) act h (λ fine.
        subst (λ (b : Bool). (let made : Option (SubscriberTables × Join) = if b then None else Some (u, join_of s) in After K (act made) h h)) (sym joining)
        (fresh-put (request.Join (join_of s)) u (newer (Asks (request.Join (join_of s))) u))))

    module _ (joined : s.is_joined ≡ true) (in_time : InTime s.site m) where
      pub upload-asked : Asked s.site (model_step publication says m (Send s.site SendUpload))
      upload-asked =
          let judge : SubscriberJudge = by_made h s.site in
          let made : SubscriberTables × Upload = upload_sent judge (subscriber_closed (subscriber_at_moment w.moment s)) in
          let act : Option (SubscriberTables × Upload) → World × Outcome = post_if_made s.site (λ (y : Upload). request.Upload y) w in
          step-made SendUpload
          (unless-known K w h (sending_refusal s) (sending-ends joined) (upload_made judge w.moment s) act h (λ fine.
          elim (unsent_rows judge s) as (λ (rows : List (Key × ℕ)). (let sent : Option (SubscriberTables × Upload) = elim rows [ [] ↦ None | row ∷ rest ↦ Some made ] in After K (act sent) h h)) [
            | [] ↦ tt
            | row ∷ rest ↦ fresh-put (request.Upload made.1) made.0 (newer (Asks (request.Upload made.1)) made.0, in_time)
          ]))

      pub ranges-asked : Asked s.site (model_step publication says m (Send s.site SendRanges))
      ranges-asked =
          let u : SubscriberTables = with_message ask.Ranges s in
          let a : RangeAsk = record { site = s.site; seq = s.seq + 1; wants = map want_of s.held } in
          let act : Option (SubscriberTables × RangeAsk) → World × Outcome = post_if_made s.site (λ (y : RangeAsk). request.Ranges y) w in
          step-made SendRanges
          (unless-known K w h (sending_refusal s) (sending-ends joined) (ranges_made s) act h (λ fine.
          elim s.held as (λ (held : List (ℕ × Holder)). (let made : Option (SubscriberTables × RangeAsk) = elim held [ [] ↦ None | entry ∷ entries ↦ Some (u, a) ] in After K (act made) h h)) [
            | [] ↦ tt
            | entry ∷ entries ↦ fresh-put (request.Ranges a) u (newer (Asks (request.Ranges a)) u, in_time)
          ]))

      pub download-asked : Asked s.site (model_step publication says m (Send s.site SendDownload))
      download-asked =
          let u : SubscriberTables = with_message (ask.Download s.watermark) s in
          let a : Download = record { site = s.site; seq = s.seq + 1; from = s.watermark } in
          step-made SendDownload
          (unless-known K w h (sending_refusal s) (sending-ends joined) (u, a) (λ (made : SubscriberTables × Download). post s.site (Asks (request.Download made.1)) (with_subscriber made.0 w)) h (λ fine.
          fresh-put (request.Download a) u (newer (Asks (request.Download a)) u, in_time)))

  -- The publisher answers with a reply.

  abbrev pub Replied : SiteId → Model × Outcome → Type 0
  Replied site (k, Posted number) = (r : Reply) × IsReply k number site r
  Replied site (k, outcome) = Unit {0}

  module _ (k : Model) (number : ℕ) (site : SiteId) where
    abbrev judge : PublisherJudge
    judge = history_judge k number

    reply-put : (v : World) (noting : History) (r : Reply) → After (Replied site) (post site (Replies r) v) noting k.history
    reply-put v noting r = post-step (Replied site) site (Replies r) v noting k.history (r, letter-there site (Replies r) v)

    request-replied : (r : Request) (noting : History) → After (Replied site) (deliver_request publication says judge site r k.world) noting k.history
    request-replied (request.Join m) noting = unless-step (Replied site) k.world k.history (λ why. tt) (join_refusal publication m k.world.publisher) (tables_after_join m (here k.world), record { seq = m.seq })
        (λ (made : PublisherTables × Joined). post site (Replies (reply.Joined made.1)) (with_publisher made.0 k.world)) noting (λ fine. reply-put (with_publisher (tables_after_join m (here k.world)) k.world) noting (reply.Joined (record { seq = m.seq })))
    request-replied (request.Upload m) noting =
        let q : PublisherTables = tables_after_upload publication judge m (kept_decisions says k.world.tallies (upload_questions publication judge k.world.moment m k.world.publisher)) (here k.world) in
        unless-step (Replied site) k.world k.history (λ why. tt) (upload_refusal publication judge k.world.moment m k.world.publisher) (q, told_by judge m)
        (λ (made : PublisherTables × Uploaded). post site (Replies (reply.Uploaded made.1)) (uploaded_world publication says judge m made.0 k.world)) noting (λ fine. reply-put (uploaded_world publication says judge m q k.world) noting (reply.Uploaded (told_by judge m)))
    request-replied (request.Ranges m) noting =
        let q : PublisherTables = with_grants (plans publication m k.world.publisher) (here k.world) in
        unless-step (Replied site) k.world k.history (λ why. tt) (ranges_refusal publication judge k.world.moment m k.world.publisher) (q, reply_to_ranges m (plans publication m k.world.publisher))
        (λ (made : PublisherTables × Ranged). post site (Replies (reply.Ranged made.1)) (with_publisher made.0 k.world)) noting (λ fine. reply-put (with_publisher q k.world) noting (reply.Ranged (reply_to_ranges m (plans publication m k.world.publisher))))
    request-replied (request.Download m) noting =
        let q : PublisherTables = tables_after_download m (here k.world) in
        unless-step (Replied site) k.world k.history (λ why. tt) (download_refusal publication k.world.moment m k.world.publisher) (q, reply_to publication judge m q)
        (λ (made : PublisherTables × Downloaded). post site (Replies (reply.Downloaded made.1)) (with_publisher made.0 k.world)) noting (λ fine. reply-put (with_publisher q k.world) noting (reply.Downloaded (reply_to publication judge m q)))

    pub deliver-replied : (r : Request) → IsRequest k number site r → Replied site (model_step publication says k (Deliver number))
    deliver-replied r at =
        subst (λ (found : Option Letter). (
        let done : World × Outcome = elim found [ None ↦ (k.world, NoLetter) | Some letter ↦ deliver_letter publication says (by_history k.history) number k.world letter ] in
        let noting : History = elim found [ None ↦ k.history | Some letter ↦ noted_letter publication says (by_history k.history) number k.world letter k.history ] in
        After (Replied site) done noting k.history)) (sym at)
        (request-replied r (noted_letter publication says (by_history k.history) number k.world (record { site = site; message = Asks r }) k.history))

    -- A refusal leaves the model, and is for a counter's end or too many rows.

    refused-why : (found : Option Refusal) (outcome : Outcome) (why : Refusal) → IsAnswered found outcome → outcome ≡ Refuses why → found ≡ Some why
    refused-why None outcome why answered is = absurd (let both : Posted answered.0 ≡ Refuses why = sym answered.1 ∙ is in cc)
    refused-why (Some other) outcome why answered is = (let both : Refuses other ≡ Refuses why = sym answered ∙ is in let same : other ≡ why = cc in ap (λ (r : Refusal). (let found : Option Refusal = Some r in found)) same)

    counter-why : (why : Refusal) → first_refusal (counter_end (counters k.world.publisher) ∷ []) ≡ Some why → EndsFor k site why
    counter-why why is = (let c = counter-is (counters k.world.publisher) why (sym (first-only (counter_end (counters k.world.publisher))) ∙ is) in subst (EndsFor k site) (sym c.is) (inl c.ends))

    -- the site is not expired, and its message was made behind its last join
    live-in : (now : Moment) (found : Option SiteState) → expired_in publication now found ≡ false → is_expired (record { 0 = (unwrap_or found no_state).last_sync }) now publication.retention_days ≡ false
    live-in now None live = absurd cc
    live-in now (Some state) live = live

    later-same : (now latest : Moment) → latest.0 ≤ now.0 → later now latest ≡ now
    later-same now latest up = ap (λ (n : ℕ). (let moment : Moment = record { 0 = n } in moment)) (let most : max now.0 latest.0 ≡ now.0 = grind (arith, nat_tests, up) in most)

    module _ (been : k.world.publisher.latest.0 ≤ k.world.moment.0) where
      expiry-none : (told : SiteId) → told ≡ site → InTime site k → expiry publication k.world.moment told k.world.publisher ≡ None
      expiry-none told same live =
          let now : Moment = k.world.moment in
          let states : Option SiteState = at_number k.world.publisher.sites site.0 in
          subst (λ (x : SiteId). expiry publication now x k.world.publisher ≡ None) (sym same)
          (refused-not (is_expired (record { 0 = (state_of k.world.publisher site).last_sync }) (later now k.world.publisher.latest) publication.retention_days) (Expired (record { 0 = (state_of k.world.publisher site).last_sync }) (later now k.world.publisher.latest))
          (ap (λ (at : Moment). is_expired (record { 0 = (state_of k.world.publisher site).last_sync }) at publication.retention_days) (later-same now k.world.publisher.latest been) ∙ live-in now states live))

      staleness-none : (told : SiteId) (seq : ℕ) → IsNewer k site told seq → staleness seq told k.world.publisher ≡ None
      staleness-none told seq newer =
          let behind = newer.behind in
          subst (λ (x : SiteId). staleness seq x k.world.publisher ≡ None) (sym newer.same)
          (refused-not (nat_le seq (state_of k.world.publisher site).joined_at) (Stale seq (state_of k.world.publisher site).joined_at) (grind (arith, nat_tests, behind)))

      rows-why : (u : Upload) (why : Refusal) (found : Option Refusal) → IsRequest k number site (request.Upload u) → number ≡ length k.world.pool → too_many_new (acts_of judge u [] k.world.publisher) k.world.publisher ≡ found
          → first_refusal (found ∷ counter_end (counters k.world.publisher) ∷ []) ≡ Some why → EndsFor k site why
      rows-why u why None at last same is = counter-why why is
      rows-why u why (Some other) at last same is =
          let acts : List Act = acts_of judge u [] k.world.publisher in
          let rows : ℕ = length k.world.publisher.rows + count_by is_new acts in
          let named : other ≡ TooManyRows rows = refused-is (list_any is_new acts && nat_lt rows_limit rows) (TooManyRows rows) other same in
          subst (EndsFor k site) (sym named ∙ some-why other why is) (record { number = number; upload = u; at = at; last = last; many = same ∙ ap (λ (r : Refusal). (let found : Option Refusal = Some r in found)) named })

      site-passed : (told : SiteId) (seq : ℕ) (rest : List (Option Refusal)) (why : Refusal) → IsNewer k site told seq → InTime site k
          → first_refusal (expiry publication k.world.moment told k.world.publisher ∷ staleness seq told k.world.publisher ∷ rest) ≡ Some why → first_refusal rest ≡ Some why
      site-passed told seq rest why newer live is =
          sym (first-passed (staleness seq told k.world.publisher) rest (staleness-none told seq newer))
          ∙ sym (first-passed (expiry publication k.world.moment told k.world.publisher) (staleness seq told k.world.publisher ∷ rest) (expiry-none told newer.same live)) ∙ is

      fresh-why : (r : Request) (why : Refusal) → IsRequest k number site r → number ≡ length k.world.pool → IsFresh k site r → first_refusal (reasons publication judge k.world.moment r k.world.publisher) ≡ Some why → EndsFor k site why
      fresh-why (request.Join m) why at last fresh is =
          let behind = fresh.behind in
          let state : (state_of k.world.publisher m.site).joined_at ≡ (state_of k.world.publisher site).joined_at = ap (λ (x : SiteId). (state_of k.world.publisher x).joined_at) fresh.same in
          let none : refused_if (nat_lt m.seq (state_of k.world.publisher m.site).joined_at) (Stale m.seq (state_of k.world.publisher m.site).joined_at) ≡ None =
          refused-not (nat_lt m.seq (state_of k.world.publisher m.site).joined_at) (Stale m.seq (state_of k.world.publisher m.site).joined_at) (grind (arith, nat_tests, behind, state)) in
          counter-why why (sym (first-passed (refused_if (nat_lt m.seq (state_of k.world.publisher m.site).joined_at) (Stale m.seq (state_of k.world.publisher m.site).joined_at)) (counter_end (counters k.world.publisher) ∷ []) none) ∙ is)
      fresh-why (request.Upload m) why at last fresh is = rows-why m why (too_many_new (acts_of judge m [] k.world.publisher) k.world.publisher) at last refl
          (site-passed m.site m.seq (too_many_new (acts_of judge m [] k.world.publisher) k.world.publisher ∷ counter_end (counters k.world.publisher) ∷ []) why fresh.0 fresh.1 is)
      fresh-why (request.Ranges m) why at last fresh is = counter-why why (site-passed m.site m.seq (counter_end (counters k.world.publisher) ∷ []) why fresh.0 fresh.1 is)
      fresh-why (request.Download m) why at last fresh is = counter-why why (site-passed m.site m.seq (counter_end (counters k.world.publisher) ∷ []) why fresh.0 fresh.1 is)

      left-same : (noting : History) (done : World × Outcome) (why : Refusal) → done.1 ≡ Refuses why → done.0 ≡ k.world
          → (let n : Model = record { world = done.0; history = with_posted done.0 done.1 (noted_if (did_something done.1) noting k.history) } in n ≡ k)
      left-same noting (v, Refuses other) why is same = ap (λ (x : World). (let n : Model = record { world = x; history = k.history } in n)) same
      left-same noting (v, outcome) why is same = absurd cc

      pub deliver-ends : HonestAreTaken publication says k → (r : Request) (why : Refusal) → IsRequest k number site r → number ≡ length k.world.pool → IsFresh k site r → (model_step publication says k (Deliver number)).1 ≡ Refuses why → EndsFor (model_step publication says k (Deliver number)).0 site why
      deliver-ends taken r why at last fresh is =
          let same : (model_step publication says k (Deliver number)).0 ≡ k = left-same (noted_action publication says (by_history k.history) k.world (Deliver number) k.history) (step_by publication says (by_history k.history) k.world (Deliver number)) why is (step_by-leaves publication says (by_history k.history) k.world (Deliver number) why is) in
          subst (λ (n : Model). EndsFor n site why) (sym same)
          (fresh-why r why at last fresh (refused-why (first_refusal (reasons publication judge k.world.moment r k.world.publisher)) (model_step publication says k (Deliver number)).1 why (taken number site r at) is))
