-- How a mapping goes at a step of the model, which may fail.
use Rattle.std.specs.Prelude.{Bool, Err, List, None, Ok, Option, Result, Some, [], false, filter, if◌then◌else◌, max, not, refl, true, ◌==◌, ◌≡◌, ◌⊎◌, ◌∷◌, ℕ}
use Rattle.std.proofs.Common.{arith, inl, inr, sym, ◌∙◌}
use Rattle.std.proofs.lemmas.Bool.Decides.{nat_tests}
use Rattle.merge_types.specs.declared.changes.Change.{Change}
use Rattle.merge_types.specs.declared.identifiers.RowId.{RowId}
use Rattle.merge_types.specs.declared.identifiers.SiteId.{SiteId}
use Rattle.merge_gens.specs.Moves.{is_left}
use Rattle.merge_gens.specs.declared.moves.Mapping.{Mapping}
use Rattle.merge_gens.specs.declared.moves.RowSite.{RowSite}
use Rattle.merge_schema.specs.declared.publication.Publication.{Publication}
use Rattle.merge_batch.specs.declared.refusal.Refusal.{Refusal}
use Rattle.merge_batch.specs.declared.refusal.Refusal.TheVariants.{UnknownSite}
use Rattle.merge_batch.specs.declared.reply.Downloaded.{Downloaded}
use Rattle.merge_batch.specs.declared.reply.Joined.{Joined}
use Rattle.merge_batch.specs.declared.reply.Ranged.{Ranged}
use Rattle.merge_batch.specs.declared.reply.Reply.{Reply}
use Rattle.merge_batch.specs.declared.reply.Reply.TheVariants as reply
use Rattle.merge_batch.specs.declared.reply.Uploaded.{Uploaded}
use Rattle.merge_batch.specs.declared.request.Join.{Join}
use Rattle.merge_batch.specs.declared.request.RangeAsk.{RangeAsk}
use Rattle.merge_batch.specs.declared.request.Request.{Request}
use Rattle.merge_batch.specs.declared.request.Request.TheVariants as request
use Rattle.merge_batch.specs.declared.request.Upload.{Upload}
use Rattle.merge_model.specs.Publisher.Acts.{Act, acts_of}
use Rattle.merge_model.specs.Judge.ByHistory.{by_history, by_past, is_line_for, last_line, says_left}
use Rattle.merge_model.specs.Publisher.Entries.{Changing, changed_by}
use Rattle.merge_model.specs.Failing.{Slip, Slips, acting_with, fails, faulty, is_allowed, slip_if}
use Rattle.merge_model.specs.History.{pasts_with}
use Rattle.merge_model.specs.Judge.{PublisherJudge}
use Rattle.merge_model.specs.Tables.Keys.{at_row_site}
use Rattle.merge_model.specs.Laws.{AreSorted}
use Rattle.merge_model.specs.History.Model.{Model, model, model_step}
use Rattle.merge_model.specs.Publisher.{at_moment, close_generation, counters, last_closed, tables_after_close}
use Rattle.merge_model.specs.Publisher.PublisherDownload.{download_refusal, reply_to, tables_after_download}
use Rattle.merge_model.specs.Publisher.PublisherJoin.{is_left_of, join_acts, join_refusal, tables_after_join, join_taken}
use Rattle.merge_model.specs.Publisher.PublisherLocal.{Drawn, changing_locally, draw_for_change, local_refusal, made_locally, with_draw}
use Rattle.merge_model.specs.Publisher.PublisherPurge.{is_old_left}
use Rattle.merge_model.specs.Publisher.PublisherRanges.{plans, ranges_refusal, reply_to_ranges, with_grants}
use Rattle.merge_model.specs.Publisher.PublisherUpload.{brings_news, changing_by, tables_after_upload, taken_in, upload_refusal, with_acts}
use Rattle.merge_model.specs.Tables.Refusals.{counter_end, unless}
use Rattle.merge_model.specs.Subscriber.Reinit.{reinitialise}
use Rattle.merge_model.specs.Subscriber.Sending.{make_ask, make_join, make_ranges, make_upload}
use Rattle.merge_model.specs.World.Steps.{Action, CloseAt, Deliver, Forget, Look, Make, MakeAnew, Pass, Send, SendDownload, SendJoin, SendRanges, SendUpload, Sending, after_upload, at_subscriber, close_publisher, close_subscriber, deliver_letter, deliver_reply, deliver_request, kept_decisions, make_anew, make_at_publisher, make_at_subscriber, post, post_if_made, post_reply, send_from, step_by, unless_refused, upload_questions}
use Rattle.merge_model.specs.Subscriber.{close_subscriber_generation, subscriber_local}
use Rattle.merge_model.specs.Tables.{PublisherTables, SubscriberTables}
use Rattle.merge_model.specs.Subscriber.Taking.{take_reply}
use Rattle.merge_model.specs.World.{Judges, Saying, World, letter_at, subscriber_at, with_publisher}
use Rattle.merge_model.specs.declared.letter.Letter.{Letter}
use Rattle.merge_model.specs.declared.letter.Message.{Message}
use Rattle.merge_model.specs.declared.letter.Message.TheVariants.{Asks, Replies}
use Rattle.merge_model.specs.declared.outcome.Outcome.{Outcome}
use Rattle.merge_model.specs.declared.outcome.Outcome.TheVariants.{Closes, Made, NoLetter, Refuses}
use Rattle.merge_model.proofs.Entries.StepParts.{CanBeSaid}
use Rattle.merge_laws.specs.Laws.LastLines.{MappingsFit}
use Rattle.merge_laws.proofs.LastLines.LastLineGone.{told}
use Rattle.merge_owed.specs.Forgotten.{going_over}
use Rattle.merge_owed.specs.Mappings.{Goes, is_inside, kept_at}
use Rattle.merge_owed.proofs.MappingGoes.{BackHere, On, entries-end, inside_then, left-or-lost}

module _ (publication : Publication) (valid : CanBeSaid publication) (says : Saying) (m : Model) (place : RowSite) (move : Mapping) (held : kept_at m.world.publisher place ≡ Some move) (sorted : AreSorted m.world.publisher) (fits : MappingsFit m.world.publisher.mappings m.history.lines) where
  abbrev w : World
  w = m.world

  abbrev p : PublisherTables
  p = m.world.publisher

  abbrev here : PublisherTables
  here = at_moment m.world.moment m.world.publisher

  abbrev judges : Judges
  judges = by_history m.history

  -- the mapping is kept behind the step, or it went
  abbrev pub Ends : Action → PublisherTables → Type 0
  Ends action after = (kept_at after place ≡ Some move) ⊎ Goes publication m action after place move

  stays : (action : Action) → Ends action p
  stays action = inl held

  -- the last line says that the row left just where the mapping does
  left-so : says_left (last_line m.history place.key place.site) ≡ is_left move.kind
  left-so = (told move (last_line m.history place.key place.site) (sym (fits place.key place.site) ∙ held)).left

  -- A purge.

  abbrev LeftOrLost : (RowSite × Mapping → Bool) → Type 0
  LeftOrLost lost = (at_row_site (filter (λ (e : RowSite × Mapping). not (lost e)) p.mappings) place ≡ Some move) ⊎ ((lost (place, move) ≡ true) × (at_row_site (filter (λ (e : RowSite × Mapping). not (lost e)) p.mappings) place ≡ None))

  purged : LeftOrLost (is_old_left publication (going_over m)) → Ends Forget (step_by publication says judges w Forget).0.publisher
  purged (inl is) = inl is
  purged (inr lost) = inr (inl (record { purge = refl; old = lost.0; gone = lost.1 }))

  purge-ends : Ends Forget (step_by publication says judges w Forget).0.publisher
  purge-ends = purged (left-or-lost p.mappings place move held sorted.mappings_ascend (is_old_left publication (going_over m)))

  -- The entries of a step.

  abbrev EntriesEnd : PublisherJudge → Changing → PublisherTables → Type 0
  EntriesEnd judge changing before = (let after : PublisherTables = changed_by publication judge changing before in
      (kept_at after place ≡ Some move) ⊎ (BackHere publication judge changing before place move ⊎ (On publication changing before place move (kept_at after place) × (is_inside publication after place ≡ inside_then publication changing before place))))

  -- Steps that leave the publisher's mappings, or do what is known.

  unless-ends : {A : Type 0} (action : Action) (done : Result A Refusal) (act : A → World × Outcome) → ((a : A) → Ends action (act a).0.publisher) → Ends action (unless_refused w done act).0.publisher
  unless-ends action (Err why) act each = stays action
  unless-ends action (Ok a) act each = each a

  found-ends : (action : Action) (site : SiteId) (found : Option SubscriberTables) (act : SubscriberTables → World × Outcome) → ((s : SubscriberTables) → Ends action (act s).0.publisher)
      → (let done : World × Outcome = elim found [ None ↦ (w, Refuses (UnknownSite site)) | Some s ↦ act s ] in Ends action done.0.publisher)
  found-ends action site None act each = stays action
  found-ends action site (Some s) act each = each s

  if-ends : (action : Action) (b : Bool) (x y : World × Outcome) → Ends action x.0.publisher → Ends action y.0.publisher → Ends action (if b then x else y).0.publisher
  if-ends action true x y one other = one
  if-ends action false x y one other = other

  posted-ends : {A : Type 0} (action : Action) (site : SiteId) (message : A → Request) (made : Option (SubscriberTables × A)) → Ends action (post_if_made site message w made).0.publisher
  posted-ends action site message None = stays action
  posted-ends action site message (Some made) = stays action

  send-ends : (action : Action) (sending : Sending) (s : SubscriberTables) → Ends action (send_from judges sending w s).0.publisher
  send-ends action SendJoin s = unless-ends action (make_join s) _ (λ a. posted-ends action s.site (λ (j : Join). request.Join j) a)
  send-ends action SendUpload s = unless-ends action (make_upload (judges.subscriber s.site s) w.moment s) _ (λ a. posted-ends action s.site (λ (u : Upload). request.Upload u) a)
  send-ends action SendRanges s = unless-ends action (make_ranges s) _ (λ a. posted-ends action s.site (λ (r : RangeAsk). request.Ranges r) a)
  send-ends action SendDownload s = unless-ends action (make_ask s) _ (λ a. stays action)

  closing-ends : (action : Action) (refusal : Option Refusal) → (let done : Result (PublisherTables × ℕ) Refusal = unless refusal (tables_after_close here, last_closed (tables_after_close here)) in
      Ends action (unless_refused w done (λ (made : PublisherTables × ℕ). (with_publisher made.0 w, Closes made.1))).0.publisher)
  closing-ends action (Some why) = stays action
  closing-ends action None = inl held

  -- Local changes at the publisher.

  own-ends : (action : Action) (judge : PublisherJudge) (change : Change) (d : Drawn) → EntriesEnd judge (changing_locally publication change d.value here) (with_draw d here) → Ends action (made_locally publication judge change d here).0
  own-ends action judge change d (inl is) = inl is
  own-ends action judge change d (inr (inl back)) = inr (inr (inr (inl (record { left = back.left; outside = back.outside; inside = back.inside; gone = back.gone }))))
  own-ends action judge change d (inr (inr on)) = inr (inr (inr (inr (record { other = on.0.other; told = on.0.told; differs = on.0.differs; now = on.1 ∙ on.0.now }))))

  own-drawn : (action : Action) (judge : PublisherJudge) (change : Change) (draw : Result Drawn Refusal) → judge.has_left place.key place.site ≡ is_left move.kind
      → (let done : Result (PublisherTables × RowId) Refusal = elim draw [ Err refusal ↦ Err refusal | Ok d ↦ Ok (made_locally publication judge change d here) ] in
      Ends action (unless_refused w done (λ (made : PublisherTables × RowId). (with_publisher made.0 w, Made made.1))).0.publisher)
  own-drawn action judge change (Err refusal) so = stays action
  own-drawn action judge change (Ok d) so = own-ends action judge change d (entries-end publication valid judge (changing_locally publication change d.value here) (with_draw d here) place move held sorted.mappings_ascend so)

  own-refused : (action : Action) (judge : PublisherJudge) (change : Change) (refusal : Option Refusal) → judge.has_left place.key place.site ≡ is_left move.kind
      → (let done : Result (PublisherTables × RowId) Refusal = elim refusal [
        | Some why ↦ Err why
        | None ↦ elim (draw_for_change publication p change) [ Err why ↦ Err why | Ok d ↦ Ok (made_locally publication judge change d here) ]
      ] in
      Ends action (unless_refused w done (λ (made : PublisherTables × RowId). (with_publisher made.0 w, Made made.1))).0.publisher)
  own-refused action judge change (Some why) so = stays action
  own-refused action judge change None so = own-drawn action judge change (draw_for_change publication p change) so

  -- Messages that come to the publisher.

  answer-ends : {A : Type 0} (action : Action) (refusal : Option Refusal) (made : PublisherTables × A) (site : SiteId) (message : A → Reply) → Ends action made.0 → Ends action (post_reply site message w (unless refusal made)).0.publisher
  answer-ends action (Some why) made site message ends = stays action
  answer-ends action None made site message ends = ends

  join-lost : (number : ℕ) (from : SiteId) (j : Join) → letter_at w number ≡ Some (record { site = from; message = Asks (request.Join j) }) → join_acts j p ≡ true → LeftOrLost (is_left_of j.site) → Ends (Deliver number) (join_taken j here)
  join-lost number from j at acts (inl is) = inl is
  join-lost number from j at acts (inr lost) = inr (inr (inl (record {
    number = number;
    from = from;
    join = j;
    delivered = refl;
    sent = at;
    acts = acts;
    own = (let is = lost.0 in grind (arith, nat_tests, is));
    left = (let is = lost.0 in grind (arith, is));
    gone = lost.1;
  })))

  join-acting : (number : ℕ) (from : SiteId) (j : Join) (b : Bool) → letter_at w number ≡ Some (record { site = from; message = Asks (request.Join j) }) → join_acts j p ≡ b → Ends (Deliver number) (if b then join_taken j here else here)
  join-acting number from j true at acts = join-lost number from j at acts (left-or-lost p.mappings place move held sorted.mappings_ascend (is_left_of j.site))
  join-acting number from j false at acts = inl held

  taken-ends : (action : Action) (judge : PublisherJudge) (u : Upload) (acts : List Act) → EntriesEnd judge (changing_by u acts) (with_acts publication u acts here) → Ends action (taken_in publication judge u acts here)
  taken-ends action judge u acts (inl is) = inl is
  taken-ends action judge u acts (inr (inl back)) = inr (inr (inr (inl (record { left = back.left; outside = back.outside; inside = back.inside; gone = back.gone }))))
  taken-ends action judge u acts (inr (inr on)) = inr (inr (inr (inr (record { other = on.0.other; told = on.0.told; differs = on.0.differs; now = on.1 ∙ on.0.now }))))

  news-ends : (action : Action) (judge : PublisherJudge) (u : Upload) (acts : List Act) (b : Bool) → judge.has_left place.key place.site ≡ is_left move.kind → Ends action (if b then taken_in publication judge u acts here else here)
  news-ends action judge u acts true so = taken-ends action judge u acts (entries-end publication valid judge (changing_by u acts) (with_acts publication u acts here) place move held sorted.mappings_ascend so)
  news-ends action judge u acts false so = inl held

  upload-ends : (action : Action) (judge : PublisherJudge) (site : SiteId) (u : Upload) (refusal : Option Refusal) (made : PublisherTables × Uploaded) → Ends action made.0 → Ends action (after_upload publication says judge site u w (unless refusal made)).0.publisher
  upload-ends action judge site u (Some why) made ends = stays action
  upload-ends action judge site u None made ends = ends

  request-ends : (number : ℕ) (site : SiteId) (r : Request) → letter_at w number ≡ Some (record { site = site; message = Asks r }) → Ends (Deliver number) (deliver_request publication says (judges.publisher number) site r w).0.publisher
  request-ends number site (request.Join j) at =
      answer-ends (Deliver number) (join_refusal publication j p) (tables_after_join j here, record { seq = j.seq }) site (λ (made : Joined). reply.Joined made) (join-acting number site j (join_acts j p) at refl)
  request-ends number site (request.Upload u) at =
      let judge : PublisherJudge = judges.publisher number in
      let decisions = kept_decisions says w.tallies (upload_questions publication judge w.moment u p) in
      upload-ends (Deliver number) judge site u (upload_refusal publication judge w.moment u p) (tables_after_upload publication judge u decisions here, record { seq = u.seq; received = max u.to (judge.received u.site.0) })
      (news-ends (Deliver number) judge u (acts_of judge u decisions here) (brings_news judge u) left-so)
  request-ends number site (request.Ranges r) at =
      answer-ends (Deliver number) (ranges_refusal publication (judges.publisher number) w.moment r p) (with_grants (plans publication r p) here, reply_to_ranges r (plans publication r p)) site (λ (made : Ranged). reply.Ranged made) (inl held)
  request-ends number site (request.Download r) at =
      answer-ends (Deliver number) (download_refusal publication w.moment r p) (tables_after_download r here, reply_to publication (judges.publisher number) r (tables_after_download r here)) site (λ (made : Downloaded). reply.Downloaded made) (inl held)

  message-ends : (number : ℕ) (site : SiteId) (message : Message) → (let letter : Letter = record { site = site; message = message } in letter_at w number ≡ Some letter → Ends (Deliver number) (deliver_letter publication says judges number w letter).0.publisher)
  message-ends number site (Asks r) at = request-ends number site r at
  message-ends number site (Replies r) at = found-ends (Deliver number) site (subscriber_at w site) (deliver_reply publication judges r w) (λ s. unless-ends (Deliver number) (take_reply publication (judges.subscriber s.site s) w.moment r s) _ (λ a. stays (Deliver number)))

  letter-ends : (number : ℕ) (found : Option Letter) → letter_at w number ≡ found
      → (let done : World × Outcome = elim found [ None ↦ (w, NoLetter) | Some letter ↦ deliver_letter publication says judges number w letter ] in Ends (Deliver number) done.0.publisher)
  letter-ends number None at = stays (Deliver number)
  letter-ends number (Some letter) at = message-ends number letter.site letter.message at

  -- Every step.

  pub step-ends : (action : Action) → Ends action (step_by publication says judges w action).0.publisher
  step-ends (Pass seconds) = stays (Pass seconds)
  step-ends (Make site change) = if-ends (Make site change) (site.0 == 0) (make_at_publisher publication judges change w) (at_subscriber site w (make_at_subscriber publication change w))
      (own-refused (Make site change) (judges.publisher 0) change (local_refusal publication change p) left-so)
      (found-ends (Make site change) site (subscriber_at w site) (make_at_subscriber publication change w) (λ s. unless-ends (Make site change) (subscriber_local publication w.moment change s) _ (λ a. stays (Make site change))))
  step-ends (CloseAt site) = if-ends (CloseAt site) (site.0 == 0) (close_publisher w) (at_subscriber site w (close_subscriber w))
      (closing-ends (CloseAt site) (counter_end (counters p)))
      (found-ends (CloseAt site) site (subscriber_at w site) (close_subscriber w) (λ s. unless-ends (CloseAt site) (close_subscriber_generation w.moment s) _ (λ a. stays (CloseAt site))))
  step-ends (Send site sending) = found-ends (Send site sending) site (subscriber_at w site) (send_from judges sending w) (λ s. send-ends (Send site sending) sending s)
  step-ends (Deliver number) = letter-ends number (letter_at w number) refl
  step-ends (MakeAnew site) = found-ends (MakeAnew site) site (subscriber_at w site) (make_anew judges w) (λ s. unless-ends (MakeAnew site) (reinitialise (judges.subscriber s.site s) w.moment s) _ (λ a. stays (MakeAnew site)))
  step-ends Forget = purge-ends
  step-ends Look = stays Look

  -- And of one that may fail.

  slip-ends : (allowed : Bool) (slips : Slips) (slip : Slip) (action : Action) → Ends action (slip_if publication (model publication says) allowed slips slip action m (model_step publication says m action)).0.world.world.publisher
  slip-ends true slips slip action = inl held
  slip-ends false slips slip action = step-ends action

  acting-ends : (slips : Slips) (action : Action) → Ends action (acting_with publication (model publication says) slips action m (model_step publication says m action)).0.world.world.publisher
  acting-ends [] action = step-ends action
  acting-ends (None ∷ slips) action = step-ends action
  acting-ends (Some slip ∷ slips) action = slip-ends (is_allowed publication m.world action slip (model_step publication says m action).1) slips slip action

  pub fails-end : (slips : Slips) (action : Action) → Ends action (fails publication (model publication says) (faulty m slips) action).0.world.world.publisher
  fails-end slips (Pass seconds) = step-ends (Pass seconds)
  fails-end slips (Make site change) = acting-ends slips (Make site change)
  fails-end slips (CloseAt site) = acting-ends slips (CloseAt site)
  fails-end slips (Send site sending) = acting-ends slips (Send site sending)
  fails-end slips (Deliver number) = acting-ends slips (Deliver number)
  fails-end slips (MakeAnew site) = acting-ends slips (MakeAnew site)
  fails-end slips Forget = acting-ends slips Forget
  fails-end slips Look = acting-ends slips Look
