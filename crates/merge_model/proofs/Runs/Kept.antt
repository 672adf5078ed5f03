-- What every step keeps, a session keeps, and so do all events.
use Rattle.std.specs.Prelude.{◌≡◌, ℕ, zero, suc, Bool, true, false, Option, Some, None, refl, nat_le, if◌then◌else◌, ◌+◌, ◌-◌}
use Rattle.merge_types.specs.declared.identifiers.SiteId.{SiteId}
use Rattle.merge_batch.specs.declared.refusal.Refusal.{Refusal}
use Rattle.merge_batch.specs.declared.reply.Downloaded.{Downloaded}
use Rattle.merge_model.specs.World.Steps.{Action, Deliver, Send, Sending, SendJoin, SendUpload, SendRanges, SendDownload}
use Rattle.merge_model.specs.declared.outcome.Outcome.{Outcome}
use Rattle.merge_model.specs.declared.outcome.Outcome.TheVariants.{Posted, Took, Refuses}
use Rattle.merge_model.specs.World.Session.{Stepping, Session, then_deliver, ask, session_after_reply, answered_as, as_it_is, exchange, unless_stopped, join_if_due, is_joined_in, with_upload, uploads_up_to, all_uploads, unsent_generations, has_grant, last_message, range_requests_up_to, all_ranges, range_asks, with_download, with_answer, after_download, downloaded_in, downloads_up_to, all_downloads, session}

module _ {W : Type 0} (stepping : Stepping W) (P : W → Type 0) (of_act : (w : W) (action : Action) → P w → P (stepping.act w action).0) where
  module _ (site : SiteId) where
    then_deliver-keeps : (made : W × Outcome) → P made.0 → P (then_deliver stepping site made).0
    then_deliver-keeps (w, Posted number) h = of_act w (Deliver number) h
    then_deliver-keeps (w, outcome) h = h

    ask-keeps : (sending : Sending) (w : W) → P w → P (ask stepping site sending w).0
    ask-keeps sending w h = then_deliver-keeps (stepping.act w (Send site sending)) (of_act w (Send site sending) h)

    -- a part of a session keeps it
    abbrev Keeps : (Session W → Session W) → Type 0
    Keeps next = (t : Session W) → P t.world → P (next t).world

    arrived-keeps : (next : Session W → Session W) (s : Session W) (made : W × Outcome) → Keeps next → P made.0 → P (session_after_reply stepping site next s made).world
    arrived-keeps next s (w, Took taken) more h = more (record s { world = w }) h
    arrived-keeps next s (w, Refuses refusal) more h = h
    arrived-keeps next s (w, outcome) more h = h

    answered_as-keeps : (counted next : Session W → Session W) (s : Session W) (made : W × Outcome) → ((t : Session W) → (counted t).world ≡ t.world) → Keeps next → P made.0 → P (answered_as stepping site counted next s made).world
    answered_as-keeps counted next s (w, Posted number) counts more h = arrived-keeps next (counted (record s { world = w })) (stepping.act w (Deliver number)) more (of_act w (Deliver number) h)
    answered_as-keeps counted next s (w, Refuses refusal) counts more h = h
    answered_as-keeps counted next s (w, outcome) counts more h = h

    exchange-keeps : (sending : Sending) (counted next : Session W → Session W) (s : Session W) → ((t : Session W) → (counted t).world ≡ t.world) → Keeps next → P s.world → P (exchange stepping site sending counted next s).world
    exchange-keeps sending counted next s counts more h = answered_as-keeps counted next s (ask stepping site sending s.world) counts more (ask-keeps sending s.world h)

    unless_stopped-keeps : (next : Session W → Session W) (s : Session W) → ((t : Session W) → P t.world → P (next t).world) → P s.world → P (unless_stopped stepping site next s).world
    unless_stopped-keeps next s more h = elim s.stop as (λ (stop : Option Refusal). (let t : Session W = elim stop [ Some refusal ↦ s | None ↦ next s ] in P t.world)) [
      | Some refusal ↦ h
      | None ↦ more s h
    ]

    if-keeps : (b : Bool) (x y : Session W) → P x.world → P y.world → P (if b then x else y).world
    if-keeps true x y first second = first
    if-keeps false x y first second = second

    joining-keeps : (s : Session W) → P s.world → P (join_if_due stepping site s).world
    joining-keeps s h = if-keeps (is_joined_in stepping site s.world) s (exchange stepping site SendJoin (as_it_is stepping site) (as_it_is stepping site) s) h
        (exchange-keeps SendJoin (as_it_is stepping site) (as_it_is stepping site) s (λ t. refl) (λ t k. k) h)

    uploading-keeps : (n : ℕ) (s : Session W) → P s.world → P (uploads_up_to stepping site n s).world
    uploading-keeps zero s h = h
    uploading-keeps (suc n) s h = exchange-keeps SendUpload (with_upload stepping site) (uploads_up_to stepping site n) s (λ t. refl) (uploading-keeps n) h

    asking-keeps : (n : ℕ) (s : Session W) → P s.world → P (range_requests_up_to stepping site n s).world
    asking-keeps zero s h = h
    asking-keeps (suc n) s h = exchange-keeps SendRanges (as_it_is stepping site) (λ (t : Session W). if has_grant stepping site (last_message stepping site t.world) then range_requests_up_to stepping site n t else t) s (λ t. refl)
        (λ t k. if-keeps (has_grant stepping site (last_message stepping site t.world)) (range_requests_up_to stepping site n t) t (asking-keeps n t k) k) h

    with_answer-stays : (s : Session W) → (with_answer stepping site s).world ≡ s.world
    with_answer-stays s = of (downloaded_in stepping site (last_message stepping site s.world))
      where
        of : (found : Option Downloaded) → (let t : Session W = elim found [ None ↦ s | Some m ↦ with_download stepping site m s ] in t.world) ≡ s.world
        of None = refl
        of (Some m) = refl

    after_download-keeps : (next : Downloaded → Session W → Session W) (s : Session W) → ((m : Downloaded) → Keeps (next m)) → P s.world → P (after_download stepping site next s).world
    after_download-keeps next s more h = elim (downloaded_in stepping site (last_message stepping site s.world))
        as (λ (found : Option Downloaded). (let t : Session W = elim found [ None ↦ s | Some m ↦ next m s ] in P t.world)) [
          | None ↦ h
          | Some m ↦ more m s h
        ]

    -- a download, and what goes on by its reply
    download-keeps : (next : Downloaded → Session W → Session W) (s : Session W) → ((m : Downloaded) → Keeps (next m)) → P s.world → P (exchange stepping site SendDownload (with_answer stepping site) (after_download stepping site next) s).world
    download-keeps next s more h = exchange-keeps SendDownload (with_answer stepping site) (after_download stepping site next) s with_answer-stays (λ t k. after_download-keeps next t more k) h

    downloading-keeps : (n target : ℕ) (s : Session W) → P s.world → P (downloads_up_to stepping site n target s).world
    downloading-keeps zero target s h = h
    downloading-keeps (suc n) target s h = download-keeps (λ (m : Downloaded) (t : Session W). if nat_le target m.from then t else downloads_up_to stepping site n target t) s
        (λ m u j. if-keeps (nat_le target m.from) u (downloads_up_to stepping site n target u) j (downloading-keeps n target u j)) h

    downloads-keep : (s : Session W) → P s.world → P (all_downloads stepping site s).world
    downloads-keep s h = download-keeps (λ (m : Downloaded) (t : Session W). if nat_le m.last m.from then t else downloads_up_to stepping site (m.last + 1 - m.from) m.last t) s
        (λ m u j. if-keeps (nat_le m.last m.from) u (downloads_up_to stepping site (m.last + 1 - m.from) m.last u) j (downloading-keeps (m.last + 1 - m.from) m.last u j)) h

    start_of : W → Session W
    start_of w = record {
      world = w;
      uploads = 0;
      downloads = 0;
      stop = None;
    }

    pub session-keeps : (w : W) → P w → P (session stepping site w).world
    session-keeps w h =
        let joined : Session W = join_if_due stepping site (record { world = w; uploads = 0; downloads = 0; stop = None }) in
        let sent : Session W = unless_stopped stepping site (all_uploads stepping site) joined in
        let ranged : Session W = unless_stopped stepping site (all_ranges stepping site) sent in
        unless_stopped-keeps (all_downloads stepping site) ranged downloads-keep
        (unless_stopped-keeps (all_ranges stepping site) sent (λ s k. asking-keeps (range_asks stepping site s.world) s k)
        (unless_stopped-keeps (all_uploads stepping site) joined (λ s k. uploading-keeps (unsent_generations stepping site s.world) s k)
        (joining-keeps (record { world = w; uploads = 0; downloads = 0; stop = None }) h)))
