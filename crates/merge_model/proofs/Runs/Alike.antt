-- Two worlds whose steps are alike answer events alike, until one of the first world is refused for a reason that excuses it.
use Rattle.std.proofs.Common.{◌≡◌, ◌+◌, ◌-◌, ℕ, zero, suc, List, [], ◌∷◌, Bool, true, false, Option, Some, None, Result, Ok, Err, refl, if◌then◌else◌, ap, ◌∙◌, subst, ◌⊎◌, inl, inr, ◌||◌}
use Rattle.std.specs.List.{list_any}
use Rattle.std.specs.Prelude.{nat_le, nat_lt}
use Rattle.merge_types.specs.declared.changes.Change.{Change}
use Rattle.merge_types.specs.declared.identifiers.SiteId.{SiteId}
use Rattle.merge_schema.specs.declared.publication.Publication.{Publication}
use Rattle.merge_schema.specs.Places.{is_subscription}
use Rattle.merge_batch.specs.declared.refusal.Refusal.{Refusal}
use Rattle.merge_batch.specs.declared.refusal.Refusal.TheVariants.{NoMemory, UnknownName, UnknownSite}
use Rattle.merge_batch.specs.declared.reply.Downloaded.{Downloaded}
use Rattle.merge_model.specs.declared.answer.Answer.{Answer}
use Rattle.merge_model.specs.declared.answer.Answer.TheVariants.{Conflicts, Counts, Done, Fine, Grants, Held, Now, Refused, RefusedIn, Rows, Stopped}
use Rattle.merge_model.specs.World.Events.{after, answers as answers_to, answered_action, refused_change, answered_by, change_answer, answered_change, answered_unless_refused, answered_look, is_site, where_site, where_subscriber, answered_sync, session_answer, outcome_answer, happens, report_of_site, answered_report, answered_show, watermark_in}
use Rattle.merge_model.specs.Publisher.Entries.{live_rows}
use Rattle.merge_model.specs.World.Naming.{article_by, delete_by, insert_by, update_by}
use Rattle.merge_model.specs.World.Reports.{counts_of, held_report, partition_report, publisher_generations, shown_rows, subscriber_live_rows, subscriber_generations}
use Rattle.merge_model.specs.Tables.{PublisherTables, SubscriberTables}
use Rattle.merge_model.specs.declared.event.Event.{Event}
use Rattle.merge_model.specs.declared.event.Event.TheVariants as event
use Rattle.merge_model.specs.World.Session.{Session, Stepping, after_download, all_downloads, all_ranges, all_uploads, answered_as, as_it_is, ask, downloaded_in, downloads_up_to, exchange, has_grant, is_joined_in, join_if_due, last_message, range_asks, range_requests_up_to, session, session_after_reply, then_deliver, unless_stopped, unsent_generations, uploads_up_to, with_answer, with_download, with_upload}
use Rattle.merge_model.specs.World.Steps.{Action, CloseAt, Deliver, Forget, Look, Make, MakeAnew, Pass, Send, SendDownload, SendJoin, SendRanges, SendUpload, Sending}
use Rattle.merge_model.specs.declared.outcome.Outcome.TheVariants.{Passed, Posted, Refuses, Took}
use Rattle.merge_model.specs.declared.outcome.Outcome.{Outcome}
use Rattle.merge_model.specs.World.{World}
use Rattle.merge_model.specs.Laws.SlipLaws.{refused_for, shows_refusal}

abbrev answer_by : ℕ → ℕ → ℕ → Option Refusal → Answer
answer_by uploads downloads watermark None = Done uploads downloads watermark
answer_by uploads downloads watermark (Some refusal) = Stopped uploads downloads refusal

-- the same came of both, in worlds that are related
abbrev pub Both : {V W A : Type 0} → (V → W → Type 0) → V × A → W × A → Type 0
Both R x y = (x.1 ≡ y.1) × R x.0 y.0

-- or what came of the first one excuses it
abbrev pub BothOr : {V W A : Type 0} → (V → W → Type 0) → (A → Bool) → V × A → W × A → Type 0
BothOr R excuses x y = Both R x y ⊎ (excuses x.1 ≡ true)

-- by the refusals that excuse: which ends of a session do
abbrev pub stops_off : (Refusal → Bool) → Option Refusal → Bool
stops_off off None = false
stops_off off (Some refusal) = off refusal

module _ {V W : Type 0} (one : Stepping V) (other : Stepping W) (R : V → W → Type 0) (off : Refusal → Bool) (acts : (v : V) (w : W) (action : Action) → R v w → BothOr R (refused_for off) (one.act v action) (other.act w action))
    (passes : (v : V) (w : W) (seconds : ℕ) → R v w → Both R (one.act v (Pass seconds)) (other.act w (Pass seconds))) (looks : (v : V) (w : W) → R v w → one.look v ≡ other.look w) where
  abbrev Acted : V × Outcome → W × Outcome → Type 0
  Acted x y = BothOr R (refused_for off) x y

  abbrev pub Told : V × Answer → W × Answer → Type 0
  Told x y = BothOr R (shows_refusal off) x y

  if-told : (b : Bool) (x u : V × Answer) (y v : W × Answer) → Told x y → Told u v → Told (if b then x else u) (if b then y else v)
  if-told true x u y v first second = first
  if-told false x u y v first second = second

  pub record Alike (s : Session V) (t : Session W) : Type 0 where
    pub world : R s.world t.world
    pub uploads : s.uploads ≡ t.uploads
    pub downloads : s.downloads ≡ t.downloads
    pub stop : s.stop ≡ t.stop

  -- or the first one was stopped by what excuses it
  abbrev AlikeOr : Session V → Session W → Type 0
  AlikeOr s t = Alike s t ⊎ (stops_off off s.stop ≡ true)

  if-session : (b : Bool) (x u : Session V) (y v : Session W) → AlikeOr x y → AlikeOr u v → AlikeOr (if b then x else u) (if b then y else v)
  if-session true x u y v first second = first
  if-session false x u y v first second = second

  -- parts of sessions that are alike, and those that only count
  abbrev Parts : (Session V → Session V) → (Session W → Session W) → Type 0
  Parts f g = (s : Session V) (t : Session W) → Alike s t → AlikeOr (f s) (g t)

  abbrev Counting : (Session V → Session V) → (Session W → Session W) → Type 0
  Counting f g = (s : Session V) (t : Session W) → Alike s t → Alike (f s) (g t)

  -- each part of a session reads the world by `look` alone
  by-look : {B : Type 0} (f : World → B) (v : V) (w : W) → R v w → f (one.look v) ≡ f (other.look w)
  by-look f v w r = ap f (looks v w r)

  -- the world itself, as a world that is looked at
  abbrev whole : Stepping World
  whole = record { act = λ (u : World) (action : Action). (u, Passed); look = λ (u : World). u; retally = λ (l : List ℕ) (u : World). u }

  module _ (site : SiteId) where
    posted : (v : V) (w : W) (outcome : Outcome) → R v w → Acted (then_deliver one site (v, outcome)) (then_deliver other site (w, outcome))
    posted v w (Posted number) r = acts v w (Deliver number) r
    posted v w outcome r = inl (refl, r)

    posted-off : (x : V × Outcome) → refused_for off x.1 ≡ true → refused_for off (then_deliver one site x).1 ≡ true
    posted-off (v, Refuses refusal) is = is
    posted-off (v, outcome) is = absurd (cc is)

    delivers : (x : V × Outcome) (y : W × Outcome) → Acted x y → Acted (then_deliver one site x) (then_deliver other site y)
    delivers x y (inl b) = subst (λ (o : Outcome). Acted (then_deliver one site x) (then_deliver other site (y.0, o))) b.0 (posted x.0 y.0 x.1 b.1)
    delivers x y (inr is) = inr (posted-off x is)

    asks : (sending : Sending) (v : V) (w : W) → R v w → Acted (ask one site sending v) (ask other site sending w)
    asks sending v w r = delivers (one.act v (Send site sending)) (other.act w (Send site sending)) (acts v w (Send site sending) r)

    arrives : (next : Session V → Session V) (onward : Session W → Session W) → Parts next onward → (s : Session V) (t : Session W) → Alike s t → (v : V) (w : W) (outcome : Outcome) → R v w
        → AlikeOr (session_after_reply one site next s (v, outcome)) (session_after_reply other site onward t (w, outcome))
    arrives next onward each s t a v w (Took taken) r = each (record s { world = v }) (record t { world = w }) (record { world = r; uploads = a.uploads; downloads = a.downloads; stop = a.stop })
    arrives next onward each s t a v w (Refuses refusal) r = inl (record { world = r; uploads = a.uploads; downloads = a.downloads; stop = refl })
    arrives next onward each s t a v w outcome r = inl (record { world = r; uploads = a.uploads; downloads = a.downloads; stop = a.stop })

    arrived-off : (next : Session V → Session V) (s : Session V) (x : V × Outcome) → refused_for off x.1 ≡ true → stops_off off (session_after_reply one site next s x).stop ≡ true
    arrived-off next s (v, Refuses refusal) is = is
    arrived-off next s (v, outcome) is = absurd (cc is)

    arrives-pair : (next : Session V → Session V) (onward : Session W → Session W) → Parts next onward → (s : Session V) (t : Session W) → Alike s t → (x : V × Outcome) (y : W × Outcome) → Acted x y
        → AlikeOr (session_after_reply one site next s x) (session_after_reply other site onward t y)
    arrives-pair next onward each s t a x y (inl b) = subst (λ (o : Outcome). AlikeOr (session_after_reply one site next s x) (session_after_reply other site onward t (y.0, o))) b.0 (arrives next onward each s t a x.0 y.0 x.1 b.1)
    arrives-pair next onward each s t a x y (inr is) = inr (arrived-off next s x is)

    answers : (counted next : Session V → Session V) (counts onward : Session W → Session W) → Counting counted counts → Parts next onward → (s : Session V) (t : Session W) → Alike s t → (v : V) (w : W) (outcome : Outcome) → R v w
        → AlikeOr (answered_as one site counted next s (v, outcome)) (answered_as other site counts onward t (w, outcome))
    answers counted next counts onward counting each s t a v w (Posted number) r =
        arrives-pair next onward each (counted (record s { world = v })) (counts (record t { world = w }))
        (counting (record s { world = v }) (record t { world = w }) (record { world = r; uploads = a.uploads; downloads = a.downloads; stop = a.stop })) (one.act v (Deliver number)) (other.act w (Deliver number)) (acts v w (Deliver number) r)
    answers counted next counts onward counting each s t a v w (Refuses refusal) r = inl (record { world = r; uploads = a.uploads; downloads = a.downloads; stop = refl })
    answers counted next counts onward counting each s t a v w outcome r = inl (record { world = r; uploads = a.uploads; downloads = a.downloads; stop = a.stop })

    answered-off : (counted next : Session V → Session V) (s : Session V) (x : V × Outcome) → refused_for off x.1 ≡ true → stops_off off (answered_as one site counted next s x).stop ≡ true
    answered-off counted next s (v, Refuses refusal) is = is
    answered-off counted next s (v, outcome) is = absurd (cc is)

    answers-pair : (counted next : Session V → Session V) (counts onward : Session W → Session W) → Counting counted counts → Parts next onward → (s : Session V) (t : Session W) → Alike s t → (x : V × Outcome) (y : W × Outcome) → Acted x y
        → AlikeOr (answered_as one site counted next s x) (answered_as other site counts onward t y)
    answers-pair counted next counts onward counting each s t a x y (inl b) = subst (λ (o : Outcome). AlikeOr (answered_as one site counted next s x) (answered_as other site counts onward t (y.0, o))) b.0
        (answers counted next counts onward counting each s t a x.0 y.0 x.1 b.1)
    answers-pair counted next counts onward counting each s t a x y (inr is) = inr (answered-off counted next s x is)

    exchanges : (sending : Sending) (counted next : Session V → Session V) (counts onward : Session W → Session W) → Counting counted counts → Parts next onward → Parts (exchange one site sending counted next) (exchange other site sending counts onward)
    exchanges sending counted next counts onward counting each s t a = answers-pair counted next counts onward counting each s t a (ask one site sending s.world) (ask other site sending t.world) (asks sending s.world t.world a.world)

    uploads-alike : (n : ℕ) → Parts (uploads_up_to one site n) (uploads_up_to other site n)
    uploads-alike zero s t a = inl a
    uploads-alike (suc n) s t a = exchanges SendUpload (with_upload one site) (uploads_up_to one site n) (with_upload other site) (uploads_up_to other site n)
        (λ s t a. record { world = a.world; uploads = ap (λ k. k + 1) a.uploads; downloads = a.downloads; stop = a.stop }) (uploads-alike n) s t a

    ranges-alike : (n : ℕ) → Parts (range_requests_up_to one site n) (range_requests_up_to other site n)
    ranges-alike zero s t a = inl a
    ranges-alike (suc n) s t a = exchanges SendRanges (as_it_is one site) (λ (u : Session V). if has_grant one site (last_message one site u.world) then range_requests_up_to one site n u else u) (as_it_is other site) (λ (u : Session W). if has_grant other site (last_message other site u.world) then range_requests_up_to other site n u else u)
        (λ s t a. a) (λ s t a. subst (λ (b : Bool). AlikeOr (if has_grant one site (last_message one site s.world) then range_requests_up_to one site n s else s) (if b then range_requests_up_to other site n t else t))
        (by-look (λ (x : World). has_grant one site (last_message whole site x)) s.world t.world a.world)
        (if-session (has_grant one site (last_message one site s.world)) (range_requests_up_to one site n s) s (range_requests_up_to other site n t) t (ranges-alike n s t a) (inl a))) s t a

    last-alike : (s : Session V) (t : Session W) → R s.world t.world → downloaded_in one site (last_message one site s.world) ≡ downloaded_in other site (last_message other site t.world)
    last-alike s t r = by-look (λ (x : World). downloaded_in one site (last_message whole site x)) s.world t.world r

    counts-alike : (m : Downloaded) → Counting (with_download one site m) (with_download other site m)
    counts-alike m s t a = record { world = a.world; uploads = a.uploads; downloads = ap (λ (n : ℕ). if nat_lt m.from m.to then n + 1 else n) a.downloads; stop = a.stop }

    with-alike : Counting (with_answer one site) (with_answer other site)
    with-alike s t a = subst (λ (found : Option Downloaded). Alike (with_answer one site s) (elim found [ None ↦ t | Some m ↦ with_download other site m t ])) (last-alike s t a.world) (by (downloaded_in one site (last_message one site s.world)))
      where
        by : (found : Option Downloaded) → Alike (elim found [ None ↦ s | Some m ↦ with_download one site m s ]) (elim found [ None ↦ t | Some m ↦ with_download other site m t ])
        by None = a
        by (Some m) = counts-alike m s t a

    after-alike : (f : Downloaded → Session V → Session V) (g : Downloaded → Session W → Session W) → ((m : Downloaded) → Parts (f m) (g m)) → Parts (after_download one site f) (after_download other site g)
    after-alike f g each s t a = subst (λ (found : Option Downloaded). AlikeOr (after_download one site f s) (elim found [ None ↦ t | Some m ↦ g m t ])) (last-alike s t a.world) (by (downloaded_in one site (last_message one site s.world)))
      where
        by : (found : Option Downloaded) → AlikeOr (elim found [ None ↦ s | Some m ↦ f m s ]) (elim found [ None ↦ t | Some m ↦ g m t ])
        by None = inl a
        by (Some m) = each m s t a

    downloads-alike : (n target : ℕ) → Parts (downloads_up_to one site n target) (downloads_up_to other site n target)
    downloads-alike zero target s t a = inl a
    downloads-alike (suc n) target s t a = exchanges SendDownload (with_answer one site) (after_download one site (λ (m : Downloaded) (u : Session V). if nat_le target m.from then u else downloads_up_to one site n target u))
        (with_answer other site) (after_download other site (λ (m : Downloaded) (u : Session W). if nat_le target m.from then u else downloads_up_to other site n target u)) with-alike
        (after-alike (λ (m : Downloaded) (u : Session V). if nat_le target m.from then u else downloads_up_to one site n target u) (λ (m : Downloaded) (u : Session W). if nat_le target m.from then u else downloads_up_to other site n target u)
        (λ m u x b. if-session (nat_le target m.from) u (downloads_up_to one site n target u) x (downloads_up_to other site n target x) (inl b) (downloads-alike n target u x b))) s t a

    all-alike : Parts (all_downloads one site) (all_downloads other site)
    all-alike s t a = exchanges SendDownload (with_answer one site) (after_download one site (λ (m : Downloaded) (u : Session V). if nat_le m.last m.from then u else downloads_up_to one site (m.last + 1 - m.from) m.last u))
        (with_answer other site) (after_download other site (λ (m : Downloaded) (u : Session W). if nat_le m.last m.from then u else downloads_up_to other site (m.last + 1 - m.from) m.last u)) with-alike
        (after-alike (λ (m : Downloaded) (u : Session V). if nat_le m.last m.from then u else downloads_up_to one site (m.last + 1 - m.from) m.last u) (λ (m : Downloaded) (u : Session W). if nat_le m.last m.from then u else downloads_up_to other site (m.last + 1 - m.from) m.last u)
        (λ m u x b. if-session (nat_le m.last m.from) u (downloads_up_to one site (m.last + 1 - m.from) m.last u) x (downloads_up_to other site (m.last + 1 - m.from) m.last x) (inl b) (downloads-alike (m.last + 1 - m.from) m.last u x b))) s t a

    stays-off : (f : Session V → Session V) (s : Session V) (stop : Option Refusal) → s.stop ≡ stop → stops_off off stop ≡ true → (let u : Session V = elim stop [ Some refusal ↦ s | None ↦ f s ] in stops_off off u.stop ≡ true)
    stays-off f s (Some refusal) at is = ap (stops_off off) at ∙ is
    stays-off f s None at is = absurd (cc is)

    unless-alike : (f : Session V → Session V) (g : Session W → Session W) → Parts f g → (s : Session V) (t : Session W) → AlikeOr s t → AlikeOr (unless_stopped one site f s) (unless_stopped other site g t)
    unless-alike f g each s t (inl a) = subst (λ (stop : Option Refusal). AlikeOr (unless_stopped one site f s) (elim stop [ Some refusal ↦ t | None ↦ g t ])) a.stop (by s.stop)
      where
        by : (stop : Option Refusal) → AlikeOr (elim stop [ Some refusal ↦ s | None ↦ f s ]) (elim stop [ Some refusal ↦ t | None ↦ g t ])
        by (Some refusal) = inl a
        by None = each s t a
    unless-alike f g each s t (inr is) = inr (stays-off f s s.stop refl is)

    joins-alike : Parts (join_if_due one site) (join_if_due other site)
    joins-alike s t a = subst (λ (b : Bool). AlikeOr (join_if_due one site s) (if b then t else exchange other site SendJoin (as_it_is other site) (as_it_is other site) t)) (by-look (λ (x : World). is_joined_in whole site x) s.world t.world a.world)
        (if-session (is_joined_in one site s.world) s (exchange one site SendJoin (as_it_is one site) (as_it_is one site) s) t (exchange other site SendJoin (as_it_is other site) (as_it_is other site) t) (inl a)
        (exchanges SendJoin (as_it_is one site) (as_it_is one site) (as_it_is other site) (as_it_is other site) (λ u x b. b) (λ u x b. inl b) s t a))

    all-uploads-alike : Parts (all_uploads one site) (all_uploads other site)
    all-uploads-alike s t a = subst (λ (n : ℕ). AlikeOr (all_uploads one site s) (uploads_up_to other site n t)) (by-look (λ (x : World). unsent_generations whole site x) s.world t.world a.world) (uploads-alike (unsent_generations one site s.world) s t a)

    all-ranges-alike : Parts (all_ranges one site) (all_ranges other site)
    all-ranges-alike s t a = subst (λ (n : ℕ). AlikeOr (all_ranges one site s) (range_requests_up_to other site n t)) (by-look (λ (x : World). range_asks whole site x) s.world t.world a.world) (ranges-alike (range_asks one site s.world) s t a)

    abbrev starts : {X : Type 0} → X → Session X
    starts x = record { world = x; uploads = 0; downloads = 0; stop = None }

    pub session-alike : (v : V) (w : W) → R v w → AlikeOr (session one site v) (session other site w)
    session-alike v w r = unless-alike (all_downloads one site) (all_downloads other site) all-alike
        (unless_stopped one site (all_ranges one site) (unless_stopped one site (all_uploads one site) (join_if_due one site (starts v))))
        (unless_stopped other site (all_ranges other site) (unless_stopped other site (all_uploads other site) (join_if_due other site (starts w))))
        (unless-alike (all_ranges one site) (all_ranges other site) all-ranges-alike
        (unless_stopped one site (all_uploads one site) (join_if_due one site (starts v)))
        (unless_stopped other site (all_uploads other site) (join_if_due other site (starts w)))
        (unless-alike (all_uploads one site) (all_uploads other site) all-uploads-alike (join_if_due one site (starts v)) (join_if_due other site (starts w))
        (joins-alike (starts v) (starts w) (record { world = r; uploads = refl; downloads = refl; stop = refl }))))

  -- Events.
  module _ (publication : Publication) where
    looked-alike : (f : V → Answer) (g : W → Answer) → ((v : V) (w : W) → R v w → f v ≡ g w) → (v : V) (w : W) (outcome : Outcome) → R v w → Both R (answered_unless_refused publication one f (v, outcome)) (answered_unless_refused publication other g (w, outcome))
    looked-alike f g same v w (Refuses refusal) r = (refl, r)
    looked-alike f g same v w outcome r = (same v w r, r)

    looked-off : (f : V → Answer) (x : V × Outcome) → refused_for off x.1 ≡ true → shows_refusal off (answered_unless_refused publication one f x).1 ≡ true
    looked-off f (v, Refuses refusal) is = is
    looked-off f (v, outcome) is = absurd (cc is)

    looked-pair : (f : V → Answer) (g : W → Answer) → ((v : V) (w : W) → R v w → f v ≡ g w) → (x : V × Outcome) (y : W × Outcome) → Acted x y → Told (answered_unless_refused publication one f x) (answered_unless_refused publication other g y)
    looked-pair f g same x y (inl b) = inl (subst (λ (o : Outcome). Both R (answered_unless_refused publication one f x) (answered_unless_refused publication other g (y.0, o))) b.0 (looked-alike f g same x.0 y.0 x.1 b.1))
    looked-pair f g same x y (inr is) = inr (looked-off f x is)

    looking-alike : (f : V → Answer) (g : W → Answer) → ((v : V) (w : W) → R v w → f v ≡ g w) → (v : V) (w : W) → R v w → Told (answered_look publication one f v) (answered_look publication other g w)
    looking-alike f g same v w r = looked-pair f g same (one.act v Look) (other.act w Look) (acts v w Look r)

    -- what is answered by the outcome alone
    answered-alike : (answer : Outcome → Answer) → ((outcome : Outcome) → refused_for off outcome ≡ true → shows_refusal off (answer outcome) ≡ true) → (x : V × Outcome) (y : W × Outcome) → Acted x y → Told (answered_by publication one answer x) (answered_by publication other answer y)
    answered-alike answer excused x y (inl b) = inl (ap answer b.0, b.1)
    answered-alike answer excused x y (inr is) = inr (excused x.1 is)

    outcome-off : (number : ℕ) (outcome : Outcome) → refused_for off outcome ≡ true → shows_refusal off (outcome_answer number outcome) ≡ true
    outcome-off number (Refuses refusal) is = is
    outcome-off number outcome is = absurd (cc is)

    refused-off : (change : Change) (refusal : Refusal) → off refusal ≡ true → shows_refusal off (refused_change change refusal) ≡ true
    refused-off change NoMemory is = is
    refused-off change refusal is = is

    change-off : (change : Change) (outcome : Outcome) → refused_for off outcome ≡ true → shows_refusal off (change_answer change outcome) ≡ true
    change-off change (Refuses refusal) is = refused-off change refusal is
    change-off change outcome is = absurd (cc is)

    acting-alike : (number : ℕ) (action : Action) (v : V) (w : W) → R v w → Told (answered_action publication one number action v) (answered_action publication other number action w)
    acting-alike number action v w r = answered-alike (outcome_answer number) (outcome-off number) (one.act v action) (other.act w action) (acts v w action r)

    where-site : (site : SiteId) (f : V → V × Answer) (g : W → W × Answer) → ((v : V) (w : W) → R v w → Told (f v) (g w)) → (v : V) (w : W) → R v w → Told (where_site publication one site v f) (where_site publication other site w g)
    where-site site f g each v w r = if-told (is_site publication site) (f v) (answered_look publication one (λ (u : V). Refused (UnknownSite site)) v) (g w) (answered_look publication other (λ (u : W). Refused (UnknownSite site)) w) (each v w r)
        (looking-alike (λ (u : V). Refused (UnknownSite site)) (λ (u : W). Refused (UnknownSite site)) (λ u x b. refl) v w r)

    where-subscriber : (site : SiteId) (f : V → V × Answer) (g : W → W × Answer) → ((v : V) (w : W) → R v w → Told (f v) (g w)) → (v : V) (w : W) → R v w → Told (where_subscriber publication one site v f) (where_subscriber publication other site w g)
    where-subscriber site f g each v w r = if-told (is_subscription publication site.0) (f v) (answered_look publication one (λ (u : V). Refused (UnknownSite site)) v) (g w) (answered_look publication other (λ (u : W). Refused (UnknownSite site)) w) (each v w r)
        (looking-alike (λ (u : V). Refused (UnknownSite site)) (λ (u : W). Refused (UnknownSite site)) (λ u x b. refl) v w r)

    changing-alike : (site : SiteId) (named : Result Change (List ℕ)) (v : V) (w : W) → R v w → Told (answered_change publication one site v named) (answered_change publication other site w named)
    changing-alike site (Err name) v w r = looking-alike (λ (u : V). Refused (UnknownName name)) (λ (u : W). Refused (UnknownName name)) (λ u x b. refl) v w r
    changing-alike site (Ok change) v w r = answered-alike (change_answer change) (change-off change) (one.act v (Make site change)) (other.act w (Make site change)) (acts v w (Make site change) r)

    answer-alike : (site : SiteId) (s : Session V) (t : Session W) → Alike s t → session_answer publication one site s ≡ session_answer publication other site t
    answer-alike site s t a = ap (λ (stop : Option Refusal). answer_by s.uploads s.downloads (watermark_in publication one site s.world) stop) a.stop
        ∙ (ap (λ (n : ℕ). answer_by n s.downloads (watermark_in publication one site s.world) t.stop) a.uploads
        ∙ (ap (λ (n : ℕ). answer_by t.uploads n (watermark_in publication one site s.world) t.stop) a.downloads
        ∙ ap (λ (n : ℕ). answer_by t.uploads t.downloads n t.stop) (by-look (λ (x : World). watermark_in publication whole site x) s.world t.world a.world)))

    stopped-off : (uploads downloads watermark : ℕ) (stop : Option Refusal) → stops_off off stop ≡ true → shows_refusal off (answer_by uploads downloads watermark stop) ≡ true
    stopped-off uploads downloads watermark None is = absurd (cc is)
    stopped-off uploads downloads watermark (Some refusal) is = is

    synced : (site : SiteId) (s : Session V) (t : Session W) → AlikeOr s t → Told (s.world, session_answer publication one site s) (t.world, session_answer publication other site t)
    synced site s t (inl a) = inl (answer-alike site s t a, a.world)
    synced site s t (inr is) = inr (stopped-off s.uploads s.downloads (watermark_in publication one site s.world) s.stop is)

    syncing-alike : (site : SiteId) (v : V) (w : W) → R v w → Told (answered_sync publication one site v) (answered_sync publication other site w)
    syncing-alike site v w r = synced site (session one site v) (session other site w) (session-alike site v w r)

    report-alike : (site : SiteId) (f : PublisherTables → Answer) (g : SubscriberTables → Answer) (v : V) (w : W) → R v w → Told (answered_report publication one site f g v) (answered_report publication other site f g w)
    report-alike site f g v w r = looking-alike (report_of_site publication one site f g) (report_of_site publication other site f g) (by-look (λ (x : World). report_of_site publication whole site f g x)) v w r

    reports-alike : (site : SiteId) (f : PublisherTables → Answer) (g : SubscriberTables → Answer) (v : V) (w : W) → R v w → Told (where_site publication one site v (answered_report publication one site f g)) (where_site publication other site w (answered_report publication other site f g))
    reports-alike site f g v w r = where-site site (answered_report publication one site f g) (answered_report publication other site f g) (report-alike site f g) v w r

    shows : (site : SiteId) (named : Result ℕ (List ℕ)) (v : V) (w : W) → R v w → Told (answered_show publication one site v named) (answered_show publication other site w named)
    shows site (Err name) v w r = looking-alike (λ (u : V). Refused (UnknownName name)) (λ (u : W). Refused (UnknownName name)) (λ u x b. refl) v w r
    shows site (Ok article) v w r = report-alike site (λ (p : PublisherTables). Rows (shown_rows article (live_rows p.rows))) (λ (s : SubscriberTables). Rows (shown_rows article (subscriber_live_rows s))) v w r

    pub happens-or : (v : V) (w : W) (e : Event) → R v w → Told (happens publication one v e) (happens publication other w e)
    happens-or v w (event.Wait seconds) r = (let a = passes v w seconds r in inl (by-look (λ (x : World). Now x.moment.0) (one.act v (Pass seconds)).0 (other.act w (Pass seconds)).0 a.1, a.1))
    happens-or v w (event.Insert site article values) r = where-site site (λ (u : V). answered_change publication one site u (insert_by publication article values)) (λ (u : W). answered_change publication other site u (insert_by publication article values)) (changing-alike site (insert_by publication article values)) v w r
    happens-or v w (event.Update site article row values) r = where-site site (λ (u : V). answered_change publication one site u (update_by publication article row values)) (λ (u : W). answered_change publication other site u (update_by publication article row values)) (changing-alike site (update_by publication article row values)) v w r
    happens-or v w (event.Delete site article row) r = where-site site (λ (u : V). answered_change publication one site u (delete_by publication article row)) (λ (u : W). answered_change publication other site u (delete_by publication article row)) (changing-alike site (delete_by publication article row)) v w r
    happens-or v w (event.Close site) r = where-site site (answered_action publication one 0 (CloseAt site)) (answered_action publication other 0 (CloseAt site)) (acting-alike 0 (CloseAt site)) v w r
    happens-or v w (event.Sync site) r = where-subscriber site (answered_sync publication one site) (answered_sync publication other site) (syncing-alike site) v w r
    happens-or v w (event.SendJoin site) r = where-subscriber site (answered_action publication one 0 (Send site SendJoin)) (answered_action publication other 0 (Send site SendJoin)) (acting-alike 0 (Send site SendJoin)) v w r
    happens-or v w (event.SendUpload site) r = where-subscriber site (answered_action publication one 0 (Send site SendUpload)) (answered_action publication other 0 (Send site SendUpload)) (acting-alike 0 (Send site SendUpload)) v w r
    happens-or v w (event.SendRanges site) r = where-subscriber site (answered_action publication one 0 (Send site SendRanges)) (answered_action publication other 0 (Send site SendRanges)) (acting-alike 0 (Send site SendRanges)) v w r
    happens-or v w (event.SendDownload site) r = where-subscriber site (answered_action publication one 0 (Send site SendDownload)) (answered_action publication other 0 (Send site SendDownload)) (acting-alike 0 (Send site SendDownload)) v w r
    happens-or v w (event.Deliver number) r = acting-alike number (Deliver number) v w r
    happens-or v w (event.Reinit site) r = where-subscriber site (answered_action publication one 0 (MakeAnew site)) (answered_action publication other 0 (MakeAnew site)) (acting-alike 0 (MakeAnew site)) v w r
    happens-or v w event.Purge r = acting-alike 0 Forget v w r
    happens-or v w (event.Restart site) r = where-site site (answered_look publication one (λ (u : V). Fine)) (answered_look publication other (λ (u : W). Fine)) (looking-alike (λ (u : V). Fine) (λ (u : W). Fine) (λ u x b. refl)) v w r
    happens-or v w (event.Show site article) r = where-site site (λ (u : V). answered_show publication one site u (article_by publication article)) (λ (u : W). answered_show publication other site u (article_by publication article)) (shows site (article_by publication article)) v w r
    happens-or v w (event.Partition site) r = where-subscriber site (answered_look publication one (λ (u : V). partition_report publication site (one.look u).publisher)) (answered_look publication other (λ (u : W). partition_report publication site (other.look u).publisher))
        (looking-alike (λ (u : V). partition_report publication site (one.look u).publisher) (λ (u : W). partition_report publication site (other.look u).publisher) (by-look (λ (x : World). partition_report publication site x.publisher))) v w r
    happens-or v w (event.Conflicts site) r = reports-alike site (λ (p : PublisherTables). Conflicts p.conflicts) (λ (s : SubscriberTables). Conflicts s.conflicts) v w r
    happens-or v w (event.Ranges site) r = reports-alike site (λ (p : PublisherTables). Grants p.grants) (λ (s : SubscriberTables). Held (held_report s)) v w r
    happens-or v w (event.Generations site) r = reports-alike site (publisher_generations publication) subscriber_generations v w r
    happens-or v w (event.Count site) r = reports-alike site (λ (p : PublisherTables). Counts (counts_of publication (live_rows p.rows))) (λ (s : SubscriberTables). Counts (counts_of publication (subscriber_live_rows s))) v w r

    -- lists of events of which no answer excuses
    either-none : (x y : Bool) → (x || y) ≡ false → (x ≡ false) × (y ≡ false)
    either-none true y is = absurd (cc is)
    either-none false y is = (refl, is)

    told-alike : (x : V × Answer) (y : W × Answer) → shows_refusal off x.1 ≡ false → Told x y → Both R x y
    told-alike x y none (inl both) = both
    told-alike x y none (inr is) = absurd (cc (none, is))

    pub events-or : (events : List Event) (v : V) (w : W) → R v w → list_any (shows_refusal off) (answers_to publication one v events) ≡ false
        → (answers_to publication one v events ≡ answers_to publication other w events) × R (after publication one v events) (after publication other w events)
    events-or [] v w r none = (refl, r)
    events-or (e ∷ events) v w r none =
        let each = either-none (shows_refusal off (happens publication one v e).1) (list_any (shows_refusal off) (answers_to publication one (happens publication one v e).0 events)) none in
        let first = told-alike (happens publication one v e) (happens publication other w e) each.0 (happens-or v w e r) in
        let rest = events-or events (happens publication one v e).0 (happens publication other w e).0 first.1 each.1 in
        (ap (λ (answer : Answer). answer ∷ answers_to publication one (happens publication one v e).0 events) first.0 ∙ ap (λ (more : List Answer). (happens publication other w e).1 ∷ more) rest.0, rest.1)

-- Where nothing excuses, everything is alike.

abbrev never : Refusal → Bool
never refusal = false

never-shown : (answer : Answer) → shows_refusal never answer ≡ false
never-shown (Refused refusal) = refl
never-shown (RefusedIn article refusal) = refl
never-shown (Stopped uploads downloads refusal) = refl
never-shown answer = refl

none-shown : (answers : List Answer) → list_any (shows_refusal never) answers ≡ false
none-shown [] = refl
none-shown (answer ∷ answers) = ap (λ (b : Bool). b || list_any (shows_refusal never) answers) (never-shown answer) ∙ none-shown answers

module _ {V W : Type 0} (one : Stepping V) (other : Stepping W) (R : V → W → Type 0) (acts : (v : V) (w : W) (action : Action) → R v w → Both R (one.act v action) (other.act w action)) (looks : (v : V) (w : W) → R v w → one.look v ≡ other.look w) where
  pub events-alike : (publication : Publication) (events : List Event) (v : V) (w : W) → R v w → (answers_to publication one v events ≡ answers_to publication other w events) × R (after publication one v events) (after publication other w events)
  events-alike publication events v w r = events-or one other R never (λ x y action same. inl (acts x y action same)) (λ x y seconds same. acts x y (Pass seconds) same) looks publication events v w r (none-shown (answers_to publication one v events))
