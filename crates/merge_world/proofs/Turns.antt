-- Loops of a session: uploads, requests for ranges, downloads.
use Rattle.std.proofs.Common.{◌≡◌, ◌≤◌, ◌<◌, ◌+◌, ◌-◌, ℕ, zero, suc, Bool, true, false, Option, Some, None, if◌then◌else◌, nat_le, refl, ap, sym, subst, ◌∙◌, arith}
use Rattle.merge_types.specs.declared.identifiers.SiteId.{SiteId}
use Rattle.merge_schema.specs.declared.publication.Publication.{Publication}
use Rattle.merge_batch.specs.declared.refusal.Refusal.{Refusal}
use Rattle.merge_batch.specs.declared.refusal.Refusal.TheVariants.{NoMemory}
use Rattle.merge_batch.specs.declared.reply.Downloaded.{Downloaded}
use Rattle.merge_batch.specs.declared.reply.Reply.TheVariants as reply
use Rattle.merge_model.specs.Failing.{Faulty, Slips}
use Rattle.merge_model.specs.Failing.Reach.{Reaches, at, stepping}
use Rattle.merge_model.specs.World.Session.{Session, after_download, all_downloads, all_ranges, all_uploads, as_it_is, downloaded_in, downloads_up_to, exchange, has_grant, join_if_due, last_message, range_requests_up_to, unless_stopped, uploads_up_to, with_answer, with_download, with_upload}
use Rattle.merge_model.specs.World.Steps.{Send, SendDownload, SendJoin, SendRanges, SendUpload, Sending}
use Rattle.merge_model.specs.World.{Saying, World, subscriber_at}
use Rattle.merge_model.specs.declared.letter.Message.{Message}
use Rattle.merge_model.specs.declared.letter.Message.TheVariants.{Asks, Replies}
use Rattle.merge_model.specs.declared.outcome.Outcome.TheVariants.{Refuses}
use Rattle.merge_model.proofs.Failing.Calling.{wants}
use Rattle.merge_model.proofs.Failing.Reached.{same-end, same-start, stays, then}
use Rattle.merge_model.proofs.Failing.ReachedSessions.{asked-other, goes-on, is-stopped}
use Rattle.merge_world.specs.Sessions.{AllDownloads, AllRanges, AllUploads, Counts, Downloads, Exchanges, Goes, Joins, Part, Ranges, Stage, Syncs, Uploads, brings_found, download_in, grants, is_past, joined_at, last_in, left_in, one_if}
use Rattle.merge_world.specs.declared.exchange.Exchanged.{Exchanged}
use Rattle.merge_world.specs.declared.exchange.Exchanged.TheVariants.{Answered, Taken, Unanswered}
use Rattle.merge_world.specs.declared.exchange.Span.{Span}
use Rattle.merge_world.proofs.Doing.{same-count}
use Rattle.merge_world.proofs.Sessions.{exchange-unmade}

-- A loop of so many turns at most, of which each has one turn less to come.
module _ {A : Type 0} (turns : ℕ → A → A) where
  left : (most i : ℕ) → i < most → most - i ≡ suc (most - (i + 1))
  left most i lt = omega (arith, lt)

  none-left : (most i : ℕ) → most ≤ i → most - i ≡ 0
  none-left most i le = omega (arith, le)

  pub turns-end : (most i : ℕ) (start middle end : Slips → A) (a b c : ℕ) → i < most → Reaches (λ l. turns most (start l)) (λ l. turns (most - i) (middle l)) a b
      → ((n : ℕ) → Reaches (λ l. turns (suc n) (middle l)) end b c) → Reaches (λ l. turns most (start l)) end a c
  turns-end most i start middle end a b c lt first second = (then) (λ l. turns most (start l)) (λ l. turns (most - i) (middle l)) end a b c first
      (subst (λ (n : ℕ). Reaches (λ l. turns n (middle l)) end b c) (sym (left most i lt)) (second (most - (i + 1))))

  pub turns-more : (most i : ℕ) (start middle next : Slips → A) (a b c : ℕ) → i < most → Reaches (λ l. turns most (start l)) (λ l. turns (most - i) (middle l)) a b
      → ((n : ℕ) → Reaches (λ l. turns (suc n) (middle l)) (λ l. turns n (next l)) b c) → Reaches (λ l. turns most (start l)) (λ l. turns (most - (i + 1)) (next l)) a c
  turns-more most i start middle next a b c lt first second = (then) (λ l. turns most (start l)) (λ l. turns (most - i) (middle l)) (λ l. turns (most - (i + 1)) (next l)) a b c first
      (subst (λ (n : ℕ). Reaches (λ l. turns n (middle l)) (λ l. turns (most - (i + 1)) (next l)) b c) (sym (left most i lt)) (second (most - (i + 1))))

  pub turns-done : (most i : ℕ) (start middle : Slips → A) (a b : ℕ) → most ≤ i → Reaches (λ l. turns most (start l)) (λ l. turns (most - i) (middle l)) a b → Reaches (λ l. turns most (start l)) (λ l. turns 0 (middle l)) a b
  turns-done most i start middle a b le first = subst (λ (n : ℕ). Reaches (λ l. turns most (start l)) (λ l. turns n (middle l)) a b) (none-left most i le) first

module _ (p : Publication) (says : Saying) (site : SiteId) where
  -- uploads
  module _ (w v : World) (flag : Bool) (n count a b : ℕ) where
    pub upload-taken : Exchanges p says site SendUpload w v (Taken flag) a b
        → Reaches (λ l. uploads_up_to (stepping p says) site (suc n) (at p says w count 0 None l)) (λ l. uploads_up_to (stepping p says) site n (at p says v (count + 1) 0 None l)) a b
    unfolding Exchanges
    upload-taken met = met (with_upload (stepping p says) site) (uploads_up_to (stepping p says) site n) count 0 (count + 1) 0 (λ u l is. refl)

    pub upload-answered : (stop : Option Refusal) → Exchanges p says site SendUpload w v (Answered flag stop) a b
        → Reaches (λ l. uploads_up_to (stepping p says) site (suc n) (at p says w count 0 None l)) (at p says v (count + 1) 0 stop) a b
    unfolding Exchanges
    upload-answered stop met = met (with_upload (stepping p says) site) (uploads_up_to (stepping p says) site n) count 0 (count + 1) 0 (λ u l is. refl)

    pub upload-unanswered : (stop : Option Refusal) → Exchanges p says site SendUpload w v (Unanswered stop) a b
        → Reaches (λ l. uploads_up_to (stepping p says) site (suc n) (at p says w count 0 None l)) (at p says v count 0 stop) a b
    unfolding Exchanges
    upload-unanswered stop met = met (with_upload (stepping p says) site) (uploads_up_to (stepping p says) site n) count 0

  -- requests for ranges
  abbrev asks-next : ℕ → Part
  asks-next n t = if has_grant (stepping p says) site (last_message (stepping p says) site t.world) then range_requests_up_to (stepping p says) site n t else t

  same-grant : (last : Option Message) → has_grant (stepping p says) site last ≡ grants last
  same-grant None = refl
  same-grant (Some (Asks m)) = refl
  same-grant (Some (Replies (reply.Joined m))) = refl
  same-grant (Some (Replies (reply.Uploaded m))) = refl
  same-grant (Some (Replies (reply.Ranged m))) = refl
  same-grant (Some (Replies (reply.Downloaded m))) = refl
  same-grant (Some (Replies (reply.Refused number values))) = refl

  module _ (w v : World) (flag : Bool) (n x y a b : ℕ) where
    pub ask-granted : true ≡ grants (last_in v.pool) → Exchanges p says site SendRanges w v (Taken flag) a b
        → Reaches (λ l. range_requests_up_to (stepping p says) site (suc n) (at p says w x y None l)) (λ l. range_requests_up_to (stepping p says) site n (at p says v x y None l)) a b
    unfolding Exchanges
    ask-granted granted met = same-end (λ l. range_requests_up_to (stepping p says) site (suc n) (at p says w x y None l)) (λ l. asks-next n (at p says v x y None l)) (λ l. range_requests_up_to (stepping p says) site n (at p says v x y None l)) a b
        (λ l. ap (λ (more : Bool). if more then range_requests_up_to (stepping p says) site n (at p says v x y None l) else at p says v x y None l) (same-grant (last_in v.pool) ∙ sym granted))
        (met (as_it_is (stepping p says) site) (asks-next n) x y x y (λ u l is. refl))

    pub ask-last : false ≡ grants (last_in v.pool) → Exchanges p says site SendRanges w v (Taken flag) a b
        → Reaches (λ l. range_requests_up_to (stepping p says) site (suc n) (at p says w x y None l)) (at p says v x y None) a b
    unfolding Exchanges
    ask-last granted met = same-end (λ l. range_requests_up_to (stepping p says) site (suc n) (at p says w x y None l)) (λ l. asks-next n (at p says v x y None l)) (at p says v x y None) a b
        (λ l. ap (λ (more : Bool). if more then range_requests_up_to (stepping p says) site n (at p says v x y None l) else at p says v x y None l) (same-grant (last_in v.pool) ∙ sym granted))
        (met (as_it_is (stepping p says) site) (asks-next n) x y x y (λ u l is. refl))

    pub ask-answered : (stop : Option Refusal) → Exchanges p says site SendRanges w v (Answered flag stop) a b
        → Reaches (λ l. range_requests_up_to (stepping p says) site (suc n) (at p says w x y None l)) (at p says v x y stop) a b
    unfolding Exchanges
    ask-answered stop met = met (as_it_is (stepping p says) site) (asks-next n) x y x y (λ u l is. refl)

    pub ask-unanswered : (stop : Option Refusal) → Exchanges p says site SendRanges w v (Unanswered stop) a b
        → Reaches (λ l. range_requests_up_to (stepping p says) site (suc n) (at p says w x y None l)) (at p says v x y stop) a b
    unfolding Exchanges
    ask-unanswered stop met = met (as_it_is (stepping p says) site) (asks-next n) x y

  -- a site joins
  abbrev joins-unless : World → ℕ → ℕ → Slips → Bool → Session (Faulty World)
  joins-unless w x y l joined = if joined then at p says w x y None l else exchange (stepping p says) site SendJoin (as_it_is (stepping p says) site) (as_it_is (stepping p says) site) (at p says w x y None l)

  module _ (w : World) (x y a : ℕ) where
    pub joined-before : true ≡ joined_at (subscriber_at w site) → Goes p says site Joins w w x y x y None a a
    unfolding Goes
    joined-before joined = same-start (λ l. join_if_due (stepping p says) site (at p says w x y None l)) (at p says w x y None) (at p says w x y None) a a
        (λ l. ap (joins-unless w x y l) (sym joined)) (stays (at p says w x y None) a a (same-count a))

    module _ (v : World) (flag : Bool) (b : ℕ) (joined : false ≡ joined_at (subscriber_at w site)) where
      pub join-taken : Exchanges p says site SendJoin w v (Taken flag) a b → Goes p says site Joins w v x y x y None a b
      unfolding Exchanges Goes
      join-taken met = same-start (λ l. join_if_due (stepping p says) site (at p says w x y None l)) (λ l. joins-unless w x y l false) (at p says v x y None) a b (λ l. ap (joins-unless w x y l) (sym joined))
          (met (as_it_is (stepping p says) site) (as_it_is (stepping p says) site) x y x y (λ u l is. refl))

      pub join-answered : (stop : Option Refusal) → Exchanges p says site SendJoin w v (Answered flag stop) a b → Goes p says site Joins w v x y x y stop a b
      unfolding Exchanges Goes
      join-answered stop met = same-start (λ l. join_if_due (stepping p says) site (at p says w x y None l)) (λ l. joins-unless w x y l false) (at p says v x y stop) a b (λ l. ap (joins-unless w x y l) (sym joined))
          (met (as_it_is (stepping p says) site) (as_it_is (stepping p says) site) x y x y (λ u l is. refl))

      pub join-unanswered : (stop : Option Refusal) → Exchanges p says site SendJoin w v (Unanswered stop) a b → Goes p says site Joins w v x y x y stop a b
      unfolding Exchanges Goes
      join-unanswered stop met = same-start (λ l. join_if_due (stepping p says) site (at p says w x y None l)) (λ l. joins-unless w x y l false) (at p says v x y stop) a b (λ l. ap (joins-unless w x y l) (sym joined))
          (met (as_it_is (stepping p says) site) (as_it_is (stepping p says) site) x y)

  -- downloads
  same-download : (last : Option Message) → downloaded_in (stepping p says) site last ≡ download_in last
  same-download None = refl
  same-download (Some (Asks m)) = refl
  same-download (Some (Replies (reply.Joined m))) = refl
  same-download (Some (Replies (reply.Uploaded m))) = refl
  same-download (Some (Replies (reply.Ranged m))) = refl
  same-download (Some (Replies (reply.Downloaded m))) = refl
  same-download (Some (Replies (reply.Refused number values))) = refl

  abbrev with-found : Option Downloaded → Session (Faulty World) → Session (Faulty World)
  with-found found s = elim found [
    | None ↦ s
    | Some m ↦ with_download (stepping p says) site m s
  ]

  adds : (flag : Bool) (y : ℕ) → (if flag then y + 1 else y) ≡ y + one_if flag
  adds true y = refl
  adds false y = omega arith

  counts-found : (u : World) (x y : ℕ) (l : Slips) (flag : Bool) (found : Option Downloaded) → brings_found found ≡ flag → with-found found (at p says u x y None l) ≡ at p says u x (if flag then y + 1 else y) None l
  counts-found u x y l flag None e = ap (λ (b : Bool). at p says u x (if b then y + 1 else y) None l) e
  counts-found u x y l flag (Some m) e = ap (λ (b : Bool). at p says u x (if b then y + 1 else y) None l) e

  counts-answer : (flag : Bool) (x y : ℕ) → Counts p says (with_answer (stepping p says) site) flag x y x (y + one_if flag)
  counts-answer flag x y = λ u l is. ap (λ (found : Option Downloaded). with-found found (at p says u x y None l)) (same-download (last_in u.pool))
      ∙ (counts-found u x y l flag (download_in (last_in u.pool)) is ∙ ap (λ (n : ℕ). at p says u x n None l) (adds flag y))

  abbrev after-found : (Downloaded → Part) → Option Downloaded → Part
  after-found next found s = elim found [
    | None ↦ s
    | Some m ↦ next m s
  ]

  abbrev asks-more : ℕ → ℕ → Downloaded → Part
  asks-more n target m t = if nat_le target m.from then t else downloads_up_to (stepping p says) site n target t

  more-as : (n target : ℕ) (t : Session (Faulty World)) (found : Option Downloaded) (past : Bool) → past ≡ is_past target found
      → after-found (asks-more n target) found t ≡ (if past then t else downloads_up_to (stepping p says) site n target t)
  more-as n target t None past e = ap (λ (b : Bool). if b then t else downloads_up_to (stepping p says) site n target t) (sym e)
  more-as n target t (Some m) past e = ap (λ (b : Bool). if b then t else downloads_up_to (stepping p says) site n target t) (sym e)

  abbrev asks-first : Downloaded → Part
  asks-first m t = if nat_le m.last m.from then t else downloads_up_to (stepping p says) site (m.last + 1 - m.from) m.last t

  -- the downloads that are left
  abbrev goes-left : Option Span → Part
  goes-left None t = t
  goes-left (Some span) t = downloads_up_to (stepping p says) site (span.last + 1 - span.from) span.last t

  first-if : (m : Downloaded) (t : Session (Faulty World)) (past : Bool) → (if past then t else downloads_up_to (stepping p says) site (m.last + 1 - m.from) m.last t)
      ≡ goes-left (if past then None else Some (record { from = m.from; last = m.last })) t
  first-if m t true = refl
  first-if m t false = refl

  first-as : (t : Session (Faulty World)) (found : Option Downloaded) → after-found asks-first found t ≡ goes-left (left_in found) t
  first-as t None = refl
  first-as t (Some m) = first-if m t (nat_le m.last m.from)

  after-as : (next : Downloaded → Part) (v : World) (t : Session (Faulty World)) → t.world.world ≡ v → after_download (stepping p says) site next t ≡ after-found next (download_in (last_in v.pool)) t
  after-as next v t e = ap (λ (u : World). after-found next (downloaded_in (stepping p says) site (last_in u.pool)) t) e ∙ ap (λ (f : Option Downloaded). after-found next f t) (same-download (last_in v.pool))

  module _ (w v : World) (flag : Bool) (x y a b : ℕ) where
    -- any answered download
    answered-any : (next : Downloaded → Part) → Exchanges p says site SendDownload w v (Taken flag) a b
        → Reaches (λ l. exchange (stepping p says) site SendDownload (with_answer (stepping p says) site) (after_download (stepping p says) site next) (at p says w x y None l))
        (λ l. after-found next (download_in (last_in v.pool)) (at p says v x (y + one_if flag) None l)) a b
    unfolding Exchanges
    answered-any next met = same-end (λ l. exchange (stepping p says) site SendDownload (with_answer (stepping p says) site) (after_download (stepping p says) site next) (at p says w x y None l))
        (λ l. after_download (stepping p says) site next (at p says v x (y + one_if flag) None l)) (λ l. after-found next (download_in (last_in v.pool)) (at p says v x (y + one_if flag) None l)) a b
        (λ l. after-as next v (at p says v x (y + one_if flag) None l) refl)
        (met (with_answer (stepping p says) site) (after_download (stepping p says) site next) x y x (y + one_if flag) (counts-answer flag x y))

    any-answered : (next : Part) (stop : Option Refusal) → Exchanges p says site SendDownload w v (Answered flag stop) a b
        → Reaches (λ l. exchange (stepping p says) site SendDownload (with_answer (stepping p says) site) next (at p says w x y None l)) (at p says v x (y + one_if flag) stop) a b
    unfolding Exchanges
    any-answered next stop met = met (with_answer (stepping p says) site) next x y x (y + one_if flag) (counts-answer flag x y)

    any-unanswered : (next : Part) (stop : Option Refusal) → Exchanges p says site SendDownload w v (Unanswered stop) a b
        → Reaches (λ l. exchange (stepping p says) site SendDownload (with_answer (stepping p says) site) next (at p says w x y None l)) (at p says v x y stop) a b
    unfolding Exchanges
    any-unanswered next stop met = met (with_answer (stepping p says) site) next x y

    -- one of many
    module _ (n target : ℕ) where
      pub download-more : false ≡ is_past target (download_in (last_in v.pool)) → Exchanges p says site SendDownload w v (Taken flag) a b
          → Reaches (λ l. downloads_up_to (stepping p says) site (suc n) target (at p says w x y None l)) (λ l. downloads_up_to (stepping p says) site n target (at p says v x (y + one_if flag) None l)) a b
      download-more past met = same-end (λ l. downloads_up_to (stepping p says) site (suc n) target (at p says w x y None l)) (λ l. after-found (asks-more n target) (download_in (last_in v.pool)) (at p says v x (y + one_if flag) None l))
          (λ l. downloads_up_to (stepping p says) site n target (at p says v x (y + one_if flag) None l)) a b
          (λ l. more-as n target (at p says v x (y + one_if flag) None l) (download_in (last_in v.pool)) false past)
          (answered-any (asks-more n target) met)

      pub download-last : true ≡ is_past target (download_in (last_in v.pool)) → Exchanges p says site SendDownload w v (Taken flag) a b
          → Reaches (λ l. downloads_up_to (stepping p says) site (suc n) target (at p says w x y None l)) (at p says v x (y + one_if flag) None) a b
      download-last past met = same-end (λ l. downloads_up_to (stepping p says) site (suc n) target (at p says w x y None l)) (λ l. after-found (asks-more n target) (download_in (last_in v.pool)) (at p says v x (y + one_if flag) None l))
          (at p says v x (y + one_if flag) None) a b
          (λ l. more-as n target (at p says v x (y + one_if flag) None l) (download_in (last_in v.pool)) true past)
          (answered-any (asks-more n target) met)

      pub download-answered : (stop : Option Refusal) → Exchanges p says site SendDownload w v (Answered flag stop) a b
          → Reaches (λ l. downloads_up_to (stepping p says) site (suc n) target (at p says w x y None l)) (at p says v x (y + one_if flag) stop) a b
      download-answered stop met = any-answered (after_download (stepping p says) site (asks-more n target)) stop met

      pub download-unanswered : (stop : Option Refusal) → Exchanges p says site SendDownload w v (Unanswered stop) a b
          → Reaches (λ l. downloads_up_to (stepping p says) site (suc n) target (at p says w x y None l)) (at p says v x y stop) a b
      download-unanswered stop met = any-unanswered (after_download (stepping p says) site (asks-more n target)) stop met

  -- the first download
  module _ (w v : World) (flag : Bool) (x a b : ℕ) where
    from-none : (flag : Bool) → 0 + one_if flag ≡ one_if flag
    from-none flag = omega arith

    pub first-taken : (left : Option Span) → left ≡ left_in (download_in (last_in v.pool)) → Exchanges p says site SendDownload w v (Taken flag) a b
        → Reaches (λ l. all_downloads (stepping p says) site (at p says w x 0 None l)) (λ l. goes-left left (at p says v x (one_if flag) None l)) a b
    first-taken left e met = same-end (λ l. all_downloads (stepping p says) site (at p says w x 0 None l)) (λ l. after-found asks-first (download_in (last_in v.pool)) (at p says v x (0 + one_if flag) None l))
        (λ l. goes-left left (at p says v x (one_if flag) None l)) a b
        (λ l. first-as (at p says v x (0 + one_if flag) None l) (download_in (last_in v.pool)) ∙ (ap (λ (s : Option Span). goes-left s (at p says v x (0 + one_if flag) None l)) (sym e) ∙ ap (λ (k : ℕ). goes-left left (at p says v x k None l)) (from-none flag)))
        (answered-any w v flag x 0 a b asks-first met)

    pub first-only : None ≡ left_in (download_in (last_in v.pool)) → Exchanges p says site SendDownload w v (Taken flag) a b → Goes p says site AllDownloads w v x 0 x (one_if flag) None a b
    unfolding Goes
    first-only e met = first-taken None e met

    pub first-answered : (stop : Option Refusal) → Exchanges p says site SendDownload w v (Answered flag stop) a b → Goes p says site AllDownloads w v x 0 x (one_if flag) stop a b
    unfolding Goes
    first-answered stop met = subst (λ (k : ℕ). Reaches (λ l. all_downloads (stepping p says) site (at p says w x 0 None l)) (at p says v x k stop) a b) (from-none flag)
        (any-answered w v flag x 0 a b (after_download (stepping p says) site asks-first) stop met)

    pub first-unanswered : (stop : Option Refusal) → Exchanges p says site SendDownload w v (Unanswered stop) a b → Goes p says site AllDownloads w v x 0 x 0 stop a b
    unfolding Goes
    first-unanswered stop met = any-unanswered w v flag x 0 a b (after_download (stepping p says) site asks-first) stop met

    pub first-more : (u : World) (span : Span) (j : ℕ) (stop : Option Refusal) (c : ℕ) → Some span ≡ left_in (download_in (last_in v.pool)) → Exchanges p says site SendDownload w v (Taken flag) a b
        → Goes p says site (Downloads (span.last + 1 - span.from) span.last) v u x (one_if flag) x j stop b c → Goes p says site AllDownloads w u x 0 x j stop a c
    unfolding Goes
    first-more u span j stop c e met more = (then) (λ l. all_downloads (stepping p says) site (at p says w x 0 None l)) (λ l. goes-left (Some span) (at p says v x (one_if flag) None l)) (at p says u x j stop) a b c (first-taken (Some span) e met) more

-- Where memory is wanting before a message is made.
module _ (p : Publication) (says : Saying) (site : SiteId) (w : World) (a : ℕ) where
  pub wants-exchange : (sending : Sending) → Exchanges p says site sending w w (Unanswered (Some NoMemory)) a a
  wants-exchange sending = exchange-unmade p says site sending w w a a NoMemory
      (asked-other p says site sending w w (Refuses NoMemory) a a (λ number e. absurd (cc)) (wants p says (Send site sending) refl w w 0 a a (same-count a) refl))

  pub wants-uploads : (n : ℕ) → 0 < n → Goes p says site (Uploads n) w w 0 0 0 0 (Some NoMemory) a a
  unfolding Goes
  wants-uploads zero lt = absurd (omega arith)
  wants-uploads (suc n) lt = upload-unanswered p says site w w true n 0 a a (Some NoMemory) (wants-exchange SendUpload)

  pub wants-ranges : (n x y : ℕ) → 0 < n → Goes p says site (Ranges n) w w x y x y (Some NoMemory) a a
  unfolding Goes
  wants-ranges zero x y lt = absurd (omega arith)
  wants-ranges (suc n) x y lt = ask-unanswered p says site w w true n x y a a (Some NoMemory) (wants-exchange SendRanges)

  pub wants-downloads : (n target x y : ℕ) → 0 < n → Goes p says site (Downloads n target) w w x y x y (Some NoMemory) a a
  unfolding Goes
  wants-downloads zero target x y lt = absurd (omega arith)
  wants-downloads (suc n) target x y lt = download-unanswered p says site w w true x y a a n target (Some NoMemory) (wants-exchange SendDownload)

-- A part after another one.
module _ (p : Publication) (says : Saying) (site : SiteId) where
  -- the parts of a session, each behind those before it
  abbrev joined : World → Slips → Session (Faulty World)
  joined w l = join_if_due (stepping p says) site (at p says w 0 0 None l)

  abbrev uploaded : World → Slips → Session (Faulty World)
  uploaded w l = unless_stopped (stepping p says) site (all_uploads (stepping p says) site) (joined w l)

  abbrev ranged : World → Slips → Session (Faulty World)
  ranged w l = unless_stopped (stepping p says) site (all_ranges (stepping p says) site) (uploaded w l)

  pub ends-at-join : (w v : World) (refusal : Refusal) (a b : ℕ) → Goes p says site Joins w v 0 0 0 0 (Some refusal) a b → Syncs p says site w v 0 0 (Some refusal) a b
  unfolding Goes Syncs
  ends-at-join w v refusal a b first = is-stopped p says site (all_downloads (stepping p says) site) (ranged w) v 0 0 refusal a b
      (is-stopped p says site (all_ranges (stepping p says) site) (uploaded w) v 0 0 refusal a b
      (is-stopped p says site (all_uploads (stepping p says) site) (joined w) v 0 0 refusal a b first))

  pub ends-at-uploads : (w v u : World) (x : ℕ) (refusal : Refusal) (a b c : ℕ) → Goes p says site Joins w v 0 0 0 0 None a b
      → Goes p says site AllUploads v u 0 0 x 0 (Some refusal) b c → Syncs p says site w u x 0 (Some refusal) a c
  unfolding Goes Syncs
  ends-at-uploads w v u x refusal a b c first second = is-stopped p says site (all_downloads (stepping p says) site) (ranged w) u x 0 refusal a c
      (is-stopped p says site (all_ranges (stepping p says) site) (uploaded w) u x 0 refusal a c
      (goes-on p says site (all_uploads (stepping p says) site) (joined w) (at p says u x 0 (Some refusal)) v 0 0 a b c first second))

  pub ends-at-ranges : (w v u t : World) (x : ℕ) (refusal : Refusal) (a b c d : ℕ) → Goes p says site Joins w v 0 0 0 0 None a b
      → Goes p says site AllUploads v u 0 0 x 0 None b c → Goes p says site AllRanges u t x 0 x 0 (Some refusal) c d → Syncs p says site w t x 0 (Some refusal) a d
  unfolding Goes Syncs
  ends-at-ranges w v u t x refusal a b c d first second third = is-stopped p says site (all_downloads (stepping p says) site) (ranged w) t x 0 refusal a d
      (goes-on p says site (all_ranges (stepping p says) site) (uploaded w) (at p says t x 0 (Some refusal)) u x 0 a c d
      (goes-on p says site (all_uploads (stepping p says) site) (joined w) (at p says u x 0 None) v 0 0 a b c first second) third)

  pub ends-at-downloads : (w v u t s : World) (x y : ℕ) (stop : Option Refusal) (a b c d e : ℕ) → Goes p says site Joins w v 0 0 0 0 None a b
      → Goes p says site AllUploads v u 0 0 x 0 None b c → Goes p says site AllRanges u t x 0 x 0 None c d
      → Goes p says site AllDownloads t s x 0 x y stop d e → Syncs p says site w s x y stop a e
  unfolding Goes Syncs
  ends-at-downloads w v u t s x y stop a b c d e first second third fourth = goes-on p says site (all_downloads (stepping p says) site) (ranged w) (at p says s x y stop) t x 0 a d e
      (goes-on p says site (all_ranges (stepping p says) site) (uploaded w) (at p says t x 0 None) u x 0 a c d
      (goes-on p says site (all_uploads (stepping p says) site) (joined w) (at p says u x 0 None) v 0 0 a b c first second) third) fourth

-- what goes on by one publication and its resolvers goes on by the same ones
pub goes-by : (p q : Publication) (s t : Saying) → p ≡ q → s ≡ t → (site : SiteId) (stage : Stage) (w v : World) (x y i j : ℕ) (stop : Option Refusal) (a b : ℕ) → Goes p s site stage w v x y i j stop a b → Goes q t site stage w v x y i j stop a b
goes-by p q s t e f site stage w v x y i j stop a b goes = subst (λ (r : Publication). Goes r t site stage w v x y i j stop a b) e (subst (λ (r : Saying). Goes p r site stage w v x y i j stop a b) f goes)

pub meets-by : (p q : Publication) (s t : Saying) → p ≡ q → s ≡ t → (site : SiteId) (sending : Sending) (w v : World) (exchanged : Exchanged) (a b : ℕ) → Exchanges p s site sending w v exchanged a b → Exchanges q t site sending w v exchanged a b
meets-by p q s t e f site sending w v exchanged a b met = subst (λ (r : Publication). Exchanges r t site sending w v exchanged a b) e (subst (λ (r : Saying). Exchanges p r site sending w v exchanged a b) f met)
