-- The messages that a subscriber makes, as actions.
use Rattle.std.proofs.Common.{◌≡◌, ◌<◌, ◌+◌, ◌++◌, ◌∷◌, [], ℕ, Bool, true, false, List, Option, Some, None, Result, Ok, Err, get_or, length, map, set, refl, ap, sym, subst, ◌∙◌}
use Rattle.std.specs.List.{position}
use Rattle.std.proofs.lemmas.List.{map-set}
use Rattle.merge_types.specs.declared.identifiers.Moment.{Moment}
use Rattle.merge_types.specs.declared.identifiers.SiteId.{SiteId}
use Rattle.merge_batch.specs.declared.refusal.Refusal.{Refusal}
use Rattle.merge_batch.specs.declared.refusal.Refusal.TheVariants as refusal
use Rattle.merge_batch.specs.declared.request.Download.{Download}
use Rattle.merge_batch.specs.declared.request.Join.{Join}
use Rattle.merge_batch.specs.declared.request.RangeAsk.{RangeAsk}
use Rattle.merge_batch.specs.declared.request.Request.{Request}
use Rattle.merge_batch.specs.declared.request.Request.TheVariants as request
use Rattle.merge_batch.specs.declared.request.Upload.{Upload}
use Rattle.merge_model.specs.Judge.ByNumbers.{by_rows}
use Rattle.merge_model.specs.World.Calls.{message_commits, message_or_none}
use Rattle.merge_model.specs.Tables.Keys.{put_number}
use Rattle.merge_model.specs.Failing.Reach.{Acts}
use Rattle.merge_model.specs.Subscriber.Sending.{make_ask, make_join, make_ranges, make_upload}
use Rattle.merge_model.specs.World.Steps.{Action, Send, SendDownload, SendJoin, SendRanges, SendUpload, Sending, post, post_if_made, send_from, step, unless_refused}
use Rattle.merge_model.specs.Tables.{SubscriberTables}
use Rattle.merge_model.specs.World.{Saying, World, by_tables, subscriber_at, with_subscriber}
use Rattle.merge_model.specs.declared.letter.Letter.{Letter}
use Rattle.merge_model.specs.declared.letter.Message.TheVariants.{Asks}
use Rattle.merge_model.specs.declared.outcome.Outcome.{Outcome}
use Rattle.merge_model.specs.declared.outcome.Outcome.TheVariants.{NoPost, Posted, Refuses}
use Rattle.merge_model.proofs.Failing.Calling.{acts-all, sends-message}
use Rattle.merge_world.specs.Messages.{as_request, request_of_sending, some_if_made}
use Rattle.merge_world.specs.Views.{Does, IsOrdered, PublisherView, SitesView, SubscriberCall, SubscriberView, entry_of, sites_view, world_of}
use Rattle.merge_world.proofs.Doing.{faults-at, put-at, put-back, stays-at}
use Rattle.merge_world.proofs.Finding.{at-place, found-place, is_of, placed, unfound, within}
use Rattle.merge_world.proofs.Locals.{made-here}

-- Each kind is sent alike.
abbrev itself : Request → Request
itself m = m

as-sent : {A : Type 0} (message : A → Request) (w : World) (site : SiteId) (by : Result (Option (SubscriberTables × A)) Refusal)
    → unless_refused w by (post_if_made site message w) ≡ unless_refused w (as_request message by) (post_if_made site itself w)
as-sent message w site (Ok None) = refl
as-sent message w site (Ok (Some made)) = refl
as-sent message w site (Err why) = refl

as-asked : {A : Type 0} (message : A → Request) (w : World) (site : SiteId) (by : Result (SubscriberTables × A) Refusal)
    → unless_refused w by (λ (made : SubscriberTables × A). post site (Asks (message made.1)) (with_subscriber made.0 w)) ≡ unless_refused w (as_request message (some_if_made by)) (post_if_made site itself w)
as-asked message w site (Ok made) = refl
as-asked message w site (Err why) = refl

sent-alike : (sending : Sending) (w : World) (t : SubscriberTables) → send_from (by_tables w) sending w t ≡ unless_refused w (request_of_sending sending w.moment t) (post_if_made t.site itself w)
sent-alike SendJoin w t = as-sent (λ (m : Join). request.Join m) w t.site (make_join t)
sent-alike SendUpload w t = as-sent (λ (m : Upload). request.Upload m) w t.site (make_upload (by_rows t) w.moment t)
sent-alike SendRanges w t = as-sent (λ (m : RangeAsk). request.Ranges m) w t.site (make_ranges t)
sent-alike SendDownload w t = as-asked (λ (m : Download). request.Download m) w t.site (make_ask t)

abbrev tables-of : {A : Type 0} → SubscriberTables → Result (SubscriberTables × A) Refusal → SubscriberTables
tables-of t (Ok done) = done.0
tables-of t (Err why) = t

abbrev has-none-in : {A : Type 0} → Result (SubscriberTables × Option A) Refusal → Bool
has-none-in (Ok (t, None)) = true
has-none-in other = false

-- where there is none to make, the tables stay
none-kept : {A : Type 0} (t t' : SubscriberTables) (by : Result (Option (SubscriberTables × A)) Refusal) → message_or_none t by ≡ Ok (t', None) → t' ≡ t
none-kept t t' (Ok None) e = sym (ap (tables-of t) e)
none-kept t t' (Ok (Some made)) e = let none : false ≡ true = ap has-none-in e in absurd (cc)
none-kept t t' (Err why) e = absurd (cc)

module _ {S : Type 0} (f : S → SubscriberView) (p : PublisherView) (pool : List Letter) (moment : Moment) (items : List S) where
  abbrev here : SitesView
  here = sites_view p (map f items) pool moment

  -- the sites behind a call, with these messages
  abbrev behind : ℕ → S → List Letter → SitesView
  behind i s' pool' = sites_view p (map f (set items i s')) pool' moment

  module _ (sending : Sending) (i : ℕ) (s s' : S) (site : SiteId) (ordered : IsOrdered here) (found : Some i ≡ position (is_of f site.0) items) (at : s ≡ get_or items i s)
      (same_site : (f s').tables.site ≡ (f s).tables.site) (same_publication : (f s').publication ≡ (f s).publication) where
    abbrev lists : List SubscriberView
    lists = map f items

    lt : i < length lists
    lt = within f items i (placed f items i s site.0 found at).0

    at-list : f s ≡ get_or lists i (f s)
    at-list = at-place f items i s (placed f items i s site.0 found at).0 at

    site-is : site ≡ (f s).tables.site
    site-is = ap (λ (n : ℕ). let x : SiteId = record { 0 = n } in x) (placed f items i s site.0 found at).1

    set-list : map f (set items i s') ≡ set lists i (f s')
    set-list = map-set f items i s'

    abbrev after : List Letter → SitesView
    after pool' = sites_view p (set lists i (f s')) pool' moment

    -- what the model puts in place stands there
    put-list : (tallies : List ℕ) → put_number (map entry_of lists) (f s').tables.site.0 (f s').tables ≡ map entry_of (set lists i (f s'))
    put-list tallies = put-at p pool moment lists i (f s) (f s') ordered lt at-list same_site

    acts-after : (says : Saying) (tallies : List ℕ) (r : Result (Option Request) Refusal) → SubscriberCall (message_or_none (f s).tables (request_of_sending sending moment (f s).tables)) message_commits (f s) (f s') r
        → (pool' : List Letter) (outcome : Outcome)
        → ((l : List (ℕ × SubscriberTables)) → l ≡ map entry_of (set lists i (f s')) → Acts p.publication says (Send site sending) (world_of here tallies) (record (world_of here tallies) { subscribers = l; pool = pool' }) outcome (f s).faults (f s').faults)
        → Acts p.publication says (Send site sending) (world_of here tallies) (world_of (after pool') tallies) outcome here.faults (after pool').faults
    acts-after says tallies r called pool' outcome acts = acts-all p.publication says (Send site sending) (world_of here tallies) (world_of (after pool') tallies) outcome (f s).faults (f s').faults here.faults (after pool').faults
        (faults-at p pool moment lists i (f s) (f s') lt at-list) (acts (map entry_of (set lists i (f s'))) refl)

    does-after : (pool' : List Letter) (outcome : Outcome) → ((says : Saying) (tallies : List ℕ) → Acts p.publication says (Send site sending) (world_of here tallies) (world_of (after pool') tallies) outcome here.faults (after pool').faults)
        → Does (Send site sending) here (behind i s' pool') outcome
    does-after pool' outcome acts = subst (λ (l : List SubscriberView). Does (Send site sending) here (sites_view p l pool' moment) outcome) (sym set-list)
        (record { acts = acts; stays = stays-at p pool moment lists i (f s) (f s') pool' at-list same_site same_publication })

    found-list : (tallies : List ℕ) → subscriber_at (world_of here tallies) site ≡ Some (f s).tables
    found-list tallies = found-place f p pool moment items i s site tallies ordered found at

    back-list : put_number (map entry_of lists) (f s).tables.site.0 (f s).tables ≡ map entry_of lists
    back-list = put-back p pool moment lists i (f s) ordered lt at-list

    as-made : (made like : Option Request) → made ≡ like → SubscriberCall (message_or_none (f s).tables (request_of_sending sending moment (f s).tables)) message_commits (f s) (f s') (Ok made)
        → SubscriberCall (message_or_none (f s).tables (request_of_sending sending moment (f s).tables)) message_commits (f s) (f s') (Ok like)
    as-made made like e called = subst (λ (x : Option Request). SubscriberCall (message_or_none (f s).tables (request_of_sending sending moment (f s).tables)) message_commits (f s) (f s') (Ok x)) e called

    pub posts : (made : Option Request) (m : Request) → made ≡ Some m → SubscriberCall (message_or_none (f s).tables (request_of_sending sending moment (f s).tables)) message_commits (f s) (f s') (Ok made)
        → Does (Send site sending) here (behind i s' (pool ++ record { site = site; message = Asks m } ∷ [])) (Posted (length pool + 1))
    posts made m is_some called_so = let called = as-made made (Some m) is_some called_so in does-after (pool ++ record { site = site; message = Asks m } ∷ []) (Posted (length pool + 1))
        (λ says tallies. acts-after says tallies (Ok (Some m)) called (pool ++ record { site = site; message = Asks m } ∷ []) (Posted (length pool + 1))
        (λ l is. subst (λ (x : SiteId). Acts p.publication says (Send site sending) (world_of here tallies) (record (world_of here tallies) { subscribers = l; pool = pool ++ record { site = x; message = Asks m } ∷ [] }) (Posted (length pool + 1)) (f s).faults (f s').faults) (sym site-is)
        (subst (λ (k : List (ℕ × SubscriberTables)). Acts p.publication says (Send site sending) (world_of here tallies) (record (world_of here tallies) { subscribers = k; pool = pool ++ record { site = (f s).tables.site; message = Asks m } ∷ [] }) (Posted (length pool + 1)) (f s).faults (f s').faults) (put-list tallies ∙ sym is)
        (sends-message p.publication says sending itself (world_of here tallies) site (f s).tables (f s').tables (request_of_sending sending moment (f s).tables) (found-list tallies) back-list
        (sent-alike sending (world_of here tallies) (f s).tables) (f s).faults (f s').faults (Ok (Some m)) called))))

    pub has-none : (made : Option Request) → made ≡ None → SubscriberCall (message_or_none (f s).tables (request_of_sending sending moment (f s).tables)) message_commits (f s) (f s') (Ok made)
        → Does (Send site sending) here (behind i s' pool) NoPost
    has-none made is_none called_so = let called = as-made made None is_none called_so in let kept = none-kept (f s).tables (f s').tables (request_of_sending sending moment (f s).tables) called.0 in does-after pool NoPost
        (λ says tallies. acts-after says tallies (Ok None) called pool NoPost
        (λ l is. subst (λ (k : List (ℕ × SubscriberTables)). Acts p.publication says (Send site sending) (world_of here tallies) (record (world_of here tallies) { subscribers = k }) NoPost (f s).faults (f s').faults)
        (sym back-list ∙ (ap (λ (t : SubscriberTables). put_number (map entry_of lists) t.site.0 t) (sym kept) ∙ (put-list tallies ∙ sym is)))
        (sends-message p.publication says sending itself (world_of here tallies) site (f s).tables (f s').tables (request_of_sending sending moment (f s).tables) (found-list tallies) back-list
        (sent-alike sending (world_of here tallies) (f s).tables) (f s).faults (f s').faults (Ok None) called)))

    pub send-fails : (why : Refusal) → SubscriberCall (message_or_none (f s).tables (request_of_sending sending moment (f s).tables)) message_commits (f s) (f s') (Err why) → Does (Send site sending) here (behind i s' pool) (Refuses why)
    send-fails why called = does-after pool (Refuses why)
        (λ says tallies. acts-after says tallies (Err why) called pool (Refuses why)
        (λ l is. subst (λ (k : List (ℕ × SubscriberTables)). Acts p.publication says (Send site sending) (world_of here tallies) (record (world_of here tallies) { subscribers = k }) (Refuses why) (f s).faults (f s').faults)
        (put-list tallies ∙ sym is)
        (sends-message p.publication says sending itself (world_of here tallies) site (f s).tables (f s').tables (request_of_sending sending moment (f s).tables) (found-list tallies) back-list
        (sent-alike sending (world_of here tallies) (f s).tables) (f s).faults (f s').faults (Err why) called)))

  abbrev sent-found : World → SiteId → Sending → Option SubscriberTables → World × Outcome
  sent-found w site sending found = elim found [
    | None ↦ (w, Refuses (refusal.UnknownSite site))
    | Some t ↦ send_from (by_tables w) sending w t
  ]

  sending-nowhere : (w : World) (sending : Sending) (site : SiteId) (says : Saying) → subscriber_at w site ≡ None → step p.publication says w (Send site sending) ≡ (w, Refuses (refusal.UnknownSite site))
  sending-nowhere w sending site says none = ap (sent-found w site sending) none

  pub sends-nowhere : (sending : Sending) (site : SiteId) → None ≡ position (is_of f site.0) items → Does (Send site sending) here here (Refuses (refusal.UnknownSite site))
  sends-nowhere sending site none = made-here (Send site sending) refl here (Refuses (refusal.UnknownSite site))
      (λ says tallies. sending-nowhere (world_of here tallies) sending site says (unfound f p pool moment items site tallies none))

-- what is behind, and its outcome, in other words
pub does-so : (action : Action) (u v v' : SitesView) (outcome outcome' : Outcome) → v ≡ v' → outcome ≡ outcome' → Does action u v' outcome' → Does action u v outcome
does-so action u v v' outcome outcome' e f does = subst (λ (x : SitesView). Does action u x outcome) (sym e) (subst (λ (o : Outcome). Does action u v' o) (sym f) does)
