-- Every step of the model keeps what is known, and so does every list of events.
use Rattle.std.specs.Prelude.{◌≡◌, ◌==◌, ◌+◌, ℕ, List, [], ◌∷◌, Bool, true, false, Option, Some, refl, if◌then◌else◌, map, cond}
use Rattle.std.specs.List.{fold}
use Rattle.std.specs.BTreeMap.{is_at}
use Rattle.std.specs.Ordering.{nat_cmp}
use Rattle.std.proofs.Common.{arith, sym, ap}
use Rattle.merge_types.specs.declared.identifiers.SiteId.{SiteId}
use Rattle.merge_types.specs.declared.changes.Change.{Change}
use Rattle.merge_types.specs.declared.values.Value.{Value}
use Rattle.merge_units.specs.declared.result.Decision.{Decision}
use Rattle.merge_ident.specs.Holders.{Holder}
use Rattle.merge_schema.specs.declared.publication.Publication.{Publication}
use Rattle.merge_schema.specs.declared.publication.Subscription.{Subscription}
use Rattle.merge_batch.specs.declared.request.Upload.{Upload}
use Rattle.merge_batch.specs.declared.request.Request.TheVariants as request
use Rattle.merge_batch.specs.declared.reply.Reply.{Reply}
use Rattle.merge_batch.specs.declared.reply.Reply.TheVariants as reply
use Rattle.merge_batch.specs.declared.request.Outstanding.TheVariants as ask
use Rattle.merge_model.specs.Failing.{Slips, faulty}
use Rattle.merge_model.specs.Failing.Runs.{model_behind, model_behind_actions}
use Rattle.merge_model.specs.declared.event.Event.{Event}
use Rattle.merge_types.specs.declared.row_key.RowKey.{RowKey as Key}
use Rattle.merge_model.specs.Tables.{PublisherTables, SubscriberTables}
use Rattle.merge_model.specs.Tables.Keys.{at_number}
use Rattle.merge_model.specs.Publisher.Acts.{Act, acting_items, changes_by}
use Rattle.merge_model.specs.Judge.{PublisherJudge, SubscriberJudge}
use Rattle.merge_model.specs.Publisher.Entries.{Entries}
use Rattle.merge_model.specs.Publisher.{last_closed}
use Rattle.merge_model.specs.Publisher.PublisherLocal.{Drawn, made_locally, next_dot}
use Rattle.merge_model.specs.Publisher.PublisherJoin.{join_taken}
use Rattle.merge_model.specs.Publisher.PublisherUpload.{taken_in}
use Rattle.merge_model.specs.Publisher.PublisherRanges.{plans, reply_to_ranges, with_grants}
use Rattle.merge_model.specs.Publisher.PublisherDownload.{reply_to, tables_after_download}
use Rattle.merge_model.specs.Subscriber.{subscriber_at_moment, subscriber_last_closed, subscriber_made_locally, subscriber_next_dot, empty_subscriber, subscriber_closed}
use Rattle.merge_model.specs.World.{Saying, World, subscriber_at, with_publisher, with_subscriber, empty_subscribers, empty_world}
use Rattle.merge_model.specs.declared.letter.Message.TheVariants.{Asks, Replies}
use Rattle.merge_model.specs.declared.letter.Message.{Message}
use Rattle.merge_model.specs.World.Steps.{Action, kept_decisions, upload_questions}
use Rattle.merge_model.specs.History.{History, Line, Past, pasts_with, no_history}
use Rattle.merge_model.specs.Judge.ByHistory.{by_past, by_made}
use Rattle.merge_model.specs.History.Noting
use Rattle.merge_model.specs.Tables.Publications.{by_site}
use Rattle.merge_model.specs.History.Model.{Model, empty_model, model}
use Rattle.merge_model.specs.Subscriber.Reinit.{result_of_reinit}
use Rattle.merge_model.specs.Subscriber.Sending.{join_of, upload_sent, want_of, with_message}
use Rattle.merge_model.specs.Subscriber.Taking.{tables_after_reply}
use Rattle.merge_model.proofs.Runs.Actions.{failing-actions-keep}
use Rattle.merge_laws.proofs.Runs.Tallied.{received-tallied}
use Rattle.merge_laws.specs.Facts.Knowledge.{Known, changes_of, counts_down}
use Rattle.merge_laws.specs.Facts.Received.{Received}
use Rattle.merge_laws.proofs.Received.Models.{begins, model-fine}
use Rattle.merge_laws.proofs.Walking.{Sends, StepsKeep, acts_in, here, join_noted, own_noted, step-keeps, told_by, uploaded_world}
use Rattle.merge_laws.proofs.Known.KnownRows.{letter-knows}
use Rattle.merge_laws.proofs.Known.KnownNotes.{Reached, acts-reached, change-known, counted, lines-known, others-known, raised}
use Rattle.merge_laws.proofs.Known.KnownLetters.{anew-known, join-known, letter-known, purge-known, reply-known}
use Rattle.merge_laws.proofs.Known.KnownCounts.{GoesOn, found_changes, made-on, on-counts, own-count, publisher-counts, same-counts, taken-on}
use Rattle.merge_laws.proofs.Runs.OfActions.{of-events}

abbrev OfChanges : World → History → Type 0
OfChanges w h = Known (changes_of w) h

-- a subscriber goes on, without a change more
goes-on : (w : World) (h : History) (s t : SubscriberTables) → subscriber_at w s.site ≡ Some s → GoesOn 0 s t → OfChanges w h → OfChanges (with_subscriber t w) h
goes-on w h s t at on known = counted (changes_of w) (changes_of (with_subscriber t w)) h (same-counts w s t at on) known

-- and with a message of it
sends : (w : World) (h : History) (s t : SubscriberTables) (message : Message) → subscriber_at w s.site ≡ Some s → GoesOn 0 s t → OfChanges w h → Sends OfChanges s.site message (with_subscriber t w) h
sends w h s t message at on known = letter-known (changes_of (with_subscriber t w)) (record { site = s.site; message = message }) h (goes-on w h s t at on known)

-- the publisher answers
answers : (w : World) (h : History) (site : SiteId) (m : Reply) → OfChanges w h → Sends OfChanges site (Replies m) w h
answers w h site m known = letter-known (changes_of w) (record { site = site; message = Replies m }) h known

module _ (publication : Publication) (says : Saying) where
  own-change : (w : World) (h : History) (judge : PublisherJudge) (change : Change) (d : Drawn) → OfChanges w h → OfChanges (with_publisher (made_locally publication judge change d (here w)).0 w) (own_noted publication judge change d (here w) h)
  own-change w h judge change d k =
      let q : PublisherTables = (made_locally publication judge change d (here w)).0 in
      let lines : List Line = Noting.lines_of_entries (last_closed (here w) + 1) (Noting.drawn_entries publication judge change (here w) d) in
      let changed : History = Noting.with_change publication (next_dot (here w)) (last_closed (here w) + 1) change d.value h in
      counted (raised (changes_of w) 0 1) (changes_of (with_publisher q w)) (Noting.with_lines lines changed) (λ n. publisher-counts w q 1 n refl)
      (lines-known (raised (changes_of w) 0 1) lines changed (change-known (changes_of w) publication (next_dot (here w)) (last_closed (here w) + 1) change d.value h refl k))

  sub-change : (w : World) (h : History) (s : SubscriberTables) (change : Change) (d : Value × List (ℕ × Holder)) → subscriber_at w s.site ≡ Some s → (s.site.0 ≡ 0 → ⊥) → OfChanges w h
      → OfChanges (with_subscriber (subscriber_made_locally publication change d (subscriber_at_moment w.moment s)).0 w) (Noting.with_change publication (subscriber_next_dot s) (subscriber_last_closed s + 1) change d.0 h)
  sub-change w h s change d at named k =
      let t : SubscriberTables = (subscriber_made_locally publication change d (subscriber_at_moment w.moment s)).0 in
      counted (raised (changes_of w) s.site.0 1) (changes_of (with_subscriber t w)) (Noting.with_change publication (subscriber_next_dot s) (subscriber_last_closed s + 1) change d.0 h) (λ n. on-counts w s t 1 n named at (made-on publication w.moment change s d))
      (change-known (changes_of w) publication (subscriber_next_dot s) (subscriber_last_closed s + 1) change d.0 h (ap (λ (n : ℕ). n + 1) (own-count w s (s.site.0 == 0) refl named at)) k)

  uploads : (w : World) (h : History) (number : ℕ) (m : Upload) → OfChanges w h
      → (let judge : PublisherJudge = by_past h (pasts_with h number) in let acts : List Act = acts_in publication says judge m w in
      OfChanges (with_publisher (taken_in publication judge m acts (here w)) w) (Noting.with_acts_noted publication judge m acts (pasts_with h number) (here w) h))
  uploads w h number m k =
      let incoming : List (Key × Past) = pasts_with h number in
      let judge : PublisherJudge = by_past h incoming in
      let decisions : List Decision = kept_decisions says w.tallies (upload_questions publication judge w.moment m w.publisher) in
      let acts : List Act = acts_in publication says judge m w in
      let entries : Entries = Noting.acts_entries publication judge m acts (here w) in
      let lines : List Line = Noting.lines_of_entries (last_closed (here w) + 1) entries in
      let acted : History = fold (Noting.with_act incoming entries) h acts in
      let lined : History = Noting.with_lines lines acted in
      let q : PublisherTables = taken_in publication judge m acts (here w) in
      let count : ℕ → ℕ = raised (changes_of w) 0 (changes_by acts) in
      let reached : Reached count incoming acted = acts-reached (changes_of w) incoming entries judge m.site (here w) (w.publisher.changes + 1) decisions (acting_items judge m) h (k, letter-knows h number k.knowledge) refl in
      counted count (changes_of (with_publisher q w)) (Noting.with_done m.site.0 m.from m.to lined) (λ n. publisher-counts w q (changes_by acts) n refl)
      (others-known count lined (Noting.with_done m.site.0 m.from m.to lined).done lined.accepted lined.purged lined.bases (lines-known count lines acted reached.0))

  pub known-keeps : StepsKeep publication says Received OfChanges
  known-keeps = record {
    moment = λ w h now r k. k;
    own_change = λ w h change d r k fine is. own-change w h (by_past h (pasts_with h 0)) change d k;
    own_closing = λ w h r k. k;
    forgetting = λ w h r k. purge-known (changes_of w) publication (by_past h (pasts_with h 0)) (here w) h k;
    same = λ w h s r k at. goes-on w h s s at (record { same_site = refl; changes = omega arith }) k;
    subscriber_change = λ w h s change d r k at named fine is. sub-change w h s change d at named k;
    subscriber_closing = λ w h s r k at. goes-on w h s (subscriber_closed (subscriber_at_moment w.moment s)) at (record { same_site = refl; changes = omega arith }) k;
    anew = λ w h s r k at. (let judge : SubscriberJudge = by_made h s.site in
        goes-on w (Noting.noted_anew judge s h) s (result_of_reinit judge (subscriber_at_moment w.moment s)).0 at (record { same_site = refl; changes = omega arith }) (anew-known (changes_of w) judge s h k));
    sends_join = λ w h s r k at joining. sends w h s (with_message ask.Join s) (Asks (request.Join (join_of s))) at (record { same_site = refl; changes = omega arith }) k;
    sends_upload = λ w h s r k at fine. (let made : SubscriberTables × Upload = upload_sent (by_made h s.site) (subscriber_closed (subscriber_at_moment w.moment s)) in
        sends w h s made.0 (Asks (request.Upload made.1)) at (record { same_site = refl; changes = omega arith }) k);
    sends_ranges = λ w h s r k at fine. sends w h s (with_message ask.Ranges s) (Asks (request.Ranges (record { site = s.site; seq = s.seq + 1; wants = map want_of s.held }))) at (record { same_site = refl; changes = omega arith }) k;
    sends_ask = λ w h s r k at fine. sends w h s (with_message (ask.Download s.watermark) s) (Asks (request.Download (record { site = s.site; seq = s.seq + 1; from = s.watermark }))) at (record { same_site = refl; changes = omega arith }) k;
    joins = λ w h number m r k at fine acts. (let judge : PublisherJudge = by_past h (pasts_with h number) in
        answers (with_publisher (join_taken m (here w)) w) (join_noted judge m w.publisher h) m.site (reply.Joined (record { seq = m.seq })) (join-known (changes_of w) judge m w.publisher h k));
    joins_again = λ w h number m r k at acts. answers (with_publisher (here w) w) h m.site (reply.Joined (record { seq = m.seq })) k;
    uploads = λ w h number m r k at fine news. (let judge : PublisherJudge = by_past h (pasts_with h number) in let acts : List Act = acts_in publication says judge m w in
        let q : PublisherTables = taken_in publication judge m acts (here w) in
        answers (uploaded_world publication says judge m q w) (Noting.with_acts_noted publication judge m acts (pasts_with h number) (here w) h) m.site (reply.Uploaded (told_by judge m)) (uploads w h number m k));
    uploads_again = λ w h number m r k at none. (let judge : PublisherJudge = by_past h (pasts_with h number) in answers (uploaded_world publication says judge m (here w) w) h m.site (reply.Uploaded (told_by judge m)) k);
    answers_ranges = λ w h site m r k. answers (with_publisher (with_grants (plans publication m w.publisher) (here w)) w) h site (reply.Ranged (reply_to_ranges m (plans publication m w.publisher))) k;
    answers_ask = λ w h number site m r k at fine. answers (with_publisher (tables_after_download m (here w)) w) h site (reply.Downloaded (reply_to publication (by_past h (pasts_with h number)) m (tables_after_download m (here w)))) k;
    replies = λ w h s number m sent r k at there out none. (let judge : SubscriberJudge = by_made h s.site in
        goes-on w (Noting.noted_reply judge s.site (pasts_with h number) m h) s (tables_after_reply judge w.moment m s) at (taken-on judge w.moment m s) (reply-known (changes_of w) judge s.site (pasts_with h number) m h (k, letter-knows h number k.knowledge)));
  }

-- How it begins.

zero-if : (b : Bool) (x : ℕ) → x ≡ 0 → (if b then 0 else x) ≡ 0
zero-if true x none = refl
zero-if false x none = none

empty-counts : (publication : Publication) (es : List (ℕ × Subscription)) (n : ℕ) → found_changes (at_number (map (λ (s : ℕ × Subscription). (s.0, empty_subscriber publication s.1.site)) es) n) ≡ 0
empty-counts publication [] n = refl
empty-counts publication (e ∷ es) n = elim (is_at (nat_cmp n) e.0)
    as (λ (b : Bool). found_changes (let found : Option SubscriberTables = cond b (Some (empty_subscriber publication e.1.site)) (at_number (map (λ (s : ℕ × Subscription). (s.0, empty_subscriber publication s.1.site)) es) n) in found) ≡ 0) [
      | true ↦ refl
      | false ↦ empty-counts publication es n
    ]

none-counted : (publication : Publication) (tallies : List ℕ) (n : ℕ) → [] ≡ counts_down (changes_of (empty_world publication tallies) n)
none-counted publication tallies n = ap (λ (k : ℕ). counts_down k) (sym (zero-if (n == 0) (found_changes (at_number (empty_subscribers publication) n)) (empty-counts publication (by_site publication) n)))

known-begins : (publication : Publication) (tallies : List ℕ) → OfChanges (empty_world publication tallies) no_history
known-begins publication tallies = record {
  numbered = λ site. none-counted publication tallies site;
  knowledge = record { held = tt; sent = tt; lost = tt; making = tt };
}

pub known-by-actions : (publication : Publication) (says : Saying) (tallies : List ℕ) (slips : Slips) (actions : List Action)
    → (let m : Model = model_behind_actions publication says tallies slips actions in Known (changes_of m.world) m.history)
known-by-actions publication says tallies slips actions =
    (failing-actions-keep publication (model publication says) (λ (m : Model). Received m.world m.history × Known (changes_of m.world) m.history)
    (λ m action both. (model-fine publication says m action both.0, step-keeps publication says Received OfChanges (λ w h r. r) (known-keeps publication says) m action both.0 both.1)) (λ m others both. (received-tallied m.world others m.history both.0, both.1)) actions (faulty (empty_model publication tallies) slips)
    (begins publication tallies, known-begins publication tallies)).1

pub known-always : (publication : Publication) (says : Saying) (tallies : List ℕ) (slips : Slips) (events : List Event)
    → (let m : Model = model_behind publication says tallies slips events in Known (changes_of m.world) m.history)
known-always publication says tallies slips events = of-events publication says tallies slips events (λ (m : Model). Known (changes_of m.world) m.history) (known-by-actions publication says tallies slips)
