-- Every step of a model keeps what the numbers say, and so does every list of events.
use Rattle.std.specs.Prelude.{◌≡◌, ◌≤◌, ◌==◌, ◌+◌, ℕ, zero, suc, List, [], ◌∷◌, Bool, true, false, not, Option, Some, None, refl, nat_le, nat_lt, unwrap_or, map, cond}
use Rattle.std.specs.List.{fold, list_any, range_with_len}
use Rattle.std.proofs.Common.{arith, subst, sym, ap, ◌∙◌}
use Rattle.std.proofs.lemmas.Bool.Decides.{nat_tests}
use Rattle.merge_types.specs.declared.identifiers.SiteId.{SiteId}
use Rattle.merge_types.specs.declared.identifiers.Moment.{Moment}
use Rattle.merge_batch.specs.declared.reply.Reply.{Reply}
use Rattle.merge_batch.specs.declared.reply.Reply.TheVariants as reply
use Rattle.merge_schema.specs.declared.publication.Publication.{Publication}
use Rattle.merge_model.specs.Failing.{Slips, faulty}
use Rattle.merge_model.specs.Failing.Runs.{model_behind, model_behind_actions}
use Rattle.merge_model.specs.Tables.{PublisherTables, SubscriberTables}
use Rattle.merge_model.specs.Tables.Keys.{at_number, put_number}
use Rattle.merge_model.specs.Judge.ByNumbers.{received_by_number}
use Rattle.merge_model.specs.Judge.ByHistory.{by_history, is_gap_by_done}
use Rattle.merge_model.specs.Publisher.{at_moment, no_state}
use Rattle.merge_model.specs.Publisher.PublisherJoin.{tables_after_join}
use Rattle.merge_model.specs.Publisher.PublisherPurge.{purge}
use Rattle.merge_model.specs.World.{World, Judges, Saying, letter_at, subscriber_at, with_publisher}
use Rattle.merge_model.specs.declared.letter.Letter.{Letter}
use Rattle.merge_model.specs.declared.letter.Message.{Message}
use Rattle.merge_model.specs.declared.letter.Message.TheVariants.{Asks, Replies}
use Rattle.merge_model.specs.World.Steps.{Action, CloseAt, Deliver, Forget, Look, Make, MakeAnew, Pass, Send, at_subscriber, close_at, deliver_letter, deliver_reply, make_anew, make_at, send_from, step_by}
use Rattle.merge_model.specs.declared.outcome.Outcome.{Outcome}
use Rattle.merge_model.specs.declared.outcome.Outcome.TheVariants.{NoLetter}
use Rattle.merge_model.specs.History.{History, is_done, pasts_with}
use Rattle.merge_model.specs.History.Noting
use Rattle.merge_model.specs.History.Model.{Model, model_step, noted_action, noted_if, noted_letter, did_something, with_posted}
use Rattle.merge_model.proofs.Publishers.DoneOnce.{taker-done, make-done, anew-done, purge-done, posted-done}
use Rattle.merge_model.proofs.Runs.Actions.{failing-actions-keep}
use Rattle.merge_laws.proofs.Runs.Tallied.{received-tallied}
use Rattle.merge_laws.specs.Facts.Received.{joined_at, MessageFits, LetterFits, SubscriberFits, DoneIsReceived, Received}
use Rattle.merge_model.proofs.Lists.Finding.{all-at, at_put_same}
use Rattle.merge_laws.proofs.Received.Worlds.{history-same}
use Rattle.merge_laws.proofs.Received.Steps.{at-fine}
use Rattle.merge_laws.proofs.Received.Sendings.{reply-fine}
use Rattle.std.specs.Prelude.{option_map}
use Rattle.merge_schema.specs.declared.publication.Subscription.{Subscription}
use Rattle.merge_model.specs.Tables.Publications.{by_site}
use Rattle.merge_model.specs.Judge.ByNumbers.{is_gap_by_number}
use Rattle.merge_model.specs.History.{no_history}
use Rattle.merge_model.specs.Subscriber.{empty_subscriber}
use Rattle.merge_model.specs.World.{empty_subscribers, empty_world}
use Rattle.merge_model.specs.History.Model.{empty_model, model}
use Rattle.merge_model.specs.declared.event.Event.{Event}
use Rattle.merge_model.proofs.Lists.Finding.{at_put_other}
use Rattle.merge_laws.proofs.Received.Subscribing.{same_number, number-decided}
use Rattle.merge_laws.proofs.Received.Steps.{sites-fine, fits-here, make-fine, close-fine}
use Rattle.merge_laws.proofs.Received.Sendings.{send-fine, anew-fine}
use Rattle.merge_laws.proofs.Received.Deliveries.{Keeps, request-fine}
use Rattle.std.specs.BTreeMap.{is_at}
use Rattle.std.specs.Ordering.{nat_cmp}
use Rattle.merge_laws.proofs.Runs.OfActions.{of-events}

-- what is noted without a change of what has acted
noted-same : (b : Bool) (w : World) (k h : History) → k.done ≡ h.done → Received w h → Received w (noted_if b k h)
noted-same true w k h e r = history-same w h k e r
noted-same false w k h e r = r

moment-fine : (w : World) (h : History) (now : Moment) → Received w h → Received (record w { moment = now }) h
moment-fine w h now r = record { subscribers = r.subscribers; letters = r.letters; done = r.done }

-- a reply asks for the number of the last join alone
reply-moved : (m : Reply) (joined other : ℕ) (site at : SiteId) (found there : Option SubscriberTables) → joined ≡ other → MessageFits joined site found (Replies m) → MessageFits other at there (Replies m)
reply-moved (reply.Joined m) joined other site at found there e fits = omega (arith, e, fits)
reply-moved (reply.Uploaded m) joined other site at found there e fits = tt
reply-moved (reply.Ranged m) joined other site at found there e fits = tt
reply-moved (reply.Downloaded m) joined other site at found there e fits = tt
reply-moved (reply.Refused number values) joined other site at found there e fits = tt

module _ (publication : Publication) (says : Saying) (w : World) (h : History) (r : Received w h) where
  abbrev judges : Judges
  judges = by_history h

  letter-known : (number : ℕ) (letter : Letter) → letter_at w number ≡ Some letter → LetterFits w.subscribers w.publisher letter
  letter-known zero letter at = absurd (grind (arith, at))
  letter-known (suc k) letter at = all-at (LetterFits w.subscribers w.publisher) w.pool k letter at r.letters

  reply-taken : (site : SiteId) (m : Reply) → MessageFits (joined_at w.publisher site) site (at_number w.subscribers site.0) (Replies m) → Received (at_subscriber site w (deliver_reply publication judges m w)).0 h
  reply-taken site m fits = at-fine w h r site (deliver_reply publication judges m w)
      (λ s at. (let same : joined_at w.publisher site ≡ joined_at w.publisher s.site = ap (λ (k : ℕ). (unwrap_or (at_number w.publisher.sites k) no_state).joined_at) (sym (fits-here w h r site s at).keyed) in
      reply-fine w h r site s at publication judges m (reply-moved m (joined_at w.publisher site) (joined_at w.publisher s.site) site s.site (at_number w.subscribers site.0) (Some s) same fits)))

  message-fine : (number : ℕ) (site : SiteId) (message : Message) → MessageFits (joined_at w.publisher site) site (at_number w.subscribers site.0) message
      → (let letter : Letter = record { site = site; message = message } in Keeps (deliver_letter publication says judges number w letter) (noted_letter publication says judges number w letter h) h)
  message-fine number site (Asks m) fits = request-fine w h r publication says (pasts_with h number) site m fits
  message-fine number site (Replies m) fits =
      let done : World × Outcome = at_subscriber site w (deliver_reply publication judges m w) in
      let k : History = noted_letter publication says judges number w (record { site = site; message = Replies m }) h in
      noted-same (did_something done.1) done.0 k h (taker-done judges site (pasts_with h number) m (subscriber_at w site) h) (reply-taken site m fits)

  found-fine : (number : ℕ) (found : Option Letter) → letter_at w number ≡ found
      → (let done : World × Outcome = elim found [ None ↦ (w, NoLetter) | Some letter ↦ deliver_letter publication says judges number w letter ] in
      let k : History = elim found [ None ↦ h | Some letter ↦ noted_letter publication says judges number w letter h ] in Keeps done k h)
  found-fine number None at = r
  found-fine number (Some letter) at = message-fine number letter.site letter.message (letter-known number letter at)

  action-fine : (action : Action) → Keeps (step_by publication says judges w action) (noted_action publication says judges w action h) h
  action-fine (Pass seconds) = moment-fine w h (record { 0 = w.moment.0 + seconds }) r
  action-fine (Make site change) =
      let done : World × Outcome = make_at publication judges site change w in
      noted-same (did_something done.1) done.0 (noted_action publication says judges w (Make site change) h) h (make-done publication judges site change w h) (make-fine publication judges site change w h r)
  action-fine (CloseAt site) = let done : World × Outcome = close_at site w in noted-same (did_something done.1) done.0 h h refl (close-fine site w h r)
  action-fine (Send site sending) =
      let done : World × Outcome = at_subscriber site w (send_from judges sending w) in
      noted-same (did_something done.1) done.0 h h refl (at-fine w h r site (send_from judges sending w) (λ s at. send-fine w h r site s at judges sending))
  action-fine (Deliver number) = found-fine number (letter_at w number) refl
  action-fine (MakeAnew site) =
      let done : World × Outcome = at_subscriber site w (make_anew judges w) in
      noted-same (did_something done.1) done.0 (noted_action publication says judges w (MakeAnew site) h) h (anew-done judges site (subscriber_at w site) h) (at-fine w h r site (make_anew judges w) (λ s at. anew-fine w h r site s at judges))
  action-fine Forget = history-same (with_publisher (purge publication w.moment w.publisher).0 w) h (Noting.noted_purge publication (judges.publisher 0) (at_moment w.moment w.publisher) h)
      (purge-done publication (judges.publisher 0) (at_moment w.moment w.publisher) h) (sites-fine w h r (purge publication w.moment w.publisher).0 refl)
  action-fine Look = r

pub model-fine : (publication : Publication) (says : Saying) (m : Model) (action : Action) → Received m.world m.history → (let n : Model = (model_step publication says m action).0 in Received n.world n.history)
model-fine publication says m action r =
    let done : World × Outcome = step_by publication says (by_history m.history) m.world action in
    let kept : History = noted_if (did_something done.1) (noted_action publication says (by_history m.history) m.world action m.history) m.history in
    history-same done.0 kept (with_posted done.0 done.1 kept) (posted-done done.0 done.1 kept) (action-fine publication says m.world m.history r action)

-- How it begins.

abbrev are_keyed : List (ℕ × Subscription) → Type 0
are_keyed es = (n : ℕ) (s : Subscription) → at_number es n ≡ Some s → s.site.0 ≡ n

keyed-at : (es : List (ℕ × Subscription)) (new s : Subscription) (n : ℕ) (b : Bool) → same_number n new.site.0 b → are_keyed es → at_number (put_number es new.site.0 new) n ≡ Some s → s.site.0 ≡ n
keyed-at es new s n true same keyed at =
    let put : at_number (put_number es new.site.0 new) n ≡ Some new = ap (λ (k : ℕ). at_number (put_number es new.site.0 new) k) same ∙ at_put_same new.site.0 new es in
    let is_new : Some new ≡ Some s = sym put ∙ at in
    let both : new ≡ s = cc in
    sym (ap (λ (x : Subscription). x.site.0) both) ∙ sym same
keyed-at es new s n false differs keyed at = keyed n s (sym (at_put_other new.site.0 n new es differs) ∙ at)

keyed-fold : (subscriptions : List Subscription) (es : List (ℕ × Subscription)) → are_keyed es → are_keyed (fold (λ (others : List (ℕ × Subscription)) (s : Subscription). put_number others s.site.0 s) es subscriptions)
keyed-fold [] es keyed = keyed
keyed-fold (new ∷ subscriptions) es keyed = keyed-fold subscriptions (put_number es new.site.0 new) (λ n s at. keyed-at es new s n (n == new.site.0) (number-decided n new.site.0) keyed at)

pub at-map : (publication : Publication) (es : List (ℕ × Subscription)) (n : ℕ)
    → at_number (map (λ (s : ℕ × Subscription). (s.0, empty_subscriber publication s.1.site)) es) n ≡ option_map (λ (s : Subscription). empty_subscriber publication s.site) (at_number es n)
at-map publication [] n = refl
at-map publication (e ∷ es) n = elim (is_at (nat_cmp n) e.0)
    as (λ (b : Bool). (let found : Option SubscriberTables = cond b (Some (empty_subscriber publication e.1.site)) (at_number (map (λ (s : ℕ × Subscription). (s.0, empty_subscriber publication s.1.site)) es) n) in found)
    ≡ option_map (λ (s : Subscription). empty_subscriber publication s.site) (let found : Option Subscription = cond b (Some e.1) (at_number es n) in found)) [
      | true ↦ refl
      | false ↦ at-map publication es n
    ]

empty-fits : (publication : Publication) (n : ℕ) (site : SiteId) → site.0 ≡ n → SubscriberFits 0 n (empty_subscriber publication site)
empty-fits publication n site keyed = record { keyed = keyed; idle = λ joining. refl; own = omega arith; last = λ seq sent e. absurd (grind (arith, e)); taken = omega arith }

begins-as : (publication : Publication) (P : ℕ → SubscriberTables → Type 0) → ((n : ℕ) (site : SiteId) → site.0 ≡ n → P n (empty_subscriber publication site)) → (n : ℕ) (s : SubscriberTables) (found : Option Subscription) → at_number (by_site publication) n ≡ found
    → option_map (λ (x : Subscription). empty_subscriber publication x.site) found ≡ Some s → P n s
begins-as publication P empty n s None at is = absurd (grind (arith, is))
begins-as publication P empty n s (Some x) at is =
    let both : empty_subscriber publication x.site ≡ s = cc in
    subst (λ (t : SubscriberTables). P n t) both (empty n x.site (keyed-fold publication.subscriptions [] (λ k y none. absurd (grind (arith, none))) n x at))

-- each subscriber begins with empty tables
pub begins-with : (publication : Publication) (P : ℕ → SubscriberTables → Type 0) → ((n : ℕ) (site : SiteId) → site.0 ≡ n → P n (empty_subscriber publication site)) → (n : ℕ) (s : SubscriberTables) → at_number (empty_subscribers publication) n ≡ Some s → P n s
begins-with publication P empty n s at = begins-as publication P empty n s (at_number (by_site publication) n) refl (sym (at-map publication (by_site publication) n) ∙ at)

pub begins : (publication : Publication) (tallies : List ℕ) → Received (empty_world publication tallies) no_history
begins publication tallies = record {
  subscribers = λ n s at. begins-with publication (λ (k : ℕ) (t : SubscriberTables). SubscriberFits 0 k t) (empty-fits publication) n s at;
  letters = tt;
  done = λ n generation from. grind (arith, nat_tests, from);
}

pub received-by-actions : (publication : Publication) (says : Saying) (tallies : List ℕ) (slips : Slips) (actions : List Action)
    → (let m : Model = model_behind_actions publication says tallies slips actions in Received m.world m.history)
received-by-actions publication says tallies slips actions = failing-actions-keep publication (model publication says) (λ (m : Model). Received m.world m.history)
    (λ m action r. model-fine publication says m action r) (λ m others r. received-tallied m.world others m.history r) actions (faulty (empty_model publication tallies) slips) (begins publication tallies)

pub received-always : (publication : Publication) (says : Saying) (tallies : List ℕ) (slips : Slips) (events : List Event)
    → (let m : Model = model_behind publication says tallies slips events in Received m.world m.history)
received-always publication says tallies slips events = of-events publication says tallies slips events (λ (m : Model). Received m.world m.history) (received-by-actions publication says tallies slips)

-- A gap, by the number and by Done.

any-above : (test : ℕ → Bool) (received : ℕ) → ((generation : ℕ) → 1 ≤ generation → test generation ≡ not (nat_le generation received)) → (n from : ℕ) → 1 ≤ from → from ≤ received + 1
    → list_any test (range_with_len from n) ≡ nat_lt (received + 1) (from + n)
any-above test received is zero from low up = grind (arith, nat_tests, low, up)
any-above test received is (suc n) from low up = elim (nat_le from received) as (λ (b : Bool). nat_le from received ≡ b → list_any test (range_with_len from (suc n)) ≡ nat_lt (received + 1) (from + suc n)) [
  | true ↦ (λ e. grind (arith, nat_tests, e, is from low, any-above test received is n (from + 1) (omega arith) (grind (arith, nat_tests, e))))
  | false ↦ (λ e. grind (arith, nat_tests, e, up, is from low))
] refl

pub gap-is : (h : History) (p : PublisherTables) (n from : ℕ) → DoneIsReceived h p → is_gap_by_number p n from ≡ is_gap_by_done h n from
gap-is h p n from done =
    let all : list_any (λ (g : ℕ). not (is_done h n g)) (range_with_len 1 from) ≡ nat_lt (received_by_number p n + 1) (1 + from) = any-above (λ (g : ℕ). not (is_done h n g)) (received_by_number p n) (λ g low. ap (λ (b : Bool). not b) (done n g low)) from 1 (omega arith) (omega arith) in
    grind (arith, nat_tests, all)
