-- A call of a subscriber, by the step that was worked out for it and by what became of that.
use Rattle.std.proofs.Common.{◌≡◌, ◌∙◌, ◌||◌, ◌⊎◌, ℕ, Bool, true, false, nat_lt, inl, inr, sym, ap, subst}
use Rattle.std.specs.Prelude.{Err, IfOk, None, Ok, Option, Result, Some, if◌then◌else◌}
use Rattle.std.proofs.lemmas.Result.{IfOk-at_ok}
use Rattle.merge_types.specs.declared.identifiers.Moment.{Moment}
use Rattle.merge_schema.specs.declared.publication.Publication.{Publication}
use Rattle.merge_batch.specs.declared.refusal.Refusal.{Refusal}
use Rattle.merge_batch.specs.declared.reply.Reply.{Reply}
use Rattle.merge_batch.specs.declared.request.Join.{Join}
use Rattle.merge_batch.specs.declared.request.Outstanding.TheVariants as ask
use Rattle.merge_model.specs.Judge.ByNumbers.{by_rows}
use Rattle.merge_model.specs.World.Calls.{Called, RefusesOnlyAs, is_later, message_commits, message_or_none, reply_commits}
use Rattle.merge_model.specs.Subscriber.{close_subscriber_generation, subscriber_counters}
use Rattle.merge_model.specs.Subscriber.Sending.{join_of, make_join, with_message}
use Rattle.merge_model.specs.Tables.Refusals.{counter_end, unless}
use Rattle.merge_model.specs.Tables.{SubscriberTables}
use Rattle.merge_model.specs.Subscriber.Taking.{take_reply}
use Rattle.merge_model.specs.declared.outcome.Taken.{Taken}
use Rattle.merge_model.proofs.Failing.Quiet.{replies-quiet, sub-closings-quiet}
use Rattle.merge_ports.specs.Entries.{Map}
use Rattle.merge_sub.specs.Drafts.{after, after_if_any, drafted, drafted_if_any}
use Rattle.merge_sub.specs.Held.{Held, tables_of}
use Rattle.merge_sub.specs.declared.changes.Draft.{Draft}
use Rattle.merge_world.specs.Views.{SubscriberView}
use Rattle.merge_site.specs.Calls.{IsRefused, WorkedOut}
use Rattle.merge_site.specs.Subscribers.{IsKeptSubscriber}
use Rattle.merge_site.proofs.Called.{none-filled, ok-all}

abbrev pub view_of : Held → ℕ → Option Map → SubscriberView
view_of h faults told = record { publication = h.publication; tables = tables_of h; faults = faults; told = told }

-- what was kept still is, once a draft was made
pub still-kept : (h now : Held) (told : Option Map) → tables_of now ≡ tables_of h → IsKeptSubscriber (tables_of h) told → IsKeptSubscriber (tables_of now) told
still-kept h now told same kept = rw same kept

module _ {A : Type 0} {kept : Option Map} (old : SubscriberView) (h now new : Held) (before after' : ℕ) (seen : view_of h before kept ≡ old) (same : tables_of now ≡ tables_of h) where
  pub sub-called : (by : Publication → SubscriberTables → Result (SubscriberTables × A) Refusal) (of : SubscriberTables → A → Bool) (commits : Bool) (worked : Result (Draft × A) Refusal) (result : Result A Refusal)
      → IfOk worked (λ made. by h.publication (tables_of h) ≡ Ok (drafted (tables_of h) made))
      → ((why : Refusal) → worked ≡ Err why → IsRefused (by h.publication (tables_of h)) why)
      → ((b : Result (SubscriberTables × A) Refusal) (o : A → Bool) → WorkedOut (drafted (tables_of now)) b worked → IfOk worked (λ made. commits ≡ true → o made.1 ≡ true) → Called b o (tables_of now) (tables_of new) before after' result)
      → IfOk worked (λ made. commits ≡ true → of (tables_of h) made.1 ≡ true)
      → Called (by old.publication old.tables) (of old.tables) old.tables (tables_of new) old.faults after' result
  sub-called by of commits worked result made refused called makes =
      let b = by h.publication (tables_of h) in
      let out : WorkedOut (drafted (tables_of now)) b worked = record { done = subst (λ (t : SubscriberTables). IfOk worked (λ d. b ≡ Ok (drafted t d))) (sym same) made; refused = refused } in
      subst (λ (v : SubscriberView). Called (by v.publication v.tables) (of v.tables) v.tables (tables_of new) v.faults after' result) seen
      (subst (λ (t : SubscriberTables). Called b (of (tables_of h)) t (tables_of new) before after' result) same (called b (of (tables_of h)) out makes))

  pub message-called : (by : Publication → SubscriberTables → Result (Option (SubscriberTables × A)) Refusal) (worked : Result (Option (Draft × A)) Refusal) (result : Result (Option A) Refusal)
      → IfOk worked (λ made. by h.publication (tables_of h) ≡ Ok (drafted_if_any (tables_of h) made))
      → ((why : Refusal) → worked ≡ Err why → IsRefused (by h.publication (tables_of h)) why)
      → ((b : Result (Option (SubscriberTables × A)) Refusal) → WorkedOut (drafted_if_any (tables_of now)) b worked → Called (message_or_none (tables_of now) b) message_commits (tables_of now) (tables_of new) before after' result)
      → Called (message_or_none old.tables (by old.publication old.tables)) message_commits old.tables (tables_of new) old.faults after' result
  message-called by worked result made refused called =
      let b = by h.publication (tables_of h) in
      let out : WorkedOut (drafted_if_any (tables_of now)) b worked = record { done = subst (λ (t : SubscriberTables). IfOk worked (λ d. b ≡ Ok (drafted_if_any t d))) (sym same) made; refused = refused } in
      subst (λ (v : SubscriberView). Called (message_or_none v.tables (by v.publication v.tables)) message_commits v.tables (tables_of new) v.faults after' result) seen
      (subst (λ (t : SubscriberTables). Called (message_or_none t b) message_commits t (tables_of new) before after' result) same (called b out))

-- a call that always commits
pub always : {D A : Type 0} (worked : Result (D × A) Refusal) → IfOk worked (λ made. true ≡ true → true ≡ true)
always worked = ok-all worked (λ made e. e)

-- a closing that commits nothing changes nothing
pub closing-still : (h now : Held) (moment : Moment) (worked : Result (Draft × ℕ) Refusal) (commits : Bool) → tables_of now ≡ tables_of h → commits ≡ (is_later moment (tables_of h).latest || nat_lt 0 (tables_of h).gens.filling.filled)
    → IfOk worked (λ made. close_subscriber_generation moment (tables_of h) ≡ Ok (drafted (tables_of h) made)) → IfOk worked (λ made. commits ≡ false → after made.0.changes (tables_of now) ≡ tables_of now)
closing-still h now moment (Err why) commits same is made = tt
closing-still h now moment (Ok worked) commits same is made = λ quiet.
    subst (λ (t : SubscriberTables). after worked.0.changes t ≡ t) (sym same) (sub-closings-quiet moment (tables_of h) (drafted (tables_of h) worked) made (sym is ∙ quiet))

-- a reply that commits nothing changes nothing
pub reply-still : (h now : Held) (moment : Moment) (m : Reply) (draft : Draft) (taken : Taken) (commits : Bool) → tables_of now ≡ tables_of h → commits ≡ reply_commits m taken
    → take_reply h.publication (by_rows (tables_of h)) moment m (tables_of h) ≡ Ok (after draft.changes (tables_of h), taken) → commits ≡ false → after draft.changes (tables_of now) ≡ tables_of now
reply-still h now moment m draft taken commits same is made quiet =
    subst (λ (t : SubscriberTables). after draft.changes t ≡ t) (sym same) (replies-quiet h.publication (by_rows (tables_of h)) moment m (tables_of h) (after draft.changes (tables_of h), taken) made (sym is ∙ quiet))

-- a reply that is taken has the draft that there is
pub reply-made : {A : Type 0} (by : Result (SubscriberTables × A) Refusal) (s : SubscriberTables) (draft : Option Draft) (made : Draft) (answer : A) → draft ≡ Some made → by ≡ Ok (after_if_any draft s, answer) → by ≡ Ok (after made.changes s, answer)
reply-made by s draft made answer is by_is = subst (λ (d : Option Draft). by ≡ Ok (after_if_any d s, answer)) is by_is

-- Calls that take no memory are refused as the definition refuses them.

-- a closing that commits nothing
pub closing-nothing : {kept : Option Map} (old : SubscriberView) (h : Held) (before : ℕ) → view_of h before kept ≡ old → (moment : Moment) (commits : Bool) (worked : Result (Draft × ℕ) Refusal) (result : Result ℕ Refusal)
    → commits ≡ (is_later moment (tables_of h).latest || nat_lt 0 (tables_of h).gens.filling.filled)
    → ((tables_of h).gens.filling.filled ≡ 0 → RefusesOnlyAs (close_subscriber_generation moment (tables_of h)) worked) → (commits ≡ false → RefusesOnlyAs worked result)
    → (is_later moment old.tables.latest || nat_lt 0 old.tables.gens.filling.filled) ≡ false → RefusesOnlyAs (close_subscriber_generation moment old.tables) result
closing-nothing old h before seen moment commits worked result is empty fails quiet =
    let still : (is_later moment (tables_of h).latest || nat_lt 0 (tables_of h).gens.filling.filled) ≡ false =
    subst (λ (v : SubscriberView). (is_later moment v.tables.latest || nat_lt 0 v.tables.gens.filling.filled) ≡ false) (sym seen) quiet in
    λ why was. subst (λ (v : SubscriberView). close_subscriber_generation moment v.tables ≡ Err why) seen
    (empty (none-filled (is_later moment (tables_of h).latest) (tables_of h).gens.filling.filled still) why (fails (is ∙ still) why was))

-- a joined site makes no join
none-made : {A : Type 0} (refused : Option Refusal) (made : A) → (let none : Option A = None in unless refused none) ≡ Ok (Some made) → ⊥
none-made None made is = cc
none-made (Some why) made is = cc

no-join : (s : SubscriberTables) → s.is_joined ≡ true → (made : SubscriberTables × Join) → make_join s ≡ Ok (Some made) → ⊥
no-join s joined made is =
    none-made (counter_end (subscriber_counters s)) made
    (ap (λ (b : Bool). (let makes : Option (SubscriberTables × Join) = if b then None else Some (with_message ask.Join s, join_of s) in unless (counter_end (subscriber_counters s)) makes)) (sym joined) ∙ is)

joined-refused : (s : SubscriberTables) (worked : Result (Option (Draft × Join)) Refusal) → IfOk worked (λ made. make_join s ≡ Ok (drafted_if_any s made)) → RefusesOnlyAs (make_join s) worked → s.is_joined ≡ true
    → (why : Refusal) → (worked ≡ Err why) ⊎ ((made : Draft × Join) × (worked ≡ Ok (Some made))) → make_join s ≡ Err why
joined-refused s worked done refused joined why (inl was) = refused why was
joined-refused s worked done refused joined why (inr (made, was)) = absurd (no-join s joined (drafted s made) (IfOk-at_ok (λ d. make_join s ≡ Ok (drafted_if_any s d)) was done))

pub join-nothing : {kept : Option Map} (old : SubscriberView) (h : Held) (before : ℕ) → view_of h before kept ≡ old → (worked : Result (Option (Draft × Join)) Refusal) (result : Result (Option Join) Refusal)
    → IfOk worked (λ made. make_join (tables_of h) ≡ Ok (drafted_if_any (tables_of h) made)) → RefusesOnlyAs (make_join (tables_of h)) worked
    → ((why : Refusal) → result ≡ Err why → (worked ≡ Err why) ⊎ ((made : Draft × Join) × (worked ≡ Ok (Some made)))) → old.tables.is_joined ≡ true → RefusesOnlyAs (make_join old.tables) result
join-nothing old h before seen worked result done refused fails joined =
    let here : (tables_of h).is_joined ≡ true = subst (λ (v : SubscriberView). v.tables.is_joined ≡ true) (sym seen) joined in
    λ why was. subst (λ (v : SubscriberView). make_join v.tables ≡ Err why) seen (joined-refused (tables_of h) worked done refused here why (fails why was))

-- a reply is taken in one way
abbrev taken_in : Result (SubscriberTables × Taken) Refusal → Taken → Taken
taken_in (Ok done) other = done.1
taken_in (Err why) other = other

pub taken-same : (by : Result (SubscriberTables × Taken) Refusal) (s t : SubscriberTables) (a b : Taken) → by ≡ Ok (s, a) → by ≡ Ok (t, b) → a ≡ b
taken-same by s t a b one other = ap (λ (r : Result (SubscriberTables × Taken) Refusal). taken_in r a) (sym one ∙ other)
