-- What the calls of a subscriber keep.
-- The room holds what follows of steps.
pub mod SubscriberSteps
use Rattle.std.specs.Prelude.{◌≡◌, ◌+◌, ◌==◌, ℕ, List, [], ◌∷◌, Bool, true, false, Option, Some, None, Result, Ok, Err, refl, if◌then◌else◌, IfOk, map, nat_lt}
use Rattle.std.specs.List.{fold}
use Rattle.std.specs.List.Sorted.{IsStrictlySortedBy}
use Rattle.std.specs.Map.{keys_of}
use Rattle.std.proofs.Common.{arith, subst, sym, ap}
use Rattle.merge_types.specs.declared.identifiers.Moment.{Moment}
use Rattle.merge_types.specs.declared.identifiers.RowId.{RowId}
use Rattle.merge_types.specs.declared.values.Value.{Value}
use Rattle.merge_types.specs.declared.changes.Change.{Change}
use Rattle.merge_units.specs.declared.version.Version.{Version}
use Rattle.merge_gens.specs.declared.closings.Closing.{Closing}
use Rattle.merge_ident.specs.Holders.{Holder}
use Rattle.merge_batch.specs.declared.refusal.Refusal.{Refusal}
use Rattle.merge_batch.specs.declared.request.Outstanding.{Outstanding}
use Rattle.merge_batch.specs.declared.reply.Reply.{Reply}
use Rattle.merge_batch.specs.declared.reply.Reply.TheVariants as reply
use Rattle.merge_batch.specs.declared.reply.DownloadItem.{DownloadItem}
use Rattle.merge_batch.specs.declared.reply.Act.{Act as Order}
use Rattle.merge_batch.specs.declared.reply.Act.TheVariants as order
use Rattle.merge_schema.specs.declared.publication.Publication.{Publication}
use Rattle.merge_types.specs.declared.row_key.RowKey.{RowKey as Key}
use Rattle.merge_units.specs.declared.site_row.SubscriberRow.{SubscriberRow}
use Rattle.merge_model.specs.Tables.{SubscriberTables}
use Rattle.merge_types.specs.RowKeys.{key_cmp}
use Rattle.merge_model.specs.Tables.Refusals.{unless, counter_end}
use Rattle.merge_model.specs.Tables.Changes.{key_of, version_after}
use Rattle.merge_model.specs.Judge.{SubscriberJudge}
use Rattle.merge_model.specs.World.Faults.{reply_fault}
use Rattle.merge_model.specs.Subscriber.{subscriber_local, subscriber_local_refusal, subscriber_drawn, subscriber_made_locally, subscriber_version_at, subscriber_next_dot, with_version_if, close_subscriber_generation, subscriber_closed, subscriber_at_moment, subscriber_counters, subscriber_last_closed}
use Rattle.merge_model.specs.Subscriber.Sending.{with_message}
use Rattle.merge_gens.proofs.ClosedGenerations.{sound_kept}
use Rattle.merge_model.specs.Subscriber.Taking.{tables_after_reply, take_reply, met_by, seq_of, row_above, with_received, with_item, with_order, key_of_download}
use Rattle.merge_model.specs.declared.outcome.Taken.{Taken}
use Rattle.merge_model.specs.declared.outcome.Taken.TheVariants.{Acted, Missed}
use Rattle.merge_model.specs.Subscriber.Reinit.{reinitialise, result_of_reinit}
use Rattle.merge_model.specs.World.{World, Judges, Saying}
use Rattle.merge_model.specs.World.Steps.{Action, step_by}
use Rattle.merge_model.specs.Laws.{SubscriberRises, SubscriberNumbersRise, SubscriberIsSorted}
use Rattle.merge_model.proofs.Publishers.Sorted.{key_total, closed_filling-small, closed_filling-rises, entered-sound, closed-sound}
use Rattle.std.specs.BTreeMap.{is_at}
use Rattle.merge_table.proofs.Sorted.{sorted_put, sorted_take}
use Rattle.merge_model.proofs.Subscribers.SubscriberSteps.{AllHold, sub-step-holds}

unless-ok : {A : Type 0} (P : A → Type 0) (refusal : Option Refusal) (a : A) → P a → IfOk (unless refusal a) P
unless-ok P (Some refusal) a h = tt
unless-ok P None a h = h

-- by what holds of the tables that a change, a reply or a making anew leaves
subscriber_drawn-ok : (S : SubscriberTables → Type 0) (publication : Publication) (now : Moment) (change : Change) (s : SubscriberTables) (draw : Result (Value × List (ℕ × Holder)) Refusal)
    → ((d : Value × List (ℕ × Holder)) → S (subscriber_made_locally publication change d (subscriber_at_moment now s)).0)
    → (let done : Result (SubscriberTables × RowId) Refusal = elim draw [ Err refusal ↦ Err refusal | Ok d ↦ Ok (subscriber_made_locally publication change d (subscriber_at_moment now s)) ] in IfOk done (λ a. S a.0))
subscriber_drawn-ok S publication now change s (Err refusal) each = tt
subscriber_drawn-ok S publication now change s (Ok d) each = each d

subscriber_local-ok : (S : SubscriberTables → Type 0) (publication : Publication) (now : Moment) (change : Change) (s : SubscriberTables)
    → ((d : Value × List (ℕ × Holder)) → S (subscriber_made_locally publication change d (subscriber_at_moment now s)).0) → IfOk (subscriber_local publication now change s) (λ done. S done.0)
subscriber_local-ok S publication now change s each = elim (subscriber_local_refusal publication change s)
    as (λ (refusal : Option Refusal). (let done : Result (SubscriberTables × RowId) Refusal = elim refusal [
      | Some why ↦ Err why
      | None ↦ elim (subscriber_drawn s change) [ Err why ↦ Err why | Ok d ↦ Ok (subscriber_made_locally publication change d (subscriber_at_moment now s)) ]
    ] in IfOk done (λ a. S a.0))) [
      | Some why ↦ tt
      | None ↦ subscriber_drawn-ok S publication now change s (subscriber_drawn s change) each
    ]

close-ok : (S : SubscriberTables → Type 0) (now : Moment) (s : SubscriberTables) → S (subscriber_closed (subscriber_at_moment now s)) → IfOk (close_subscriber_generation now s) (λ done. S done.0)
close-ok S now s h = unless-ok (λ (done : SubscriberTables × ℕ). S done.0) (counter_end (subscriber_counters s)) (subscriber_closed (subscriber_at_moment now s), subscriber_last_closed (subscriber_closed (subscriber_at_moment now s))) h

if-ok : (S : SubscriberTables → Type 0) (b : Bool) (x y : Result (SubscriberTables × Taken) Refusal) → IfOk x (λ done. S done.0) → IfOk y (λ done. S done.0) → IfOk (if b then x else y) (λ done. S done.0)
if-ok S true x y first second = first
if-ok S false x y first second = second

met-ok : (S : SubscriberTables → Type 0) (publication : Publication) (judge : SubscriberJudge) (now : Moment) (m : Reply) (s : SubscriberTables) (found : Option (ℕ × Outstanding))
    → S s → S (tables_after_reply judge now m s) → IfOk (met_by publication judge now m s found) (λ done. S done.0)
met-ok S publication judge now m s None same news = same
met-ok S publication judge now m s (Some sent) same news =
    if-ok S (sent.0 == seq_of m) (unless (reply_fault publication sent.1 m s) (tables_after_reply judge now m s, Acted)) (Ok (s, Missed (seq_of m) sent.0))
    (unless-ok (λ (done : SubscriberTables × Taken). S done.0) (reply_fault publication sent.1 m s) (tables_after_reply judge now m s, Acted) news) same

reply-ok : (S : SubscriberTables → Type 0) (publication : Publication) (judge : SubscriberJudge) (now : Moment) (m : Reply) (s : SubscriberTables)
    → S s → S (tables_after_reply judge now m s) → IfOk (take_reply publication judge now m s) (λ done. S done.0)
reply-ok S publication judge now (reply.Joined m) s same news = met-ok S publication judge now (reply.Joined m) s s.outstanding same news
reply-ok S publication judge now (reply.Uploaded m) s same news = met-ok S publication judge now (reply.Uploaded m) s s.outstanding same news
reply-ok S publication judge now (reply.Ranged m) s same news = met-ok S publication judge now (reply.Ranged m) s s.outstanding same news
reply-ok S publication judge now (reply.Downloaded m) s same news = met-ok S publication judge now (reply.Downloaded m) s s.outstanding same news
reply-ok S publication judge now (reply.Refused number values) s same news = same

anew-ok : (S : SubscriberTables → Type 0) (judge : SubscriberJudge) (now : Moment) (s : SubscriberTables) → S (result_of_reinit judge (subscriber_at_moment now s)).0 → IfOk (reinitialise judge now s) (λ done. S done.0)
anew-ok S judge now s h = unless-ok (λ (done : SubscriberTables × ℕ). S done.0) (counter_end (subscriber_counters s)) (result_of_reinit judge (subscriber_at_moment now s)) h

-- Numbers rise.

version-rises : (b s : SubscriberTables) (key : Key) (version : Option Version) → SubscriberRises b s → SubscriberRises b (with_version_if key version s)
version-rises b s key None r = r
version-rises b s key (Some version) r = record {
  changes_rise = r.changes_rise;
  closed_rises = omega (arith, r.closed_rises);
  seq_rises = r.seq_rises;
  conflicts_rise = r.conflicts_rise;
  latest_rises = r.latest_rises;
}

made-rises : (publication : Publication) (now : Moment) (change : Change) (s : SubscriberTables) (d : Value × List (ℕ × Holder)) → SubscriberRises s (subscriber_made_locally publication change d (subscriber_at_moment now s)).0
made-rises publication now change s d =
    let t : SubscriberTables = subscriber_at_moment now s in
    let u : SubscriberTables = record t { changes = t.changes + 1; held = d.1 } in
    version-rises s u (key_of (subscriber_next_dot t) change) (version_after publication (subscriber_next_dot t) d.0 change (subscriber_version_at t (key_of (subscriber_next_dot t) change)))
    (record { changes_rise = omega arith; closed_rises = omega arith; seq_rises = omega arith; conflicts_rise = omega arith; latest_rises = omega arith })

closing-rises : (now : Moment) (s : SubscriberTables) → SubscriberRises s (subscriber_closed (subscriber_at_moment now s))
closing-rises now s = record {
  changes_rise = omega arith;
  closed_rises = closed_filling-rises s.gens.filling;
  seq_rises = omega arith;
  conflicts_rise = omega arith;
  latest_rises = omega arith;
}

message-rises : (sent : Outstanding) (s : SubscriberTables) → SubscriberRises s (with_message sent s)
message-rises sent s = record { changes_rise = omega arith; closed_rises = omega arith; seq_rises = omega arith; conflicts_rise = omega arith; latest_rises = omega arith }

same-rises : (s : SubscriberTables) → SubscriberRises s s
same-rises s = record { changes_rise = omega arith; closed_rises = omega arith; seq_rises = omega arith; conflicts_rise = omega arith; latest_rises = omega arith }

taken-rises : (judge : SubscriberJudge) (now : Moment) (m : Reply) (s : SubscriberTables) → SubscriberRises s (tables_after_reply judge now m s)
taken-rises judge now (reply.Joined m) s = record { changes_rise = omega arith; closed_rises = omega arith; seq_rises = omega arith; conflicts_rise = omega arith; latest_rises = omega arith }
taken-rises judge now (reply.Uploaded m) s = record { changes_rise = omega arith; closed_rises = omega arith; seq_rises = omega arith; conflicts_rise = omega arith; latest_rises = omega arith }
taken-rises judge now (reply.Ranged m) s = record { changes_rise = omega arith; closed_rises = omega arith; seq_rises = omega arith; conflicts_rise = omega arith; latest_rises = omega arith }
taken-rises judge now (reply.Downloaded m) s = record { changes_rise = omega arith; closed_rises = omega arith; seq_rises = omega arith; conflicts_rise = omega arith; latest_rises = omega arith }
taken-rises judge now (reply.Refused number values) s = record { changes_rise = omega arith; closed_rises = omega arith; seq_rises = omega arith; conflicts_rise = omega arith; latest_rises = omega arith }

anew-rises : (judge : SubscriberJudge) (now : Moment) (s : SubscriberTables) → SubscriberRises s (result_of_reinit judge (subscriber_at_moment now s)).0
anew-rises judge now s = record {
  changes_rise = omega arith;
  closed_rises = closed_filling-rises s.gens.filling;
  seq_rises = omega arith;
  conflicts_rise = omega arith;
  latest_rises = omega arith;
}

pub subscriber_numbers_rise : SubscriberNumbersRise
subscriber_numbers_rise = record {
  by_change = λ publication now change s. subscriber_local-ok (SubscriberRises s) publication now change s (made-rises publication now change s);
  by_close = λ now s. close-ok (SubscriberRises s) now s (closing-rises now s);
  by_message = message-rises;
  by_closing = closing-rises;
  by_reply = λ publication judge now m s. reply-ok (SubscriberRises s) publication judge now m s (same-rises s) (taken-rises judge now m s);
  by_anew = λ judge now s. anew-ok (SubscriberRises s) judge now s (anew-rises judge now s);
}

-- Lists stay in order.

above-keys : (received : ℕ) (rows : List (Key × SubscriberRow)) → keys_of (map (row_above received) rows) ≡ keys_of rows
above-keys received [] = refl
above-keys received (row ∷ rows) = ap (λ (ks : List Key). row.0 ∷ ks) (above-keys received rows)

received-sorted : (received : ℕ) (s : SubscriberTables) → SubscriberIsSorted s → SubscriberIsSorted (with_received received s)
received-sorted received s k = record {
  rows_ascend = subst (λ (ks : List Key). IsStrictlySortedBy key_cmp ks) (sym (above-keys received s.rows)) k.rows_ascend;
  generations_ascend = sound_kept s.gens (λ (closing : Closing). nat_lt received closing.generation) k.generations_ascend;
}

order-sorted : (key : Key) (o : Order) (rows : List (Key × SubscriberRow)) → IsStrictlySortedBy key_cmp (keys_of rows) → IsStrictlySortedBy key_cmp (keys_of (with_order key o rows))
order-sorted key (order.Put lineage live) rows k = sorted_put key_cmp key_total key _ rows k
order-sorted key order.RemoveDeleted rows k = sorted_take key_cmp key_total (is_at (key_cmp key)) rows k
order-sorted key order.RemoveLeft rows k = sorted_take key_cmp key_total (is_at (key_cmp key)) rows k

if-sorted : (b : Bool) (x y : List (Key × SubscriberRow)) → IsStrictlySortedBy key_cmp (keys_of x) → IsStrictlySortedBy key_cmp (keys_of y) → IsStrictlySortedBy key_cmp (keys_of (if b then x else y))
if-sorted true x y first second = first
if-sorted false x y first second = second

items-sorted : (judge : SubscriberJudge) (received : ℕ) (items : List DownloadItem) (rows : List (Key × SubscriberRow)) → IsStrictlySortedBy key_cmp (keys_of rows) → IsStrictlySortedBy key_cmp (keys_of (fold (with_item judge received) rows items))
items-sorted judge received [] rows k = k
items-sorted judge received (item ∷ items) rows k = items-sorted judge received items (with_item judge received rows item)
    (if-sorted (judge.is_unsent received (key_of_download item)) rows (with_order (key_of_download item) item.act rows) k (order-sorted (key_of_download item) item.act rows k))

at_moment-sorted : (now : Moment) (s : SubscriberTables) → SubscriberIsSorted s → SubscriberIsSorted (subscriber_at_moment now s)
at_moment-sorted now s k = record { rows_ascend = k.rows_ascend; generations_ascend = k.generations_ascend }

version-sorted : (key : Key) (version : Option Version) (s : SubscriberTables) → SubscriberIsSorted s → SubscriberIsSorted (with_version_if key version s)
version-sorted key None s k = k
version-sorted key (Some version) s k = record {
  rows_ascend = sorted_put key_cmp key_total key _ s.rows k.rows_ascend;
  generations_ascend = entered-sound s.gens 1 (record { 0 = s.changes }) k.generations_ascend;
}

made-sorted : (publication : Publication) (change : Change) (d : Value × List (ℕ × Holder)) (t : SubscriberTables) → SubscriberIsSorted t → SubscriberIsSorted (subscriber_made_locally publication change d t).0
made-sorted publication change d t k =
    let u : SubscriberTables = record t { changes = t.changes + 1; held = d.1 } in
    version-sorted (key_of (subscriber_next_dot t) change) (version_after publication (subscriber_next_dot t) d.0 change (subscriber_version_at t (key_of (subscriber_next_dot t) change))) u
    (record { rows_ascend = k.rows_ascend; generations_ascend = k.generations_ascend })

closing-sorted : (now : Moment) (s : SubscriberTables) → SubscriberIsSorted s → SubscriberIsSorted (subscriber_closed (subscriber_at_moment now s))
closing-sorted now s k = record { rows_ascend = k.rows_ascend; generations_ascend = closed-sound s.gens (record { 0 = s.changes }) k.generations_ascend }

message-sorted : (sent : Outstanding) (s : SubscriberTables) → SubscriberIsSorted s → SubscriberIsSorted (with_message sent s)
message-sorted sent s k = record { rows_ascend = k.rows_ascend; generations_ascend = k.generations_ascend }

taken-sorted : (judge : SubscriberJudge) (now : Moment) (m : Reply) (s : SubscriberTables) → SubscriberIsSorted s → SubscriberIsSorted (tables_after_reply judge now m s)
taken-sorted judge now (reply.Joined m) s k = record { rows_ascend = k.rows_ascend; generations_ascend = k.generations_ascend }
taken-sorted judge now (reply.Uploaded m) s k =
    let t : SubscriberTables = record (subscriber_at_moment now s) { outstanding = None } in
    received-sorted m.received t (record { rows_ascend = k.rows_ascend; generations_ascend = k.generations_ascend })
taken-sorted judge now (reply.Ranged m) s k = record { rows_ascend = k.rows_ascend; generations_ascend = k.generations_ascend }
taken-sorted judge now (reply.Downloaded m) s k =
    let t : SubscriberTables = record (subscriber_at_moment now s) { outstanding = None } in
    let r : SubscriberIsSorted (with_received m.received t) = received-sorted m.received t (record { rows_ascend = k.rows_ascend; generations_ascend = k.generations_ascend }) in
    record { rows_ascend = items-sorted judge m.received m.items (with_received m.received t).rows r.rows_ascend; generations_ascend = r.generations_ascend }
taken-sorted judge now (reply.Refused number values) s k = record { rows_ascend = k.rows_ascend; generations_ascend = k.generations_ascend }

anew-sorted : (judge : SubscriberJudge) (now : Moment) (s : SubscriberTables) → SubscriberIsSorted s → SubscriberIsSorted (result_of_reinit judge (subscriber_at_moment now s)).0
unfolding IsStrictlySortedBy
anew-sorted judge now s k = record {
  rows_ascend = tt;
  generations_ascend = record { unfilled = closed_filling-small s.gens.filling k.generations_ascend.unfilled; ascending = λ i j d before within. absurd (omega arith); closed = λ i d within. absurd (omega arith) };
}

pub step-sub-sorted : (publication : Publication) (says : Saying) (judges : Judges) (w : World) (action : Action) → AllHold SubscriberIsSorted w.subscribers → AllHold SubscriberIsSorted (step_by publication says judges w action).0.subscribers
step-sub-sorted publication says judges w action k = sub-step-holds publication SubscriberIsSorted
    (λ now change s h. subscriber_local-ok SubscriberIsSorted publication now change s (λ d. made-sorted publication change d (subscriber_at_moment now s) (at_moment-sorted now s h)))
    (λ now s h. close-ok SubscriberIsSorted now s (closing-sorted now s h))
    message-sorted
    closing-sorted
    (λ judge now m s h. reply-ok SubscriberIsSorted publication judge now m s h (taken-sorted judge now m s h))
    (λ judge now s h. anew-ok SubscriberIsSorted judge now s (anew-sorted judge now s h))
    says judges w action k
