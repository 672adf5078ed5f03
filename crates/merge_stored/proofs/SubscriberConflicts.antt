-- A subscriber's conflicts are numbered from 1 to their counter. They are no more than the changes that it made: what is discarded has a
-- change that was not taken, and none is discarded twice.
use Rattle.std.specs.List.{AllByRecursion}
use Rattle.std.specs.Prelude.{Bool, Err, IfOk, List, None, Ok, Option, Result, Some, [], false, if◌then◌else◌, length, map, refl, true, ℕ, ◌+◌, ◌==◌, ◌≡◌, ◌≤◌, ◌∷◌}
use Rattle.std.proofs.Common.{arith, subst, sym}
use Rattle.std.proofs.lemmas.Bool.Decides.{nat_tests}
use Rattle.merge_types.specs.declared.changes.Change.{Change}
use Rattle.merge_types.specs.declared.identifiers.Moment.{Moment}
use Rattle.merge_types.specs.declared.identifiers.RowId.{RowId}
use Rattle.merge_types.specs.declared.row_key.RowKey.{RowKey as Key}
use Rattle.merge_types.specs.declared.values.Value.{Value}
use Rattle.merge_units.specs.declared.version.Version.{Version}
use Rattle.merge_conflict.specs.declared.row.ConflictRow.{ConflictRow}
use Rattle.merge_ident.specs.Holders.{Holder}
use Rattle.merge_schema.specs.declared.publication.Publication.{Publication}
use Rattle.merge_batch.specs.declared.refusal.Refusal.{Refusal}
use Rattle.merge_batch.specs.declared.reply.Reply.{Reply}
use Rattle.merge_batch.specs.declared.reply.Reply.TheVariants as reply
use Rattle.merge_batch.specs.declared.request.Join.{Join}
use Rattle.merge_batch.specs.declared.request.Outstanding.{Outstanding}
use Rattle.merge_batch.specs.declared.request.Outstanding.TheVariants as ask
use Rattle.merge_batch.specs.declared.request.RangeAsk.{RangeAsk}
use Rattle.merge_batch.specs.declared.request.Upload.{Upload}
use Rattle.merge_keeper.specs.SubscriberRules.{Numbered}
use Rattle.merge_model.specs.Tables.Changes.{key_of, version_after}
use Rattle.merge_model.specs.World.Faults.{reply_fault}
use Rattle.merge_model.specs.Judge.{SubscriberJudge}
use Rattle.merge_model.specs.Publisher.{later}
use Rattle.merge_model.specs.Tables.Refusals.{counter_end, unless}
use Rattle.merge_model.specs.Subscriber.Reinit.{discarded_rows_from, discarded_versions, result_of_reinit}
use Rattle.merge_model.specs.Subscriber.Sending.{join_made, join_of, ranges_made, sending_refusal, unsent_rows, upload_made, upload_sent, want_of, with_message}
use Rattle.merge_model.specs.Subscriber.{subscriber_at_moment, subscriber_closed, subscriber_counters, subscriber_drawn, subscriber_local_refusal, subscriber_made_locally, subscriber_next_dot, subscriber_version_at, with_version_if}
use Rattle.merge_model.specs.Tables.{SubscriberTables}
use Rattle.merge_model.specs.Subscriber.Taking.{met_by, seq_of, tables_after_reply, take_reply}
use Rattle.merge_model.specs.declared.outcome.Taken.{Taken}
use Rattle.merge_model.specs.declared.outcome.Taken.TheVariants.{Acted, Missed}
use Rattle.merge_model.proofs.Lists.Finding.{all-weaker}
use Rattle.merge_model.proofs.Lists.{all-append}
use Rattle.merge_honest.proofs.CallWalk.{CallsKeep, OfMade}
use Rattle.merge_stored.proofs.ConflictLists.{anew-long, anew-numbered, numbered-append}

abbrev pub OwnLost : ℕ → ℕ → ConflictRow → Type 0
OwnLost site latest row = (row.from.0 ≡ site) × (row.moment.0 ≤ latest)

pub record SubscriberConflicts (s : SubscriberTables) : Type 0 where
  pub numbered : Numbered s.conflict_count 0 s.conflicts
  pub each : AllByRecursion (OwnLost s.site.0 s.latest.0) s.conflicts

abbrev S : SubscriberTables → Type 0
S s = SubscriberConflicts s

later-own : (site latest later : ℕ) (rows : List ConflictRow) → latest ≤ later → AllByRecursion (OwnLost site latest) rows → AllByRecursion (OwnLost site later) rows
later-own site latest later rows up all = all-weaker (OwnLost site latest) (OwnLost site later) (λ row is. (is.0, (let low = is.1 in omega (arith, low, up)))) rows all

-- what leaves conflicts
same-on : (s t : SubscriberTables) → t.site.0 ≡ s.site.0 → t.conflicts ≡ s.conflicts → t.conflict_count ≡ s.conflict_count → s.latest.0 ≤ t.latest.0 → S s → S t
same-on s t site rows count up b = record {
  numbered = subst (λ (n : ℕ). Numbered n 0 t.conflicts) (sym count) (subst (λ (x : List ConflictRow). Numbered s.conflict_count 0 x) (sym rows) b.numbered);
  each = later-own t.site.0 s.latest.0 t.latest.0 t.conflicts up (subst (λ (n : ℕ). AllByRecursion (OwnLost n s.latest.0) t.conflicts) (sym site) (subst (λ (x : List ConflictRow). AllByRecursion (OwnLost s.site.0 s.latest.0) x) (sym rows) b.each));
}

at-later : (now : Moment) (s : SubscriberTables) → s.latest.0 ≤ (subscriber_at_moment now s).latest.0
at-later now s = grind (arith, nat_tests)

stays : (s : SubscriberTables) → s.latest.0 ≤ s.latest.0
stays s = omega arith

version-on : (key : Key) (found : Option Version) (now : Moment) (held : List (ℕ × Holder)) (s : SubscriberTables) → S s → (let u : SubscriberTables = record (subscriber_at_moment now s) { changes = s.changes + 1; held = held } in S (with_version_if key found u))
version-on key None now held s b = same-on s (record (subscriber_at_moment now s) { changes = s.changes + 1; held = held }) refl refl refl (at-later now s) b
version-on key (Some version) now held s b = same-on s (with_version_if key (Some version) (record (subscriber_at_moment now s) { changes = s.changes + 1; held = held })) refl refl refl (at-later now s) b

drawn-on : (publication : Publication) (now : Moment) (change : Change) (s : SubscriberTables) (draw : Result (Value × List (ℕ × Holder)) Refusal) → S s
    → (let done : Result (SubscriberTables × RowId) Refusal = elim draw [ Err refusal ↦ Err refusal | Ok drawn ↦ Ok (subscriber_made_locally publication change drawn (subscriber_at_moment now s)) ] in IfOk done (λ a. S a.0))
drawn-on publication now change s (Err refusal) b = tt
drawn-on publication now change s (Ok drawn) b = (let key : Key = key_of (subscriber_next_dot s) change in
    version-on key (version_after publication (subscriber_next_dot s) drawn.0 change (subscriber_version_at s key)) now drawn.1 s b)

local-on : (publication : Publication) (now : Moment) (change : Change) (s : SubscriberTables) (found : Option Refusal) → S s
    → (let done : Result (SubscriberTables × RowId) Refusal = elim found [ Some refusal ↦ Err refusal | None ↦ elim (subscriber_drawn s change) [ Err refusal ↦ Err refusal | Ok drawn ↦ Ok (subscriber_made_locally publication change drawn (subscriber_at_moment now s)) ] ] in IfOk done (λ a. S a.0))
local-on publication now change s (Some refusal) b = tt
local-on publication now change s None b = drawn-on publication now change s (subscriber_drawn s change) b

unless-on : {A : Type 0} (refusal : Option Refusal) (t : SubscriberTables) (a : A) → S t → (let done : Result (SubscriberTables × A) Refusal = unless refusal (t, a) in IfOk done (λ x. S x.0))
unless-on (Some why) t a is = tt
unless-on None t a is = is

unless-made : {A : Type 0} (refusal : Option Refusal) (made : Option (SubscriberTables × A)) → OfMade S made → (let done : Result (Option (SubscriberTables × A)) Refusal = unless refusal made in IfOk done (λ x. OfMade S x))
unless-made (Some why) made is = tt
unless-made None made is = is

join-on : (s : SubscriberTables) (b : Bool) → S s → (let made : Option (SubscriberTables × Join) = if b then None else Some (with_message ask.Join s, join_of s) in OfMade S made)
join-on s true b = tt
join-on s false b = same-on s (with_message ask.Join s) refl refl refl (stays s) b

upload-on : (judge : SubscriberJudge) (now : Moment) (s : SubscriberTables) (rows : List (Key × ℕ)) → S s
    → (let made : Option (SubscriberTables × Upload) = elim rows [ [] ↦ None | row ∷ rest ↦ Some (upload_sent judge (subscriber_closed (subscriber_at_moment now s))) ] in OfMade S made)
upload-on judge now s [] b = tt
upload-on judge now s (row ∷ rest) b = same-on s (upload_sent judge (subscriber_closed (subscriber_at_moment now s))).0 refl refl refl (at-later now s) b

ranges-on : (s : SubscriberTables) (held : List (ℕ × Holder)) → S s
    → (let made : Option (SubscriberTables × RangeAsk) = elim held [ [] ↦ None | entry ∷ entries ↦ Some (with_message ask.Ranges s, record { site = s.site; seq = s.seq + 1; wants = map want_of s.held }) ] in OfMade S made)
ranges-on s [] b = tt
ranges-on s (entry ∷ entries) b = same-on s (with_message ask.Ranges s) refl refl refl (stays s) b

anew-on : (judge : SubscriberJudge) (now : Moment) (s : SubscriberTables) → S s → S (result_of_reinit judge (subscriber_at_moment now s)).0
anew-on judge now s b =
    let u : SubscriberTables = subscriber_at_moment now s in
    let rows : List (Key × Version) = discarded_versions judge u in
    let lost : List ConflictRow = discarded_rows_from u (u.conflict_count + 1) rows in
    let before : S u = same-on s u refl refl refl (at-later now s) b in
    let long : length lost ≡ length rows = anew-long u (u.conflict_count + 1) rows in
    record {
      numbered = numbered-append 0 u.conflict_count (u.conflict_count + length lost) u.conflicts lost before.numbered
          (subst (λ (n : ℕ). Numbered (u.conflict_count + n) u.conflict_count lost) (sym long) (anew-numbered u u.conflict_count (u.conflict_count + 1) rows refl));
      each = all-append (OwnLost u.site.0 u.latest.0) u.conflicts lost before.each (anew-own u (u.conflict_count + 1) rows);
    }
  where
    anew-own : (u : SubscriberTables) (number : ℕ) (rows : List (Key × Version)) → AllByRecursion (OwnLost u.site.0 u.latest.0) (discarded_rows_from u number rows)
    anew-own u number [] = tt
    anew-own u number (row ∷ rows) = ((refl, stays u), anew-own u (number + 1) rows)

taken-on : (judge : SubscriberJudge) (now : Moment) (m : Reply) (s : SubscriberTables) → S s → S (tables_after_reply judge now m s)
taken-on judge now (reply.Joined m) s b = same-on s (tables_after_reply judge now (reply.Joined m) s) refl refl refl (at-later now s) b
taken-on judge now (reply.Uploaded m) s b = same-on s (tables_after_reply judge now (reply.Uploaded m) s) refl refl refl (at-later now s) b
taken-on judge now (reply.Ranged m) s b = same-on s (tables_after_reply judge now (reply.Ranged m) s) refl refl refl (at-later now s) b
taken-on judge now (reply.Downloaded m) s b = same-on s (tables_after_reply judge now (reply.Downloaded m) s) refl refl refl (at-later now s) b
taken-on judge now (reply.Refused number values) s b = same-on s (tables_after_reply judge now (reply.Refused number values) s) refl refl refl (at-later now s) b

met-on : (publication : Publication) (judge : SubscriberJudge) (now : Moment) (m : Reply) (s : SubscriberTables) (found : Option (ℕ × Outstanding)) → S s → IfOk (met_by publication judge now m s found) (λ a. S a.0)
met-on publication judge now m s None b = b
met-on publication judge now m s (Some sent) b = elim (sent.0 == seq_of m) as (λ (same : Bool). (let done : Result (SubscriberTables × Taken) Refusal = if same then unless (reply_fault publication sent.1 m s) (tables_after_reply judge now m s, Acted) else Ok (s, Missed (seq_of m) sent.0) in IfOk done (λ a. S a.0))) [
  | true ↦ unless-on (reply_fault publication sent.1 m s) (tables_after_reply judge now m s) Acted (taken-on judge now m s b)
  | false ↦ b
]

reply-on : (publication : Publication) (judge : SubscriberJudge) (now : Moment) (m : Reply) (s : SubscriberTables) → S s → IfOk (take_reply publication judge now m s) (λ a. S a.0)
reply-on publication judge now (reply.Joined m) s b = met-on publication judge now (reply.Joined m) s s.outstanding b
reply-on publication judge now (reply.Uploaded m) s b = met-on publication judge now (reply.Uploaded m) s s.outstanding b
reply-on publication judge now (reply.Ranged m) s b = met-on publication judge now (reply.Ranged m) s s.outstanding b
reply-on publication judge now (reply.Downloaded m) s b = met-on publication judge now (reply.Downloaded m) s s.outstanding b
reply-on publication judge now (reply.Refused number values) s b = b

pub conflicts-keep : (publication : Publication) → CallsKeep publication S
conflicts-keep publication = record {
  of_local = λ now change s b. local-on publication now change s (subscriber_local_refusal publication change s) b;
  of_close = λ now s b. unless-on (counter_end (subscriber_counters s)) (subscriber_closed (subscriber_at_moment now s)) _ (same-on s (subscriber_closed (subscriber_at_moment now s)) refl refl refl (at-later now s) b);
  of_join = λ s b. unless-made (counter_end (subscriber_counters s)) (join_made s) (join-on s s.is_joined b);
  of_upload = λ judge now s b. unless-made (sending_refusal s) (upload_made judge now s) (upload-on judge now s (unsent_rows judge s) b);
  of_ranges = λ s b. unless-made (sending_refusal s) (ranges_made s) (ranges-on s s.held b);
  of_ask = λ s b. unless-on (sending_refusal s) (with_message (ask.Download s.watermark) s) _ (same-on s (with_message (ask.Download s.watermark) s) refl refl refl (stays s) b);
  of_reply = λ judge now m s b. reply-on publication judge now m s b;
  of_anew = λ judge now s b. unless-on (counter_end (subscriber_counters s)) (result_of_reinit judge (subscriber_at_moment now s)).0 _ (anew-on judge now s b);
}
