-- A subscriber holds each article with an identity column, with its threshold, after every list of events; and so does the publisher.
use Rattle.std.specs.List.{AllByRecursion}
use Rattle.std.specs.Prelude.{Bool, Err, IfOk, List, None, Ok, Option, Result, Some, [], cond, false, if◌then◌else◌, map, refl, true, ℕ, ℤ, ◌+◌, ◌==◌, ◌≡◌, ◌≤◌, ◌∷◌}
use Rattle.std.specs.List.{fold}
use Rattle.std.specs.List.Sorted.{IsStrictlySortedBy}
use Rattle.std.specs.Map.{keys_of}
use Rattle.std.proofs.Common.{arith, subst, sym, ◌∙◌}
use Rattle.std.proofs.lemmas.Bool.Decides.{nat_tests}
use Rattle.merge_types.specs.declared.changes.Change.{Change}
use Rattle.merge_types.specs.declared.identifiers.Moment.{Moment}
use Rattle.merge_types.specs.declared.identifiers.RowId.{RowId}
use Rattle.merge_types.specs.declared.row_key.RowKey.{RowKey as Key}
use Rattle.merge_types.specs.declared.values.Value.{Value}
use Rattle.merge_units.specs.declared.version.Version.{Version}
use Rattle.merge_ident.specs.Holders.{Holder}
use Rattle.merge_schema.specs.declared.publication.Publication.{Publication}
use Rattle.merge_batch.specs.declared.refusal.Refusal.{Refusal}
use Rattle.merge_batch.specs.declared.reply.Reply.{Reply}
use Rattle.merge_batch.specs.declared.reply.Reply.TheVariants as reply
use Rattle.merge_batch.specs.declared.request.Join.{Join}
use Rattle.merge_batch.specs.declared.request.Outstanding.{Outstanding}
use Rattle.merge_batch.specs.declared.request.Outstanding.TheVariants as ask
use Rattle.merge_batch.specs.declared.request.RangeAsk.{RangeAsk}
use Rattle.merge_batch.specs.declared.request.Upload.{Upload}
use Rattle.merge_model.specs.Tables.Changes.{key_of, version_after}
use Rattle.merge_model.specs.World.Faults.{reply_fault}
use Rattle.merge_model.specs.Judge.{SubscriberJudge}
use Rattle.merge_model.specs.Tables.Refusals.{counter_end, unless}
use Rattle.merge_model.specs.Subscriber.Reinit.{result_of_reinit}
use Rattle.merge_model.specs.Subscriber.Sending.{join_made, join_of, ranges_made, sending_refusal, unsent_rows, upload_made, upload_sent, want_of, with_message}
use Rattle.merge_model.specs.Subscriber.{subscriber_at_moment, subscriber_closed, subscriber_counters, subscriber_drawn, subscriber_local_refusal, subscriber_made_locally, subscriber_next_dot, subscriber_version_at, with_version_if}
use Rattle.merge_model.specs.Tables.{SubscriberTables}
use Rattle.merge_model.specs.Subscriber.Taking.{met_by, seq_of, tables_after_reply, take_reply}
use Rattle.merge_model.specs.declared.outcome.Taken.{Taken}
use Rattle.merge_model.specs.declared.outcome.Taken.TheVariants.{Acted, Missed}
use Rattle.merge_honest.proofs.CallWalk.{CallsKeep, OfMade}
use Rattle.std.specs.Ordering.{nat_cmp}
use Rattle.merge_types.specs.declared.changes.Change.TheVariants.{Delete, Insert, Update}
use Rattle.merge_types.specs.declared.values.Value.TheVariants.{Null}
use Rattle.merge_units.specs.declared.result.Decision.{Decision}
use Rattle.merge_ident.specs.Answers.{Answer, answer_by, answer_of, grants_after, kept_answer, next_answer, next_begin, next_end, rule_of, ruled_answer, size_for}
use Rattle.merge_ident.specs.Books.{IsRule}
use Rattle.merge_ident.specs.Grants.{granted_to, greatest_end, is_numbered, natural}
use Rattle.merge_ident.specs.declared.grants.Ask.{Ask}
use Rattle.merge_ident.specs.declared.grants.IdentityFault.TheVariants.{NoRange, TooMany}
use Rattle.merge_ident.specs.declared.grants.Range.{Range}
use Rattle.merge_ident.specs.declared.grants.Rule.{Rule}
use Rattle.merge_schema.specs.declared.publication.Identity.{Identity}
use Rattle.merge_batch.specs.Replies.{broken_by_reply, grant_fits}
use Rattle.merge_batch.specs.declared.reply.Ranged.{Ranged}
use Rattle.merge_model.specs.World.Faults.{heard_by}
use Rattle.merge_model.proofs.Entries.EntryLists.{all-put}
use Rattle.merge_model.proofs.Lists.Finding.{some_same}
use Rattle.std.specs.BTreeMap.{is_at}
use Rattle.std.specs.List.{list_all}
use Rattle.std.specs.Prelude.{All, find, int_le, nat_le, pos, ◌≤ℤ◌}
use Rattle.std.specs.declared.cmp.Ordering.{Ordering}
use Rattle.std.specs.declared.cmp.Ordering.TheVariants.{Equal, Greater, Less}
use Rattle.std.proofs.lemmas.Int.{ints}
use Rattle.std.proofs.lemmas.List.Elements.{All-head, All-tail}
use Rattle.merge_ident.specs.Holders.{HasValues, after_receive, after_take, answer_to_take}
use Rattle.merge_ident.specs.declared.grants.Grant.{Grant}
use Rattle.merge_ident.specs.declared.grants.GrantAnswer.TheVariants.{Granted, Kept, NotDue}
use Rattle.merge_ident.specs.declared.ranges.IdentityUsedUp.{IdentityUsedUp as IdentityEnd}
use Rattle.merge_schema.specs.Valid.{IsValid}
use Rattle.merge_batch.specs.declared.reply.RangeGrant.{RangeGrant}
use Rattle.merge_model.specs.Publisher.Acts.{acts_of}
use Rattle.merge_model.specs.Judge.ByHistory.{by_history}
use Rattle.merge_model.specs.Failing.{Slips}
use Rattle.merge_model.specs.History.{History}
use Rattle.merge_model.specs.Judge.{PublisherJudge}
use Rattle.merge_model.specs.Tables.Keys.{at_number, put_number}
use Rattle.merge_model.specs.Tables.Publications.{identities, rules_of}
use Rattle.merge_model.specs.Publisher.{at_moment, counters, holder_for, new_holders, tables_after_close}
use Rattle.merge_model.specs.Publisher.PublisherDownload.{download_refusal, tables_after_download}
use Rattle.merge_model.specs.Publisher.PublisherJoin.{join_acts, join_refusal, join_taken, tables_after_join}
use Rattle.merge_model.specs.Publisher.PublisherLocal.{Drawn, after_answer, draw_for_change, drawn_from, local_refusal, made_locally, no_draw, own_ask, taken_from}
use Rattle.merge_model.specs.Publisher.PublisherRanges.{plans, ranges_refusal, with_grants}
use Rattle.merge_model.specs.Publisher.PublisherUpload.{brings_news, tables_after_upload, taken_in, upload_refusal}
use Rattle.merge_model.specs.Failing.Runs.{model_behind}
use Rattle.merge_model.specs.Subscriber.{taken_value}
use Rattle.merge_model.specs.Tables.{PublisherTables}
use Rattle.merge_model.specs.Subscriber.Taking.{with_grant}
use Rattle.merge_model.specs.World.{Saying, World}
use Rattle.merge_model.specs.declared.event.Event.{Event}
use Rattle.merge_laws.proofs.Runs.Ground.{grounded-always}
use Rattle.merge_laws.proofs.Received.Models.{begins-with}
use Rattle.merge_honest.proofs.CallWalk.{Holds, call-step}
use Rattle.merge_honest.proofs.HeldRanges.{new-well}
use Rattle.merge_stored.proofs.HeldKeys.{HasKeys, keys-same, put-same}
use Rattle.merge_stored.proofs.HoldersWell.{IsWell, new-is-well, receive-well, take-well}
use Rattle.merge_stored.proofs.PublisherCalls.{PublisherCallsKeep, publisher-step}

-- Nothing was received in the beginning.
new-wells : (places : List (ℕ × Identity)) → AllByRecursion (λ (entry : ℕ × Holder). IsWell entry.1) (map holder_for places)
new-wells [] = tt
new-wells (place ∷ places) = (new-is-well place.1.threshold, new-wells places)

-- What is found is one of those that there are.
well-by : (b : Bool) (first holder : Holder) (rest : Option Holder) → IsWell first → (rest ≡ Some holder → IsWell holder) → (let found : Option Holder = cond b (Some first) rest in found) ≡ Some holder → IsWell holder
well-by true first holder rest here more at = subst IsWell (some_same first holder at) here
well-by false first holder rest here more at = more at

abbrev pub EntryIsWell : ℕ × Holder → Type 0
EntryIsWell entry = IsWell entry.1

found-well : (held : List (ℕ × Holder)) (article : ℕ) (holder : Holder) → AllByRecursion EntryIsWell held → at_number held article ≡ Some holder → IsWell holder
found-well [] article holder all at = absurd cc
found-well (entry ∷ held) article holder all at = well-by (is_at (nat_cmp article) entry.0) entry.1 holder (at_number held article) all.0 (found-well held article holder all.1) at

-- A range that is granted has values.

abbrev HasSome : Answer → Type 0
HasSome (Ok (Granted number range)) = HasValues range
HasSome answer = Unit {0}

rule-by : (b : Bool) (first rule : Rule) (rest : Option Rule) → IsRule first → (rest ≡ Some rule → IsRule rule) → (let found : Option Rule = cond b (Some first) rest in found) ≡ Some rule → IsRule rule
rule-by true first rule rest here more at = subst IsRule (some_same first rule at) here
rule-by false first rule rest here more at = more at

found-rule : (rules : List Rule) (article : ℕ) (rule : Rule) → All IsRule rules → rule_of rules article ≡ Some rule → IsRule rule
found-rule [] article rule all at = absurd cc
found-rule (first ∷ rules) article rule all at = rule-by (first.article == article) first rule (rule_of rules article) (All-head IsRule first rules all) (found-rule rules article rule (All-tail IsRule first rules all)) at

if-some : (b : Bool) (number : ℕ) (range : Range) (other : Answer) → HasValues range → HasSome other → HasSome (if b then Ok (Granted number range) else other)
if-some true number range other some rest = some
if-some false number range other some rest = rest

size-some : (rule : Rule) (site : ℕ) (b : Bool) → IsRule rule → 1 ≤ (if b then rule.pub_range else rule.range)
size-some rule site true fits = fits.pub_range
size-some rule site false fits = fits.range

next-some : (rule : Rule) (site number greatest : ℕ) → IsRule rule → HasSome (next_answer rule site number greatest)
next-some rule site number greatest fits =
    let size : 1 ≤ size_for rule site = size-some rule site (site == 0) fits in
    let low : next_begin rule greatest ≤ next_end rule site greatest = omega (arith, size) in
    if-some (nat_le (next_end rule site greatest) (natural rule.greatest)) number (record { begin = pos (next_begin rule greatest); end = pos (next_end rule site greatest) }) (Err (NoRange (next_begin rule greatest) rule.greatest)) (omega (arith, ints, low)) tt

ruled-some : (rules : List Rule) (article site number greatest : ℕ) (found : Option Rule) → All IsRule rules → rule_of rules article ≡ found → HasSome (ruled_answer found site number greatest)
ruled-some rules article site number greatest None all is = tt
ruled-some rules article site number greatest (Some rule) all is = next-some rule site number greatest (found-rule rules article rule all is)

kept-some : (found : Option Grant) → HasSome (kept_answer found)
kept-some None = tt
kept-some (Some grant) = tt

by-some : (o : Ordering) (due : Bool) (kept too_many next : Answer) → HasSome kept → HasSome too_many → HasSome next → HasSome (answer_by o due kept too_many next)
by-some Less due kept too_many next one two three = one
by-some Greater due kept too_many next one two three = two
by-some Equal false kept too_many next one two three = tt
by-some Equal true kept too_many next one two three = three

answer-some : (rules : List Rule) (grants : List Grant) (ask : Ask) → All IsRule rules → HasSome (answer_of rules grants ask)
answer-some rules grants ask all = by-some (nat_cmp ask.have (granted_to ask.article ask.site.0 grants)) ask.due
    (kept_answer (find (is_numbered ask.article ask.site.0 (ask.have + 1)) grants)) (Err (TooMany (granted_to ask.article ask.site.0 grants))) (ruled_answer (rule_of rules ask.article) ask.site.0 (ask.have + 1) (greatest_end ask.article grants))
    (kept-some (find (is_numbered ask.article ask.site.0 (ask.have + 1)) grants)) tt (ruled-some rules ask.article ask.site.0 (ask.have + 1) (greatest_end ask.article grants) (rule_of rules ask.article) all refl)

-- One that is told and fits has values.

told-some : (heard : ℕ → Option ℕ) (grants : List RangeGrant) → list_all (grant_fits heard) grants ≡ true → AllByRecursion (λ (told : RangeGrant). told.begin ≤ℤ told.end) grants
told-some heard [] all = tt
told-some heard (told ∷ grants) all =
    let here : int_le told.begin told.end ≡ true = grind (arith, all) in
    let some : told.begin ≤ℤ told.end = grind (arith, ints, nat_tests, here) in
    (some, told-some heard grants (grind (arith, all)))

ranged-some : (publication : Publication) (sent : Outstanding) (m : Ranged) (s : SubscriberTables) → reply_fault publication sent (reply.Ranged m) s ≡ None → AllByRecursion (λ (told : RangeGrant). told.begin ≤ℤ told.end) m.grants
unfolding broken_by_reply
ranged-some publication ask.Ranges m s none = told-some (heard_by s) m.grants (grind (arith, none))
ranged-some publication ask.Join m s none = absurd (grind (arith, none))
ranged-some publication (ask.Upload from to) m s none = absurd (grind (arith, none))
ranged-some publication (ask.Download from) m s none = absurd (grind (arith, none))

module _ (publication : Publication) (rules : All IsRule (rules_of publication)) where
  abbrev pub Keys : List (ℕ × Holder) → Type 0
  Keys held = HasKeys publication held × AllByRecursion EntryIsWell held

  sorted-of : (held : List (ℕ × Holder)) → Keys held → IsStrictlySortedBy nat_cmp (keys_of held)
  sorted-of held same = subst (λ (keys : List ℕ). IsStrictlySortedBy nat_cmp keys) (sym (keys-same held (new_holders publication) same.0)) (new-well publication 0).ascend

  put-keys : (held : List (ℕ × Holder)) (article : ℕ) (new holder : Holder) → at_number held article ≡ Some holder → new.threshold ≡ holder.threshold → (IsWell holder → IsWell new) → Keys held → Keys (put_number held article new)
  put-keys held article new holder at same well keys =
      let is : IsWell new = well (found-well held article holder keys.1 at) in
      (put-same held article new holder (sorted-of held keys) at same ∙ keys.0, all-put EntryIsWell nat_cmp article new (λ q tied. is) is held keys.1)

  -- A subscriber.

  abbrev S : SubscriberTables → Type 0
  S s = Keys s.held

  taken-keys : (s : SubscriberTables) (article : ℕ) (holder : Holder) (result : Result ℤ IdentityEnd) → at_number s.held article ≡ Some holder → S s → IfOk (taken_value s article holder result) (λ d. Keys d.1)
  taken-keys s article holder (Ok value) at keys = put-keys s.held article (after_take holder) holder at refl (take-well holder) keys
  taken-keys s article holder (Err used_up) at keys = tt

  found-keys : (s : SubscriberTables) (article : ℕ) (found : Option Holder) → at_number s.held article ≡ found → S s
      → (let draw : Result (Value × List (ℕ × Holder)) Refusal = elim found [ None ↦ Ok (Null, s.held) | Some holder ↦ taken_value s article holder (answer_to_take holder) ] in IfOk draw (λ d. Keys d.1))
  found-keys s article None at keys = keys
  found-keys s article (Some holder) at keys = taken-keys s article holder (answer_to_take holder) at keys

  draw-keys : (s : SubscriberTables) (change : Change) → S s → IfOk (subscriber_drawn s change) (λ d. Keys d.1)
  draw-keys s (Insert article settings) keys = found-keys s article (at_number s.held article) refl keys
  draw-keys s (Update article row settings) keys = keys
  draw-keys s (Delete article row) keys = keys

  version-keys : (key : Key) (found : Option Version) (u : SubscriberTables) → S u → S (with_version_if key found u)
  version-keys key None u keys = keys
  version-keys key (Some version) u keys = keys

  drawn-on : (now : Moment) (change : Change) (s : SubscriberTables) (draw : Result (Value × List (ℕ × Holder)) Refusal) → IfOk draw (λ d. Keys d.1)
      → (let done : Result (SubscriberTables × RowId) Refusal = elim draw [ Err refusal ↦ Err refusal | Ok drawn ↦ Ok (subscriber_made_locally publication change drawn (subscriber_at_moment now s)) ] in IfOk done (λ a. S a.0))
  drawn-on now change s (Err refusal) keys = tt
  drawn-on now change s (Ok drawn) keys = (let key : Key = key_of (subscriber_next_dot s) change in
      version-keys key (version_after publication (subscriber_next_dot s) drawn.0 change (subscriber_version_at s key)) (record (subscriber_at_moment now s) { changes = s.changes + 1; held = drawn.1 }) keys)

  local-on : (now : Moment) (change : Change) (s : SubscriberTables) (found : Option Refusal) → S s
      → (let done : Result (SubscriberTables × RowId) Refusal = elim found [ Some refusal ↦ Err refusal | None ↦ elim (subscriber_drawn s change) [ Err refusal ↦ Err refusal | Ok drawn ↦ Ok (subscriber_made_locally publication change drawn (subscriber_at_moment now s)) ] ] in IfOk done (λ a. S a.0))
  local-on now change s (Some refusal) keys = tt
  local-on now change s None keys = drawn-on now change s (subscriber_drawn s change) (draw-keys s change keys)

  unless-on : {A : Type 0} (refusal : Option Refusal) (t : SubscriberTables) (a : A) → S t → (let done : Result (SubscriberTables × A) Refusal = unless refusal (t, a) in IfOk done (λ x. S x.0))
  unless-on (Some why) t a is = tt
  unless-on None t a is = is

  unless-made : {A : Type 0} (refusal : Option Refusal) (made : Option (SubscriberTables × A)) → OfMade S made → (let done : Result (Option (SubscriberTables × A)) Refusal = unless refusal made in IfOk done (λ x. OfMade S x))
  unless-made (Some why) made is = tt
  unless-made None made is = is

  join-on : (s : SubscriberTables) (b : Bool) → S s → (let made : Option (SubscriberTables × Join) = if b then None else Some (with_message ask.Join s, join_of s) in OfMade S made)
  join-on s true keys = tt
  join-on s false keys = keys

  upload-on : (judge : SubscriberJudge) (now : Moment) (s : SubscriberTables) (rows : List (Key × ℕ)) → S s
      → (let made : Option (SubscriberTables × Upload) = elim rows [ [] ↦ None | row ∷ rest ↦ Some (upload_sent judge (subscriber_closed (subscriber_at_moment now s))) ] in OfMade S made)
  upload-on judge now s [] keys = tt
  upload-on judge now s (row ∷ rest) keys = keys

  ranges-on : (s : SubscriberTables) (held : List (ℕ × Holder)) → S s
      → (let made : Option (SubscriberTables × RangeAsk) = elim held [ [] ↦ None | entry ∷ entries ↦ Some (with_message ask.Ranges s, record { site = s.site; seq = s.seq + 1; wants = map want_of s.held }) ] in OfMade S made)
  ranges-on s [] keys = tt
  ranges-on s (entry ∷ entries) keys = keys

  granted-by : (held : List (ℕ × Holder)) (grant : RangeGrant) (found : Option Holder) → at_number held grant.article ≡ found → grant.begin ≤ℤ grant.end → Keys held
      → (let after : List (ℕ × Holder) = elim found [ None ↦ held | Some holder ↦ put_number held grant.article (after_receive holder (record { begin = grant.begin; end = grant.end })) ] in Keys after)
  granted-by held grant None at some keys = keys
  granted-by held grant (Some holder) at some keys = put-keys held grant.article (after_receive holder (record { begin = grant.begin; end = grant.end })) holder at refl (receive-well holder (record { begin = grant.begin; end = grant.end }) some) keys

  all-granted : (grants : List RangeGrant) (held : List (ℕ × Holder)) → AllByRecursion (λ (told : RangeGrant). told.begin ≤ℤ told.end) grants → Keys held → Keys (fold with_grant held grants)
  all-granted [] held some keys = keys
  all-granted (grant ∷ grants) held some keys = all-granted grants (with_grant held grant) some.1 (granted-by held grant (at_number held grant.article) refl some.0 keys)

  taken-on : (judge : SubscriberJudge) (now : Moment) (sent : Outstanding) (m : Reply) (s : SubscriberTables) → reply_fault publication sent m s ≡ None → S s → S (tables_after_reply judge now m s)
  taken-on judge now sent (reply.Joined m) s none keys = keys
  taken-on judge now sent (reply.Uploaded m) s none keys = keys
  taken-on judge now sent (reply.Ranged m) s none keys = all-granted m.grants s.held (ranged-some publication sent m s none) keys
  taken-on judge now sent (reply.Downloaded m) s none keys = keys
  taken-on judge now sent (reply.Refused number values) s none keys = keys

  fitting-on : {A : Type 0} (refusal : Option Refusal) (t : SubscriberTables) (a : A) → (refusal ≡ None → S t) → (let done : Result (SubscriberTables × A) Refusal = unless refusal (t, a) in IfOk done (λ x. S x.0))
  fitting-on (Some why) t a is = tt
  fitting-on None t a is = is refl

  met-on : (judge : SubscriberJudge) (now : Moment) (m : Reply) (s : SubscriberTables) (found : Option (ℕ × Outstanding)) → S s → IfOk (met_by publication judge now m s found) (λ a. S a.0)
  met-on judge now m s None keys = keys
  met-on judge now m s (Some sent) keys = elim (sent.0 == seq_of m) as (λ (same : Bool). (let done : Result (SubscriberTables × Taken) Refusal = if same then unless (reply_fault publication sent.1 m s) (tables_after_reply judge now m s, Acted) else Ok (s, Missed (seq_of m) sent.0) in IfOk done (λ a. S a.0))) [
    | true ↦ fitting-on (reply_fault publication sent.1 m s) (tables_after_reply judge now m s) Acted (λ none. taken-on judge now sent.1 m s none keys)
    | false ↦ keys
  ]

  reply-on : (judge : SubscriberJudge) (now : Moment) (m : Reply) (s : SubscriberTables) → S s → IfOk (take_reply publication judge now m s) (λ a. S a.0)
  reply-on judge now (reply.Joined m) s keys = met-on judge now (reply.Joined m) s s.outstanding keys
  reply-on judge now (reply.Uploaded m) s keys = met-on judge now (reply.Uploaded m) s s.outstanding keys
  reply-on judge now (reply.Ranged m) s keys = met-on judge now (reply.Ranged m) s s.outstanding keys
  reply-on judge now (reply.Downloaded m) s keys = met-on judge now (reply.Downloaded m) s s.outstanding keys
  reply-on judge now (reply.Refused number values) s keys = keys

  pub sub-keys-keep : CallsKeep publication S
  sub-keys-keep = record {
    of_local = λ now change s keys. local-on now change s (subscriber_local_refusal publication change s) keys;
    of_close = λ now s keys. unless-on (counter_end (subscriber_counters s)) (subscriber_closed (subscriber_at_moment now s)) _ keys;
    of_join = λ s keys. unless-made (counter_end (subscriber_counters s)) (join_made s) (join-on s s.is_joined keys);
    of_upload = λ judge now s keys. unless-made (sending_refusal s) (upload_made judge now s) (upload-on judge now s (unsent_rows judge s) keys);
    of_ranges = λ s keys. unless-made (sending_refusal s) (ranges_made s) (ranges-on s s.held keys);
    of_ask = λ s keys. unless-on (sending_refusal s) (with_message (ask.Download s.watermark) s) _ keys;
    of_reply = λ judge now m s keys. reply-on judge now m s keys;
    of_anew = λ judge now s keys. unless-on (counter_end (subscriber_counters s)) (result_of_reinit judge (subscriber_at_moment now s)).0 _ keys;
  }

  -- The publisher.

  abbrev pub P : PublisherTables → Type 0
  P p = Keys p.held

  unless-p : {A : Type 0} (refusal : Option Refusal) (q : PublisherTables) (a : A) → P q → (let done : Result (PublisherTables × A) Refusal = unless refusal (q, a) in IfOk done (λ x. P x.0))
  unless-p (Some why) q a is = tt
  unless-p None q a is = is

  from-keys : (p : PublisherTables) (grants : List Grant) (article : ℕ) (new holder : Holder) (result : Result ℤ IdentityEnd) → at_number p.held article ≡ Some holder → new.threshold ≡ holder.threshold → (IsWell holder → IsWell new) → P p → IfOk (taken_from p grants article new result) (λ d. Keys d.held)
  from-keys p grants article new holder (Ok value) at same well keys = put-keys p.held article (after_take new) holder at same (λ is. take-well new (well is)) keys
  from-keys p grants article new holder (Err used_up) at same well keys = tt

  answer-keys : (p : PublisherTables) (article : ℕ) (holder : Holder) (answer : Answer) → at_number p.held article ≡ Some holder → HasSome answer → P p → IfOk (after_answer p article holder answer) (λ d. Keys d.held)
  answer-keys p article holder (Ok (Granted number range)) at some keys =
      from-keys p (grants_after p.grants (own_ask p article) (Ok (Granted number range))) article (after_receive holder range) holder (answer_to_take (after_receive holder range)) at refl (receive-well holder range some) keys
  answer-keys p article holder (Ok (Kept number range)) at some keys = from-keys p p.grants article holder holder (answer_to_take holder) at refl (λ is. is) keys
  answer-keys p article holder (Ok NotDue) at some keys = from-keys p p.grants article holder holder (answer_to_take holder) at refl (λ is. is) keys
  answer-keys p article holder (Err fault) at some keys = from-keys p p.grants article holder holder (answer_to_take holder) at refl (λ is. is) keys

  drawn-keys : (p : PublisherTables) (article : ℕ) (holder : Holder) (result : Result ℤ IdentityEnd) → at_number p.held article ≡ Some holder → P p → IfOk (drawn_from publication p article holder result) (λ d. Keys d.held)
  drawn-keys p article holder (Ok value) at keys = from-keys p p.grants article holder holder (Ok value) at refl (λ is. is) keys
  drawn-keys p article holder (Err used_up) at keys = answer-keys p article holder (answer_of (rules_of publication) p.grants (own_ask p article)) at (answer-some (rules_of publication) p.grants (own_ask p article) rules) keys

  own-found : (p : PublisherTables) (article : ℕ) (found : Option Holder) → at_number p.held article ≡ found → P p
      → (let draw : Result Drawn Refusal = elim found [ None ↦ Ok (no_draw p) | Some holder ↦ drawn_from publication p article holder (answer_to_take holder) ] in IfOk draw (λ d. Keys d.held))
  own-found p article None at keys = keys
  own-found p article (Some holder) at keys = drawn-keys p article holder (answer_to_take holder) at keys

  own-draw : (p : PublisherTables) (change : Change) → P p → IfOk (draw_for_change publication p change) (λ d. Keys d.held)
  own-draw p (Insert article settings) keys = own-found p article (at_number p.held article) refl keys
  own-draw p (Update article row settings) keys = keys
  own-draw p (Delete article row) keys = keys

  own-drawn : (judge : PublisherJudge) (now : Moment) (change : Change) (p : PublisherTables) (draw : Result Drawn Refusal) → IfOk draw (λ d. Keys d.held)
      → (let done : Result (PublisherTables × RowId) Refusal = elim draw [ Err refusal ↦ Err refusal | Ok d ↦ Ok (made_locally publication judge change d (at_moment now p)) ] in IfOk done (λ x. P x.0))
  own-drawn judge now change p (Err refusal) keys = tt
  own-drawn judge now change p (Ok d) keys = keys

  own-local : (judge : PublisherJudge) (now : Moment) (change : Change) (p : PublisherTables) (found : Option Refusal) → P p
      → (let done : Result (PublisherTables × RowId) Refusal = elim found [ Some refusal ↦ Err refusal | None ↦ elim (draw_for_change publication p change) [ Err refusal ↦ Err refusal | Ok d ↦ Ok (made_locally publication judge change d (at_moment now p)) ] ] in IfOk done (λ x. P x.0))
  own-local judge now change p (Some refusal) keys = tt
  own-local judge now change p None keys = own-drawn judge now change p (draw_for_change publication p change) (own-draw p change keys)

  own-upload : (judge : PublisherJudge) (m : Upload) (decisions : List Decision) (p : PublisherTables) (b : Bool) → P p → P (if b then taken_in publication judge m (acts_of judge m decisions p) p else p)
  own-upload judge m decisions p true keys = keys
  own-upload judge m decisions p false keys = keys

  own-join : (m : Join) (p : PublisherTables) (b : Bool) → P p → P (if b then join_taken m p else p)
  own-join m p true keys = keys
  own-join m p false keys = keys

  pub keys-keep : PublisherCallsKeep publication P
  keys-keep = record {
    of_local = λ judge now change p keys. own-local judge now change p (local_refusal publication change p) keys;
    of_close = λ now p keys. unless-p (counter_end (counters p)) (tables_after_close (at_moment now p)) _ keys;
    of_join = λ now m p keys. unless-p (join_refusal publication m p) (tables_after_join m (at_moment now p)) _ (own-join m (at_moment now p) (join_acts m (at_moment now p)) keys);
    of_upload = λ judge now m decisions p keys. unless-p (upload_refusal publication judge now m p) (tables_after_upload publication judge m decisions (at_moment now p)) _ (own-upload judge m decisions (at_moment now p) (brings_news judge m) keys);
    of_ranges = λ judge now m p keys. unless-p (ranges_refusal publication judge now m p) (with_grants (plans publication m p) (at_moment now p)) _ keys;
    of_ask = λ judge now m p keys. unless-p (download_refusal publication now m p) (tables_after_download m (at_moment now p)) _ keys;
    of_purge = λ now p keys. keys;
  }

  pub own-keys : (says : Saying) (tallies : List ℕ) (slips : Slips) (events : List Event) → (resolvers : ℕ) × IsValid resolvers publication → P (model_behind publication says tallies slips events).world.publisher
  own-keys says tallies slips events valid =
      (grounded-always publication says tallies slips events valid (λ (w : World) (h : History). P w.publisher) (λ m action g keys. publisher-step publication P m.world keys keys-keep says (by_history m.history) action)
      (λ w h others keys. keys) (refl, new-wells (identities publication))).1

  pub sub-keys : (says : Saying) (tallies : List ℕ) (slips : Slips) (events : List Event) → (resolvers : ℕ) × IsValid resolvers publication
      → (n : ℕ) (s : SubscriberTables) → at_number (model_behind publication says tallies slips events).world.subscribers n ≡ Some s → S s
  sub-keys says tallies slips events valid =
      (grounded-always publication says tallies slips events valid (λ (w : World) (h : History). Holds publication S w) (λ m action g keys. call-step publication S m.world keys sub-keys-keep says (by_history m.history) action)
      (λ w h others keys. keys) (λ n s at. begins-with publication (λ (k : ℕ) (t : SubscriberTables). S t) (λ k site keyed. (refl, new-wells (identities publication))) n s at)).1
