-- What a subscriber holds of ranges fits: its calls keep it, and the identity values that it takes fit too.
use Rattle.std.specs.BTreeMap.{is_at}
use Rattle.std.specs.Int.{w64}
use Rattle.std.specs.List.{AllByRecursion, fold, list_all, list_any}
use Rattle.std.specs.Option.{option_map_or}
use Rattle.std.specs.Ordering.{nat_cmp}
use Rattle.std.specs.Prelude.{Bool, Err, FitsSigned, IfOk, IfSome, List, None, Ok, Option, Result, Some, [], false, if◌then◌else◌, int_le, map, option_map, refl, true, ℕ, ℤ, ◌&&◌, ◌+◌, ◌==◌, ◌≡◌, ◌≤ℤ◌, ◌∷◌}
use Rattle.std.proofs.Common.{ap, arith, subst, sym}
use Rattle.std.proofs.lemmas.Bool.Decides.{nat_tests}
use Rattle.std.proofs.lemmas.Int.{ints}
use Rattle.merge_types.specs.declared.changes.Change.{Change}
use Rattle.merge_types.specs.declared.changes.Change.TheVariants.{Delete, Insert, Update}
use Rattle.merge_types.specs.declared.identifiers.Moment.{Moment}
use Rattle.merge_types.specs.declared.row_key.RowKey.{RowKey as Key}
use Rattle.merge_types.specs.declared.values.Value.{Value}
use Rattle.merge_types.specs.declared.values.Value.TheVariants.{Null}
use Rattle.merge_units.specs.declared.version.Version.{Version}
use Rattle.merge_ident.specs.Holders.{Holder, after_receive, after_take, answer_to_take}
use Rattle.merge_ident.specs.declared.ranges.IdentityUsedUp.{IdentityUsedUp as IdentityEnd}
use Rattle.merge_schema.specs.declared.publication.Publication.{Publication}
use Rattle.merge_batch.specs.LocalChanges.{key_of, version_after}
use Rattle.merge_batch.specs.Replies.{broken_by_reply, grant_fits, granted_article}
use Rattle.merge_batch.specs.Search.{are_distinct}
use Rattle.merge_batch.specs.declared.refusal.Refusal.{Refusal}
use Rattle.merge_batch.specs.declared.reply.RangeGrant.{RangeGrant}
use Rattle.merge_batch.specs.declared.reply.Ranged.{Ranged}
use Rattle.merge_batch.specs.declared.reply.Reply.{Reply}
use Rattle.merge_batch.specs.declared.reply.Reply.TheVariants as reply
use Rattle.merge_batch.specs.declared.request.Download.{Download}
use Rattle.merge_batch.specs.declared.request.Join.{Join}
use Rattle.merge_batch.specs.declared.request.Outstanding.TheVariants as ask
use Rattle.merge_batch.specs.declared.request.Outstanding.{Outstanding}
use Rattle.merge_batch.specs.declared.request.RangeAsk.{RangeAsk}
use Rattle.merge_batch.specs.declared.request.Upload.{Upload}
use Rattle.merge_record.specs.Versions.{IsValue}
use Rattle.merge_model.specs.World.Faults.{reply_fault}
use Rattle.merge_model.specs.Judge.{SubscriberJudge}
use Rattle.merge_model.specs.Tables.Keys.{at_number, put_number}
use Rattle.merge_model.specs.Tables.Refusals.{counter_end}
use Rattle.merge_model.specs.Subscriber.Reinit.{reinitialise, result_of_reinit}
use Rattle.merge_model.specs.Subscriber.Sending.{join_made, join_of, make_ask, make_join, make_ranges, make_upload, ranges_made, sending_refusal, unsent_rows, upload_made, upload_sent, want_of, with_message}
use Rattle.merge_model.specs.Subscriber.{close_subscriber_generation, subscriber_at_moment, subscriber_closed, subscriber_counters, subscriber_drawn, subscriber_last_closed, subscriber_local, subscriber_next_dot, subscriber_version_at, taken_value, with_version_if}
use Rattle.merge_model.specs.Tables.{SubscriberTables}
use Rattle.merge_model.specs.Subscriber.Taking.{after_reply, take_reply, with_grant}
use Rattle.merge_model.proofs.Lists.Finding.{at_put_other}
use Rattle.merge_model.proofs.Lists.{OfSome}
use Rattle.merge_typed.specs.Messages.{ToldIsTyped, told_range}
use Rattle.merge_typed.proofs.Calls.{ok-of, reply-ok, sub-local-ok, unless-ok}
use Rattle.merge_typed.proofs.Entries.{values-found, values-put}
use Rattle.merge_typed.proofs.Holders.{HolderFits, receive-fits, take-fits, value-fits}

abbrev pub HeldFits : List (ℕ × Holder) → Type 0
HeldFits held = AllByRecursion (λ (entry : ℕ × Holder). HolderFits entry.1) held

abbrev pub SubscriberRanges : SubscriberTables → Type 0
SubscriberRanges s = HeldFits s.held

-- Identity values.

pub record SubscriberDrew (d : Value × List (ℕ × Holder)) : Type 0 where
  pub value : IsValue d.0
  pub held : HeldFits d.1

value-taken : (s : SubscriberTables) (article : ℕ) (holder : Holder) (result : Result ℤ IdentityEnd) → IfOk result (λ value. FitsSigned w64 value) → HolderFits holder → SubscriberRanges s → IfOk (taken_value s article holder result) SubscriberDrew
value-taken s article holder (Ok value) fits own r = record { value = fits; held = values-put HolderFits nat_cmp article (after_take holder) s.held (take-fits holder own) r }
value-taken s article holder (Err used_up) fits own r = tt

found-drawn : (s : SubscriberTables) (article : ℕ) (found : Option Holder) → OfSome HolderFits found → SubscriberRanges s
    → (let draw : Result (Value × List (ℕ × Holder)) Refusal = elim found [ None ↦ Ok (Null, s.held) | Some holder ↦ taken_value s article holder (answer_to_take holder) ] in IfOk draw SubscriberDrew)
found-drawn s article None own r = record { value = tt; held = r }
found-drawn s article (Some holder) own r = value-taken s article holder (answer_to_take holder) (value-fits holder own) own r

pub sub-draws : (s : SubscriberTables) (change : Change) → SubscriberRanges s → IfOk (subscriber_drawn s change) SubscriberDrew
sub-draws s (Insert article settings) r = found-drawn s article (at_number s.held article) (values-found HolderFits (is_at (nat_cmp article)) s.held r) r
sub-draws s (Update article row settings) r = record { value = tt; held = r }
sub-draws s (Delete article row) r = record { value = tt; held = r }

-- Ranges that are received: the article of each was asked for, and no two are of one article.

abbrev heard_in : List (ℕ × Holder) → ℕ → Option ℕ
heard_in held article = option_map (λ (holder : Holder). holder.have) (at_number held article)

number-by : (told : RangeGrant) (have : ℕ) (found : Option ℕ) → found ≡ Some have → (option_map_or (λ (h : ℕ). told.number == h + 1) found false && int_le told.begin told.end) ≡ true → told.number ≡ have + 1
number-by told have None is fits = absurd cc
number-by told have (Some h) is fits = let same : h ≡ have = cc in let next : (told.number == h + 1) ≡ true = grind (arith, fits) in let number : told.number ≡ h + 1 = grind (arith, nat_tests, next) in omega (arith, same, number)

values-by : (told : RangeGrant) (b : Bool) → (b && int_le told.begin told.end) ≡ true → told.begin ≤ℤ told.end
values-by told b fits = grind (arith, ints, nat_tests, fits)

some-fits : (holder : Holder) (found : Option Holder) → found ≡ Some holder → OfSome HolderFits found → HolderFits holder
some-fits holder found is fits = subst (λ (o : Option Holder). OfSome HolderFits o) is fits

one-received : (held : List (ℕ × Holder)) (told : RangeGrant) (found : Option Holder) → at_number held told.article ≡ found → grant_fits (heard_in held) told ≡ true → ToldIsTyped told → HeldFits held
    → (let after : List (ℕ × Holder) = elim found [ None ↦ held | Some holder ↦ put_number held told.article (after_receive holder (told_range told)) ] in HeldFits after)
one-received held told None at fits is all = all
one-received held told (Some holder) at fits is all =
    let heard : heard_in held told.article ≡ Some holder.have = ap (λ (o : Option Holder). option_map (λ (h : Holder). h.have) o) at in
    let number = number-by told holder.have (heard_in held told.article) heard fits in
    let some = values-by told (option_map_or (λ (h : ℕ). told.number == h + 1) (heard_in held told.article) false) fits in
    let low = is.1 in
    values-put HolderFits nat_cmp told.article (after_receive holder (told_range told)) held
    (receive-fits holder (told_range told) is.0 some (omega (arith, number, low)) (some-fits holder (at_number held told.article) at (values-found HolderFits (is_at (nat_cmp told.article)) held all))) all

-- the others tell of other articles
heard-other : (held : List (ℕ × Holder)) (told : RangeGrant) (found : Option Holder) (article : ℕ) → (article ≡ told.article → ⊥)
    → (let after : List (ℕ × Holder) = elim found [ None ↦ held | Some holder ↦ put_number held told.article (after_receive holder (told_range told)) ] in heard_in after article ≡ heard_in held article)
heard-other held told None article differs = refl
heard-other held told (Some holder) article differs = ap (λ (o : Option Holder). option_map (λ (h : Holder). h.have) o) (at_put_other told.article article (after_receive holder (told_range told)) held differs)

fits-other : (before after : ℕ → Option ℕ) (told : RangeGrant) → after told.article ≡ before told.article → grant_fits before told ≡ true → grant_fits after told ≡ true
fits-other before after told same fits = grind (arith, nat_tests, same, fits)

others-fit : (before after : ℕ → Option ℕ) (article : ℕ) → ((other : ℕ) → (other ≡ article → ⊥) → after other ≡ before other) → (told : List RangeGrant) → list_any (λ (m : ℕ). m == article) (map granted_article told) ≡ false
    → list_all (grant_fits before) told ≡ true → list_all (grant_fits after) told ≡ true
others-fit before after article same [] none fits = refl
others-fit before after article same (first ∷ told) none fits =
    let differs : first.article ≡ article → ⊥ = λ e. grind (arith, nat_tests, none, e) in
    let now : grant_fits after first ≡ true = fits-other before after first (same first.article differs) (grind (arith, fits)) in
    let rest : list_all (grant_fits after) told ≡ true = others-fit before after article same told (grind (arith, none)) (grind (arith, fits)) in
    grind (arith, now, rest)

all-received : (told : List RangeGrant) (held : List (ℕ × Holder)) → list_all (grant_fits (heard_in held)) told ≡ true → are_distinct (map granted_article told) ≡ true → AllByRecursion ToldIsTyped told → HeldFits held → HeldFits (fold with_grant held told)
all-received [] held fits distinct all holds = holds
all-received (first ∷ told) held fits distinct all holds =
    all-received told (with_grant held first)
    (others-fit (heard_in held) (heard_in (with_grant held first)) first.article (λ other differs. heard-other held first (at_number held first.article) other differs) told (grind (arith, distinct)) (grind (arith, fits)))
    (grind (arith, distinct)) all.1 (one-received held first (at_number held first.article) refl (grind (arith, fits)) all.0 holds)

-- what makes a reply fit
ranged-fits : (publication : Publication) (sent : Outstanding) (m : Ranged) (s : SubscriberTables) → reply_fault publication sent (reply.Ranged m) s ≡ None
    → (list_all (grant_fits (heard_in s.held)) m.grants ≡ true) × (are_distinct (map granted_article m.grants) ≡ true)
unfolding broken_by_reply
ranged-fits publication ask.Ranges m s e = (grind (arith, e), grind (arith, e))
ranged-fits publication ask.Join m s e = absurd (grind (arith, e))
ranged-fits publication (ask.Upload from to) m s e = absurd (grind (arith, e))
ranged-fits publication (ask.Download from) m s e = absurd (grind (arith, e))

abbrev pub ReplyRanges : Reply → Type 0
ReplyRanges (reply.Ranged m) = AllByRecursion ToldIsTyped m.grants
ReplyRanges m = Unit {0}

after : (publication : Publication) (judge : SubscriberJudge) (sent : Outstanding) (m : Reply) (s t : SubscriberTables) → t.held ≡ s.held → reply_fault publication sent m s ≡ None → ReplyRanges m → SubscriberRanges s → SubscriberRanges (after_reply judge m t)
after publication judge sent (reply.Ranged m) s t same fine is r = (let fits = ranged-fits publication sent m s fine in subst (λ (held : List (ℕ × Holder)). HeldFits (fold with_grant held m.grants)) (sym same) (all-received m.grants s.held fits.0 fits.1 is r))
after publication judge sent (reply.Joined m) s t same fine is r = subst HeldFits (sym same) r
after publication judge sent (reply.Uploaded m) s t same fine is r = subst HeldFits (sym same) r
after publication judge sent (reply.Downloaded m) s t same fine is r = subst HeldFits (sym same) r
after publication judge sent (reply.Refused number values) s t same fine is r = subst HeldFits (sym same) r

-- The calls.

abbrev Sent : {X : Type 0} → Option (SubscriberTables × X) → Type 0
Sent made = IfSome made (λ x. SubscriberRanges x.0 × Unit {0})

version-if : (key : Key) (found : Option Version) (s : SubscriberTables) → SubscriberRanges s → SubscriberRanges (with_version_if key found s)
version-if key None s r = r
version-if key (Some version) s r = r

joined-by : (s : SubscriberTables) (b : Bool) → SubscriberRanges s → (let made : Option (SubscriberTables × Join) = if b then None else Some (with_message ask.Join s, join_of s) in Sent made)
joined-by s true r = tt
joined-by s false r = (r, tt)

ranged-by : (s : SubscriberTables) (held : List (ℕ × Holder)) → SubscriberRanges s
    → (let made : Option (SubscriberTables × RangeAsk) = elim held [ [] ↦ None | entry ∷ entries ↦ Some (with_message ask.Ranges s, record { site = s.site; seq = s.seq + 1; wants = map want_of s.held }) ] in Sent made)
ranged-by s [] r = tt
ranged-by s (entry ∷ entries) r = (r, tt)

uploaded-by : (judge : SubscriberJudge) (now : Moment) (s : SubscriberTables) (unsent : List (Key × ℕ)) → SubscriberRanges s
    → (let made : Option (SubscriberTables × Upload) = elim unsent [ [] ↦ None | row ∷ rows ↦ Some (upload_sent judge (subscriber_closed (subscriber_at_moment now s))) ] in Sent made)
uploaded-by judge now s [] r = tt
uploaded-by judge now s (row ∷ rows) r = (r, tt)

module _ (s : SubscriberTables) (r : SubscriberRanges s) where
  pub ranges-sub-local : (publication : Publication) (now : Moment) (change : Change) → IfOk (subscriber_local publication now change s) (λ done. SubscriberRanges done.0)
  ranges-sub-local publication now change = sub-local-ok publication now change s SubscriberRanges
      (λ fine d is. (let c : SubscriberTables = subscriber_at_moment now s in
      version-if (key_of (subscriber_next_dot s) change) (version_after publication (subscriber_next_dot s) d.0 change (subscriber_version_at s (key_of (subscriber_next_dot s) change))) (record c { changes = c.changes + 1; held = d.1 }) (ok-of SubscriberDrew (subscriber_drawn s change) d (sub-draws s change r) is).held))

  pub ranges-sub-closed : (now : Moment) → IfOk (close_subscriber_generation now s) (λ done. SubscriberRanges done.0)
  ranges-sub-closed now = unless-ok (λ (done : SubscriberTables × ℕ). SubscriberRanges done.0) (counter_end (subscriber_counters s)) (subscriber_closed (subscriber_at_moment now s), subscriber_last_closed (subscriber_closed (subscriber_at_moment now s))) (λ fine. r)

  pub ranges-join : IfOk (make_join s) (λ made. IfSome made (λ x. SubscriberRanges x.0 × Unit {0}))
  ranges-join = unless-ok (λ (made : Option (SubscriberTables × Join)). Sent made) (counter_end (subscriber_counters s)) (join_made s) (λ fine. joined-by s s.is_joined r)

  pub ranges-upload : (judge : SubscriberJudge) (now : Moment) → IfOk (make_upload judge now s) (λ made. IfSome made (λ x. SubscriberRanges x.0 × Unit {0}))
  ranges-upload judge now = unless-ok (λ (made : Option (SubscriberTables × Upload)). Sent made) (sending_refusal s) (upload_made judge now s) (λ fine. uploaded-by judge now s (unsent_rows judge s) r)

  pub ranges-ranges : IfOk (make_ranges s) (λ made. IfSome made (λ x. SubscriberRanges x.0 × Unit {0}))
  ranges-ranges = unless-ok (λ (made : Option (SubscriberTables × RangeAsk)). Sent made) (sending_refusal s) (ranges_made s) (λ fine. ranged-by s s.held r)

  pub ranges-ask : IfOk (make_ask s) (λ done. SubscriberRanges done.0 × Unit {0})
  ranges-ask = unless-ok (λ (done : SubscriberTables × Download). SubscriberRanges done.0 × Unit {0}) (sending_refusal s) (with_message (ask.Download s.watermark) s, record { site = s.site; seq = s.seq + 1; from = s.watermark }) (λ fine. (r, tt))

  pub ranges-reply : (publication : Publication) (judge : SubscriberJudge) (now : Moment) (m : Reply) → ReplyRanges m → IfOk (take_reply publication judge now m s) (λ done. SubscriberRanges done.0)
  ranges-reply publication judge now m is = reply-ok publication judge now s SubscriberRanges r m (λ sent fine. after publication judge sent m s (record (subscriber_at_moment now s) { outstanding = None }) refl fine is r)

  pub ranges-anew : (judge : SubscriberJudge) (now : Moment) → IfOk (reinitialise judge now s) (λ done. SubscriberRanges done.0)
  ranges-anew judge now = unless-ok (λ (done : SubscriberTables × ℕ). SubscriberRanges done.0) (counter_end (subscriber_counters s)) (result_of_reinit judge (subscriber_at_moment now s)) (λ fine. r)
