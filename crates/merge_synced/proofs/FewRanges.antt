-- A subscriber holds identity ranges of few articles: each article comes once, and a publication has at most 32.
use Rattle.std.specs.BTreeMap.{is_at}
use Rattle.std.specs.List.{cons_option, enumerate_from, fold}
use Rattle.std.specs.Ordering.{match_ordering, nat_cmp}
use Rattle.std.specs.Prelude.{Bool, Err, IfOk, List, None, Ok, Option, Result, Some, [], cond, false, filter_map, length, map, option_map, refl, true, ◌+◌, ◌<◌, ◌≡◌, ◌≤◌, ◌∷◌, ℕ, ℤ}
use Rattle.std.specs.declared.cmp.Ordering.{Ordering}
use Rattle.std.specs.declared.cmp.Ordering.TheVariants.{Equal, Greater, Less}
use Rattle.std.proofs.Common.{arith, subst, sym}
use Rattle.std.proofs.lemmas.Bool.Decides.{nat_tests}
use Rattle.merge_types.specs.declared.changes.Change.{Change}
use Rattle.merge_types.specs.declared.changes.Change.TheVariants.{Delete, Insert, Update}
use Rattle.merge_types.specs.declared.row_key.RowKey.{RowKey as Key}
use Rattle.merge_types.specs.declared.values.Value.{Value}
use Rattle.merge_types.specs.declared.values.Value.TheVariants.{Null}
use Rattle.merge_units.specs.declared.version.Version.{Version}
use Rattle.merge_ident.specs.Holders.{Holder, after_receive, after_take, answer_to_take}
use Rattle.merge_ident.specs.declared.ranges.IdentityUsedUp.{IdentityUsedUp as IdentityEnd}
use Rattle.merge_schema.specs.Valid.{IsValid}
use Rattle.merge_schema.specs.declared.publication.Article.{Article}
use Rattle.merge_schema.specs.declared.publication.Identity.{Identity}
use Rattle.merge_schema.specs.declared.publication.Publication.{Publication}
use Rattle.merge_batch.specs.declared.refusal.Refusal.{Refusal}
use Rattle.merge_batch.specs.declared.reply.RangeGrant.{RangeGrant}
use Rattle.merge_batch.specs.declared.reply.Reply.{Reply}
use Rattle.merge_batch.specs.declared.reply.Reply.TheVariants as reply
use Rattle.merge_batch.specs.declared.request.Outstanding.TheVariants as ask
use Rattle.merge_model.specs.Failing.{Slips}
use Rattle.merge_model.specs.Failing.Runs.{model_behind_actions}
use Rattle.merge_model.specs.History.{History, no_history}
use Rattle.merge_model.specs.History.Model.{Model, model_step}
use Rattle.merge_model.specs.Judge.ByHistory.{by_made}
use Rattle.merge_model.specs.Judge.{SubscriberJudge}
use Rattle.merge_model.specs.Publisher.{holder_for}
use Rattle.merge_model.specs.Subscriber.Reinit.{result_of_reinit}
use Rattle.merge_model.specs.Subscriber.Sending.{upload_sent, with_message}
use Rattle.merge_model.specs.Subscriber.Taking.{tables_after_reply, with_grant}
use Rattle.merge_model.specs.Subscriber.{subscriber_at_moment, subscriber_closed, subscriber_drawn, subscriber_made_locally, taken_value, with_version_if}
use Rattle.merge_model.specs.Tables.Keys.{at_number, put_number}
use Rattle.merge_model.specs.Tables.Publications.{identity_of}
use Rattle.merge_model.specs.Tables.{SubscriberTables}
use Rattle.merge_model.specs.World.Steps.{Action}
use Rattle.merge_model.specs.World.{Saying, World, empty_world, with_subscriber}
use Rattle.merge_laws.proofs.Received.Models.{begins-with}
use Rattle.merge_laws.proofs.Runs.Ground.{Ground, grounded-by-actions}
use Rattle.merge_laws.proofs.Walking.{StepsKeep, step-keeps}
use Rattle.merge_owed.proofs.HeldThresholds.{version-held}
use Rattle.merge_honest.proofs.PutFound.{put-each}

-- the articles rise, from this one on, and are below 32
abbrev pub Rises : ℕ → List (ℕ × Holder) → Type 0
Rises low [] = low ≤ 32
Rises low (entry ∷ rest) = (low ≤ entry.0) × Rises (entry.0 + 1) rest

pub rises-few : (low : ℕ) (held : List (ℕ × Holder)) → Rises low held → length held + low ≤ 32
rises-few low [] rises = omega (arith, rises)
rises-few low (entry ∷ rest) rises =
    let from = rises.0 in
    let few = rises-few (entry.0 + 1) rest rises.1 in
    omega (arith, from, few)

rises-lower : (low high : ℕ) (held : List (ℕ × Holder)) → low ≤ high → Rises high held → Rises low held
rises-lower low high [] below rises = omega (arith, below, rises)
rises-lower low high (entry ∷ rest) below rises = (let from = rises.0 in omega (arith, below, from), rises.1)

-- What is found is of an article between.

found-by : (b : Bool) (low article : ℕ) (entry : ℕ × Holder) (rest : Option Holder) (holder : Holder) → is_at (nat_cmp article) entry.0 ≡ b → low ≤ entry.0 → entry.0 < 32 → (rest ≡ Some holder → (entry.0 + 1 ≤ article) × (article < 32))
    → (let found : Option Holder = cond b (Some entry.1) rest in found) ≡ Some holder → (low ≤ article) × (article < 32)
found-by true low article entry rest holder is from below later at = (let same : article ≡ entry.0 = grind (arith, nat_tests, is) in (omega (arith, same, from), omega (arith, same, below)))
found-by false low article entry rest holder is from below later at = (let past = later at in let above = past.0 in (omega (arith, above, from), past.1))

found-between : (low article : ℕ) (holder : Holder) (held : List (ℕ × Holder)) → Rises low held → at_number held article ≡ Some holder → (low ≤ article) × (article < 32)
found-between low article holder [] rises at = absurd cc
found-between low article holder (entry ∷ rest) rises at =
    let few = rises-few (entry.0 + 1) rest rises.1 in
    found-by (is_at (nat_cmp article) entry.0) low article entry (at_number rest article) holder refl rises.0 (omega (arith, few)) (found-between (entry.0 + 1) article holder rest rises.1) at

-- One that is there is put.

put-by : (o : Ordering) (low article : ℕ) (new : Holder) (entry : ℕ × Holder) (rest put : List (ℕ × Holder)) → nat_cmp article entry.0 ≡ o → low ≤ article → Rises low (entry ∷ rest) → (entry.0 + 1 ≤ article → Rises (entry.0 + 1) put)
    → Rises low (match_ordering o ((article, new) ∷ entry ∷ rest) ((entry.0, new) ∷ rest) (entry ∷ put))
put-by Less low article new entry rest put is from rises later = (let less : article < entry.0 = grind (arith, nat_tests, is) in (from, (omega (arith, less), rises.1)))
put-by Equal low article new entry rest put is from rises later = (rises.0, rises.1)
put-by Greater low article new entry rest put is from rises later = (let less : entry.0 < article = grind (arith, nat_tests, is) in (rises.0, later (omega (arith, less))))

put-rises : (low article : ℕ) (new : Holder) (held : List (ℕ × Holder)) → low ≤ article → article < 32 → Rises low held → Rises low (put_number held article new)
put-rises low article new [] from below rises = (from, omega (arith, below))
put-rises low article new (entry ∷ rest) from below rises = put-by (nat_cmp article entry.0) low article new entry rest (put_number rest article new) refl from rises (λ above. put-rises (entry.0 + 1) article new rest above below rises.1)

few-put : (held : List (ℕ × Holder)) (article : ℕ) (new holder : Holder) → at_number held article ≡ Some holder → Rises 0 held → Rises 0 (put_number held article new)
few-put held article new holder at few = (let between = found-between 0 article holder held few at in put-rises 0 article new held between.0 between.1 few)

-- An insert takes a value.

value-taken : (s : SubscriberTables) (article : ℕ) (holder : Holder) (result : Result ℤ IdentityEnd) → at_number s.held article ≡ Some holder → Rises 0 s.held → IfOk (taken_value s article holder result) (λ d. Rises 0 d.1)
value-taken s article holder (Ok value) at few = few-put s.held article (after_take holder) holder at few
value-taken s article holder (Err used_up) at few = tt

found-drawn : (s : SubscriberTables) (article : ℕ) (found : Option Holder) → at_number s.held article ≡ found → Rises 0 s.held
    → (let draw : Result (Value × List (ℕ × Holder)) Refusal = elim found [ None ↦ Ok (Null, s.held) | Some holder ↦ taken_value s article holder (answer_to_take holder) ] in IfOk draw (λ d. Rises 0 d.1))
found-drawn s article None at few = few
found-drawn s article (Some holder) at few = value-taken s article holder (answer_to_take holder) at few

draw-keeps : (s : SubscriberTables) (change : Change) → Rises 0 s.held → IfOk (subscriber_drawn s change) (λ d. Rises 0 d.1)
draw-keeps s (Insert article settings) few = found-drawn s article (at_number s.held article) refl few
draw-keeps s (Update article row settings) few = few
draw-keeps s (Delete article row) few = few

-- Ranges are received.

found-granted : (held : List (ℕ × Holder)) (grant : RangeGrant) (found : Option Holder) → at_number held grant.article ≡ found → Rises 0 held
    → (let after : List (ℕ × Holder) = elim found [ None ↦ held | Some holder ↦ put_number held grant.article (after_receive holder (record { begin = grant.begin; end = grant.end })) ] in Rises 0 after)
found-granted held grant None at few = few
found-granted held grant (Some holder) at few = few-put held grant.article (after_receive holder (record { begin = grant.begin; end = grant.end })) holder at few

granted : (grants : List RangeGrant) (held : List (ℕ × Holder)) → Rises 0 held → Rises 0 (fold with_grant held grants)
granted [] held few = few
granted (grant ∷ grants) held few = granted grants (with_grant held grant) (found-granted held grant (at_number held grant.article) refl few)

reply-held : (judge : SubscriberJudge) (w : World) (m : Reply) (s : SubscriberTables) → Rises 0 s.held → Rises 0 (tables_after_reply judge w.moment m s).held
reply-held judge w (reply.Joined m) s few = few
reply-held judge w (reply.Uploaded m) s few = few
reply-held judge w (reply.Ranged m) s few = granted m.grants s.held few
reply-held judge w (reply.Downloaded m) s few = few
reply-held judge w (reply.Refused number values) s few = few

-- Of all subscribers.
abbrev pub HaveFew : World → History → Type 0
HaveFew w h = (n : ℕ) (s : SubscriberTables) → at_number w.subscribers n ≡ Some s → Rises 0 s.held

on-subscriber : (w : World) (h : History) (t : SubscriberTables) → HaveFew w h → Rises 0 t.held → HaveFew (with_subscriber t w) h
on-subscriber w h t all new = put-each (λ (n : ℕ) (x : SubscriberTables). Rises 0 x.held) w.subscribers t t refl new all

few-keep : (publication : Publication) (says : Saying) → StepsKeep publication says (Ground publication) HaveFew
few-keep publication says = record {
  moment = λ w h now g p. p;
  own_change = λ w h change d g p fine is. p;
  own_closing = λ w h g p. p;
  forgetting = λ w h g p. p;
  same = λ w h s g p at. on-subscriber w h s p (p s.site.0 s at);
  subscriber_change = λ w h s change d g p at named fine is. on-subscriber w h (subscriber_made_locally publication change d (subscriber_at_moment w.moment s)).0 p
      (subst (λ (held : List (ℕ × Holder)). Rises 0 held) (sym (version-held _ _ _)) (subst (λ (draw : Result (Value × List (ℕ × Holder)) Refusal). IfOk draw (λ x. Rises 0 x.1)) is (draw-keeps s change (p s.site.0 s at))));
  subscriber_closing = λ w h s g p at. on-subscriber w h (subscriber_closed (subscriber_at_moment w.moment s)) p (p s.site.0 s at);
  anew = λ w h s g p at. on-subscriber w h (result_of_reinit (by_made h s.site) (subscriber_at_moment w.moment s)).0 p (p s.site.0 s at);
  sends_join = λ w h s g p at joining. on-subscriber w h (with_message ask.Join s) p (p s.site.0 s at);
  sends_upload = λ w h s g p at fine. on-subscriber w h (upload_sent (by_made h s.site) (subscriber_closed (subscriber_at_moment w.moment s))).0 p (p s.site.0 s at);
  sends_ranges = λ w h s g p at fine. on-subscriber w h (with_message ask.Ranges s) p (p s.site.0 s at);
  sends_ask = λ w h s g p at fine. on-subscriber w h (with_message (ask.Download s.watermark) s) p (p s.site.0 s at);
  joins = λ w h number m g p at fine acts. p;
  joins_again = λ w h number m g p at acts. p;
  uploads = λ w h number m g p at fine news. p;
  uploads_again = λ w h number m g p at none. p;
  answers_ranges = λ w h site m g p. p;
  answers_ask = λ w h number site m g p at fine. p;
  replies = λ w h s number m sent g p at there out none. on-subscriber w h (tables_after_reply (by_made h s.site) w.moment m s) p (reply-held (by_made h s.site) w m s (p s.site.0 s at));
}

pub few-step : (publication : Publication) (says : Saying) (m : Model) (action : Action) → Ground publication m.world m.history → HaveFew m.world m.history → (let n : Model = (model_step publication says m action).0 in HaveFew n.world n.history)
few-step publication says m action g p = step-keeps publication says (Ground publication) HaveFew (λ w h ground. ground.received) (few-keep publication says) m action g p

-- How it begins: with the articles of the publication that have an identity column.

identity-new : (place : ℕ) (found : Option Identity) (rest : List (ℕ × Identity)) → Rises (place + 1) (map holder_for rest) → Rises place (map holder_for (cons_option (option_map (λ (identity : Identity). (place, identity)) found) rest))
identity-new place None rest rises = rises-lower place (place + 1) (map holder_for rest) (omega arith) rises
identity-new place (Some identity) rest rises = (omega arith, rises)

articles-new : (articles : List Article) (place : ℕ) → length articles + place ≤ 32 → Rises place (map holder_for (filter_map identity_of (enumerate_from place articles)))
articles-new [] place few = omega (arith, few)
articles-new (article ∷ articles) place few = identity-new place article.identity (filter_map identity_of (enumerate_from (place + 1) articles)) (articles-new articles (place + 1) (omega (arith, few)))

few-begin : (resolvers : ℕ) (publication : Publication) → IsValid resolvers publication → (tallies : List ℕ) → HaveFew (empty_world publication tallies) no_history
few-begin resolvers publication valid tallies n s at =
    let most = valid.some_articles.1 in
    begins-with publication (λ (k : ℕ) (t : SubscriberTables). Rises 0 t.held) (λ k site keyed. articles-new publication.articles 0 (omega (arith, most))) n s at

pub few-by-actions : (publication : Publication) (says : Saying) (tallies : List ℕ) (slips : Slips) (actions : List Action) → (valid : (resolvers : ℕ) × IsValid resolvers publication) → (let m : Model = model_behind_actions publication says tallies slips actions in HaveFew m.world m.history)
few-by-actions publication says tallies slips actions valid =
    (grounded-by-actions publication says tallies slips actions valid HaveFew (λ m action g p. few-step publication says m action g p) (λ w h others p. p) (few-begin valid.0 publication valid.1 tallies)).1
