-- What a subscriber holds of identity ranges keeps its article's threshold, which is at least a hundredth.
use Rattle.std.specs.List.{cons_option, enumerate_from, fold}
use Rattle.std.specs.Prelude.{All, Bool, Err, IfOk, List, None, Ok, Option, Result, Some, [], cond, false, filter_map, map, option_map, refl, true, ◌+◌, ◌==◌, ◌≡◌, ◌≤◌, ◌∷◌, ℕ, ℤ}
use Rattle.std.specs.BTreeMap.{is_at}
use Rattle.std.specs.Ordering.{nat_cmp}
use Rattle.std.proofs.Common.{ap, subst, sym, ◌∙◌}
use Rattle.std.proofs.lemmas.List.Elements.{All-head, All-tail}
use Rattle.merge_types.specs.declared.changes.Change.{Change}
use Rattle.merge_types.specs.declared.changes.Change.TheVariants.{Delete, Insert, Update}
use Rattle.merge_types.specs.declared.row_key.RowKey.{RowKey as Key}
use Rattle.merge_types.specs.declared.values.Column.{Column}
use Rattle.merge_types.specs.declared.values.Value.{Value}
use Rattle.merge_types.specs.declared.values.Value.TheVariants.{Null}
use Rattle.merge_units.specs.declared.version.Version.{Version}
use Rattle.merge_ident.specs.Holders.{Holder, after_receive, after_take, answer_to_take}
use Rattle.merge_ident.specs.declared.ranges.IdentityUsedUp.{IdentityUsedUp as IdentityEnd}
use Rattle.merge_schema.specs.Valid.{HasValidIdentity, IsValid, IsValidArticle}
use Rattle.merge_schema.specs.declared.publication.Article.{Article}
use Rattle.merge_schema.specs.declared.publication.Identity.{Identity}
use Rattle.merge_schema.specs.declared.publication.Publication.{Publication}
use Rattle.merge_batch.specs.declared.refusal.Refusal.{Refusal}
use Rattle.merge_batch.specs.declared.reply.RangeGrant.{RangeGrant}
use Rattle.merge_batch.specs.declared.reply.Reply.TheVariants as reply
use Rattle.merge_model.specs.Judge.ByHistory.{by_made}
use Rattle.merge_model.specs.Failing.{Slips}
use Rattle.merge_model.specs.History.{History, no_history}
use Rattle.merge_model.specs.Judge.{SubscriberJudge}
use Rattle.merge_model.specs.Tables.Keys.{at_number, put_number}
use Rattle.merge_model.specs.Tables.Publications.{identity_of}
use Rattle.merge_model.specs.Publisher.{holder_for}
use Rattle.merge_model.specs.Subscriber.Reinit.{result_of_reinit}
use Rattle.merge_model.specs.History.Model.{Model}
use Rattle.merge_model.specs.Failing.Runs.{model_behind, model_behind_actions}
use Rattle.merge_model.specs.Subscriber.Sending.{upload_sent, with_message}
use Rattle.merge_model.specs.Subscriber.{subscriber_at_moment, subscriber_closed, subscriber_drawn, subscriber_made_locally, taken_value, with_version_if}
use Rattle.merge_model.specs.Tables.{SubscriberTables}
use Rattle.merge_model.specs.Subscriber.Taking.{tables_after_reply, with_grant}
use Rattle.merge_model.specs.World.{Saying, World, empty_world, with_subscriber}
use Rattle.merge_model.specs.declared.event.Event.{Event}
use Rattle.merge_batch.specs.declared.reply.Reply.{Reply}
use Rattle.merge_batch.specs.declared.request.Outstanding.TheVariants as ask
use Rattle.merge_model.proofs.Lists.Finding.{at_put_other, at_put_same, some_same}
use Rattle.merge_model.specs.World.Steps.{Action}
use Rattle.merge_laws.proofs.Runs.Ground.{Ground, grounded-by-actions}
use Rattle.merge_laws.proofs.Received.Models.{begins-with}
use Rattle.merge_laws.proofs.Received.Subscribing.{number-decided, same_number}
use Rattle.merge_laws.proofs.Told.ToldSites.{put-here}
use Rattle.merge_laws.proofs.Walking.{StepsKeep, step-keeps}
use Rattle.merge_laws.proofs.Runs.OfActions.{of-events}

-- of each article
abbrev pub AreThresholds : List (ℕ × Holder) → Type 0
AreThresholds held = (article : ℕ) (holder : Holder) → at_number held article ≡ Some holder → 1 ≤ holder.threshold

put-by : (held : List (ℕ × Holder)) (article n : ℕ) (new holder : Holder) (b : Bool) → same_number n article b → 1 ≤ new.threshold → AreThresholds held → at_number (put_number held article new) n ≡ Some holder → 1 ≤ holder.threshold
put-by held article n new holder true same low all at =
    let is : new ≡ holder = some_same new holder (sym (ap (λ (k : ℕ). at_number (put_number held article new) k) same ∙ at_put_same article new held) ∙ at) in
    subst (λ (h : Holder). 1 ≤ h.threshold) is low
put-by held article n new holder false differs low all at = all n holder (sym (at_put_other article n new held differs) ∙ at)

pub thresholds-put : (held : List (ℕ × Holder)) (article : ℕ) (new : Holder) → 1 ≤ new.threshold → AreThresholds held → AreThresholds (put_number held article new)
thresholds-put held article new low all n holder at = put-by held article n new holder (n == article) (number-decided n article) low all at

-- An insert takes a value.

value-taken : (s : SubscriberTables) (article : ℕ) (holder : Holder) (result : Result ℤ IdentityEnd) → 1 ≤ holder.threshold → AreThresholds s.held → IfOk (taken_value s article holder result) (λ d. AreThresholds d.1)
value-taken s article holder (Ok value) low all = thresholds-put s.held article (after_take holder) low all
value-taken s article holder (Err used_up) low all = tt

found-drawn : (s : SubscriberTables) (article : ℕ) (found : Option Holder) → at_number s.held article ≡ found → AreThresholds s.held
    → (let draw : Result (Value × List (ℕ × Holder)) Refusal = elim found [ None ↦ Ok (Null, s.held) | Some holder ↦ taken_value s article holder (answer_to_take holder) ] in IfOk draw (λ d. AreThresholds d.1))
found-drawn s article None at all = all
found-drawn s article (Some holder) at all = value-taken s article holder (answer_to_take holder) (all article holder at) all

draw-keeps : (s : SubscriberTables) (change : Change) → AreThresholds s.held → IfOk (subscriber_drawn s change) (λ d. AreThresholds d.1)
draw-keeps s (Insert article settings) all = found-drawn s article (at_number s.held article) refl all
draw-keeps s (Update article row settings) all = all
draw-keeps s (Delete article row) all = all

pub version-held : (key : Key) (found : Option Version) (u : SubscriberTables) → (with_version_if key found u).held ≡ u.held
version-held key None u = refl
version-held key (Some version) u = refl

-- Ranges are received.

found-granted : (held : List (ℕ × Holder)) (grant : RangeGrant) (found : Option Holder) → at_number held grant.article ≡ found → AreThresholds held
    → (let after : List (ℕ × Holder) = elim found [ None ↦ held | Some holder ↦ put_number held grant.article (after_receive holder (record { begin = grant.begin; end = grant.end })) ] in AreThresholds after)
found-granted held grant None at all = all
found-granted held grant (Some holder) at all = thresholds-put held grant.article (after_receive holder (record { begin = grant.begin; end = grant.end })) (all grant.article holder at) all

granted : (grants : List RangeGrant) (held : List (ℕ × Holder)) → AreThresholds held → AreThresholds (fold with_grant held grants)
granted [] held all = all
granted (grant ∷ grants) held all = granted grants (with_grant held grant) (found-granted held grant (at_number held grant.article) refl all)

reply-held : (judge : SubscriberJudge) (w : World) (m : Reply) (s : SubscriberTables) → AreThresholds s.held → AreThresholds (tables_after_reply judge w.moment m s).held
reply-held judge w (reply.Joined m) s all = all
reply-held judge w (reply.Uploaded m) s all = all
reply-held judge w (reply.Ranged m) s all = granted m.grants s.held all
reply-held judge w (reply.Downloaded m) s all = all
reply-held judge w (reply.Refused number values) s all = all

-- Of all subscribers.
abbrev pub HaveThresholds : World → History → Type 0
HaveThresholds w h = (n : ℕ) (s : SubscriberTables) → at_number w.subscribers n ≡ Some s → AreThresholds s.held

on-subscriber : (w : World) (h : History) (t : SubscriberTables) → HaveThresholds w h → AreThresholds t.held → HaveThresholds (with_subscriber t w) h
on-subscriber w h t all new n v at = put-here (λ key version past. Unit {0}) w t.site.0 t (λ (m : ℕ) (x : SubscriberTables). AreThresholds x.held) n v (n == t.site.0) (number-decided n t.site.0) new (λ differs there. all n v there) at

thresholds-keep : (publication : Publication) (says : Saying) → StepsKeep publication says (Ground publication) HaveThresholds
thresholds-keep publication says = record {
  moment = λ w h now g p. p;
  own_change = λ w h change d g p fine is. p;
  own_closing = λ w h g p. p;
  forgetting = λ w h g p. p;
  same = λ w h s g p at. on-subscriber w h s p (p s.site.0 s at);
  subscriber_change = λ w h s change d g p at named fine is. on-subscriber w h (subscriber_made_locally publication change d (subscriber_at_moment w.moment s)).0 p
      (subst AreThresholds (sym (version-held _ _ _)) (subst (λ (draw : Result (Value × List (ℕ × Holder)) Refusal). IfOk draw (λ x. AreThresholds x.1)) is (draw-keeps s change (p s.site.0 s at))));
  subscriber_closing = λ w h s g p at. on-subscriber w h (subscriber_closed (subscriber_at_moment w.moment s)) p (p s.site.0 s at);
  anew = λ w h s g p at. on-subscriber w h (result_of_reinit (by_made h s.site) (subscriber_at_moment w.moment s)).0 p (p s.site.0 s at);
  sends_join = λ w h s g p at joining. on-subscriber w h (with_message ask.Join s) p (p s.site.0 s at);
  sends_upload = λ w h s g p at fine. on-subscriber w h (upload_sent (by_made h s.site) (subscriber_closed (subscriber_at_moment w.moment s))).0 p (p s.site.0 s at);
  sends_ranges = λ w h s g p at fine. on-subscriber w h (with_message ask.Ranges s) p (p s.site.0 s at);
  sends_ask = λ w h s g p at fine. on-subscriber w h (with_message (ask.Download s.watermark) s) p (p s.site.0 s at);
  joins = λ w h number m g p at fine acts. p;
  joins_again = λ w h number m g p at acts. p;
  uploads = λ w h number m g p at fine news. p;
  uploads_again = λ w h number m g p at none. p;
  answers_ranges = λ w h site m g p. p;
  answers_ask = λ w h number site m g p at fine. p;
  replies = λ w h s number m sent g p at there out none. on-subscriber w h (tables_after_reply (by_made h s.site) w.moment m s) p (reply-held (by_made h s.site) w m s (p s.site.0 s at));
}

-- How it begins: with the thresholds of the publication.

entry-found : (b : Bool) (first holder : Holder) (rest : Option Holder) → 1 ≤ first.threshold → (rest ≡ Some holder → 1 ≤ holder.threshold) → (let found : Option Holder = cond b (Some first) rest in found) ≡ Some holder → 1 ≤ holder.threshold
entry-found true first holder rest low more at = subst (λ (h : Holder). 1 ≤ h.threshold) (some_same first holder at) low
entry-found false first holder rest low more at = more at

identity-new : (place : ℕ) (columns : List Column) (found : Option Identity) (rest : List (ℕ × Identity)) → HasValidIdentity columns found → AreThresholds (map holder_for rest)
    → AreThresholds (map holder_for (cons_option (option_map (λ (identity : Identity). (place, identity)) found) rest))
identity-new place columns None rest valid all article holder at = all article holder at
identity-new place columns (Some identity) rest valid all article holder at =
    entry-found (is_at (nat_cmp article) place) (holder_for (place, identity)).1 holder (at_number (map holder_for rest) article) valid.1.threshold.0 (all article holder) at

articles-new : (resolvers : ℕ) (all articles : List Article) (place : ℕ) → All (IsValidArticle resolvers all) articles → AreThresholds (map holder_for (filter_map identity_of (enumerate_from place articles)))
articles-new resolvers all [] place valid article holder at = absurd cc
articles-new resolvers all (first ∷ articles) place valid article holder at = identity-new place first.columns first.identity (filter_map identity_of (enumerate_from (place + 1) articles))
    (All-head (IsValidArticle resolvers all) first articles valid).valid_identity (articles-new resolvers all articles (place + 1) (All-tail (IsValidArticle resolvers all) first articles valid)) article holder at

thresholds-begin : (resolvers : ℕ) (publication : Publication) → IsValid resolvers publication → (tallies : List ℕ) → HaveThresholds (empty_world publication tallies) no_history
thresholds-begin resolvers publication valid tallies n s at =
    begins-with publication (λ (k : ℕ) (t : SubscriberTables). AreThresholds t.held) (λ k site keyed. articles-new resolvers publication.articles publication.articles 0 valid.valid_articles) n s at

pub thresholds-by-actions : (publication : Publication) (says : Saying) (tallies : List ℕ) (slips : Slips) (actions : List Action) → (valid : (resolvers : ℕ) × IsValid resolvers publication) → (let m = model_behind_actions publication says tallies slips actions in HaveThresholds m.world m.history)
thresholds-by-actions publication says tallies slips actions valid =
    (grounded-by-actions publication says tallies slips actions valid HaveThresholds
    (λ m action g p. step-keeps publication says (Ground publication) HaveThresholds (λ w h ground. ground.received) (thresholds-keep publication says) m action g p)
    (λ w h others p. p) (thresholds-begin valid.0 publication valid.1 tallies)).1

pub thresholds-always : (publication : Publication) (says : Saying) (tallies : List ℕ) (slips : Slips) (events : List Event) → (valid : (resolvers : ℕ) × IsValid resolvers publication) → (let m = model_behind publication says tallies slips events in HaveThresholds m.world m.history)
thresholds-always publication says tallies slips events valid = of-events publication says tallies slips events (λ (m : Model). HaveThresholds m.world m.history) (λ actions. thresholds-by-actions publication says tallies slips actions valid)
