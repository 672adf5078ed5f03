-- Each call of a subscriber leaves the rules of a start as they were kept.
use Rattle.std.specs.List.{AllByRecursion}
use Rattle.std.specs.Prelude.{All, Bool, Err, IfOk, IfSome, List, None, Ok, Option, Result, Some, [], false, if◌then◌else◌, length, map, option_map, refl, true, ℕ, ◌+◌, ◌<◌, ◌≡◌, ◌≤◌, ◌∷◌}
use Rattle.std.proofs.Common.{arith, subst, sym}
use Rattle.std.proofs.lemmas.Bool.Decides.{nat_tests}
use Rattle.merge_types.specs.Limits.{counter_limit}
use Rattle.merge_types.specs.declared.changes.Change.{Change}
use Rattle.merge_types.specs.declared.identifiers.Moment.{Moment}
use Rattle.merge_types.specs.declared.row_key.RowKey.{RowKey as Key}
use Rattle.merge_types.specs.declared.values.Value.{Value}
use Rattle.merge_units.specs.declared.site_row.SubscriberRow.{SubscriberRow}
use Rattle.merge_units.specs.declared.version.Version.{Version}
use Rattle.merge_ident.specs.Books.{IsRule}
use Rattle.merge_ident.specs.Holders.{Holder}
use Rattle.merge_schema.specs.Places.{is_subscription}
use Rattle.merge_schema.specs.Valid.{IsValid}
use Rattle.merge_schema.specs.declared.publication.Publication.{Publication}
use Rattle.merge_batch.specs.Articles.{has_article}
use Rattle.merge_batch.specs.Lineages.{is_site}
use Rattle.merge_batch.specs.LocalChanges.{article_of, change_refusal, key_of, version_after}
use Rattle.merge_batch.specs.declared.refusal.Refusal.{Refusal}
use Rattle.merge_batch.specs.declared.reply.Reply.{Reply}
use Rattle.merge_batch.specs.declared.reply.Reply.TheVariants as reply
use Rattle.merge_batch.specs.declared.request.Download.{Download}
use Rattle.merge_batch.specs.declared.request.Join.{Join}
use Rattle.merge_batch.specs.declared.request.Outstanding.{Outstanding}
use Rattle.merge_batch.specs.declared.request.Outstanding.TheVariants as ask
use Rattle.merge_batch.specs.declared.request.RangeAsk.{RangeAsk}
use Rattle.merge_batch.specs.declared.request.Upload.{Upload}
use Rattle.merge_model.specs.Judge.{SubscriberJudge}
use Rattle.merge_model.specs.Subscriber.Reinit.{reinitialise, result_of_reinit}
use Rattle.merge_model.specs.Subscriber.Sending.{join_made, join_of, make_ask, make_join, make_ranges, make_upload, ranges_made, sending_refusal, unsent_rows, upload_end, upload_made, upload_sent, want_of, with_message}
use Rattle.merge_model.specs.Subscriber.Taking.{tables_after_reply, take_reply, with_received}
use Rattle.merge_model.specs.Subscriber.{close_subscriber_generation, is_joining, subscriber_at_moment, subscriber_closed, subscriber_counters, subscriber_drawn, subscriber_last_closed, subscriber_local, subscriber_local_refusal, subscriber_made_locally, subscriber_next_dot, subscriber_version_at}
use Rattle.merge_model.specs.Tables.Keys.{row_at}
use Rattle.merge_model.specs.Tables.Publications.{rules_of}
use Rattle.merge_model.specs.Tables.Refusals.{counter_end}
use Rattle.merge_model.specs.Tables.{SubscriberTables}
use Rattle.merge_model.specs.World.Faults.{reply_fault}
use Rattle.merge_model.proofs.Lists.Finding.{all-weaker}
use Rattle.merge_model.proofs.Lists.{OfSome}
use Rattle.merge_model.proofs.Runs.Refusals.{first-none}
use Rattle.merge_typed.specs.Outside.{ChangeIsTyped}
use Rattle.merge_typed.specs.Typed.{BodyIsTyped, MomentFits}
use Rattle.merge_typed.proofs.Calls.{ok-of, reply-ok, sub-local-ok, unless-ok}
use Rattle.merge_typed.proofs.SubscriberRanges.{ReplyRanges, SubscriberDrew, SubscriberRanges, ranges-reply, ranges-sub-local, sub-draws}
use Rattle.merge_typed.proofs.Values.{VersionIsTyped, settings-are, version-is}
use Rattle.merge_laws.proofs.Received.Replying.{downloaded-bound, downloaded-least, uploaded-bound}
use Rattle.merge_laws.proofs.Runs.ValidRules.{valid-rules}
use Rattle.merge_honest.proofs.Batches.{batch-holds}
use Rattle.merge_honest.proofs.Bounded.{sub-low}
use Rattle.merge_stored.specs.AnyReply.{LeavesRules, SendsWithRules, SubscriberKeeps}
use Rattle.merge_stored.specs.HasTypes.{ReplyHasTypes}
use Rattle.merge_stored.proofs.HeldWalk.{Keys, sub-keys-keep}
use Rattle.merge_stored.proofs.PublisherConflicts.{all-below}
use Rattle.merge_stored.proofs.AnyCalls.Acts.{found-row}
use Rattle.merge_stored.proofs.AnyReply.Changes.{change-stands, takes-whole}
use Rattle.merge_stored.proofs.AnyReply.Holders.{HoldersStand}
use Rattle.merge_stored.proofs.AnyReply.Parts.{Rest, answered-rest, anew-rest, at-rest, changed-rest, closed-rest, granted-rest, held-from, joined-rest, parts-load, received-rest, rest-from, sent-rest}
use Rattle.merge_stored.proofs.AnyReply.Replies.{downloaded-low, items-stand, uploaded-low}
use Rattle.merge_stored.proofs.AnyReply.RowSteps.{OfVersion, items-rows}
use Rattle.merge_stored.proofs.AnyReply.Rows.{RowIs}
use Rattle.merge_stored.proofs.AnyReply.Versions.{OwnStands}

module _ (resolvers : ℕ) (publication : Publication) (valid : IsValid resolvers publication) where
  rules : All IsRule (rules_of publication)
  rules = valid-rules resolvers publication valid

  abbrev R : SubscriberTables → Type 0
  R s = Rest publication s

  abbrev H : SubscriberTables → Type 0
  H s = HoldersStand publication s.held

  -- where ranges stay as they were
  with-holders : {A : Type 0} (s : SubscriberTables) → H s → (done : Result (SubscriberTables × A) Refusal) → IfOk done (λ x. R x.0 × (x.0.held ≡ s.held)) → LeavesRules publication done
  with-holders s holders (Ok x) is = parts-load publication resolvers valid x.0 is.0 (subst (HoldersStand publication) (sym is.1) holders)
  with-holders s holders (Err e) is = tt

  some-with-holders : {A : Type 0} (s : SubscriberTables) → H s → (made : Option (SubscriberTables × A)) → IfSome made (λ x. R x.0 × (x.0.held ≡ s.held)) → IfSome made (λ x. SubscriberKeeps publication x.0)
  some-with-holders s holders None is = tt
  some-with-holders s holders (Some x) is = parts-load publication resolvers valid x.0 is.0 (subst (HoldersStand publication) (sym is.1) holders)

  sent-with-holders : {A : Type 0} (s : SubscriberTables) → H s → (done : Result (Option (SubscriberTables × A)) Refusal) → IfOk done (λ made. IfSome made (λ x. R x.0 × (x.0.held ≡ s.held))) → SendsWithRules publication done
  sent-with-holders s holders (Ok made) is = some-with-holders s holders made is
  sent-with-holders s holders (Err e) is = tt

  -- where they change, as calls leave them
  with-ranges : {A : Type 0} (done : Result (SubscriberTables × A) Refusal) → IfOk done (λ x. R x.0) → IfOk done (λ x. Keys publication rules x.0.held) → IfOk done (λ x. SubscriberRanges x.0) → LeavesRules publication done
  with-ranges (Ok x) rest keys fits = parts-load publication resolvers valid x.0 rest (record { keys = keys.0; well = keys.1; fits = fits })
  with-ranges (Err e) rest keys fits = tt

  module _ (s : SubscriberTables) (k : SubscriberKeeps publication s) where
    rest : R s
    rest = rest-from publication s k

    holders : H s
    holders = held-from publication s k

    keys : Keys publication rules s.held
    keys = (holders.keys, holders.well)

    -- Closing.

    abbrev moved : Moment → SubscriberTables
    moved now = subscriber_at_moment now s

    closed-at : (now : Moment) → MomentFits now → counter_end (subscriber_counters s) ≡ None → R (subscriber_closed (moved now))
    closed-at now fits fine = (let low = sub-low s fine in closed-rest publication (moved now) low.closed (at-rest publication now s fits rest))

    pub closes : (now : Moment) → MomentFits now → LeavesRules publication (close_subscriber_generation now s)
    closes now fits = with-holders s holders (close_subscriber_generation now s)
        (unless-ok (λ (x : SubscriberTables × ℕ). R x.0 × (x.0.held ≡ s.held)) (counter_end (subscriber_counters s)) (subscriber_closed (moved now), subscriber_last_closed (subscriber_closed (moved now))) (λ fine. (closed-at now fits fine, refl)))

    -- Messages.

    abbrev Made : {A : Type 0} → Option (SubscriberTables × A) → Type 0
    Made made = IfSome made (λ x. R x.0 × (x.0.held ≡ s.held))

    joined-by : (b : Bool) → s.seq < counter_limit → (let made : Option (SubscriberTables × Join) = if b then None else Some (with_message ask.Join s, join_of s) in Made made)
    joined-by true low = tt
    joined-by false low = (sent-rest publication ask.Join s low tt rest, refl)

    pub joins : SendsWithRules publication (make_join s)
    joins = sent-with-holders s holders (make_join s) (unless-ok (λ (made : Option (SubscriberTables × Join)). Made made) (counter_end (subscriber_counters s)) (join_made s) (λ fine. joined-by s.is_joined (sub-low s fine).seq))

    counted : sending_refusal s ≡ None → counter_end (subscriber_counters s) ≡ None
    counted fine =
        let later : List (Option Refusal) = counter_end (subscriber_counters s) ∷ [] in
        let first = first-none (is_joining s) later fine in
        (first-none (counter_end (subscriber_counters s)) [] first.1).0

    ranged-by : (held : List (ℕ × Holder)) → s.seq < counter_limit
        → (let made : Option (SubscriberTables × RangeAsk) = elim held [ [] ↦ None | entry ∷ entries ↦ Some (with_message ask.Ranges s, record { site = s.site; seq = s.seq + 1; wants = map want_of s.held }) ] in Made made)
    ranged-by [] low = tt
    ranged-by (entry ∷ entries) low = (sent-rest publication ask.Ranges s low tt rest, refl)

    pub asks-ranges : SendsWithRules publication (make_ranges s)
    asks-ranges = sent-with-holders s holders (make_ranges s) (unless-ok (λ (made : Option (SubscriberTables × RangeAsk)). Made made) (sending_refusal s) (ranges_made s) (λ fine. ranged-by s.held (sub-low s (counted fine)).seq))

    pub asks-rows : LeavesRules publication (make_ask s)
    asks-rows = with-holders s holders (make_ask s)
        (unless-ok (λ (x : SubscriberTables × Download). R x.0 × (x.0.held ≡ s.held)) (sending_refusal s) (with_message (ask.Download s.watermark) s, record { site = s.site; seq = s.seq + 1; from = s.watermark }) (λ fine. (sent-rest publication (ask.Download s.watermark) s (sub-low s (counted fine)).seq rest.state.mark rest, refl)))

    -- an upload ends at a generation that has closed
    uploaded-by : (judge : SubscriberJudge) (now : Moment) (rows : List (Key × ℕ)) → MomentFits now → counter_end (subscriber_counters s) ≡ None
        → (let made : Option (SubscriberTables × Upload) = elim rows [ [] ↦ None | row ∷ more ↦ Some (upload_sent judge (subscriber_closed (moved now))) ] in Made made)
    uploaded-by judge now [] fits fine = tt
    uploaded-by judge now (row ∷ more) fits fine =
        let c : SubscriberTables = subscriber_closed (moved now) in
        let r : R c = closed-at now fits fine in
        let own = r.state.own in
        let closed = r.state.closed in
        let ends : upload_end judge c ≤ subscriber_last_closed c = batch-holds (λ (g : ℕ). g ≤ subscriber_last_closed c) (λ (to : ℕ). length (judge.changed_between c.received to)) c.received (subscriber_last_closed c) own (λ g above within low is. low) in
        (sent-rest publication (ask.Upload c.received (upload_end judge c)) c (sub-low s fine).seq (omega (arith, own, closed), omega (arith, ends, closed)) r, refl)

    pub uploads : (judge : SubscriberJudge) (now : Moment) → MomentFits now → SendsWithRules publication (make_upload judge now s)
    uploads judge now fits = sent-with-holders s holders (make_upload judge now s)
        (unless-ok (λ (made : Option (SubscriberTables × Upload)). Made made) (sending_refusal s) (upload_made judge now s) (λ fine. uploaded-by judge now (unsent_rows judge s) fits (counted fine)))

    -- Making the site anew.

    conflicts-low : counter_end (subscriber_counters s) ≡ None → s.conflict_count < counter_limit
    conflicts-low fine = (all-below 0 (subscriber_counters s) (grind (arith, nat_tests, fine))).1.1.1.0

    pub begins-anew : (judge : SubscriberJudge) (now : Moment) → MomentFits now → length s.rows ≤ counter_limit → LeavesRules publication (reinitialise judge now s)
    begins-anew judge now fits few = with-holders s holders (reinitialise judge now s)
        (unless-ok (λ (x : SubscriberTables × ℕ). R x.0 × (x.0.held ≡ s.held)) (counter_end (subscriber_counters s)) (result_of_reinit judge (moved now))
        (λ fine. (anew-rest publication judge (moved now) (conflicts-low fine) (sub-low s fine).closed few (at-rest publication now s fits rest), refl)))

    -- Replies.

    answered-at : (now : Moment) → MomentFits now → R (record (moved now) { outstanding = None })
    answered-at now fits = answered-rest publication (moved now) (at-rest publication now s fits rest)

    reply-rest : (judge : SubscriberJudge) (now : Moment) (sent : Outstanding) (m : Reply) → MomentFits now → ReplyHasTypes m → reply_fault publication sent m s ≡ None → R (tables_after_reply judge now m s)
    reply-rest judge now sent (reply.Joined m) fits types fine = joined-rest publication true (record (moved now) { outstanding = None }) (answered-at now fits)
    reply-rest judge now sent (reply.Uploaded m) fits types fine = received-rest publication m.received (record (moved now) { outstanding = None }) (uploaded-low publication sent m s fine) (uploaded-bound publication sent m s fine) (answered-at now fits)
    reply-rest judge now sent (reply.Ranged m) fits types fine = granted-rest publication m (record (moved now) { outstanding = None }) (answered-at now fits)
    reply-rest judge now sent (reply.Downloaded m) fits types fine =
        let u : SubscriberTables = record (moved now) { outstanding = None } in
        let r = received-rest publication m.received u (downloaded-least publication sent m s fine) (downloaded-bound publication sent m s fine) (answered-at now fits) in
        let rows = items-rows publication judge m (with_received m.received u) (items-stand resolvers publication valid s sent m fine types) r.rows in
        let low = downloaded-low publication sent m s fine in
        let t = r.state in
        let c = r.closings in
        let l = r.conflicts in record {
          subscribes = r.subscribes;
          state = record { site = t.site; changes = t.changes; closed = t.closed; conflict_count = t.conflict_count; unfilled = t.unfilled; latest = t.latest; seq = t.seq; own = t.own; mark = omega (arith, low); sent = t.sent };
          closings = record { run = c.run; rise = c.rise; made = c.made };
          conflicts = record { numbered = l.numbered; lost = l.lost };
          rows = rows;
        }
    reply-rest judge now sent (reply.Refused number values) fits types fine = answered-at now fits

    reply-ranges : (m : Reply) → ReplyHasTypes m → ReplyRanges m
    reply-ranges (reply.Joined m) types = tt
    reply-ranges (reply.Uploaded m) types = tt
    reply-ranges (reply.Ranged m) types = types
    reply-ranges (reply.Downloaded m) types = tt
    reply-ranges (reply.Refused number values) types = tt

    pub takes-reply : (judge : SubscriberJudge) (now : Moment) (m : Reply) → MomentFits now → ReplyHasTypes m → LeavesRules publication (take_reply publication judge now m s)
    takes-reply judge now m fits types = with-ranges (take_reply publication judge now m s)
        (reply-ok publication judge now s R rest m (λ sent fine. reply-rest judge now sent m fits types fine))
        ((sub-keys-keep publication rules).of_reply judge now m s keys)
        (ranges-reply s holders.fits publication judge now m (reply-ranges m types))

    -- Local changes.

    abbrev VersionIs : Key × SubscriberRow → Type 0
    VersionIs row = OwnStands publication s.site.0 s.changes row.0 row.1.version × BodyIsTyped row.1.version.body

    row-versions : AllByRecursion VersionIs s.rows
    row-versions = all-weaker (RowIs publication s.site.0 s.changes (subscriber_last_closed s)) VersionIs (λ row is. (is.0, is.1.0)) s.rows rest.rows.each

    held-by : (key : Key) (found : Option SubscriberRow) → row_at s.rows key ≡ found
        → OfSome (λ (version : Version). OwnStands publication s.site.0 s.changes key version × BodyIsTyped version.body) (option_map (λ (row : SubscriberRow). row.version) found)
    held-by key None at = tt
    held-by key (Some row) at = found-row (λ (q : Key) (row : SubscriberRow). OwnStands publication s.site.0 s.changes q row.version × BodyIsTyped row.version.body) s.rows key row row-versions at

    some-first : (P Q : Version → Type 0) (found : Option Version) → OfSome (λ (v : Version). P v × Q v) found → OfSome P found
    some-first P Q None is = tt
    some-first P Q (Some v) is = is.0

    some-second : (P Q : Version → Type 0) (found : Option Version) → OfSome (λ (v : Version). P v × Q v) found → OfSome Q found
    some-second P Q None is = tt
    some-second P Q (Some v) is = is.1

    both-of : (changes : ℕ) (key : Key) (found : Option Version) → OfSome (OwnStands publication s.site.0 changes key) found → OfSome VersionIsTyped found → OfVersion publication s.site.0 changes key found
    both-of changes key None one other = tt
    both-of changes key (Some version) one other = (one, other)

    local-rest : (now : Moment) (change : Change) (d : Value × List (ℕ × Holder)) → MomentFits now → ChangeIsTyped change → has_article publication (article_of change) ≡ true → subscriber_local_refusal publication change s ≡ None → subscriber_drawn s change ≡ Ok d
        → R (subscriber_made_locally publication change d (moved now)).0
    local-rest now change d fits typed exists fine is =
        let key : Key = key_of (subscriber_next_dot s) change in
        let held : Option Version = subscriber_version_at s key in
        let first = first-none (is_joining s) _ fine in
        let second = first-none (counter_end (subscriber_counters s)) _ first.1 in
        let here = first-none (change_refusal publication (subscriber_next_dot s) change held (length s.rows)) _ second.1 in
        let low = sub-low s second.0 in
        let both = held-by key (row_at s.rows key) refl in
        let set = settings-are publication (subscriber_next_dot s) change held (length s.rows) here.0 typed in
        let drew = ok-of SubscriberDrew (subscriber_drawn s change) d (sub-draws s change holders.fits) is in
        let stands = change-stands resolvers publication valid s.site (site-of s.site.0 rest.subscribes) s.changes low.changes change d.0 held (length s.rows) exists here.0 (takes-whole publication s change d holders.keys is)
        (some-first (OwnStands publication s.site.0 s.changes key) VersionIsTyped held both) in
        let values = version-is publication (subscriber_next_dot s) d.0 change held drew.value set (some-second (OwnStands publication s.site.0 s.changes key) VersionIsTyped held both) in
        let found : Option Version = version_after publication (subscriber_next_dot s) d.0 change held in
        changed-rest publication key found d.1 (moved now) low.changes low.closed (both-of (s.changes + 1) key found stands values) (at-rest publication now s fits rest)
      where
        site-of : (site : ℕ) → is_subscription publication site ≡ true → is_site publication site ≡ true
        site-of site subscribes = grind (arith, subscribes)

    pub changes : (now : Moment) (change : Change) → MomentFits now → ChangeIsTyped change → has_article publication (article_of change) ≡ true → LeavesRules publication (subscriber_local publication now change s)
    changes now change fits typed exists = with-ranges (subscriber_local publication now change s)
        (sub-local-ok publication now change s R (λ fine d is. local-rest now change d fits typed exists fine is))
        ((sub-keys-keep publication rules).of_local now change s keys)
        (ranges-sub-local s holders.fits publication now change)
