-- Every step keeps a fact of every version that may speak of the changes that were made, and every list of events does.
use Rattle.std.specs.List.{AllByRecursion}
use Rattle.std.specs.Prelude.{List, Option, Some, None, [], false, length, map, refl, ℕ, ◌+◌, ◌<◌, ◌^◌, ◌≡◌, ◌≤◌, ◌∷◌}
use Rattle.std.proofs.Common.{arith, inr}
use Rattle.merge_types.specs.Limits.{number_limit}
use Rattle.merge_types.specs.declared.changes.Change.{Change}
use Rattle.merge_types.specs.declared.identifiers.Dot.{Dot}
use Rattle.merge_types.specs.declared.identifiers.SiteId.{SiteId}
use Rattle.merge_types.specs.declared.row_key.RowKey.{RowKey as Key}
use Rattle.merge_types.specs.declared.values.Value.{Value}
use Rattle.merge_units.specs.Cases.{case_by, is_conflict}
use Rattle.merge_units.specs.Results.{result_by}
use Rattle.merge_units.specs.declared.case.Case.{Case}
use Rattle.merge_units.specs.declared.result.Decision.{Decision}
use Rattle.merge_units.specs.declared.result.Decision.TheVariants.{KeepPublisher}
use Rattle.merge_units.specs.declared.version.Version.{Version}
use Rattle.merge_ident.specs.Holders.{Holder}
use Rattle.merge_schema.specs.Valid.{IsValid}
use Rattle.merge_schema.specs.declared.publication.Publication.{Publication}
use Rattle.merge_batch.specs.LocalChanges.{change_refusal, key_of, version_after}
use Rattle.merge_batch.specs.declared.reply.Reply.TheVariants as reply
use Rattle.merge_batch.specs.declared.request.Outstanding.TheVariants as ask
use Rattle.merge_batch.specs.declared.request.Request.TheVariants as request
use Rattle.merge_batch.specs.declared.request.Upload.{Upload}
use Rattle.merge_model.specs.Publisher.Acts.{Act, Fate, Met, New, Unknown}
use Rattle.merge_model.specs.Judge.ByHistory.{by_made, by_past}
use Rattle.merge_model.specs.Failing.{Slips, faulty}
use Rattle.merge_model.specs.History.{History, MadeChange, Past, has, past_at, past_in, pasts_with}
use Rattle.merge_model.specs.Judge.{PublisherJudge}
use Rattle.merge_model.specs.History.Model.{Model, empty_model, model}
use Rattle.merge_model.specs.History.Noting
use Rattle.merge_model.specs.History.Pasts.{past_after, past_by}
use Rattle.merge_model.specs.Publisher.{counters, last_closed, tables_after_close}
use Rattle.merge_model.specs.Publisher.PublisherJoin.{join_taken}
use Rattle.merge_model.specs.Publisher.PublisherLocal.{Drawn, local_refusal, made_locally, next_dot, version_at}
use Rattle.merge_model.specs.Publisher.PublisherRanges.{plans, reply_to_ranges, with_grants}
use Rattle.merge_model.specs.Publisher.PublisherUpload.{taken_in, upload_refusal}
use Rattle.merge_model.specs.Tables.Refusals.{counter_end}
use Rattle.merge_model.specs.Failing.Runs.{model_after_actions, model_behind, model_behind_actions}
use Rattle.merge_model.specs.Subscriber.Sending.{join_of, want_of, with_message}
use Rattle.merge_model.specs.Subscriber.{is_joining, subscriber_at_moment, subscriber_closed, subscriber_counters, subscriber_last_closed, subscriber_local_refusal, subscriber_made_locally, subscriber_next_dot, subscriber_version_at}
use Rattle.merge_model.specs.Tables.{PublisherTables, SubscriberTables}
use Rattle.merge_model.specs.World.{Saying, World, subscriber_at, with_publisher, with_subscriber}
use Rattle.merge_model.specs.declared.event.Event.{Event}
use Rattle.merge_model.specs.declared.letter.Message.TheVariants.{Asks, Replies}
use Rattle.merge_model.proofs.Lists.Finding.{all-weaker}
use Rattle.merge_model.proofs.Runs.Refusals.{first-none}
use Rattle.merge_model.proofs.Runs.Actions.{failing-actions-keep}
use Rattle.merge_model.specs.World.Steps.{Action}
use Rattle.merge_laws.specs.Facts.LetterNumbers.{LettersAreNamed}
use Rattle.merge_laws.proofs.Runs.Ground.{Ground}
use Rattle.merge_laws.proofs.Lineages.LineagesAlways.{Kept, ground, kept-always, kept-step, kept-tallied}
use Rattle.merge_laws.proofs.Makers.MakerChanges.{own-small, sub-small}
use Rattle.merge_laws.proofs.Walking.Noted.{acts-own, anew-keep, purge-keep, reply-keep}
use Rattle.merge_laws.proofs.Told.ToldRows.{HeldFits}
use Rattle.merge_laws.proofs.Told.ToldSites.{Every, letter-goes, publisher-stays, world-stays}
use Rattle.merge_laws.proofs.Told.ToldWalk.{every-begins}
use Rattle.merge_laws.proofs.Walking.{StepsKeep, acts_in, comes, here, join_noted, own_noted, step-keeps, told_by, uploaded_world}
use Rattle.merge_owed.proofs.Decided.{ActCounts, FateCounts, upload-counts}
use Rattle.merge_owed.proofs.MadeStays.{AreAmong, acts-stay, every-weaker, join-stays, lines-stay, notes-stay}
use Rattle.merge_owed.proofs.VersionActs.{ActMakes, FateMakes}
use Rattle.merge_owed.proofs.VersionSteps.{anew, answers-ask, forgets, joins, own-change, replies, sends-upload, stays, sub-change, uploads}
use Rattle.merge_laws.proofs.Runs.OfActions.{of-events}

-- an identifier of a row can carry the change
pub record IsCarried (dot : Dot) : Type 0 where
  pub site : dot.site.0 < 2 ^ 16
  pub from_one : 1 ≤ dot.number
  pub fits : dot.number < number_limit

-- A fact of the changes that were made, of a key, a version and a past that goes on: as more changes are made, by a local change that
-- is not refused, as it is made, and by a merge whose decision counts.
pub record GoesOn (publication : Publication) (P : List MadeChange → Key → Version → Past → Type 0) : Type 0 where
  pub more : (made others : List MadeChange) (key : Key) (version : Version) (past : Past) → AreAmong made others → P made key version past → P others key version past
  pub changed : (made : List MadeChange) (dot : Dot) (generation : ℕ) (change : Change) (value : Value) (held : Option Version) (rows : ℕ) (past : Past) → IsCarried dot → change_refusal publication dot change held rows ≡ None
      → (let all : List MadeChange = Noting.made_change publication dot generation change value (key_of dot change) (past_after publication dot change past) ∷ made in HeldFits (P all) (key_of dot change) held past
      → HeldFits (P all) (key_of dot change) (version_after publication dot value change held) (past_after publication dot change past))
  pub merged : (made : List MadeChange) (judge : PublisherJudge) (site : SiteId) (p : PublisherTables) (key : Key) (held incoming : Version) (case : Case) (decision : Decision) (dot : Dot) (past other : Past)
      → case ≡ case_by (has past.known) (has other.known) held.body incoming.body → (is_conflict case ≡ false → decision ≡ KeepPublisher) → FateCounts publication judge site p key incoming (Met held case decision dot)
      → P made key held past → P made key incoming other → P made key (result_by case held incoming decision dot) (past_by case decision dot past other)

-- what is known besides
abbrev Base : Publication → World → History → Type 0
Base publication w h = Ground publication w h × LettersAreNamed w h

module _ (publication : Publication) (P : List MadeChange → Key → Version → Past → Type 0) (on : GoesOn publication P) where
  -- what acts make
  fate-makes : (made : List MadeChange) (judge : PublisherJudge) (site : SiteId) (p : PublisherTables) (key : Key) (incoming : Version) (other : Past) (fate : Fate) → FateCounts publication judge site p key incoming fate → FateMakes (P made) key incoming other fate
  fate-makes made judge site p key incoming other New counts = tt
  fate-makes made judge site p key incoming other Unknown counts = tt
  fate-makes made judge site p key incoming other (Met held case decision dot) counts = λ past is keeps one two. on.merged made judge site p key held incoming case decision dot past other is keeps counts one two

  acts-make : (made : List MadeChange) (judge : PublisherJudge) (site : SiteId) (p : PublisherTables) (incoming : List (Key × Past)) (acts : List Act) → AllByRecursion (ActCounts publication judge site p) acts → AllByRecursion (ActMakes (P made) incoming) acts
  acts-make made judge site p incoming acts all =
      all-weaker (ActCounts publication judge site p) (ActMakes (P made) incoming) (λ act counts. fate-makes made judge site p act.key act.incoming (past_in incoming act.key) act.fate counts) acts all

  -- The fact of every version, and that the changes which were made before are still among those that were made.
  module _ (before : List MadeChange) where
    abbrev pub Holds : World → History → Type 0
    Holds w h = Every (P h.made) w h × AreAmong before h.made

    more-made : (made others : List MadeChange) (w : World) (h : History) → AreAmong made others → Every (P made) w h → Every (P others) w h
    more-made made others w h among e = every-weaker (P made) (P others) (λ key version past fits. on.more made others key version past among fits) w h e

    goes-over : (made : List MadeChange) (v : World) (k : History) → AreAmong made k.made → AreAmong before made → Every (P made) v k → Holds v k
    goes-over made v k among all e = (more-made made k.made v k among e, λ change is. among change (all change is))

    module _ (says : Saying) where
      own-holds : (w : World) (h : History) (change : Change) (d : Drawn) → Base publication w h → Holds w h → local_refusal publication change w.publisher ≡ None
          → (let judge : PublisherJudge = by_past h (pasts_with h 0) in Holds (with_publisher (made_locally publication judge change d (here w)).0 w) (own_noted publication judge change d (here w) h))
      own-holds w h change d b t fine =
          let judge : PublisherJudge = by_past h (pasts_with h 0) in
          let p : PublisherTables = here w in
          let dot : Dot = next_dot p in
          let key : Key = key_of dot change in
          let past : Past = past_after publication dot change (past_at h 0 key) in
          let c : MadeChange = Noting.made_change publication dot (last_closed p + 1) change d.value key past in
          let made : List MadeChange = c ∷ h.made in
          let counted = first-none (counter_end (counters w.publisher)) _ fine in
          let refused = first-none (change_refusal publication dot change (version_at w.publisher key) (length w.publisher.rows)) _ counted.1 in
          let small = own-small publication change w.publisher fine in
          let noted : History = Noting.with_change publication dot (last_closed p + 1) change d.value h in
          goes-over made (with_publisher (made_locally publication judge change d p).0 w) (own_noted publication judge change d p h)
          (lines-stay made (Noting.lines_of_entries (last_closed p + 1) (Noting.drawn_entries publication judge change p d)) noted (λ x is. is)) (λ x is. inr (t.1 x is))
          (own-change publication says (P made) w h b.0 (more-made h.made made w h (λ x is. inr is) t.0) change d
          (on.changed h.made dot (last_closed p + 1) change d.value (version_at w.publisher key) (length w.publisher.rows) (past_at h 0 key) (record { site = omega arith; from_one = omega arith; fits = omega (arith, small) }) refused.0))

      sub-holds : (w : World) (h : History) (s : SubscriberTables) (change : Change) (d : Value × List (ℕ × Holder)) → Base publication w h → Holds w h → subscriber_at w s.site ≡ Some s → subscriber_local_refusal publication change s ≡ None
          → Holds (with_subscriber (subscriber_made_locally publication change d (subscriber_at_moment w.moment s)).0 w) (Noting.with_change publication (subscriber_next_dot s) (subscriber_last_closed s + 1) change d.0 h)
      sub-holds w h s change d b t at fine =
          let dot : Dot = subscriber_next_dot s in
          let key : Key = key_of dot change in
          let past : Past = past_after publication dot change (past_at h s.site.0 key) in
          let c : MadeChange = Noting.made_change publication dot (subscriber_last_closed s + 1) change d.0 key past in
          let made : List MadeChange = c ∷ h.made in
          let waits = first-none (is_joining s) _ fine in
          let counted = first-none (counter_end (subscriber_counters s)) _ waits.1 in
          let refused = first-none (change_refusal publication dot change (subscriber_version_at s key) (length s.rows)) _ counted.1 in
          let small = sub-small publication change s fine in
          let low : s.site.0 ≤ 63 = b.1.0 s.site.0 s at in
          goes-over made (with_subscriber (subscriber_made_locally publication change d (subscriber_at_moment w.moment s)).0 w) (Noting.with_change publication dot (subscriber_last_closed s + 1) change d.0 h) (λ x is. is) (λ x is. inr (t.1 x is))
          (sub-change publication says (P made) w h b.0 (more-made h.made made w h (λ x is. inr is) t.0) s at change d
          (on.changed h.made dot (subscriber_last_closed s + 1) change d.0 (subscriber_version_at s key) (length s.rows) (past_at h s.site.0 key) (record { site = omega (arith, low); from_one = omega arith; fits = omega (arith, small) }) refused.0))

      upload-holds : (w : World) (h : History) (number : ℕ) (m : Upload) → Base publication w h → Holds w h → comes w number m.site (Asks (request.Upload m))
          → (let judge : PublisherJudge = by_past h (pasts_with h number) in upload_refusal publication judge w.moment m w.publisher ≡ None
          → Holds (with_publisher (taken_in publication judge m (acts_in publication says judge m w) (here w)) w) (Noting.with_acts_noted publication judge m (acts_in publication says judge m w) (pasts_with h number) (here w) h))
      upload-holds w h number m b t at fine =
          let judge : PublisherJudge = by_past h (pasts_with h number) in
          let acts : List Act = acts_in publication says judge m w in
          goes-over h.made (with_publisher (taken_in publication judge m acts (here w)) w) (Noting.with_acts_noted publication judge m acts (pasts_with h number) (here w) h)
          (acts-stay publication judge m acts (pasts_with h number) (here w) h (acts-own judge m _ (here w))) t.1
          (uploads publication says (P h.made) w h b.0 t.0 number m at fine (acts-make h.made judge m.site (here w) (pasts_with h number) acts (upload-counts publication judge says w.tallies m (here w))))

      pub holds-keep : StepsKeep publication says (Base publication) Holds
      holds-keep = record {
        moment = λ w h now b t. (world-stays (P h.made) w (record w { moment = now }) h refl refl refl t.0, t.1);
        own_change = λ w h change d b t fine is. own-holds w h change d b t fine;
        own_closing = λ w h b t. (publisher-stays (P h.made) w h (tables_after_close (here w)) refl refl t.0, t.1);
        forgetting = λ w h b t. goes-over h.made _ (Noting.noted_purge publication (by_past h (pasts_with h 0)) (here w) h)
            (purge-keep (λ (k : History). AreAmong h.made k.made) (notes-stay h.made) publication (by_past h (pasts_with h 0)) (here w) h (λ x is. is)) t.1 (forgets publication says (P h.made) w h b.0 t.0);
        same = λ w h s b t at. (stays publication says (P h.made) w h b.0 t.0 s at s refl refl refl, t.1);
        subscriber_change = λ w h s change d b t at named fine is. sub-holds w h s change d b t at fine;
        subscriber_closing = λ w h s b t at. (stays publication says (P h.made) w h b.0 t.0 s at (subscriber_closed (subscriber_at_moment w.moment s)) refl refl refl, t.1);
        anew = λ w h s b t at. goes-over h.made _ (Noting.noted_anew (by_made h s.site) s h) (anew-keep (λ (k : History). AreAmong h.made k.made) (notes-stay h.made) (by_made h s.site) s h (λ x is. is)) t.1
            (anew publication says (P h.made) w h b.0 t.0 s at);
        sends_join = λ w h s b t at joining. (let u : SubscriberTables = with_message ask.Join s in
            (letter-goes (P h.made) (with_subscriber u w) h s.site (Asks (request.Join (join_of s))) tt (stays publication says (P h.made) w h b.0 t.0 s at u refl refl refl), t.1));
        sends_upload = λ w h s b t at fine. (sends-upload publication says (P h.made) w h b.0 t.0 s at, t.1);
        sends_ranges = λ w h s b t at fine. (let u : SubscriberTables = with_message ask.Ranges s in
            (letter-goes (P h.made) (with_subscriber u w) h s.site (Asks (request.Ranges (record { site = s.site; seq = s.seq + 1; wants = map want_of s.held }))) tt (stays publication says (P h.made) w h b.0 t.0 s at u refl refl refl), t.1));
        sends_ask = λ w h s b t at fine. (let u : SubscriberTables = with_message (ask.Download s.watermark) s in
            (letter-goes (P h.made) (with_subscriber u w) h s.site (Asks (request.Download (record { site = s.site; seq = s.seq + 1; from = s.watermark }))) tt (stays publication says (P h.made) w h b.0 t.0 s at u refl refl refl), t.1));
        joins = λ w h number m b t at fine acts. (let judge : PublisherJudge = by_past h (pasts_with h number) in
            let k : History = join_noted judge m w.publisher h in
            let v : World = with_publisher (join_taken m (here w)) w in
            let all = goes-over h.made v k (join-stays judge m w.publisher h) t.1 (joins publication says (P h.made) w h b.0 t.0 number m) in
            (letter-goes (P k.made) v k m.site (Replies (reply.Joined (record { seq = m.seq }))) tt all.0, all.1));
        joins_again = λ w h number m b t at acts. (letter-goes (P h.made) (with_publisher (here w) w) h m.site (Replies (reply.Joined (record { seq = m.seq }))) tt (publisher-stays (P h.made) w h (here w) refl refl t.0), t.1);
        uploads = λ w h number m b t at fine news. (let judge : PublisherJudge = by_past h (pasts_with h number) in
            let acts : List Act = acts_in publication says judge m w in
            let q : PublisherTables = taken_in publication judge m acts (here w) in
            let k : History = Noting.with_acts_noted publication judge m acts (pasts_with h number) (here w) h in
            let v : World = uploaded_world publication says judge m q w in
            let all = upload-holds w h number m b t at fine in
            (letter-goes (P k.made) v k m.site (Replies (reply.Uploaded (told_by judge m))) tt (world-stays (P k.made) (with_publisher q w) v k refl refl refl all.0), all.1));
        uploads_again = λ w h number m b t at none. (let judge : PublisherJudge = by_past h (pasts_with h number) in
            let v : World = uploaded_world publication says judge m (here w) w in
            (letter-goes (P h.made) v h m.site (Replies (reply.Uploaded (told_by judge m))) tt (world-stays (P h.made) (with_publisher (here w) w) v h refl refl refl (publisher-stays (P h.made) w h (here w) refl refl t.0)), t.1));
        answers_ranges = λ w h site m b t. (let q : PublisherTables = with_grants (plans publication m w.publisher) (here w) in
            (letter-goes (P h.made) (with_publisher q w) h site (Replies (reply.Ranged (reply_to_ranges m (plans publication m w.publisher)))) tt (publisher-stays (P h.made) w h q refl refl t.0), t.1));
        answers_ask = λ w h number site m b t at fine. (answers-ask publication says (P h.made) w h b.0 t.0 number site m, t.1);
        replies = λ w h s number m sent b t at there out none. goes-over h.made _ (Noting.noted_reply (by_made h s.site) s.site (pasts_with h number) m h)
            (reply-keep (λ (k : History). AreAmong h.made k.made) (notes-stay h.made) (by_made h s.site) s.site (pasts_with h number) m h (λ x is. is)) t.1
            (replies publication says (P h.made) w h b.0 t.0 s at (by_made h s.site) number m there);
      }

      -- Behind actions that follow, and behind every list of actions, so of events.

      abbrev pub Whole : Model → Type 0
      Whole m = Kept publication m × Holds m.world m.history

      pub holds-after : (m : Model) (slips : Slips) (actions : List Action) → Whole m → Whole (model_after_actions publication says m slips actions)
      holds-after m slips actions whole = failing-actions-keep publication (model publication says) Whole
          (λ n action k. (
            kept-step publication n k.0 says action,
            step-keeps publication says (Base publication) Holds (λ w h b. b.0.received) holds-keep n action (ground publication n k.0, k.0.grounded.1.1) k.1,
          ))
          (λ n others k. (kept-tallied publication n others k.0, (world-stays (P n.history.made) n.world (record n.world { tallies = others }) n.history refl refl refl k.1.0, k.1.1))) actions (faulty m slips) whole

  pub holds-by-actions : (says : Saying) (tallies : List ℕ) (slips : Slips) (actions : List Action) → (resolvers : ℕ) × IsValid resolvers publication → Whole [] says (model_behind_actions publication says tallies slips actions)
  holds-by-actions says tallies slips actions valid = holds-after [] says (empty_model publication tallies) slips actions (kept-always publication valid says tallies [] [], (every-begins (P []) publication tallies, λ change is. is))

  pub holds-always : (says : Saying) (tallies : List ℕ) (slips : Slips) (events : List Event) → (resolvers : ℕ) × IsValid resolvers publication → Whole [] says (model_behind publication says tallies slips events)
  holds-always says tallies slips events valid = of-events publication says tallies slips events (Whole [] says) (λ actions. holds-by-actions says tallies slips actions valid)
