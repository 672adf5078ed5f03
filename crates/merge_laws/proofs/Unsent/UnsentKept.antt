-- Every step, and every list of events, keeps what the rows of subscribers say of their changes.
use Rattle.std.specs.Prelude.{◌≡◌, ◌≤◌, ◌==◌, ◌+◌, ℕ, List, [], ◌∷◌, Bool, true, false, Option, Some, None, refl, cond, is_some, map}
use Rattle.std.specs.BTreeMap.{is_at}
use Rattle.std.specs.List.{AllByRecursion}
use Rattle.std.specs.List.Sorted.{IsStrictlySortedBy}
use Rattle.std.specs.Ordering.{nat_cmp}
use Rattle.std.proofs.Common.{arith, subst, sym, ap, ◌∙◌}
use Rattle.merge_types.specs.declared.changes.Change.{Change}
use Rattle.merge_types.specs.declared.identifiers.Moment.{Moment}
use Rattle.merge_types.specs.declared.values.Value.{Value}
use Rattle.merge_units.specs.declared.version.Version.{Version}
use Rattle.merge_ident.specs.Holders.{Holder}
use Rattle.merge_schema.specs.declared.publication.Publication.{Publication}
use Rattle.merge_schema.specs.declared.publication.Subscription.{Subscription}
use Rattle.merge_batch.specs.declared.request.Outstanding.{Outstanding}
use Rattle.merge_batch.specs.declared.request.Outstanding.TheVariants as ask
use Rattle.merge_batch.specs.declared.reply.Reply.{Reply}
use Rattle.merge_batch.specs.declared.reply.Reply.TheVariants as reply
use Rattle.merge_model.specs.Failing.{Slips, faulty}
use Rattle.merge_model.specs.Failing.Runs.{model_behind, model_behind_actions}
use Rattle.merge_model.specs.Laws.Bridge.{SubscriberDecidesAlike}
use Rattle.merge_model.specs.Judge.ByHistory.{by_history, by_made, by_past}
use Rattle.merge_model.specs.Tables.Changes.{key_of, version_after}
use Rattle.merge_model.specs.World.Faults.{reply_fault}
use Rattle.merge_model.specs.History.{History, MadeChange, made_at, no_history, past_at, pasts_with}
use Rattle.merge_model.specs.Judge.{PublisherJudge, SubscriberJudge}
use Rattle.merge_model.specs.Tables.Keys.{at_number, put_number}
use Rattle.merge_model.specs.Laws.{SubscriberIsSorted}
use Rattle.merge_model.specs.History.Model.{Model, empty_model, model, model_step}
use Rattle.merge_model.specs.History.Noting
use Rattle.merge_model.specs.History.Pasts.{past_after}
use Rattle.merge_model.specs.Subscriber.Reinit.{result_of_reinit}
use Rattle.merge_model.specs.Tables.Publications.{by_site}
use Rattle.merge_model.specs.Subscriber.Sending.{upload_sent, with_message}
use Rattle.merge_model.specs.World.Steps.{Action}
use Rattle.merge_model.specs.Subscriber.{empty_subscriber, subscriber_at_moment, subscriber_closed, subscriber_last_closed, subscriber_local_refusal, subscriber_made_locally, subscriber_next_dot, subscriber_version_at, with_version_if}
use Rattle.merge_types.specs.declared.row_key.RowKey.{RowKey as Key}
use Rattle.merge_units.specs.declared.site_row.SubscriberRow.{SubscriberRow}
use Rattle.merge_model.specs.Tables.{SubscriberTables}
use Rattle.merge_model.specs.Subscriber.Taking.{row_above, seq_of, tables_after_reply}
use Rattle.merge_model.specs.World.{Saying, World, empty_world, subscriber_at, with_subscriber}
use Rattle.merge_model.specs.declared.event.Event.{Event}
use Rattle.merge_model.proofs.Subscribers.{step-sub-sorted}
use Rattle.merge_model.proofs.Runs.Actions.{failing-actions-keep}
use Rattle.merge_laws.proofs.Runs.Tallied.{numbered-tallied, received-tallied}
use Rattle.merge_laws.specs.Facts.Numbered.{InOrder, Numbered}
use Rattle.merge_laws.specs.Facts.Received.{Received}
use Rattle.merge_laws.specs.Invariants.Unsent.{RowsTell, Unsent, is_changed_above}
use Rattle.merge_laws.proofs.Unsent.Changed.{changed-same}
use Rattle.merge_model.proofs.Lists.Finding.{at_put_other, at_put_same}
use Rattle.merge_laws.proofs.Unsent.Generations.{order-closed}
use Rattle.merge_laws.proofs.Received.Models.{begins, begins-with, model-fine}
use Rattle.merge_laws.proofs.Walking.Noted.{anew-keep, own-keep, purge-keep, reply-keep}
use Rattle.merge_laws.proofs.Numbered.Numbers.{Alike, alike-itself, alike-notes, made-other, made-same}
use Rattle.merge_laws.proofs.Received.Replying.{downloaded-least, uploaded-least}
use Rattle.merge_laws.proofs.Received.Subscribing.{number-decided, same_number, filling-closed}
use Rattle.merge_laws.proofs.Numbered.Telling.{closing-tells, row-there}
use Rattle.merge_laws.proofs.Numbered.Tellings.{joined-alike, numbered-begins, numbered-keeps, uploaded-alike}
use Rattle.merge_laws.proofs.Unsent.Unsending.{anew-rows, change-rows, items-told, received-rows, received-sorted}
use Rattle.merge_laws.proofs.Walking.{StepsKeep, acts_in, here, join_noted, own_noted, step-keeps}
use Rattle.merge_laws.proofs.Runs.OfActions.{of-events}

-- what is known besides
abbrev pub Base : World → History → Type 0
Base w h = Received w h × (Numbered w h × AllByRecursion (λ (entry : ℕ × SubscriberTables). SubscriberIsSorted entry.1) w.subscribers)

found-step : (S : SubscriberTables → Type 0) (b : Bool) (t s : SubscriberTables) (rest : Option SubscriberTables) → S t → (rest ≡ Some s → S s) → (let found : Option SubscriberTables = cond b (Some t) rest in found) ≡ Some s → S s
found-step S true t s rest first more e = let same : t ≡ s = cc in subst S same first
found-step S false t s rest first more e = more e

pub all-found : (S : SubscriberTables → Type 0) (subscribers : List (ℕ × SubscriberTables)) (n : ℕ) (s : SubscriberTables) → AllByRecursion (λ (entry : ℕ × SubscriberTables). S entry.1) subscribers → at_number subscribers n ≡ Some s → S s
all-found S [] n s all e = absurd (grind (arith, e))
all-found S (entry ∷ rest) n s all e = found-step S (is_at (nat_cmp n) entry.0) entry.1 s (at_number rest n) all.0 (λ found. all-found S rest n s all.1 found) e

-- Worlds.

-- histories that get no change but the publisher's
unsent-alike : (w : World) (h k : History) → ((n : ℕ) → (n ≡ 0 → ⊥) → made_at k n ≡ made_at h n) → Unsent w h → Unsent w k
unsent-alike w h k same u n s named at = subst (λ (made : List MadeChange). RowsTell made s.received s.rows) (sym (same n named)) (u n s named at)

-- a subscriber goes on
module _ (w : World) (h k : History) (s t : SubscriberTables) (u : Unsent w h) (others : (n : ℕ) → (n ≡ 0 → ⊥) → (n ≡ s.site.0 → ⊥) → made_at k n ≡ made_at h n) (tells : (s.site.0 ≡ 0 → ⊥) → RowsTell (made_at k s.site.0) t.received t.rows) where
  unsent-at : (n : ℕ) (v : SubscriberTables) (b : Bool) → same_number n s.site.0 b → (n ≡ 0 → ⊥) → at_number (put_number w.subscribers s.site.0 t) n ≡ Some v → RowsTell (made_at k n) v.received v.rows
  unsent-at n v true same named found =
      let put : at_number (put_number w.subscribers s.site.0 t) n ≡ Some t = ap (λ (m : ℕ). at_number (put_number w.subscribers s.site.0 t) m) same ∙ at_put_same s.site.0 t w.subscribers in
      let is_t : Some t ≡ Some v = sym put ∙ found in
      let both : t ≡ v = cc in
      subst (λ (x : SubscriberTables). RowsTell (made_at k n) x.received x.rows) both (subst (λ (m : ℕ). RowsTell (made_at k m) t.received t.rows) (sym same) (tells (λ own. named (same ∙ own))))
  unsent-at n v false differs named found = subst (λ (made : List MadeChange). RowsTell made v.received v.rows) (sym (others n named differs)) (u n v named (sym (at_put_other s.site.0 n t w.subscribers differs) ∙ found))

  unsent-on : t.site.0 ≡ s.site.0 → Unsent (with_subscriber t w) k
  unsent-on same = subst (λ (m : ℕ). Unsent (record w { subscribers = put_number w.subscribers m t }) k) (sym same) (λ n v named found. unsent-at n v (n == s.site.0) (number-decided n s.site.0) named found)

-- with rows as they were, or as a reply leaves them
same-rows : (w : World) (h k : History) (s t : SubscriberTables) → Unsent w h → subscriber_at w s.site ≡ Some s → ((n : ℕ) → (n ≡ 0 → ⊥) → made_at k n ≡ made_at h n) → t.site.0 ≡ s.site.0
    → ((s.site.0 ≡ 0 → ⊥) → RowsTell (made_at h s.site.0) s.received s.rows → RowsTell (made_at h s.site.0) t.received t.rows) → Unsent (with_subscriber t w) k
same-rows w h k s t u at same site goes = unsent-on w h k s t u (λ n named differs. same n named)
    (λ named. subst (λ (made : List MadeChange). RowsTell made t.received t.rows) (sym (same s.site.0 named)) (goes named (u s.site.0 s named at))) site

-- What a subscriber does.

reply-rows : (publication : Publication) (made : List MadeChange) (judge : SubscriberJudge) (now : Moment) (sent : Outstanding) (m : Reply) (s : SubscriberTables) → ((key : Key) (received : ℕ) → judge.is_unsent received key ≡ is_changed_above received key made) → SubscriberIsSorted s
    → reply_fault publication sent m s ≡ None → s.outstanding ≡ Some (seq_of m, sent) → ((seq from to : ℕ) → s.outstanding ≡ Some (seq, ask.Upload from to) → s.received ≤ to)
    → RowsTell made s.received s.rows → RowsTell made (tables_after_reply judge now m s).received (tables_after_reply judge now m s).rows
reply-rows publication made judge now sent (reply.Joined m) s judges sorted none out knows f = f
reply-rows publication made judge now sent (reply.Uploaded m) s judges sorted none out knows f = received-rows made s.received m.received s.rows (uploaded-least publication sent m s (seq_of (reply.Uploaded m)) none out knows) f
reply-rows publication made judge now sent (reply.Ranged m) s judges sorted none out knows f = f
reply-rows publication made judge now sent (reply.Downloaded m) s judges sorted none out knows f =
    (items-told made judge m.received m.items (map (row_above m.received) s.rows) (λ key. judges key m.received)
    (received-rows made s.received m.received s.rows (downloaded-least publication sent m s none) f, received-sorted m.received s.rows sorted.rows_ascend)).0
reply-rows publication made judge now sent (reply.Refused number values) s judges sorted none out knows f = f

pub reply-site : (judge : SubscriberJudge) (now : Moment) (m : Reply) (s : SubscriberTables) → (tables_after_reply judge now m s).site.0 ≡ s.site.0
reply-site judge now (reply.Joined m) s = refl
reply-site judge now (reply.Uploaded m) s = refl
reply-site judge now (reply.Ranged m) s = refl
reply-site judge now (reply.Downloaded m) s = refl
reply-site judge now (reply.Refused number values) s = refl

version-rows : (made : List MadeChange) (c : MadeChange) (now : Moment) (held : List (ℕ × Holder)) (s : SubscriberTables) (found : Option Version) → is_some found ≡ true → c.generation ≡ subscriber_last_closed s + 1 → InOrder s.changes (subscriber_last_closed s + 1) made → RowsTell made s.received s.rows
    → (let u : SubscriberTables = record (subscriber_at_moment now s) { changes = s.changes + 1; held = held } in RowsTell (c ∷ made) (with_version_if c.key found u).received (with_version_if c.key found u).rows)
version-rows made c now held s None there stands o f = absurd (grind (arith, there))
version-rows made c now held s (Some version) there stands o f = change-rows s.changes (subscriber_last_closed s + 1) made c stands o s.received s.rows version f

pub version-site : (key : Key) (found : Option Version) (u : SubscriberTables) → (with_version_if key found u).site.0 ≡ u.site.0
version-site key None u = refl
version-site key (Some version) u = refl

-- What each way keeps.

module _ (publication : Publication) (says : Saying) where
  -- a step of a subscriber that leaves its rows
  stays : (w : World) (h : History) (s t : SubscriberTables) → Unsent w h → subscriber_at w s.site ≡ Some s → t.site.0 ≡ s.site.0 → t.received ≡ s.received → t.rows ≡ s.rows → Unsent (with_subscriber t w) h
  stays w h s t u at site received rows = same-rows w h h s t u at (λ n named. refl) site
      (λ named f. subst (λ (k : ℕ). RowsTell (made_at h s.site.0) k t.rows) (sym received) (subst (λ (es : List (Key × SubscriberRow)). RowsTell (made_at h s.site.0) s.received es) (sym rows) f))

  change-kept : (w : World) (h : History) (s : SubscriberTables) (change : Change) (d : Value × List (ℕ × Holder)) → Base w h → Unsent w h → subscriber_at w s.site ≡ Some s → (s.site.0 ≡ 0 → ⊥) → subscriber_local_refusal publication change s ≡ None
      → Unsent (with_subscriber (subscriber_made_locally publication change d (subscriber_at_moment w.moment s)).0 w) (Noting.with_change publication (subscriber_next_dot s) (subscriber_last_closed s + 1) change d.0 h)
  change-kept w h s change d b u at named fine =
      let key : Key = key_of (subscriber_next_dot s) change in
      let c : MadeChange = Noting.made_change publication (subscriber_next_dot s) (subscriber_last_closed s + 1) change d.0 key (past_after publication (subscriber_next_dot s) change (past_at h s.site.0 key)) in
      let k : History = Noting.with_change publication (subscriber_next_dot s) (subscriber_last_closed s + 1) change d.0 h in
      let v : SubscriberTables = record (subscriber_at_moment w.moment s) { changes = s.changes + 1; held = d.1 } in
      let found : Option Version = version_after publication (subscriber_next_dot s) d.0 change (subscriber_version_at s key) in
      let t : SubscriberTables = with_version_if key found v in
      let same : made_at k s.site.0 ≡ c ∷ made_at h s.site.0 = made-same h c in
      let o : InOrder s.changes (subscriber_last_closed s + 1) (made_at h s.site.0) = (b.1.0.subscribers s.site.0 s at).order named in
      unsent-on w h k s t u (λ n other differs. made-other h c n differs)
      (λ other. subst (λ (made : List MadeChange). RowsTell made t.received t.rows) (sym same)
      (version-rows (made_at h s.site.0) c w.moment d.1 s found (row-there publication change d.0 s fine) refl o (u s.site.0 s named at))) (version-site key found v)

  anew-kept : (w : World) (h : History) (s : SubscriberTables) → Base w h → Unsent w h → subscriber_at w s.site ≡ Some s
      → (let judge : SubscriberJudge = by_made h s.site in Unsent (with_subscriber (result_of_reinit judge (subscriber_at_moment w.moment s)).0 w) (Noting.noted_anew judge s h))
  anew-kept w h s b u at =
      let judge : SubscriberJudge = by_made h s.site in
      let k : History = Noting.noted_anew judge s h in
      let a : Alike h k = anew-keep (λ (x : History). Alike h x) (alike-notes h) judge s h (alike-itself h) in
      let c : SubscriberTables = subscriber_closed (subscriber_at_moment w.moment s) in
      let closing = closing-tells (made_at h s.site.0) s.site.0 w.moment s (b.1.0.subscribers s.site.0 s at) in
      same-rows w h k s (result_of_reinit judge (subscriber_at_moment w.moment s)).0 u at a.made refl
      (λ named f. anew-rows c.changes (subscriber_last_closed c) (made_at h s.site.0) (order-closed c.changes (subscriber_last_closed c + 1) (subscriber_last_closed c) (made_at h s.site.0) (closing.order named) (closing.idle (filling-closed s.gens.filling))))

  reply-kept : (w : World) (h : History) (s : SubscriberTables) (number : ℕ) (m : Reply) (sent : Outstanding) → Base w h → Unsent w h → subscriber_at w s.site ≡ Some s → s.outstanding ≡ Some (seq_of m, sent) → reply_fault publication sent m s ≡ None
      → (let judge : SubscriberJudge = by_made h s.site in Unsent (with_subscriber (tables_after_reply judge w.moment m s) w) (Noting.noted_reply judge s.site (pasts_with h number) m h))
  reply-kept w h s number m sent b u at out none =
      let judge : SubscriberJudge = by_made h s.site in
      let k : History = Noting.noted_reply judge s.site (pasts_with h number) m h in
      let a : Alike h k = reply-keep (λ (x : History). Alike h x) (alike-notes h) judge s.site (pasts_with h number) m h (alike-itself h) in
      let sorted : SubscriberIsSorted s = all-found SubscriberIsSorted w.subscribers s.site.0 s b.1.1 at in
      same-rows w h k s (tables_after_reply judge w.moment m s) u at a.made (reply-site judge w.moment m s)
      (λ named f. reply-rows publication (made_at h s.site.0) judge w.moment sent m s (λ key received. refl) sorted none out (b.1.0.subscribers s.site.0 s at).sent f)

  pub unsent-keeps : StepsKeep publication says Base Unsent
  unsent-keeps = record {
    moment = λ w h now b u. u;
    own_change = λ w h change d b u fine is. (let judge : PublisherJudge = by_past h (pasts_with h 0) in
        unsent-alike w h (own_noted publication judge change d (here w) h) (own-keep (λ (x : History). Alike h x) (alike-notes h) publication judge change d (here w) h (alike-itself h)).made u);
    own_closing = λ w h b u. u;
    forgetting = λ w h b u. (let judge : PublisherJudge = by_past h (pasts_with h 0) in
        unsent-alike w h (Noting.noted_purge publication judge (here w) h) (purge-keep (λ (x : History). Alike h x) (alike-notes h) publication judge (here w) h (alike-itself h)).made u);
    same = λ w h s b u at. stays w h s s u at refl refl refl;
    subscriber_change = λ w h s change d b u at named fine is. change-kept w h s change d b u at named fine;
    subscriber_closing = λ w h s b u at. stays w h s (subscriber_closed (subscriber_at_moment w.moment s)) u at refl refl refl;
    anew = λ w h s b u at. anew-kept w h s b u at;
    sends_join = λ w h s b u at joining. stays w h s (with_message ask.Join s) u at refl refl refl;
    sends_upload = λ w h s b u at fine. stays w h s (upload_sent (by_made h s.site) (subscriber_closed (subscriber_at_moment w.moment s))).0 u at refl refl refl;
    sends_ranges = λ w h s b u at fine. stays w h s (with_message ask.Ranges s) u at refl refl refl;
    sends_ask = λ w h s b u at fine. stays w h s (with_message (ask.Download s.watermark) s) u at refl refl refl;
    joins = λ w h number m b u at fine acts. unsent-alike w h (join_noted (by_past h (pasts_with h number)) m w.publisher h) (joined-alike publication says h (by_past h (pasts_with h number)) m w.publisher).made u;
    joins_again = λ w h number m b u at acts. u;
    uploads = λ w h number m b u at fine news. (let judge : PublisherJudge = by_past h (pasts_with h number) in
        unsent-alike w h (Noting.with_acts_noted publication judge m (acts_in publication says judge m w) (pasts_with h number) (here w) h) (uploaded-alike publication says judge m (pasts_with h number) w h).made u);
    uploads_again = λ w h number m b u at none. u;
    answers_ranges = λ w h site m b u. u;
    answers_ask = λ w h number site m b u at fine. u;
    replies = λ w h s number m sent b u at there out none. reply-kept w h s number m sent b u at out none;
  }

unsent-begins : (publication : Publication) (tallies : List ℕ) → Unsent (empty_world publication tallies) no_history
unsent-begins publication tallies n s named at = begins-with publication (λ (k : ℕ) (t : SubscriberTables). RowsTell [] t.received t.rows)
    (λ k site keyed. record { unsent = λ key above up. refl; between = λ key from to up. refl }) n s at

sorted-begins : (publication : Publication) (es : List (ℕ × Subscription)) → AllByRecursion (λ (entry : ℕ × SubscriberTables). SubscriberIsSorted entry.1) (map (λ (s : ℕ × Subscription). (s.0, empty_subscriber publication s.1.site)) es)
unfolding IsStrictlySortedBy
sorted-begins publication [] = tt
sorted-begins publication (e ∷ es) = (
  record { rows_ascend = tt; generations_ascend = record { unfilled = omega arith; ascending = λ i j d before within. absurd (omega arith); closed = λ i d within. absurd (omega arith) } },
  sorted-begins publication es,
)

-- what is known besides is kept too
base-step : (publication : Publication) (says : Saying) (m : Model) (action : Action) → Base m.world m.history → (let n : Model = (model_step publication says m action).0 in Base n.world n.history)
base-step publication says m action b = (
  model-fine publication says m action b.0,
  (
    step-keeps publication says Received Numbered (λ w h r. r) (numbered-keeps publication says) m action b.0 b.1.0,
    step-sub-sorted publication says (by_history m.history) m.world action b.1.1,
  ),
)

pub unsent-by-actions : (publication : Publication) (says : Saying) (tallies : List ℕ) (slips : Slips) (actions : List Action)
    → (let m : Model = model_behind_actions publication says tallies slips actions in Base m.world m.history × Unsent m.world m.history)
unsent-by-actions publication says tallies slips actions = failing-actions-keep publication (model publication says) (λ (m : Model). Base m.world m.history × Unsent m.world m.history)
    (λ m action i. (base-step publication says m action i.0, step-keeps publication says Base Unsent (λ w h b. b.0) (unsent-keeps publication says) m action i.0 i.1))
    (λ m others i. ((received-tallied m.world others m.history i.0.0, (numbered-tallied m.world others m.history i.0.1.0, i.0.1.1)), i.1)) actions (faulty (empty_model publication tallies) slips)
    ((begins publication tallies, (numbered-begins publication tallies, sorted-begins publication (by_site publication))), unsent-begins publication tallies)

pub unsent-always : (publication : Publication) (says : Saying) (tallies : List ℕ) (slips : Slips) (events : List Event)
    → (let m : Model = model_behind publication says tallies slips events in Base m.world m.history × Unsent m.world m.history)
unsent-always publication says tallies slips events = of-events publication says tallies slips events (λ (m : Model). Base m.world m.history × Unsent m.world m.history) (unsent-by-actions publication says tallies slips)

-- what a subscriber decides
pub decides-alike : (m : Model) → Base m.world m.history → Unsent m.world m.history → (s : SubscriberTables) → (s.site.0 ≡ 0 → ⊥) → at_number m.world.subscribers s.site.0 ≡ Some s → SubscriberDecidesAlike m s
decides-alike m b u s named at =
    let f : RowsTell (made_at m.history s.site.0) s.received s.rows = u s.site.0 s named at in
    let o : InOrder s.changes (subscriber_last_closed s + 1) (made_at m.history s.site.0) = (b.1.0.subscribers s.site.0 s at).order named in
    let sorted : SubscriberIsSorted s = all-found SubscriberIsSorted m.world.subscribers s.site.0 s b.1.1 at in
    record {
      changed_between = λ from to up. changed-same from to s.received s.changes (subscriber_last_closed s + 1) s.rows (made_at m.history s.site.0) up sorted.rows_ascend o f;
      is_unsent = λ received key up. f.unsent key received up;
    }
