-- In each generation that a site closed it made a change.
use Rattle.std.specs.Prelude.{Bool, List, None, Option, Some, [], cond, false, if◌then◌else◌, is_some, refl, true, ℕ, ◌+◌, ◌/◌, ◌<◌, ◌==◌, ◌≡◌, ◌≤◌, ◌∷◌}
use Rattle.std.proofs.Common.{ap, arith, subst, sym, ◌∙◌}
use Rattle.std.proofs.lemmas.Bool.Decides.{nat_tests}
use Rattle.merge_types.specs.Limits.{entry_limit}
use Rattle.merge_types.specs.declared.changes.Change.{Change}
use Rattle.merge_types.specs.declared.identifiers.Moment.{Moment}
use Rattle.merge_types.specs.declared.row_key.RowKey.{RowKey as Key}
use Rattle.merge_types.specs.declared.values.Value.{Value}
use Rattle.merge_units.specs.declared.version.Version.{Version}
use Rattle.merge_gens.specs.declared.filling.Filling.{Filling}
use Rattle.merge_ident.specs.Holders.{Holder}
use Rattle.merge_schema.specs.declared.publication.Publication.{Publication}
use Rattle.merge_batch.specs.declared.reply.Reply.{Reply}
use Rattle.merge_batch.specs.declared.reply.Reply.TheVariants as reply
use Rattle.merge_batch.specs.declared.request.Outstanding.TheVariants as ask
use Rattle.merge_model.specs.History.Noting
use Rattle.merge_model.specs.History.Pasts.{past_after}
use Rattle.merge_model.specs.History.{History, MadeChange, made_at, no_history, past_at, pasts_with}
use Rattle.merge_model.specs.Judge.ByHistory.{by_made, by_past}
use Rattle.merge_model.specs.Judge.{SubscriberJudge}
use Rattle.merge_model.specs.Laws.{SubscriberIsSorted}
use Rattle.merge_model.specs.Subscriber.Reinit.{result_of_reinit}
use Rattle.merge_model.specs.Subscriber.Sending.{upload_sent, with_message}
use Rattle.merge_model.specs.Subscriber.Taking.{tables_after_reply}
use Rattle.merge_model.specs.Subscriber.{subscriber_at_moment, subscriber_closed, subscriber_last_closed, subscriber_local_refusal, subscriber_made_locally, subscriber_next_dot, subscriber_version_at, with_version_if}
use Rattle.merge_model.specs.Tables.Changes.{key_of, version_after}
use Rattle.merge_model.specs.Tables.Keys.{at_number}
use Rattle.merge_model.specs.Tables.{SubscriberTables}
use Rattle.merge_model.specs.World.{Saying, World, empty_world, subscriber_at, with_subscriber}
use Rattle.merge_model.proofs.Lists.Finding.{found-named}
use Rattle.merge_laws.proofs.Numbered.Numbers.{Alike, alike-itself, alike-notes, made-other, made-same}
use Rattle.merge_laws.proofs.Numbered.Telling.{row-there}
use Rattle.merge_laws.proofs.Numbered.Tellings.{joined-alike, lined, uploaded-alike}
use Rattle.merge_laws.proofs.Received.Models.{begins-with}
use Rattle.merge_laws.proofs.Runs.Ground.{Ground}
use Rattle.merge_laws.proofs.Unsent.UnsentKept.{all-found, reply-site, version-site}
use Rattle.merge_laws.proofs.Walking.Noted.{anew-keep, own-keep, purge-keep, reply-keep}
use Rattle.merge_laws.proofs.Walking.{StepsKeep, here, join_noted, own_noted}
use Rattle.merge_honest.specs.Filled.{AreFilled, IsFilled, count_in}
use Rattle.merge_honest.proofs.Filled.{counts-more}
use Rattle.merge_honest.proofs.PutFound.{put-beside, put-each}

abbrev pub HasChanges : List MadeChange → SubscriberTables → Type 0
HasChanges made s = (generation : ℕ) → 1 ≤ generation → generation ≤ subscriber_last_closed s → 1 ≤ count_in generation made

abbrev pub EachHasChanges : World → History → Type 0
EachHasChanges w h = (n : ℕ) (s : SubscriberTables) → at_number w.subscribers n ≡ Some s → HasChanges (made_at h n) s

-- one generation more
last-or : (counted : ℕ → ℕ) (last generation : ℕ) (b : Bool) → (generation == last + 1) ≡ b → 1 ≤ counted (last + 1) → ((k : ℕ) → 1 ≤ k → k ≤ last → 1 ≤ counted k) → 1 ≤ generation → generation ≤ last + 1 → 1 ≤ counted generation
last-or counted last generation true is some has low up = (let same : generation ≡ last + 1 = grind (arith, nat_tests, is) in subst (λ (k : ℕ). 1 ≤ counted k) (sym same) some)
last-or counted last generation false is some has low up = has generation low (grind (arith, nat_tests, is, up))

-- A closing.

closes-by : (counted : ℕ → ℕ) (filling : Filling) (b : Bool) → (filling.filled == 0) ≡ b → counted (filling.last_closed + 1) ≡ filling.filled → ((k : ℕ) → 1 ≤ k → k ≤ filling.last_closed → 1 ≤ counted k)
    → (let after : Filling = if b then filling else record { last_closed = filling.last_closed + 1; filled = 0 } in (generation : ℕ) → 1 ≤ generation → generation ≤ after.last_closed → 1 ≤ counted generation)
closes-by counted filling true e entered has = has
closes-by counted filling false e entered has = λ generation low up. last-or counted filling.last_closed generation (generation == filling.last_closed + 1) refl (grind (arith, nat_tests, e, entered)) has low up

closing-has : (made : List MadeChange) (now : Moment) (s : SubscriberTables) → IsFilled made s → HasChanges made s → HasChanges made (subscriber_closed (subscriber_at_moment now s))
closing-has made now s f has = closes-by (λ (generation : ℕ). count_in generation made) s.gens.filling (s.gens.filling.filled == 0) refl f.entered has

-- A change.

more-by : (counted more : ℕ → ℕ) (last filled : ℕ) → filled < entry_limit → ((generation : ℕ) → more generation ≡ cond (last + 1 == generation) 1 0 + counted generation) → ((k : ℕ) → 1 ≤ k → k ≤ last → 1 ≤ counted k)
    → (generation : ℕ) → 1 ≤ generation → generation ≤ last + (filled + 1) / entry_limit → 1 ≤ more generation
more-by counted more last filled few each has generation low up =
    let top : generation ≤ last + 1 = omega (arith, few, up) in
    let next : more (last + 1) ≡ cond (last + 1 == last + 1) 1 0 + counted (last + 1) = each (last + 1) in
    last-or more last generation (generation == last + 1) refl (grind (arith, nat_tests, next)) (λ k below above. (let one = has k below above in let same = each k in grind (arith, one, same))) low top

module _ (made : List MadeChange) (c : MadeChange) (s : SubscriberTables) (at : c.generation ≡ subscriber_last_closed s + 1) (few : s.gens.filling.filled < entry_limit) (has : HasChanges made s) where
  counted-here : (generation : ℕ) → count_in generation (c ∷ made) ≡ cond (subscriber_last_closed s + 1 == generation) 1 0 + count_in generation made
  counted-here generation = counts-more generation c made ∙ ap (λ (k : ℕ). cond (k == generation) 1 0 + count_in generation made) at

  version-has : (now : Moment) (held : List (ℕ × Holder)) (key : Key) (found : Option Version) → is_some found ≡ true
      → (let u : SubscriberTables = record (subscriber_at_moment now s) { changes = s.changes + 1; held = held } in HasChanges (c ∷ made) (with_version_if key found u))
  version-has now held key None there = absurd (grind (arith, there))
  version-has now held key (Some version) there = more-by (λ (generation : ℕ). count_in generation made) (λ (generation : ℕ). count_in generation (c ∷ made)) (subscriber_last_closed s) s.gens.filling.filled few counted-here has

-- A reply closes none.
reply-has : (made : List MadeChange) (judge : SubscriberJudge) (now : Moment) (m : Reply) (s : SubscriberTables) → HasChanges made s → HasChanges made (tables_after_reply judge now m s)
reply-has made judge now (reply.Joined m) s has = has
reply-has made judge now (reply.Uploaded m) s has = has
reply-has made judge now (reply.Ranged m) s has = has
reply-has made judge now (reply.Downloaded m) s has = has
reply-has made judge now (reply.Refused number values) s has = has

-- Worlds.

abbrev SameMade : History → History → Type 0
SameMade h k = (n : ℕ) → (n ≡ 0 → ⊥) → made_at k n ≡ made_at h n

module _ (publication : Publication) (says : Saying) where
  -- what is known beside it
  abbrev pub Closing : World → History → Type 0
  Closing w h = Ground publication w h × AreFilled w h

  alike-has : (w : World) (h k : History) → Closing w h → SameMade h k → EachHasChanges w h → EachHasChanges w k
  alike-has w h k b same f n s at = subst (λ (made : List MadeChange). HasChanges made s) (sym (same n (λ zero. found-named w.subscribers n s b.0.none at zero))) (f n s at)

  here-has : (w : World) (h : History) (s : SubscriberTables) → EachHasChanges w h → subscriber_at w s.site ≡ Some s → HasChanges (made_at h s.site.0) s
  here-has w h s f at = f s.site.0 s at

  subscriber-on : (w : World) (h : History) (s t : SubscriberTables) → t.site.0 ≡ s.site.0 → HasChanges (made_at h s.site.0) t → EachHasChanges w h → EachHasChanges (with_subscriber t w) h
  subscriber-on w h s t same new f = put-each (λ (n : ℕ) (x : SubscriberTables). HasChanges (made_at h n) x) w.subscribers s t same new f

  closing-at : (w : World) (h : History) (s : SubscriberTables) → Closing w h → EachHasChanges w h → subscriber_at w s.site ≡ Some s → HasChanges (made_at h s.site.0) (subscriber_closed (subscriber_at_moment w.moment s))
  closing-at w h s b f at = closing-has (made_at h s.site.0) w.moment s (b.1 s.site.0 s at) (here-has w h s f at)

  change-has : (w : World) (h : History) (s : SubscriberTables) (change : Change) (d : Value × List (ℕ × Holder)) → Closing w h → EachHasChanges w h → subscriber_at w s.site ≡ Some s → subscriber_local_refusal publication change s ≡ None
      → EachHasChanges (with_subscriber (subscriber_made_locally publication change d (subscriber_at_moment w.moment s)).0 w) (Noting.with_change publication (subscriber_next_dot s) (subscriber_last_closed s + 1) change d.0 h)
  change-has w h s change d b f at fine =
      let key : Key = key_of (subscriber_next_dot s) change in
      let c : MadeChange = Noting.made_change publication (subscriber_next_dot s) (subscriber_last_closed s + 1) change d.0 key (past_after publication (subscriber_next_dot s) change (past_at h s.site.0 key)) in
      let k : History = Noting.with_change publication (subscriber_next_dot s) (subscriber_last_closed s + 1) change d.0 h in
      let t : SubscriberTables = (subscriber_made_locally publication change d (subscriber_at_moment w.moment s)).0 in
      let sorted : SubscriberIsSorted s = all-found SubscriberIsSorted w.subscribers s.site.0 s b.0.rows at in
      let new : HasChanges (c ∷ made_at h s.site.0) t = version-has (made_at h s.site.0) c s refl sorted.generations_ascend.unfilled (here-has w h s f at) w.moment d.1 key (version_after publication (subscriber_next_dot s) d.0 change (subscriber_version_at s key)) (row-there publication change d.0 s fine) in
      put-beside (λ (n : ℕ) (x : SubscriberTables). HasChanges (made_at k n) x) w.subscribers s t (version-site _ _ _)
      (subst (λ (made : List MadeChange). HasChanges made t) (sym (made-same h c)) new)
      (λ n x differs there. subst (λ (made : List MadeChange). HasChanges made x) (sym (made-other h c n differs)) (f n x there))

  anew-has : (w : World) (h : History) (s : SubscriberTables) → Closing w h → EachHasChanges w h → subscriber_at w s.site ≡ Some s
      → (let judge : SubscriberJudge = by_made h s.site in EachHasChanges (with_subscriber (result_of_reinit judge (subscriber_at_moment w.moment s)).0 w) (Noting.noted_anew judge s h))
  anew-has w h s b f at =
      let judge : SubscriberJudge = by_made h s.site in
      let k : History = Noting.noted_anew judge s h in
      let a : Alike h k = anew-keep (λ (x : History). Alike h x) (alike-notes h) judge s h (alike-itself h) in
      let same : made_at k s.site.0 ≡ made_at h s.site.0 = a.made s.site.0 (λ zero. found-named w.subscribers s.site.0 s b.0.none at zero) in
      subscriber-on w k s (result_of_reinit judge (subscriber_at_moment w.moment s)).0 refl
      (subst (λ (made : List MadeChange). HasChanges made (result_of_reinit judge (subscriber_at_moment w.moment s)).0) (sym same) (closing-at w h s b f at))
      (alike-has w h k b a.made f)

  pub has-keeps : StepsKeep publication says Closing EachHasChanges
  has-keeps = record {
    moment = λ w h now b f. f;
    own_change = λ w h change d b f fine is. alike-has w h (own_noted publication (by_past h (pasts_with h 0)) change d (here w) h) b (own-keep (λ (x : History). Alike h x) (alike-notes h) publication (by_past h (pasts_with h 0)) change d (here w) h (alike-itself h)).made f;
    own_closing = λ w h b f. f;
    forgetting = λ w h b f. alike-has w h (Noting.noted_purge publication (by_past h (pasts_with h 0)) (here w) h) b (purge-keep (λ (x : History). Alike h x) (alike-notes h) publication (by_past h (pasts_with h 0)) (here w) h (alike-itself h)).made f;
    same = λ w h s b f at. subscriber-on w h s s refl (here-has w h s f at) f;
    subscriber_change = λ w h s change d b f at named fine is. change-has w h s change d b f at fine;
    subscriber_closing = λ w h s b f at. subscriber-on w h s (subscriber_closed (subscriber_at_moment w.moment s)) refl (closing-at w h s b f at) f;
    anew = λ w h s b f at. anew-has w h s b f at;
    sends_join = λ w h s b f at joining. subscriber-on w h s (with_message ask.Join s) refl (here-has w h s f at) f;
    sends_upload = λ w h s b f at fine. subscriber-on w h s (upload_sent (by_made h s.site) (subscriber_closed (subscriber_at_moment w.moment s))).0 refl (closing-at w h s b f at) f;
    sends_ranges = λ w h s b f at fine. subscriber-on w h s (with_message ask.Ranges s) refl (here-has w h s f at) f;
    sends_ask = λ w h s b f at fine. subscriber-on w h s (with_message (ask.Download s.watermark) s) refl (here-has w h s f at) f;
    joins = λ w h number m b f at fine acts. alike-has w h (join_noted (by_past h (pasts_with h number)) m w.publisher h) b (joined-alike publication says h (by_past h (pasts_with h number)) m w.publisher).made f;
    joins_again = λ w h number m b f at acts. f;
    uploads = λ w h number m b f at fine news. alike-has w h (lined publication says (by_past h (pasts_with h number)) m (pasts_with h number) w h) b (uploaded-alike publication says (by_past h (pasts_with h number)) m (pasts_with h number) w h).made f;
    uploads_again = λ w h number m b f at none. f;
    answers_ranges = λ w h site m b f. f;
    answers_ask = λ w h number site m b f at fine. f;
    replies = λ w h s number m sent b f at there out none. (let judge : SubscriberJudge = by_made h s.site in
        let a : Alike h (Noting.noted_reply judge s.site (pasts_with h number) m h) = reply-keep (λ (x : History). Alike h x) (alike-notes h) judge s.site (pasts_with h number) m h (alike-itself h) in
        let k : History = Noting.noted_reply judge s.site (pasts_with h number) m h in
        let t : SubscriberTables = tables_after_reply judge w.moment m s in
        let j : EachHasChanges w k = alike-has w h k b a.made f in
        subscriber-on w k s t (reply-site judge w.moment m s) (reply-has (made_at k s.site.0) judge w.moment m s (here-has w k s j at)) j);
  }

pub has-begins : (publication : Publication) (tallies : List ℕ) → EachHasChanges (empty_world publication tallies) no_history
has-begins publication tallies n s at = begins-with publication (λ (k : ℕ) (t : SubscriberTables). HasChanges [] t) (λ k site keyed generation low up. absurd (omega (arith, low, up))) n s at
