-- Every step keeps how many changes a site's generations have.
use Rattle.std.specs.Prelude.{Bool, List, None, Option, Some, [], cond, false, if◌then◌else◌, is_some, refl, true, ℕ, ◌%◌, ◌+◌, ◌-◌, ◌/◌, ◌<◌, ◌==◌, ◌≡◌, ◌≤◌, ◌∷◌}
use Rattle.std.proofs.Common.{ap, arith, subst, sym, ◌∙◌}
use Rattle.std.proofs.lemmas.Bool.Decides.{nat_tests}
use Rattle.std.proofs.lemmas.List.Sums.{sum_by-cons}
use Rattle.merge_types.specs.Limits.{entry_limit}
use Rattle.merge_types.specs.declared.changes.Change.{Change}
use Rattle.merge_types.specs.declared.identifiers.Moment.{Moment}
use Rattle.merge_types.specs.declared.row_key.RowKey.{RowKey as Key}
use Rattle.merge_types.specs.declared.values.Value.{Value}
use Rattle.merge_units.specs.declared.version.Version.{Version}
use Rattle.merge_gens.specs.declared.filling.Filling.{Filling}
use Rattle.merge_ident.specs.Holders.{Holder}
use Rattle.merge_schema.specs.declared.publication.Publication.{Publication}
use Rattle.merge_batch.specs.declared.reply.Reply.{Reply}
use Rattle.merge_batch.specs.declared.reply.Reply.TheVariants as reply
use Rattle.merge_batch.specs.declared.request.Outstanding.{Outstanding}
use Rattle.merge_batch.specs.declared.request.Outstanding.TheVariants as ask
use Rattle.merge_model.specs.Judge.ByHistory.{by_made, by_past}
use Rattle.merge_model.specs.Tables.Changes.{key_of, version_after}
use Rattle.merge_model.specs.History.{History, MadeChange, made_at, no_history, past_at, pasts_with}
use Rattle.merge_model.specs.Judge.{SubscriberJudge}
use Rattle.merge_model.specs.Laws.{SubscriberIsSorted}
use Rattle.merge_model.specs.History.Noting
use Rattle.merge_model.specs.History.Pasts.{past_after}
use Rattle.merge_model.specs.Subscriber.Reinit.{result_of_reinit}
use Rattle.merge_model.specs.Subscriber.Sending.{upload_sent, with_message}
use Rattle.merge_model.specs.Subscriber.{subscriber_at_moment, subscriber_closed, subscriber_last_closed, subscriber_local_refusal, subscriber_made_locally, subscriber_next_dot, subscriber_version_at, with_version_if}
use Rattle.merge_model.specs.Tables.{SubscriberTables}
use Rattle.merge_model.specs.Subscriber.Taking.{tables_after_reply}
use Rattle.merge_model.specs.World.{Saying, World, empty_world, subscriber_at, with_subscriber}
use Rattle.merge_model.proofs.Lists.Finding.{found-named}
use Rattle.merge_laws.specs.Facts.Numbered.{InOrder}
use Rattle.merge_laws.proofs.Runs.Ground.{Ground}
use Rattle.merge_laws.proofs.Received.Models.{begins-with}
use Rattle.merge_laws.proofs.Walking.Noted.{anew-keep, own-keep, purge-keep, reply-keep}
use Rattle.merge_laws.proofs.Numbered.Numbers.{Alike, alike-itself, alike-notes, made-other, made-same}
use Rattle.merge_laws.proofs.Numbered.Telling.{row-there}
use Rattle.merge_laws.proofs.Numbered.Tellings.{joined-alike, lined, uploaded-alike}
use Rattle.merge_laws.proofs.Unsent.UnsentKept.{all-found, reply-site, version-site}
use Rattle.merge_laws.proofs.Walking.{StepsKeep, here, join_noted, own_noted}
use Rattle.merge_honest.specs.Filled.{AreFilled, IsFilled, count_in}
use Rattle.merge_honest.proofs.PutFound.{put-beside, put-each}

-- Counts.

pub counts-more : (generation : ℕ) (c : MadeChange) (made : List MadeChange) → count_in generation (c ∷ made) ≡ cond (c.generation == generation) 1 0 + count_in generation made
counts-more generation c made = sum_by-cons (λ (change : MadeChange). cond (change.generation == generation) 1 0) c made

-- behind the open generation there is none
none-behind : (behind number generation : ℕ) (made : List MadeChange) → generation < behind → InOrder number generation made → count_in behind made ≡ 0
none-behind behind number generation [] low o = refl
none-behind behind number generation (c ∷ made) low o =
    let up = o.1.1.0 in
    let rest = none-behind behind (number - 1) c.generation made (omega (arith, low, up)) o.1.1.1.1 in
    grind (arith, nat_tests, counts-more behind c made, rest, low, up)

-- A closing.

pub closed-by : (counted : ℕ → ℕ) (filling : Filling) (b : Bool) → (filling.filled == 0) ≡ b → counted (filling.last_closed + 1) ≡ filling.filled → counted (filling.last_closed + 1 + 1) ≡ 0
    → (let after : Filling = if b then filling else record { last_closed = filling.last_closed + 1; filled = 0 } in counted (after.last_closed + 1) ≡ after.filled)
closed-by counted filling true e same none = same
closed-by counted filling false e same none = none

closing-filled : (made : List MadeChange) (now : Moment) (s : SubscriberTables) → InOrder s.changes (subscriber_last_closed s + 1) made → IsFilled made s → IsFilled made (subscriber_closed (subscriber_at_moment now s))
closing-filled made now s order f = record {
  few = f.few;
  entered = closed-by (λ (generation : ℕ). count_in generation made) s.gens.filling (s.gens.filling.filled == 0) refl f.entered (none-behind (subscriber_last_closed s + 1 + 1) s.changes (subscriber_last_closed s + 1) made (omega arith) order);
}

-- A change: one entry in the open generation.

pub entered-by : (counted more : ℕ → ℕ) (last filled : ℕ) (b : Bool) → (filled + 1 == entry_limit) ≡ b → filled < entry_limit → counted (last + 1) ≡ filled → counted (last + 1 + 1) ≡ 0 → ((generation : ℕ) → more generation ≡ cond (last + 1 == generation) 1 0 + counted generation)
    → more (last + (filled + 1) / entry_limit + 1) ≡ (filled + 1) % entry_limit
entered-by counted more last filled true full low here behind each =
    let is : filled ≡ 999 = grind (arith, nat_tests, full) in
    let place : last + (filled + 1) / entry_limit + 1 ≡ last + 1 + 1 = omega (arith, is) in
    let next = each (last + 1 + 1) in
    ap more place ∙ (let none : more (last + 1 + 1) ≡ (filled + 1) % entry_limit = grind (arith, nat_tests, next, behind, is) in none)
entered-by counted more last filled false full low here behind each =
    let is : filled < 999 = grind (arith, nat_tests, full, low) in
    let place : last + (filled + 1) / entry_limit + 1 ≡ last + 1 = omega (arith, is) in
    let rest : (filled + 1) % entry_limit ≡ filled + 1 = omega (arith, is) in
    let next = each (last + 1) in
    ap more place ∙ (let same : more (last + 1) ≡ filled + 1 = grind (arith, nat_tests, next, here) in same) ∙ sym rest

pub few-more : (counted more : ℕ → ℕ) (last filled generation : ℕ) → filled < entry_limit → counted (last + 1) ≡ filled → counted generation ≤ entry_limit → more generation ≡ cond (last + 1 == generation) 1 0 + counted generation → more generation ≤ entry_limit
few-more counted more last filled generation low here up each = elim (last + 1 == generation) as (λ (b : Bool). (last + 1 == generation) ≡ b → more generation ≤ entry_limit) [
  | true ↦ (λ e. (let same : last + 1 ≡ generation = grind (arith, nat_tests, e) in let count : counted generation ≡ filled = ap counted (sym same) ∙ here in grind (arith, nat_tests, e, count, each, low)))
  | false ↦ (λ e. grind (arith, nat_tests, e, each, up))
] refl

module _ (made : List MadeChange) (c : MadeChange) (s : SubscriberTables) (at : c.generation ≡ subscriber_last_closed s + 1) (order : InOrder s.changes (subscriber_last_closed s + 1) made) (low : s.gens.filling.filled < entry_limit) (f : IsFilled made s) where
  counted-here : (generation : ℕ) → count_in generation (c ∷ made) ≡ cond (subscriber_last_closed s + 1 == generation) 1 0 + count_in generation made
  counted-here generation = counts-more generation c made ∙ ap (λ (k : ℕ). cond (k == generation) 1 0 + count_in generation made) at

  version-filled : (now : Moment) (held : List (ℕ × Holder)) (key : Key) (found : Option Version) → is_some found ≡ true
      → (let u : SubscriberTables = record (subscriber_at_moment now s) { changes = s.changes + 1; held = held } in IsFilled (c ∷ made) (with_version_if key found u))
  version-filled now held key None there = absurd (grind (arith, there))
  version-filled now held key (Some version) there =
      let counted : ℕ → ℕ = λ (generation : ℕ). count_in generation made in
      let more : ℕ → ℕ = λ (generation : ℕ). count_in generation (c ∷ made) in
      let filled : ℕ = s.gens.filling.filled in
      record {
        few = λ generation. few-more counted more (subscriber_last_closed s) filled generation low f.entered (f.few generation) (counted-here generation);
        entered = entered-by counted more (subscriber_last_closed s) filled (filled + 1 == entry_limit) refl low f.entered (none-behind (subscriber_last_closed s + 1 + 1) s.changes (subscriber_last_closed s + 1) made (omega arith) order) counted-here;
      }

-- A reply leaves the open generation.
reply-filled : (made : List MadeChange) (judge : SubscriberJudge) (now : Moment) (m : Reply) (s : SubscriberTables) → IsFilled made s → IsFilled made (tables_after_reply judge now m s)
reply-filled made judge now (reply.Joined m) s f = record { few = f.few; entered = f.entered }
reply-filled made judge now (reply.Uploaded m) s f = record { few = f.few; entered = f.entered }
reply-filled made judge now (reply.Ranged m) s f = record { few = f.few; entered = f.entered }
reply-filled made judge now (reply.Downloaded m) s f = record { few = f.few; entered = f.entered }
reply-filled made judge now (reply.Refused number values) s f = record { few = f.few; entered = f.entered }

sent-filled : (made : List MadeChange) (sent : Outstanding) (s : SubscriberTables) → IsFilled made s → IsFilled made (with_message sent s)
sent-filled made sent s f = record { few = f.few; entered = f.entered }

-- Worlds.

-- no change but the publisher's is new
abbrev SameMade : History → History → Type 0
SameMade h k = (n : ℕ) → (n ≡ 0 → ⊥) → made_at k n ≡ made_at h n

module _ (publication : Publication) (says : Saying) where
  -- the same changes but for the publisher's
  alike-filled : (w : World) (h k : History) → Ground publication w h → SameMade h k → AreFilled w h → AreFilled w k
  alike-filled w h k g same f n s at = subst (λ (made : List MadeChange). IsFilled made s) (sym (same n (λ zero. found-named w.subscribers n s g.none at zero))) (f n s at)

  here-filled : (w : World) (h : History) (s : SubscriberTables) → AreFilled w h → subscriber_at w s.site ≡ Some s → IsFilled (made_at h s.site.0) s
  here-filled w h s f at = f s.site.0 s at

  subscriber-on : (w : World) (h : History) (s t : SubscriberTables) → t.site.0 ≡ s.site.0 → IsFilled (made_at h s.site.0) t → AreFilled w h → AreFilled (with_subscriber t w) h
  subscriber-on w h s t same new f = put-each (λ (n : ℕ) (x : SubscriberTables). IsFilled (made_at h n) x) w.subscribers s t same new f

  order-at : (w : World) (h : History) (s : SubscriberTables) → Ground publication w h → subscriber_at w s.site ≡ Some s → InOrder s.changes (subscriber_last_closed s + 1) (made_at h s.site.0)
  order-at w h s g at = (g.numbered.subscribers s.site.0 s at).order (λ zero. found-named w.subscribers s.site.0 s g.none at zero)

  unfilled-at : (w : World) (h : History) (s : SubscriberTables) → Ground publication w h → subscriber_at w s.site ≡ Some s → s.gens.filling.filled < entry_limit
  unfilled-at w h s g at = (all-found SubscriberIsSorted w.subscribers s.site.0 s g.rows at).generations_ascend.unfilled

  change-filled : (w : World) (h : History) (s : SubscriberTables) (change : Change) (d : Value × List (ℕ × Holder)) → Ground publication w h → AreFilled w h → subscriber_at w s.site ≡ Some s → subscriber_local_refusal publication change s ≡ None
      → AreFilled (with_subscriber (subscriber_made_locally publication change d (subscriber_at_moment w.moment s)).0 w) (Noting.with_change publication (subscriber_next_dot s) (subscriber_last_closed s + 1) change d.0 h)
  change-filled w h s change d g f at fine =
      let key : Key = key_of (subscriber_next_dot s) change in
      let c : MadeChange = Noting.made_change publication (subscriber_next_dot s) (subscriber_last_closed s + 1) change d.0 key (past_after publication (subscriber_next_dot s) change (past_at h s.site.0 key)) in
      let k : History = Noting.with_change publication (subscriber_next_dot s) (subscriber_last_closed s + 1) change d.0 h in
      let t : SubscriberTables = (subscriber_made_locally publication change d (subscriber_at_moment w.moment s)).0 in
      let new : IsFilled (c ∷ made_at h s.site.0) t = version-filled (made_at h s.site.0) c s refl (order-at w h s g at) (unfilled-at w h s g at) (here-filled w h s f at) w.moment d.1 key (version_after publication (subscriber_next_dot s) d.0 change (subscriber_version_at s key)) (row-there publication change d.0 s fine) in
      put-beside (λ (n : ℕ) (x : SubscriberTables). IsFilled (made_at k n) x) w.subscribers s t (version-site _ _ _)
      (subst (λ (made : List MadeChange). IsFilled made t) (sym (made-same h c)) new)
      (λ n x differs there. subst (λ (made : List MadeChange). IsFilled made x) (sym (made-other h c n differs)) (f n x there))

  anew-filled : (w : World) (h : History) (s : SubscriberTables) → Ground publication w h → AreFilled w h → subscriber_at w s.site ≡ Some s
      → (let judge : SubscriberJudge = by_made h s.site in AreFilled (with_subscriber (result_of_reinit judge (subscriber_at_moment w.moment s)).0 w) (Noting.noted_anew judge s h))
  anew-filled w h s g f at =
      let judge : SubscriberJudge = by_made h s.site in
      let k : History = Noting.noted_anew judge s h in
      let a : Alike h k = anew-keep (λ (x : History). Alike h x) (alike-notes h) judge s h (alike-itself h) in
      let c : IsFilled (made_at h s.site.0) (subscriber_closed (subscriber_at_moment w.moment s)) = closing-filled (made_at h s.site.0) w.moment s (order-at w h s g at) (here-filled w h s f at) in
      let same : made_at k s.site.0 ≡ made_at h s.site.0 = a.made s.site.0 (λ zero. found-named w.subscribers s.site.0 s g.none at zero) in
      subscriber-on w k s (result_of_reinit judge (subscriber_at_moment w.moment s)).0 refl
      (subst (λ (made : List MadeChange). IsFilled made (result_of_reinit judge (subscriber_at_moment w.moment s)).0) (sym same) (record { few = c.few; entered = c.entered }))
      (alike-filled w h k g a.made f)

  pub filled-keeps : StepsKeep publication says (Ground publication) AreFilled
  filled-keeps = record {
    moment = λ w h now g f. f;
    own_change = λ w h change d g f fine is. alike-filled w h (own_noted publication (by_past h (pasts_with h 0)) change d (here w) h) g (own-keep (λ (x : History). Alike h x) (alike-notes h) publication (by_past h (pasts_with h 0)) change d (here w) h (alike-itself h)).made f;
    own_closing = λ w h g f. f;
    forgetting = λ w h g f. alike-filled w h (Noting.noted_purge publication (by_past h (pasts_with h 0)) (here w) h) g (purge-keep (λ (x : History). Alike h x) (alike-notes h) publication (by_past h (pasts_with h 0)) (here w) h (alike-itself h)).made f;
    same = λ w h s g f at. subscriber-on w h s s refl (here-filled w h s f at) f;
    subscriber_change = λ w h s change d g f at named fine is. change-filled w h s change d g f at fine;
    subscriber_closing = λ w h s g f at. subscriber-on w h s (subscriber_closed (subscriber_at_moment w.moment s)) refl (closing-filled (made_at h s.site.0) w.moment s (order-at w h s g at) (here-filled w h s f at)) f;
    anew = λ w h s g f at. anew-filled w h s g f at;
    sends_join = λ w h s g f at joining. subscriber-on w h s (with_message ask.Join s) refl (sent-filled (made_at h s.site.0) ask.Join s (here-filled w h s f at)) f;
    sends_upload = λ w h s g f at fine. (let c : SubscriberTables = subscriber_closed (subscriber_at_moment w.moment s) in
        subscriber-on w h s (upload_sent (by_made h s.site) c).0 refl (sent-filled (made_at h s.site.0) _ c (closing-filled (made_at h s.site.0) w.moment s (order-at w h s g at) (here-filled w h s f at))) f);
    sends_ranges = λ w h s g f at fine. subscriber-on w h s (with_message ask.Ranges s) refl (sent-filled (made_at h s.site.0) ask.Ranges s (here-filled w h s f at)) f;
    sends_ask = λ w h s g f at fine. subscriber-on w h s (with_message (ask.Download s.watermark) s) refl (sent-filled (made_at h s.site.0) (ask.Download s.watermark) s (here-filled w h s f at)) f;
    joins = λ w h number m g f at fine acts. alike-filled w h (join_noted (by_past h (pasts_with h number)) m w.publisher h) g (joined-alike publication says h (by_past h (pasts_with h number)) m w.publisher).made f;
    joins_again = λ w h number m g f at acts. f;
    uploads = λ w h number m g f at fine news. alike-filled w h (lined publication says (by_past h (pasts_with h number)) m (pasts_with h number) w h) g (uploaded-alike publication says (by_past h (pasts_with h number)) m (pasts_with h number) w h).made f;
    uploads_again = λ w h number m g f at none. f;
    answers_ranges = λ w h site m g f. f;
    answers_ask = λ w h number site m g f at fine. f;
    replies = λ w h s number m sent g f at there out none. (let judge : SubscriberJudge = by_made h s.site in
        let a : Alike h (Noting.noted_reply judge s.site (pasts_with h number) m h) = reply-keep (λ (x : History). Alike h x) (alike-notes h) judge s.site (pasts_with h number) m h (alike-itself h) in
        let k : History = Noting.noted_reply judge s.site (pasts_with h number) m h in
        let t : SubscriberTables = tables_after_reply judge w.moment m s in
        let j : AreFilled w k = alike-filled w h k g a.made f in
        subscriber-on w k s t (reply-site judge w.moment m s) (reply-filled (made_at k s.site.0) judge w.moment m s (here-filled w k s j at)) j);
  }

pub filled-begins : (publication : Publication) (tallies : List ℕ) → AreFilled (empty_world publication tallies) no_history
filled-begins publication tallies n s at = begins-with publication (λ (k : ℕ) (t : SubscriberTables). IsFilled [] t) (λ k site keyed. record { few = λ generation. omega arith; entered = refl }) n s at
