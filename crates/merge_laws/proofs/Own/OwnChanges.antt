-- A local change, of a subscriber or of the publisher, keeps what is known of own changes.
use Rattle.std.specs.Prelude.{◌≡◌, ◌||◌, ◌≤◌, ◌+◌, ℕ, List, ◌∷◌, true, false, Option, Some, None, refl, is_some}
use Rattle.std.specs.List.{AllByRecursion}
use Rattle.std.proofs.Common.{arith, subst, sym, ap, ◌∙◌}
use Rattle.std.proofs.lemmas.Bool.Decides.{nat_tests}
use Rattle.merge_types.specs.declared.changes.Change.{Change}
use Rattle.merge_types.specs.declared.values.Value.{Value}
use Rattle.merge_units.specs.declared.version.Version.{Version}
use Rattle.merge_ident.specs.Holders.{Holder}
use Rattle.merge_schema.specs.declared.publication.Publication.{Publication}
use Rattle.merge_model.specs.Judge.ByHistory.{by_past}
use Rattle.merge_model.specs.Judge.ByNumbers.{received_by_number}
use Rattle.merge_model.specs.Tables.Changes.{key_of, version_after}
use Rattle.merge_model.specs.History.{History, MadeChange, Past, has, past_at, pasts_with}
use Rattle.merge_model.specs.Judge.{PublisherJudge}
use Rattle.merge_model.specs.Tables.Keys.{at_number, row_at, same_key}
use Rattle.merge_model.specs.History.Model.{Model}
use Rattle.merge_model.specs.History.Noting
use Rattle.merge_model.specs.History.Pasts.{past_after}
use Rattle.merge_model.specs.Publisher.{last_closed}
use Rattle.merge_model.specs.Publisher.PublisherLocal.{Drawn, local_refusal, made_locally, next_dot}
use Rattle.merge_model.specs.Subscriber.{generations_at, with_open, subscriber_at_moment, subscriber_last_closed, subscriber_local_refusal, subscriber_next_dot, subscriber_version_at, with_version_if}
use Rattle.merge_types.specs.declared.row_key.RowKey.{RowKey as Key}
use Rattle.merge_units.specs.declared.site_row.SubscriberRow.{SubscriberRow}
use Rattle.merge_model.specs.Tables.{SubscriberTables}
use Rattle.merge_model.specs.World.{World, subscriber_at, with_publisher, with_subscriber}
use Rattle.merge_laws.specs.Facts.Knowledge.{changes_of}
use Rattle.merge_laws.specs.Facts.LineagesStand.{KnowsAll, counts_in, is_of}
use Rattle.merge_laws.specs.Invariants.Accepting.{accepts}
use Rattle.merge_model.proofs.Lists.Finding.{all-weaker}
use Rattle.merge_laws.proofs.Pasts.HeldRows.{held-put}
use Rattle.merge_model.proofs.Lists.KeyLookUps.{keys-same}
use Rattle.merge_laws.proofs.Own.OwnAccepted.{own-knows, own_key, own_made}
use Rattle.merge_laws.proofs.Own.OwnActs.{own-accepts}
use Rattle.merge_laws.proofs.Own.OwnBase.{Base, LetterFacts, letter-facts, open-behind, own-behind, own-later}
use Rattle.merge_laws.proofs.Own.OwnKnowing.{IsBelow, KnowsOf, after-knows, after-own, making-more, numbers-within}
use Rattle.merge_laws.proofs.Own.OwnLocal.{sub-count, sub-held, sub-none}
use Rattle.merge_laws.proofs.Own.OwnParts.{Rest, at_model, knows-on, one-grows, replies-on, uploads-on}
use Rattle.merge_laws.proofs.Own.OwnPasts.{lines-on, past-but, put-but}
use Rattle.merge_laws.proofs.Own.OwnQuiet.{OwnsRows, on-each, quiet}
use Rattle.merge_laws.proofs.Pasts.PastLookUps.{with-past-same}
use Rattle.merge_model.proofs.Lists.Tests.{if-either}
use Rattle.merge_laws.proofs.Unsent.UnsentKept.{version-site}
use Rattle.merge_laws.proofs.Walking.{here, own_noted}

version-held : (key q : Key) (found : Option Version) (u : SubscriberTables) → same_key q key ≡ false → is_some (row_at (with_version_if key found u).rows q) ≡ true → is_some (row_at u.rows q) ≡ true
version-held key q None u differs is = is
version-held key q (Some version) u differs is =
    let row : SubscriberRow = record { version = version; generations = with_open (subscriber_last_closed u + 1) (generations_at u key) } in
    let both : (same_key q key || is_some (row_at u.rows q)) ≡ true = sym (held-put u.rows key row q) ∙ is in
    grind (arith, both, differs)

-- A change of a subscriber.

module _ (publication : Publication) (w : World) (h : History) (s : SubscriberTables) (change : Change) (d : Value × List (ℕ × Holder)) (b : Base publication w h) (p : Rest w h) (at : subscriber_at w s.site ≡ Some s) (named : s.site.0 ≡ 0 → ⊥) (fine : subscriber_local_refusal publication change s ≡ None) where
  abbrev key : Key
  key = key_of (subscriber_next_dot s) change

  abbrev past : Past
  past = past_after publication (subscriber_next_dot s) change (past_at h s.site.0 key)

  abbrev new_change : MadeChange
  new_change = Noting.made_change publication (subscriber_next_dot s) (subscriber_last_closed s + 1) change d.0 key past

  abbrev found : Option Version
  found = version_after publication (subscriber_next_dot s) d.0 change (subscriber_version_at s key)

  abbrev site_counted : SubscriberTables
  site_counted = record (subscriber_at_moment w.moment s) { changes = s.changes + 1; held = d.1 }

  abbrev site_after : SubscriberTables
  site_after = with_version_if key found site_counted

  abbrev world_after : World
  world_after = with_subscriber site_after w

  abbrev history_after : History
  history_after = Noting.with_change publication (subscriber_next_dot s) (subscriber_last_closed s + 1) change d.0 h

  low : 1 ≤ s.site.0
  low = grind (arith, nat_tests, named)

  knows : KnowsOf h.made (counts_in (at_model w h)) key (is_of s.site.0) past.known
  knows = after-knows publication (subscriber_next_dot s) change (past_at h s.site.0 key) h.made (counts_in (at_model w h)) key (is_of s.site.0) (sub-none publication w h s change b.0.0.known at named b.1.1.0 b.0.1.makers fine)
      (λ other. p.own s.site.0 s key low at (sub-held publication w h s change b.0.0.known at named fine other))

  own-past : has past.known new_change.dot ≡ true
  own-past = after-own publication (subscriber_next_dot s) change (past_at h s.site.0 key)

  below : AllByRecursion (IsBelow h.made (counts_in (at_model w h)) new_change) h.made
  below = all-weaker (λ (x : MadeChange). x.dot.site.0 ≡ s.site.0 → (1 ≤ x.dot.number) × (x.dot.number ≤ changes_of w s.site.0)) (IsBelow h.made (counts_in (at_model w h)) new_change)
      (λ x within same. (let up = (within same).1 in let count = sub-count publication w h s change b.0.0.known at named in omega (arith, up, count))) h.made (numbers-within (changes_of w) h s.site.0 b.0.0.known.numbered)

  here-owns : OwnsRows world_after history_after s.site.0 site_after.rows
  here-owns q first held = subst (λ (x : Past). KnowsAll (at_model world_after history_after) q (is_of s.site.0) x.known) (sym (with-past-same (record h { made = new_change ∷ h.made }) s.site.0 key past q))
      (if-either (λ (x : Past). KnowsAll (at_model world_after history_after) q (is_of s.site.0) x.known) (same_key q key) past (past_at h s.site.0 q)
      (λ same. subst (λ (x : Key). KnowsAll (at_model world_after history_after) x (is_of s.site.0) past.known) (sym (keys-same q key same)) (λ row is counted. own-past, knows))
      (λ differs. (λ row is counted. absurd (grind (arith, row, differs)), p.own s.site.0 s q low at (version-held key q found site_counted differs held))))

  other-owns : (n : ℕ) (x : SubscriberTables) → (n ≡ s.site.0 → ⊥) → at_number w.subscribers n ≡ Some x → OwnsRows world_after history_after n x.rows
  other-owns n x differs is q first held = subst (λ (y : Past). KnowsAll (at_model world_after history_after) q (is_of n) y.known) (sym (past-but s.site.0 h history_after (put-but s.site.0 _ h.pasts h.pasts (λ i apart. refl)) n q differs))
      (λ row own counted. absurd (differs (let same : new_change.dot.site.0 ≡ n = grind (arith, nat_tests, own) in sym same)), p.own n x q first is held)

  -- no reply tells that the open generation was received
  sub-later : (site received : ℕ) (x : MadeChange) → x ≡ new_change → is_of site x ≡ true → x.generation ≤ received → received ≤ received_by_number w.publisher site → ⊥
  sub-later site received x new own up tells =
      let same : s.site.0 ≡ site = (let is : x.dot.site.0 ≡ site = grind (arith, nat_tests, own) in sym (ap (λ (y : MadeChange). y.dot.site.0) new) ∙ is) in
      let gen : x.generation ≡ subscriber_last_closed s + 1 = ap (λ (y : MadeChange). y.generation) new in
      let taken : received_by_number w.publisher s.site.0 ≤ subscriber_last_closed s = (b.0.0.received.subscribers s.site.0 s at).taken in
      let told : received ≤ received_by_number w.publisher s.site.0 = subst (λ (n : ℕ). received ≤ received_by_number w.publisher n) (sym same) tells in
      absurd (omega (arith, gen, taken, told, up))

  pub sub-kept : Rest world_after history_after
  sub-kept =
      let m : Model = at_model w h in
      let n : Model = at_model world_after history_after in
      let New : MadeChange → Type 0 = λ x. x ≡ new_change in
      let facts : AllByRecursion (LetterFacts w) w.pool = letter-facts publication w h b in
      record {
        making = making-more h.made (counts_in m) new_change (omega arith) own-past below knows p.making;
        own = λ site x q first is held. on-each (λ (i : ℕ) (y : SubscriberTables). OwnsRows world_after history_after i y.rows) w.subscribers s.site.0 site_after (version-site key found site_counted) here-owns other-owns site x is q first held;
        uploads = uploads-on m n New (one-grows h.made new_change) (λ x is. is) (LetterFacts w) (λ site. omega arith)
            (λ site up x fits new own to. open-behind w site up s x fits.0 at (ap (λ (y : MadeChange). y.dot.site.0) new) (let gen = ap (λ (y : MadeChange). y.generation) new in omega (arith, gen)) own to)
            (λ site r x fits new own to. sub-later site.0 r.received x new own to fits.1.0) w.pool h.letters facts p.uploads;
        replies = replies-on m n New (one-grows h.made new_change) (λ x is. is) (LetterFacts w) (λ site. omega arith)
            (λ site up x fits new own to. open-behind w site up s x fits.0 at (ap (λ (y : MadeChange). y.dot.site.0) new) (let gen = ap (λ (y : MadeChange). y.generation) new in omega (arith, gen)) own to)
            (λ site r x fits new own to. sub-later site.0 r.received x new own to fits.1.0) w.pool h.letters facts p.replies;
      }

-- A change of the publisher.

module _ (publication : Publication) (w : World) (h : History) (change : Change) (d : Drawn) (b : Base publication w h) (p : Rest w h) (fine : local_refusal publication change w.publisher ≡ None) where
  abbrev made : MadeChange
  made = own_made publication w h change d b.0 b.1.0 fine

  abbrev own_key_here : Key
  own_key_here = own_key publication w h change d b.0 b.1.0 fine

  own-known : KnowsOf h.made (counts_in (at_model w h)) own_key_here (is_of 0) made.past.known
  own-known = all-weaker (λ (x : MadeChange). same_key own_key_here x.key ≡ true → accepts h.accepted x.dot ≡ true → has made.past.known x.dot ≡ true)
      (λ (x : MadeChange). same_key own_key_here x.key ≡ true → is_of 0 x ≡ true → counts_in (at_model w h) x ≡ true → has made.past.known x.dot ≡ true)
      (λ x knew row own counted. knew row (own-accepts h.accepted x.dot (grind (arith, nat_tests, own)))) h.made (own-knows publication w h change d b.0 b.1.0 fine)

  own-below : AllByRecursion (IsBelow h.made (counts_in (at_model w h)) made) h.made
  own-below = all-weaker (λ (x : MadeChange). x.dot.site.0 ≡ 0 → (1 ≤ x.dot.number) × (x.dot.number ≤ w.publisher.changes)) (IsBelow h.made (counts_in (at_model w h)) made)
      (λ x within same. (let up = (within same).1 in omega (arith, up))) h.made (numbers-within (changes_of w) h 0 b.0.0.known.numbered)

  pub own-kept : (let judge : PublisherJudge = by_past h (pasts_with h 0) in Rest (with_publisher (made_locally publication judge change d (here w)).0 w) (own_noted publication judge change d (here w) h))
  own-kept =
      let judge : PublisherJudge = by_past h (pasts_with h 0) in
      let v : World = with_publisher (made_locally publication judge change d (here w)).0 w in
      let changed : History = Noting.with_change publication (next_dot (here w)) (last_closed (here w) + 1) change d.value h in
      let m : Model = at_model w h in
      let n : Model = at_model v changed in
      let New : MadeChange → Type 0 = λ x. x ≡ made in
      let facts : AllByRecursion (LetterFacts w) w.pool = letter-facts publication w h b in
      let kept : Rest v changed = record {
        making = making-more h.made (counts_in m) made (omega arith) (after-own publication (next_dot (here w)) change (past_at h 0 own_key_here)) own-below own-known p.making;
        own = λ site x q first is held. subst (λ (y : Past). KnowsAll n q (is_of site) y.known) (sym (past-but 0 h changed (put-but 0 _ h.pasts h.pasts (λ i apart. refl)) site q (λ none. omega (arith, first, none))))
            (knows-on m n New (one-grows h.made made) (λ y counted. counted) q (is_of site) (past_at h site q).known (past_at h site q).known (λ dot known. known)
            (λ y new row own. absurd (own-later site y (λ none. omega (arith, first, none)) (ap (λ (z : MadeChange). z.dot.site.0) new) own)) (p.own site x q first is held));
        uploads = uploads-on m n New (one-grows h.made made) (λ x is. is) (LetterFacts w) (λ site. omega arith)
            (λ site up x fits new own to. own-behind w site up x b.0.0.none fits.0 (ap (λ (y : MadeChange). y.dot.site.0) new) own)
            (λ site r x fits new own to. own-later site.0 x fits.1.1 (ap (λ (y : MadeChange). y.dot.site.0) new) own) w.pool h.letters facts p.uploads;
        replies = replies-on m n New (one-grows h.made made) (λ x is. is) (LetterFacts w) (λ site. omega arith)
            (λ site up x fits new own to. own-behind w site up x b.0.0.none fits.0 (ap (λ (y : MadeChange). y.dot.site.0) new) own)
            (λ site r x fits new own to. own-later site.0 x fits.1.1 (ap (λ (y : MadeChange). y.dot.site.0) new) own) w.pool h.letters facts p.replies;
      } in
      lines-on (λ (x : History). Rest v x) (Noting.lines_of_entries (last_closed (here w) + 1) (Noting.drawn_entries publication judge change (here w) d)) changed
      (λ others. quiet v changed v.publisher v.tallies v.moment changed.done others changed.bases (λ x is. is) (λ site. omega arith) kept)
