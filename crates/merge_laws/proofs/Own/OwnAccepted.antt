-- Every step but an upload keeps what is said of accepted changes.
use Rattle.std.specs.Prelude.{◌≡◌, ◌≤◌, ◌==◌, ◌+◌, ℕ, List, [], ◌∷◌, Bool, true, false, Option, Some, None, refl, flat_map, if◌then◌else◌, is_some, map, unwrap_or}
use Rattle.std.specs.List.{fold, list_any}
use Rattle.std.proofs.Common.{arith, subst, sym, ap, ◌∙◌}
use Rattle.std.proofs.lemmas.Bool.Decides.{nat_tests}
use Rattle.merge_types.specs.declared.changes.Change.{Change}
use Rattle.merge_types.specs.declared.identifiers.Dot.{Dot}
use Rattle.merge_types.specs.declared.values.Value.{Value}
use Rattle.merge_units.specs.declared.version.Version.{Version}
use Rattle.merge_schema.specs.declared.publication.Publication.{Publication}
use Rattle.merge_batch.specs.declared.reply.Reply.{Reply}
use Rattle.merge_batch.specs.declared.request.Join.{Join}
use Rattle.merge_model.specs.Judge.ByHistory.{by_made, by_past}
use Rattle.merge_model.specs.Tables.Changes.{key_of, version_after}
use Rattle.merge_model.specs.History.{History, MadeChange, Past, has, past_at, pasts_at, pasts_with}
use Rattle.merge_model.specs.Judge.{PublisherJudge}
use Rattle.merge_model.specs.Tables.Keys.{at_number, put_number, row_at, same_key}
use Rattle.merge_model.specs.History.Noting
use Rattle.merge_model.specs.History.Pasts.{past_after}
use Rattle.merge_model.specs.Tables.Publications.{by_site}
use Rattle.merge_model.specs.Publisher.{last_closed}
use Rattle.merge_model.specs.Publisher.PublisherLocal.{Drawn, changing_locally, local_refusal, made_locally, next_dot, version_at, with_draw}
use Rattle.merge_model.specs.Publisher.PublisherPurge.{is_old_tombstone, purge}
use Rattle.merge_model.specs.Subscriber.Reinit.{discarded_versions}
use Rattle.merge_model.specs.Subscriber.{subscriber_last_closed, subscriber_next_dot}
use Rattle.merge_types.specs.declared.row_key.RowKey.{RowKey as Key}
use Rattle.merge_units.specs.declared.site_row.PublisherRow.{PublisherRow}
use Rattle.merge_model.specs.Tables.{PublisherTables, SubscriberTables}
use Rattle.merge_model.specs.World.{World, subscriber_at, with_publisher, with_subscriber}
use Rattle.merge_laws.specs.Invariants.Accepting.{AcceptsWell, Accepting, IsFine, KnowsAccepted, accepts}
use Rattle.merge_laws.specs.Facts.Knowledge.{same_dot}
use Rattle.merge_laws.specs.Facts.LineagesStand.{KnownCounts}
use Rattle.merge_model.proofs.Lists.Finding.{all-weaker, at_put_other}
use Rattle.merge_laws.proofs.Runs.Ground.{Ground}
use Rattle.merge_laws.proofs.Pasts.HeldRows.{changed-held, one-version}
use Rattle.merge_model.proofs.Lists.KeyLookUps.{keys-same}
use Rattle.merge_laws.proofs.Known.Knowing.{after-known, fresh-anywhere}
use Rattle.merge_laws.proofs.Own.OwnKnowing.{KnowsOf, after-knows, after-own}
use Rattle.merge_laws.proofs.Own.OwnLocal.{own-held, own-none, sub-fresh}
use Rattle.merge_laws.proofs.Own.OwnPasts.{lines-on, lost-on, reply-on}
use Rattle.merge_laws.proofs.Own.OwnRows.{purge-held}
use Rattle.merge_laws.proofs.Pasts.PastLookUps.{with-past-same, without-past-other}
use Rattle.merge_model.proofs.Lists.Tests.{if-either}
use Rattle.merge_laws.proofs.Walking.{here, join_noted, own_noted}

-- what is known besides, with what versions know that counts
abbrev pub Counted : Publication → World → History → Type 0
Counted publication w h = Ground publication w h × KnownCounts (record { world = w; history = h })

abbrev all_changes : MadeChange → Bool
all_changes change = true

abbrev accepted_in : List Dot → MadeChange → Bool
accepted_in accepted change = accepts accepted change.dot

pub as-of : (made : List MadeChange) (accepted : List Dot) (key : Key) (known : List Dot) → KnowsAccepted made accepted key known → KnowsOf made all_changes key (accepted_in accepted) known
as-of made accepted key known all = all-weaker (λ (c : MadeChange). same_key key c.key ≡ true → accepts accepted c.dot ≡ true → has known c.dot ≡ true) (λ (c : MadeChange). same_key key c.key ≡ true → accepts accepted c.dot ≡ true → true ≡ true → has known c.dot ≡ true)
    (λ c old row is counted. old row is) made all

pub as-accepted : (made : List MadeChange) (accepted : List Dot) (key : Key) (known : List Dot) → KnowsOf made all_changes key (accepted_in accepted) known → KnowsAccepted made accepted key known
as-accepted made accepted key known all = all-weaker (λ (c : MadeChange). same_key key c.key ≡ true → accepts accepted c.dot ≡ true → true ≡ true → has known c.dot ≡ true) (λ (c : MadeChange). same_key key c.key ≡ true → accepts accepted c.dot ≡ true → has known c.dot ≡ true)
    (λ c old row is. old row is refl) made all

any-more : (made : List MadeChange) (c : MadeChange) (dot : Dot) → list_any (λ (x : MadeChange). same_dot x.dot dot) made ≡ true → list_any (λ (x : MadeChange). same_dot x.dot dot) (c ∷ made) ≡ true
any-more made c dot is = grind (arith, is)

pub either-site : (b : Bool) (accepted : List Dot) (dot : Dot) → (dot.site.0 == 0) ≡ b → ((dot.site.0 ≡ 0 → ⊥) → accepts accepted dot ≡ true) → accepts accepted dot ≡ true
either-site true accepted dot is other = grind (arith, is)
either-site false accepted dot is other = other (λ zero. absurd (grind (arith, nat_tests, is, zero)))

-- A local change of the publisher.

module _ (publication : Publication) (w : World) (h : History) (change : Change) (d : Drawn) (b : Counted publication w h) (p : AcceptsWell w h) (fine : local_refusal publication change w.publisher ≡ None) where
  abbrev pub own_key : Key
  own_key = key_of (next_dot (here w)) change

  abbrev pub own_past : Past
  own_past = past_after publication (next_dot (here w)) change (past_at h 0 own_key)

  abbrev pub own_made : MadeChange
  own_made = Noting.made_change publication (next_dot (here w)) (last_closed (here w) + 1) change d.value own_key own_past

  own-others : (dot : Dot) → has own_past.known dot ≡ true → (dot.site.0 ≡ 0 → ⊥) → accepts h.accepted dot ≡ true
  own-others dot known differs =
      let parts = after-known publication (next_dot (here w)) change (past_at h 0 own_key) dot known in
      let counts : has (past_at h 0 own_key).known dot ≡ true → accepts h.accepted dot ≡ true = λ is. b.1.here own_key dot is differs in
      let other : same_dot (next_dot (here w)) dot ≡ false = (let zero : (dot.site.0 == 0) ≡ false = grind (arith, nat_tests, differs) in grind (arith, nat_tests, zero)) in
      counts (grind (arith, parts, other))

  own-fine : IsFine h.accepted own_made
  own-fine = record { others = own-others; closed = λ accept dot known. either-site (dot.site.0 == 0) h.accepted dot refl (own-others dot known) }

  pub own-knows : KnowsAccepted h.made h.accepted own_key own_past.known
  own-knows = as-accepted h.made h.accepted own_key own_past.known
      (after-knows publication (next_dot (here w)) change (past_at h 0 own_key) h.made all_changes own_key (accepted_in h.accepted) (own-none publication w h change b.0.known b.1.makers fine)
      (λ other. as-of h.made h.accepted own_key (past_at h 0 own_key).known (p.held own_key (own-held publication w h change b.0.known fine other))))

  own-row : (q : Key) → (same_key q own_key ≡ false → is_some (row_at w.publisher.rows q) ≡ true) → KnowsAccepted (own_made ∷ h.made) h.accepted q (if same_key q own_key then own_past else past_at h 0 q).known
  own-row q there = if-either (λ (x : Past). KnowsAccepted (own_made ∷ h.made) h.accepted q x.known) (same_key q own_key) own_past (past_at h 0 q)
      (λ same. (
        λ row accept. after-own publication (next_dot (here w)) change (past_at h 0 own_key),
        subst (λ (k : Key). KnowsAccepted h.made h.accepted k own_past.known) (sym (keys-same q own_key same)) own-knows,
      ))
      (λ differs. (λ row accept. absurd (grind (arith, row, differs)), p.held q (there differs)))

  pub own-accepting : (let judge : PublisherJudge = by_past h (pasts_with h 0) in AcceptsWell (with_publisher (made_locally publication judge change d (here w)).0 w) (own_noted publication judge change d (here w) h))
  own-accepting =
      let judge : PublisherJudge = by_past h (pasts_with h 0) in
      let q : PublisherTables = (made_locally publication judge change d (here w)).0 in
      let changed : History = Noting.with_change publication (next_dot (here w)) (last_closed (here w) + 1) change d.value h in
      let found : Option Version = version_after publication (next_dot (here w)) d.value change (version_at (here w) own_key) in
      let accepting : Accepting q.rows (own_made ∷ h.made) h.accepted (pasts_at changed 0) = record {
        fine = (own-fine, p.fine);
        were_made = λ dot is. any-more h.made own_made dot (p.were_made dot is);
        held = λ k there. subst (λ (x : Past). KnowsAccepted (own_made ∷ h.made) h.accepted k x.known) (sym (with-past-same (record h { made = own_made ∷ h.made }) 0 own_key own_past k))
            (own-row k (λ differs. (let both = changed-held publication judge (changing_locally publication change d.value (here w)) (with_draw d (here w)) k there in
            let put = one-version k own_key found in grind (arith, both, put, differs))));
      } in
      lines-on (λ (x : History). Accepting q.rows x.made x.accepted (pasts_at x 0)) (Noting.lines_of_entries (last_closed (here w) + 1) (Noting.drawn_entries publication judge change (here w) d)) changed (λ others. accepting)

-- A local change of a subscriber.

module _ (publication : Publication) (w : World) (h : History) (s : SubscriberTables) (change : Change) (value : Value) (b : Counted publication w h) (p : AcceptsWell w h) (at : subscriber_at w s.site ≡ Some s) (named : s.site.0 ≡ 0 → ⊥) where
  abbrev pub subscriber_key : Key
  subscriber_key = key_of (subscriber_next_dot s) change

  abbrev pub subscriber_past : Past
  subscriber_past = past_after publication (subscriber_next_dot s) change (past_at h s.site.0 subscriber_key)

  abbrev pub subscriber_made : MadeChange
  subscriber_made = Noting.made_change publication (subscriber_next_dot s) (subscriber_last_closed s + 1) change value subscriber_key subscriber_past

  not-accepted : (found : Bool) → has h.accepted (subscriber_next_dot s) ≡ found → found ≡ false
  not-accepted true is = absurd (grind (arith, p.were_made (subscriber_next_dot s) is, fresh-anywhere h.made (subscriber_next_dot s) (sub-fresh publication w h s change b.0.known at named)))
  not-accepted false is = refl

  pub sub-new : accepts h.accepted (subscriber_next_dot s) ≡ false
  sub-new = let none = not-accepted (has h.accepted (subscriber_next_dot s)) refl in let other : (s.site.0 == 0) ≡ false = grind (arith, nat_tests, named) in grind (arith, none, other)

  sub-others : (dot : Dot) → has subscriber_past.known dot ≡ true → (dot.site.0 ≡ s.site.0 → ⊥) → accepts h.accepted dot ≡ true
  sub-others dot known differs =
      let parts = after-known publication (subscriber_next_dot s) change (past_at h s.site.0 subscriber_key) dot known in
      let low : 1 ≤ s.site.0 = grind (arith, nat_tests, named) in
      let counts : has (past_at h s.site.0 subscriber_key).known dot ≡ true → accepts h.accepted dot ≡ true = λ is. b.1.there s.site.0 subscriber_key low dot is differs in
      let other : same_dot (subscriber_next_dot s) dot ≡ false = (let apart : (s.site.0 == dot.site.0) ≡ false = grind (arith, nat_tests, differs) in grind (arith, apart)) in
      counts (grind (arith, parts, other))

  pub sub-accepting : (rows : List (Key × PublisherRow)) → Accepting rows h.made h.accepted (pasts_at h 0) → Accepting rows (subscriber_made ∷ h.made) h.accepted (pasts_at h 0)
  sub-accepting rows a = record {
    fine = (record { others = sub-others; closed = λ accept dot known. absurd (grind (arith, accept, sub-new)) }, a.fine);
    were_made = λ dot is. any-more h.made subscriber_made dot (a.were_made dot is);
    held = λ key there. (λ row accept. absurd (grind (arith, accept, sub-new)), a.held key there);
  }

  pub sub-change : (t : SubscriberTables) → AcceptsWell (with_subscriber t w) (Noting.with_change publication (subscriber_next_dot s) (subscriber_last_closed s + 1) change value h)
  sub-change t = subst (λ (pasts : List (Key × Past)). Accepting w.publisher.rows (subscriber_made ∷ h.made) h.accepted pasts)
      (sym (ap (λ (found : Option (List (Key × Past))). unwrap_or found []) (at_put_other s.site.0 0 _ h.pasts (λ zero. named (sym zero))))) (sub-accepting w.publisher.rows p)

-- Pasts of others change.

pub others-change : (rows : List (Key × PublisherRow)) (h : History) (pasts : List (ℕ × List (Key × Past))) → at_number pasts 0 ≡ at_number h.pasts 0 → Accepting rows h.made h.accepted (pasts_at h 0) → Accepting rows h.made h.accepted (pasts_at (record h { pasts = pasts }) 0)
others-change rows h pasts same a = subst (λ (found : Option (List (Key × Past))). Accepting rows h.made h.accepted (unwrap_or found [])) (sym same) a

pub anew-accepting : (w v : World) (h : History) (s : SubscriberTables) → v.publisher.rows ≡ w.publisher.rows → (s.site.0 ≡ 0 → ⊥) → AcceptsWell w h → AcceptsWell v (Noting.noted_anew (by_made h s.site) s h)
anew-accepting w v h s same named p = lost-on (λ (x : History). Accepting v.publisher.rows x.made x.accepted (unwrap_or (at_number (put_number x.pasts s.site.0 []) 0) [])) s.site (discarded_versions (by_made h s.site) s) h
    (λ lost. subst (λ (rows : List (Key × PublisherRow)). Accepting rows h.made h.accepted (unwrap_or (at_number (put_number h.pasts s.site.0 []) 0) [])) (sym same)
    (others-change w.publisher.rows h (put_number h.pasts s.site.0 []) (at_put_other s.site.0 0 [] h.pasts (λ zero. named (sym zero))) p))

pub reply-accepting : (w v : World) (h : History) (s : SubscriberTables) (incoming : List (Key × Past)) (m : Reply) → v.publisher.rows ≡ w.publisher.rows → (s.site.0 ≡ 0 → ⊥) → AcceptsWell w h → AcceptsWell v (Noting.noted_reply (by_made h s.site) s.site incoming m h)
reply-accepting w v h s incoming m same named p = reply-on (λ (x : History). Accepting v.publisher.rows x.made x.accepted (pasts_at x 0)) (by_made h s.site) s.site incoming m h
    (λ pasts but. subst (λ (rows : List (Key × PublisherRow)). Accepting rows h.made h.accepted (pasts_at (record h { pasts = pasts }) 0)) (sym same) (others-change w.publisher.rows h pasts (but 0 (λ zero. named (sym zero))) p))

-- A join covers generations, and accepts nothing.

pub join-accepting : (w v : World) (h : History) (judge : PublisherJudge) (m : Join) → v.publisher.rows ≡ w.publisher.rows → AcceptsWell w h → AcceptsWell v (join_noted judge m w.publisher h)
join-accepting w v h judge m same p = lines-on (λ (x : History). Accepting v.publisher.rows x.made x.accepted (pasts_at x 0)) (map (Noting.gone_line (last_closed w.publisher + 1)) (map (Noting.gone_for m.site) (Noting.left_rows judge m.site)))
    (record (Noting.with_done m.site.0 0 m.generation h) { bases = put_number h.bases m.site.0 (last_closed w.publisher) })
    (λ others. subst (λ (rows : List (Key × PublisherRow)). Accepting rows h.made h.accepted (pasts_at h 0)) (sym same) p)

-- A purge: rows go, with their pasts.

purged-past : (keys : List Key) (h : History) (q : Key) → list_any (same_key q) keys ≡ false → past_at (fold Noting.with_purged h keys) 0 q ≡ past_at h 0 q
purged-past [] h q none = refl
purged-past (key ∷ keys) h q none = purged-past keys (Noting.with_purged h key) q (grind (arith, none)) ∙ without-past-other (record h { purged = key ∷ h.purged }) 0 key q (grind (arith, none))

purged-made : (keys : List Key) (h : History) → ((fold Noting.with_purged h keys).made ≡ h.made) × ((fold Noting.with_purged h keys).accepted ≡ h.accepted)
purged-made [] h = (refl, refl)
purged-made (key ∷ keys) h = purged-made keys (Noting.with_purged h key)

pub purge-accepting : (publication : Publication) (w : World) (h : History) (judge : PublisherJudge) → Ground publication w h → AcceptsWell w h → AcceptsWell (with_publisher (purge publication w.moment w.publisher).0 w) (Noting.noted_purge publication judge (here w) h)
purge-accepting publication w h judge g p =
    let rows : List (Key × PublisherRow) = (purge publication w.moment w.publisher).0.rows in
    let old : Key × PublisherRow → Bool = is_old_tombstone publication (here w) in
    let keys : List Key = Noting.old_tombstones publication (here w) in
    let k : History = fold Noting.with_purged h keys in
    let parts = purged-made keys h in
    let a : Accepting rows h.made h.accepted (pasts_at k 0) = record {
      fine = p.fine;
      were_made = p.were_made;
      held = λ q there. (let both = purge-held old w.publisher.rows q g.sorted.rows_ascend there in
          subst (λ (x : Past). KnowsAccepted h.made h.accepted q x.known) (sym (purged-past keys h q both.1)) (p.held q both.0));
    } in
    lines-on (λ (x : History). Accepting rows x.made x.accepted (pasts_at x 0)) (map (Noting.gone_line (last_closed (here w) + 1)) (flat_map (Noting.old_left publication judge (here w)) (map Noting.site_of_subscription (by_site publication)))) k
    (λ others. subst (λ (made : List MadeChange). Accepting rows made k.accepted (pasts_at k 0)) (sym parts.0) (subst (λ (accepted : List Dot). Accepting rows h.made accepted (pasts_at k 0)) (sym parts.1) a))
