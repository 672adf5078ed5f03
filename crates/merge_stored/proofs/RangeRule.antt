-- The records of what the publisher holds and granted keep the rule of a start.
use Rattle.std.specs.BTreeMap.{is_at}
use Rattle.std.specs.List.{AllByRecursion, Contains, enumerate_from, cons_option, list_any}
use Rattle.std.specs.List.Sorted.{IsStrictlySortedBy}
use Rattle.std.specs.Map.{keys_of}
use Rattle.std.specs.Option.{option_map, option_map_or}
use Rattle.std.specs.Ordering.{nat_cmp}
use Rattle.merge_record.specs.Reading.{◌>>=◌}
use Rattle.std.specs.Prelude.{Bool, List, None, Option, Some, [], cond, false, filter, filter_map, find, is_some, map, nat_lt, not, refl, slice_get, suc, true, ℕ, ◌&&◌, ◌++◌, ◌+◌, ◌<◌, ◌==◌, ◌^◌, ◌||◌, ◌≡◌, ◌≤◌, zero, ◌∷◌}
use Rattle.std.specs.declared.cmp.Ordering.TheVariants.{Less}
use Rattle.std.proofs.Common.{ap, arith, inl, inr, subst, sym, ◌∙◌}
use Rattle.std.proofs.lemmas.Bool.Decides.{nat_tests}
use Rattle.std.proofs.lemmas.Int.{ints}
use Rattle.std.proofs.lemmas.List.Elements.{Contains-append_right}
use Rattle.merge_ident.specs.Grants.{AreInOrder, AreNumbered, Precedes, granted_to, is_numbered, is_of}
use Rattle.merge_ident.specs.Holders.{Holder, Received, range_of}
use Rattle.merge_ident.specs.Stored.{can_follow}
use Rattle.merge_ident.specs.declared.grants.Grant.{Grant}
use Rattle.merge_ident.specs.declared.grants.Range.{Range}
use Rattle.merge_schema.specs.declared.publication.Article.{Article}
use Rattle.merge_schema.specs.declared.publication.Identity.{Identity}
use Rattle.merge_schema.specs.declared.publication.Publication.{Publication}
use Rattle.merge_batch.specs.Lineages.{is_site}
use Rattle.merge_ports.specs.Entries.{entry_cmp}
use Rattle.merge_record.specs.Tables.{IsHeld, IsRange}
use Rattle.merge_record.specs.declared.ranges.HeldRanges.{HeldRanges}
use Rattle.merge_keeper.specs.Entries.{grant_key, held_key, held_ranges, was_received}
use Rattle.merge_keeper.specs.PublisherRules.{IsRangeRecord, held_pair, own_ranges, with_records}
use Rattle.merge_keeper.specs.PublisherStart.{grant_is_sound, is_held, is_sound, own_is_sound}
use Rattle.merge_keeper.specs.Start.{KeepOneByOne, are_kept, holds_last, identity_at, last_own, own_count, same_range}
use Rattle.merge_keeper.specs.Stored.{HasGrantKey}
use Rattle.merge_keeper.specs.SubscriberStart.{held_is_sound}
use Rattle.merge_keeper.specs.declared.publisher_record.PublisherRecord.{PublisherRecord}
use Rattle.merge_keeper.specs.declared.publisher_record.PublisherRecord.TheVariants.{Closed, Granted, Held, Lost, Mapped, Row, State, Subscribed}
use Rattle.merge_keeper.specs.declared.stored.PublisherStored.{PublisherStored}
use Rattle.merge_model.specs.Tables.Keys.{at_number}
use Rattle.merge_model.specs.Tables.Publications.{identities, identity_of}
use Rattle.merge_model.specs.Publisher.{holder_for, new_holders}
use Rattle.merge_model.proofs.Lists.Finding.{all-weaker, some_same}
use Rattle.merge_model.proofs.Lists.{all-both, all-map}
use Rattle.merge_stored.specs.Own.{HoldsLast, OwnIsHeld}
use Rattle.merge_stored.proofs.GrantRule.{GrantOk, RecordOk, Related, follows, front-count}
use Rattle.merge_stored.proofs.GrantsKnown.{GrantIsKnown}
use Rattle.merge_stored.proofs.HeldRule.{IsSome, has_key, is-held, is_kept, last-found, own-counted}
use Rattle.merge_stored.proofs.KeyOrder.{held-first}
use Rattle.merge_stored.proofs.RangeLists.{Pair, Stands, all-granted, by_grant, granted, grants-tallied, held-tallied, key_in, records-sorted, stands}
use Rattle.merge_stored.proofs.Tallies.{any-mapped, count-tally, counted, first-all, keep-all, second-all, tally, tally-append, tally-map, tally-none, tally-some}

-- Of two grants of a book the one precedes the other.

pub related-all : (grants : List Grant) → AreInOrder grants → AllByRecursion (λ (g : Grant). AllByRecursion (Related g) grants) grants
related-all [] order = tt
related-all (x ∷ xs) order = (
  (inl (refl, refl, refl), all-weaker (Precedes x) (Related x) (λ h p. inr (inl p)) xs order.0),
  all-both (Precedes x) (λ (g : Grant). AllByRecursion (Related g) xs) (λ (g : Grant). AllByRecursion (Related g) (x ∷ xs)) (λ g p rest. (inr (inr p), rest)) xs order.0 (related-all xs order.1),
)

grow : {X : Type 0} (x : X) (all xs : List X) → AllByRecursion (Contains all) xs → AllByRecursion (Contains (x ∷ all)) xs
grow x all [] is = tt
grow x all (y ∷ xs) is = (Contains-append_right (x ∷ []) all y is.0, grow x all xs is.1)

pub contained : {X : Type 0} (xs : List X) → AllByRecursion (Contains xs) xs
contained [] = tt
contained (x ∷ xs) = ((0, omega arith, refl), grow x xs xs (contained xs))

-- A record that is one of many stands somewhere.

pub record Place {X : Type 0} (p : X → Bool) (all : List X) : Type 0 where
  pub f : List X
  pub x : X
  pub rest : List X
  pub is : f ++ x ∷ rest ≡ all
  pub passes : p x ≡ true

place-by : {X : Type 0} (b : Bool) (p : X → Bool) (x : X) (xs : List X) → p x ≡ b → (1 ≤ tally p xs → Place p xs) → 1 ≤ tally p (x ∷ xs) → Place p (x ∷ xs)
place-by true p x xs passes more some = record { f = []; x = x; rest = xs; is = refl; passes = passes }
place-by false p x xs passes more some =
    let none : counted (p x) ≡ 0 = ap counted passes in
    let later = more (omega (arith, none, some)) in
    record { f = x ∷ later.f; x = later.x; rest = later.rest; is = ap (λ l. x ∷ l) later.is; passes = later.passes }

pub place-of : {X : Type 0} (p : X → Bool) (xs : List X) → 1 ≤ tally p xs → Place p xs
place-of p [] some = absurd (omega (arith, some))
place-of p (x ∷ xs) some = place-by (p x) p x xs refl (place-of p xs) some

any-tallied : {X : Type 0} (p : X → Bool) (xs : List X) → 1 ≤ tally p xs → list_any p xs ≡ true
any-tallied p [] some = absurd (omega (arith, some))
any-tallied p (x ∷ xs) some = any-by (p x) refl (λ later. any-tallied p xs later)
  where
    any-by : (b : Bool) → p x ≡ b → (1 ≤ tally p xs → list_any p xs ≡ true) → list_any p (x ∷ xs) ≡ true
    any-by true is more = grind (arith, is)
    any-by false is more = (let none : counted (p x) ≡ 0 = ap counted is in let rest = more (omega (arith, none, some)) in grind (arith, is, rest))

-- What is known of records.

abbrev pub RangesLast : List Grant → ℕ → ℕ → List Range → Type 0
RangesLast grants article number [] = Unit {0}
RangesLast grants article number (range ∷ []) = option_map (λ (grant : Grant). grant.range) (find (is_numbered article 0 number) grants) ≡ Some range
RangesLast grants article number (range ∷ next ∷ rest) = ⊥

pub ranges-last : (grants : List Grant) (article number : ℕ) (held : List Received) → HoldsLast grants article number held → RangesLast grants article number (map range_of held)
ranges-last grants article number [] last = tt
ranges-last grants article number (first ∷ []) last = last
ranges-last grants article number (first ∷ next ∷ rest) last = absurd last

pub record HeldOk (publication : Publication) (grants : List Grant) (article : ℕ) (held : HeldRanges) : Type 0 where
  pub low : article < 2 ^ 8
  pub fits : IsHeld held
  pub sound : held_is_sound publication article held ≡ true
  pub have : held.have ≡ granted_to article 0 grants
  pub last : RangesLast grants article held.have held.ranges

pub record GrantFull (publication : Publication) (grants : List Grant) (g : Grant) : Type 0 where
  pub ok : GrantOk grants g
  pub known : GrantIsKnown publication g
  pub range : IsRange g.range

abbrev Full : Publication → List Grant → PublisherRecord → Type 0
Full publication grants (Granted g) = GrantFull publication grants g
Full publication grants (Held article held) = HeldOk publication grants article held
Full publication grants r = ⊥

full-ok : (publication : Publication) (grants : List Grant) (r : PublisherRecord) → Full publication grants r → RecordOk grants r
full-ok publication grants (Granted g) full = full.ok
full-ok publication grants (Held article held) full = tt
full-ok publication grants (State front) full = absurd full
full-ok publication grants (Row key row) full = absurd full
full-ok publication grants (Mapped place move) full = absurd full
full-ok publication grants (Closed closing) full = absurd full
full-ok publication grants (Lost row) full = absurd full
full-ok publication grants (Subscribed site state) full = absurd full

sound-parts : (publication : Publication) (article : ℕ) (held : HeldRanges) → held_is_sound publication article held ≡ true → (is_some (identity_at publication article) ≡ true) × (are_kept held.ranges held.next ≡ true) × (nat_lt 0 held.have ≡ true)
unfolding held_is_sound
sound-parts publication article held is = parts (is_some (identity_at publication article)) (are_kept held.ranges held.next) (nat_lt 0 held.have) is
  where
    parts : (a b c : Bool) → (a && b && c) ≡ true → (a ≡ true) × (b ≡ true) × (c ≡ true)
    parts a b c is = (grind (arith, is), grind (arith, is), grind (arith, is))

full-some : (publication : Publication) (grants : List Grant) (article : ℕ) (r : PublisherRecord) → Full publication grants r → IsSome publication article r
full-some publication grants article (Granted g) full = tt
full-some publication grants article (Held a held) full = (let parts = sound-parts publication a held full.sound in (parts.0, parts.2))
full-some publication grants article (State front) full = absurd full
full-some publication grants article (Row key row) full = absurd full
full-some publication grants article (Mapped place move) full = absurd full
full-some publication grants article (Closed closing) full = absurd full
full-some publication grants article (Lost row) full = absurd full
full-some publication grants article (Subscribed site state) full = absurd full

-- One that is found with a range is counted.
pub found-tally : (p : Grant → Bool) (range : Range) (grants : List Grant) → option_map (λ (grant : Grant). grant.range) (find p grants) ≡ Some range → 1 ≤ tally (λ (g : Grant). p g && same_range g.range range) grants
found-tally p range [] is = absurd cc
found-tally p range (g ∷ grants) is = found-by (p g) refl (λ later. found-tally p range grants later) is
  where
    some-range : (a b : Range) → (let x : Option Range = Some a in x) ≡ Some b → a ≡ b
    some-range a b e = cc

    found-by : (b : Bool) → p g ≡ b → (option_map (λ (grant : Grant). grant.range) (find p grants) ≡ Some range → 1 ≤ tally (λ (g : Grant). p g && same_range g.range range) grants) → option_map (λ (grant : Grant). grant.range) (cond b (Some g) (find p grants)) ≡ Some range → 1 ≤ tally (λ (g : Grant). p g && same_range g.range range) (g ∷ grants)
    found-by true passes more now =
        let same : g.range ≡ range = some-range g.range range now in
        let self : same_range range range ≡ true = grind (arith, ints) in
        let equal : same_range g.range range ≡ true = subst (λ (r : Range). same_range r range ≡ true) (sym same) self in
        let one : counted (p g && same_range g.range range) ≡ 1 = ap counted (let both : (p g && same_range g.range range) ≡ true = grind (arith, passes, equal) in both) in
        omega (arith, one)
    found-by false passes more now = (let rest = more now in omega (arith, rest))

-- An article with an identity column is there from the beginning.

listed-by : (found : Option Identity) (place n : ℕ) (rest : List (ℕ × Identity)) → (is_some found ≡ true → place ≡ n) → (is_some found ≡ false → list_any (λ (e : ℕ × Identity). e.0 == n) rest ≡ true)
    → list_any (λ (e : ℕ × Identity). e.0 == n) (cons_option (option_map (λ (identity : Identity). (place, identity)) found) rest) ≡ true
listed-by None place n rest here later = later refl
listed-by (Some identity) place n rest here later = (let same = here refl in grind (arith, nat_tests, same))

later-by : (found : Option Identity) (place n : ℕ) (rest : List (ℕ × Identity)) → list_any (λ (e : ℕ × Identity). e.0 == n) rest ≡ true
    → list_any (λ (e : ℕ × Identity). e.0 == n) (cons_option (option_map (λ (identity : Identity). (place, identity)) found) rest) ≡ true
later-by None place n rest later = later
later-by (Some identity) place n rest later = grind (arith, later)

identity-listed : (articles : List Article) (place k : ℕ) → is_some (slice_get articles k >>= λ article. article.identity) ≡ true → list_any (λ (e : ℕ × Identity). e.0 == place + k) (filter_map identity_of (enumerate_from place articles)) ≡ true
identity-listed [] place k some = absurd cc
identity-listed (article ∷ articles) place zero some =
    listed-by article.identity place (place + 0) (filter_map identity_of (enumerate_from (place + 1) articles)) (λ there. omega arith) (λ none. absurd (grind (arith, some, none)))
identity-listed (article ∷ articles) place (suc k) some =
    let next : place + 1 + k ≡ place + suc k = omega arith in
    later-by article.identity place (place + suc k) (filter_map identity_of (enumerate_from (place + 1) articles))
    (subst (λ (n : ℕ). list_any (λ (e : ℕ × Identity). e.0 == n) (filter_map identity_of (enumerate_from (place + 1) articles)) ≡ true) next (identity-listed articles (place + 1) k some))

any-keys : (article : ℕ) (held : List (ℕ × Holder)) → list_any (has_key article) held ≡ list_any (λ (k : ℕ). k == article) (keys_of held)
any-keys article [] = refl
any-keys article (entry ∷ held) = ap (λ (b : Bool). (entry.0 == article) || b) (any-keys article held)

pub key-new : (publication : Publication) (article : ℕ) → is_some (identity_at publication article) ≡ true → list_any (has_key article) (new_holders publication) ≡ true
key-new publication article some =
    let same : 0 + article ≡ article = omega arith in
    any-mapped (λ (e : ℕ × Identity). e.0 == article) (has_key article) holder_for (λ e has. has) (identities publication)
    (subst (λ (n : ℕ). list_any (λ (e : ℕ × Identity). e.0 == n) (identities publication) ≡ true) same (identity-listed publication.articles 0 article some))

found-by : (b : Bool) (article : ℕ) (entry : ℕ × Holder) (held : List (ℕ × Holder)) → is_at (nat_cmp article) entry.0 ≡ b → (list_any (has_key article) held ≡ true → is_some (at_number held article) ≡ true)
    → list_any (has_key article) (entry ∷ held) ≡ true → (let found : Option Holder = cond b (Some entry.1) (at_number held article) in is_some found) ≡ true
found-by true article entry held is more has = refl
found-by false article entry held is more has = (let other : (entry.0 == article) ≡ false = grind (arith, nat_tests, is) in more (grind (arith, other, has)))

found-key : (article : ℕ) (held : List (ℕ × Holder)) → list_any (has_key article) held ≡ true → is_some (at_number held article) ≡ true
found-key article [] has = absurd cc
found-key article (entry ∷ held) has = found-by (is_at (nat_cmp article) entry.0) article entry held refl (found-key article held) has

some-of : (found : Option Holder) → is_some found ≡ true → (holder : Holder) × (found ≡ Some holder)
some-of None some = absurd cc
some-of (Some holder) some = (holder, refl)

pub there : (publication : Publication) (held : List (ℕ × Holder)) (article : ℕ) → keys_of held ≡ keys_of (new_holders publication) → is_some (identity_at publication article) ≡ true → (holder : Holder) × (at_number held article ≡ Some holder)
there publication held article same some =
    some-of (at_number held article)
    (found-key article held (any-keys article held ∙ ap (λ (ks : List ℕ). list_any (λ (k : ℕ). k == article) ks) same ∙ sym (any-keys article (new_holders publication)) ∙ key-new publication article some))

-- What was received of an article has a record.

abbrev pub kept_of : ℕ → List (ℕ × Holder) → ℕ
kept_of article held = tally (λ (e : Pair). is_kept article e.1) (map held_pair held)

kept-more : (b : Bool) (article : ℕ) (entry : ℕ × Holder) (held : List (ℕ × Holder)) → 1 ≤ kept_of article held → 1 ≤ kept_of article (cond b (entry ∷ held) held)
kept-more true article entry held some = omega (arith, some)
kept-more false article entry held some = some

kept-here : (b : Bool) (article : ℕ) (entry : ℕ × Holder) (held : List (ℕ × Holder)) → was_received entry ≡ b → b ≡ true → (entry.0 == article) ≡ true → 1 ≤ kept_of article (cond b (entry ∷ held) held)
kept-here true article entry held received is same =
    let one : counted ((entry.0 == article) && nat_lt 0 entry.1.have) ≡ 1 = ap counted (let both : ((entry.0 == article) && nat_lt 0 entry.1.have) ≡ true = grind (arith, received, same) in both) in
    omega (arith, one)
kept-here false article entry held received is same = absurd cc

kept-by : (b : Bool) (article : ℕ) (entry : ℕ × Holder) (held : List (ℕ × Holder)) (holder : Holder) → is_at (nat_cmp article) entry.0 ≡ b → nat_lt 0 holder.have ≡ true → (at_number held article ≡ Some holder → 1 ≤ kept_of article (filter was_received held))
    → (let found : Option Holder = cond b (Some entry.1) (at_number held article) in found) ≡ Some holder → 1 ≤ kept_of article (filter was_received (entry ∷ held))
kept-by true article entry held holder is some more at =
    let same : (entry.0 == article) ≡ true = grind (arith, nat_tests, is) in
    let received : was_received entry ≡ true = subst (λ (h : Holder). nat_lt 0 h.have ≡ true) (sym (some_same entry.1 holder at)) some in
    kept-here (was_received entry) article entry (filter was_received held) refl received same
kept-by false article entry held holder is some more at = kept-more (was_received entry) article entry (filter was_received held) (more at)

kept-entry : (article : ℕ) (held : List (ℕ × Holder)) (holder : Holder) → at_number held article ≡ Some holder → nat_lt 0 holder.have ≡ true → 1 ≤ kept_of article (filter was_received held)
kept-entry article [] holder at some = absurd cc
kept-entry article (entry ∷ held) holder at some = kept-by (is_at (nat_cmp article) entry.0) article entry held holder refl some (λ later. kept-entry article held holder later some) at

-- All of it.

pub record Facts (publication : Publication) (grants : List Grant) (held : List (ℕ × Holder)) : Type 0 where
  pub numbered : AreNumbered grants
  pub keys : AllByRecursion HasGrantKey grants
  pub grants_full : AllByRecursion (GrantFull publication grants) grants
  pub helds : AllByRecursion (λ (p : ℕ × Holder). HeldOk publication grants p.0 (held_ranges p.1)) (filter was_received held)
  pub ascend : IsStrictlySortedBy nat_cmp (keys_of (filter was_received held))
  pub begun : keys_of held ≡ keys_of (new_holders publication)
  pub own : (article : ℕ) (holder : Holder) → at_number held article ≡ Some holder → OwnIsHeld grants article holder

module _ (publication : Publication) (grants : List Grant) (held : List (ℕ × Holder)) (facts : Facts publication grants held) (t : PublisherStored) (no_grants : t.grants ≡ []) (new : t.held ≡ new_holders publication) where
  abbrev R : List (ℕ × Holder)
  R = filter was_received held

  abbrev pairs : List Pair
  pairs = granted (map held_pair R) grants

  abbrev rs : List PublisherRecord
  rs = map (λ (e : Pair). e.1) pairs

  fulls : AllByRecursion (Full publication grants) rs
  fulls = all-map (λ (e : Pair). Full publication grants e.1) (Full publication grants) (λ (e : Pair). e.1) (λ e full. full) pairs
      (all-granted (λ (e : Pair). Full publication grants e.1) grants (map held_pair R) facts.grants_full
      (all-map (λ (p : ℕ × Holder). HeldOk publication grants p.0 (held_ranges p.1)) (λ (e : Pair). Full publication grants e.1) held_pair (λ p ok. ok) R facts.helds))

  count : (q : Grant → Bool) → tally (by_grant q) rs ≡ tally q grants
  count q = tally-map (by_grant q) (λ (e : Pair). e.1) pairs ∙ grants-tallied q R grants facts.numbered facts.keys

  kept : (article : ℕ) → tally (is_kept article) rs ≡ kept_of article R
  kept article = tally-map (is_kept article) (λ (e : Pair). e.1) pairs ∙ held-tallied (is_kept article) R grants (λ g. refl) facts.numbered facts.keys

  sorted : IsStrictlySortedBy entry_cmp (map key_in rs)
  sorted = records-sorted R grants (all-weaker (λ (p : ℕ × Holder). HeldOk publication grants p.0 (held_ranges p.1)) (λ (p : ℕ × Holder). p.0 < 2 ^ 8) (λ p ok. ok.low) R facts.helds) facts.ascend

  -- around a record
  record Around (f : List PublisherRecord) (x : PublisherRecord) (rest : List PublisherRecord) : Type 0 where
    front : AllByRecursion (Full publication grants) f
    here : Full publication grants x
    behind : AllByRecursion (Full publication grants) rest
    order : Stands f x rest

  around : (f : List PublisherRecord) (x : PublisherRecord) (rest : List PublisherRecord) → f ++ x ∷ rest ≡ rs → Around f x rest
  around f x rest is =
      let all : AllByRecursion (Full publication grants) (f ++ x ∷ rest) = subst (λ (l : List PublisherRecord). AllByRecursion (Full publication grants) l) (sym is) fulls in
      let second = second-all (Full publication grants) f (x ∷ rest) all in
      record {
        front = first-all (Full publication grants) f (x ∷ rest) all;
        here = second.0;
        behind = second.1;
        order = stands f x rest (subst (λ (l : List PublisherRecord). IsStrictlySortedBy entry_cmp (map key_in l)) (sym is) sorted);
      }

  oks : (xs : List PublisherRecord) → AllByRecursion (Full publication grants) xs → AllByRecursion (RecordOk grants) xs
  oks xs all = all-weaker (Full publication grants) (RecordOk grants) (λ r full. full-ok publication grants r full) xs all

  kept-behind : (g : Grant) (b : Bool) (a : ℕ) (ranges : HeldRanges) → (a == g.article) ≡ b → entry_cmp (grant_key g) (held_key a) ≡ Less → is_kept g.article (Held a ranges) ≡ false
  kept-behind g true a ranges is behind = absurd (held-first g a (grind (arith, nat_tests, is)) behind)
  kept-behind g false a ranges is behind = grind (arith, is)

  none-behind : (g : Grant) (r : PublisherRecord) → Full publication grants r → entry_cmp (grant_key g) (key_in r) ≡ Less → is_kept g.article r ≡ false
  none-behind g (Held a ranges) full behind = kept-behind g (a == g.article) a ranges refl behind
  none-behind g (Granted h) full behind = refl
  none-behind g (State front) full behind = refl
  none-behind g (Row key row) full behind = refl
  none-behind g (Mapped place move) full behind = refl
  none-behind g (Closed closing) full behind = refl
  none-behind g (Lost row) full behind = refl
  none-behind g (Subscribed site state) full behind = refl

  grant-held : (f : List PublisherRecord) (g : Grant) (rest : List PublisherRecord) → f ++ Granted g ∷ rest ≡ rs → (g.site.0 == 0) ≡ true → is_held (with_records publication t f).held g.article ≡ true
  grant-held f g rest is own =
      let a = around f (Granted g) rest is in
      let found = there publication held g.article facts.begun a.here.known.0 in
      let have = (facts.own g.article found.0 found.1).have in
      let some = tally-some (is_of g.article 0) grants g a.here.ok.there (grind (arith, nat_tests, own)) in
      let same = count-tally (is_of g.article 0) grants in
      let received : nat_lt 0 found.0.have ≡ true = grind (arith, nat_tests, have, some, same) in
      let entry = kept-entry g.article held found.0 found.1 received in
      let all : tally (is_kept g.article) (f ++ Granted g ∷ rest) ≡ kept_of g.article R = ap (λ (l : List PublisherRecord). tally (is_kept g.article) l) is ∙ kept g.article in
      let parts = tally-append (is_kept g.article) f (Granted g ∷ rest) in
      let none = tally-none (is_kept g.article) rest (all-both (Full publication grants) (λ (r : PublisherRecord). entry_cmp (grant_key g) (key_in r) ≡ Less) (λ (r : PublisherRecord). is_kept g.article r ≡ false) (λ r full behind. none-behind g r full behind) rest a.behind a.order.behind) in
      let front : 1 ≤ tally (is_kept g.article) f = omega (arith, entry, all, parts, none) in
      is-held publication g.article f t (all-weaker (Full publication grants) (IsSome publication g.article) (λ r full. full-some publication grants g.article r full) f a.front)
      (subst (λ (l : List (ℕ × Holder)). list_any (has_key g.article) l ≡ true) (sym new) (key-new publication g.article a.here.known.0)) (any-tallied (is_kept g.article) f front)

  grant-follows : (f : List PublisherRecord) (g : Grant) (rest : List PublisherRecord) → f ++ Granted g ∷ rest ≡ rs → can_follow (with_records publication t f).grants g ≡ true
  grant-follows f g rest is =
      let a = around f (Granted g) rest is in
      follows publication grants facts.numbered g a.here.ok f rest (oks f a.front) (oks rest a.behind) a.order (λ q. ap (λ (l : List PublisherRecord). tally (by_grant q) l) is ∙ count q) t no_grants

  either-by : (b c : Bool) → (b ≡ true → c ≡ true) → (not b || c) ≡ true
  either-by true c more = more refl
  either-by false c more = refl

  grant-sound : (f : List PublisherRecord) (g : Grant) (rest : List PublisherRecord) → f ++ Granted g ∷ rest ≡ rs → grant_is_sound publication (with_records publication t f) g ≡ true
  unfolding grant_is_sound
  grant-sound f g rest is =
      let a = around f (Granted g) rest is in
      let identity = a.here.known.0 in
      let site = a.here.known.1 in
      let follow = grant-follows f g rest is in
      let either = either-by (g.site.0 == 0) (is_held (with_records publication t f).held g.article) (λ own. grant-held f g rest is own) in
      all-four (is_some (identity_at publication g.article)) (is_site publication g.site.0) (can_follow (with_records publication t f).grants g) (not (g.site.0 == 0) || is_held (with_records publication t f).held g.article) identity site follow either
    where
      all-four : (a b c d : Bool) → a ≡ true → b ≡ true → c ≡ true → d ≡ true → (a && b && c && d) ≡ true
      all-four a b c d p q r s = grind (arith, p, q, r, s)

  -- what is held is the last

  last-at : (article : ℕ) (ranges : HeldRanges) → HeldOk publication grants article ranges → (range : Range) (f : List PublisherRecord) (x : PublisherRecord) (rest : List PublisherRecord) → f ++ x ∷ rest ≡ rs
      → by_grant (λ (g : Grant). is_numbered article 0 ranges.have g && same_range g.range range) x ≡ true → option_map_or (same_range range) (last_own article (own_ranges rs)) false ≡ true
  last-at article ranges ok range f (Granted y) rest is passes =
      let a = around f (Granted y) rest is in
      let of : is_of article 0 y ≡ true = grind (arith, passes) in
      let number : y.number ≡ ranges.have = grind (arith, nat_tests, passes) in
      let equal : same_range y.range range ≡ true = grind (arith, passes) in
      let at : y.article ≡ article = grind (arith, nat_tests, of) in
      let to : y.site.0 ≡ 0 = grind (arith, nat_tests, of) in
      let counts : (q : Grant → Bool) → tally (by_grant q) (f ++ Granted y ∷ rest) ≡ tally q grants = λ q. ap (λ (l : List PublisherRecord). tally (by_grant q) l) is ∙ count q in
      let front = front-count grants facts.numbered y a.here.ok f rest (oks f a.front) (oks rest a.behind) a.order (counts _) in
      let own_front : tally (by_grant (is_of article 0)) f + 1 ≡ y.number = subst (λ (k : ℕ). tally (by_grant (is_of article k)) f + 1 ≡ y.number) to (subst (λ (k : ℕ). tally (by_grant (is_of k y.site.0)) f + 1 ≡ y.number) at front) in
      let all = counts (is_of article 0) in
      let parts = tally-append (by_grant (is_of article 0)) f (Granted y ∷ rest) in
      let one : counted (is_of article 0 y) ≡ 1 = ap counted of in
      let same = count-tally (is_of article 0) grants in
      let have = ok.have in
      let none : tally (by_grant (is_of article 0)) rest ≡ 0 = omega (arith, number, own_front, all, parts, one, same, have) in
      let back : same_range range y.range ≡ true = grind (arith, ints, equal) in
      ap (λ (l : List PublisherRecord). option_map_or (same_range range) (last_own article (own_ranges l)) false) (sym is)
      ∙ ap (λ (o : Option Range). option_map_or (same_range range) o false) (last-found article y f rest of none) ∙ back
  last-at article ranges ok range f (State front) rest is passes = absurd cc
  last-at article ranges ok range f (Row key row) rest is passes = absurd cc
  last-at article ranges ok range f (Mapped place move) rest is passes = absurd cc
  last-at article ranges ok range f (Closed closing) rest is passes = absurd cc
  last-at article ranges ok range f (Lost row) rest is passes = absurd cc
  last-at article ranges ok range f (Held a other) rest is passes = absurd cc
  last-at article ranges ok range f (Subscribed site state) rest is passes = absurd cc

  holds-by : (article : ℕ) (ranges : HeldRanges) (list : List Range) → HeldOk publication grants article ranges → RangesLast grants article ranges.have list → holds_last (last_own article (own_ranges rs)) list ≡ true
  holds-by article ranges [] ok last = refl
  holds-by article ranges (range ∷ []) ok last =
      let test : Grant → Bool = λ g. is_numbered article 0 ranges.have g && same_range g.range range in
      let found = found-tally (is_numbered article 0 ranges.have) range grants last in
      let all = count test in
      let p : Place (by_grant test) rs = place-of (by_grant test) rs (omega (arith, found, all)) in
      last-at article ranges ok range p.f p.x p.rest p.is p.passes
  holds-by article ranges (range ∷ next ∷ rest) ok last = absurd last

  held-sound : (article : ℕ) (ranges : HeldRanges) → HeldOk publication grants article ranges → own_is_sound publication (own_ranges rs) article ranges ≡ true
  unfolding own_is_sound
  held-sound article ranges ok =
      let parts = sound-parts publication article ranges ok.sound in
      let have = ok.have in
      let counted_is : own_count article (own_ranges rs) ≡ tally (is_of article 0) grants = own-counted article rs ∙ count (is_of article 0) in
      let same = count-tally (is_of article 0) grants in
      let equal : (ranges.have == own_count article (own_ranges rs)) ≡ true = grind (arith, nat_tests, have, counted_is, same) in
      all-five (is_some (identity_at publication article)) (are_kept ranges.ranges ranges.next) (nat_lt 0 ranges.have) (ranges.have == own_count article (own_ranges rs)) (holds_last (last_own article (own_ranges rs)) ranges.ranges)
      parts.0 parts.1 parts.2 equal (holds-by article ranges ranges.ranges ok ok.last)
    where
      all-five : (a b c d e : Bool) → a ≡ true → b ≡ true → c ≡ true → d ≡ true → e ≡ true → (a && b && c && d && e) ≡ true
      all-five a b c d e p q r s u = grind (arith, p, q, r, s, u)

  abbrev Kept : List PublisherRecord → PublisherRecord → Type 0
  Kept front r = IsRangeRecord r × (is_sound publication (own_ranges rs) (with_records publication t front) r ≡ true)

  each : (f : List PublisherRecord) (x : PublisherRecord) (rest : List PublisherRecord) → f ++ x ∷ rest ≡ rs → Full publication grants x → Kept f x
  each f (Granted g) rest is full = ((full.ok.key, full.range), grant-sound f g rest is)
  each f (Held article ranges) rest is full = ((full.low, full.fits), held-sound article ranges full)
  each f (State front) rest is full = absurd full
  each f (Row key row) rest is full = absurd full
  each f (Mapped place move) rest is full = absurd full
  each f (Closed closing) rest is full = absurd full
  each f (Lost row) rest is full = absurd full
  each f (Subscribed site state) rest is full = absurd full

  pub range-rule : KeepOneByOne Kept [] rs
  range-rule = keep-all Kept rs [] rs refl (λ f x rest is. each f x rest is (around f x rest is).here)
