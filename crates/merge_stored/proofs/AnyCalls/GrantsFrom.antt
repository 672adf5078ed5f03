-- Tables that keep the rules of a start have grants and own ranges as every call leaves them.
use Rattle.std.specs.BTreeMap.{is_at}
use Rattle.std.specs.List.{AllByRecursion, list_all, list_any}
use Rattle.std.specs.List.Sorted.{IsStrictlySortedBy}
use Rattle.std.specs.Map.{keys_of}
use Rattle.std.specs.Option.{option_map, option_map_or}
use Rattle.std.specs.Ordering.{nat_cmp}
use Rattle.std.specs.Prelude.{Bool, List, None, Option, Some, [], cond, false, filter, find, if◌then◌else◌, is_some, map, nat_lt, not, refl, suc, true, zero, ℕ, ◌&&◌, ◌++◌, ◌+◌, ◌<◌, ◌==◌, ◌^◌, ◌||◌, ◌≡◌, ◌≤◌, ◌∷◌}
use Rattle.std.proofs.Common.{ap, append-nil, append_assoc, arith, subst, sym, ◌∙◌}
use Rattle.std.proofs.lemmas.Bool.Decides.{nat_tests}
use Rattle.std.proofs.lemmas.Int.{ints}
use Rattle.merge_ident.specs.Books.{IsBook}
use Rattle.merge_ident.specs.Grants.{AreNumbered, granted_to, is_numbered, is_of}
use Rattle.merge_ident.specs.Holders.{Holder, Received, range_of}
use Rattle.merge_ident.specs.Stored.{can_follow}
use Rattle.merge_ident.specs.declared.grants.Grant.{Grant}
use Rattle.merge_ident.specs.declared.grants.Range.{Range}
use Rattle.merge_schema.specs.Valid.{IsValid}
use Rattle.merge_schema.specs.declared.publication.Identity.{Identity}
use Rattle.merge_schema.specs.declared.publication.Publication.{Publication}
use Rattle.merge_batch.specs.Lineages.{is_site}
use Rattle.merge_ports.specs.Entries.{entry_cmp}
use Rattle.merge_record.specs.declared.ranges.HeldRanges.{HeldRanges}
use Rattle.merge_keeper.specs.Entries.{held_ranges, was_received}
use Rattle.merge_keeper.specs.PublisherRules as of_publisher
use Rattle.merge_keeper.specs.PublisherRules.{IsRangeRecord, held_pair, own_ranges, with_records}
use Rattle.merge_keeper.specs.PublisherStart.{grant_is_sound, holds, is_held, is_sound, own_is_sound, with_record}
use Rattle.merge_keeper.specs.Start.{KeepOneByOne, are_kept, holder_of, holds_last, identity_at, last_own, own_count, same_range, with_held, with_value_at}
use Rattle.merge_keeper.specs.declared.publisher_record.PublisherRecord.{PublisherRecord}
use Rattle.merge_keeper.specs.declared.publisher_record.PublisherRecord.TheVariants.{Closed, Granted, Held, Lost, Mapped, Row, State, Subscribed}
use Rattle.merge_keeper.specs.declared.stored.PublisherStored.{PublisherStored}
use Rattle.merge_model.specs.Publisher.{holder_for, new_holders}
use Rattle.merge_model.specs.Tables.Keys.{at_number}
use Rattle.merge_model.specs.Tables.Publications.{identities, rules_of}
use Rattle.merge_model.specs.Tables.{PublisherTables}
use Rattle.merge_model.proofs.Lists.Finding.{all-weaker, some_same}
use Rattle.merge_model.proofs.Lists.{all-both, all-filter, all-kept, all-map, all-of, all-passing, all-three}
use Rattle.merge_laws.proofs.Runs.ValidRules.{valid-rules}
use Rattle.merge_honest.proofs.HeldRanges.{new-well}
use Rattle.merge_stored.specs.Keeping.{PublisherKeeps}
use Rattle.merge_stored.specs.Own.{HoldsLast, OwnIsHeld}
use Rattle.merge_stored.specs.Ranges.{HeldLoads}
use Rattle.merge_stored.specs.Stored.{publisher_stored}
use Rattle.merge_stored.proofs.GrantRule.{RecordOk, front-count}
use Rattle.merge_stored.proofs.GrantsKnown.{GrantIsKnown}
use Rattle.merge_stored.proofs.HeldKeys.{HasKeys, keys-same}
use Rattle.merge_stored.proofs.HeldRule.{is_kept, last-found, own-counted}
use Rattle.merge_stored.proofs.HeldWalk.{EntryIsWell}
use Rattle.merge_stored.proofs.Own as own
use Rattle.merge_stored.proofs.RangeFacts.{grants-ok, self-at, sorted-filter}
use Rattle.merge_stored.proofs.RangeLists.{Pair, Stands, all-granted, by_grant, granted, grants-tallied, held-tallied, key_in, records-sorted, stands}
use Rattle.merge_stored.proofs.RangeRule.{Place, found-tally, place-of}
use Rattle.merge_stored.proofs.Ranges.{held-loads}
use Rattle.merge_stored.proofs.Tallies.{count-tally, counted, first-all, none-pass, none-tallied, second-all, tally, tally-append, tally-map, tally-none}
use Rattle.merge_stored.proofs.AnyCalls.FromRules.{one-by-one}
use Rattle.merge_stored.proofs.AnyCalls.HeldFrom.{keys-from, reads, well-from, wells-from}

-- What stands one behind the other stands at each place.

heads : {X : Type 0} (a b : X) (xs ys : List X) → a ∷ xs ≡ b ∷ ys → a ≡ b
heads a b xs ys same = cc

tails : {X : Type 0} (a b : X) (xs ys : List X) → a ∷ xs ≡ b ∷ ys → xs ≡ ys
tails a b xs ys same = cc

kept-at : {X : Type 0} (Q : List X → X → Type 0) (f front : List X) (x : X) (rest xs : List X) → f ++ x ∷ rest ≡ xs → KeepOneByOne Q front xs → Q (front ++ f) x
kept-at Q [] front x rest [] is all = absurd cc
kept-at {X} Q [] front x rest (y ∷ ys) is all = subst (λ (l : List X). Q l x) (sym (append-nil front)) (subst (λ (z : X). Q front z) (sym (heads x y rest ys is)) all.0)
kept-at Q (z ∷ f) front x rest [] is all = absurd cc
kept-at {X} Q (z ∷ f) front x rest (y ∷ ys) is all =
    let here : z ≡ y = heads z y (f ++ x ∷ rest) ys is in
    let more : Q ((front ++ y ∷ []) ++ f) x = kept-at Q f (front ++ y ∷ []) x rest ys (tails z y (f ++ x ∷ rest) ys is) all.1 in
    subst (λ (l : List X). Q l x) (append_assoc front (y ∷ []) f ∙ ap (λ (w : X). front ++ w ∷ f) (sym here)) more

some-tallied : {X : Type 0} (p : X → Bool) (xs : List X) → list_any p xs ≡ true → 1 ≤ tally p xs
some-tallied p [] some = absurd cc
some-tallied p (x ∷ xs) some = by (p x) refl (λ later. some-tallied p xs later) some
  where
    by : (b : Bool) → p x ≡ b → (list_any p xs ≡ true → 1 ≤ tally p xs) → (b || list_any p xs) ≡ true → 1 ≤ tally p (x ∷ xs)
    by true is more now = (let one : counted (p x) ≡ 1 = ap counted is in omega (arith, one))
    by false is more now = (let rest = more now in omega (arith, rest))

record Found (p : Grant → Bool) (grants : List Grant) : Type 0 where
  grant : Grant
  is : find p grants ≡ Some grant

found-some : (p : Grant → Bool) (grants : List Grant) → 1 ≤ tally p grants → Found p grants
found-some p [] some = absurd (omega (arith, some))
found-some p (g ∷ grants) some = by (p g) refl (λ later. found-some p grants later)
  where
    by : (b : Bool) → p g ≡ b → (1 ≤ tally p grants → Found p grants) → Found p (g ∷ grants)
    by true is more = record { grant = g; is = ap (λ (b : Bool). (let o : Option Grant = cond b (Some g) (find p grants) in o)) is }
    by false is more =
        let none : counted (p g) ≡ 0 = ap counted is in
        let later = more (omega (arith, none, some)) in
        record { grant = later.grant; is = ap (λ (b : Bool). (let o : Option Grant = cond b (Some g) (find p grants) in o)) is ∙ later.is }

zero-by : (n : ℕ) → (1 ≤ n → ⊥) → n ≡ 0
zero-by zero never = refl
zero-by (suc n) never = absurd (never (omega arith))

same-ranges : (a b : Range) → same_range a b ≡ true → a ≡ b
same-ranges a b is =
    let begin : a.begin ≡ b.begin = grind (arith, ints, nat_tests, is) in
    let end : a.end ≡ b.end = grind (arith, ints, nat_tests, is) in
    ap (λ z. (let r : Range = record { begin = z; end = a.end } in r)) begin ∙ ap (λ z. (let r : Range = record { begin = b.begin; end = z } in r)) end

-- what is found at a number is one of those that there are
found-entry : (P : ℕ × Holder → Type 0) (held : List (ℕ × Holder)) (article : ℕ) (holder : Holder) → AllByRecursion P held → at_number held article ≡ Some holder → P (article, holder)
found-entry P [] article holder all at = absurd cc
found-entry P (entry ∷ held) article holder all at = by (is_at (nat_cmp article) entry.0) refl (found-entry P held article holder all.1) at
  where
    by : (b : Bool) → is_at (nat_cmp article) entry.0 ≡ b → (at_number held article ≡ Some holder → P (article, holder)) → (let found : Option Holder = cond b (Some entry.1) (at_number held article) in found) ≡ Some holder → P (article, holder)
    by true is more now =
        let key : entry.0 ≡ article = grind (arith, nat_tests, is) in
        let value : entry.1 ≡ holder = some_same entry.1 holder now in
        subst (λ (n : ℕ). P (n, holder)) key (subst (λ (h : Holder). P (entry.0, h)) value all.0)
    by false is more now = more now

-- What is held after records was held before, or one of them says so.

module _ (publication : Publication) (article : ℕ) where
  replaced-by : (b : Bool) (a : ℕ) (new : Holder) (p : ℕ × Holder) (y z : Bool) → ((holds article (let q : ℕ × Holder = if b then (a, new) else p in q)) || y) ≡ true → (y ≡ true → (holds article (a, new) || z) ≡ true) → (holds article (a, new) || (holds article p || z)) ≡ true
  replaced-by true a new p true z some more = (let rest = more refl in grind (arith, rest))
  replaced-by true a new p false z some more = grind (arith, some)
  replaced-by false a new p true z some more = (let rest = more refl in grind (arith, rest))
  replaced-by false a new p false z some more = grind (arith, some)

  any-replaced : (a : ℕ) (new : Holder) (held : List (ℕ × Holder)) → list_any (holds article) (with_value_at held a new) ≡ true → (holds article (a, new) || list_any (holds article) held) ≡ true
  any-replaced a new [] some = absurd cc
  any-replaced a new (p ∷ held) some = replaced-by (p.0 == a) a new p (list_any (holds article) (with_value_at held a new)) (list_any (holds article) held) some (any-replaced a new held)

  or-right : (a b : Bool) → b ≡ true → (a || b) ≡ true
  or-right a b is = grind (arith, is)

  held-by : (found : Option Identity) (a : ℕ) (ranges : HeldRanges) (held : List (ℕ × Holder)) → is_held (option_map_or (λ (identity : Identity). with_value_at held a (holder_of identity ranges)) found held) article ≡ true → (((a == article) && nat_lt 0 ranges.have) || is_held held article) ≡ true
  held-by None a ranges held some = or-right ((a == article) && nat_lt 0 ranges.have) (is_held held article) some
  held-by (Some identity) a ranges held some = any-replaced a (holder_of identity ranges) held some

  either : (x y k z : Bool) → (x || y) ≡ true → (y ≡ true → (k || z) ≡ true) → ((k || x) || z) ≡ true
  either true y k z some more = grind arith
  either false true k z some more = (let rest = more refl in grind (arith, rest))
  either false false k z some more = absurd cc

  held-back : (rs : List PublisherRecord) (t : PublisherStored) → is_held (with_records publication t rs).held article ≡ true → (list_any (is_kept article) rs || is_held t.held article) ≡ true
  held-back [] t some = some
  held-back (Held a ranges ∷ rs) t some =
      either (list_any (is_kept article) rs) (is_held (with_held publication t.held a ranges) article) ((a == article) && nat_lt 0 ranges.have) (is_held t.held article)
      (held-back rs (with_record publication t (Held a ranges)) some) (held-by (identity_at publication a) a ranges t.held)
  held-back (Granted g ∷ rs) t some = held-back rs (with_record publication t (Granted g)) some
  held-back (State front ∷ rs) t some = held-back rs (with_record publication t (State front)) some
  held-back (Row key row ∷ rs) t some = held-back rs (with_record publication t (Row key row)) some
  held-back (Mapped place move ∷ rs) t some = held-back rs (with_record publication t (Mapped place move)) some
  held-back (Closed closing ∷ rs) t some = held-back rs (with_record publication t (Closed closing)) some
  held-back (Lost row ∷ rs) t some = held-back rs (with_record publication t (Lost row)) some
  held-back (Subscribed site state ∷ rs) t some = held-back rs (with_record publication t (Subscribed site state)) some

  new-none : (places : List (ℕ × Identity)) → list_any (holds article) (map holder_for places) ≡ false
  new-none [] = refl
  new-none (place ∷ places) = (let rest = new-none places in grind (arith, nat_tests, rest))

module _ (resolvers : ℕ) (publication : Publication) (valid : IsValid resolvers publication) (p : PublisherTables) (rules : PublisherKeeps publication p) where
  abbrev grants : List Grant
  grants = p.grants

  abbrev R : List (ℕ × Holder)
  R = filter was_received p.held

  abbrev pairs : List Pair
  pairs = granted (map held_pair R) grants

  abbrev rs : List PublisherRecord
  rs = map (λ (e : Pair). e.1) pairs

  abbrev owns : List (ℕ × Range)
  owns = own_ranges rs

  abbrev start : PublisherStored
  start = of_publisher.with_conflicts (publisher_stored p) (new_holders publication) p.conflicts

  abbrev pub Kept : List PublisherRecord → PublisherRecord → Type 0
  Kept front r = IsRangeRecord r × (is_sound publication owns (with_records publication start front) r ≡ true)

  numbered : AreNumbered grants
  numbered = rules.granted.numbered

  pub all-kept-records : KeepOneByOne Kept [] rs
  all-kept-records = rules.ranges

  pub count : (q : Grant → Bool) → tally (by_grant q) rs ≡ tally q grants
  count q = tally-map (by_grant q) (λ (e : Pair). e.1) pairs ∙ grants-tallied q R grants numbered rules.keyed

  pub of-held : (q : PublisherRecord → Bool) → ((g : Grant) → q (Granted g) ≡ false) → tally q rs ≡ tally (λ (e : Pair). q e.1) (map held_pair R)
  of-held q never = tally-map q (λ (e : Pair). e.1) pairs ∙ held-tallied q R grants never numbered rules.keyed

  -- Each grant is known.

  record GrantParts (front : List PublisherRecord) (g : Grant) : Type 0 where
    known : GrantIsKnown publication g
    held : (not (g.site.0 == 0) || is_held (with_records publication start front).held g.article) ≡ true

  grant-parts : (front : List PublisherRecord) (g : Grant) → grant_is_sound publication (with_records publication start front) g ≡ true → GrantParts front g
  unfolding grant_is_sound
  grant-parts front g sound = parts (is_some (identity_at publication g.article)) (is_site publication g.site.0) (can_follow (with_records publication start front).grants g) (not (g.site.0 == 0) || is_held (with_records publication start front).held g.article) refl refl refl sound
    where
      parts : (a b c d : Bool) → is_some (identity_at publication g.article) ≡ a → is_site publication g.site.0 ≡ b → (not (g.site.0 == 0) || is_held (with_records publication start front).held g.article) ≡ d → (a && b && c && d) ≡ true → GrantParts front g
      parts a b c d one two three is = record { known = (one ∙ (let x : a ≡ true = grind (arith, is) in x), two ∙ (let x : b ≡ true = grind (arith, is) in x)); held = three ∙ (let x : d ≡ true = grind (arith, is) in x) }

  abbrev known_test : Grant → Bool
  known_test g = is_some (identity_at publication g.article) && is_site publication g.site.0

  abbrev sound_test : PublisherRecord → Bool
  sound_test (Held a ranges) = not (own_is_sound publication owns a ranges)
  sound_test r = false

  abbrev Sound : PublisherRecord → Type 0
  Sound r = (by_grant (λ (g : Grant). not (known_test g)) r ≡ false) × (sound_test r ≡ false)

  not-known : (front : List PublisherRecord) (g : Grant) → GrantParts front g → not (known_test g) ≡ false
  not-known front g parts = (let one = parts.known.0 in let two = parts.known.1 in grind (arith, one, two))

  not-false : (b : Bool) → b ≡ true → not b ≡ false
  not-false true is = refl
  not-false false is = absurd cc

  record-sound : (front : List PublisherRecord) (r : PublisherRecord) → Kept front r → Sound r
  record-sound front (Granted g) kept = (not-known front g (grant-parts front g kept.1), refl)
  record-sound front (Held a ranges) kept = (refl, not-false (own_is_sound publication owns a ranges) kept.1)
  record-sound front (State state) kept = (refl, refl)
  record-sound front (Row key row) kept = (refl, refl)
  record-sound front (Mapped place move) kept = (refl, refl)
  record-sound front (Closed closing) kept = (refl, refl)
  record-sound front (Lost row) kept = (refl, refl)
  record-sound front (Subscribed site state) kept = (refl, refl)

  sounds : AllByRecursion Sound rs
  sounds = one-by-one Kept Sound record-sound [] rs all-kept-records

  known-each : (gs : List Grant) → list_all known_test gs ≡ true → AllByRecursion (GrantIsKnown publication) gs
  known-each [] all = tt
  known-each (g ∷ gs) all = ((let here : known_test g ≡ true = grind (arith, all) in (grind (arith, here), grind (arith, here))), known-each gs (grind (arith, all)))

  pub grants-from : AllByRecursion (GrantIsKnown publication) grants
  grants-from =
      let unknown : Grant → Bool = λ (g : Grant). not (known_test g) in
      let none = tally-none (by_grant unknown) rs (all-weaker Sound (λ (r : PublisherRecord). by_grant unknown r ≡ false) (λ r is. is.0) rs sounds) in
      known-each grants (none-tallied known_test grants (sym (count unknown) ∙ none))

  -- What is held of each article.

  record HeldParts (entry : ℕ × Holder) : Type 0 where
    kept : are_kept (held_ranges entry.1).ranges (held_ranges entry.1).next ≡ true
    have : (entry.1.have == own_count entry.0 owns) ≡ true
    last : holds_last (last_own entry.0 owns) (map range_of entry.1.held) ≡ true

  five : (a b c d e : Bool) → (a && b && c && d && e) ≡ true → (b ≡ true) × (d ≡ true) × (e ≡ true)
  five a b c d e is = (grind (arith, is), grind (arith, is), grind (arith, is))

  held-parts : (entry : ℕ × Holder) → own_is_sound publication owns entry.0 (held_ranges entry.1) ≡ true → HeldParts entry
  unfolding own_is_sound
  held-parts entry sound =
      let all = five (is_some (identity_at publication entry.0)) (are_kept (held_ranges entry.1).ranges (held_ranges entry.1).next) (nat_lt 0 entry.1.have) (entry.1.have == own_count entry.0 owns) (holds_last (last_own entry.0 owns) (map range_of entry.1.held)) sound in
      record { kept = all.0; have = all.1; last = all.2 }

  not-true : (b : Bool) → not b ≡ false → b ≡ true
  not-true true is = refl
  not-true false is = absurd cc

  each-held : (ps : List (ℕ × Holder)) → AllByRecursion (λ (e : Pair). sound_test e.1 ≡ false) (map held_pair ps) → AllByRecursion HeldParts ps
  each-held [] all = tt
  each-held (q ∷ ps) all = (held-parts q (not-true (own_is_sound publication owns q.0 (held_ranges q.1)) all.0), each-held ps all.1)

  helds : AllByRecursion HeldParts R
  helds =
      let none = tally-none sound_test rs (all-weaker Sound (λ (r : PublisherRecord). sound_test r ≡ false) (λ r is. is.1) rs sounds) in
      each-held R (none-pass (λ (e : Pair). sound_test e.1) (map held_pair R) (sym (of-held sound_test (λ g. refl)) ∙ none))

  pub received : AllByRecursion (λ (entry : ℕ × Holder). was_received entry ≡ true) R
  received = all-kept (λ (entry : ℕ × Holder). was_received entry ≡ true) was_received p.held (all-of (λ (entry : ℕ × Holder). was_received entry ≡ true → was_received entry ≡ true) (λ entry is. is) p.held)

  pub keyed-from : HasKeys publication p.held × AllByRecursion EntryIsWell p.held
  keyed-from = (
    keys-from publication p.held rules.received rules.all_held,
    wells-from publication p.held
        (all-three (λ (entry : ℕ × Holder). option_map (λ (identity : Identity). holder_of identity (held_ranges entry.1)) (identity_at publication entry.0) ≡ Some entry.1) HeldParts (λ (entry : ℕ × Holder). was_received entry ≡ true) EntryIsWell
        (λ entry back parts some. well-from publication entry (reads publication entry back) parts.kept some) R rules.received helds received) rules.all_held,
  )

  -- The own ranges.

  sorted : IsStrictlySortedBy nat_cmp (keys_of p.held)
  sorted = subst (λ (keys : List ℕ). IsStrictlySortedBy nat_cmp keys) (sym (keys-same p.held (new_holders publication) keyed-from.0)) (new-well publication 0).ascend

  records : IsStrictlySortedBy entry_cmp (map key_in rs)
  records = records-sorted R grants (all-weaker (HeldLoads publication) (λ (q : ℕ × Holder). q.0 < 2 ^ 8) (λ q loads. loads.article) R (held-loads resolvers publication valid p.held keyed-from.0 keyed-from.1).received) (sorted-filter was_received p.held sorted)

  held-ok : (ps : List (ℕ × Holder)) → AllByRecursion (λ (e : Pair). RecordOk grants e.1) (map held_pair ps)
  held-ok [] = tt
  held-ok (q ∷ ps) = (tt, held-ok ps)

  oks : AllByRecursion (RecordOk grants) rs
  oks = all-map (λ (e : Pair). RecordOk grants e.1) (RecordOk grants) (λ (e : Pair). e.1) (λ e ok. ok) pairs (all-granted (λ (e : Pair). RecordOk grants e.1) grants (map held_pair R) (grants-ok grants rules.in_order rules.granted rules.keyed) (held-ok R))

  -- the last own grant is the one that has as many as there are for its number
  own-last : (article have : ℕ) → have ≡ granted_to article 0 grants → (f : List PublisherRecord) (y : Grant) (rest : List PublisherRecord) → f ++ Granted y ∷ rest ≡ rs → is_numbered article 0 have y ≡ true → last_own article owns ≡ Some y.range
  own-last article have all_own f y rest is numbered_so =
      let of : is_of article 0 y ≡ true = grind (arith, numbered_so) in
      let number : y.number ≡ have = grind (arith, nat_tests, numbered_so) in
      let at : y.article ≡ article = grind (arith, nat_tests, of) in
      let to : y.site.0 ≡ 0 = grind (arith, nat_tests, of) in
      let whole : AllByRecursion (RecordOk grants) (f ++ Granted y ∷ rest) = subst (λ (l : List PublisherRecord). AllByRecursion (RecordOk grants) l) (sym is) oks in
      let second = second-all (RecordOk grants) f (Granted y ∷ rest) whole in
      let order : Stands f (Granted y) rest = stands f (Granted y) rest (subst (λ (l : List PublisherRecord). IsStrictlySortedBy entry_cmp (map key_in l)) (sym is) records) in
      let counts : (q : Grant → Bool) → tally (by_grant q) (f ++ Granted y ∷ rest) ≡ tally q grants = λ q. ap (λ (l : List PublisherRecord). tally (by_grant q) l) is ∙ count q in
      let front = front-count grants numbered y second.0 f rest (first-all (RecordOk grants) f (Granted y ∷ rest) whole) second.1 order (counts _) in
      let own_front : tally (by_grant (is_of article 0)) f + 1 ≡ y.number = subst (λ (k : ℕ). tally (by_grant (is_of article k)) f + 1 ≡ y.number) to (subst (λ (k : ℕ). tally (by_grant (is_of k y.site.0)) f + 1 ≡ y.number) at front) in
      let all = counts (is_of article 0) in
      let parts = tally-append (by_grant (is_of article 0)) f (Granted y ∷ rest) in
      let one : counted (is_of article 0 y) ≡ 1 = ap counted of in
      let same = count-tally (is_of article 0) grants in
      let none : tally (by_grant (is_of article 0)) rest ≡ 0 = omega (arith, number, own_front, all, parts, one, same, all_own) in
      ap (λ (l : List PublisherRecord). last_own article (own_ranges l)) (sym is) ∙ last-found article y f rest of none

  -- what is held is its range
  held-is : (article have : ℕ) → have ≡ granted_to article 0 grants → (range other : Range) (f : List PublisherRecord) (x : PublisherRecord) (rest : List PublisherRecord) → f ++ x ∷ rest ≡ rs → by_grant (λ (g : Grant). is_numbered article 0 have g && same_range g.range other) x ≡ true
      → option_map_or (same_range range) (last_own article owns) false ≡ true → range ≡ other
  held-is article have all_own range other f (Granted y) rest is passes last =
      let numbered_so : is_numbered article 0 have y ≡ true = grind (arith, passes) in
      let equal : same_range y.range other ≡ true = grind (arith, passes) in
      let found = own-last article have all_own f y rest is numbered_so in
      let here : same_range range y.range ≡ true = subst (λ (o : Option Range). option_map_or (same_range range) o false ≡ true) found last in
      same-ranges range y.range here ∙ same-ranges y.range other equal
  held-is article have all_own range other f (State front) rest is passes last = absurd cc
  held-is article have all_own range other f (Row key row) rest is passes last = absurd cc
  held-is article have all_own range other f (Mapped place move) rest is passes last = absurd cc
  held-is article have all_own range other f (Closed closing) rest is passes last = absurd cc
  held-is article have all_own range other f (Lost row) rest is passes last = absurd cc
  held-is article have all_own range other f (Held a ranges) rest is passes last = absurd cc
  held-is article have all_own range other f (Subscribed site state) rest is passes last = absurd cc

  last-of : (article have : ℕ) (held : List Received) → have ≡ granted_to article 0 grants → 1 ≤ have → holds_last (last_own article owns) (map range_of held) ≡ true → HoldsLast grants article have held
  last-of article have [] all_own some last = tt
  last-of article have (first ∷ []) all_own some last =
      let test : Grant → Bool = is_numbered article 0 have in
      let is = numbered article 0 have in
      let same = count-tally test grants in
      let one : 1 ≤ tally test grants = grind (arith, nat_tests, is, same, some, all_own) in
      let z : Found test grants = found-some test grants one in
      let ranged : option_map (λ (grant : Grant). grant.range) (find test grants) ≡ Some z.grant.range = ap (λ (o : Option Grant). option_map (λ (grant : Grant). grant.range) o) z.is in
      let both : Grant → Bool = λ (g : Grant). test g && same_range g.range z.grant.range in
      let there = found-tally test z.grant.range grants ranged in
      let all = count both in
      let place : Place (by_grant both) rs = place-of (by_grant both) rs (omega (arith, there, all)) in
      let equal : first.range ≡ z.grant.range = held-is article have all_own first.range z.grant.range place.f place.x place.rest place.is place.passes last in
      ranged ∙ ap (λ (r : Range). (let o : Option Range = Some r in o)) (sym equal)
  last-of article have (first ∷ next ∷ rest) all_own some last = absurd cc

  received-own : (entry : ℕ × Holder) → HeldParts entry → was_received entry ≡ true → OwnIsHeld grants entry.0 entry.1
  received-own entry parts some =
      let equal = parts.have in
      let counted_is : own_count entry.0 owns ≡ tally (is_of entry.0 0) grants = own-counted entry.0 rs ∙ count (is_of entry.0 0) in
      let same = count-tally (is_of entry.0 0) grants in
      let have : entry.1.have ≡ granted_to entry.0 0 grants = grind (arith, nat_tests, equal, counted_is, same) in
      record { have = have; last = last-of entry.0 entry.1.have entry.1.held have (grind (arith, nat_tests, some)) parts.last }

  pub owns-received : AllByRecursion (λ (entry : ℕ × Holder). OwnIsHeld grants entry.0 entry.1) R
  owns-received = all-both HeldParts (λ (entry : ℕ × Holder). was_received entry ≡ true) (λ (entry : ℕ × Holder). OwnIsHeld grants entry.0 entry.1) received-own R helds received

  -- where nothing was received nothing was granted
  kept-none : (article : ℕ) (holder : Holder) → at_number p.held article ≡ Some holder → holder.have ≡ 0 → tally (is_kept article) rs ≡ 0
  kept-none article holder at none =
      of-held (is_kept article) (λ g. refl) ∙ tally-none (λ (e : Pair). is_kept article e.1) (map held_pair R)
      (all-map (λ (q : ℕ × Holder). at_number p.held q.0 ≡ Some q.1) (λ (e : Pair). is_kept article e.1 ≡ false) held_pair (λ q found. by (q.0 == article) q refl found) R
      (all-filter (λ (q : ℕ × Holder). at_number p.held q.0 ≡ Some q.1) was_received p.held (self-at p.held sorted)))
    where
      by : (b : Bool) (q : ℕ × Holder) → (q.0 == article) ≡ b → at_number p.held q.0 ≡ Some q.1 → is_kept article (Held q.0 (held_ranges q.1)) ≡ false
      by true q is found =
          let same : q.0 ≡ article = grind (arith, nat_tests, is) in
          let here : q.1 ≡ holder = some_same q.1 holder (sym found ∙ ap (at_number p.held) same ∙ at) in
          let zero_have : q.1.have ≡ 0 = ap (λ (h : Holder). h.have) here ∙ none in
          grind (arith, nat_tests, zero_have)
      by false q is found = grind (arith, is)

  granted-held : (article : ℕ) (f : List PublisherRecord) (x : PublisherRecord) (rest : List PublisherRecord) → f ++ x ∷ rest ≡ rs → by_grant (is_of article 0) x ≡ true → 1 ≤ tally (is_kept article) f
  granted-held article f (Granted y) rest is passes =
      let kept : Kept f (Granted y) = kept-at Kept f [] (Granted y) rest rs is all-kept-records in
      let parts : GrantParts f y = grant-parts f y kept.1 in
      let held = parts.held in
      let to : (y.site.0 == 0) ≡ true = grind (arith, passes) in
      let at : y.article ≡ article = grind (arith, nat_tests, passes) in
      let there : is_held (with_records publication start f).held y.article ≡ true = grind (arith, held, to) in
      let here : is_held (with_records publication start f).held article ≡ true = subst (λ (n : ℕ). is_held (with_records publication start f).held n ≡ true) at there in
      let back = held-back publication article f start here in
      let none = new-none publication article (identities publication) in
      some-tallied (is_kept article) f (grind (arith, back, none))
  granted-held article f (State front) rest is passes = absurd cc
  granted-held article f (Row key row) rest is passes = absurd cc
  granted-held article f (Mapped place move) rest is passes = absurd cc
  granted-held article f (Closed closing) rest is passes = absurd cc
  granted-held article f (Lost row) rest is passes = absurd cc
  granted-held article f (Held a ranges) rest is passes = absurd cc
  granted-held article f (Subscribed site state) rest is passes = absurd cc

  none-granted : (article : ℕ) (holder : Holder) → at_number p.held article ≡ Some holder → holder.have ≡ 0 → granted_to article 0 grants ≡ 0
  none-granted article holder at none = count-tally (is_of article 0) grants ∙ zero-by (tally (is_of article 0) grants) (λ some. (
      let all = count (is_of article 0) in
      let place : Place (by_grant (is_of article 0)) rs = place-of (by_grant (is_of article 0)) rs (omega (arith, some, all)) in
      let front = granted-held article place.f place.x place.rest place.is place.passes in
      let parts = tally-append (is_kept article) place.f (place.x ∷ place.rest) in
      let whole : tally (is_kept article) (place.f ++ place.x ∷ place.rest) ≡ 0 = ap (λ (l : List PublisherRecord). tally (is_kept article) l) place.is ∙ kept-none article holder at none in
      omega (arith, front, parts, whole)))

  holds-none : (grants_so : List Grant) (article number : ℕ) (held : List Received) → held ≡ [] → HoldsLast grants_so article number held
  holds-none grants_so article number [] is = tt
  holds-none grants_so article number (first ∷ held) is = absurd cc

  own-by : (article : ℕ) (holder : Holder) (b : Bool) → nat_lt 0 holder.have ≡ b → at_number p.held article ≡ Some holder → OwnIsHeld grants article holder
  own-by article holder true some at =
      found-entry (λ (entry : ℕ × Holder). was_received entry ≡ true → OwnIsHeld grants entry.0 entry.1) p.held article holder
      (all-passing (λ (entry : ℕ × Holder). OwnIsHeld grants entry.0 entry.1) was_received p.held owns-received) at some
  own-by article holder false some at =
      let none : holder.have ≡ 0 = grind (arith, nat_tests, some) in
      let granted_none = none-granted article holder at none in
      let well = found-entry EntryIsWell p.held article holder keyed-from.1 at in
      record { have = omega (arith, none, granted_none); last = holds-none grants article holder.have holder.held (well.fresh none).0 }

  pub own-from : IsBook (rules_of publication) grants × own.Held grants p.held
  own-from = (record { rules_fit = valid-rules resolvers publication valid; grants_fit = rules.granted; in_order = rules.in_order }, λ article holder at. own-by article holder (nat_lt 0 holder.have) refl at)
