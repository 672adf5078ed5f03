-- A site holds each article with an identity column, in order, with the threshold of its publication, whatever is put.
use Rattle.std.specs.List.{AllByRecursion, cons_option, enumerate_from}
use Rattle.std.specs.List.Sorted.{IsStrictlySortedBy}
use Rattle.std.specs.Map.{keys_of}
use Rattle.std.specs.Ordering.{is_eq, match_ordering, nat_cmp}
use Rattle.std.specs.declared.cmp.Ordering.{Ordering}
use Rattle.std.specs.declared.cmp.Ordering.TheVariants.{Equal, Greater, Less}
use Rattle.std.specs.Prelude.{Bool, List, None, Option, Some, [], cond, false, filter, filter_map, map, nat_lt, option_map, refl, slice_get, suc, true, ℕ, ◌+◌, ◌-◌, ◌==◌, ◌≡◌, ◌≤◌, ◌∷◌}
use Rattle.std.proofs.Common.{ap, arith, subst, sym, ◌∙◌}
use Rattle.std.proofs.lemmas.Bool.Decides.{nat_tests}
use Rattle.merge_ident.specs.Holders.{Holder, new_holder}
use Rattle.merge_schema.specs.declared.publication.Article.{Article}
use Rattle.merge_schema.specs.declared.publication.Identity.{Identity}
use Rattle.merge_schema.specs.declared.publication.Publication.{Publication}
use Rattle.merge_table.proofs.Slots.{lookup_above}
use Rattle.merge_keeper.specs.Entries.{was_received}
use Rattle.merge_keeper.specs.Start.{identity_at, with_value_at}
use Rattle.merge_keeper.specs.SubscriberRules.{held_with}
use Rattle.merge_record.specs.Reading.{◌>>=◌}
use Rattle.merge_table.proofs.Room.{AreAbove}
use Rattle.merge_model.specs.Tables.Keys.{at_number, put_number}
use Rattle.merge_model.specs.Tables.Publications.{identities, identity_of}
use Rattle.merge_model.specs.Publisher.{holder_for, new_holders}
use Rattle.merge_model.proofs.Lists.Finding.{all-weaker, some_same}
use Rattle.merge_honest.proofs.HeldRanges.{each-step as place-step}

-- what stays of what is held
abbrev pub key_threshold : ℕ × Holder → ℕ × ℕ
key_threshold entry = (entry.0, entry.1.threshold)

abbrev pub HasKeys : Publication → List (ℕ × Holder) → Type 0
HasKeys publication held = map key_threshold held ≡ map key_threshold (new_holders publication)

-- Sorted keys.

above-lower : (a b : ℕ) (keys : List ℕ) → nat_cmp a b ≡ Less → AreAbove nat_cmp b keys → AreAbove nat_cmp a keys
above-lower a b [] less above = tt
above-lower a b (key ∷ keys) less above = (let first = above.0 in grind (arith, nat_tests, less, first), above-lower a b keys less above.1)

pub keys-same : (held other : List (ℕ × Holder)) → map key_threshold held ≡ map key_threshold other → keys_of held ≡ keys_of other
keys-same [] [] same = refl
keys-same [] (o ∷ other) same = absurd cc
keys-same (h ∷ held) [] same = absurd cc
keys-same (h ∷ held) (o ∷ other) same =
    let first : h.0 ≡ o.0 = ap (λ (l : List (ℕ × ℕ)). first-of l) same in
    let rest = keys-same held other (ap (λ (l : List (ℕ × ℕ)). rest-of l) same) in
    ap (λ (n : ℕ). n ∷ keys_of held) first ∙ ap (λ (l : List ℕ). o.0 ∷ l) rest
  where
    first-of : List (ℕ × ℕ) → ℕ
    first-of [] = 0
    first-of (x ∷ xs) = x.0

    rest-of : List (ℕ × ℕ) → List (ℕ × ℕ)
    rest-of [] = []
    rest-of (x ∷ xs) = xs

-- One that is there is put with the threshold that it had.

put-by : (o : Ordering) (article : ℕ) (new holder : Holder) (entry : ℕ × Holder) (held put : List (ℕ × Holder)) (found : Option Holder) → (let now : Option Holder = cond (is_eq o) (Some entry.1) found in now) ≡ Some holder → (o ≡ Less → found ≡ None) → new.threshold ≡ holder.threshold
    → (found ≡ Some holder → map key_threshold put ≡ map key_threshold held) → map key_threshold (match_ordering o ((article, new) ∷ entry ∷ held) ((entry.0, new) ∷ held) (entry ∷ put)) ≡ map key_threshold (entry ∷ held)
put-by Less article new holder entry held put found at none same rest = absurd (let nothing = none refl in cc)
put-by Equal article new holder entry held put found at none same rest =
    let is : entry.1 ≡ holder = some_same entry.1 holder at in
    let threshold : new.threshold ≡ entry.1.threshold = same ∙ ap (λ (h : Holder). h.threshold) (sym is) in
    ap (λ (n : ℕ). (entry.0, n) ∷ map key_threshold held) threshold
put-by Greater article new holder entry held put found at none same rest = ap (λ (l : List (ℕ × ℕ)). key_threshold entry ∷ l) (rest at)

pub put-same : (held : List (ℕ × Holder)) (article : ℕ) (new holder : Holder) → IsStrictlySortedBy nat_cmp (keys_of held) → at_number held article ≡ Some holder → new.threshold ≡ holder.threshold → map key_threshold (put_number held article new) ≡ map key_threshold held
unfolding IsStrictlySortedBy
put-same [] article new holder sorted at same = absurd cc
put-same (entry ∷ held) article new holder sorted at same =
    put-by (nat_cmp article entry.0) article new holder entry held (put_number held article new) (at_number held article) at
    (λ less. lookup_above nat_cmp article held (above-lower article entry.0 (keys_of held) less sorted.0)) same (λ later. put-same held article new holder sorted.1 later same)

-- Each is of an article with an identity column.

abbrev IsPlaceOf : List Article → ℕ → ℕ × Identity → Type 0
IsPlaceOf articles place entry = (place ≤ entry.0) × ((slice_get articles (entry.0 - place) >>= λ article. article.identity) ≡ Some entry.1)

place-behind : (article : Article) (articles : List Article) (place : ℕ) (entry : ℕ × Identity) → IsPlaceOf articles (place + 1) entry → IsPlaceOf (article ∷ articles) place entry
place-behind article articles place entry is =
    let low = is.0 in
    let next : entry.0 - place ≡ suc (entry.0 - (place + 1)) = omega (arith, low) in
    (omega (arith, low), ap (λ (k : ℕ). slice_get (article ∷ articles) k >>= λ a. a.identity) next ∙ is.1)

place-here : (article : Article) (articles : List Article) (place : ℕ) (identity : Identity) → article.identity ≡ Some identity → IsPlaceOf (article ∷ articles) place (place, identity)
place-here article articles place identity is =
    let none : place - place ≡ 0 = omega arith in
    (omega arith, ap (λ (k : ℕ). slice_get (article ∷ articles) k >>= λ a. a.identity) none ∙ is)

places-each : (articles : List Article) (place : ℕ) → AllByRecursion (IsPlaceOf articles place) (filter_map identity_of (enumerate_from place articles))
places-each [] place = tt
places-each (article ∷ articles) place =
    let rest : List (ℕ × Identity) = filter_map identity_of (enumerate_from (place + 1) articles) in
    place-step (IsPlaceOf (article ∷ articles) place) place article.identity rest (λ identity is. place-here article articles place identity is)
    (all-weaker (IsPlaceOf articles (place + 1)) (IsPlaceOf (article ∷ articles) place) (λ entry is. place-behind article articles place entry is) rest (places-each articles (place + 1)))

pub identities-at : (publication : Publication) → AllByRecursion (λ (place : ℕ × Identity). identity_at publication place.0 ≡ Some place.1) (identities publication)
identities-at publication = all-weaker (IsPlaceOf publication.articles 0) (λ (place : ℕ × Identity). identity_at publication place.0 ≡ Some place.1)
    (λ entry is. ap (λ (k : ℕ). slice_get publication.articles k >>= λ article. article.identity) (let same : entry.0 ≡ entry.0 - 0 = omega arith in same) ∙ is.1) (identities publication) (places-each publication.articles 0)

-- an entry with the identity column of its article
pub record IsOfIdentity (publication : Publication) (entry : ℕ × Holder) : Type 0 where
  pub identity : Identity
  pub found : identity_at publication entry.0 ≡ Some identity
  pub threshold : entry.1.threshold ≡ identity.threshold

pub each-identity : (publication : Publication) (held : List (ℕ × Holder)) (places : List (ℕ × Identity)) → map key_threshold held ≡ map key_threshold (map holder_for places) → AllByRecursion (λ (place : ℕ × Identity). identity_at publication place.0 ≡ Some place.1) places
    → AllByRecursion (IsOfIdentity publication) held
each-identity publication [] places same all = tt
each-identity publication (entry ∷ held) [] same all = absurd cc
each-identity publication (entry ∷ held) (place ∷ places) same all =
    let key : entry.0 ≡ place.0 = ap first-key same in
    let threshold : entry.1.threshold ≡ place.1.threshold = ap first-threshold same in
    (record { identity = place.1; found = ap (identity_at publication) key ∙ all.0; threshold = threshold }, each-identity publication held places (ap rest-of same) all.1)
  where
    first-key : List (ℕ × ℕ) → ℕ
    first-key [] = 0
    first-key (x ∷ xs) = x.0

    first-threshold : List (ℕ × ℕ) → ℕ
    first-threshold [] = 0
    first-threshold (x ∷ xs) = x.1

    rest-of : List (ℕ × ℕ) → List (ℕ × ℕ)
    rest-of [] = []
    rest-of (x ∷ xs) = xs

-- What was received, in the place of what there was in the beginning, is what is held.

abbrev Over : ℕ → List (ℕ × Holder) → Type 0
Over n ps = AreAbove nat_cmp n (keys_of ps)

apart-too : (a b : ℕ) → nat_cmp a b ≡ Less → (b == a) ≡ false
apart-too a b less = grind (arith, nat_tests, less)

apart : (a b : ℕ) → nat_cmp a b ≡ Less → (a == b) ≡ false
apart a b less = grind (arith, nat_tests, less)

none-replaced : (n : ℕ) (v : Holder) (ps : List (ℕ × Holder)) → Over n ps → with_value_at ps n v ≡ ps
none-replaced n v [] over = refl
none-replaced n v (p ∷ ps) over =
    ap (λ (b : Bool). (let l : List (ℕ × Holder) = cond b (n, v) p ∷ with_value_at ps n v in l)) (apart-too n p.0 over.0) ∙ ap (λ (l : List (ℕ × Holder)). p ∷ l) (none-replaced n v ps over.1)

first-stays : (p : ℕ × Holder) (held ps : List (ℕ × Holder)) → Over p.0 ps → held_with (p ∷ held) ps ≡ p ∷ held_with held ps
first-stays p held [] over = refl
first-stays p held (q ∷ ps) over =
    ap (λ (b : Bool). held_with (cond b (q.0, q.1) p ∷ with_value_at held q.0 q.1) ps) (apart p.0 q.0 over.0) ∙ first-stays p (with_value_at held q.0 q.1) ps over.1

first-replaced : (p q : ℕ × Holder) (held ps : List (ℕ × Holder)) → q.0 ≡ p.0 → Over q.0 held → Over q.0 ps → held_with (p ∷ held) (q ∷ ps) ≡ q ∷ held_with held ps
first-replaced p q held ps same over later =
    let here : (p.0 == q.0) ≡ true = grind (arith, nat_tests, same) in
    ap (λ (b : Bool). held_with (cond b (q.0, q.1) p ∷ with_value_at held q.0 q.1) ps) here ∙ ap (λ (l : List (ℕ × Holder)). held_with (q ∷ l) ps) (none-replaced q.0 q.1 held over) ∙ first-stays q held ps later

over-filter : (n : ℕ) (ps : List (ℕ × Holder)) → Over n ps → Over n (filter was_received ps)
over-filter n [] over = tt
over-filter n (p ∷ ps) over = filtered-by (was_received p) p (filter was_received ps) over.0 (over-filter n ps over.1)
  where
    filtered-by : (b : Bool) (p : ℕ × Holder) (rest : List (ℕ × Holder)) → nat_cmp n p.0 ≡ Less → Over n rest → Over n (cond b (p ∷ rest) rest)
    filtered-by true p rest here later = (here, later)
    filtered-by false p rest here later = later

-- one of which nothing was received is as it was
abbrev pub IsFresh : ℕ × Holder → Type 0
IsFresh entry = entry.1.have ≡ 0 → entry.1 ≡ new_holder entry.1.threshold

over-places : (n : ℕ) (held other : List (ℕ × Holder)) → keys_of held ≡ keys_of other → Over n held → Over n other
over-places n held other same over = subst (λ (keys : List ℕ). AreAbove nat_cmp n keys) same over

first-key : List (ℕ × ℕ) → ℕ
first-key [] = 0
first-key (x ∷ xs) = x.0

first-threshold : List (ℕ × ℕ) → ℕ
first-threshold [] = 0
first-threshold (x ∷ xs) = x.1

rest-of : List (ℕ × ℕ) → List (ℕ × ℕ)
rest-of [] = []
rest-of (x ∷ xs) = xs

held-by : (b : Bool) (entry : ℕ × Holder) (place : ℕ × Identity) (held : List (ℕ × Holder)) (places : List (ℕ × Identity)) → nat_lt 0 entry.1.have ≡ b → entry.0 ≡ place.0 → entry.1.threshold ≡ place.1.threshold → map key_threshold held ≡ map key_threshold (map holder_for places)
    → Over entry.0 held → IsFresh entry → held_with (map holder_for places) (filter was_received held) ≡ held → held_with (holder_for place ∷ map holder_for places) (cond b (entry ∷ filter was_received held) (filter was_received held)) ≡ entry ∷ held
held-by true entry place held places is key threshold same over fresh later =
    first-replaced (holder_for place) entry (map holder_for places) (filter was_received held) key (over-places entry.0 held (map holder_for places) (keys-same held (map holder_for places) same) over) (over-filter entry.0 held over)
    ∙ ap (λ (l : List (ℕ × Holder)). entry ∷ l) later
held-by false entry place held places is key threshold same over fresh later =
    let none : entry.1.have ≡ 0 = grind (arith, nat_tests, is) in
    let holder : (let new : Holder = new_holder place.1.threshold in new) ≡ entry.1 = ap new_holder (sym threshold) ∙ sym (fresh none) in
    let first : holder_for place ≡ entry = ap (λ (n : ℕ). (let e : ℕ × Holder = (n, new_holder place.1.threshold) in e)) (sym key) ∙ ap (λ (h : Holder). (let e : ℕ × Holder = (entry.0, h) in e)) holder in
    first-stays (holder_for place) (map holder_for places) (filter was_received held) (subst (λ (n : ℕ). Over n (filter was_received held)) key (over-filter entry.0 held over))
    ∙ ap (λ (l : List (ℕ × Holder)). holder_for place ∷ l) later ∙ ap (λ (e : ℕ × Holder). e ∷ held) first

pub all-held : (held : List (ℕ × Holder)) (places : List (ℕ × Identity)) → map key_threshold held ≡ map key_threshold (map holder_for places) → IsStrictlySortedBy nat_cmp (keys_of held) → AllByRecursion IsFresh held → held_with (map holder_for places) (filter was_received held) ≡ held
unfolding IsStrictlySortedBy first-key first-threshold rest-of
all-held [] [] same sorted fresh = refl
all-held [] (place ∷ places) same sorted fresh = absurd cc
all-held (entry ∷ held) [] same sorted fresh = absurd cc
all-held (entry ∷ held) (place ∷ places) same sorted fresh =
    held-by (nat_lt 0 entry.1.have) entry place held places refl (ap first-key same) (ap first-threshold same) (ap rest-of same) sorted.0 fresh.0 (all-held held places (ap rest-of same) sorted.1 fresh.1)
