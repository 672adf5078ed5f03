-- What the publisher holds of ranges is what it granted itself.
use Rattle.std.proofs.Common.{◌≡◌, ◌∙◌, ℕ, ◌+◌, ◌<◌, ◌==◌, ◌&&◌, ◌||◌, not, nat_lt, Bool, true, false, cond, List, [], ◌∷◌, ◌++◌, map, take, drop, filter, count_by, Option, Some, None, is_some, refl, sym, ap, subst, arith}
use Rattle.std.specs.BTreeMap.{is_at}
use Rattle.std.specs.List.{cons_option, list_any, AllByRecursion}
use Rattle.std.specs.List.Sorted.{IsStrictlySortedBy}
use Rattle.std.specs.Map.{keys_of}
use Rattle.std.specs.Option.{option_map_or}
use Rattle.std.specs.Ordering.{nat_cmp}
use Rattle.std.specs.declared.cmp.Ordering.TheVariants.{Less}
use Rattle.std.proofs.lemmas.Bool.{eqb-true}
use Rattle.std.proofs.lemmas.Bool.Decides.{nat_tests}
use Rattle.std.proofs.lemmas.Cmp.{ranked}
use Rattle.std.proofs.lemmas.List.{take-append-drop}
use Rattle.std.proofs.lemmas.List.Sums.{sum_by-append, sum_by-cons}
use Rattle.std.proofs.lemmas.Map.Keys.{sorted_head, sorted_tail}
use Rattle.merge_ident.specs.Grants.{granted_to, is_of}
use Rattle.merge_ident.specs.Holders.{Holder}
use Rattle.merge_ident.specs.Stored.{can_follow}
use Rattle.merge_ident.specs.declared.grants.Grant.{Grant}
use Rattle.merge_ident.specs.declared.grants.Range.{Range}
use Rattle.merge_ident.proofs.Added.{count_by-cons}
use Rattle.merge_schema.specs.declared.publication.Identity.{Identity}
use Rattle.merge_schema.specs.declared.publication.Publication.{Publication}
use Rattle.merge_batch.specs.Lineages.{is_site}
use Rattle.merge_record.specs.declared.ranges.HeldRanges.{HeldRanges}
use Rattle.merge_model.specs.Tables.Keys.{at_number}
use Rattle.merge_keeper.specs.Entries.{held_ranges, was_received}
use Rattle.merge_keeper.specs.Given.{IsBeginning}
use Rattle.merge_keeper.specs.PublisherRules.{held_pair, own_ranges, range_records, with_conflicts, with_records, IsRangeRecord, KeepRules}
use Rattle.merge_keeper.specs.PublisherStart.{grant_is_sound, holds, is_held, is_sound, own_is_sound, with_record}
use Rattle.merge_keeper.specs.Start.{are_kept, holder_of, holds_last, identity_at, insert_by_begin, is_own, last_own, own_count, place_by_begin, with_value_at, with_held, KeepOneByOne}
use Rattle.merge_keeper.specs.declared.publisher_record.PublisherRecord.{PublisherRecord}
use Rattle.merge_keeper.specs.declared.publisher_record.PublisherRecord.TheVariants.{State, Row, Mapped, Closed, Lost, Held, Granted, Subscribed}
use Rattle.merge_keeper.specs.declared.stored.PublisherStored.{PublisherStored}
use Rattle.merge_keeper.proofs.Begins.{all_before, all_listed, put_all}
use Rattle.merge_keeper.proofs.Fronts.{and_first, and_second}
use Rattle.merge_keeper.proofs.Ranges.{all_clear, all_held_clear, grants_of, grants_put, helds_of, helds_put, records_in, with_more, AllClear}

no_truth : false ≡ true → ⊥
no_truth e = cc

-- ---- grants that are put are counted, wherever they stand

counted_parts : (p : Grant → Bool) (g : Grant) (front rest : List Grant) → count_by p (front ++ g ∷ rest) ≡ count_by p (front ++ rest) + cond (p g) 1 0
counted_parts p g front rest =
    let tested : Grant → ℕ = λ y. cond (p y) 1 0 in
    let all = sum_by-append tested front (g ∷ rest) in
    let others = sum_by-append tested front rest in
    let first = count_by-cons p g rest in
    omega (arith, all, others, first)

counted_put : (p : Grant → Bool) (g : Grant) (gs : List Grant) → count_by p (insert_by_begin gs g) ≡ count_by p gs + cond (p g) 1 0
counted_put p g gs =
    counted_parts p g (take (place_by_begin gs g) gs) (drop (place_by_begin gs g) gs)
    ∙ ap (λ (l : List Grant). count_by p l + cond (p g) 1 0) (take-append-drop (place_by_begin gs g) gs)

counted_all : (p : Grant → Bool) (xs gs : List Grant) → count_by p (put_all gs xs) ≡ count_by p gs + count_by p xs
counted_all p [] gs = omega arith
counted_all p (x ∷ xs) gs =
    let rest = counted_all p xs (insert_by_begin gs x) in
    let here = counted_put p x gs in
    let more = count_by-cons p x xs in
    omega (arith, rest, here, more)

-- ---- the records of what is held and of grants

no_grants_held : (ps : List (ℕ × Holder)) → grants_of (records_in (map held_pair ps)) ≡ []
no_grants_held [] = refl
no_grants_held (p ∷ ps) = no_grants_held ps

abbrev received_pair : ℕ × Holder → ℕ × HeldRanges
received_pair p = (p.0, held_ranges p.1)

helds_listed : (ps : List (ℕ × Holder)) → helds_of (records_in (map held_pair ps)) ≡ map received_pair ps
helds_listed [] = refl
helds_listed (p ∷ ps) = ap (λ (l : List (ℕ × HeldRanges)). received_pair p ∷ l) (helds_listed ps)

-- the publisher's own grants among records, by article
and_true : (b : Bool) → (b && true) ≡ b
and_true true = refl
and_true false = refl

none_more : (b : Bool) (n : ℕ) → n ≡ cond (b && false) 1 0 + n
none_more true n = omega arith
none_more false n = omega arith

own_step : (article : ℕ) (g : Grant) (owns : List (ℕ × Range)) (b : Bool) → (g.site.0 == 0) ≡ b
    → count_by (is_own article) (cons_option (let o : Option (ℕ × Range) = cond (g.site.0 == 0) (Some (g.article, g.range)) None in o) owns) ≡ cond (is_of article 0 g) 1 0 + count_by (is_own article) owns
own_step article g owns true e =
    rw e (sum_by-cons (λ (own : ℕ × Range). cond (is_own article own) 1 0) (g.article, g.range) owns
    ∙ ap (λ (b : Bool). cond b 1 0 + count_by (is_own article) owns) (sym (and_true (g.article == article))))
own_step article g owns false e = rw e (none_more (g.article == article) (count_by (is_own article) owns))

owns_counted : (article : ℕ) (rs : List PublisherRecord) → own_count article (own_ranges rs) ≡ granted_to article 0 (grants_of rs)
owns_counted article [] = refl
owns_counted article (State front ∷ rs) = owns_counted article rs
owns_counted article (Row key row ∷ rs) = owns_counted article rs
owns_counted article (Mapped place mapping ∷ rs) = owns_counted article rs
owns_counted article (Closed c ∷ rs) = owns_counted article rs
owns_counted article (Lost row ∷ rs) = owns_counted article rs
owns_counted article (Held a held ∷ rs) = owns_counted article rs
owns_counted article (Granted grant ∷ rs) =
    let here = own_step article grant (own_ranges rs) (grant.site.0 == 0) refl in
    let more = owns_counted article rs in
    let counted = count_by-cons (is_of article 0) grant (grants_of rs) in
    omega (arith, here, more, counted)
owns_counted article (Subscribed site state ∷ rs) = owns_counted article rs

-- ---- what a record of what is held says

abbrev HasOwn : List (ℕ × Range) → ℕ × HeldRanges → Type 0
HasOwn owns x = x.1.have ≡ own_count x.0 owns

own_has : (publication : Publication) (owns : List (ℕ × Range)) (article : ℕ) (held : HeldRanges) → own_is_sound publication owns article held ≡ true → HasOwn owns (article, held)
unfolding own_is_sound
own_has publication owns article held h =
    let identity : Bool = is_some (identity_at publication article) in
    let kept : Bool = are_kept held.ranges held.next in
    let have : Bool = nat_lt 0 held.have in
    let same : Bool = held.have == own_count article owns in
    eqb-true held.have (own_count article owns) (and_second (identity && kept && have) same (and_first (identity && kept && have && same) (holds_last (last_own article owns) held.ranges) h))

abbrev SoundBehind : Publication → List (ℕ × Range) → PublisherStored → List PublisherRecord → List PublisherRecord → Type 0
SoundBehind publication owns t front rs = KeepOneByOne (λ f r. IsRangeRecord r × (is_sound publication owns (with_records publication t f) r ≡ true)) front rs

all_own : (publication : Publication) (owns : List (ℕ × Range)) (t : PublisherStored) (front rs : List PublisherRecord) → SoundBehind publication owns t front rs → AllByRecursion (HasOwn owns) (helds_of rs)
all_own publication owns t front [] h = tt
all_own publication owns t front (State state ∷ rs) h = all_own publication owns t (front ++ State state ∷ []) rs h.1
all_own publication owns t front (Row key row ∷ rs) h = all_own publication owns t (front ++ Row key row ∷ []) rs h.1
all_own publication owns t front (Mapped place mapping ∷ rs) h = all_own publication owns t (front ++ Mapped place mapping ∷ []) rs h.1
all_own publication owns t front (Closed c ∷ rs) h = all_own publication owns t (front ++ Closed c ∷ []) rs h.1
all_own publication owns t front (Lost row ∷ rs) h = all_own publication owns t (front ++ Lost row ∷ []) rs h.1
all_own publication owns t front (Held a held ∷ rs) h = (own_has publication owns a held h.0.1, all_own publication owns t (front ++ Held a held ∷ []) rs h.1)
all_own publication owns t front (Granted grant ∷ rs) h = all_own publication owns t (front ++ Granted grant ∷ []) rs h.1
all_own publication owns t front (Subscribed site state ∷ rs) h = all_own publication owns t (front ++ Subscribed site state ∷ []) rs h.1

-- ---- of an article of which nothing was received there is no own grant

abbrev is_for : ℕ → ℕ × HeldRanges → Bool
is_for article x = x.0 == article

first_none : (a b : Bool) → (a || b) ≡ false → a ≡ false
first_none true b e = absurd cc
first_none false b e = refl

rest_none : (a b : Bool) → (a || b) ≡ false → b ≡ false
rest_none true b e = absurd cc
rest_none false b e = e

replaced_step : (article place : ℕ) (holder : Holder) (p : ℕ × Holder) (held : List (ℕ × Holder)) → (place == article) ≡ false → holds article p ≡ false → is_held (with_value_at held place holder) article ≡ false
    → (b : Bool) → (p.0 == place) ≡ b → is_held (with_value_at (p ∷ held) place holder) article ≡ false
replaced_step article place holder p held other first rest true e = rw e (rw other rest)
replaced_step article place holder p held other first rest false e = rw e (rw first rest)

not_replaced : (article place : ℕ) (holder : Holder) (held : List (ℕ × Holder)) → (place == article) ≡ false → is_held held article ≡ false → is_held (with_value_at held place holder) article ≡ false
not_replaced article place holder [] other none = refl
not_replaced article place holder (p ∷ held) other none =
    replaced_step article place holder p held other (first_none (holds article p) (is_held held article) none)
    (not_replaced article place holder held other (rest_none (holds article p) (is_held held article) none)) (p.0 == place) refl

not_with_held : (publication : Publication) (article place : ℕ) (ranges : HeldRanges) (held : List (ℕ × Holder)) → (place == article) ≡ false → is_held held article ≡ false → is_held (with_held publication held place ranges) article ≡ false
not_with_held publication article place ranges held other none = by_identity (identity_at publication place)
  where
    by_identity : (o : Option Identity) → is_held (option_map_or (λ identity. with_value_at held place (holder_of identity ranges)) o held) article ≡ false
    by_identity None = none
    by_identity (Some identity) = not_replaced article place (holder_of identity ranges) held other none

not_own_grant : (publication : Publication) (t : PublisherStored) (g : Grant) (article : ℕ) → grant_is_sound publication t g ≡ true → is_held t.held article ≡ false → is_of article 0 g ≡ false
unfolding grant_is_sound
not_own_grant publication t g article h none =
    let identity : Bool = is_some (identity_at publication g.article) in
    let site : Bool = is_site publication g.site.0 in
    let own : (not (g.site.0 == 0) || is_held t.held g.article) ≡ true = and_second (identity && site && can_follow t.grants g) (not (g.site.0 == 0) || is_held t.held g.article) h in
    by_article (g.article == article) refl (g.site.0 == 0) refl own
  where
    by_article : (a : Bool) → (g.article == article) ≡ a → (s : Bool) → (g.site.0 == 0) ≡ s → (not (g.site.0 == 0) || is_held t.held g.article) ≡ true → is_of article 0 g ≡ false
    by_article false e s f own = rw e refl
    by_article true e false f own = rw (e, f) refl
    by_article true e true f own =
        let same : g.article ≡ article = eqb-true g.article article e in
        let held : is_held t.held g.article ≡ true = rw f at own in
        absurd (no_truth (sym none ∙ ap (is_held t.held) (sym same) ∙ held))

-- one record more
module _ (publication : Publication) (owns : List (ℕ × Range)) (t : PublisherStored) (article : ℕ) where
  abbrev Without : List PublisherRecord → Type 0
  Without front = is_held (with_records publication t front).held article ≡ false

  without_more : (front : List PublisherRecord) (r : PublisherRecord) → is_held (with_record publication (with_records publication t front) r).held article ≡ false → Without (front ++ r ∷ [])
  without_more front r none = subst (λ (now : PublisherStored). is_held now.held article ≡ false) (with_more publication t front r) none

  none_granted : (front rs : List PublisherRecord) → Without front → list_any (is_for article) (helds_of rs) ≡ false → SoundBehind publication owns t front rs → granted_to article 0 (grants_of rs) ≡ 0
  none_granted front [] none other h = refl
  none_granted front (State state ∷ rs) none other h = absurd (no_truth h.0.1)
  none_granted front (Row key row ∷ rs) none other h = none_granted (front ++ Row key row ∷ []) rs (without_more front (Row key row) none) other h.1
  none_granted front (Mapped place mapping ∷ rs) none other h = none_granted (front ++ Mapped place mapping ∷ []) rs (without_more front (Mapped place mapping) none) other h.1
  none_granted front (Closed c ∷ rs) none other h = none_granted (front ++ Closed c ∷ []) rs (without_more front (Closed c) none) other h.1
  none_granted front (Lost row ∷ rs) none other h = none_granted (front ++ Lost row ∷ []) rs (without_more front (Lost row) none) other h.1
  none_granted front (Held a held ∷ rs) none other h =
      let here = first_none (a == article) (list_any (is_for article) (helds_of rs)) other in
      let later = rest_none (a == article) (list_any (is_for article) (helds_of rs)) other in
      none_granted (front ++ Held a held ∷ []) rs (without_more front (Held a held) (not_with_held publication article a held (with_records publication t front).held here none)) later h.1
  none_granted front (Granted grant ∷ rs) none other h =
      let not_it : is_of article 0 grant ≡ false = not_own_grant publication (with_records publication t front) grant article h.0.1 none in
      let here = count_by-cons (is_of article 0) grant (grants_of rs) in
      let later = none_granted (front ++ Granted grant ∷ []) rs (without_more front (Granted grant) none) other h.1 in
      let zero : (let n : ℕ = cond (is_of article 0 grant) 1 0 in n) ≡ 0 = rw not_it refl in
      omega (arith, here, zero, later)
  none_granted front (Subscribed site state ∷ rs) none other h = none_granted (front ++ Subscribed site state ∷ []) rs (without_more front (Subscribed site state) none) other h.1

-- ---- by look-ups

some_is : (a b : Holder) → (let o : Option Holder = Some a in o) ≡ Some b → a ≡ b
some_is a b e = cc

-- where a holder was received, it is among those that were
own_later : (owns : List (ℕ × Range)) (p : ℕ × Holder) (held : List (ℕ × Holder)) (b : Bool) → AllByRecursion (HasOwn owns) (map received_pair (cond b (p ∷ filter was_received held) (filter was_received held))) → AllByRecursion (HasOwn owns) (map received_pair (filter was_received held))
own_later owns p held true h = h.1
own_later owns p held false h = h

module _ (owns : List (ℕ × Range)) (article : ℕ) (holder : Holder) (received : nat_lt 0 holder.have ≡ true) where
  abbrev AmongOwn : List (ℕ × Holder) → Type 0
  AmongOwn held = AllByRecursion (HasOwn owns) (map received_pair (filter was_received held)) → at_number held article ≡ Some holder → holder.have ≡ own_count article owns

  received_step : (p : ℕ × Holder) (held : List (ℕ × Holder)) → AmongOwn held → (b : Bool) → is_at (nat_cmp article) p.0 ≡ b → AmongOwn (p ∷ held)
  received_step p held later true e all found =
      let same : article ≡ p.0 = grind (arith, nat_tests, e) in
      let is : p.1 ≡ holder = some_is p.1 holder (rw e at found) in
      let here : was_received p ≡ true = ap (λ (h : Holder). nat_lt 0 h.have) is ∙ received in
      let first : HasOwn owns (received_pair p) = (rw here at all).0 in
      ap (λ (h : Holder). h.have) (sym is) ∙ first ∙ ap (λ (n : ℕ). own_count n owns) (sym same)
  received_step p held later false e all found = later (own_later owns p held (was_received p) all) (rw e at found)

  has_received : (held : List (ℕ × Holder)) → AmongOwn held
  has_received [] all found = absurd cc
  has_received (p ∷ held) all found = received_step p held (has_received held) (is_at (nat_cmp article) p.0) refl all found

-- above an article there is none of it
above_step : (article : ℕ) (p : ℕ × Holder) (held : List (ℕ × Holder)) → (p.0 == article) ≡ false → list_any (is_for article) (map received_pair (filter was_received held)) ≡ false
    → (b : Bool) → list_any (is_for article) (map received_pair (cond b (p ∷ filter was_received held) (filter was_received held))) ≡ false
above_step article p held other later true = rw other later
above_step article p held other later false = later

none_above : (article : ℕ) (held : List (ℕ × Holder)) → AllByRecursion (λ k. nat_cmp article k ≡ Less) (keys_of held) → list_any (is_for article) (map received_pair (filter was_received held)) ≡ false
none_above article [] above = refl
none_above article (p ∷ held) above =
    let over : article < p.0 = ranked article p.0 Less (sym above.0) in
    above_step article p held (grind (arith, nat_tests, over)) (none_above article held above.1) (was_received p)

-- where none was received, it is not among them
module _ (article : ℕ) (holder : Holder) (none : nat_lt 0 holder.have ≡ false) where
  abbrev NotAmong : List (ℕ × Holder) → Type 0
  NotAmong held = at_number held article ≡ Some holder → list_any (is_for article) (map received_pair (filter was_received held)) ≡ false

  absent_step : (p : ℕ × Holder) (held : List (ℕ × Holder)) → AllByRecursion (λ k. nat_cmp p.0 k ≡ Less) (keys_of held) → NotAmong held → (b : Bool) → is_at (nat_cmp article) p.0 ≡ b → NotAmong (p ∷ held)
  absent_step p held over later true e found =
      let same : p.0 ≡ article = grind (arith, nat_tests, e) in
      let is : p.1 ≡ holder = some_is p.1 holder (rw e at found) in
      let here : was_received p ≡ false = ap (λ (h : Holder). nat_lt 0 h.have) is ∙ none in
      rw here (none_above article held (subst (λ (n : ℕ). AllByRecursion (λ k. nat_cmp n k ≡ Less) (keys_of held)) same over))
  absent_step p held over later false e found = above_step article p held (grind (arith, nat_tests, e)) (later (rw e at found)) (was_received p)

  not_received : (held : List (ℕ × Holder)) → IsStrictlySortedBy nat_cmp (keys_of held) → NotAmong held
  not_received [] sorted found = absurd cc
  not_received (p ∷ held) sorted found = absent_step p held (sorted_head nat_cmp p.0 (keys_of held) sorted) (not_received held (sorted_tail nat_cmp p.0 (keys_of held) sorted)) (is_at (nat_cmp article) p.0) refl found

-- nothing was received in the beginning
none_begun : (article : ℕ) (held : List (ℕ × Holder)) → AllByRecursion (λ p. p.1.have ≡ 0) held → is_held held article ≡ false
none_begun article [] none = refl
none_begun article (p ∷ held) none = at_first (p.0 == article) (none_begun article held none.1)
  where
    at_first : (b : Bool) → is_held held article ≡ false → ((b && nat_lt 0 p.1.have) || is_held held article) ≡ false
    at_first true rest = rw none.0 rest
    at_first false rest = rest

-- ---- all of it

module _ (publication : Publication) (held : List (ℕ × Holder)) (t : PublisherStored) (keeps : KeepRules publication held t) where
  abbrev got : List (ℕ × Holder)
  got = filter was_received t.held

  abbrev records : List PublisherRecord
  records = range_records t.held t.grants

  clear : AllClear t.grants
  clear = all_clear t.grants keeps.keyed keeps.in_order (all_before t.grants (all_listed _ t.grants keeps.granted.ranges) keeps.in_order)

  helds_are : helds_of records ≡ map received_pair got
  helds_are = helds_put t.grants (map held_pair got) clear (all_held_clear got t.grants) ∙ helds_listed got

  grants_are : (p : Grant → Bool) → count_by p (grants_of records) ≡ count_by p t.grants
  grants_are p =
      let put = grants_put t.grants (map held_pair got) clear (all_held_clear got t.grants) [] in
      let none = no_grants_held got in
      let same : put_all [] (grants_of records) ≡ put_all [] t.grants = put ∙ ap (λ (l : List Grant). put_all (put_all [] l) t.grants) none in
      let one = counted_all p (grants_of records) [] in
      let other = counted_all p t.grants [] in
      omega (arith, one, other, ap (count_by p) same)

  -- a holder has the number of the publisher's own grants
  pub holder_has : (beginning : IsBeginning publication held) → IsStrictlySortedBy nat_cmp (keys_of t.held) → (article : ℕ) (holder : Holder) → at_number t.held article ≡ Some holder → holder.have ≡ granted_to article 0 t.grants
  holder_has beginning sorted article holder found = by_test (nat_lt 0 holder.have) refl
    where
      by_test : (b : Bool) → nat_lt 0 holder.have ≡ b → holder.have ≡ granted_to article 0 t.grants
      by_test true e =
          let owns : List (ℕ × Range) = own_ranges records in
          let all : AllByRecursion (HasOwn owns) (map received_pair got) = subst (AllByRecursion (HasOwn owns)) helds_are (all_own publication owns (with_conflicts t held t.conflicts) [] records keeps.ranges) in
          has_received owns article holder e t.held all found ∙ owns_counted article records ∙ grants_are (is_of article 0)
      by_test false e =
          let other : list_any (is_for article) (helds_of records) ≡ false = ap (list_any (is_for article)) helds_are ∙ not_received article holder e t.held sorted found in
          let zero : granted_to article 0 (grants_of records) ≡ 0 = none_granted publication (own_ranges records) (with_conflicts t held t.conflicts) article [] records (none_begun article held beginning.none) other keeps.ranges in
          let none : holder.have ≡ 0 = grind (arith, nat_tests, e) in
          none ∙ sym zero ∙ grants_are (is_of article 0)
