-- A start takes each grant's record behind those in front of it.
use Rattle.std.specs.List.{AllByRecursion, Contains, count_by, list_all}
use Rattle.std.specs.Prelude.{Bool, List, [], false, nat_lt, not, refl, suc, true, ℕ, ◌&&◌, ◌++◌, ◌+◌, ◌<◌, ◌==◌, ◌≡◌, ◌≤◌, ◌⊎◌, zero, ◌-◌, ◌∷◌}
use Rattle.std.specs.declared.cmp.Ordering.TheVariants.{Less}
use Rattle.std.proofs.Common.{ap, arith, inl, inr, subst, sym, ◌∙◌}
use Rattle.std.proofs.lemmas.Bool.Decides.{nat_tests}
use Rattle.std.proofs.lemmas.Int.{ints}
use Rattle.merge_ident.specs.Grants.{AreNumbered, IsGranted, Precedes, granted_to, is_numbered, is_of}
use Rattle.merge_ident.specs.Stored.{can_follow, has_next_number, has_values, is_clear}
use Rattle.merge_ident.specs.declared.grants.Grant.{Grant}
use Rattle.merge_schema.specs.declared.publication.Publication.{Publication}
use Rattle.merge_ports.specs.Entries.{entry_cmp}
use Rattle.merge_keeper.specs.Entries.{grant_key}
use Rattle.merge_keeper.specs.PublisherRules.{with_records}
use Rattle.merge_keeper.specs.PublisherStart.{with_record}
use Rattle.merge_keeper.specs.Start.{begins_before, insert_by_begin}
use Rattle.merge_keeper.specs.Stored.{HasGrantKey}
use Rattle.merge_keeper.specs.declared.publisher_record.PublisherRecord.{PublisherRecord}
use Rattle.merge_keeper.specs.declared.publisher_record.PublisherRecord.TheVariants.{Closed, Granted, Held, Lost, Mapped, Row, State, Subscribed}
use Rattle.merge_keeper.specs.declared.stored.PublisherStored.{PublisherStored}
use Rattle.merge_keeper.proofs.Begins.{put_step}
use Rattle.merge_model.proofs.Lists.{all-both, all-of}
use Rattle.merge_stored.proofs.KeyOrder.{number-less}
use Rattle.merge_stored.proofs.RangeLists.{Stands, by_grant, key_in}
use Rattle.merge_stored.proofs.Tallies.{count-tally, counted, none-tallied, tally, tally-append, tally-none, tally-same, tally-some, tally-split}

-- Of an article's grants to a site as many have a lesser number as there are lesser numbers from 1 on.

abbrev below : ℕ → ℕ → ℕ → Grant → Bool
below article site n g = is_of article site g && nat_lt g.number n

split-by : (b c d e : Bool) (n m : ℕ) → nat_lt n (m + 2) ≡ e → nat_lt n (m + 1) ≡ c → (n == m + 1) ≡ d → counted (b && e) ≡ counted (b && c) + counted (b && d)
split-by false c d e n m is less same = refl
split-by true true true e n m is less same = absurd (grind (arith, nat_tests, less, same))
split-by true true false true n m is less same = refl
split-by true true false false n m is less same = absurd (grind (arith, nat_tests, is, less))
split-by true false true true n m is less same = refl
split-by true false true false n m is less same = absurd (grind (arith, nat_tests, is, same))
split-by true false false true n m is less same = absurd (grind (arith, nat_tests, is, less, same))
split-by true false false false n m is less same = refl

module _ (grants : List Grant) (numbered : AreNumbered grants) (article site : ℕ) where
  below-first : tally (below article site 1) grants ≡ 0
  below-first =
      let none : count_by (is_numbered article site 0) grants ≡ 0 = numbered article site 0 in
      tally-same (below article site 1) (is_numbered article site 0) grants (all-of (λ (g : Grant). below article site 1 g ≡ is_numbered article site 0 g) (λ g. grind (arith, nat_tests)) grants)
      ∙ sym (count-tally (is_numbered article site 0) grants) ∙ none

  below-next : (m : ℕ) → m + 1 ≤ granted_to article site grants → tally (below article site (m + 1)) grants ≡ m → tally (below article site (m + 2)) grants ≡ m + 1
  below-next m high so_far =
      let one : count_by (is_numbered article site (m + 1)) grants ≡ 1 = grind (arith, nat_tests, numbered article site (m + 1), high) in
      let same = count-tally (is_numbered article site (m + 1)) grants in
      let split = tally-split (below article site (m + 2)) (below article site (m + 1)) (is_numbered article site (m + 1))
      (λ g. split-by (is_of article site g) (nat_lt g.number (m + 1)) (g.number == m + 1) (nat_lt g.number (m + 2)) g.number m refl refl refl) grants in
      omega (arith, one, same, split, so_far)

  below-all : (m : ℕ) → m ≤ granted_to article site grants → tally (below article site (m + 1)) grants ≡ m
  below-all zero high = below-first
  below-all (suc m) high =
      let more : m + 2 ≡ suc m + 1 = omega arith in
      let step = below-next m (omega (arith, high)) (below-all m (omega (arith, high))) in
      subst (λ (k : ℕ). tally (below article site k) grants ≡ suc m) more (step ∙ (let up : m + 1 ≡ suc m = omega arith in up))

-- What is known of two grants.

abbrev pub Related : Grant → Grant → Type 0
Related g h = ((g.article ≡ h.article) × (g.site.0 ≡ h.site.0) × (g.number ≡ h.number)) ⊎ (Precedes g h ⊎ Precedes h g)

pub record GrantOk (grants : List Grant) (g : Grant) : Type 0 where
  pub there : Contains grants g
  pub key : HasGrantKey g
  pub values : IsGranted g
  pub related : (h : Grant) → Contains grants h → Related g h

abbrev pub RecordOk : List Grant → PublisherRecord → Type 0
RecordOk grants (Granted g) = GrantOk grants g
RecordOk grants (Held article held) = Unit {0}
RecordOk grants r = ⊥

module _ (grants : List Grant) (numbered : AreNumbered grants) (g : Grant) (ok : GrantOk grants g) where
  abbrev own : Grant → Bool
  own = is_of g.article g.site.0

  abbrev lower : Grant → Bool
  lower = below g.article g.site.0 g.number

  abbrev InFront : PublisherRecord → Type 0
  InFront r = entry_cmp (key_in r) (grant_key g) ≡ Less

  abbrev IsBehind : PublisherRecord → Type 0
  IsBehind r = entry_cmp (grant_key g) (key_in r) ≡ Less

  lower-by : (b : Bool) (h : Grant) → own h ≡ b → (h.article ≡ g.article → h.site.0 ≡ g.site.0 → h.number < g.number) → own h ≡ lower h
  lower-by true h is less =
      let article : h.article ≡ g.article = grind (arith, nat_tests, is) in
      let site : h.site.0 ≡ g.site.0 = grind (arith, nat_tests, is) in
      let low = less article site in
      grind (arith, nat_tests, is, low)
  lower-by false h is less = grind (arith, is)

  front-same : (r : PublisherRecord) → RecordOk grants r → InFront r → by_grant own r ≡ by_grant lower r
  front-same (Granted h) is front = lower-by (own h) h refl (λ article site. number-less h g is.key ok.key article site front)
  front-same (Held article held) is front = refl
  front-same (State front_record) is front = absurd is
  front-same (Row key row) is front = absurd is
  front-same (Mapped place move) is front = absurd is
  front-same (Closed closing) is front = absurd is
  front-same (Lost row) is front = absurd is
  front-same (Subscribed site state) is front = absurd is

  higher-by : (b : Bool) (h : Grant) → own h ≡ b → (g.article ≡ h.article → g.site.0 ≡ h.site.0 → g.number < h.number) → lower h ≡ false
  higher-by true h is less =
      let article : g.article ≡ h.article = grind (arith, nat_tests, is) in
      let site : g.site.0 ≡ h.site.0 = grind (arith, nat_tests, is) in
      let high = less article site in
      grind (arith, nat_tests, is, high)
  higher-by false h is less = grind (arith, is)

  behind-none : (r : PublisherRecord) → RecordOk grants r → IsBehind r → by_grant lower r ≡ false
  behind-none (Granted h) is behind = higher-by (own h) h refl (λ article site. number-less g h ok.key is.key article site behind)
  behind-none (Held article held) is behind = refl
  behind-none (State front_record) is behind = absurd is
  behind-none (Row key row) is behind = absurd is
  behind-none (Mapped place move) is behind = absurd is
  behind-none (Closed closing) is behind = absurd is
  behind-none (Lost row) is behind = absurd is
  behind-none (Subscribed site state) is behind = absurd is

  -- its number is the next one behind those in front
  pub front-count : (f rest : List PublisherRecord) → AllByRecursion (RecordOk grants) f → AllByRecursion (RecordOk grants) rest → Stands f (Granted g) rest
      → tally (by_grant lower) (f ++ Granted g ∷ rest) ≡ tally lower grants → tally (by_grant own) f + 1 ≡ g.number
  front-count f rest oks others stands all =
      let some = tally-some (is_numbered g.article g.site.0 g.number) grants g ok.there (grind (arith, nat_tests)) in
      let same = count-tally (is_numbered g.article g.site.0 g.number) grants in
      let is = numbered g.article g.site.0 g.number in
      let low : 1 ≤ g.number = grind (arith, nat_tests, some, same, is) in
      let high : g.number ≤ granted_to g.article g.site.0 grants = grind (arith, nat_tests, some, same, is) in
      let before : g.number - 1 + 1 ≡ g.number = omega (arith, low) in
      let count : tally lower grants ≡ g.number - 1 = subst (λ (k : ℕ). tally (below g.article g.site.0 k) grants ≡ g.number - 1) before (below-all grants numbered g.article g.site.0 (g.number - 1) (omega (arith, low, high))) in
      let front = tally-same (by_grant own) (by_grant lower) f (all-both (RecordOk grants) InFront (λ (r : PublisherRecord). by_grant own r ≡ by_grant lower r) (λ r is front. front-same r is front) f oks stands.front) in
      let behind = tally-none (by_grant lower) rest (all-both (RecordOk grants) IsBehind (λ (r : PublisherRecord). by_grant lower r ≡ false) (λ r is behind. behind-none r is behind) rest others stands.behind) in
      let self : counted (lower g) ≡ 0 = ap counted (let not_lower : lower g ≡ false = grind (arith, nat_tests) in not_lower) in
      let parts = tally-append (by_grant lower) f (Granted g ∷ rest) in
      omega (arith, low, count, front, behind, self, parts, all)

  -- and it is clear of them
  clear-by : (h : Grant) → GrantOk grants h → InFront (Granted h) → Related g h → is_clear g h ≡ true
  clear-by h is front (inl same) =
      let less = number-less h g is.key ok.key (sym same.0) (sym same.1) front in
      let equal = same.2 in
      absurd (omega (arith, less, equal))
  clear-by h is front (inr (inl p)) = apart-by (h.article == g.article) (h.site.0 == g.site.0) refl refl
    where
      apart-by : (a s : Bool) → (h.article == g.article) ≡ a → (h.site.0 == g.site.0) ≡ s → is_clear g h ≡ true
      apart-by false s article site = grind (arith, article)
      apart-by true false article site =
          let same : g.article ≡ h.article = grind (arith, nat_tests, article) in
          let behind = p.behind same in
          grind (arith, ints, nat_tests, article, site, behind)
      apart-by true true article site =
          let same : g.article ≡ h.article = grind (arith, nat_tests, article) in
          let to : g.site.0 ≡ h.site.0 = grind (arith, nat_tests, site) in
          let up = p.numbered same to in
          let less = number-less h g is.key ok.key (sym same) (sym to) front in
          absurd (omega (arith, up, less))
  clear-by h is front (inr (inr p)) = before-by (h.article == g.article) refl
    where
      before-by : (a : Bool) → (h.article == g.article) ≡ a → is_clear g h ≡ true
      before-by false article = grind (arith, article)
      before-by true article =
          let same : h.article ≡ g.article = grind (arith, nat_tests, article) in
          let behind = p.behind same in
          grind (arith, ints, nat_tests, article, behind)

  not-by : (b : Bool) → b ≡ true → not b ≡ false
  not-by true is = refl
  not-by false is = absurd cc

  clear-none : (r : PublisherRecord) → RecordOk grants r → InFront r → by_grant (λ (h : Grant). not (is_clear g h)) r ≡ false
  clear-none (Granted h) is front = not-by (is_clear g h) (clear-by h is front (ok.related h is.there))
  clear-none (Held article held) is front = refl
  clear-none (State front_record) is front = absurd is
  clear-none (Row key row) is front = absurd is
  clear-none (Mapped place move) is front = absurd is
  clear-none (Closed closing) is front = absurd is
  clear-none (Lost row) is front = absurd is
  clear-none (Subscribed site state) is front = absurd is

-- The grants of the tables so far are those of the records so far.

put-by : (b : Bool) (q : Grant → Bool) (g x : Grant) (xs : List Grant) → begins_before g x ≡ b → tally q (insert_by_begin xs g) ≡ tally q xs + counted (q g) → tally q (insert_by_begin (x ∷ xs) g) ≡ tally q (x ∷ xs) + counted (q g)
put-by true q g x xs is rest = ap (λ (l : List Grant). tally q l) (put_step g x xs true is) ∙ omega arith
put-by false q g x xs is rest = ap (λ (l : List Grant). tally q l) (put_step g x xs false is) ∙ omega (arith, rest)

put-tally : (q : Grant → Bool) (g : Grant) (gs : List Grant) → tally q (insert_by_begin gs g) ≡ tally q gs + counted (q g)
put-tally q g [] = omega arith
put-tally q g (x ∷ xs) = put-by (begins_before g x) q g x xs refl (put-tally q g xs)

module _ (publication : Publication) where
  one-tally : (q : Grant → Bool) (t : PublisherStored) (r : PublisherRecord) → tally q (with_record publication t r).grants ≡ tally q t.grants + counted (by_grant q r)
  one-tally q t (State front) = omega arith
  one-tally q t (Row key row) = omega arith
  one-tally q t (Mapped place move) = omega arith
  one-tally q t (Closed closing) = omega arith
  one-tally q t (Lost row) = omega arith
  one-tally q t (Held article held) = omega arith
  one-tally q t (Granted g) = put-tally q g t.grants
  one-tally q t (Subscribed site state) = omega arith

  pub with-tally : (q : Grant → Bool) (rs : List PublisherRecord) (t : PublisherStored) → tally q (with_records publication t rs).grants ≡ tally q t.grants + tally (by_grant q) rs
  with-tally q [] t = omega arith
  with-tally q (r ∷ rs) t = (let one = one-tally q t r in let rest = with-tally q rs (with_record publication t r) in omega (arith, one, rest))

  -- so it can follow them
  pub follows : (grants : List Grant) → AreNumbered grants → (g : Grant) → GrantOk grants g → (f rest : List PublisherRecord) → AllByRecursion (RecordOk grants) f → AllByRecursion (RecordOk grants) rest → Stands f (Granted g) rest
      → ((q : Grant → Bool) → tally (by_grant q) (f ++ Granted g ∷ rest) ≡ tally q grants) → (t : PublisherStored) → t.grants ≡ [] → can_follow (with_records publication t f).grants g ≡ true
  follows grants numbered g ok f rest oks others stands all t none =
      let now : List Grant = (with_records publication t f).grants in
      let own : Grant → Bool = is_of g.article g.site.0 in
      let fouls : Grant → Bool = λ h. not (is_clear g h) in
      let begin : (q : Grant → Bool) → tally q t.grants ≡ 0 = λ q. ap (λ (l : List Grant). tally q l) none in
      let next = front-count grants numbered g ok f rest oks others stands (all (below g.article g.site.0 g.number)) in
      let own_now = with-tally own f t in
      let own_none = begin own in
      let same = count-tally own now in
      let number : g.number ≡ granted_to g.article g.site.0 now + 1 = omega (arith, next, own_now, own_none, same) in
      let foul_now = with-tally fouls f t in
      let foul_none = begin fouls in
      let foul_front = tally-none (by_grant fouls) f (all-both (RecordOk grants) (λ (r : PublisherRecord). entry_cmp (key_in r) (grant_key g) ≡ Less) (λ (r : PublisherRecord). by_grant fouls r ≡ false)
      (λ r is front. clear-none grants numbered g ok r is front) f oks stands.front) in
      let clear : list_all (is_clear g) now ≡ true = none-tallied (is_clear g) now (omega (arith, foul_now, foul_none, foul_front)) in
      let from_one = ok.values.from_one in
      let some = ok.values.some in
      let first : has_values g ≡ true = grind (arith, ints, nat_tests, from_one, some) in
      let second : has_next_number now g ≡ true = grind (arith, nat_tests, number) in
      grind (arith, first, second, clear)
