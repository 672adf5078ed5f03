-- A start takes the record of what the publisher holds of an article: as many ranges were received as are granted to it, and none is held or the last.
use Rattle.std.specs.List.{AllByRecursion, cons_option, list_any}
use Rattle.std.specs.Option.{option_map_or}
use Rattle.std.specs.Prelude.{Bool, List, None, Option, Some, [], false, if◌then◌else◌, is_some, nat_lt, refl, true, ℕ, ◌&&◌, ◌++◌, ◌+◌, ◌==◌, ◌||◌, ◌≡◌, ◌∷◌}
use Rattle.std.proofs.Common.{ap, arith, ◌∙◌}
use Rattle.std.proofs.lemmas.Bool.Decides.{nat_tests}
use Rattle.merge_ident.specs.Grants.{is_of}
use Rattle.merge_ident.specs.Holders.{Holder}
use Rattle.merge_ident.specs.declared.grants.Grant.{Grant}
use Rattle.merge_ident.specs.declared.grants.Range.{Range}
use Rattle.merge_schema.specs.declared.publication.Identity.{Identity}
use Rattle.merge_schema.specs.declared.publication.Publication.{Publication}
use Rattle.merge_record.specs.declared.ranges.HeldRanges.{HeldRanges}
use Rattle.merge_keeper.specs.PublisherRules.{own_range, own_ranges, with_records}
use Rattle.merge_keeper.specs.PublisherStart.{holds, is_held, with_record}
use Rattle.merge_keeper.specs.Start.{holder_of, identity_at, is_own, last_own, last_own_behind, own_count, replaced_at, with_held, with_value_at}
use Rattle.merge_keeper.specs.declared.publisher_record.PublisherRecord.{PublisherRecord}
use Rattle.merge_keeper.specs.declared.publisher_record.PublisherRecord.TheVariants.{Closed, Granted, Held, Lost, Mapped, Row, State, Subscribed}
use Rattle.merge_keeper.specs.declared.stored.PublisherStored.{PublisherStored}
use Rattle.merge_stored.proofs.RangeLists.{by_grant}
use Rattle.merge_stored.proofs.Tallies.{any-mapped, count-tally, counted, tally}

-- The publisher's own ranges among the records.

abbrev Own : Type 0
Own = ℕ × Range

own-by : (b : Bool) (article : ℕ) (g : Grant) (rest : List Own) (n : ℕ) → (g.site.0 == 0) ≡ b → tally (is_own article) rest ≡ n
    → tally (is_own article) (cons_option (if b then Some (g.article, g.range) else None) rest) ≡ counted (is_of article 0 g) + n
own-by true article g rest n is same = (let here : counted (g.article == article) ≡ counted (is_of article 0 g) = ap counted (grind (arith, is)) in omega (arith, here, same))
own-by false article g rest n is same = (let here : counted (is_of article 0 g) ≡ 0 = ap counted (let none : is_of article 0 g ≡ false = grind (arith, is) in none) in omega (arith, here, same))

own-tally : (article : ℕ) (rs : List PublisherRecord) → tally (is_own article) (own_ranges rs) ≡ tally (by_grant (is_of article 0)) rs
own-tally article [] = refl
own-tally article (Granted g ∷ rs) = own-by (g.site.0 == 0) article g (own_ranges rs) (tally (by_grant (is_of article 0)) rs) refl (own-tally article rs)
own-tally article (State front ∷ rs) = (let rest = own-tally article rs in omega (arith, rest))
own-tally article (Row key row ∷ rs) = (let rest = own-tally article rs in omega (arith, rest))
own-tally article (Mapped place move ∷ rs) = (let rest = own-tally article rs in omega (arith, rest))
own-tally article (Closed closing ∷ rs) = (let rest = own-tally article rs in omega (arith, rest))
own-tally article (Lost row ∷ rs) = (let rest = own-tally article rs in omega (arith, rest))
own-tally article (Held a held ∷ rs) = (let rest = own-tally article rs in omega (arith, rest))
own-tally article (Subscribed site state ∷ rs) = (let rest = own-tally article rs in omega (arith, rest))

pub own-counted : (article : ℕ) (rs : List PublisherRecord) → own_count article (own_ranges rs) ≡ tally (by_grant (is_of article 0)) rs
own-counted article rs = count-tally (is_own article) (own_ranges rs) ∙ own-tally article rs

-- The last of an article's own ranges.

own-none : (article : ℕ) (last : Option Range) (owns : List Own) → tally (is_own article) owns ≡ 0 → last_own_behind article last owns ≡ last
own-none article last [] none = refl
own-none article last (own ∷ owns) none = none-by (own.0 == article) refl (λ rest. own-none article last owns rest)
  where
    none-by : (b : Bool) → (own.0 == article) ≡ b → (tally (is_own article) owns ≡ 0 → last_own_behind article last owns ≡ last) → last_own_behind article (if own.0 == article then Some own.1 else last) owns ≡ last
    none-by true is more = (let one : counted (own.0 == article) ≡ 1 = ap counted is in absurd (omega (arith, one, none)))
    none-by false is more =
        let zero : counted (own.0 == article) ≡ 0 = ap counted is in
        ap (λ (b : Bool). last_own_behind article (if b then Some own.1 else last) owns) is ∙ more (omega (arith, zero, none))

last-append : (article : ℕ) (last : Option Range) (owns more : List Own) → last_own_behind article last (owns ++ more) ≡ last_own_behind article (last_own_behind article last owns) more
last-append article last [] more = refl
last-append article last (own ∷ owns) more = last-append article (if own.0 == article then Some own.1 else last) owns more

owns-by : (found : Option Own) (a b : List Own) → cons_option found (a ++ b) ≡ cons_option found a ++ b
owns-by None a b = refl
owns-by (Some own) a b = refl

owns-append : (f rest : List PublisherRecord) → own_ranges (f ++ rest) ≡ own_ranges f ++ own_ranges rest
owns-append [] rest = refl
owns-append (r ∷ f) rest = ap (λ (l : List Own). cons_option (own_range r) l) (owns-append f rest) ∙ owns-by (own_range r) (own_ranges f) (own_ranges rest)

last-of : (b : Bool) (article : ℕ) (last : Option Range) (g : Grant) (owns : List Own) → (g.site.0 == 0) ≡ b → is_of article 0 g ≡ true → tally (is_own article) owns ≡ 0
    → last_own_behind article last (cons_option (if b then Some (g.article, g.range) else None) owns) ≡ Some g.range
last-of true article last g owns is of none =
    let same : (g.article == article) ≡ true = grind (arith, of) in
    ap (λ (b : Bool). last_own_behind article (if b then Some g.range else last) owns) same ∙ own-none article (Some g.range) owns none
last-of false article last g owns is of none = absurd (grind (arith, is, of))

pub last-found : (article : ℕ) (g : Grant) (f rest : List PublisherRecord) → is_of article 0 g ≡ true → tally (by_grant (is_of article 0)) rest ≡ 0 → last_own article (own_ranges (f ++ Granted g ∷ rest)) ≡ Some g.range
last-found article g f rest of none =
    ap (λ (l : List Own). last_own article l) (owns-append f (Granted g ∷ rest))
    ∙ last-append article None (own_ranges f) (own_ranges (Granted g ∷ rest))
    ∙ last-of (g.site.0 == 0) article (last_own_behind article None (own_ranges f)) g (own_ranges rest) refl of (own-tally article rest ∙ none)

-- What is held of an article that a record in front says.

abbrev pub is_kept : ℕ → PublisherRecord → Bool
is_kept article (Held a held) = (a == article) && nat_lt 0 held.have
is_kept article r = false

abbrev pub has_key : ℕ → ℕ × Holder → Bool
has_key article p = p.0 == article

module _ (publication : Publication) (article : ℕ) where
  -- each record of what is held is of an article with an identity column, and says that some was received
  abbrev pub IsSome : PublisherRecord → Type 0
  IsSome (Held a held) = (is_some (identity_at publication a) ≡ true) × (nat_lt 0 held.have ≡ true)
  IsSome r = Unit {0}

  pub record Keeps (kept : Bool) (held : List (ℕ × Holder)) : Type 0 where
    pub key : list_any (has_key article) held ≡ true
    pub is : kept ≡ true → is_held held article ≡ true

  key-by : (b : Bool) (a : ℕ) (new : Holder) (p : ℕ × Holder) → (p.0 == a) ≡ b → has_key article p ≡ true → (let q : ℕ × Holder = if b then (a, new) else p in has_key article q) ≡ true
  key-by true a new p is has = grind (arith, nat_tests, is, has)
  key-by false a new p is has = has

  holds-by : (b : Bool) (a : ℕ) (new : Holder) (p : ℕ × Holder) → (p.0 == a) ≡ b → nat_lt 0 new.have ≡ true → holds article p ≡ true → (let q : ℕ × Holder = if b then (a, new) else p in holds article q) ≡ true
  holds-by true a new p is some has = grind (arith, nat_tests, is, some, has)
  holds-by false a new p is some has = has

  here-by : (b : Bool) (a : ℕ) (new : Holder) (p : ℕ × Holder) → (p.0 == a) ≡ b → a ≡ article → nat_lt 0 new.have ≡ true → has_key article p ≡ true → (let q : ℕ × Holder = if b then (a, new) else p in holds article q) ≡ true
  here-by true a new p is same some has = grind (arith, nat_tests, is, same, some, has)
  here-by false a new p is same some has = absurd (grind (arith, nat_tests, is, same, has))

  found-keeps : (found : Option Identity) (a : ℕ) (ranges : HeldRanges) (held : List (ℕ × Holder)) (before : Bool) → is_some found ≡ true → nat_lt 0 ranges.have ≡ true → Keeps before held
      → Keeps (((a == article) && nat_lt 0 ranges.have) || before) (option_map_or (λ (identity : Identity). with_value_at held a (holder_of identity ranges)) found held)
  found-keeps None a ranges held before there some keeps = absurd cc
  found-keeps (Some identity) a ranges held before there some keeps =
      let new : Holder = holder_of identity ranges in record {
        key = any-mapped (has_key article) (has_key article) (replaced_at a new) (λ p has. key-by (p.0 == a) a new p refl has) held keeps.key;
        is = kept-by (a == article) before refl keeps.is;
      }
    where
      kept-by : (b before : Bool) → (a == article) ≡ b → (before ≡ true → is_held held article ≡ true) → ((a == article) && nat_lt 0 ranges.have || before) ≡ true → is_held (with_value_at held a (holder_of identity ranges)) article ≡ true
      kept-by true before is was now =
          let same : a ≡ article = grind (arith, nat_tests, is) in
          any-mapped (has_key article) (holds article) (replaced_at a (holder_of identity ranges)) (λ p has. here-by (p.0 == a) a (holder_of identity ranges) p refl same some has) held keeps.key
      kept-by false before is was now =
          any-mapped (holds article) (holds article) (replaced_at a (holder_of identity ranges)) (λ p has. holds-by (p.0 == a) a (holder_of identity ranges) p refl some has) held (was (grind (arith, is, now)))

  pub all-keep : (rs : List PublisherRecord) (t : PublisherStored) (before : Bool) → AllByRecursion IsSome rs → Keeps before t.held → Keeps (list_any (is_kept article) rs || before) (with_records publication t rs).held
  all-keep [] t before somes keeps = keeps
  all-keep (Held a ranges ∷ rs) t before somes keeps =
      let here : Keeps (((a == article) && nat_lt 0 ranges.have) || before) (with_held publication t.held a ranges) = found-keeps (identity_at publication a) a ranges t.held before somes.0.0 somes.0.1 keeps in
      let all = all-keep rs (with_record publication t (Held a ranges)) (((a == article) && nat_lt 0 ranges.have) || before) somes.1 here in
      record { key = all.key; is = λ now. all.is (grind (arith, now)) }
  all-keep (Granted g ∷ rs) t before somes keeps = all-keep rs (with_record publication t (Granted g)) before somes.1 keeps
  all-keep (State front ∷ rs) t before somes keeps = all-keep rs (with_record publication t (State front)) before somes.1 keeps
  all-keep (Row key row ∷ rs) t before somes keeps = all-keep rs (with_record publication t (Row key row)) before somes.1 keeps
  all-keep (Mapped place move ∷ rs) t before somes keeps = all-keep rs (with_record publication t (Mapped place move)) before somes.1 keeps
  all-keep (Closed closing ∷ rs) t before somes keeps = all-keep rs (with_record publication t (Closed closing)) before somes.1 keeps
  all-keep (Lost row ∷ rs) t before somes keeps = all-keep rs (with_record publication t (Lost row)) before somes.1 keeps
  all-keep (Subscribed site state ∷ rs) t before somes keeps = all-keep rs (with_record publication t (Subscribed site state)) before somes.1 keeps

  pub is-held : (rs : List PublisherRecord) (t : PublisherStored) → AllByRecursion IsSome rs → list_any (has_key article) t.held ≡ true → list_any (is_kept article) rs ≡ true → is_held (with_records publication t rs).held article ≡ true
  is-held rs t somes key kept =
      let all = all-keep rs t false somes (record { key = key; is = λ never. absurd (never-true never) }) in
      all.is (grind (arith, kept))
    where
      never-true : false ≡ true → ⊥
      never-true e = cc
