-- What a version knows of the changes that count: as less counts, and as changes are made. By lists of changes.
use Rattle.std.specs.Prelude.{◌≡◌, ◌≤◌, ◌<◌, ◌==◌, ◌&&◌, ℕ, zero, suc, List, [], ◌∷◌, Bool, true, false, refl, map, filter, cond}
use Rattle.std.specs.List.{AllByRecursion}
use Rattle.std.proofs.Common.{arith, subst, sym}
use Rattle.std.proofs.lemmas.Bool.Decides.{nat_tests}
use Rattle.merge_types.specs.declared.identifiers.Dot.{Dot}
use Rattle.merge_types.specs.declared.changes.Change.{Change}
use Rattle.merge_types.specs.declared.changes.Change.TheVariants.{Delete, Insert, Update}
use Rattle.merge_schema.specs.declared.publication.Publication.{Publication}
use Rattle.merge_model.specs.Tables.Changes.{is_insert}
use Rattle.merge_model.specs.History.{History, MadeChange, Past, has}
use Rattle.merge_model.specs.Tables.Keys.{same_key}
use Rattle.merge_model.specs.History.Pasts.{past_after}
use Rattle.merge_types.specs.declared.row_key.RowKey.{RowKey as Key}
use Rattle.merge_laws.specs.Facts.Knowledge.{AreNumbered, counts_down, is_made, number_of_change, same_dot}
use Rattle.merge_laws.specs.Facts.LineagesStand.{is_of}
use Rattle.merge_laws.specs.Facts.Standing.{IsKnownLater, KnewEarlier}
use Rattle.merge_model.proofs.Lists.Finding.{all-weaker}
use Rattle.merge_model.proofs.Lists.{all-both}

-- of the changes of a row that pass a test and count
abbrev pub KnowsOf : List MadeChange → (MadeChange → Bool) → Key → (MadeChange → Bool) → List Dot → Type 0
KnowsOf made counts key test known = AllByRecursion (λ (change : MadeChange). same_key key change.key ≡ true → test change ≡ true → counts change ≡ true → has known change.dot ≡ true) made

pub of-weaker : (made : List MadeChange) (counts fewer : MadeChange → Bool) (key : Key) (test less : MadeChange → Bool) (known more : List Dot) → ((c : MadeChange) → fewer c ≡ true → counts c ≡ true) → ((c : MadeChange) → less c ≡ true → test c ≡ true)
    → ((dot : Dot) → has known dot ≡ true → has more dot ≡ true) → KnowsOf made counts key test known → KnowsOf made fewer key less more
of-weaker made counts fewer key test less known more count passes grows all =
    all-weaker (λ (c : MadeChange). same_key key c.key ≡ true → test c ≡ true → counts c ≡ true → has known c.dot ≡ true) (λ (c : MadeChange). same_key key c.key ≡ true → less c ≡ true → fewer c ≡ true → has more c.dot ≡ true)
    (λ c old row is counted. grows c.dot (old row (passes c is) (count c counted))) made all

-- no change is of this row
abbrev pub NoneOf : List MadeChange → Key → Type 0
NoneOf made key = AllByRecursion (λ (x : MadeChange). same_key key x.key ≡ false) made

-- A local change: it knows itself, and what the row knew.

pub after-own : (publication : Publication) (dot : Dot) (change : Change) (past : Past) → has (past_after publication dot change past).known dot ≡ true
after-own publication dot (Insert article values) past = grind (arith, nat_tests)
after-own publication dot (Update article row values) past = grind (arith, nat_tests)
after-own publication dot (Delete article row) past = grind (arith, nat_tests)

pub after-knows : (publication : Publication) (dot : Dot) (change : Change) (past : Past) (made : List MadeChange) (counts : MadeChange → Bool) (key : Key) (test : MadeChange → Bool) → (is_insert change ≡ true → NoneOf made key)
    → (is_insert change ≡ false → KnowsOf made counts key test past.known) → KnowsOf made counts key test (past_after publication dot change past).known
after-knows publication dot (Insert article values) past made counts key test none held =
    all-weaker (λ (x : MadeChange). same_key key x.key ≡ false) (λ (x : MadeChange). same_key key x.key ≡ true → test x ≡ true → counts x ≡ true → has (dot ∷ []) x.dot ≡ true) (λ x differs row. absurd (grind (arith, differs, row))) made (none refl)
after-knows publication dot (Update article row values) past made counts key test none held =
    of-weaker made counts counts key test test past.known (dot ∷ past.known) (λ c is. is) (λ c is. is) (λ other is. grind (arith, is)) (held refl)
after-knows publication dot (Delete article row) past made counts key test none held =
    of-weaker made counts counts key test test past.known (dot ∷ past.known) (λ c is. is) (λ c is. is) (λ other is. grind (arith, is)) (held refl)

-- Where a change knew the earlier ones of its site and row.

pub making-less : (made : List MadeChange) (counts fewer : MadeChange → Bool) → ((c : MadeChange) → fewer c ≡ true → counts c ≡ true) → AllByRecursion (IsKnownLater made counts) made → AllByRecursion (IsKnownLater made fewer) made
making-less made counts fewer less all = all-weaker (IsKnownLater made counts) (IsKnownLater made fewer) (λ c k. record { numbered = k.numbered; later = λ is. k.later (less c is) }) made all

module _ (made : List MadeChange) (counts : MadeChange → Bool) (c : MadeChange) where
  -- the change has a greater number than those of its site before it
  abbrev pub IsBelow : MadeChange → Type 0
  IsBelow x = x.dot.site.0 ≡ c.dot.site.0 → x.dot.number < c.dot.number

  old-later : (x : MadeChange) → IsKnownLater made counts x → (same_key c.key x.key ≡ true → is_of c.dot.site.0 x ≡ true → counts x ≡ true → has c.past.known x.dot ≡ true) → IsKnownLater (c ∷ made) counts x
  old-later x k knows = record { numbered = k.numbered; later = λ is. (λ row site up. knows row (grind (arith, nat_tests, site)) is, k.later is) }

  none-later : (x : MadeChange) → IsBelow x → KnewEarlier c x
  none-later x below row site up = let low : x.dot.number < c.dot.number = below (grind (arith, nat_tests, site)) in absurd (omega (arith, low, up))

  pub making-more : 1 ≤ c.dot.number → has c.past.known c.dot ≡ true → AllByRecursion IsBelow made → KnowsOf made counts c.key (is_of c.dot.site.0) c.past.known → AllByRecursion (IsKnownLater made counts) made → AllByRecursion (IsKnownLater (c ∷ made) counts) (c ∷ made)
  making-more first own below knows all = (
    record { numbered = first; later = λ is. (λ row site up. own, all-weaker IsBelow (KnewEarlier c) none-later made below) },
    all-both (IsKnownLater made counts) (λ (x : MadeChange). same_key c.key x.key ≡ true → is_of c.dot.site.0 x ≡ true → counts x ≡ true → has c.past.known x.dot ≡ true) (IsKnownLater (c ∷ made) counts) old-later made all knows,
  )

-- The numbers of changes.

down-within : (n top : ℕ) → n ≤ top → AllByRecursion (λ (k : ℕ). (1 ≤ k) × (k ≤ top)) (counts_down n)
down-within zero top up = tt
down-within (suc n) top up = ((omega arith, omega (arith, up)), down-within n top (omega (arith, up)))

among-step : (site : ℕ) (P : ℕ → Type 0) (b : Bool) (c : MadeChange) (rest : List MadeChange) → (c.dot.site.0 == site) ≡ b → AllByRecursion P (map number_of_change (cond b (c ∷ rest) rest)) → (c.dot.site.0 ≡ site → P c.dot.number) × AllByRecursion P (map number_of_change rest)
among-step site P true c rest is all = (λ same. all.0, all.1)
among-step site P false c rest is all = (λ same. absurd (grind (arith, nat_tests, is, same)), all)

among : (site : ℕ) (P : ℕ → Type 0) (made : List MadeChange) → AllByRecursion P (map number_of_change (filter (λ (c : MadeChange). c.dot.site.0 == site) made)) → AllByRecursion (λ (c : MadeChange). c.dot.site.0 ≡ site → P c.dot.number) made
among site P [] all = tt
among site P (c ∷ made) all =
    let step = among-step site P (c.dot.site.0 == site) c (filter (λ (x : MadeChange). x.dot.site.0 == site) made) refl all in
    (step.0, among site P made step.1)

-- what holds of the changes of each site
pub every-site : (P : MadeChange → Type 0) (made : List MadeChange) → ((site : ℕ) → AllByRecursion (λ (c : MadeChange). c.dot.site.0 ≡ site → P c) made) → AllByRecursion P made
every-site P [] all = tt
every-site P (c ∷ made) all = ((all c.dot.site.0).0 refl, every-site P made (λ site. (all site).1))

-- a site's changes have numbers from 1 up to its count
pub numbers-within : (count : ℕ → ℕ) (h : History) (site : ℕ) → AreNumbered count h → AllByRecursion (λ (c : MadeChange). c.dot.site.0 ≡ site → (1 ≤ c.dot.number) × (c.dot.number ≤ count site)) h.made
numbers-within count h site numbered = among site (λ (k : ℕ). (1 ≤ k) × (k ≤ count site)) h.made
    (subst (λ (ks : List ℕ). AllByRecursion (λ (k : ℕ). (1 ≤ k) × (k ≤ count site)) ks) (sym (numbered site)) (down-within (count site) (count site) (omega arith)))

-- The change with a dot is found.

pub found-change : (P : Type 0) (made : List MadeChange) (key : Key) (dot : Dot) → AllByRecursion (λ (y : MadeChange). same_dot y.dot dot ≡ true → same_key key y.key ≡ true → P) made → is_made made key dot ≡ true → P
found-change P [] key dot all is = absurd (grind (arith, is))
found-change P (c ∷ made) key dot all is = elim (same_dot c.dot dot && same_key key c.key) as (λ (b : Bool). (same_dot c.dot dot && same_key key c.key) ≡ b → P) [
  | true ↦ (λ e. all.0 (grind (arith, e)) (grind (arith, e)))
  | false ↦ (λ e. found-change P made key dot all.1 (grind (arith, e, is)))
] refl
