-- No two changes have one dot, and what was made with a change's dot was made of its row.
use Rattle.std.specs.Prelude.{◌≡◌, ◌<◌, ◌==◌, ◌-◌, ℕ, List, [], ◌∷◌, Bool, true, false, map, filter, cond}
use Rattle.std.specs.List.{AllByRecursion}
use Rattle.std.proofs.Common.{arith, sym, ap, ◌∙◌}
use Rattle.std.proofs.lemmas.Bool.Decides.{nat_tests}
use Rattle.merge_model.specs.History.{History, MadeChange, no_history}
use Rattle.merge_model.specs.Tables.Keys.{same_key}
use Rattle.merge_types.specs.declared.row_key.RowKey.{RowKey as Key}
use Rattle.merge_laws.specs.Facts.Knowledge.{AreNumbered, counts_down, is_made, number_of_change, same_dot}
use Rattle.merge_laws.proofs.Known.Knowing.{IsFresh, down-parts, fresh-above, fresh-any}
use Rattle.merge_model.proofs.Lists.{all-both}

abbrev pub AreDistinct : List MadeChange → Type 0
AreDistinct [] = Unit {0}
AreDistinct (c ∷ made) = IsFresh made c.dot × AreDistinct made

abbrev numbers_of : ℕ → List MadeChange → List ℕ
numbers_of site made = map number_of_change (filter (λ (c : MadeChange). c.dot.site.0 == site) made)

abbrev lowered : (ℕ → ℕ) → ℕ → ℕ → ℕ
lowered count site n = cond (site == n) (count n - 1) (count n)

tail-numbered : (c : MadeChange) (rest : List MadeChange) (n : ℕ) (b : Bool) → map number_of_change (cond b (c ∷ rest) rest) ≡ counts_down n → map number_of_change rest ≡ counts_down (cond b (n - 1) n)
tail-numbered c rest n true e = (down-parts n c.dot.number (map number_of_change rest) e).1.1
tail-numbered c rest n false e = e

are-distinct : (made : List MadeChange) (count : ℕ → ℕ) → ((site : ℕ) → numbers_of site made ≡ counts_down (count site)) → AreDistinct made
are-distinct [] count numbered = tt
are-distinct (c ∷ made) count numbered =
    let rest : (site : ℕ) → numbers_of site made ≡ counts_down (lowered count c.dot.site.0 site) = λ site. tail-numbered c (filter (λ (x : MadeChange). x.dot.site.0 == site) made) (count site) (c.dot.site.0 == site) (numbered site) in
    let same : (c.dot.site.0 == c.dot.site.0) ≡ true = grind (arith, nat_tests) in
    let first = down-parts (count c.dot.site.0) c.dot.number (numbers_of c.dot.site.0 made) (ap (λ (b : Bool). (let all : List MadeChange = cond b (c ∷ filter (λ (x : MadeChange). x.dot.site.0 == c.dot.site.0) made) (filter (λ (x : MadeChange). x.dot.site.0 == c.dot.site.0) made) in map number_of_change all)) (sym same) ∙ numbered c.dot.site.0) in
    let low : lowered count c.dot.site.0 c.dot.site.0 < c.dot.number = (let is = ap (λ (b : Bool). cond b (count c.dot.site.0 - 1) (count c.dot.site.0)) same in omega (arith, is, first.0, first.1.0)) in
    (fresh-above (lowered count c.dot.site.0) (record no_history { made = made }) c.dot rest low, are-distinct made (lowered count c.dot.site.0) rest)

pub made-distinct : (count : ℕ → ℕ) (h : History) → AreNumbered count h → AreDistinct h.made
made-distinct count h numbered = are-distinct h.made count numbered

-- of one row
abbrev pub IsAlone : List MadeChange → MadeChange → Type 0
IsAlone made x = (key : Key) → is_made made key x.dot ≡ true → same_key key x.key ≡ true

alone-later : (made : List MadeChange) (c x : MadeChange) → same_dot x.dot c.dot ≡ false → IsAlone made x → IsAlone (c ∷ made) x
alone-later made c x differs alone key is = alone key (grind (arith, nat_tests, differs, is))

alone-first : (made : List MadeChange) (c : MadeChange) → IsFresh made c.dot → IsAlone (c ∷ made) c
alone-first made c fresh key is = grind (arith, is, fresh-any made key c.dot fresh)

alone-all : (made : List MadeChange) → AreDistinct made → AllByRecursion (IsAlone made) made
alone-all [] fresh = tt
alone-all (c ∷ made) fresh = (alone-first made c fresh.0, all-both (λ (x : MadeChange). same_dot x.dot c.dot ≡ false) (IsAlone made) (IsAlone (c ∷ made)) (λ x differs alone. alone-later made c x differs alone) made fresh.0 (alone-all made fresh.1))

pub are-alone : (count : ℕ → ℕ) (h : History) → AreNumbered count h → AllByRecursion (IsAlone h.made) h.made
are-alone count h numbered = alone-all h.made (are-distinct h.made count numbered)
