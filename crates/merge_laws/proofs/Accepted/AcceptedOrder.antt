-- Changes of a site in their order: those up to a number stand in generations up to that of the number; and of what was made.
use Rattle.std.specs.Prelude.{◌≡◌, ◌≤◌, ◌<◌, ◌==◌, ◌+◌, ◌-◌, ◌||◌, ℕ, List, [], ◌∷◌, Bool, true, false, Option, Some, None, refl, nat_le}
use Rattle.std.specs.List.{AllByRecursion}
use Rattle.std.proofs.Common.{arith, subst, sym}
use Rattle.std.proofs.lemmas.Bool.Decides.{nat_tests}
use Rattle.merge_types.specs.declared.identifiers.Dot.{Dot}
use Rattle.merge_model.specs.History.{History, MadeChange, made_at}
use Rattle.merge_model.specs.Tables.Keys.{at_number}
use Rattle.merge_model.specs.Tables.{SubscriberTables}
use Rattle.merge_model.specs.World.{World}
use Rattle.merge_laws.specs.Facts.Knowledge.{AreNumbered, same_dot, was_made}
use Rattle.merge_laws.specs.Facts.Numbered.{InOrder, Numbered, is_up_to, last_of}
use Rattle.merge_model.proofs.Lists.Finding.{all-weaker}
use Rattle.merge_laws.proofs.Known.Knowing.{fresh-above, fresh-anywhere}
use Rattle.merge_model.proofs.Lists.{all-both, all-passing}
use Rattle.merge_laws.proofs.Pasts.DotTests.{dots-same}
use Rattle.merge_laws.proofs.Numbered.Through.{each-within, last-older, order-within}

-- Generations and numbers.

order-gens : (number generation : ℕ) (changes : List MadeChange) → InOrder number generation changes → AllByRecursion (λ (c : MadeChange). c.generation ≤ generation) changes
order-gens number generation [] o = tt
order-gens number generation (c ∷ changes) o =
    let up : c.generation ≤ generation = o.1.1.0 in
    (up, all-weaker (λ (x : MadeChange). x.generation ≤ c.generation) (λ (x : MadeChange). x.generation ≤ generation) (λ x low. omega (arith, low, up)) changes (order-gens (number - 1) c.generation changes o.1.1.1.1))

pub order-numbers : (number generation : ℕ) (changes : List MadeChange) → InOrder number generation changes → AllByRecursion (λ (c : MadeChange). (1 ≤ c.generation) × (c.dot.number ≤ number)) changes
order-numbers number generation [] o = tt
order-numbers number generation (c ∷ changes) o =
    let is : c.dot.number ≡ number = o.0 in
    ((o.1.1.1.0, omega (arith, is)), all-weaker (λ (x : MadeChange). (1 ≤ x.generation) × (x.dot.number ≤ number - 1)) (λ (x : MadeChange). (1 ≤ x.generation) × (x.dot.number ≤ number)) (λ x low. (low.0, (let l = low.1 in omega (arith, l)))) changes (order-numbers (number - 1) c.generation changes o.1.1.1.1))

-- a change with no greater number stands in no later generation
abbrev pub StandsUpTo : ℕ → List MadeChange → MadeChange → Type 0
StandsUpTo to changes c = c.dot.number ≤ last_of to changes → c.generation ≤ to

up-to-step : (to number generation : ℕ) (c : MadeChange) (changes : List MadeChange) (b : Bool) → nat_le c.generation to ≡ b → InOrder number generation (c ∷ changes) → AllByRecursion (StandsUpTo to changes) changes → AllByRecursion (StandsUpTo to (c ∷ changes)) (c ∷ changes)
up-to-step to number generation c changes true is o rest =
    let low : c.generation ≤ to = grind (arith, nat_tests, is) in
    ((λ up. low), all-weaker (λ (x : MadeChange). x.generation ≤ c.generation) (StandsUpTo to (c ∷ changes)) (λ x below up. omega (arith, below, low)) changes (order-gens (number - 1) c.generation changes o.1.1.1.1))
up-to-step to number generation c changes false is o rest =
    let high : to < c.generation = grind (arith, nat_tests, is) in
    let same : last_of to (c ∷ changes) ≡ last_of to changes = last-older to c changes high in
    let within : last_of to changes ≤ number - 1 = order-within to (number - 1) c.generation changes o.1.1.1.1 in
    let own : c.dot.number ≡ number = o.0 in
    let from : 1 ≤ number = o.1.0 in
    ((λ up. absurd (omega (arith, up, same, within, own, from))), all-weaker (StandsUpTo to changes) (StandsUpTo to (c ∷ changes)) (λ x stands up. stands (omega (arith, up, same))) changes rest)

pub order-up-to : (to number generation : ℕ) (changes : List MadeChange) → InOrder number generation changes → AllByRecursion (StandsUpTo to changes) changes
order-up-to to number generation [] o = tt
order-up-to to number generation (c ∷ changes) o = up-to-step to number generation c changes (nat_le c.generation to) refl o (order-up-to to (number - 1) c.generation changes o.1.1.1.1)

-- a later number stands in no earlier generation
abbrev pub StandsBelow : List MadeChange → MadeChange → Type 0
StandsBelow changes c = AllByRecursion (λ (other : MadeChange). c.dot.number ≤ other.dot.number → c.generation ≤ other.generation) changes

below-step : (number generation : ℕ) (c : MadeChange) (changes : List MadeChange) → InOrder number generation (c ∷ changes) → (x : MadeChange) → (x.dot.number ≤ number - 1) × (x.generation ≤ c.generation) → StandsBelow changes x → StandsBelow (c ∷ changes) x
below-step number generation c changes o x low rest = ((λ up. low.1), rest)

head-below : (number generation : ℕ) (c : MadeChange) (changes : List MadeChange) → InOrder number generation (c ∷ changes) → StandsBelow (c ∷ changes) c
head-below number generation c changes o =
    let own : c.dot.number ≡ number = o.0 in
    let from : 1 ≤ number = o.1.0 in (
      (λ up. omega arith),
      all-weaker (λ (x : MadeChange). (1 ≤ x.generation) × (x.dot.number ≤ number - 1)) (λ (x : MadeChange). c.dot.number ≤ x.dot.number → c.generation ≤ x.generation)
          (λ x low up. (let l = low.1 in absurd (omega (arith, l, up, own, from)))) changes (order-numbers (number - 1) c.generation changes o.1.1.1.1),
    )

pub order-below : (number generation : ℕ) (changes : List MadeChange) → InOrder number generation changes → AllByRecursion (StandsBelow changes) changes
order-below number generation [] o = tt
order-below number generation (c ∷ changes) o = (
  head-below number generation c changes o,
  all-both (λ (x : MadeChange). x.generation ≤ c.generation) (StandsBelow changes) (StandsBelow (c ∷ changes)) (λ x low rest. ((λ up. low), rest)) changes (order-gens (number - 1) c.generation changes o.1.1.1.1) (order-below (number - 1) c.generation changes o.1.1.1.1),
)

-- a change in these generations has a number up to the last one
pub last-within : (to : ℕ) (changes : List MadeChange) → AllByRecursion (λ (c : MadeChange). 1 ≤ c.generation → c.generation ≤ to → c.dot.number ≤ last_of to changes) changes
last-within to changes = all-weaker (λ (c : MadeChange). is_up_to to c ≡ true → c.dot.number ≤ last_of to changes) (λ (c : MadeChange). 1 ≤ c.generation → c.generation ≤ to → c.dot.number ≤ last_of to changes)
    (λ c low from up. low (grind (arith, nat_tests, from, up))) changes (each-within to changes)

-- From the changes of a site to all changes.

-- of the changes of each site but the publisher
site-changes : (P : MadeChange → Type 0) (w : World) (h : History) (n : ℕ) (found : Option SubscriberTables) → at_number w.subscribers n ≡ found → (n ≡ 0 → ⊥) → Numbered w h → ((number generation : ℕ) → InOrder number generation (made_at h n) → AllByRecursion P (made_at h n)) → AllByRecursion P (made_at h n)
site-changes P w h n None at named i each = subst (λ (made : List MadeChange). AllByRecursion P made) (sym (i.strangers n named at)) tt
site-changes P w h n (Some s) at named i each = each s.changes (s.gens.filling.last_closed + 1) ((i.subscribers n s at).order named)

pub of-site : (P : MadeChange → Type 0) (w : World) (h : History) (n : ℕ) → (n ≡ 0 → ⊥) → Numbered w h → ((number generation : ℕ) → InOrder number generation (made_at h n) → AllByRecursion P (made_at h n)) → AllByRecursion (λ (c : MadeChange). (c.dot.site.0 == n) ≡ true → P c) h.made
of-site P w h n named i each = all-passing P (λ (c : MadeChange). c.dot.site.0 == n) h.made (site-changes P w h n (at_number w.subscribers n) refl named i each)

-- What was made.

pub was-below : (count : ℕ → ℕ) (h : History) (dot : Dot) → AreNumbered count h → count dot.site.0 < dot.number → was_made h.made dot ≡ false
was-below count h dot numbered above = fresh-anywhere h.made dot (fresh-above count h dot numbered above)

made-step : (P : Dot → Type 0) (dot : Dot) (c : MadeChange) (b more : Bool) → same_dot c.dot dot ≡ b → (b || more) ≡ true → P c.dot → (more ≡ true → P dot) → P dot
made-step P dot c true more same is here rest = subst P (dots-same c.dot dot same) here
made-step P dot c false more same is here rest = rest (grind (arith, is))

-- what is said of each change's dot
pub of-made : (P : Dot → Type 0) (made : List MadeChange) (dot : Dot) → was_made made dot ≡ true → AllByRecursion (λ (c : MadeChange). P c.dot) made → P dot
of-made P [] dot is all = absurd (grind (arith, is))
of-made P (c ∷ made) dot is all = made-step P dot c (same_dot c.dot dot) (was_made made dot) refl is all.0 (λ more. of-made P made dot more all.1)
