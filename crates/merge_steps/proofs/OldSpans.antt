-- Generations that closed before a moment lie from the first that is kept, up to the last one that did.
use Rattle.std.specs.Prelude.{◌≡◌, ◌<◌, ◌≤◌, ◌==◌, ℕ, suc, AllPairs, Bool, true, false, List, [], ◌∷◌, Option, Some, None, refl, cond, find, if◌then◌else◌, nat_lt, slice_get}
use Rattle.std.specs.List.{AllByRecursion}
use Rattle.std.specs.Option.{option_map, option_or}
use Rattle.std.proofs.Common.{ap, arith, sym, ◌∙◌, subst}
use Rattle.std.proofs.lemmas.Bool.Decides.{nat_tests}
use Rattle.std.proofs.lemmas.List.Elements.{recursion_from_All}
use Rattle.merge_types.specs.declared.identifiers.Moment.{Moment}
use Rattle.merge_gens.specs.Book.{closed_before, last_before}
use Rattle.merge_gens.specs.declared.closings.Closing.{Closing}
use Rattle.merge_steps.specs.OldSpans.{IsSpan, span_by, span_of}
use Rattle.merge_steps.specs.Purging.{is_old_at}
use Rattle.merge_steps.specs.declared.old_spans.Span.{Span}

-- generations that rise, by recursion

abbrev AreBehind : ℕ → List Closing → Type 0
AreBehind generation closings = AllByRecursion (λ (closing : Closing). generation < closing.generation) closings

abbrev AreRising : List Closing → Type 0
AreRising [] = Unit {0}
AreRising (c ∷ cs) = AreBehind c.generation cs × AreRising cs

rising : (cs : List Closing) → AllPairs (λ (a b : Closing). a.generation < b.generation) cs → AreRising cs
rising [] pairs = tt
rising (c ∷ cs) pairs = (
  recursion_from_All (λ (x : Closing). c.generation < x.generation) cs (λ k d less. pairs 0 (suc k) d (omega arith) (omega (arith, less))),
  rising cs (λ i j d less within. pairs (suc i) (suc j) d (omega (arith, less)) (omega (arith, within))),
)

module _ (cutoff : Moment) where
  -- whether the closing that is found is before the moment
  abbrev is_found_old : Option Closing → Bool
  is_found_old None = false
  is_found_old (Some c) = nat_lt c.moment.0 cutoff.0

  abbrev found_at : ℕ → List Closing → Option Closing
  found_at g cs = find (λ (c : Closing). c.generation == g) cs

  found-old : (found : Option Closing) → (let old : Bool = elim (option_map (λ (c : Closing). c.moment.0) found) [ None ↦ false | Some moment ↦ nat_lt moment cutoff.0 ] in old) ≡ is_found_old found
  found-old None = refl
  found-old (Some c) = refl

  old-is : (cs : List Closing) (g : ℕ) → is_old_at cs cutoff g ≡ is_found_old (found_at g cs)
  old-is cs g = found-old (found_at g cs)

  -- none is found of a generation that all are behind
  behind-step : (a g : ℕ) (c : Closing) (rest : Option Closing) (b : Bool) → (c.generation == g) ≡ b → a < c.generation → (is_found_old rest ≡ true → a < g) → is_found_old (let found : Option Closing = cond b (Some c) rest in found) ≡ true → a < g
  behind-step a g c rest true here less more old = let same : c.generation ≡ g = grind (arith, nat_tests, here) in omega (arith, less, same)
  behind-step a g c rest false here less more old = more old

  old-behind : (a g : ℕ) (cs : List Closing) → AreBehind a cs → is_found_old (found_at g cs) ≡ true → a < g
  old-behind a g [] behind old = absurd cc
  old-behind a g (c ∷ cs) behind old = behind-step a g c (found_at g cs) (c.generation == g) refl behind.0 (old-behind a g cs behind.1) old

  last-step : (a l : ℕ) (c : Closing) (rest : Option ℕ) (b : Bool) → a < c.generation → ((k : ℕ) → rest ≡ Some k → a < k) → option_or rest (if b then Some c.generation else None) ≡ Some l → a < l
  last-step a l c None true less more is = let same : c.generation ≡ l = cc in omega (arith, less, same)
  last-step a l c None false less more is = absurd cc
  last-step a l c (Some k) b less more is = let same : k ≡ l = cc in let below : a < k = more k refl in omega (arith, below, same)

  last-behind : (a l : ℕ) (cs : List Closing) → AreBehind a cs → last_before cutoff cs ≡ Some l → a < l
  last-behind a l [] behind is = absurd cc
  last-behind a l (c ∷ cs) behind is = last-step a l c (last_before cutoff cs) (closed_before cutoff c) behind.0 (λ k at. last-behind a k cs behind.1 at) is

  -- up to the last that closed before the moment
  abbrev IsUpTo : Option ℕ → ℕ → Type 0
  IsUpTo None g = ⊥
  IsUpTo (Some l) g = g ≤ l

  up-here : (c : Closing) (g : ℕ) (rest : Option ℕ) (b : Bool) → b ≡ true → c.generation ≡ g → ((k : ℕ) → rest ≡ Some k → c.generation < k) → IsUpTo (option_or rest (if b then Some c.generation else None)) g
  up-here c g None true old same more = omega (arith, same)
  up-here c g None false old same more = absurd cc
  up-here c g (Some k) b old same more = let below : c.generation < k = more k refl in omega (arith, below, same)

  up-later : (c : Closing) (g : ℕ) (rest : Option ℕ) (b : Bool) → IsUpTo rest g → IsUpTo (option_or rest (if b then Some c.generation else None)) g
  up-later c g None b more = absurd more
  up-later c g (Some k) b more = more

  up-step : (c : Closing) (g : ℕ) (found : Option Closing) (rest : Option ℕ) (b : Bool) → (c.generation == g) ≡ b → ((k : ℕ) → rest ≡ Some k → c.generation < k) → (is_found_old found ≡ true → IsUpTo rest g)
      → is_found_old (let o : Option Closing = cond b (Some c) found in o) ≡ true → IsUpTo (option_or rest (if closed_before cutoff c then Some c.generation else None)) g
  up-step c g found rest true here behind more old = up-here c g rest (closed_before cutoff c) old (grind (arith, nat_tests, here)) behind
  up-step c g found rest false here behind more old = up-later c g rest (closed_before cutoff c) (more old)

  old-up_to : (g : ℕ) (cs : List Closing) → AreRising cs → is_found_old (found_at g cs) ≡ true → IsUpTo (last_before cutoff cs) g
  old-up_to g [] rises old = absurd cc
  old-up_to g (c ∷ cs) rises old = up-step c g (found_at g cs) (last_before cutoff cs) (c.generation == g) refl (λ k is. last-behind c.generation k cs rises.0 is) (old-up_to g cs rises.1) old

  from-step : (c : Closing) (g : ℕ) (found : Option Closing) (b : Bool) → (c.generation == g) ≡ b → (is_found_old found ≡ true → c.generation < g) → is_found_old (let o : Option Closing = cond b (Some c) found in o) ≡ true → c.generation ≤ g
  from-step c g found true here more old = let same : c.generation ≡ g = grind (arith, nat_tests, here) in omega (arith, same)
  from-step c g found false here more old = let below : c.generation < g = more old in omega (arith, below)

  span-is : (c : Closing) (cs : List Closing) (last : ℕ) → AllPairs (λ (a b : Closing). a.generation < b.generation) (c ∷ cs) → Some last ≡ last_before cutoff (c ∷ cs) → IsSpan (c ∷ cs) cutoff (record { first = c.generation; last = last })
  span-is c cs last pairs is = λ g old.
      let rises = rising (c ∷ cs) pairs in
      let found : is_found_old (found_at g (c ∷ cs)) ≡ true = sym (old-is (c ∷ cs) g) ∙ old in (
        from-step c g (found_at g cs) (c.generation == g) refl (old-behind c.generation g cs rises.0) found,
        subst (λ (o : Option ℕ). IsUpTo o g) (sym is) (old-up_to g (c ∷ cs) rises found),
      )

  span-none : (cs : List Closing) (span : Span) → AllPairs (λ (a b : Closing). a.generation < b.generation) cs → None ≡ last_before cutoff cs → IsSpan cs cutoff span
  span-none cs span pairs is = λ g old.
      absurd (subst (λ (o : Option ℕ). IsUpTo o g) (sym is) (old-up_to g cs (rising cs pairs) (sym (old-is cs g) ∙ old)))

  span-up_to : (c : Closing) (cs : List Closing) (last : Option ℕ) → last ≡ last_before cutoff (c ∷ cs) → AllPairs (λ (a b : Closing). a.generation < b.generation) (c ∷ cs) → IsSpan (c ∷ cs) cutoff (span_by (Some c) last)
  span-up_to c cs None is pairs = span-none (c ∷ cs) (span_by (Some c) None) pairs is
  span-up_to c cs (Some last) is pairs = span-is c cs last pairs is

  pub span-within : (cs : List Closing) → AllPairs (λ (a b : Closing). a.generation < b.generation) cs → IsSpan cs cutoff (span_of cs cutoff)
  span-within [] pairs = λ g old. absurd cc
  span-within (c ∷ cs) pairs = span-up_to c cs (last_before cutoff (c ∷ cs)) refl pairs

-- the span of the closed generations that are kept, by its parts
pub span-made : (closings kept : List Closing) (cutoff : Moment) (first : Option Closing) (last : Option ℕ) (span : Span) → kept ≡ closings → first ≡ slice_get kept 0 → last ≡ last_before cutoff closings → span ≡ span_by first last
    → span ≡ span_of closings cutoff
span-made closings kept cutoff first last span same one other is =
    is ∙ ap (λ (o : Option Closing). span_by o last) one ∙ ap (λ (o : Option ℕ). span_by (slice_get kept 0) o) other ∙ ap (λ (cs : List Closing). span_by (slice_get cs 0) (last_before cutoff closings)) same
