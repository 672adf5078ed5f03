-- What stands between the quotes is one text.
use Rattle.std.proofs.Common.{◌≡◌, ℕ, List, [], ◌∷◌, ◌++◌, Option, Some, None, sym, ◌∙◌, subst}
use Rattle.std.specs.Prelude.{IfNone}
use Rattle.std.specs.Str.{IsUtf8}
use Rattle.std.proofs.lemmas.List.{append_cancel_right}
use Rattle.std.proofs.lemmas.Result.{IfOk-weaker}
use Rattle.merge_types.specs.Quoted.{IsQuoted, Spells}
use Rattle.merge_types.proofs.literal.quoted.read.Goals as goal

-- both pairs of quotes are round the same
inner_only : (text inner other : List ℕ) → text ≡ 34 ∷ (inner ++ 34 ∷ []) → text ≡ 34 ∷ (other ++ 34 ∷ []) → other ≡ inner
inner_only text inner other e f =
    let same : 34 ∷ (other ++ 34 ∷ []) ≡ 34 ∷ (inner ++ 34 ∷ []) = sym f ∙ e in
    let tails : other ++ 34 ∷ [] ≡ inner ++ 34 ∷ [] = cc in
    append_cancel_right other inner (34 ∷ []) tails

none_quoted : {A : Type 0} (read : Option A) (text inner : List ℕ) → text ≡ 34 ∷ (inner ++ 34 ∷ [])
    → IfNone read ((bytes : List ℕ) → Spells inner bytes → IsUtf8 bytes → ⊥) → IfNone read ((bytes : List ℕ) → IsQuoted text bytes → ⊥)
none_quoted (Some x) text inner e h = tt
none_quoted None text inner e h = λ bytes (other, f, spells, is_text). h bytes (subst (λ (x : List ℕ). Spells x bytes) (inner_only text inner other e f) spells) is_text

pub returns-in-Some-clause-none : goal.returns-in-Some-clause-none
returns-in-Some-clause-none c =
    IfOk-weaker c.read_inner.result _ _ (λ read h. none_quoted read c.args.text.now c.in-Some.inner.now c.in-Some.ensures.some h) c.read_inner.ensures.none
