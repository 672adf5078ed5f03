-- Words one after the other.
use Rattle.std.proofs.Common.{◌≡◌, ◌≢◌, ℕ, List, [], ◌∷◌, ◌++◌, length, take, Option, Some, false, eqb, refl, sym, subst}
use Rattle.std.specs.Prelude.{MatchOption}
use Rattle.merge_filter.specs.declared.kind.Kind.{Kind}
use Rattle.merge_filter.specs.Runs.{kind_of, run_len}
use Rattle.merge_filter.specs.declared.word.Word.{Word}
use Rattle.merge_filter.specs.Words.{AreWords, IsFrontWord, behind_front, place_of, Spells}

pub one_more : (text bytes : List ℕ) (words : List Word) (places rest : List ℕ) (word : Word) (place : ℕ) → AreWords text bytes words places rest
    → rest ≢ [] → place ≡ place_of text rest → IsFrontWord place rest word
    → AreWords text bytes (words ++ word ∷ []) (places ++ place ∷ []) (behind_front rest)
one_more text bytes [] [] rest word place h some p w =
    subst (λ (b : List ℕ). (b ≢ []) × (place ≡ place_of text b) × IsFrontWord place b word × (behind_front b ≡ behind_front rest)) (sym h) (some, p, w, refl)
one_more text bytes (v ∷ words) (q ∷ places) rest word place h some p w =
    (h.0, h.1, h.2, one_more text (behind_front bytes) words places rest word place h.3 some p w)
one_more text bytes [] (q ∷ places) rest word place h some p w = absurd h
one_more text bytes (v ∷ words) [] rest word place h some p w = absurd h

pub front_is : (rest : List ℕ) (kind : Kind) (len place : ℕ) (o : Option Word) (word : Word) → kind ≡ kind_of rest → len ≡ run_len kind rest → o ≡ Some word
    → MatchOption o ((v : Word) → Spells kind place (take len rest) v → ⊥) (Spells kind place (take len rest)) → IsFrontWord place rest word
front_is rest kind len place o word k l s h =
    let read : Spells kind place (take len rest) word = subst (λ (v : Option Word). MatchOption v ((v : Word) → Spells kind place (take len rest) v → ⊥) (Spells kind place (take len rest))) s h in
    subst (λ (x : Kind). Spells x place (take (run_len x rest) rest) word) k (subst (λ (n : ℕ). Spells kind place (take n rest) word) l read)

pub not_empty : (rest : List ℕ) → false ≡ eqb (length rest) 0 → rest ≢ []
not_empty [] e = absurd cc
not_empty (b ∷ rest) e = λ n. absurd cc
