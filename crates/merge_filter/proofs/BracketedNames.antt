-- A name in brackets is a word.
use Rattle.std.proofs.Common.{◌≡◌, ◌∙◌, ℕ, suc, ◌+◌, Bool, true, false, ◌&&◌, List, [], ◌∷◌, ◌++◌, length, take, drop, refl, ap, add-one, arith}
use Rattle.std.specs.Prelude.{take_while, if◌then◌else◌}
use Rattle.std.specs.List.{list_all, prefix_len}
use Rattle.std.proofs.lemmas.Bool.Decides.{nat_tests}
use Rattle.merge_types.specs.Names.{begins_name, continues_name, is_name_text}
use Rattle.merge_filter.specs.declared.word.Word.TheVariants.{Name}
use Rattle.merge_filter.specs.Runs.{begins_with, bracketed_len}
use Rattle.merge_filter.specs.Words.{IsFrontWord}

begins-continues : (b : ℕ) → begins_name b ≡ true → continues_name b ≡ true
begins-continues b e = grind (arith, nat_tests, e)

both : (a b : Bool) → (a && b) ≡ true → (a ≡ true) × (b ≡ true)
both true b e = (refl, e)
both false b e = absurd cc

all_continue : (name : List ℕ) → is_name_text name ≡ true → list_all continues_name name ≡ true
all_continue [] e = absurd cc
all_continue (b ∷ name) e =
    let parts = both (begins_name b && list_all continues_name name) _ e in
    let named = both (begins_name b) (list_all continues_name name) parts.0 in
    rw (begins-continues b named.0, named.1) refl

one_more : (n : ℕ) → 1 + n ≡ suc n
one_more n = omega arith

run_over : (p : ℕ → Bool) → p 93 ≡ false → (name rest : List ℕ) → list_all p name ≡ true → take_while p (name ++ 93 ∷ rest) ≡ name
run_over p stop [] rest e = rw stop refl
run_over p stop (b ∷ name) rest e =
    let named = both (p b) (list_all p name) e in
    rw named.0 (ap (λ (n : ℕ). take n (b ∷ (name ++ 93 ∷ rest))) (one_more (prefix_len p (name ++ 93 ∷ rest))) ∙ ap (λ (l : List ℕ). b ∷ l) (run_over p stop name rest named.1))

drop_over : (name rest : List ℕ) → drop (length name) (name ++ rest) ≡ rest
drop_over [] rest = refl
drop_over (b ∷ name) rest = drop_over name rest

take_over : (name : List ℕ) (b : ℕ) (rest : List ℕ) → take (suc (length name)) (name ++ b ∷ rest) ≡ name ++ b ∷ []
take_over [] b rest = refl
take_over (c ∷ name) b rest = ap (λ (l : List ℕ). c ∷ l) (take_over name b rest)

pub bracketed_word : (name rest : List ℕ) (place : ℕ) → is_name_text name ≡ true → IsFrontWord place (91 ∷ (name ++ 93 ∷ rest)) (Name name)
bracketed_word name rest place is =
    let run = run_over continues_name refl name rest (all_continue name is) in
    let long : bracketed_len (name ++ 93 ∷ rest) ≡ suc (length name) = rw (run, drop_over name (93 ∷ rest)) (omega arith) in
    (name, ap (λ (n : ℕ). take (suc n) (91 ∷ (name ++ 93 ∷ rest))) long ∙ ap (λ (l : List ℕ). 91 ∷ l) (take_over name 93 rest), is, refl)
