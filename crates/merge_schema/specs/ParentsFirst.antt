-- An order of the articles in which parents come first: by how many ancestors each has.
use Rattle.std.specs.Prelude.{ℕ, zero, suc, List, [], ◌∷◌, length, Bool, cond, nat_le, if◌then◌else◌}
use Rattle.merge_schema.specs.declared.publication.Article.{Article}
use Rattle.merge_schema.specs.declared.publication.Publication.{Publication}
use Rattle.merge_schema.specs.Ancestors.{is_ancestor}

-- how many numbers below a bound pass
abbrev pub count_below : (ℕ → Bool) → ℕ → ℕ
count_below test zero = zero
count_below test (suc n) = cond (test n) (suc (count_below test n)) (count_below test n)

-- how many ancestors an article has
abbrev pub ancestors_of : List Article → ℕ → ℕ
ancestors_of articles place = count_below (λ ancestor. is_ancestor articles ancestor place) (length articles)

-- before the first whose number is not lower
abbrev pub put_by : {X : Type 0} → (X → ℕ) → X → List X → List X
put_by number x [] = x ∷ []
put_by number x (next ∷ others) = if nat_le (number x) (number next) then x ∷ next ∷ others else next ∷ put_by number x others

-- the places below a bound, by their numbers
abbrev pub ordered_below : (ℕ → ℕ) → ℕ → List ℕ
ordered_below number zero = []
ordered_below number (suc n) = put_by number n (ordered_below number n)

abbrev pub evaluation_order : Publication → List ℕ
evaluation_order publication = ordered_below (ancestors_of publication.articles) (length publication.articles)
