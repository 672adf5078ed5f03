-- What is said of every value of a list of pairs, and of every lineage of changes that were made.
use Rattle.std.specs.Prelude.{◌≡◌, ◌≤◌, ◌==◌, ℕ, List, [], ◌∷◌, Bool, true, false, Option, Some, None, refl, cond, unwrap_or}
use Rattle.std.specs.BTreeMap.{insert_entry}
use Rattle.std.specs.List.{AllByRecursion}
use Rattle.std.specs.Map.{lookup, remove_entry}
use Rattle.std.specs.Ordering.{match_ordering}
use Rattle.std.specs.declared.cmp.Ordering.{Ordering}
use Rattle.std.specs.declared.cmp.Ordering.TheVariants.{Less, Equal, Greater}
use Rattle.std.proofs.Common.{arith, subst, sym}
use Rattle.std.proofs.lemmas.Bool.Decides.{nat_tests}
use Rattle.merge_types.specs.declared.identifiers.Dot.{Dot}
use Rattle.merge_lineage.specs.Lineage.{greater, joined, number_at, number_of, with_dot}
use Rattle.merge_lineage.proofs.Joined.{ascending-joined, joins-joined}
use Rattle.merge_lineage.proofs.Numbers.{number-with_dot}
use Rattle.merge_lineage.proofs.Rising.{ascending_with_dot}
use Rattle.merge_laws.specs.Facts.Lineages.{IsOfMade}
use Rattle.merge_model.proofs.Lists.{OfSome}

-- Of what may be found.

found-step : {V : Type 0} (P : V → Type 0) (b : Bool) (v : V) (rest : Option V) → P v → OfSome P rest → OfSome P (cond b (Some v) rest)
found-step P true v rest first more = first
found-step P false v rest first more = more

-- Lists of pairs, by a fact of the second part.

module _ {K V : Type 0} (P : V → Type 0) where
  abbrev AllValues : List (K × V) → Type 0
  AllValues rows = AllByRecursion (λ (row : K × V). P row.1) rows

  put-step : (order : Ordering) (k : K) (v : V) (row : K × V) (rest more : List (K × V)) → P v → P row.1 → AllValues rest → AllValues more → AllValues (match_ordering order ((k, v) ∷ row ∷ rest) ((row.0, v) ∷ rest) (row ∷ more))
  put-step Less k v row rest more new first others all = (new, (first, others))
  put-step Equal k v row rest more new first others all = (new, others)
  put-step Greater k v row rest more new first others all = (first, all)

  pub values-put : (cmp : K → K → Ordering) (k : K) (v : V) (rows : List (K × V)) → P v → AllValues rows → AllValues (insert_entry cmp rows k v)
  values-put cmp k v [] new all = (new, tt)
  values-put cmp k v (row ∷ rows) new all = put-step (cmp k row.0) k v row rows (insert_entry cmp rows k v) new all.0 all.1 (values-put cmp k v rows new all.1)

  pub values-found : (test : K → Bool) (rows : List (K × V)) → AllValues rows → OfSome P (lookup test rows)
  values-found test [] all = tt
  values-found test (row ∷ rows) all = found-step P (test row.0) row.1 (lookup test rows) all.0 (values-found test rows all.1)

  drop-step : (b : Bool) (row : K × V) (rest more : List (K × V)) → P row.1 → AllValues rest → AllValues more → AllValues (cond b rest (row ∷ more))
  drop-step true row rest more first others all = others
  drop-step false row rest more first others all = (first, all)

  pub values-dropped : (test : K → Bool) (rows : List (K × V)) → AllValues rows → AllValues (remove_entry test rows)
  values-dropped test [] all = tt
  values-dropped test (row ∷ rows) all = drop-step (test row.0) row rows (remove_entry test rows) all.0 all.1 (values-dropped test rows all.1)

-- Lineages of changes that were made.

greater-most : (a b : Option ℕ) (most : ℕ) → unwrap_or a 0 ≤ most → unwrap_or b 0 ≤ most → unwrap_or (greater a b) 0 ≤ most
greater-most None b most first second = second
greater-most (Some x) None most first second = first
greater-most (Some x) (Some y) most first second = grind (arith, nat_tests, first, second)

pub made-joined : (made : ℕ → ℕ) (a b : List Dot) → IsOfMade made a → IsOfMade made b → IsOfMade made (joined a b)
made-joined made a b f g = record {
  ascends = ascending-joined a b f.ascends g.ascends;
  within = λ n. subst (λ (found : Option ℕ). unwrap_or found 0 ≤ made n) (sym (joins-joined a b f.ascends g.ascends n)) (greater-most (number_at a n) (number_at b n) (made n) (f.within n) (g.within n));
}

dot-most : (made : ℕ → ℕ) (d : Dot) (n : ℕ) (b : Bool) → (d.site.0 == n) ≡ b → d.number ≤ made d.site.0 → number_of (d ∷ []) n ≤ made n
dot-most made d n true e most = let same : d.site.0 ≡ n = grind (arith, nat_tests, e) in subst (λ (k : ℕ). d.number ≤ made k → number_of (d ∷ []) n ≤ made n) (sym same) (λ here. grind (arith, nat_tests, e, here)) most
dot-most made d n false e most = grind (arith, nat_tests, e)

pub made-dot : (made : ℕ → ℕ) (d : Dot) (l : List Dot) → d.number ≤ made d.site.0 → IsOfMade made l → IsOfMade made (with_dot d l)
made-dot made d l most f = record {
  ascends = ascending_with_dot l f.ascends d;
  within = λ n. subst (λ (found : Option ℕ). unwrap_or found 0 ≤ made n) (sym (number-with_dot l f.ascends d n)) (greater-most (number_at l n) (number_at (d ∷ []) n) (made n) (f.within n) (dot-most made d n (d.site.0 == n) refl most));
}

pub made-none : (made : ℕ → ℕ) → IsOfMade made []
made-none made = record { ascends = λ i j d before within. absurd (omega arith); within = λ n. omega arith }
