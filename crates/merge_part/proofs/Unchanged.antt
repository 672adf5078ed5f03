-- What a step without changes does.
use Rattle.std.proofs.Common.{◌≡◌, ◌<◌, Bool, true, false, List, [], ◌∷◌, length, refl, arith}
use Rattle.std.specs.Prelude.{◌==◌, not}
use Rattle.std.proofs.lemmas.Bool.Decides.{nat_tests}
use Rattle.std.specs.declared.cmp.Ordering.{Ordering}
use Rattle.std.specs.List.Sorted.{IsStrictlySortedBy}
use Rattle.std.proofs.lemmas.List.Elements.{All-from_recursion}
use Rattle.merge_schema.specs.declared.publication.Publication.{Publication}
use Rattle.merge_schema.specs.Partition.{LiveRow, is_in_at}
use Rattle.merge_table.specs.declared.edit.Edit.{Edit}
use Rattle.merge_table.specs.Edits.{IsReady, is_ready}
use Rattle.merge_gens.specs.Moves.{is_left}
use Rattle.merge_part.specs.Moves.{AreMoves}

not_itself : (b c : Bool) → b ≡ c → b ≡ not c → ⊥
not_itself true true same other = let bad : true ≡ false = other in absurd cc
not_itself true false same other = absurd cc
not_itself false true same other = absurd cc
not_itself false false same other = let bad : false ≡ true = other in absurd cc

-- partitions that stay as they are differ in nothing
pub no_moves : (publication : Publication) (live : List LiveRow) → AreMoves publication live live []
unfolding IsStrictlySortedBy
no_moves publication live = record {
  ascending = tt;
  each = λ one. (
    λ there. let less : there.0 < 0 = there.1 in absurd (omega arith),
    λ differs. absurd (not_itself (is_in_at publication one.site live one.article one.row) (is_left one.kind) differs.0 differs.1),
  );
}

-- no changes need no memory
pub none_ready : {K : Type 0} (V : Type 0) (cmp : K → K → Ordering) (slots : List K) → IsReady cmp slots (let none : List (Edit K V) = [] in none)
unfolding IsReady
none_ready {K = K} V cmp slots = All-from_recursion (λ (edit : Edit K V). is_ready cmp slots edit ≡ true) [] tt

pub none_of : {X : Type 0} (xs : List X) → (length xs == 0) ≡ true → xs ≡ []
none_of [] h = refl
none_of (x ∷ xs) h = let none : length (x ∷ xs) ≡ 0 = grind (arith, nat_tests, h) in absurd (omega arith)
