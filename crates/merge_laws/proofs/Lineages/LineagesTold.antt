-- What lineages tell of, as changes are made and versions are merged.
use Rattle.std.specs.Prelude.{◌≡◌, ◌==◌, ◌&&◌, ◌||◌, ◌++◌, ℕ, List, ◌∷◌, Bool, true, false, Option, Some, None, refl, max, if◌then◌else◌}
use Rattle.std.proofs.Common.{arith, sym, ap, ◌∙◌}
use Rattle.std.proofs.lemmas.Bool.Decides.{nat_tests}
use Rattle.std.proofs.lemmas.List.Folds.{list_any-append}
use Rattle.merge_types.specs.declared.identifiers.Dot.{Dot}
use Rattle.merge_lineage.specs.Lineage.{IsAscending, greater, joined, number_at, with_dot}
use Rattle.merge_lineage.proofs.Covers.{advance_knows, join_knows}
use Rattle.merge_lineage.proofs.Joined.{joins-joined}
use Rattle.merge_lineage.proofs.Numbers.{number-with_dot}
use Rattle.merge_model.specs.History.{has}
use Rattle.merge_laws.specs.Facts.Knowledge.{same_dot}
use Rattle.merge_laws.specs.Facts.Standing.{Tells}

some-same : (m n : ℕ) → Some m ≡ Some n → m ≡ n
some-same m n e = cc

-- the greater of two numbers is one of the two
reached-change : (dot asked : Dot) (before found : Option ℕ) (b has_asked : Bool) → before ≡ found → (dot.site.0 == asked.site.0) ≡ b → greater found (if b then Some dot.number else None) ≡ Some asked.number
    → (before ≡ Some asked.number → has_asked ≡ true) → ((b && (dot.number == asked.number)) || has_asked) ≡ true
reached-change dot asked before None true has_asked at is e reached = let same : dot.number ≡ asked.number = some-same dot.number asked.number e in grind (arith, nat_tests, same)
reached-change dot asked before None false has_asked at is e reached = absurd cc
reached-change dot asked before (Some m) true has_asked at is e reached =
    let told : m ≡ asked.number → has_asked ≡ true = λ same. reached (at ∙ ap Some same) in
    grind (arith, nat_tests, some-same (max m dot.number) asked.number e, told)
reached-change dot asked before (Some m) false has_asked at is e reached = let told : has_asked ≡ true = reached (at ∙ e) in grind (arith, told)

pub tells-change : (lineage known : List Dot) (dot : Dot) → IsAscending lineage → Tells lineage known → Tells (with_dot dot lineage) (dot ∷ known)
tells-change lineage known dot ascending t = record {
  reached = λ asked at. reached-change dot asked (number_at lineage asked.site.0) (number_at lineage asked.site.0) (dot.site.0 == asked.site.0) (has known asked) refl refl (sym (number-with_dot lineage ascending dot asked.site.0) ∙ at) (t.reached asked);
  below = λ asked is. grind (arith, nat_tests, (advance_knows lineage dot asked ascending).1, is, t.below asked);
}

reached-merge : (number : ℕ) (one other found also : Option ℕ) (a b : Bool) → one ≡ found → other ≡ also → greater found also ≡ Some number → (one ≡ Some number → a ≡ true) → (other ≡ Some number → b ≡ true) → (a || b) ≡ true
reached-merge number one other None also a b at is e first second = let told : b ≡ true = second (is ∙ e) in grind (arith, told)
reached-merge number one other (Some m) None a b at is e first second = let told : a ≡ true = first (at ∙ e) in grind (arith, told)
reached-merge number one other (Some m) (Some n) a b at is e first second =
    let mine : m ≡ number → a ≡ true = λ same. first (at ∙ ap Some same) in
    let yours : n ≡ number → b ≡ true = λ same. second (is ∙ ap Some same) in
    grind (arith, nat_tests, some-same (max m n) number e, mine, yours)

pub tells-merge : (here there ours theirs : List Dot) → IsAscending here → IsAscending there → Tells here ours → Tells there theirs → Tells (joined here there) (ours ++ theirs)
tells-merge here there ours theirs one other t u = record {
  reached = λ asked at. list_any-append (λ (x : Dot). same_dot x asked) ours theirs
      ∙ reached-merge asked.number (number_at here asked.site.0) (number_at there asked.site.0) (number_at here asked.site.0) (number_at there asked.site.0) (has ours asked) (has theirs asked) refl refl
      (sym (joins-joined here there one other asked.site.0) ∙ at) (t.reached asked) (u.reached asked);
  below = λ asked is. grind (arith, join_knows here there asked one other, list_any-append (λ (x : Dot). same_dot x asked) ours theirs, is, t.below asked, u.below asked);
}
