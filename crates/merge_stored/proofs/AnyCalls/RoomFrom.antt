-- Of an article's grants, which stand by begin, there are no more than values up to the end of the last.
use Rattle.std.specs.List.{AllByRecursion}
use Rattle.std.specs.Prelude.{All, Bool, List, [], false, if◌then◌else◌, max, negsuc, pos, refl, true, ℕ, ℤ, ◌&&◌, ◌+◌, ◌<ℤ◌, ◌<◌, ◌==◌, ◌≡◌, ◌≤ℤ◌, ◌≤◌, ◌∷◌}
use Rattle.std.proofs.Common.{arith}
use Rattle.std.proofs.lemmas.Bool.Decides.{nat_tests}
use Rattle.std.proofs.lemmas.Int.{ints}
use Rattle.std.proofs.lemmas.List.Elements.{All-head, All-tail}
use Rattle.merge_ident.specs.Grants.{AreInOrder, IsGranted, Precedes, granted_to, greatest_end, is_of, natural}
use Rattle.merge_ident.specs.declared.grants.Grant.{Grant}
use Rattle.merge_model.proofs.Lists.Finding.{all-weaker}
use Rattle.merge_stored.proofs.Tallies.{count-tally, counted, tally}

less-natural : (a b : ℤ) → pos 0 ≤ℤ a → a <ℤ b → natural a < natural b
less-natural (pos m) (pos n) from less = omega (arith, ints, less)
less-natural (pos m) (negsuc n) from less = absurd (omega (arith, ints, less))
less-natural (negsuc m) b from less = absurd (omega (arith, ints, from))

-- a grant ends where it begins or behind, at 1 at least
up-natural : (a b : ℤ) → pos 1 ≤ℤ a → a ≤ℤ b → (natural a ≤ natural b) × (1 ≤ natural a) × (pos 0 ≤ℤ b)
up-natural (pos m) (pos n) from up = (omega (arith, ints, up), omega (arith, ints, from), omega (arith, ints))
up-natural (pos m) (negsuc n) from up = absurd (omega (arith, ints, up))
up-natural (negsuc m) b from up = absurd (omega (arith, ints, from))

step : (b c : Bool) (low e rest most whole greatest : ℕ) → whole ≡ counted (b && c) + rest → greatest ≡ (if b then max e most else most) → (b ≡ true → low + 1 ≤ e) → (b ≡ true → e + rest ≤ max e most) → (b ≡ false → low + rest ≤ max low most) → low + whole ≤ max low greatest
step true true low e rest most whole greatest count up behind own other = (let one = behind refl in let more = own refl in grind (arith, nat_tests, count, up, one, more))
step true false low e rest most whole greatest count up behind own other = (let one = behind refl in let more = own refl in grind (arith, nat_tests, count, up, one, more))
step false c low e rest most whole greatest count up behind own other = (let more = other refl in grind (arith, nat_tests, count, up, more))

abbrev Behind : ℕ → ℕ → Grant → Type 0
Behind article low g = g.article ≡ article → low + 1 ≤ natural g.range.begin

room-behind : (article site low : ℕ) (gs : List Grant) → AllByRecursion (Behind article low) gs → AreInOrder gs → All IsGranted gs → low + tally (is_of article site) gs ≤ max low (greatest_end article gs)
room-behind article site low [] behind order granted = grind (arith, nat_tests)
room-behind article site low (g ∷ gs) behind order granted =
    let some : IsGranted g = All-head IsGranted g gs granted in
    let ends = up-natural g.range.begin g.range.end some.from_one some.some in
    let e : ℕ = natural g.range.end in
    let here : (g.article == article) ≡ true → low + 1 ≤ e = λ is. (let same : g.article ≡ article = grind (arith, nat_tests, is) in let from = behind.0 same in let up = ends.0 in omega (arith, from, up)) in
    let later : (g.article == article) ≡ true → AllByRecursion (Behind article e) gs = λ is. all-weaker (Precedes g) (Behind article e) (λ next precedes at. (
    let same : g.article ≡ next.article = grind (arith, nat_tests, is, at) in
    let less = less-natural g.range.end next.range.begin ends.2 (precedes.behind same) in
    omega (arith, less))) gs order.0 in
    step (g.article == article) (g.site.0 == site) low e (tally (is_of article site) gs) (greatest_end article gs) (tally (is_of article site) (g ∷ gs)) (greatest_end article (g ∷ gs)) refl refl here
    (λ is. room-behind article site e gs (later is) order.1 (All-tail IsGranted g gs granted)) (λ other. room-behind article site low gs behind.1 order.1 (All-tail IsGranted g gs granted))

pub has-room : (gs : List Grant) → AreInOrder gs → All IsGranted gs → (article site : ℕ) → granted_to article site gs ≤ greatest_end article gs
has-room gs order granted article site =
    let all = room-behind article site 0 gs (begins gs granted) order granted in
    let same = count-tally (is_of article site) gs in
    grind (arith, nat_tests, all, same)
  where
    begins : (more : List Grant) → All IsGranted more → AllByRecursion (Behind article 0) more
    begins [] all = tt
    begins (g ∷ more) all = ((λ at. (let some : IsGranted g = All-head IsGranted g more all in let ends = up-natural g.range.begin g.range.end some.from_one some.some in (let one = ends.1 in omega (arith, one)))), begins more (All-tail IsGranted g more all))
