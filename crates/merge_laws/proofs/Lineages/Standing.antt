-- A lineage that tells of what is known stands for it; and cases by what each side knows of the other's tops.
use Rattle.std.specs.Prelude.{◌≡◌, ◌≤◌, ◌==◌, ◌&&◌, ◌||◌, ℕ, List, [], ◌∷◌, Bool, true, false, not, Option, Some, None, refl, filter, map, nat_le, zip, cond}
use Rattle.std.specs.List.{AllByRecursion, list_any}
use Rattle.std.proofs.Common.{arith, sym, ap, ◌∙◌}
use Rattle.std.proofs.lemmas.Bool.Decides.{nat_tests}
use Rattle.merge_types.specs.declared.identifiers.Dot.{Dot}
use Rattle.merge_lineage.specs.Lineage.{knows, number_at, number_of}
use Rattle.merge_units.specs.Cases.{are_long, live_case, news_case, side_by}
use Rattle.merge_units.specs.declared.case.Case.{Case}
use Rattle.merge_units.specs.declared.case.Side.{Side}
use Rattle.merge_units.specs.declared.version.Body.{Body}
use Rattle.merge_units.specs.declared.version.Body.TheVariants.{Dead, Live}
use Rattle.merge_units.specs.declared.version.Cell.{Cell}
use Rattle.merge_units.specs.Version.{Knowing, has_news, new_tops, tops_of}
use Rattle.merge_units.specs.Cases.{bodies_case, case_by, side_of}
use Rattle.merge_model.specs.History.{MadeChange, has}
use Rattle.merge_model.specs.Tables.Keys.{same_key}
use Rattle.merge_types.specs.declared.row_key.RowKey.{RowKey as Key}
use Rattle.merge_laws.specs.Facts.Knowledge.{Knows, KnowsItsPast, is_made, same_dot}
use Rattle.merge_laws.specs.Facts.Standing.{AgreesOn, IsKnownLater, KnewEarlier, StandsAt, StandsFor, Tells, is_counted}
use Rattle.merge_model.proofs.Lists.Finding.{all-weaker}

-- What is known of a dot is known of the same dot.
abbrev has_at : List Dot → ℕ → ℕ → Bool
has_at dots site number = list_any (λ (other : Dot). (other.site.0 == site) && (other.number == number)) dots

has-same : (dots : List Dot) (a b : Dot) → same_dot a b ≡ true → has dots a ≡ has dots b
has-same dots a b is =
    let site : a.site.0 ≡ b.site.0 = grind (arith, nat_tests, is) in
    let number : a.number ≡ b.number = grind (arith, nat_tests, is) in
    ap (λ (n : ℕ). has_at dots n a.number) site ∙ ap (λ (n : ℕ). has_at dots b.site.0 n) number

both-ways : (a b : Bool) → (b ≡ true → a ≡ true) → (a ≡ true → b ≡ true) → a ≡ b
both-ways true b one other = sym (other refl)
both-ways false true one other = one refl
both-ways false false one other = refl

-- a known change of the row knew the earlier one, so that it is known
later-step : (key : Key) (c : MadeChange) (dot : Dot) (known : List Dot) → same_key key c.key ≡ true → dot.site.0 ≡ c.dot.site.0 → c.dot.number ≤ dot.number → has known dot ≡ true
    → (x : MadeChange) (made : List MadeChange) (b : Bool) → (same_dot x.dot dot && same_key key x.key) ≡ b → (b || is_made made key dot) ≡ true → KnewEarlier c x → KnowsItsPast known x
    → (is_made made key dot ≡ true → has known c.dot ≡ true) → has known c.dot ≡ true
later-step key c dot known row site up is x made true same there knew past rest =
    let dots : same_dot x.dot dot ≡ true = grind (arith, same) in
    let keys : same_key x.key c.key ≡ true = grind (arith, nat_tests, same, row) in
    let sites : (x.dot.site.0 == c.dot.site.0) ≡ true = grind (arith, nat_tests, dots, site) in
    let low : c.dot.number ≤ x.dot.number = grind (arith, nat_tests, dots, up) in
    past (has-same known x.dot dot dots ∙ is) c.dot (knew keys sites low)
later-step key c dot known row site up is x made false same there knew past rest = rest there

later-known : (key : Key) (c : MadeChange) (dot : Dot) (known : List Dot) → same_key key c.key ≡ true → dot.site.0 ≡ c.dot.site.0 → c.dot.number ≤ dot.number → has known dot ≡ true
    → (made : List MadeChange) → is_made made key dot ≡ true → AllByRecursion (KnewEarlier c) made → AllByRecursion (KnowsItsPast known) made → has known c.dot ≡ true
later-known key c dot known row site up is [] there knew past = absurd (grind (arith, there))
later-known key c dot known row site up is (x ∷ made) there knew past =
    later-step key c dot known row site up is x made (same_dot x.dot dot && same_key key x.key) refl there knew.0 past.0 (λ more. later-known key c dot known row site up is made more knew.1 past.1)

module _ (made : List MadeChange) (counts : MadeChange → Bool) (key : Key) (lineage known : List Dot) (k : Knows made key known) (t : Tells lineage known) where
  up-known : (c : MadeChange) (found : Option ℕ) → number_at lineage c.dot.site.0 ≡ found → 1 ≤ c.dot.number → AllByRecursion (KnewEarlier c) made → same_key key c.key ≡ true → knows lineage c.dot ≡ true → has known c.dot ≡ true
  up-known c None at from knew row is = absurd (grind (arith, nat_tests, at, from, is))
  up-known c (Some n) at from knew row is =
      let dot : Dot = record { site = c.dot.site; number = n } in
      let low : c.dot.number ≤ n = grind (arith, nat_tests, at, is) in
      let top : has known dot ≡ true = t.reached dot at in
      later-known key c dot known row refl low top made (k.made_here dot top) knew k.closed

  stands-at : (c : MadeChange) → IsKnownLater made counts c → StandsAt key lineage known counts c
  stands-at c later row count = both-ways (knows lineage c.dot) (has known c.dot) (t.below c.dot) (λ is. up-known c (number_at lineage c.dot.site.0) refl later.numbered (later.later count) row is)

  pub telling-stands : AllByRecursion (IsKnownLater made counts) made → StandsFor made counts key lineage known
  telling-stands all = all-weaker (IsKnownLater made counts) (StandsAt key lineage known counts) stands-at made all

-- What lineages and known changes agree on.

abbrev knows_at : List Dot → ℕ → ℕ → Bool
knows_at lineage site number = nat_le number (number_of lineage site)

knows-same : (lineage : List Dot) (a b : Dot) → same_dot a b ≡ true → knows lineage a ≡ knows lineage b
knows-same lineage a b is =
    let site : a.site.0 ≡ b.site.0 = grind (arith, nat_tests, is) in
    let number : a.number ≡ b.number = grind (arith, nat_tests, is) in
    ap (λ (n : ℕ). knows_at lineage n a.number) site ∙ ap (λ (n : ℕ). knows_at lineage b.site.0 n) number

module _ (counts : MadeChange → Bool) (key : Key) (lineage known : List Dot) (top : Dot) where
  agrees-step : (x : MadeChange) (made : List MadeChange) (b : Bool) → (same_dot x.dot top && (same_key key x.key && counts x)) ≡ b → (b || is_counted made counts key top) ≡ true → StandsAt key lineage known counts x
      → (is_counted made counts key top ≡ true → knows lineage top ≡ has known top) → knows lineage top ≡ has known top
  agrees-step x made true same there stands rest =
      let dots : same_dot x.dot top ≡ true = grind (arith, same) in
      let keys : same_key key x.key ≡ true = grind (arith, same) in
      let count : counts x ≡ true = grind (arith, same) in
      sym (knows-same lineage x.dot top dots) ∙ stands keys count ∙ has-same known x.dot top dots
  agrees-step x made false same there stands rest = rest there

  counted-agrees : (made : List MadeChange) → is_counted made counts key top ≡ true → StandsFor made counts key lineage known → knows lineage top ≡ has known top
  counted-agrees [] there all = absurd (grind (arith, there))
  counted-agrees (x ∷ made) there all = agrees-step x made (same_dot x.dot top && (same_key key x.key && counts x)) refl there all.0 (λ more. counted-agrees made more all.1)

pub standing-agrees : (made : List MadeChange) (counts : MadeChange → Bool) (key : Key) (lineage known : List Dot) (body : Body) → StandsFor made counts key lineage known
    → AllByRecursion (λ (top : Dot). is_counted made counts key top ≡ true) (tops_of body) → AgreesOn (knows lineage) (has known) body
standing-agrees made counts key lineage known body stands tops =
    all-weaker (λ (top : Dot). is_counted made counts key top ≡ true) (λ (top : Dot). knows lineage top ≡ has known top) (λ top there. counted-agrees counts key lineage known top made there stands) (tops_of body) tops

-- Cases.

any-alike : (one other : Knowing) (tops : List Dot) → AllByRecursion (λ (top : Dot). one top ≡ other top) tops → list_any (λ (top : Dot). not (one top)) tops ≡ list_any (λ (top : Dot). not (other top)) tops
any-alike one other [] all = refl
any-alike one other (top ∷ tops) all = grind (arith, all.0, any-alike one other tops all.1)

kept-alike : (a b : Bool) (top : Dot) (xs ys : List Dot) → a ≡ b → xs ≡ ys → cond (not a) (top ∷ xs) xs ≡ cond (not b) (top ∷ ys) ys
kept-alike true b top xs ys same tails = ap (λ (c : Bool). (let kept : List Dot = cond (not c) (top ∷ xs) xs in kept)) same ∙ ap (λ (ts : List Dot). (let kept : List Dot = cond (not b) (top ∷ ts) ts in kept)) tails
kept-alike false b top xs ys same tails = ap (λ (c : Bool). (let kept : List Dot = cond (not c) (top ∷ xs) xs in kept)) same ∙ ap (λ (ts : List Dot). (let kept : List Dot = cond (not b) (top ∷ ts) ts in kept)) tails

filter-alike : (one other : Knowing) (tops : List Dot) → AllByRecursion (λ (top : Dot). one top ≡ other top) tops → filter (λ (top : Dot). not (one top)) tops ≡ filter (λ (top : Dot). not (other top)) tops
filter-alike one other [] all = refl
filter-alike one other (top ∷ tops) all = kept-alike (one top) (other top) top (filter (λ (x : Dot). not (one x)) tops) (filter (λ (x : Dot). not (other x)) tops) all.0 (filter-alike one other tops all.1)

pub news-alike : (there there_too : Knowing) (body : Body) → AgreesOn there there_too body → new_tops there body ≡ new_tops there_too body
news-alike there there_too body all = filter-alike there there_too (tops_of body) all

module _ (here here_too there there_too : Knowing) where
  pairs-alike : (long : Bool) (ours theirs : List Cell) → AllByRecursion (λ (top : Dot). there top ≡ there_too top) (map (λ (cell : Cell). cell.top) ours) → AllByRecursion (λ (top : Dot). here top ≡ here_too top) (map (λ (cell : Cell). cell.top) theirs)
      → map (side_of long here there) (zip ours theirs) ≡ map (side_of long here_too there_too) (zip ours theirs)
  pairs-alike long [] theirs one other = refl
  pairs-alike long (p ∷ ours) [] one other = refl
  pairs-alike long (p ∷ ours) (q ∷ theirs) one other =
      ap (λ (known : Bool). side_by long (not known) (not (here q.top)) ∷ map (side_of long here there) (zip ours theirs)) one.0
      ∙ ap (λ (known : Bool). side_by long (not (there_too p.top)) (not known) ∷ map (side_of long here there) (zip ours theirs)) other.0
      ∙ ap (λ (sides : List Side). side_by long (not (there_too p.top)) (not (here_too q.top)) ∷ sides) (pairs-alike long ours theirs one.1 other.1)

  bodies-alike : (ours theirs : Body) → AgreesOn there there_too ours → AgreesOn here here_too theirs → bodies_case here there ours theirs ≡ bodies_case here_too there_too ours theirs
  bodies-alike (Dead a) (Dead b) one other = refl
  bodies-alike (Dead a) (Live b) one other = refl
  bodies-alike (Live a) (Dead b) one other = refl
  bodies-alike (Live a) (Live b) one other = ap (λ (sides : List Side). live_case sides) (pairs-alike (are_long a b) a b one other)

  pub case-alike : (ours theirs : Body) → AgreesOn there there_too ours → AgreesOn here here_too theirs → case_by here there ours theirs ≡ case_by here_too there_too ours theirs
  case-alike ours theirs one other =
      ap (λ (news : Bool). news_case news (has_news here theirs) (bodies_case here there ours theirs)) (any-alike there there_too (tops_of ours) one)
      ∙ ap (λ (news : Bool). news_case (has_news there_too ours) news (bodies_case here there ours theirs)) (any-alike here here_too (tops_of theirs) other)
      ∙ ap (λ (case : Case). news_case (has_news there_too ours) (has_news here_too theirs) case) (bodies-alike ours theirs one other)
