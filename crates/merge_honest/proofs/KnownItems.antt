-- The rules that an upload keeps by what its versions know: 9 and 11.
use Rattle.std.specs.List.{AllByRecursion, fold, list_all, list_any}
use Rattle.std.specs.Option.{option_map_or}
use Rattle.std.specs.Prelude.{Bool, List, None, Option, Some, [], false, map, max, nat_le, not, option_map, refl, true, unwrap_or, if◌then◌else◌, ℕ, ◌==◌, ◌&&◌, ◌||◌, ◌≡◌, ◌≤◌, ◌∷◌}
use Rattle.std.proofs.Common.{ap, arith, subst, sym, ◌∙◌}
use Rattle.std.proofs.lemmas.Bool.Decides.{nat_tests}
use Rattle.merge_types.specs.declared.identifiers.Dot.{Dot}
use Rattle.merge_types.specs.declared.identifiers.SiteId.{SiteId}
use Rattle.merge_lineage.specs.Lineage.{knows, number_at, number_of}
use Rattle.merge_units.specs.Version.{has_news, is_new, tops_of}
use Rattle.merge_units.specs.declared.version.Body.{Body}
use Rattle.merge_units.specs.declared.version.Body.TheVariants.{Dead, Live}
use Rattle.merge_units.specs.declared.version.Cell.{Cell}
use Rattle.merge_gens.specs.declared.sites.SiteState.{SiteState}
use Rattle.merge_schema.specs.declared.publication.Publication.{Publication}
use Rattle.merge_batch.specs.Known.{seen_of}
use Rattle.merge_batch.specs.Lineages.{has_top, has_tops, is_top, knows_tops}
use Rattle.merge_batch.specs.Uploads.{lineage_is_honest, tops_are_known, was_seen}
use Rattle.merge_batch.specs.declared.request.Request.TheVariants as request
use Rattle.merge_batch.specs.declared.request.Upload.{Upload}
use Rattle.merge_batch.specs.declared.request.UploadItem.{UploadItem}
use Rattle.merge_model.specs.Judge.ByHistory.{greatest_accepted, seen_by_accepted}
use Rattle.merge_model.specs.World.Faults.{judged_state}
use Rattle.merge_model.specs.History.{has, is_accepted}
use Rattle.merge_model.specs.Tables.Keys.{at_number}
use Rattle.merge_model.specs.History.Model.{Model}
use Rattle.merge_model.proofs.Lists.Finding.{all-weaker, pool-at}
use Rattle.merge_model.proofs.Lists.{all-both}
use Rattle.merge_model.proofs.Lists.Tests.{numbers-same}
use Rattle.merge_laws.specs.Laws.Effects.{history_judge}
use Rattle.merge_laws.specs.Facts.Knowledge.{changes_of}
use Rattle.merge_laws.specs.Laws.{OfEveryValidRun}
use Rattle.merge_laws.specs.Facts.Lineages.{IsOfMade, OfMessage}
use Rattle.merge_laws.specs.Invariants.Seen.{Seen, field_at, greatest_in}
use Rattle.merge_laws.specs.Facts.Standing.{Told}
use Rattle.merge_model.specs.declared.letter.Letter.{Letter}
use Rattle.merge_model.specs.declared.letter.Message.TheVariants.{Asks}
use Rattle.merge_honest.specs.Delivered.{IsRequest, NoneIsRefusedFor, breaks}
use Rattle.merge_honest.proofs.Breaking.{follows-all}
use Rattle.merge_honest.proofs.ItemFacts.{IsNumbered, ItemKnown, WasMade, items-known, known_to, lineage-numbered}
use Rattle.merge_honest.proofs.Rules.{Known, ItemMeets, UploadsKeep, head-met, held_against, of-uploads}

pub all-true : {X : Type 0} (test : X → Bool) (xs : List X) → AllByRecursion (λ (x : X). test x ≡ true) xs → list_all test xs ≡ true
all-true test [] all = refl
all-true test (x ∷ xs) all = let first = all.0 in let rest = all-true test xs all.1 in grind (arith, first, rest)

-- Rule 9.

pub none-new : (there : Dot → Bool) (tops : List Dot) → AllByRecursion (λ (top : Dot). there top ≡ true) tops → list_any (is_new there) tops ≡ false
none-new there [] all = refl
none-new there (top ∷ tops) all = let first = all.0 in let rest = none-new there tops all.1 in grind (arith, first, rest)

cells-topped : (publication : Publication) (cells : List Cell) → AllByRecursion (λ (top : Dot). is_top publication top ≡ true) (map (λ (cell : Cell). cell.top) cells) → list_all (has_top publication) cells ≡ true
cells-topped publication [] all = refl
cells-topped publication (cell ∷ cells) all = let first = all.0 in let rest = cells-topped publication cells all.1 in grind (arith, first, rest)

pub body-topped : (publication : Publication) (body : Body) → AllByRecursion (λ (top : Dot). is_top publication top ≡ true) (tops_of body) → has_tops publication body ≡ true
body-topped publication (Live cells) all = cells-topped publication cells all
body-topped publication (Dead top) all = all.0

-- Rule 11: who accepts a change has seen it.

abbrev greatest_from : ℕ → ℕ → List Dot → ℕ
greatest_from site most dots = fold (λ (greatest : ℕ) (dot : Dot). if dot.site.0 == site then max greatest dot.number else greatest) most dots

fold-least : (site most : ℕ) (dots : List Dot) → most ≤ greatest_from site most dots
fold-least site most [] = omega arith
fold-least site most (dot ∷ dots) =
    let next : ℕ = if dot.site.0 == site then max most dot.number else most in
    let first : most ≤ next = grind (arith, nat_tests) in
    let rest : next ≤ greatest_from site next dots = fold-least site next dots in
    omega (arith, first, rest)

member-by : (dot other : Dot) (most : ℕ) (dots : List Dot) (b : Bool) → ((other.site.0 == dot.site.0) && (other.number == dot.number)) ≡ b → has (other ∷ dots) dot ≡ true → ((more : ℕ) → has dots dot ≡ true → dot.number ≤ greatest_from dot.site.0 more dots)
    → dot.number ≤ greatest_from dot.site.0 most (other ∷ dots)
member-by dot other most dots true here is later =
    let next : ℕ = if other.site.0 == dot.site.0 then max most other.number else most in
    let first : dot.number ≤ next = grind (arith, nat_tests, here) in
    let rest : next ≤ greatest_from dot.site.0 next dots = fold-least dot.site.0 next dots in
    omega (arith, first, rest)
member-by dot other most dots false here is later = later (if other.site.0 == dot.site.0 then max most other.number else most) (grind (arith, is, here))

fold-member : (dot : Dot) (most : ℕ) (dots : List Dot) → has dots dot ≡ true → dot.number ≤ greatest_from dot.site.0 most dots
fold-member dot most [] is = absurd cc
fold-member dot most (other ∷ dots) is = member-by dot other most dots ((other.site.0 == dot.site.0) && (other.number == dot.number)) refl is (λ more later. fold-member dot more dots later)

module _ (publication : Publication) (m : Model) (k : Known publication m) where
  pub made-top : (dot : Dot) → WasMade publication m k dot → is_top publication dot ≡ true
  made-top dot was = let site = was.site in let number = was.numbered in grind (arith, nat_tests, site, number)

  module _ (number : ℕ) (site : SiteId) (u : Upload) (at : IsRequest m number site (request.Upload u)) where
    item-tops : (item : UploadItem) → ItemKnown publication m k number site u at item → tops_are_known publication item ≡ true
    item-tops item i =
        let known = known_to publication m k number site u at item in
        let topped : has_tops publication item.version.body ≡ true = body-topped publication item.version.body
        (all-weaker (λ (top : Dot). has known top ≡ true) (λ (top : Dot). is_top publication top ≡ true) (λ top is. made-top top (i.made top is)) (tops_of item.version.body) i.told.tops) in
        let none : has_news (knows item.version.lineage) item.version.body ≡ false = none-new (knows item.version.lineage) (tops_of item.version.body)
        (all-weaker (λ (top : Dot). has known top ≡ true) (λ (top : Dot). knows item.version.lineage top ≡ true) (λ top is. i.told.tells.below top is) (tops_of item.version.body) i.told.tops) in
        grind (arith, topped, none)

    seen-found : (dot : Dot) (found : Option SiteState) → at_number m.world.publisher.sites dot.site.0 ≡ found → dot.number ≤ greatest_in m.history.accepted dot.site.0 → (dot.site.0 ≡ 0 → ⊥)
        → dot.number ≤ option_map_or (λ (state : SiteState). state.seen) (option_map (judged_state (history_judge m number) dot.site.0) found) 0
    seen-found dot None is up named =
        let seen : Seen m.world.publisher.sites m.history.accepted = k.kept.seen in
        let e = seen.numbers dot.site.0 (let low : 1 ≤ dot.site.0 = omega (arith, named) in low) in
        let one : field_at (λ (state : SiteState). state.seen) m.world.publisher.sites dot.site.0 ≡ 0 = ap (λ (found : Option SiteState). unwrap_or (option_map (λ (state : SiteState). state.seen) found) 0) is in
        grind (arith, nat_tests, e, one, up)
    seen-found dot (Some state) is up named = grind (arith, nat_tests, up)

    dot-by : (item : UploadItem) → ItemKnown publication m k number site u at item → IsOfMade (changes_of m.world) item.version.lineage → (dot : Dot) → IsNumbered item.version.lineage dot → (b c : Bool) → (dot.site.0 == 0) ≡ b → (dot.site.0 == u.site.0) ≡ c
        → was_seen (held_against publication m number) u.site.0 dot ≡ true
    dot-by item i made dot is true c own mine =
        let count : number_of item.version.lineage dot.site.0 ≡ dot.number = ap (λ (found : Option ℕ). unwrap_or found 0) is in
        let bound = made.within dot.site.0 in
        let counted : changes_of m.world dot.site.0 ≡ m.world.publisher.changes = ap (changes_of m.world) (numbers-same dot.site.0 0 own) in
        let low : dot.number ≤ m.world.publisher.changes = omega (arith, count, bound, counted) in
        grind (arith, nat_tests, own, low)
    dot-by item i made dot is false true own mine = grind (arith, own, mine)
    dot-by item i made dot is false false own mine =
        let accepted : is_accepted m.history dot ≡ true = i.others dot (i.told.tells.reached dot is) (λ same. absurd (grind (arith, nat_tests, same, mine))) in
        let has_it : has m.history.accepted dot ≡ true = grind (arith, accepted, own) in
        let up : dot.number ≤ seen_of (held_against publication m number) dot.site.0 =
        seen-found dot (at_number m.world.publisher.sites dot.site.0) refl (fold-member dot 0 m.history.accepted has_it) (λ none. absurd (grind (arith, nat_tests, none, own))) in
        grind (arith, nat_tests, own, mine, up)

    dot-seen : (item : UploadItem) → ItemKnown publication m k number site u at item → IsOfMade (changes_of m.world) item.version.lineage → (dot : Dot) → IsNumbered item.version.lineage dot → was_seen (held_against publication m number) u.site.0 dot ≡ true
    dot-seen item i made dot is = dot-by item i made dot is (dot.site.0 == 0) (dot.site.0 == u.site.0) refl refl

    item-honest : (item : UploadItem) → ItemKnown publication m k number site u at item → IsOfMade (changes_of m.world) item.version.lineage → lineage_is_honest (held_against publication m number) u item ≡ true
    item-honest item i made = all-true (was_seen (held_against publication m number) u.site.0) item.version.lineage
        (all-weaker (IsNumbered item.version.lineage) (λ (dot : Dot). was_seen (held_against publication m number) u.site.0 dot ≡ true) (λ dot is. dot-seen item i made dot is) item.version.lineage (lineage-numbered item.version.lineage made.ascends))

    pub lineages-made : AllByRecursion (λ (item : UploadItem). IsOfMade (changes_of m.world) item.version.lineage) u.items
    lineages-made = pool-at (λ (x : Letter). OfMessage (IsOfMade (changes_of m.world)) x.message) m.world number (record { site = site; message = Asks (request.Upload u) }) at k.whole.0.0.lineages.letters

tops-meet : (publication : Publication) (m : Model) → Known publication m → UploadsKeep 9 publication m
tops-meet publication m k number site u at fine =
    (head-met 9 publication m number u refl, follows-all (ItemKnown publication m k number site u at) (ItemMeets 9 publication m number u) (λ before item i. (let is : tops_are_known publication item ≡ true = item-tops publication m k number site u at item i in grind (arith, is))) None u.items (items-known publication m k number site u at))

lineages-meet : (publication : Publication) (m : Model) → Known publication m → UploadsKeep 11 publication m
lineages-meet publication m k number site u at fine = (
  head-met 11 publication m number u refl,
  follows-all (λ (item : UploadItem). ItemKnown publication m k number site u at item × IsOfMade (changes_of m.world) item.version.lineage) (ItemMeets 11 publication m number u)
      (λ before item i. (let is : lineage_is_honest (held_against publication m number) u item ≡ true = item-honest publication m k number site u at item i.0 i.1 in grind (arith, is))) None u.items
      (all-both (ItemKnown publication m k number site u at) (λ (item : UploadItem). IsOfMade (changes_of m.world) item.version.lineage) (λ (item : UploadItem). ItemKnown publication m k number site u at item × IsOfMade (changes_of m.world) item.version.lineage) (λ item one other. (one, other)) u.items (items-known publication m k number site u at) (lineages-made publication m k number site u at)),
)

pub no-unknown-tops : OfEveryValidRun (NoneIsRefusedFor (breaks 9))
no-unknown-tops = of-uploads 9 refl refl tops-meet

pub no-unseen-lineages : OfEveryValidRun (NoneIsRefusedFor (breaks 11))
no-unseen-lineages = of-uploads 11 refl refl lineages-meet
