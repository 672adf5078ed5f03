-- What two versions of a row that meet at the publisher leave of their chains, in each case and by each decision.
use Rattle.std.specs.Prelude.{◌≡◌, ◌&&◌, ◌||◌, ℕ, List, [], ◌∷◌, Bool, true, false, not, refl, if◌then◌else◌, map}
use Rattle.std.specs.List.{AllByRecursion, AllZip, list_any, zip}
use Rattle.std.proofs.Common.{arith, subst, sym, ◌∙◌}
use Rattle.std.proofs.lemmas.List.Folds.{list_any-append}
use Rattle.merge_types.specs.declared.identifiers.Dot.{Dot}
use Rattle.merge_units.specs.Cases.{are_long, is_both, news_case}
use Rattle.merge_units.specs.Results.{case_body, decided}
use Rattle.merge_units.specs.declared.case.Case.{Case}
use Rattle.merge_units.specs.declared.case.Case.TheVariants as case
use Rattle.merge_units.specs.declared.case.Side.{Side}
use Rattle.merge_units.specs.declared.result.Decision.{Decision}
use Rattle.merge_units.specs.declared.result.Decision.TheVariants.{Custom, KeepPublisher, TakeSubscriber}
use Rattle.merge_units.specs.declared.version.Body.{Body}
use Rattle.merge_units.specs.declared.version.Body.TheVariants.{Dead, Live}
use Rattle.merge_units.specs.declared.version.Cell.{Cell}
use Rattle.merge_units.specs.Version.{Knowing, has_news, tops_of}
use Rattle.merge_units.specs.Cases.{bodies_case, is_conflict, side_of, sides_of}
use Rattle.merge_model.specs.History.{Chains, MadeChange, OfCells, OfDead, has}
use Rattle.merge_model.specs.History.Pasts.{chains_by}
use Rattle.merge_model.specs.Laws.Promises.{InCell, InRow, Place, descends}
use Rattle.merge_types.specs.declared.row_key.RowKey.{RowKey as Key}
use Rattle.merge_laws.specs.Facts.Accounts.{CellGrown, Grown, GrownAlone, is_made_at, is_set}
use Rattle.merge_laws.specs.Facts.Knowledge.{KnowsItsPast, same_dot}
use Rattle.merge_laws.proofs.Accounts.AccountCells.{AreFour, Follows, OwnGrown, are-four, cells-hold, loses, results-grown}
use Rattle.merge_laws.proofs.Accounts.AccountChains.{body-known, rooted-known, set-kept, tops-known}
use Rattle.merge_laws.proofs.Known.ChangeDots.{AreDistinct}
use Rattle.merge_laws.proofs.Pasts.DotTests.{dots-same}

-- a version with no news, of a row that lives
follows-known : (made : List MadeChange) (there : List Dot) (cells : List Cell) (chains : List (List Dot)) (d : Dot) → AllZip (CellGrown made) cells chains → AllByRecursion (KnowsItsPast there) made → Follows (has there) cells chains d (has there d)
follows-known made there [] [] d grown closed = tt
follows-known made there [] (chain ∷ chains) d grown closed = tt
follows-known made there (cell ∷ cells) [] d grown closed = tt
follows-known made there (cell ∷ cells) (chain ∷ chains) d grown closed = (
  λ told inside. (let top : has there cell.top ≡ true = grind (arith, told) in rooted-known made cell.top chain there grown.0.rooted closed top d inside),
  follows-known made there cells chains d grown.1 closed,
)

-- what is known on each side is in its chains, or kept elsewhere
abbrev pub Has : List Dot → Chains → Place → Dot → Bool → Type 0
Has known chains place d t = has known d ≡ true → (descends chains place d || t) ≡ true

-- after the merge it is in the chains, in what lost, or kept elsewhere
abbrev pub AfterMerge : Case → Decision → Dot → Chains → Chains → Place → Dot → Bool → Type 0
AfterMerge c decision new mine yours place d t = (descends (chains_by c decision new mine yours) place d || ((is_conflict c && loses decision (descends mine place d) (descends yours place d)) || t)) ≡ true

module _ (cells : ℕ) (made : List MadeChange) (key : Key) (here there : List Dot) (distinct : AreDistinct made) (closed_here : AllByRecursion (KnowsItsPast here) made) (closed_there : AllByRecursion (KnowsItsPast there) made) where
  -- A delete that the publisher knows is not in the chain of a version that brings a new one.
  news-once : (top : Dot) (chain : List Dot) (d : Dot) (b : Bool) → has chain d ≡ b → GrownAlone cells made key (Dead top) (OfDead chain) → has_news (has here) (Dead top) ≡ true → is_made_at made key d InRow ≡ true → has here d ≡ true → has chain d ≡ false
  news-once top chain d false is grown news deleted known = is
  news-once top chain d true is grown news deleted known =
      let once : (same_dot top d || is_set made d) ≡ true = grown.1.once d is in
      let unset : is_set made d ≡ true → is_made_at made key d InRow ≡ false = set-kept made key d distinct in
      let same : same_dot top d ≡ true = grind (arith, once, unset, deleted) in
      let told : has here top ≡ true = subst (λ (x : Dot). has here x ≡ true) (sym (dots-same top d same)) known in
      absurd (grind (arith, news, told))

  news-stays : (theirs : Body) (yours : Chains) (d : Dot) → GrownAlone cells made key theirs yours → has_news (has here) theirs ≡ true → is_made_at made key d InRow ≡ true → has here d ≡ true → descends yours InRow d ≡ false
  news-stays (Live body) (OfCells chains) d grown news deleted known = refl
  news-stays (Dead top) (OfDead chain) d grown news deleted known = news-once top chain d (has chain d) refl grown news deleted known
  news-stays (Live body) (OfDead chain) d grown news deleted known = absurd grown.0
  news-stays (Dead top) (OfCells chains) d grown news deleted known = absurd grown.0

  -- A version that knows the delete for which a row is dead at the publisher has no news.
  dead-stays : (top : Dot) (chain : List Dot) (theirs : Body) (yours : Chains) → Grown cells made key (Dead top) (OfDead chain) → GrownAlone cells made key theirs yours → has here top ≡ true → has there top ≡ true → has_news (has here) theirs ≡ true
      → (descends yours InRow top || (has here top && not (has chain top))) ≡ true → ⊥
  dead-stays top chain theirs yours grown other told known news ends =
      let none : descends yours InRow top ≡ false = news-stays theirs yours top other news grown.1 told in
      absurd (grind (arith, none, ends, grown.0))

  module _ (new d : Dot) (decision : Decision) (place : Place) (t : Bool) (known : (has here d || has there d) ≡ true) where
    nothing-holds : (theirs : Body) (mine yours : Chains) → GrownAlone cells made key theirs yours → has_news (has here) theirs ≡ false → Has here mine place d t → Has there yours place d t → AfterMerge case.Nothing decision new mine yours place d t
    nothing-holds theirs mine yours other none holds_here holds_there =
        let up : descends yours place d ≡ true → has here d ≡ true = body-known cells made key theirs yours here other closed_here (tops-known (has here) theirs none) place d in
        grind (arith, holds_here, holds_there, known, up)

    take-alone : (ours : Body) (mine yours : Chains) → GrownAlone cells made key ours mine → has_news (has there) ours ≡ false → Has here mine place d t → Has there yours place d t → AfterMerge case.Take decision new mine yours place d t
    take-alone ours mine yours one none holds_here holds_there =
        let up : descends mine place d ≡ true → has there d ≡ true = body-known cells made key ours mine there one closed_there (tops-known (has there) ours none) place d in
        grind (arith, holds_here, holds_there, known, up)

    take-holds : (ours theirs : Body) (mine yours : Chains) → Grown cells made key ours mine → GrownAlone cells made key theirs yours → AllByRecursion (λ (top : Dot). has here top ≡ true) (tops_of ours)
        → ((x : Dot) → is_made_at made key x InRow ≡ true → has there x ≡ true → (descends yours InRow x || (has here x && not (descends mine InRow x))) ≡ true)
        → has_news (has there) ours ≡ false → has_news (has here) theirs ≡ true → Has here mine place d t → Has there yours place d t → AfterMerge case.Take decision new mine yours place d t
    take-holds (Live body) theirs (OfCells chains) yours one other tops ends none news holds_here holds_there = take-alone (Live body) (OfCells chains) yours (one, tt) none holds_here holds_there
    take-holds (Dead top) theirs (OfDead chain) yours one other tops ends none news holds_here holds_there =
        let known_there : has there top ≡ true = grind (arith, none) in
        absurd (dead-stays top chain theirs yours one other tops.0 known_there news (ends top one.1 known_there))
    take-holds (Live body) theirs (OfDead chain) yours one other tops ends none news holds_here holds_there = absurd one
    take-holds (Dead top) theirs (OfCells chains) yours one other tops ends none news holds_here holds_there = absurd one

    unite-holds : (mine yours : List Dot) → Has here (OfDead mine) place d t → Has there (OfDead yours) place d t → AfterMerge case.Unite decision new (OfDead mine) (OfDead yours) place d t
    unite-holds mine yours holds_here holds_there = grind (arith, list_any-append (λ (x : Dot). same_dot x d) mine yours, holds_here, holds_there, known)

    life-holds : (choice : Decision) (mine yours : Chains) → Has here mine place d t → Has there yours place d t → AfterMerge case.LifeConflict choice new mine yours place d t
    life-holds KeepPublisher mine yours holds_here holds_there = grind (arith, holds_here, holds_there, known)
    life-holds TakeSubscriber mine yours holds_here holds_there = grind (arith, holds_here, holds_there, known)
    life-holds (Custom values) mine yours holds_here holds_there = grind (arith, holds_here, holds_there, known)

  module _ (new d : Dot) (decision : Decision) (t : Bool) (known : (has here d || has there d) ≡ true) (ours theirs : List Cell) (mine yours : List (List Dot)) (one : Grown cells made key (Live ours) (OfCells mine)) (other : Grown cells made key (Live theirs) (OfCells yours)) where
    four : AreFour ours mine theirs yours
    four = are-four made ours mine theirs yours one.1 other.1 (one.0 ∙ sym other.0)

    merge-holds : (place : Place) → list_any is_both (sides_of (has here) (has there) ours theirs) ≡ false → Has here (OfCells mine) place d t → Has there (OfCells yours) place d t → AfterMerge (case.Merge (sides_of (has here) (has there) ours theirs)) decision new (OfCells mine) (OfCells yours) place d t
    merge-holds (InCell k) none holds_here holds_there =
        cells-hold (has here) (has there) new d decision false (are_long ours theirs) (has here d) (has there d) t known ours mine theirs yours k four (λ is. none)
        (follows-known made there ours mine d one.1 closed_there) (follows-known made here theirs yours d other.1 closed_here) holds_here holds_there
    merge-holds InRow none holds_here holds_there = grind (arith, holds_here, holds_there, known)

    conflict-holds : (place : Place) → Has here (OfCells mine) place d t → Has there (OfCells yours) place d t → AfterMerge (case.Conflict (sides_of (has here) (has there) ours theirs)) decision new (OfCells mine) (OfCells yours) place d t
    conflict-holds (InCell k) holds_here holds_there =
        cells-hold (has here) (has there) new d decision true (are_long ours theirs) (has here d) (has there d) t known ours mine theirs yours k four (λ is. absurd cc)
        (follows-known made there ours mine d one.1 closed_there) (follows-known made here theirs yours d other.1 closed_here) holds_here holds_there
    conflict-holds InRow holds_here holds_there = grind (arith, holds_here, holds_there, known)

    live-holds : (place : Place) (b : Bool) → list_any is_both (sides_of (has here) (has there) ours theirs) ≡ b → Has here (OfCells mine) place d t → Has there (OfCells yours) place d t
        → (let c : Case = if b then case.Conflict (sides_of (has here) (has there) ours theirs) else case.Merge (sides_of (has here) (has there) ours theirs) in AfterMerge c decision new (OfCells mine) (OfCells yours) place d t)
    live-holds place true is holds_here holds_there = conflict-holds place holds_here holds_there
    live-holds place false is holds_here holds_there = merge-holds place is holds_here holds_there

  module _ (new d : Dot) (decision : Decision) (place : Place) (t : Bool) (known : (has here d || has there d) ≡ true) where
    both-hold : (ours theirs : Body) (mine yours : Chains) → Grown cells made key ours mine → Grown cells made key theirs yours → Has here mine place d t → Has there yours place d t
        → AfterMerge (bodies_case (has here) (has there) ours theirs) decision new mine yours place d t
    both-hold (Live ours) (Live theirs) (OfCells mine) (OfCells yours) one other holds_here holds_there =
        live-holds new d decision t known ours theirs mine yours one other place (list_any is_both (sides_of (has here) (has there) ours theirs)) refl holds_here holds_there
    both-hold (Dead x) (Dead y) (OfDead mine) (OfDead yours) one other holds_here holds_there = unite-holds new d decision place t known mine yours holds_here holds_there
    both-hold (Live ours) (Dead y) mine yours one other holds_here holds_there = life-holds new d decision place t known decision mine yours holds_here holds_there
    both-hold (Dead x) (Live theirs) mine yours one other holds_here holds_there = life-holds new d decision place t known decision mine yours holds_here holds_there
    both-hold (Live ours) (Live theirs) (OfDead mine) yours one other holds_here holds_there = absurd one
    both-hold (Live ours) (Live theirs) (OfCells mine) (OfDead yours) one other holds_here holds_there = absurd other
    both-hold (Dead x) (Dead y) (OfCells mine) yours one other holds_here holds_there = absurd one
    both-hold (Dead x) (Dead y) (OfDead mine) (OfCells yours) one other holds_here holds_there = absurd other

    pub case-holds : (a b : Bool) (ours theirs : Body) (mine yours : Chains) → has_news (has there) ours ≡ a → has_news (has here) theirs ≡ b → Grown cells made key ours mine → GrownAlone cells made key theirs yours
        → AllByRecursion (λ (top : Dot). has here top ≡ true) (tops_of ours)
        → ((x : Dot) → is_made_at made key x InRow ≡ true → has there x ≡ true → (descends yours InRow x || (has here x && not (descends mine InRow x))) ≡ true)
        → Has here mine place d t → Has there yours place d t → AfterMerge (news_case a b (bodies_case (has here) (has there) ours theirs)) decision new mine yours place d t
    case-holds false false ours theirs mine yours none none_too one other tops ends holds_here holds_there = nothing-holds new d decision place t known theirs mine yours other none_too holds_here holds_there
    case-holds true false ours theirs mine yours news none one other tops ends holds_here holds_there = nothing-holds new d decision place t known theirs mine yours other none holds_here holds_there
    case-holds false true ours theirs mine yours none news one other tops ends holds_here holds_there = take-holds new d decision place t known ours theirs mine yours one other tops ends none news holds_here holds_there
    case-holds true true ours theirs mine yours news more one other tops ends holds_here holds_there = both-hold ours theirs mine yours one other.0 holds_here holds_there

  -- a delete that is past at the publisher stays so
  abbrev pub Stays : Case → Decision → Dot → Chains → Chains → Dot → Type 0
  Stays c decision new mine yours d = descends mine InRow d ≡ false → descends (chains_by c decision new mine yours) InRow d ≡ false

  module _ (new d : Dot) (deleted : is_made_at made key d InRow ≡ true) (known : has here d ≡ true) where
    live-stays : (decision : Decision) (sides : List Side) (mine yours : Chains) (b : Bool) → (let c : Case = if b then case.Conflict sides else case.Merge sides in Stays c decision new mine yours d)
    live-stays decision sides mine yours true none = refl
    live-stays decision sides mine yours false none = refl

    life-stays : (decision : Decision) (theirs : Body) (mine yours : Chains) → GrownAlone cells made key theirs yours → has_news (has here) theirs ≡ true → Stays case.LifeConflict decision new mine yours d
    life-stays KeepPublisher theirs mine yours other news none = none
    life-stays TakeSubscriber theirs mine yours other news none = news-stays theirs yours d other news deleted known
    life-stays (Custom values) theirs mine yours other news none = none

    unite-stays : (decision : Decision) (top : Dot) (mine yours : List Dot) → GrownAlone cells made key (Dead top) (OfDead yours) → has_news (has here) (Dead top) ≡ true → Stays case.Unite decision new (OfDead mine) (OfDead yours) d
    unite-stays decision top mine yours other news none =
        let no : has yours d ≡ false = news-stays (Dead top) (OfDead yours) d other news deleted known in
        grind (arith, list_any-append (λ (x : Dot). same_dot x d) mine yours, none, no)

    both-stay : (decision : Decision) (ours theirs : Body) (mine yours : Chains) → Grown cells made key ours mine → GrownAlone cells made key theirs yours → has_news (has here) theirs ≡ true → Stays (bodies_case (has here) (has there) ours theirs) decision new mine yours d
    both-stay decision (Live ours) (Live theirs) mine yours one other news none =
        live-stays decision (sides_of (has here) (has there) ours theirs) mine yours (list_any is_both (sides_of (has here) (has there) ours theirs)) none
    both-stay decision (Live ours) (Dead y) mine yours one other news none = life-stays decision (Dead y) mine yours other news none
    both-stay decision (Dead x) (Live theirs) mine yours one other news none = life-stays decision (Live theirs) mine yours other news none
    both-stay decision (Dead x) (Dead y) (OfDead mine) (OfDead yours) one other news none = unite-stays decision y mine yours other news none
    both-stay decision (Dead x) (Dead y) (OfCells mine) yours one other news none = absurd one
    both-stay decision (Dead x) (Dead y) (OfDead mine) (OfCells yours) one other news none = absurd other.0

    pub case-stays : (decision : Decision) (a b : Bool) (ours theirs : Body) (mine yours : Chains) → has_news (has here) theirs ≡ b → Grown cells made key ours mine → GrownAlone cells made key theirs yours
        → Stays (news_case a b (bodies_case (has here) (has there) ours theirs)) decision new mine yours d
    case-stays decision false false ours theirs mine yours is one other none = none
    case-stays decision true false ours theirs mine yours is one other none = none
    case-stays decision false true ours theirs mine yours is one other none = news-stays theirs yours d other is deleted known
    case-stays decision true true ours theirs mine yours is one other none = both-stay decision ours theirs mine yours one other is none

-- The body of the result has its chains.
module _ (cells : ℕ) (made : List MadeChange) (key : Key) (here there : Knowing) (new : Dot) where
  live-grown : (decision : Decision) (long : Bool) (ours theirs : List Cell) (mine yours : List (List Dot)) (b : Bool) → OwnGrown made new decision → Grown cells made key (Live ours) (OfCells mine) → Grown cells made key (Live theirs) (OfCells yours)
      → (let sides : List Side = map (side_of long here there) (zip ours theirs) in let c : Case = if b then case.Conflict sides else case.Merge sides in
      Grown cells made key (case_body new decision c (Live ours) (Live theirs)) (chains_by c decision new (OfCells mine) (OfCells yours)))
  live-grown decision long ours theirs mine yours true own one other =
      let grown = results-grown made new here there long decision (decided decision) ours mine theirs yours own (are-four made ours mine theirs yours one.1 other.1 (one.0 ∙ sym other.0)) one.1 other.1 in
      (grown.0 ∙ one.0, grown.1)
  live-grown decision long ours theirs mine yours false own one other =
      let grown = results-grown made new here there long decision (decided decision) ours mine theirs yours own (are-four made ours mine theirs yours one.1 other.1 (one.0 ∙ sym other.0)) one.1 other.1 in
      (grown.0 ∙ one.0, grown.1)

  life-grown : (decision : Decision) (ours theirs : Body) (mine yours : Chains) → Grown cells made key ours mine → Grown cells made key theirs yours → Grown cells made key (case_body new decision case.LifeConflict ours theirs) (chains_by case.LifeConflict decision new mine yours)
  life-grown KeepPublisher ours theirs mine yours one other = one
  life-grown TakeSubscriber ours theirs mine yours one other = other
  life-grown (Custom values) ours theirs mine yours one other = one

  both-grown : (decision : Decision) (ours theirs : Body) (mine yours : Chains) → OwnGrown made new decision → Grown cells made key ours mine → Grown cells made key theirs yours
      → Grown cells made key (case_body new decision (bodies_case here there ours theirs) ours theirs) (chains_by (bodies_case here there ours theirs) decision new mine yours)
  both-grown decision (Live ours) (Live theirs) (OfCells mine) (OfCells yours) own one other =
      live-grown decision (are_long ours theirs) ours theirs mine yours (list_any is_both (sides_of here there ours theirs)) own one other
  both-grown decision (Live ours) (Dead y) mine yours own one other = life-grown decision (Live ours) (Dead y) mine yours one other
  both-grown decision (Dead x) (Live theirs) mine yours own one other = life-grown decision (Dead x) (Live theirs) mine yours one other
  both-grown decision (Dead x) (Dead y) (OfDead mine) (OfDead yours) own one other = (grind (arith, list_any-append (λ (d : Dot). same_dot d x) mine yours, one.0), one.1)
  both-grown decision (Live ours) (Live theirs) (OfDead mine) yours own one other = absurd one
  both-grown decision (Live ours) (Live theirs) (OfCells mine) (OfDead yours) own one other = absurd other
  both-grown decision (Dead x) (Dead y) (OfCells mine) yours own one other = absurd one
  both-grown decision (Dead x) (Dead y) (OfDead mine) (OfCells yours) own one other = absurd other

  pub case-grown : (decision : Decision) (a b : Bool) (ours theirs : Body) (mine yours : Chains) → OwnGrown made new decision → Grown cells made key ours mine → Grown cells made key theirs yours
      → (let c : Case = news_case a b (bodies_case here there ours theirs) in Grown cells made key (case_body new decision c ours theirs) (chains_by c decision new mine yours))
  case-grown decision false false ours theirs mine yours own one other = one
  case-grown decision true false ours theirs mine yours own one other = one
  case-grown decision false true ours theirs mine yours own one other = other
  case-grown decision true true ours theirs mine yours own one other = both-grown decision ours theirs mine yours own one other
