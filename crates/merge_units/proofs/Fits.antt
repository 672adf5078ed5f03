-- What a case asks of the bodies follows from the conditions of a call.
use Rattle.std.proofs.Common.{◌≡◌, ◌≤◌, ℕ, zero, suc, min, drop, Bool, true, false, List, [], ◌∷◌, length, if◌then◌else◌, refl, arith}
use Rattle.std.specs.List.{list_any}
use Rattle.std.proofs.lemmas.Slice.Zip.{length-zip}
use Rattle.std.proofs.lemmas.Grind.{common_steps}
use Rattle.merge_lineage.specs.Lineage.{knows}
use Rattle.merge_units.specs.declared.version.Cell.{Cell}
use Rattle.merge_units.specs.declared.version.Body.{Body}
use Rattle.merge_units.specs.declared.version.Body.TheVariants.{Live, Dead}
use Rattle.merge_units.specs.declared.version.Version.{Version}
use Rattle.merge_units.specs.declared.case.Side.{Side}
use Rattle.merge_units.specs.declared.case.Case.TheVariants as case
use Rattle.merge_units.specs.declared.result.Decision.{Decision}
use Rattle.merge_units.specs.declared.result.Decision.TheVariants.{KeepPublisher, TakeSubscriber, Custom}
use Rattle.merge_units.specs.Version.{Knowing, HaveEqualCounts, has_news, has_news_over}
use Rattle.merge_units.specs.Cases.{is_both, live_case, sides_of, bodies_case, news_case, case_by, case_of}
use Rattle.merge_units.specs.Results.{taken_count, FitsDecision, FitsBodies}

-- a side alone takes no values
keep_takes_none : (ss : List Side) (ps : List Cell) → 0 ≡ taken_count KeepPublisher ss ps
keep_takes_none [] ps = refl
keep_takes_none (s ∷ ss) [] = refl
keep_takes_none (s ∷ ss) (p ∷ ps) = grind (arith, keep_takes_none ss ps)

take_takes_none : (ss : List Side) (ps : List Cell) → 0 ≡ taken_count TakeSubscriber ss ps
take_takes_none [] ps = refl
take_takes_none (s ∷ ss) [] = refl
take_takes_none (s ∷ ss) (p ∷ ps) = grind (arith, take_takes_none ss ps)

-- two live versions, by whether a cell conflicts
live : (any : Bool) (ss : List Side) (ps is : List Cell) (d : Decision) → length ss ≡ length ps → length ss ≡ length is
    → FitsDecision (if any then case.Conflict ss else case.Merge ss) (Live ps) d
    → FitsBodies (if any then case.Conflict ss else case.Merge ss) (Live ps) (Live is) d
live true ss ps is (Custom vs) here there fits = record { here = here; there = there; values = fits }
live true ss ps is KeepPublisher here there fits = record { here = here; there = there; values = keep_takes_none ss ps }
live true ss ps is TakeSubscriber here there fits = record { here = here; there = there; values = take_takes_none ss ps }
live false ss ps is (Custom vs) here there fits = absurd fits
live false ss ps is KeepPublisher here there fits = record { here = here; there = there; values = keep_takes_none ss ps }
live false ss ps is TakeSubscriber here there fits = record { here = here; there = there; values = take_takes_none ss ps }

pub length-sides_of : (here there : Knowing) (ps is : List Cell) → length ps ≡ length is → length (sides_of here there ps is) ≡ length ps
length-sides_of here there ps is counts = grind (arith, common_steps, length-zip ps is)

module _ (here there : Knowing) where
  by_bodies : (p i : Body) (d : Decision) → HaveEqualCounts p i → FitsDecision (bodies_case here there p i) p d → FitsBodies (bodies_case here there p i) p i d
  by_bodies (Dead p) (Dead i) d counts fits = tt
  by_bodies (Dead p) (Live is) d counts fits = tt
  by_bodies (Live ps) (Dead i) d counts fits = tt
  by_bodies (Live ps) (Live is) d counts fits =
      let ss = sides_of here there ps is in
      let as_long = length-sides_of here there ps is counts in
      live (list_any is_both ss) ss ps is d as_long (omega arith) fits

  by_news : (ours theirs : Bool) (p i : Body) (d : Decision) → HaveEqualCounts p i
      → FitsDecision (news_case ours theirs (bodies_case here there p i)) p d → FitsBodies (news_case ours theirs (bodies_case here there p i)) p i d
  by_news true true p i d counts fits = by_bodies p i d counts fits
  by_news true false p i d counts fits = tt
  by_news false true p i d counts fits = tt
  by_news false false p i d counts fits = tt

  -- the same for the case by what each knows
  pub fits_case : (p i : Body) (d : Decision) → HaveEqualCounts p i → FitsDecision (case_by here there p i) p d → FitsBodies (case_by here there p i) p i d
  fits_case p i d counts fits = by_news (has_news there p) (has_news here i) p i d counts fits

pub fits_bodies : (p i : Version) (d : Decision) → HaveEqualCounts p.body i.body → FitsDecision (case_of p i) p.body d → FitsBodies (case_of p i) p.body i.body d
fits_bodies p i d counts fits = fits_case (knows p.lineage) (knows i.lineage) p.body i.body d counts fits

-- the case of two live versions that both have news
pub live_case_of : (p i : Version) (ours theirs : List Cell) → p.body ≡ Live ours → i.body ≡ Live theirs → has_news_over p i ≡ true → has_news_over i p ≡ true
    → case_of p i ≡ live_case (sides_of (knows p.lineage) (knows i.lineage) ours theirs)
live_case_of p i ours theirs here there news_here news_there = rw (news_here, news_there, here, there) refl

-- behind the shorter list no cell takes a value
no_cells_take : (d : Decision) (ss : List Side) → taken_count d ss [] ≡ 0
no_cells_take d [] = refl
no_cells_take d (s ∷ ss) = refl

pub none_take_behind : (d : Decision) (ss : List Side) (ps : List Cell) (at : ℕ) → min (length ss) (length ps) ≤ at → taken_count d (drop at ss) (drop at ps) ≡ 0
none_take_behind d [] ps zero le = refl
none_take_behind d [] ps (suc at) le = refl
none_take_behind d (s ∷ ss) [] zero le = refl
none_take_behind d (s ∷ ss) [] (suc at) le = no_cells_take d (drop at ss)
none_take_behind d (s ∷ ss) (p ∷ ps) zero le = absurd (omega arith)
none_take_behind d (s ∷ ss) (p ∷ ps) (suc at) le = none_take_behind d ss ps at (omega arith)
