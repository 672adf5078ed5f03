-- What a version that knows all of another is to it.
use Rattle.std.proofs.Common.{◌≡◌, Bool, true, false, List, [], ◌∷◌, if◌then◌else◌, refl, arith}
use Rattle.std.specs.List.{list_any}
use Rattle.std.proofs.lemmas.Bool.Decides.{nat_tests}
use Rattle.merge_types.specs.declared.Dot.{Dot}
use Rattle.merge_lineage.specs.Lineage.{knows, Covers}
use Rattle.merge_lineage.proofs.Covers.{covers_by_knowing}
use Rattle.merge_units.specs.declared.version.Body.{Body}
use Rattle.merge_units.specs.declared.case.Case.{Case}
use Rattle.merge_units.specs.declared.case.Case.TheVariants as case
use Rattle.merge_units.specs.Version.{Knowing, is_new, tops_of, has_news, has_news_over}
use Rattle.merge_units.specs.Cases.{news_case, bodies_case}
use Rattle.merge_units.specs.Laws.{CaseByKnowing, CoveredHasNoNews, EqualIsNothing, CoveredIsNothing, CoveringIsTaken}

none_new : (here there : Knowing) → ((dot : Dot) → here dot ≡ true → there dot ≡ true) → (tops : List Dot) → list_any (is_new here) tops ≡ false → list_any (is_new there) tops ≡ false
none_new here there more [] none = refl
none_new here there more (top ∷ tops) none = grind (arith, nat_tests, more top, none_new here there more tops)

-- what knows more has fewer new tops
pub no_new_top : (here there : List Dot) → Covers there here → (body : Body) → has_news (knows here) body ≡ false → has_news (knows there) body ≡ false
no_new_top here there covers body none = none_new (knows here) (knows there) ((covers_by_knowing there here).0 covers) (tops_of body) none

pub covered_has_no_news : CoveredHasNoNews
covered_has_no_news x y knows_tops covers = no_new_top x.lineage y.lineage covers x.body knows_tops

pub case_by_knowing : CaseByKnowing
case_by_knowing p i = refl

nothing : (ours : Bool) (both : Case) → news_case ours false both ≡ case.Nothing
nothing true both = refl
nothing false both = refl

taken : (theirs : Bool) (both : Case) → news_case false theirs both ≡ (if theirs then case.Take else case.Nothing)
taken true both = refl
taken false both = refl

pub covered_is_nothing : CoveredIsNothing
covered_is_nothing p i knows_tops covers = rw (covered_has_no_news i p knows_tops covers) (nothing (has_news_over p i) (bodies_case (knows p.lineage) (knows i.lineage) p.body i.body))

pub equal_is_nothing : EqualIsNothing
equal_is_nothing v knows_tops = rw knows_tops refl

pub covering_is_taken : CoveringIsTaken
covering_is_taken p i knows_tops covers = rw (covered_has_no_news p i knows_tops covers) (taken (has_news_over i p) (bodies_case (knows p.lineage) (knows i.lineage) p.body i.body))
