-- What an incoming version of a row is to the publisher's.
use Rattle.std.specs.Prelude.{ℕ, Bool, true, false, List, map, sum_by, max, if◌then◌else◌, nat_lt}
use Rattle.std.specs.List.{list_any, zip}
use Rattle.merge_types.specs.Limits.{united_limit}
use Rattle.merge_lineage.specs.Lineage.{knows}
use Rattle.merge_units.specs.declared.version.Cell.{Cell}
use Rattle.merge_units.specs.declared.version.Body.{Body}
use Rattle.merge_units.specs.declared.version.Body.TheVariants.{Live, Dead}
use Rattle.merge_units.specs.declared.version.Version.{Version}
use Rattle.merge_units.specs.declared.case.Side.{Side}
use Rattle.merge_units.specs.declared.case.Side.TheVariants as side
use Rattle.merge_units.specs.declared.case.Case.{Case}
use Rattle.merge_units.specs.declared.case.Case.TheVariants as case
use Rattle.merge_units.specs.Length.{cell_weight}
use Rattle.merge_units.specs.Version.{Knowing, is_new, has_news}

-- how much the cells weigh where each is as heavy as the heavier of both
abbrev pub united_weight : List (Cell × Cell) → ℕ
united_weight pairs = sum_by (λ (pair : Cell × Cell). max (cell_weight pair.0) (cell_weight pair.1)) pairs

-- whether two live versions are long together
abbrev pub are_long : List Cell → List Cell → Bool
are_long ours theirs = nat_lt united_limit (united_weight (zip ours theirs))

-- the side of a cell by where it is new. Where the two versions are long together every cell conflicts, new or not
unfoldable pub side_by : Bool → Bool → Bool → Side
side_by true new_here new_there = side.Both
side_by false true true = side.Both
side_by false true false = side.Publisher
side_by false false true = side.Incoming
side_by false false false = side.Neither

-- the side of a pair of cells: new on a side is what the other side does not know
abbrev pub side_of : Bool → Knowing → Knowing → Cell × Cell → Side
side_of long here there pair = side_by long (is_new there pair.0.top) (is_new here pair.1.top)

-- the side of each cell of two live versions, by what the publisher's knows and what the incoming one knows
abbrev pub sides_of : Knowing → Knowing → List Cell → List Cell → List Side
sides_of here there ours theirs = map (side_of (are_long ours theirs) here there) (zip ours theirs)

-- whether a cell conflicts
abbrev pub is_both : Side → Bool
is_both side.Both = true
is_both _ = false

-- two live versions, both with news
abbrev pub live_case : List Side → Case
live_case sides = if list_any is_both sides then case.Conflict sides else case.Merge sides

-- two versions, both with news
abbrev pub bodies_case : Knowing → Knowing → Body → Body → Case
bodies_case here there (Dead ours) (Dead theirs) = case.Unite
bodies_case here there (Live ours) (Live theirs) = live_case (sides_of here there ours theirs)
bodies_case here there _ _ = case.LifeConflict

-- by whether the publisher's version has news, and whether the incoming one has
abbrev pub news_case : Bool → Bool → Case → Case
news_case _ false both = case.Nothing
news_case false true both = case.Take
news_case true true both = both

-- the case, by what the publisher's version knows and what the incoming one knows
abbrev pub case_by : Knowing → Knowing → Body → Body → Case
case_by here there ours theirs = news_case (has_news there ours) (has_news here theirs) (bodies_case here there ours theirs)

-- where each knows what its lineage does
abbrev pub case_of : Version → Version → Case
case_of p i = case_by (knows p.lineage) (knows i.lineage) p.body i.body

-- whether a case asks for a decision
abbrev pub is_conflict : Case → Bool
is_conflict (case.Conflict sides) = true
is_conflict case.LifeConflict = true
is_conflict _ = false

-- the sides that a case names
abbrev pub names_sides : Case → Bool
names_sides (case.Merge sides) = true
names_sides (case.Conflict sides) = true
names_sides _ = false
