-- What a version has, and what is news in it.
use Rattle.std.specs.Prelude.{◌≡◌, Bool, true, false, not, List, [], ◌∷◌, length, map, filter, All}
use Rattle.std.specs.List.{list_any}
use Rattle.merge_types.specs.declared.Dot.{Dot}
use Rattle.merge_types.specs.declared.Tracking.{Tracking}
use Rattle.merge_types.specs.declared.Tracking.TheVariants as tracking
use Rattle.merge_lineage.specs.Lineage.{knows}
use Rattle.merge_units.specs.declared.version.Cell.{Cell}
use Rattle.merge_units.specs.declared.version.Body.{Body}
use Rattle.merge_units.specs.declared.version.Body.TheVariants.{Live, Dead}
use Rattle.merge_units.specs.declared.version.Version.{Version}

-- which changes of a row a version knows
abbrev pub Knowing : Type 0
Knowing = Dot → Bool

-- whether the change is not known there
abbrev pub is_new : Knowing → Dot → Bool
is_new there dot = not (there dot)

-- the tops of a body: the change that last set each cell, or the one that deleted the row
abbrev pub tops_of : Body → List Dot
tops_of (Live cells) = map (λ (cell : Cell). cell.top) cells
tops_of (Dead top) = top ∷ []

-- the tops that are not known there
abbrev pub new_tops : Knowing → Body → List Dot
new_tops there body = filter (is_new there) (tops_of body)

-- a version has news where it has such a top
abbrev pub has_news : Knowing → Body → Bool
has_news there body = list_any (is_new there) (tops_of body)

-- the news of x over y, where each knows what its lineage does
abbrev pub has_news_over : Version → Version → Bool
has_news_over x y = has_news (knows y.lineage) x.body

-- each top is known by the version's own lineage
abbrev pub KnowsItsTops : Version → Type 0
KnowsItsTops v = has_news_over v v ≡ false

-- the cells of a live body
abbrev pub cells_of : Body → List Cell
cells_of (Live cells) = cells
cells_of (Dead top) = []

abbrev pub is_live : Body → Bool
is_live (Live cells) = true
is_live (Dead top) = false

-- two live bodies have as many cells
abbrev pub HaveEqualCounts : Body → Body → Type 0
HaveEqualCounts (Live ours) (Live theirs) = length ours ≡ length theirs
HaveEqualCounts _ _ = Unit {0}

-- with row tracking one cell has all values, else each cell has one value
abbrev pub FitsTracking : Tracking → List Cell → Type 0
FitsTracking tracking.Row cells = length cells ≡ 1
FitsTracking tracking.ByColumn cells = All (λ (cell : Cell). length cell.values ≡ 1) cells
