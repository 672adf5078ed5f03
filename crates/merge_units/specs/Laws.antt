-- What holds of every merge.
use Rattle.std.specs.Prelude.{◌≡◌, ℕ, ◌<◌, ◌≤◌, true, false, List, [], ◌∷◌, ◌++◌, length, map, slice_index_or, if◌then◌else◌}
use Rattle.merge_types.specs.Limits.{row_limit}
use Rattle.merge_types.specs.declared.Dot.{Dot}
use Rattle.merge_types.specs.declared.Value.{Value}
use Rattle.merge_types.specs.declared.Setting.{Setting}
use Rattle.merge_types.specs.declared.Tracking.{Tracking}
use Rattle.merge_lineage.specs.Lineage.{IsAscending, knows, Covers}
use Rattle.merge_units.specs.declared.version.Cell.{Cell}
use Rattle.merge_units.specs.declared.version.Body.{Body}
use Rattle.merge_units.specs.declared.version.Body.TheVariants.{Live, Dead}
use Rattle.merge_units.specs.declared.version.Version.{Version}
use Rattle.merge_units.specs.declared.case.Side.{Side}
use Rattle.merge_units.specs.declared.case.Side.TheVariants as side
use Rattle.merge_units.specs.declared.case.Case.TheVariants as case
use Rattle.merge_units.specs.declared.result.Decision.{Decision}
use Rattle.merge_units.specs.declared.result.Decision.TheVariants.{KeepPublisher, TakeSubscriber, Custom}
use Rattle.merge_units.specs.Length.{stored_length, value_count}
use Rattle.merge_units.specs.Version.{has_news_over, KnowsItsTops, cells_of, HaveEqualCounts, FitsTracking}
use Rattle.merge_units.specs.Cases.{are_long, side_of, is_both, case_of, case_by}
use Rattle.merge_units.specs.Results.{result_of, FitsDecision}
use Rattle.merge_units.specs.Changes.{changed, removed, new_row}

-- the case by lineages is that by what each version knows, which is what its lineage does
abbrev pub CaseByKnowing : Type 0
CaseByKnowing = (p i : Version) → case_of p i ≡ case_by (knows p.lineage) (knows i.lineage) p.body i.body

-- a version has no news over one that knows all that it knows
abbrev pub CoveredHasNoNews : Type 0
CoveredHasNoNews = (x y : Version) → KnowsItsTops x → Covers y.lineage x.lineage → has_news_over x y ≡ false

-- so an equal version brings nothing
abbrev pub EqualIsNothing : Type 0
EqualIsNothing = (v : Version) → KnowsItsTops v → case_of v v ≡ case.Nothing

-- nor does one whose changes the publisher knows
abbrev pub CoveredIsNothing : Type 0
CoveredIsNothing = (p i : Version) → KnowsItsTops i → Covers p.lineage i.lineage → case_of p i ≡ case.Nothing

-- and one that knows all of the publisher's is taken, where it has news
abbrev pub CoveringIsTaken : Type 0
CoveringIsTaken = (p i : Version) → KnowsItsTops p → Covers i.lineage p.lineage → case_of p i ≡ (if has_news_over i p then case.Take else case.Nothing)

-- a cell is the winner's where it conflicts, that of the side where it is new alone, and else the publisher's
abbrev pub IsCellBy : Dot → Decision → Side → Cell → Cell → Cell → Type 0
IsCellBy dot decision side.Neither ours theirs cell = cell ≡ ours
IsCellBy dot decision side.Publisher ours theirs cell = cell ≡ ours
IsCellBy dot decision side.Incoming ours theirs cell = cell ≡ theirs
IsCellBy dot KeepPublisher side.Both ours theirs cell = cell ≡ ours
IsCellBy dot TakeSubscriber side.Both ours theirs cell = cell ≡ theirs
IsCellBy dot (Custom values) side.Both ours theirs cell = (cell.top ≡ dot) × (length cell.values ≡ length ours.values)

-- two live versions with these cells, both with news
pub record AreApart (p i : Version) (ours theirs : List Cell) : Type 0 where
  pub here : p.body ≡ Live ours
  pub there : i.body ≡ Live theirs
  pub news_here : has_news_over p i ≡ true
  pub news_there : has_news_over i p ≡ true

-- each cell of their merge is by its side
pub record MergesBySide (p i : Version) (decision : Decision) (dot : Dot) (ours theirs merged : List Cell) : Type 0 where
  pub counts : length merged ≡ length ours
  pub cells : (k : ℕ) (d : Cell) → k < length ours
      → IsCellBy dot decision (side_of (are_long ours theirs) (knows p.lineage) (knows i.lineage) (slice_index_or ours k d, slice_index_or theirs k d)) (slice_index_or ours k d) (slice_index_or theirs k d) (slice_index_or merged k d)

abbrev pub CellsBySide : Type 0
CellsBySide = (p i : Version) (decision : Decision) (dot : Dot) (ours theirs : List Cell) → AreApart p i ours theirs → length ours ≡ length theirs
    → FitsDecision (case_of p i) p.body decision → MergesBySide p i decision dot ours theirs (cells_of (result_of p i decision dot).body)

-- the values of the conflicting cells, put end to end
abbrev pub conflicting_values : List Side → List Cell → List Value
conflicting_values [] cells = []
conflicting_values (s ∷ ss) [] = []
conflicting_values (s ∷ ss) (cell ∷ cells) = (if is_both s then cell.values else []) ++ conflicting_values ss cells

-- after a custom decision these are the decided ones
abbrev pub DecidedValuesStand : Type 0
DecidedValuesStand = (p i : Version) (sides : List Side) (values : List Value) (dot : Dot) → HaveEqualCounts p.body i.body → case_of p i ≡ case.Conflict sides
    → FitsDecision (case_of p i) p.body (Custom values) → conflicting_values sides (cells_of (result_of p i (Custom values) dot).body) ≡ values

-- where both live, each cell has as many values on both sides
abbrev pub HaveSameShape : Body → Body → Type 0
HaveSameShape (Live ours) (Live theirs) = map (λ (cell : Cell). length cell.values) ours ≡ map (λ (cell : Cell). length cell.values) theirs
HaveSameShape _ _ = Unit {0}

-- one of the two sides wins
abbrev pub PicksSide : Decision → Type 0
PicksSide (Custom values) = ⊥
PicksSide _ = Unit {0}

-- no row of at most 64 columns passes the limit by a merge
abbrev pub RowsStayInLimit : Type 0
RowsStayInLimit = (p i : Version) (decision : Decision) (dot : Dot) → PicksSide decision → HaveSameShape p.body i.body → value_count (cells_of p.body) ≤ 64
    → stored_length (cells_of p.body) ≤ row_limit → stored_length (cells_of i.body) ≤ row_limit → stored_length (cells_of (result_of p i decision dot).body) ≤ row_limit

-- where tops are known by their own lineage, so are those of a result
abbrev pub ResultKnowsItsTops : Type 0
ResultKnowsItsTops = (p i : Version) (decision : Decision) (dot : Dot) → IsAscending p.lineage → IsAscending i.lineage → KnowsItsTops p → KnowsItsTops i → KnowsItsTops (result_of p i decision dot)

-- and those of a local change
abbrev pub ChangeKnowsItsTops : Type 0
ChangeKnowsItsTops = (v : Version) (dot : Dot) (edits : List Setting) (tracking : Tracking) → IsAscending v.lineage → KnowsItsTops v → KnowsItsTops (changed v dot edits tracking) × KnowsItsTops (removed v dot)

-- a new row knows its tops
abbrev pub InsertKnowsItsTops : Type 0
InsertKnowsItsTops = (dot : Dot) (values : List Value) (tracking : Tracking) → KnowsItsTops (new_row dot values tracking)

-- whether the body can be that of a row with this tracking
abbrev pub FitsBody : Tracking → Body → Type 0
FitsBody tracking (Live cells) = FitsTracking tracking cells
FitsBody tracking (Dead top) = Unit {0}

-- a result fits the tracking that both sides fit
abbrev pub ResultFits : Type 0
ResultFits = (tracking : Tracking) (p i : Version) (decision : Decision) (dot : Dot) → HaveEqualCounts p.body i.body → FitsDecision (case_of p i) p.body decision
    → FitsBody tracking p.body → FitsBody tracking i.body → FitsBody tracking (result_of p i decision dot).body

-- and a local change keeps it
abbrev pub ChangeFits : Type 0
ChangeFits = (tracking : Tracking) (v : Version) (dot : Dot) (edits : List Setting) → FitsTracking tracking (cells_of v.body) → FitsTracking tracking (cells_of (changed v dot edits tracking).body)

-- a new row fits its tracking
abbrev pub InsertFits : Type 0
InsertFits = (tracking : Tracking) (dot : Dot) (values : List Value) → FitsTracking tracking (cells_of (new_row dot values tracking).body)
