-- What the lineage and the tops of a version tell of what is known, after a change and after a merge.
use Rattle.std.specs.Prelude.{◌≡◌, ◌+◌, ◌++◌, ℕ, List, [], ◌∷◌, true, Option, Some, None, take, drop, map}
use Rattle.std.specs.List.{AllByRecursion, enumerate_from}
use Rattle.std.proofs.Common.{arith}
use Rattle.std.proofs.lemmas.List.Folds.{list_any-append}
use Rattle.merge_types.specs.declared.changes.Change.{Change}
use Rattle.merge_types.specs.declared.changes.Change.TheVariants.{Delete, Insert, Update}
use Rattle.merge_types.specs.declared.changes.Setting.{Setting}
use Rattle.merge_types.specs.declared.changes.Tracking.{Tracking}
use Rattle.merge_types.specs.declared.changes.Tracking.TheVariants as tracking
use Rattle.merge_types.specs.declared.identifiers.Dot.{Dot}
use Rattle.merge_types.specs.declared.values.Value.{Value}
use Rattle.merge_lineage.specs.Lineage.{IsAscending, joined}
use Rattle.merge_lineage.proofs.Joined.{ascending-joined}
use Rattle.merge_lineage.proofs.Rising.{ascending_with_dot}
use Rattle.merge_units.specs.Changes.{cell_after, cells_after, changed, new_cell, removed, set_value, whole_row_after}
use Rattle.merge_units.specs.Results.{case_body, decided, result_cell, result_cells, taken}
use Rattle.merge_units.specs.Version.{cells_of}
use Rattle.merge_units.specs.declared.case.Case.{Case}
use Rattle.merge_units.specs.declared.case.Case.TheVariants as case
use Rattle.merge_units.specs.declared.case.Side.{Side}
use Rattle.merge_units.specs.declared.case.Side.TheVariants as side
use Rattle.merge_units.specs.declared.result.Decision.{Decision}
use Rattle.merge_units.specs.declared.result.Decision.TheVariants.{Custom, KeepPublisher, TakeSubscriber}
use Rattle.merge_units.specs.declared.version.Body.{Body}
use Rattle.merge_units.specs.declared.version.Body.TheVariants.{Dead, Live}
use Rattle.merge_units.specs.declared.version.Cell.{Cell}
use Rattle.merge_units.specs.declared.version.Version.{Version}
use Rattle.merge_schema.specs.declared.publication.Publication.{Publication}
use Rattle.merge_units.specs.Results.{result_by}
use Rattle.merge_units.specs.Version.{tops_of}
use Rattle.merge_units.specs.Changes.{new_cells}
use Rattle.merge_units.specs.Changes.{new_row}
use Rattle.merge_model.specs.Tables.Changes.{new_values, version_after}
use Rattle.merge_model.specs.History.{Past, has}
use Rattle.merge_model.specs.History.Pasts.{past_after, past_by}
use Rattle.merge_model.specs.Tables.Publications.{tracking_at}
use Rattle.merge_laws.specs.Facts.Knowledge.{same_dot}
use Rattle.merge_laws.specs.Facts.Standing.{HeldTold, Tells, Told}
use Rattle.merge_model.proofs.Lists.Finding.{all-weaker}
use Rattle.merge_laws.proofs.Lineages.LineagesTold.{tells-change, tells-merge}
use Rattle.merge_laws.proofs.Pasts.DotTests.{dot-first}

-- what holds of the tops of cells
module _ (Q : Dot → Type 0) where
  abbrev TopsHold : List Cell → Type 0
  TopsHold cells = AllByRecursion Q (map (λ (cell : Cell). cell.top) cells)

  -- Changes.

  pub new-tops : (tracking : Tracking) (dot : Dot) (values : List Value) → Q dot → TopsHold (new_cells tracking dot values)
  new-tops tracking.Row dot values own = (own, tt)
  new-tops tracking.ByColumn dot [] own = tt
  new-tops tracking.ByColumn dot (value ∷ values) own = (own, new-tops tracking.ByColumn dot values own)

  cell-top : (dot : Dot) (set : Option Value) (cell : Cell) → Q dot → Q cell.top → Q (new_cell dot set cell).top
  cell-top dot None cell own held = held
  cell-top dot (Some value) cell own held = own

  row-tops : (dot : Dot) (edits : List Setting) (cells : List Cell) → Q dot → TopsHold (map (whole_row_after dot edits) cells)
  row-tops dot edits [] own = tt
  row-tops dot edits (cell ∷ cells) own = (own, row-tops dot edits cells own)

  column-tops : (dot : Dot) (edits : List Setting) (place : ℕ) (cells : List Cell) → Q dot → TopsHold cells → TopsHold (map (cell_after dot edits) (enumerate_from place cells))
  column-tops dot edits place [] own held = tt
  column-tops dot edits place (cell ∷ cells) own held = (cell-top dot (set_value edits place) cell own held.0, column-tops dot edits (place + 1) cells own held.1)

  pub changed-tops : (tracking : Tracking) (dot : Dot) (edits : List Setting) (cells : List Cell) → Q dot → TopsHold cells → TopsHold (cells_after tracking dot edits cells)
  changed-tops tracking.Row dot edits cells own held = row-tops dot edits cells own
  changed-tops tracking.ByColumn dot edits cells own held = column-tops dot edits 0 cells own held

  pub cells-tops : (body : Body) → AllByRecursion Q (tops_of body) → TopsHold (cells_of body)
  cells-tops (Live cells) held = held
  cells-tops (Dead top) held = tt

  -- Merges.

  abbrev pub OwnHolds : Decision → Dot → Type 0
  OwnHolds (Custom values) dot = Q dot
  OwnHolds decision dot = Unit {0}

  result-top : (dot : Dot) (decision : Decision) (values : List Value) (s : Side) (ours theirs : Cell) → OwnHolds decision dot → Q ours.top → Q theirs.top → Q (result_cell dot decision values s ours theirs).top
  result-top dot decision values side.Incoming ours theirs own one other = other
  result-top dot TakeSubscriber values side.Both ours theirs own one other = other
  result-top dot (Custom more) values side.Both ours theirs own one other = own
  result-top dot KeepPublisher values side.Both ours theirs own one other = one
  result-top dot KeepPublisher values side.Publisher ours theirs own one other = one
  result-top dot TakeSubscriber values side.Publisher ours theirs own one other = one
  result-top dot (Custom more) values side.Publisher ours theirs own one other = one
  result-top dot KeepPublisher values side.Neither ours theirs own one other = one
  result-top dot TakeSubscriber values side.Neither ours theirs own one other = one
  result-top dot (Custom more) values side.Neither ours theirs own one other = one

  result-tops : (dot : Dot) (decision : Decision) (values : List Value) (sides : List Side) (ours theirs : List Cell) → OwnHolds decision dot → TopsHold ours → TopsHold theirs → TopsHold (result_cells dot decision values sides ours theirs)
  result-tops dot decision values [] ours theirs own one other = tt
  result-tops dot decision values (s ∷ sides) [] theirs own one other = tt
  result-tops dot decision values (s ∷ sides) (p ∷ ours) [] own one other = tt
  result-tops dot decision values (s ∷ sides) (p ∷ ours) (i ∷ theirs) own one other = (
    result-top dot decision (take (taken decision s p) values) s p i own one.0 other.0,
    result-tops dot decision (drop (taken decision s p) values) sides ours theirs own one.1 other.1,
  )

  pub body-tops : (dot : Dot) (decision : Decision) (c : Case) (ours theirs : Body) → OwnHolds decision dot → AllByRecursion Q (tops_of ours) → AllByRecursion Q (tops_of theirs) → AllByRecursion Q (tops_of (case_body dot decision c ours theirs))
  body-tops dot decision case.Nothing ours theirs own one other = one
  body-tops dot decision case.Unite ours theirs own one other = one
  body-tops dot decision case.Take ours theirs own one other = other
  body-tops dot decision (case.Merge sides) ours theirs own one other = result-tops dot decision (decided decision) sides (cells_of ours) (cells_of theirs) own (cells-tops ours one) (cells-tops theirs other)
  body-tops dot decision (case.Conflict sides) ours theirs own one other = result-tops dot decision (decided decision) sides (cells_of ours) (cells_of theirs) own (cells-tops ours one) (cells-tops theirs other)
  body-tops dot KeepPublisher case.LifeConflict ours theirs own one other = one
  body-tops dot TakeSubscriber case.LifeConflict ours theirs own one other = other
  body-tops dot (Custom values) case.LifeConflict ours theirs own one other = one

-- Versions.

more-known : (dot : Dot) (known : List Dot) (tops : List Dot) → AllByRecursion (λ (top : Dot). has known top ≡ true) tops → AllByRecursion (λ (top : Dot). has (dot ∷ known) top ≡ true) tops
more-known dot known tops all = all-weaker (λ (top : Dot). has known top ≡ true) (λ (top : Dot). has (dot ∷ known) top ≡ true) (λ top is. grind (arith, is)) tops all

tells-nothing : Tells [] []
tells-nothing = record { reached = λ dot at. absurd cc; below = λ dot is. absurd cc }

told-new : (publication : Publication) (article : ℕ) (dot : Dot) (identity : Value) (settings : List Setting) → Told (new_row dot (new_values publication article identity settings) (tracking_at publication article)) (dot ∷ [])
told-new publication article dot identity settings = record {
  ascending = ascending_with_dot [] (λ i j d before within. absurd (omega arith)) dot;
  tells = tells-change [] [] dot (λ i j d before within. absurd (omega arith)) tells-nothing;
  tops = new-tops (λ (top : Dot). has (dot ∷ []) top ≡ true) (tracking_at publication article) dot (new_values publication article identity settings) (dot-first dot []);
}

told-changed : (version : Version) (known : List Dot) (dot : Dot) (settings : List Setting) (tracking : Tracking) → Told version known → Told (changed version dot settings tracking) (dot ∷ known)
told-changed version known dot settings tracking t = record {
  ascending = ascending_with_dot version.lineage t.ascending dot;
  tells = tells-change version.lineage known dot t.ascending t.tells;
  tops = changed-tops (λ (top : Dot). has (dot ∷ known) top ≡ true) tracking dot settings (cells_of version.body) (dot-first dot known)
      (cells-tops (λ (top : Dot). has (dot ∷ known) top ≡ true) version.body (more-known dot known (tops_of version.body) t.tops));
}

told-removed : (version : Version) (known : List Dot) (dot : Dot) → Told version known → Told (removed version dot) (dot ∷ known)
told-removed version known dot t = record {
  ascending = ascending_with_dot version.lineage t.ascending dot;
  tells = tells-change version.lineage known dot t.ascending t.tells;
  tops = (dot-first dot known, tt);
}

-- a local change
pub told-after : (publication : Publication) (dot : Dot) (identity : Value) (change : Change) (held : Option Version) (past : Past) → HeldTold held past.known
    → HeldTold (version_after publication dot identity change held) (past_after publication dot change past).known
told-after publication dot identity (Insert article values) held past t = told-new publication article dot identity values
told-after publication dot identity (Update article row values) None past t = tt
told-after publication dot identity (Update article row values) (Some version) past t = told-changed version past.known dot values (tracking_at publication article) t
told-after publication dot identity (Delete article row) None past t = tt
told-after publication dot identity (Delete article row) (Some version) past t = told-removed version past.known dot t

-- a merge
left-known : (a b : List Dot) (tops : List Dot) → AllByRecursion (λ (top : Dot). has a top ≡ true) tops → AllByRecursion (λ (top : Dot). has (a ++ b) top ≡ true) tops
left-known a b tops all = all-weaker (λ (top : Dot). has a top ≡ true) (λ (top : Dot). has (a ++ b) top ≡ true) (λ top is. grind (arith, list_any-append (λ (x : Dot). same_dot x top) a b, is)) tops all

right-known : (a b : List Dot) (tops : List Dot) → AllByRecursion (λ (top : Dot). has b top ≡ true) tops → AllByRecursion (λ (top : Dot). has (a ++ b) top ≡ true) tops
right-known a b tops all = all-weaker (λ (top : Dot). has b top ≡ true) (λ (top : Dot). has (a ++ b) top ≡ true) (λ top is. grind (arith, list_any-append (λ (x : Dot). same_dot x top) a b, is)) tops all

module _ (c : Case) (ours theirs : Version) (dot : Dot) (one other : Past) (t : Told ours one.known) (u : Told theirs other.known) where
  abbrev both : List Dot
  both = one.known ++ other.known

  ascends : IsAscending (joined ours.lineage theirs.lineage)
  ascends = ascending-joined ours.lineage theirs.lineage t.ascending u.ascending

  tells : Tells (joined ours.lineage theirs.lineage) both
  tells = tells-merge ours.lineage theirs.lineage one.known other.known t.ascending u.ascending t.tells u.tells

  mine : AllByRecursion (λ (top : Dot). has both top ≡ true) (tops_of ours.body)
  mine = left-known one.known other.known (tops_of ours.body) t.tops

  yours : AllByRecursion (λ (top : Dot). has both top ≡ true) (tops_of theirs.body)
  yours = right-known one.known other.known (tops_of theirs.body) u.tops

  pub told-merged : (decision : Decision) → Told (result_by c ours theirs decision dot) (past_by c decision dot one other).known
  told-merged KeepPublisher = record { ascending = ascends; tells = tells; tops = body-tops (λ (top : Dot). has both top ≡ true) dot KeepPublisher c ours.body theirs.body tt mine yours }
  told-merged TakeSubscriber = record { ascending = ascends; tells = tells; tops = body-tops (λ (top : Dot). has both top ≡ true) dot TakeSubscriber c ours.body theirs.body tt mine yours }
  told-merged (Custom values) = record {
    ascending = ascending_with_dot (joined ours.lineage theirs.lineage) ascends dot;
    tells = tells-change (joined ours.lineage theirs.lineage) both dot ascends tells;
    tops = body-tops (λ (top : Dot). has (dot ∷ both) top ≡ true) dot (Custom values) c ours.body theirs.body (dot-first dot both)
        (more-known dot both (tops_of ours.body) mine) (more-known dot both (tops_of theirs.body) yours);
  }
