-- Tops stay known by the version's own lineage.
use Rattle.std.proofs.Common.{◌≡◌, ℕ, ◌+◌, false, List, [], ◌∷◌, map, drop, take, Option, Some, None, refl, arith}
use Rattle.std.specs.List.{enumerate_from}
use Rattle.std.proofs.lemmas.Bool.Decides.{nat_tests}
use Rattle.merge_types.specs.declared.Dot.{Dot}
use Rattle.merge_types.specs.declared.Value.{Value}
use Rattle.merge_types.specs.declared.Setting.{Setting}
use Rattle.merge_types.specs.declared.Tracking.{Tracking}
use Rattle.merge_types.specs.declared.Tracking.TheVariants as tracking
use Rattle.merge_lineage.specs.Lineage.{IsAscending, knows, Covers, with_dot, joined}
use Rattle.merge_lineage.proofs.Joined.{ascending-joined}
use Rattle.merge_lineage.proofs.Covers.{covers_by_knowing, join_covers_both, advance_knows}
use Rattle.merge_units.specs.declared.version.Cell.{Cell}
use Rattle.merge_units.specs.declared.version.Body.{Body}
use Rattle.merge_units.specs.declared.version.Body.TheVariants.{Live, Dead}
use Rattle.merge_units.specs.declared.case.Side.{Side}
use Rattle.merge_units.specs.declared.case.Side.TheVariants as side
use Rattle.merge_units.specs.declared.case.Case.{Case}
use Rattle.merge_units.specs.declared.case.Case.TheVariants as case
use Rattle.merge_units.specs.declared.result.Decision.{Decision}
use Rattle.merge_units.specs.declared.result.Decision.TheVariants.{KeepPublisher, TakeSubscriber, Custom}
use Rattle.merge_units.specs.Version.{Knowing, is_new, has_news, cells_of}
use Rattle.merge_units.specs.Cases.{case_of}
use Rattle.merge_units.specs.Changes.{set_value, new_cell, new_cells, cell_after, cells_after, whole_row_after}
use Rattle.merge_units.specs.Results.{decided, taken, result_cell, result_cells, result_lineage, case_body}
use Rattle.merge_units.specs.Laws.{ResultKnowsItsTops, ChangeKnowsItsTops, InsertKnowsItsTops}
use Rattle.merge_units.proofs.News.{no_new_top}

-- the lineage knows one dot more, and all that it knew
knows_more : (l : List Dot) (dot : Dot) → IsAscending l → Covers (with_dot dot l) l
knows_more l dot ascending = (covers_by_knowing (with_dot dot l) l).1 (λ asked known. grind (arith, nat_tests, (advance_knows l dot asked ascending).1))

dot_known : (l : List Dot) (dot : Dot) → IsAscending l → is_new (knows (with_dot dot l)) dot ≡ false
dot_known l dot ascending = grind (arith, nat_tests, (advance_knows l dot dot ascending).1)

-- the dot of decided values is known
DotKnown : Knowing → Decision → Dot → Type 0
DotKnown l (Custom values) dot = is_new l dot ≡ false
DotKnown l KeepPublisher dot = Unit {0}
DotKnown l TakeSubscriber dot = Unit {0}

module _ (l : Knowing) (dot : Dot) where
  known_cell : (d : Decision) (values : List Value) (s : Side) (p i : Cell) → DotKnown l d dot → is_new l p.top ≡ false → is_new l i.top ≡ false → is_new l (result_cell dot d values s p i).top ≡ false
  unfolding DotKnown
  known_cell KeepPublisher values side.Neither p i dot_is ours theirs = ours
  known_cell KeepPublisher values side.Publisher p i dot_is ours theirs = ours
  known_cell KeepPublisher values side.Incoming p i dot_is ours theirs = theirs
  known_cell KeepPublisher values side.Both p i dot_is ours theirs = ours
  known_cell TakeSubscriber values side.Neither p i dot_is ours theirs = ours
  known_cell TakeSubscriber values side.Publisher p i dot_is ours theirs = ours
  known_cell TakeSubscriber values side.Incoming p i dot_is ours theirs = theirs
  known_cell TakeSubscriber values side.Both p i dot_is ours theirs = theirs
  known_cell (Custom vs) values side.Neither p i dot_is ours theirs = ours
  known_cell (Custom vs) values side.Publisher p i dot_is ours theirs = ours
  known_cell (Custom vs) values side.Incoming p i dot_is ours theirs = theirs
  known_cell (Custom vs) values side.Both p i dot_is ours theirs = dot_is

  known_cells : (d : Decision) (values : List Value) (ss : List Side) (ps is : List Cell) → DotKnown l d dot
      → has_news l (Live ps) ≡ false → has_news l (Live is) ≡ false
      → has_news l (Live (result_cells dot d values ss ps is)) ≡ false
  known_cells d values [] ps is dot_is ours theirs = refl
  known_cells d values (s ∷ ss) [] is dot_is ours theirs = refl
  known_cells d values (s ∷ ss) (p ∷ ps) [] dot_is ours theirs = refl
  known_cells d values (s ∷ ss) (p ∷ ps) (i ∷ is) dot_is ours theirs =
      let first = known_cell d (take (taken d s p) values) s p i dot_is (grind arith) (grind arith) in
      let rest = known_cells d (drop (taken d s p) values) ss ps is dot_is (grind arith) (grind arith) in
      grind arith

  known_live : (d : Decision) (ss : List Side) (p i : Body) → DotKnown l d dot → has_news l p ≡ false → has_news l i ≡ false
      → has_news l (Live (result_cells dot d (decided d) ss (cells_of p) (cells_of i))) ≡ false
  known_live d ss (Live ps) (Live is) dot_is ours theirs = known_cells d (decided d) ss ps is dot_is ours theirs
  known_live d ss (Live ps) (Dead i) dot_is ours theirs = known_cells d (decided d) ss ps [] dot_is ours refl
  known_live d ss (Dead p) (Live is) dot_is ours theirs = known_cells d (decided d) ss [] is dot_is refl theirs
  known_live d ss (Dead p) (Dead i) dot_is ours theirs = known_cells d (decided d) ss [] [] dot_is refl refl

  known_body : (d : Decision) (c : Case) (p i : Body) → DotKnown l d dot → has_news l p ≡ false → has_news l i ≡ false → has_news l (case_body dot d c p i) ≡ false
  known_body d case.Nothing p i dot_is ours theirs = ours
  known_body d case.Take p i dot_is ours theirs = theirs
  known_body d case.Unite p i dot_is ours theirs = ours
  known_body d (case.Merge ss) p i dot_is ours theirs = known_live d ss p i dot_is ours theirs
  known_body d (case.Conflict ss) p i dot_is ours theirs = known_live d ss p i dot_is ours theirs
  known_body KeepPublisher case.LifeConflict p i dot_is ours theirs = ours
  known_body TakeSubscriber case.LifeConflict p i dot_is ours theirs = theirs
  known_body (Custom vs) case.LifeConflict p i dot_is ours theirs = ours

covers_here : (here there : List Dot) → IsAscending here → IsAscending there → (d : Decision) (dot : Dot) → Covers (result_lineage here there d dot) here
covers_here here there a b KeepPublisher dot = (join_covers_both here there a b).0
covers_here here there a b TakeSubscriber dot = (join_covers_both here there a b).0
covers_here here there a b (Custom vs) dot = λ site. omega (arith, (join_covers_both here there a b).0 site, knows_more (joined here there) dot (ascending-joined here there a b) site)

covers_there : (here there : List Dot) → IsAscending here → IsAscending there → (d : Decision) (dot : Dot) → Covers (result_lineage here there d dot) there
covers_there here there a b KeepPublisher dot = (join_covers_both here there a b).1
covers_there here there a b TakeSubscriber dot = (join_covers_both here there a b).1
covers_there here there a b (Custom vs) dot = λ site. omega (arith, (join_covers_both here there a b).1 site, knows_more (joined here there) dot (ascending-joined here there a b) site)

dot_is_known : (here there : List Dot) → IsAscending here → IsAscending there → (d : Decision) (dot : Dot) → DotKnown (knows (result_lineage here there d dot)) d dot
unfolding DotKnown
dot_is_known here there a b KeepPublisher dot = tt
dot_is_known here there a b TakeSubscriber dot = tt
dot_is_known here there a b (Custom vs) dot = dot_known (joined here there) dot (ascending-joined here there a b)

pub result_knows_its_tops : ResultKnowsItsTops
result_knows_its_tops p i d dot a b ours theirs =
    let l = result_lineage p.lineage i.lineage d dot in
    known_body (knows l) dot d (case_of p i) p.body i.body (dot_is_known p.lineage i.lineage a b d dot)
    (no_new_top p.lineage l (covers_here p.lineage i.lineage a b d dot) p.body ours)
    (no_new_top i.lineage l (covers_there p.lineage i.lineage a b d dot) i.body theirs)

-- after an update each top is the change or an old one
module _ (l : Knowing) (dot : Dot) (dot_is : is_new l dot ≡ false) (edits : List Setting) where
  known_row : (cells : List Cell) → has_news l (Live (map (whole_row_after dot edits) cells)) ≡ false
  known_row [] = refl
  known_row (x ∷ xs) = let rest = known_row xs in grind arith

  known_new : (o : Option Value) (cell : Cell) → is_new l cell.top ≡ false → is_new l (new_cell dot o cell).top ≡ false
  known_new None cell old = old
  known_new (Some value) cell old = dot_is

  known_columns : (n : ℕ) (cells : List Cell) → has_news l (Live cells) ≡ false
      → has_news l (Live (map (cell_after dot edits) (enumerate_from n cells))) ≡ false
  known_columns n [] old = refl
  known_columns n (x ∷ xs) old =
      let first = known_new (set_value edits n) x (grind arith) in
      let rest = known_columns (n + 1) xs (grind arith) in
      grind arith

  known_after : (tracking : Tracking) (cells : List Cell) → has_news l (Live cells) ≡ false → has_news l (Live (cells_after tracking dot edits cells)) ≡ false
  known_after tracking.Row cells old = known_row cells
  known_after tracking.ByColumn cells old = known_columns 0 cells old

no_new_cell : (l : Knowing) (body : Body) → has_news l body ≡ false → has_news l (Live (cells_of body)) ≡ false
no_new_cell l (Live cells) none = none
no_new_cell l (Dead top) none = refl

pub change_knows_its_tops : ChangeKnowsItsTops
change_knows_its_tops v dot edits tracking ascending old =
    let l = with_dot dot v.lineage in
    let dot_is = dot_known v.lineage dot ascending in
    let kept = no_new_top v.lineage l (knows_more v.lineage dot ascending) v.body old in
    (known_after (knows l) dot dot_is edits tracking (cells_of v.body) (no_new_cell (knows l) v.body kept), rw dot_is refl)

-- each top of a new row is the change that makes it
known_columns_of : (l : Knowing) (dot : Dot) → is_new l dot ≡ false → (values : List Value) → has_news l (Live (new_cells tracking.ByColumn dot values)) ≡ false
known_columns_of l dot dot_is [] = refl
known_columns_of l dot dot_is (value ∷ values) = let rest = known_columns_of l dot dot_is values in grind arith

pub insert_knows_its_tops : InsertKnowsItsTops
insert_knows_its_tops dot values tracking.Row = grind (arith, nat_tests)
insert_knows_its_tops dot values tracking.ByColumn = known_columns_of (knows (dot ∷ [])) dot (grind (arith, nat_tests)) values
