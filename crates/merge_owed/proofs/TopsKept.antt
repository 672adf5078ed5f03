-- Tops are in their chains: changes and merges keep this, so every list of events does.
use Rattle.std.specs.List.{AllByRecursion, AllZip, enumerate_from, list_any, range_with_len, zip}
use Rattle.std.specs.Prelude.{Bool, List, None, Option, Some, [], cond, drop, false, find, if◌then◌else◌, length, map, option_map, refl, suc, take, true, zero, ℕ, ◌+◌, ◌==◌, ◌||◌, ◌≡◌, ◌∷◌}
use Rattle.std.proofs.Common.{arith, subst, sym, ◌∙◌}
use Rattle.std.proofs.lemmas.List.{length-map}
use Rattle.std.proofs.lemmas.List.Folds.{list_any-append}
use Rattle.std.proofs.lemmas.List.FromFn.{length-enumerate_from}
use Rattle.merge_types.specs.declared.changes.Change.{Change}
use Rattle.merge_types.specs.declared.changes.Change.TheVariants.{Delete, Insert, Update}
use Rattle.merge_types.specs.declared.changes.Setting.{Setting}
use Rattle.merge_types.specs.declared.changes.Tracking.{Tracking}
use Rattle.merge_types.specs.declared.changes.Tracking.TheVariants as tracking
use Rattle.merge_types.specs.declared.identifiers.Dot.{Dot}
use Rattle.merge_types.specs.declared.row_key.RowKey.{RowKey as Key}
use Rattle.merge_types.specs.declared.values.ColumnType.{ColumnType}
use Rattle.merge_types.specs.declared.values.Column.{Column}
use Rattle.merge_types.specs.declared.values.Value.{Value}
use Rattle.merge_units.specs.Cases.{are_long, bodies_case, case_by, is_both, news_case, side_of, sides_of}
use Rattle.merge_units.specs.Changes.{cell_after, cells_after, new_cell, new_cells, set_value}
use Rattle.merge_units.specs.Results.{case_body, decided, result_by, result_cell, result_cells, taken}
use Rattle.merge_units.specs.Version.{Knowing, cells_of, has_news, is_live}
use Rattle.merge_units.specs.declared.case.Case.{Case}
use Rattle.merge_units.specs.declared.case.Case.TheVariants as case
use Rattle.merge_units.specs.declared.case.Side.{Side}
use Rattle.merge_units.specs.declared.case.Side.TheVariants as side
use Rattle.merge_units.specs.declared.result.Decision.{Decision}
use Rattle.merge_units.specs.declared.result.Decision.TheVariants.{Custom, KeepPublisher, TakeSubscriber}
use Rattle.merge_units.specs.declared.version.Body.{Body}
use Rattle.merge_units.specs.declared.version.Body.TheVariants.{Dead, Live}
use Rattle.merge_units.specs.declared.version.Cell.{Cell}
use Rattle.merge_units.specs.declared.version.Version.{Version}
use Rattle.merge_schema.specs.declared.publication.Publication.{Publication}
use Rattle.merge_batch.specs.LocalChanges.{change_refusal, columns_at, identity_column, key_of, new_value, no_row, tracking_at, version_after}
use Rattle.merge_model.specs.History.{Chains, MadeChange, OfCells, OfDead, Past, has}
use Rattle.merge_model.specs.History.Pasts.{cell_chains, cell_count, chain_after, chains_by, merged_chain, merged_chains, past_after, past_by, set_cells}
use Rattle.merge_model.proofs.Runs.Refusals.{first-none}
use Rattle.merge_laws.specs.Facts.Knowledge.{same_dot}
use Rattle.merge_laws.specs.Laws.{OfEveryValidActions}
use Rattle.merge_laws.proofs.Accounts.AccountCells.{AreFour}
use Rattle.merge_laws.proofs.Accounts.AccountChanges.{chain-grows, count_by_tracking}
use Rattle.merge_laws.proofs.Pasts.DotTests.{dot-first}
use Rattle.merge_laws.proofs.Numbered.Telling.{no-refusal}
use Rattle.merge_laws.proofs.Told.ToldRows.{HeldFits}
use Rattle.merge_owed.specs.Chains.{TopIsIn, TopsAreInChains, TopsStand}
use Rattle.merge_owed.proofs.VersionKept.{GoesOn, holds-by-actions}

-- A new row.

new-tops : (dot : Dot) (from n : ℕ) (cells : List Cell) → AllByRecursion (λ (cell : Cell). cell.top ≡ dot) cells → length cells ≡ n → AllZip TopIsIn cells (map (λ (place : ℕ). dot ∷ []) (range_with_len from n))
new-tops dot from zero [] tops even = tt
new-tops dot from (suc n) [] tops even = absurd (omega (arith, even))
new-tops dot from zero (cell ∷ cells) tops even = absurd (omega (arith, even))
new-tops dot from (suc n) (cell ∷ cells) tops even = (subst (λ (top : Dot). has (dot ∷ []) top ≡ true) (sym tops.0) (dot-first dot []), new-tops dot (from + 1) n cells tops.1 (omega (arith, even)))

column-tops : (dot : Dot) (values : List Value) → AllByRecursion (λ (cell : Cell). cell.top ≡ dot) (new_cells tracking.ByColumn dot values) × (length (new_cells tracking.ByColumn dot values) ≡ length values)
column-tops dot [] = (tt, refl)
column-tops dot (value ∷ values) = (let rest = column-tops dot values in ((refl, rest.0), omega (arith, rest.1)))

inserted-tops : (tr : Tracking) (columns : List Column) (dot : Dot) (value : ℕ × ColumnType → Value)
    → (let values : List Value = map value (enumerate_from 0 (map (λ (column : Column). column.ty) columns)) in
    TopsStand (count_by_tracking tr columns) (Live (new_cells tr dot values)) (OfCells (map (λ (place : ℕ). dot ∷ []) (range_with_len 0 (count_by_tracking tr columns)))))
inserted-tops tracking.Row columns dot value = (refl, (dot-first dot [], tt))
inserted-tops tracking.ByColumn columns dot value =
    let types : List ColumnType = map (λ (column : Column). column.ty) columns in
    let values : List Value = map value (enumerate_from 0 types) in
    let even : length values ≡ length columns = length-map (enumerate_from 0 types) value ∙ length-enumerate_from 0 types ∙ length-map columns (λ (column : Column). column.ty) in
    let new = column-tops dot values in
    (new.1 ∙ even, new-tops dot 0 (length columns) (new_cells tracking.ByColumn dot values) new.0 (new.1 ∙ even))

-- An update.

chain-set : (b : Bool) (dot : Dot) (chain : List Dot) → b ≡ true → has (if b then dot ∷ chain else chain) dot ≡ true
chain-set true dot chain is = dot-first dot chain
chain-set false dot chain is = absurd cc

head-listed : (place : ℕ) (setting : Setting) (b c : Bool) (rest : Option Setting) (value : Value) → (option_map (λ (s : Setting). s.value) rest ≡ Some value → c ≡ true) → option_map (λ (s : Setting). s.value) (let found : Option Setting = cond b (Some setting) rest in found) ≡ Some value → (b || c) ≡ true
head-listed place setting true c rest value more is = refl
head-listed place setting false c rest value more is = more is

set-listed : (settings : List Setting) (place : ℕ) (value : Value) → set_value settings place ≡ Some value → list_any (λ (cell : ℕ). cell == place) (map (λ (s : Setting). s.column) settings) ≡ true
set-listed [] place value is = absurd cc
set-listed (setting ∷ settings) place value is = head-listed place setting (setting.column == place) (list_any (λ (cell : ℕ). cell == place) (map (λ (s : Setting). s.column) settings)) (find (λ (s : Setting). s.column == place) settings) value (set-listed settings place value) is

cell-updated : (dot : Dot) (settings : List Setting) (place : ℕ) (found : Option Value) (cell : Cell) (chain : List Dot) → set_value settings place ≡ found → TopIsIn cell chain → TopIsIn (new_cell dot found cell) (chain_after dot (map (λ (s : Setting). s.column) settings) (place, chain))
cell-updated dot settings place None cell chain at is = chain-grows (list_any (λ (c : ℕ). c == place) (map (λ (s : Setting). s.column) settings)) dot chain cell.top is
cell-updated dot settings place (Some value) cell chain at is = chain-set (list_any (λ (c : ℕ). c == place) (map (λ (s : Setting). s.column) settings)) dot chain (set-listed settings place value at)

columns-updated : (dot : Dot) (settings : List Setting) (n : ℕ) (cells : List Cell) (chains : List (List Dot)) → AllZip TopIsIn cells chains
    → (let after : List Cell = map (cell_after dot settings) (enumerate_from n cells) in (length after ≡ length cells) × AllZip TopIsIn after (map (chain_after dot (map (λ (s : Setting). s.column) settings)) (enumerate_from n chains)))
columns-updated dot settings n [] [] tops = (refl, tt)
columns-updated dot settings n [] (chain ∷ chains) tops = absurd tops
columns-updated dot settings n (cell ∷ cells) [] tops = absurd tops
columns-updated dot settings n (cell ∷ cells) (chain ∷ chains) tops =
    let rest = columns-updated dot settings (n + 1) cells chains tops.1 in
    (omega (arith, rest.0), (cell-updated dot settings n (set_value settings n) cell chain refl tops.0, rest.1))

updated-tops : (tr : Tracking) (columns : List Column) (dot : Dot) (settings : List Setting) (cells : List Cell) (chains : Chains) → TopsStand (count_by_tracking tr columns) (Live cells) chains
    → TopsStand (count_by_tracking tr columns) (Live (cells_after tr dot settings cells)) (OfCells (map (chain_after dot (set_cells tr settings)) (enumerate_from 0 (cell_chains chains))))
updated-tops tr columns dot settings cells (OfDead chain) tops = absurd tops
updated-tops tracking.Row columns dot settings (cell ∷ []) (OfCells (chain ∷ [])) tops = (refl, (dot-first dot chain, tt))
updated-tops tracking.Row columns dot settings [] (OfCells chains) tops = absurd (omega (arith, tops.0))
updated-tops tracking.Row columns dot settings (cell ∷ other ∷ cells) (OfCells chains) tops = absurd (omega (arith, tops.0))
updated-tops tracking.Row columns dot settings (cell ∷ []) (OfCells []) tops = absurd tops.1
updated-tops tracking.Row columns dot settings (cell ∷ []) (OfCells (chain ∷ other ∷ chains)) tops = absurd tops.1.1
updated-tops tracking.ByColumn columns dot settings cells (OfCells chains) tops = (let after = columns-updated dot settings 0 cells chains tops.1 in (after.0 ∙ tops.0, after.1))

-- A merge.
module _ (new : Dot) where
  result-top : (decision : Decision) (values : List Value) (s : Side) (o e : Cell) (x y : List Dot) → TopIsIn o x → TopIsIn e y → TopIsIn (result_cell new decision values s o e) (merged_chain new decision s x y)
  result-top KeepPublisher values side.Incoming o e x y one other = other
  result-top TakeSubscriber values side.Incoming o e x y one other = other
  result-top (Custom more) values side.Incoming o e x y one other = other
  result-top KeepPublisher values side.Both o e x y one other = one
  result-top TakeSubscriber values side.Both o e x y one other = other
  result-top (Custom more) values side.Both o e x y one other = dot-first new []
  result-top KeepPublisher values side.Publisher o e x y one other = one
  result-top TakeSubscriber values side.Publisher o e x y one other = one
  result-top (Custom more) values side.Publisher o e x y one other = one
  result-top KeepPublisher values side.Neither o e x y one other = one
  result-top TakeSubscriber values side.Neither o e x y one other = one
  result-top (Custom more) values side.Neither o e x y one other = one

  are-four : (ours : List Cell) (mine : List (List Dot)) (theirs : List Cell) (yours : List (List Dot)) → AllZip TopIsIn ours mine → AllZip TopIsIn theirs yours → length ours ≡ length theirs → AreFour ours mine theirs yours
  are-four [] [] [] [] one other same = tt
  are-four (p ∷ ours) (x ∷ mine) (i ∷ theirs) (y ∷ yours) one other same = are-four ours mine theirs yours one.1 other.1 (omega (arith, same))
  are-four [] [] (i ∷ theirs) yours one other same = absurd (omega (arith, same))
  are-four (p ∷ ours) (x ∷ mine) [] yours one other same = absurd (omega (arith, same))
  are-four [] (x ∷ mine) theirs yours one other same = absurd one
  are-four (p ∷ ours) [] theirs yours one other same = absurd one
  are-four [] [] [] (y ∷ yours) one other same = absurd other
  are-four (p ∷ ours) (x ∷ mine) (i ∷ theirs) [] one other same = absurd other

  results-tops : (here there : Knowing) (long : Bool) (decision : Decision) (values : List Value) (ours : List Cell) (mine : List (List Dot)) (theirs : List Cell) (yours : List (List Dot)) → AreFour ours mine theirs yours
      → AllZip TopIsIn ours mine → AllZip TopIsIn theirs yours
      → (let ss : List Side = map (side_of long here there) (zip ours theirs) in
      let cells : List Cell = result_cells new decision values ss ours theirs in (length cells ≡ length ours) × AllZip TopIsIn cells (merged_chains new decision ss mine yours))
  results-tops here there long decision values [] [] [] [] four one other = (refl, tt)
  results-tops here there long decision values (o ∷ ours) (x ∷ mine) (e ∷ theirs) (y ∷ yours) four one other =
      let s : Side = side_of long here there (o, e) in
      let rest = results-tops here there long decision (drop (taken decision s o) values) ours mine theirs yours four one.1 other.1 in
      (omega (arith, rest.0), (result-top decision (take (taken decision s o) values) s o e x y one.0 other.0, rest.1))
  results-tops here there long decision values [] (x ∷ mine) theirs yours four one other = absurd four
  results-tops here there long decision values (o ∷ ours) [] theirs yours four one other = absurd four
  results-tops here there long decision values [] [] (e ∷ theirs) yours four one other = absurd four
  results-tops here there long decision values [] [] [] (y ∷ yours) four one other = absurd four
  results-tops here there long decision values (o ∷ ours) (x ∷ mine) [] yours four one other = absurd four
  results-tops here there long decision values (o ∷ ours) (x ∷ mine) (e ∷ theirs) [] four one other = absurd four

  module _ (count : ℕ) (here there : Knowing) (decision : Decision) where
    live-tops : (ours theirs : List Cell) (mine yours : List (List Dot)) (any : Bool) → TopsStand count (Live ours) (OfCells mine) → TopsStand count (Live theirs) (OfCells yours)
        → (let c : Case = if any then case.Conflict (sides_of here there ours theirs) else case.Merge (sides_of here there ours theirs) in TopsStand count (case_body new decision c (Live ours) (Live theirs)) (chains_by c decision new (OfCells mine) (OfCells yours)))
    live-tops ours theirs mine yours true one other =
        let results = results-tops here there (are_long ours theirs) decision (decided decision) ours mine theirs yours (are-four ours mine theirs yours one.1 other.1 (one.0 ∙ sym other.0)) one.1 other.1 in
        (results.0 ∙ one.0, results.1)
    live-tops ours theirs mine yours false one other =
        let results = results-tops here there (are_long ours theirs) decision (decided decision) ours mine theirs yours (are-four ours mine theirs yours one.1 other.1 (one.0 ∙ sym other.0)) one.1 other.1 in
        (results.0 ∙ one.0, results.1)

    life-tops : (choice : Decision) (ours theirs : Body) (mine yours : Chains) → TopsStand count ours mine → TopsStand count theirs yours → TopsStand count (case_body new choice case.LifeConflict ours theirs) (chains_by case.LifeConflict choice new mine yours)
    life-tops KeepPublisher ours theirs mine yours one other = one
    life-tops TakeSubscriber ours theirs mine yours one other = other
    life-tops (Custom values) ours theirs mine yours one other = one

    both-tops : (ours theirs : Body) (mine yours : Chains) → TopsStand count ours mine → TopsStand count theirs yours → TopsStand count (case_body new decision (bodies_case here there ours theirs) ours theirs) (chains_by (bodies_case here there ours theirs) decision new mine yours)
    both-tops (Live ours) (Live theirs) (OfCells mine) (OfCells yours) one other = live-tops ours theirs mine yours (list_any is_both (sides_of here there ours theirs)) one other
    both-tops (Live ours) (Dead y) mine yours one other = life-tops decision (Live ours) (Dead y) mine yours one other
    both-tops (Dead x) (Live theirs) mine yours one other = life-tops decision (Dead x) (Live theirs) mine yours one other
    both-tops (Dead x) (Dead y) (OfDead mine) (OfDead yours) one other = grind (arith, list_any-append (λ (d : Dot). same_dot d x) mine yours, one)
    both-tops (Live ours) (Live theirs) (OfDead mine) yours one other = absurd one
    both-tops (Live ours) (Live theirs) (OfCells mine) (OfDead yours) one other = absurd other
    both-tops (Dead x) (Dead y) (OfCells mine) yours one other = absurd one
    both-tops (Dead x) (Dead y) (OfDead mine) (OfCells yours) one other = absurd other

    case-tops : (a b : Bool) (ours theirs : Body) (mine yours : Chains) → TopsStand count ours mine → TopsStand count theirs yours
        → (let c : Case = news_case a b (bodies_case here there ours theirs) in TopsStand count (case_body new decision c ours theirs) (chains_by c decision new mine yours))
    case-tops false false ours theirs mine yours one other = one
    case-tops true false ours theirs mine yours one other = one
    case-tops false true ours theirs mine yours one other = other
    case-tops true true ours theirs mine yours one other = both-tops ours theirs mine yours one other

-- Of a version.

abbrev HasTops : Publication → List MadeChange → Key → Version → Past → Type 0
HasTops publication made key version past = TopsStand (cell_count publication key.article) version.body past.chains

live-changed : (publication : Publication) (dot : Dot) (article : ℕ) (settings : List Setting) (body : Body) (past : Past) → is_live body ≡ true → TopsStand (cell_count publication article) body past.chains
    → TopsStand (cell_count publication article) (Live (cells_after (tracking_at publication article) dot settings (cells_of body))) (OfCells (map (chain_after dot (set_cells (tracking_at publication article) settings)) (enumerate_from 0 (cell_chains past.chains))))
live-changed publication dot article settings (Dead top) past lives tops = absurd cc
live-changed publication dot article settings (Live cells) past lives tops = updated-tops (tracking_at publication article) (columns_at publication article) dot settings cells past.chains tops

changed-tops : (publication : Publication) (made : List MadeChange) (dot : Dot) (change : Change) (value : Value) (held : Option Version) (rows : ℕ) (past : Past) → change_refusal publication dot change held rows ≡ None → HeldFits (HasTops publication made) (key_of dot change) held past
    → HeldFits (HasTops publication made) (key_of dot change) (version_after publication dot value change held) (past_after publication dot change past)
changed-tops publication made dot (Insert article settings) value held rows past fine fits =
    inserted-tops (tracking_at publication article) (columns_at publication article) dot (λ (place : ℕ × ColumnType). new_value (identity_column publication article) value settings place.0)
changed-tops publication made dot (Update article row settings) value None rows past fine fits = tt
changed-tops publication made dot (Update article row settings) value (Some held) rows past fine fits =
    let first = first-none (no_row (Update article row settings) (Some held)) _ fine in
    live-changed publication dot article settings held.body past (no-refusal (is_live held.body) first.0) fits
changed-tops publication made dot (Delete article row) value None rows past fine fits = tt
changed-tops publication made dot (Delete article row) value (Some held) rows past fine fits = dot-first dot _

merged-tops : (publication : Publication) (made : List MadeChange) (key : Key) (held incoming : Version) (case : Case) (decision : Decision) (dot : Dot) (past other : Past) → case ≡ case_by (has past.known) (has other.known) held.body incoming.body → HasTops publication made key held past → HasTops publication made key incoming other
    → HasTops publication made key (result_by case held incoming decision dot) (past_by case decision dot past other)
merged-tops publication made key held incoming case decision dot past other is one two =
    subst (λ (c : Case). TopsStand (cell_count publication key.article) (case_body dot decision c held.body incoming.body) (chains_by c decision dot past.chains other.chains)) (sym is)
    (case-tops dot (cell_count publication key.article) (has past.known) (has other.known) decision (has_news (has other.known) held.body) (has_news (has past.known) incoming.body) held.body incoming.body past.chains other.chains one two)

tops-go_on : (publication : Publication) → GoesOn publication (HasTops publication)
tops-go_on publication = record {
  more = λ made others key version past among fits. fits;
  changed = λ made dot generation change value held rows past carried fine fits. changed-tops publication made dot change value held rows past fine fits;
  merged = λ made judge site p key held incoming case decision dot past other is keeps counts one two. merged-tops publication made key held incoming case decision dot past other is one two;
}

pub tops-stand : OfEveryValidActions TopsAreInChains
tops-stand resolvers publication valid says tallies slips actions = (holds-by-actions publication (HasTops publication) (tops-go_on publication) says tallies slips actions (resolvers, valid)).1.0
