-- Rows are found in a table as in the list that it is made of, and what a step makes of moves is the same.
use Rattle.std.specs.Prelude.{◌≡◌, ◌<◌, ◌≤◌, ◌+◌, ◌&&◌, ◌||◌, ◌++◌, ℕ, Bool, true, false, not, List, [], ◌∷◌, refl, cond, filter, get_or, length, map, take}
use Rattle.std.specs.BTreeMap.{is_at}
use Rattle.std.specs.BTreeSet.{insert_key}
use Rattle.std.specs.List.{list_any}
use Rattle.std.proofs.Common.{sym, ap, ◌∙◌}
use Rattle.std.proofs.lemmas.List.{take_all}
use Rattle.std.proofs.lemmas.List.Elements.{filter_agree}
use Rattle.std.proofs.lemmas.List.Folds.{list_any_more}
use Rattle.merge_table.proofs.Room.{has_room-insert_key}
use Rattle.merge_types.specs.RowKeys.{key_cmp}
use Rattle.merge_types.specs.declared.row_key.RowKey.{RowKey as Key}
use Rattle.merge_gens.specs.declared.moves.Mapping.{Mapping}
use Rattle.merge_gens.specs.declared.moves.MoveKind.{MoveKind}
use Rattle.merge_gens.specs.declared.moves.RowSite.{RowSite}
use Rattle.merge_part.specs.declared.change.Move.{Move}
use Rattle.merge_schema.specs.Partition.{LiveRow}
use Rattle.merge_schema.specs.declared.publication.Publication.{Publication}
use Rattle.merge_model.specs.Tables.Keys.{has_key, same_key}
use Rattle.merge_model.proofs.Lists.KeyLookUps.{key-test}
use Rattle.merge_model.proofs.Publishers.Sorted.{key_total}
use Rattle.merge_steps.specs.Rows.{has_left_at}
use Rattle.merge_steps.specs.Tie.{entry_of, is_entered, is_told, key_moved, told_moves}
use Rattle.merge_steps.specs.Working.{HaveSame, entry_edits, found_out, found_outs, is_at_site, is_move_at, is_return, left_edit, move_edit, moved_at, out_after, out_by, outs_by, returns}
use Rattle.merge_steps.proofs.Whole.{has-is}
use Rattle.merge_steps.proofs.Told.{and-false}

or-swap : (b c : Bool) → (b || c) ≡ (c || b)
or-swap true true = refl
or-swap true false = refl
or-swap false true = refl
or-swap false false = refl

and-true : (b : Bool) → (b && true) ≡ b
and-true true = refl
and-true false = refl

-- one row more, as at a step of a loop, and all of them
pub one-more : (keys old new : List Key) (i : ℕ) (d : Key) → i < length keys → HaveSame old (take i keys) → new ≡ insert_key key_cmp old (get_or keys i d) → HaveSame new (take (i + 1) keys)
one-more keys old new i d within so_far made = λ q.
    let key : Key = get_or keys i d in
    ap (λ (ks : List Key). has_key ks q) made
    ∙ sym (has-is (insert_key key_cmp old key) q)
    ∙ has_room-insert_key key_cmp key_total key q old
    ∙ ap (λ (b : Bool). is_at (key_cmp q) key || b) (has-is old q ∙ so_far q)
    ∙ ap (λ (b : Bool). b || has_key (take i keys) q) (key-test q key)
    ∙ or-swap (same_key q key) (has_key (take i keys) q)
    ∙ sym (list_any_more (same_key q) keys i d within)

pub all-of : (keys slots : List Key) (i : ℕ) → length keys ≤ i → HaveSame slots (take i keys) → HaveSame slots keys
all-of keys slots i past same = λ q. same q ∙ ap (λ (ks : List Key). has_key ks q) (take_all i keys past)

-- the moves that make entries, and those by which changed rows come back, by other lists of the same rows

told-by : (keys others : List Key) → HaveSame keys others → (moves : List Move) → told_moves keys moves ≡ told_moves others moves
told-by keys others same moves =
    ap (λ (ms : List Move). map entry_of ms) (filter_agree (is_told keys) (is_told others) (λ move. ap (λ (b : Bool). not (is_entered move.kind && b)) (same (key_moved move))) moves)

pub returns-by : (mappings : List (RowSite × Mapping)) (keys others : List Key) → HaveSame keys others → (moves : List Move) → returns mappings keys moves ≡ returns mappings others moves
returns-by mappings keys others same moves =
    ap (λ (ms : List Move). map (λ (move : Move). (entry_of move).0) ms)
    (filter_agree (is_return mappings keys) (is_return mappings others) (λ move. ap (λ (b : Bool). is_entered move.kind && b && has_left_at mappings (entry_of move).0) (same (key_moved move))) moves)

-- the rows that move at a site are those with a move there

moved-head : (key : Key) (move : Move) (moves : List Move) (here : Bool)
    → has_key (map key_moved (let kept : List Move = cond here (move ∷ moves) moves in kept)) key ≡ ((same_key key (key_moved move) && here) || has_key (map key_moved moves) key)
moved-head key move moves true = ap (λ (b : Bool). b || has_key (map key_moved moves) key) (sym (and-true (same_key key (key_moved move))))
moved-head key move moves false = ap (λ (b : Bool). b || has_key (map key_moved moves) key) (sym (and-false (same_key key (key_moved move))))

moved-has : (site : ℕ) (moves : List Move) (key : Key) → has_key (moved_at site moves) key ≡ list_any (is_move_at key site) moves
moved-has site [] key = refl
moved-has site (move ∷ moves) key =
    moved-head key move (filter (is_at_site site) moves) (is_at_site site move)
    ∙ ap (λ (b : Bool). is_move_at key site move || b) (moved-has site moves key)

outs-found-by : (publication : Publication) (site : ℕ) (before : List LiveRow) (moves : List Move) (moved : List Key) → HaveSame moved (moved_at site moves)
    → (acted : List Key) → outs_by publication site before moved acted ≡ found_outs publication site before moves acted
outs-found-by publication site before moves moved same acted =
    filter_agree (out_by publication site before moved) (found_out publication site before moves) (λ key. ap (λ (b : Bool). out_after publication site before b key) (same key ∙ moved-has site moves key)) acted

pub edits-by : (publication : Publication) (site : ℕ) (before : List LiveRow) (moves : List Move) (keys changed moved acted outs : List Key) → HaveSame keys changed → HaveSame moved (moved_at site moves)
    → outs ≡ outs_by publication site before moved acted → entry_edits keys site outs moves ≡ entry_edits changed site (found_outs publication site before moves acted) moves
edits-by publication site before moves keys changed moved acted outs same there is =
    ap (λ (os : List Key). entry_edits keys site os moves) (is ∙ outs-found-by publication site before moves moved there acted)
    ∙ ap (λ (told : List (RowSite × MoveKind)). map move_edit told ++ map (left_edit site) (found_outs publication site before moves acted)) (told-by keys changed same moves)
