-- How moves of memberships are the moves of a step.
use Rattle.std.specs.Prelude.{◌≡◌, ◌==◌, ◌&&◌, ℕ, Bool, true, false, not, Option, List, [], filter, map}
use Rattle.merge_part.specs.declared.change.Move.{Move}
use Rattle.merge_types.specs.declared.row_key.RowKey.{RowKey as Key}
use Rattle.merge_gens.specs.Moves.{is_left}
use Rattle.merge_gens.specs.declared.moves.RowSite.{RowSite}
use Rattle.merge_gens.specs.declared.moves.MoveKind.{MoveKind}
use Rattle.merge_model.specs.Tables.Keys.{has_key}
use Rattle.merge_model.specs.Publisher.Entries.{Parts, Touched, move_of}

-- how a row moved for a site's part
abbrev pub moved_for : Touched → Key → Parts → Option MoveKind
moved_for touched k part = move_of (has_key part.before k) (has_key part.after k) (has_key touched.changed k) ((part.site == touched.uploader) && has_key touched.acted k)

abbrev pub Says : Touched → ℕ → Key → Option MoveKind → Parts → Type 0
Says touched site k here p = (p.site == site) ≡ true → moved_for touched k p ≡ here

-- a membership's move as an entry
abbrev pub key_moved : Move → Key
key_moved move = record { article = move.article; row = move.row }

abbrev pub entry_of : Move → RowSite × MoveKind
entry_of move = (record { key = key_moved move; site = move.site.0 }, move.kind)

abbrev pub is_entered : MoveKind → Bool
is_entered kind = not (is_left kind)

-- a changed row that comes in makes no entry of its own
abbrev pub is_told : List Key → Move → Bool
is_told changed move = not (is_entered move.kind && has_key changed (key_moved move))

-- the entries of a membership's moves
abbrev pub told_moves : List Key → List Move → List (RowSite × MoveKind)
told_moves changed moves = map entry_of (filter (is_told changed) moves)

abbrev pub changed_alone : List Key → Touched
changed_alone changed = record { changed = changed; acted = []; uploader = 0 }
