-- What a step adds to lists and forgets of them, as changes at numbers.
use Rattle.std.specs.Prelude.{Bool, List, None, Option, Some, [], map, nat_le, nat_lt, option_map, ℕ, ◌++◌}
use Rattle.merge_types.specs.declared.identifiers.Moment.{Moment}
use Rattle.merge_table.specs.Edits.{takes_of}
use Rattle.merge_table.specs.declared.edit.Edit.{Edit}
use Rattle.merge_table.specs.declared.edit.Edit.TheVariants.{Put}
use Rattle.merge_gens.specs.Book.{Book, book_after_forgetting, book_after_purge}
use Rattle.merge_gens.specs.declared.closings.Closing.{Closing}
use Rattle.merge_ident.specs.Holders.{Holder}
use Rattle.merge_conflict.specs.declared.row.ConflictRow.{ConflictRow}
use Rattle.merge_keeper.specs.Entries.{closing_pair, conflict_pair}
use Rattle.merge_keeper.specs.Stored.{held_put}
use Rattle.merge_site.specs.declared.lists.Forgets.{Forgets}
use Rattle.merge_site.specs.declared.lists.Forgets.TheVariants.{Before, UpTo}

abbrev pub pair_put : {V : Type 0} → ℕ × V → Edit ℕ V
pair_put p = Put p.0 p.1

abbrev pub closing_put : Closing → Edit ℕ Moment
closing_put closing = pair_put (closing_pair closing)

abbrev pub conflict_put : ConflictRow → Edit ℕ ConflictRow
conflict_put row = pair_put (conflict_pair row)

-- a generation above one stays, or one that closed no earlier than a moment
abbrev pub stays : Forgets → ℕ × Moment → Bool
stays (UpTo generation) p = nat_lt generation p.0
stays (Before cutoff) p = nat_le cutoff.0 p.1.0

-- the changes that forget the other generations
abbrev pub closing_takes_by : Forgets → List Closing → List (Edit ℕ Moment)
closing_takes_by forgets closings = takes_of (stays forgets) (map closing_pair closings)

abbrev pub closing_takes : Option Forgets → List Closing → List (Edit ℕ Moment)
closing_takes None closings = []
closing_takes (Some forgets) closings = closing_takes_by forgets closings

-- generations close behind those that are kept, and then some are forgotten, where the step forgets any
abbrev pub closing_changes : List Closing → List Closing → Option Forgets → List (Edit ℕ Moment)
closing_changes kept closed forgets = map closing_put closed ++ closing_takes forgets kept ++ closing_takes forgets closed

-- the generations after that
abbrev pub book_left : Book → Option Forgets → Book
book_left book None = book
book_left book (Some (UpTo generation)) = book_after_forgetting book generation
book_left book (Some (Before cutoff)) = book_after_purge book cutoff

abbrev pub up_to : Option ℕ → Option Forgets
up_to done = option_map UpTo done

abbrev pub held_changes : List (ℕ × Holder) → List (Edit ℕ Holder)
held_changes puts = map held_put puts
