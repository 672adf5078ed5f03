-- A site's generations, and what is kept of the closed ones.
use Rattle.std.specs.Prelude.{ℕ, ◌+◌, ◌-◌, ◌<◌, ◌≤◌, ◌==◌, Bool, nat_lt, nat_le, if◌then◌else◌, None, Some, List, [], ◌∷◌, ◌++◌, map, filter, find, All, AllPairs}
use Rattle.std.specs.declared.option.Option.{Option}
use Rattle.std.specs.Option.{option_map, option_or}
use Rattle.std.specs.List.{range_with_len}
use Rattle.merge_types.specs.declared.Moment.{Moment}
use Rattle.merge_gens.specs.declared.filling.Filling.{Filling}
use Rattle.merge_gens.specs.declared.closings.Closing.{Closing}
use Rattle.merge_types.specs.Limits.{entry_limit}
use Rattle.merge_gens.specs.Filling.{filled_by, filling_after_close}

-- where the filling stands, and the closed generations that are kept, in ascending order
pub record Book : Type 0 where
  pub filling : Filling
  pub closings : List Closing

-- a book, and for how many more closings it has memory
pub record BookWithRoom : Type 0 where
  pub book : Book
  pub room : ℕ

-- the open generation is not full; kept generations ascend and have closed
pub record IsSound (book : Book) : Type 0 where
  pub unfilled : book.filling.filled < entry_limit
  pub ascending : AllPairs (λ a b. a.generation < b.generation) book.closings
  pub closed : All (λ c. c.generation ≤ book.filling.last_closed) book.closings

abbrev pub closing_at : Moment → ℕ → Closing
closing_at moment generation = record { generation = generation; moment = moment }

-- the generations behind one, up to another, which closed at the moment
abbrev pub closings_between : ℕ → ℕ → Moment → List Closing
closings_between from to moment = map (closing_at moment) (range_with_len (from + 1) (to - from))

-- the filling moves on, and each generation that closes keeps the moment
abbrev pub moved_to : Book → Filling → Moment → Book
moved_to book filling moment = record {
  filling = filling;
  closings = book.closings ++ closings_between book.filling.last_closed filling.last_closed moment;
}

-- the book after so many entries
abbrev pub book_after_entries : Book → ℕ → Moment → Book
book_after_entries book count moment = moved_to book (filled_by book.filling count) moment

-- the book after a closing of the open generation
abbrev pub closed_now : Book → Moment → Book
closed_now book moment = moved_to book (filling_after_close book.filling) moment

-- the moment at which the generation closed, where it is kept
abbrev pub moment_of : List Closing → ℕ → Option ℕ
moment_of closings generation = option_map (λ c. c.moment.0) (find (λ c. c.generation == generation) closings)

-- the book without the generations that closed before the cutoff
abbrev pub book_after_purge : Book → Moment → Book
book_after_purge book cutoff = record {
  filling = book.filling;
  closings = filter (λ c. nat_le cutoff.0 c.moment.0) book.closings;
}

-- the book without the generations up to one
abbrev pub book_after_forgetting : Book → ℕ → Book
book_after_forgetting book up_to = record {
  filling = book.filling;
  closings = filter (λ c. nat_lt up_to c.generation) book.closings;
}

-- where there is a generation
abbrev pub forgotten_if_any : Book → Option ℕ → Book
forgotten_if_any book None = book
forgotten_if_any book (Some up_to) = book_after_forgetting book up_to

abbrev pub closed_before : Moment → Closing → Bool
closed_before cutoff closing = nat_lt closing.moment.0 cutoff.0

-- the last kept generation that closed before the cutoff, none where none did
abbrev pub last_before : Moment → List Closing → Option ℕ
last_before cutoff [] = None
last_before cutoff (closing ∷ closings) = option_or (last_before cutoff closings) (if closed_before cutoff closing then Some closing.generation else None)

-- no generation closed at an earlier moment than one before it
abbrev pub NeverFall : List Closing → Type 0
NeverFall closings = AllPairs (λ a b. a.moment.0 ≤ b.moment.0) closings
