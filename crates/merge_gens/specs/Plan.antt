-- Changes of a book, and the plan of the changes of one step.
use Rattle.std.specs.Prelude.{◌≡◌, ◌+◌, ◌-◌, ◌^◌, ◌<◌, ◌≤◌, List, [], ◌∷◌, ◌++◌, length}
use Rattle.merge_types.specs.declared.Moment.{Moment}
use Rattle.merge_gens.specs.declared.filling.Filling.{Filling}
use Rattle.merge_gens.specs.declared.plan.GenerationChange.{GenerationChange}
use Rattle.merge_gens.specs.declared.plan.GenerationChange.TheVariants.{Enter, Close}
use Rattle.merge_gens.specs.declared.plan.GenerationAnswer.{GenerationAnswer}
use Rattle.merge_gens.specs.declared.plan.GenerationAnswer.TheVariants.{Entered, Closed}
use Rattle.merge_gens.specs.declared.plan.GenerationPlan.{GenerationPlan}
use Rattle.merge_gens.specs.Filling.{generations_of, filled_by, filling_after_close}
use Rattle.merge_gens.specs.Book.{Book, BookWithRoom, IsSound, moved_to}

-- where the filling stands after one change
abbrev pub filling_after : Filling → GenerationChange → Filling
filling_after filling (Enter count moment) = filled_by filling count
filling_after filling (Close moment) = filling_after_close filling

-- what the generations keep that close by the change
abbrev pub closing_moment : GenerationChange → Moment
closing_moment (Enter count moment) = moment
closing_moment (Close moment) = moment

-- what the change answers
abbrev pub answer_of : Filling → GenerationChange → GenerationAnswer
answer_of filling (Enter count moment) = Entered (generations_of filling count)
answer_of filling (Close moment) = Closed (filling_after_close filling).last_closed

-- no number reaches the greatest that there is
abbrev pub IsAllowed : Filling → GenerationChange → Type 0
IsAllowed filling (Enter count moment) = filling.last_closed + count < 2 ^ 64 - 1
IsAllowed filling (Close moment) = filling.last_closed < 2 ^ 64 - 1

-- the book after one change, and after all of them in order
abbrev pub book_after : Book → GenerationChange → Book
book_after book change = moved_to book (filling_after book.filling change) (closing_moment change)

abbrev pub book_after_all : Book → List GenerationChange → Book
book_after_all book [] = book
book_after_all book (change ∷ changes) = book_after_all (book_after book change) changes

-- what each change answers, in order
abbrev pub answers_of : Filling → List GenerationChange → List GenerationAnswer
answers_of filling [] = []
answers_of filling (change ∷ changes) = answer_of filling change ∷ answers_of (filling_after filling change) changes

abbrev pub AreAllowed : Filling → List GenerationChange → Type 0
AreAllowed filling [] = Unit {0}
AreAllowed filling (change ∷ changes) = IsAllowed filling change × AreAllowed (filling_after filling change) changes

-- a plan by itself, as the book of a site that keeps no generation from before
abbrev pub book_of : GenerationPlan → Book
book_of plan = record { filling = plan.filling; closings = plan.closings }

-- the book after a plan
abbrev pub book_after_plan : Book → GenerationPlan → Book
book_after_plan book plan = record { filling = plan.filling; closings = book.closings ++ plan.closings }

-- the plan is for the book as it stands: nothing was added and nothing closed since it was made. The book has the memory for it
pub record IsPrepared (held : BookWithRoom) (plan : GenerationPlan) : Type 0 where
  pub current : plan.before ≡ held.book.filling
  pub room : length plan.closings ≤ held.room
  pub sound : IsSound (book_after_plan held.book plan)
