-- What a plan comes to.
use Rattle.std.proofs.Common.{◌≡◌, ◌<◌, ◌≤◌, List, [], ◌∷◌, ◌++◌, refl, ap, sym, ◌∙◌, append_assoc, append-nil, arith}
use Rattle.std.proofs.lemmas.Bool.Decides.{nat_tests}
use Rattle.merge_gens.specs.declared.filling.Filling.{Filling}
use Rattle.merge_gens.specs.declared.closings.Closing.{Closing}
use Rattle.merge_gens.specs.declared.plan.GenerationChange.{GenerationChange}
use Rattle.merge_gens.specs.declared.plan.GenerationChange.TheVariants.{Enter, Close}
use Rattle.merge_gens.specs.declared.plan.GenerationPlan.{GenerationPlan}
use Rattle.merge_types.specs.Limits.{entry_limit}
use Rattle.merge_gens.specs.Book.{Book, IsSound, closings_between}
use Rattle.merge_gens.specs.Plan.{filling_after, closing_moment, book_after, book_after_all, book_of, book_after_plan}
use Rattle.merge_gens.proofs.ClosedGenerations.{sound_moved}

-- a book that keeps more generations from before, with the same filling
abbrev behind : List Closing → Book → Book
behind earlier book = record { filling = book.filling; closings = earlier ++ book.closings }

-- changes add to what is kept, and leave the rest
changed_behind : (earlier : List Closing) (book : Book) (changes : List GenerationChange) → book_after_all (behind earlier book) changes ≡ behind earlier (book_after_all book changes)
changed_behind earlier book [] = refl
changed_behind earlier book (change ∷ changes) =
    let after = filling_after book.filling change in
    let more = closings_between book.filling.last_closed after.last_closed (closing_moment change) in
    ap (λ closings. book_after_all (record { filling = after; closings = closings }) changes) (append_assoc earlier book.closings more)
    ∙ changed_behind earlier (book_after book change) changes

-- the plan that a book without a past comes to settles every book at that filling
pub settled_is : (book : Book) (plan : GenerationPlan) (changes : List GenerationChange) → book_of plan ≡ book_after_all (record { filling = book.filling; closings = [] }) changes → book_after_plan book plan ≡ book_after_all book changes
settled_is book plan changes is =
    ap (behind book.closings) is ∙ sym (changed_behind book.closings (record { filling = book.filling; closings = [] }) changes)
    ∙ ap (λ closings. book_after_all (record { filling = book.filling; closings = closings }) changes) (append-nil book.closings)

-- the open generation stays below the limit, and none reopens
unfilled_after : (filling : Filling) (change : GenerationChange) → filling.filled < entry_limit → (filling_after filling change).filled < entry_limit
unfilled_after filling (Enter count moment) unfilled = omega arith
unfilled_after filling (Close moment) unfilled = grind (arith, nat_tests)

onward_after : (filling : Filling) (change : GenerationChange) → filling.last_closed ≤ (filling_after filling change).last_closed
onward_after filling (Enter count moment) = omega arith
onward_after filling (Close moment) = grind (arith, nat_tests)

pub sound_changed : (book : Book) (changes : List GenerationChange) → IsSound book → IsSound (book_after_all book changes)
sound_changed book [] sound = sound
sound_changed book (change ∷ changes) sound =
    sound_changed (book_after book change) changes
    (sound_moved book (filling_after book.filling change) (closing_moment change) sound (unfilled_after book.filling change sound.unfilled) (onward_after book.filling change))
