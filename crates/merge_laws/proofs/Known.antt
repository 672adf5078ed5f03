-- What versions know was made of their rows, with all that was known where it was made.
pub mod Knowing
pub mod ChangeDots
pub mod KnownRows
pub mod KnownNotes
pub mod KnownLetters
pub mod KnownCounts
pub mod KnownSteps
