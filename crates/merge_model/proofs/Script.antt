-- How the lines of a script are read, and examples.
mod ReadDays
mod ReadTexts
pub mod ReadValues
pub mod ReadRows
mod ReadLiterals
mod ReadWords
pub mod ReadEvents
pub mod FirstFaults
mod LineExamples
mod LiteralExamples
mod TextExamples
