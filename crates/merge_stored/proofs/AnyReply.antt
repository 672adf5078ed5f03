-- Whatever reply comes to a subscriber, and whatever step it makes, it keeps the rules of a start.
-- The room holds what is kept, part by part, how it comes from the rules and leads to them, and what each call leaves of it.
pub mod States
pub mod Closings
pub mod Conflicts
pub mod Holders
pub mod Versions
pub mod Changes
pub mod Rows
pub mod RowSteps
pub mod Replies
pub mod Parts
pub mod Calls
pub mod Laws
