-- What is accepted of what is known, and what was given up.
pub mod GivenUp
pub mod AcceptedOrder
pub mod AcceptedNews
pub mod AcceptedParts
pub mod AcceptedChanges
pub mod AcceptedJoins
pub mod AcceptedReplies
pub mod AcceptedSendings
pub mod AcceptedUploads
pub mod AcceptedSteps
