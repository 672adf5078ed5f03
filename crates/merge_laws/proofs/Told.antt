-- What each version tells of what its past knows, through all steps: held versions, letters, uploads and replies.
pub mod ToldVersions
pub mod ToldRows
pub mod ToldHistories
pub mod ToldLetters
pub mod ToldItems
pub mod ToldTables
pub mod ToldUploads
pub mod ToldSites
pub mod ToldReplies
pub mod ToldWalk
pub mod ToldSteps
