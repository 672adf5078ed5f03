-- A settled site holds its partition.
pub mod SettledSeen
pub mod SettledRows
pub mod SettledSent
pub mod SettledReplies
pub mod SettledWorlds
pub mod SettledExpired
pub mod SettledTakes
pub mod SettledReplied
pub mod SettledActs
pub mod SettledSteps
pub mod SettledLaw
