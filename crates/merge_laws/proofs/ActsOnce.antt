-- Nothing takes effect twice.
pub mod ActsOnceRows
pub mod ActsOnceSteps
pub mod ActsOnceRules
pub mod ActsOnceItems
pub mod ActsOnceTaken
pub mod EffectsOnce
