pub mod Plainly
pub mod PromisesOfActions
