-- From steps to lists of actions and of events, and laws that follow of runs at once.
pub mod Tallied
pub mod OfActions
pub mod Ground
pub mod ValidRules
pub mod RestsOnKept
pub mod LawsOfActions
