-- Sessions and rounds settle their sites, and their bounds never end them.
pub mod SessionSteps
pub mod SessionExchanges
pub mod SessionChanges
pub mod SessionLaw
pub mod SessionExamples
pub mod RoundStays
pub mod RoundLaw
pub mod BoundsEnough
