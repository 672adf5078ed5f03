-- The machine answers as the model: deciding by tables and by the history is alike.
pub mod AlikeFields
pub mod AlikeCases
pub mod AlikeSubscribers
pub mod AlikeDownloads
pub mod AlikeTouched
pub mod AlikeUploads
pub mod AlikeArrivals
pub mod AlikeItems
pub mod AlikeSteps
pub mod AlikeDecisions
pub mod AlikeRuns
