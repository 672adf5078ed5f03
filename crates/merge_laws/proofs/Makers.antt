-- Every version and every change of a row knows the change that made the row.
pub mod MakerChanges
pub mod MakerSites
pub mod KnownMakers
pub mod MakerUploads
pub mod MakerSteps
