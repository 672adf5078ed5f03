-- In which generation a row was touched for a site.
pub mod TouchLists
pub mod TouchEntries
pub mod TouchCases
pub mod TouchUploads
pub mod TouchTables
pub mod TouchedSteps
