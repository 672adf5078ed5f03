-- The numbers of changes that sites tell are those of their last changes.
pub mod Through
pub mod Telling
pub mod Numbers
pub mod Tellings
