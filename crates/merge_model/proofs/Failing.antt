-- Runs in which steps may fail, and calls that are steps of such a run.
pub mod NoSlips
pub mod KeptFailing
pub mod AlikeFailing
pub mod Calling
pub mod Reached
pub mod ReachedSessions
pub mod ReachedEvents
pub mod Quiet
