-- No two inserts of an article take one identity value.
pub mod IdentityCalls
pub mod IdentityGrants
pub mod IdentityNotes
pub mod IdentityPlaces
pub mod IdentitySums
mod IdentityDraws
pub mod IdentityTakes
pub mod IdentitySteps
mod IdentityExamples
