pub mod Length
pub mod Version
pub mod Cases
pub mod Results
pub mod Changes
pub mod Laws
