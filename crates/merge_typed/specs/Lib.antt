pub mod Typed
pub mod Outside
pub mod Messages
pub mod Laws
pub mod Scripts
