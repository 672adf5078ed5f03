pub mod Offers
pub mod Slots
pub mod Stores
pub mod Texts
