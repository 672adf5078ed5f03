pub mod Identity
pub mod Chains
pub mod Values
pub mod Forgotten
pub mod Ranges
pub mod Purged
pub mod Mappings
