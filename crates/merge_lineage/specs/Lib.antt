pub mod Lineage
pub mod Merging
pub mod Laws
