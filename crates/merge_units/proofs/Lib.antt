pub mod Pairs
pub mod Fits
pub mod Places
pub mod News
pub mod Merged
pub mod Limit
pub mod Tops
pub mod Shapes
