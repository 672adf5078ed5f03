pub mod Bars
pub mod Cuts
pub mod Decimals
pub mod Partings
pub mod Parts
pub mod Utf8
pub mod WordParts
