pub mod Multiples
pub mod Parts
pub mod Published
pub mod Refusals
pub mod SoFar
