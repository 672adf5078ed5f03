pub mod Contents
pub mod Edits
