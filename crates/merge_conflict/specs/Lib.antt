pub mod Kinds
pub mod Rising
pub mod Table
pub mod Losers
