pub mod Asked
pub mod Replied
pub mod Crosses
pub mod Ends
