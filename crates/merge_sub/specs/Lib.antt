pub mod Anew
pub mod Begin
pub mod Drafts
pub mod Held
pub mod Local
pub mod Restoring
pub mod Sent
pub mod Taking
