-- What runs keep besides, in words that only proofs use: no contract cites them.
pub mod Unsent
pub mod Seen
pub mod Accepting
pub mod KnownMakers
pub mod LetterOrder
pub mod Accepted
pub mod TablesAgree
