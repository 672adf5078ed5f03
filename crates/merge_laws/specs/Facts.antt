-- What runs keep of sites, messages and histories, in words that contracts cite.
pub mod Received
pub mod Numbered
pub mod Behind
pub mod Knowledge
pub mod Lineages
pub mod Standing
pub mod LineagesStand
pub mod LetterNumbers
pub mod Settled
pub mod Accounts
pub mod Identities
pub mod Purges
pub mod Watermarks
