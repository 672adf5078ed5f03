-- The numbers of messages and of their sites, and the pasts of what they bring.
pub mod LetterNumbers
pub mod LetterOrder
pub mod LetterPasts
