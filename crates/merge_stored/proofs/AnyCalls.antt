-- What every call of the publisher keeps, whoever sent the message.
-- The room holds what is kept, part by part, and how it comes from the rules of a start and leads to them.
pub mod Bodies
pub mod Versions
pub mod Items
pub mod Acts
pub mod LocalRows
pub mod Moves
pub mod Counters
pub mod Base
pub mod Parts
pub mod Loads
pub mod FromRules
pub mod HeldFrom
pub mod GrantsFrom
pub mod TypedValues
pub mod Values
pub mod RoomFrom
pub mod FitFrom
pub mod Rules
