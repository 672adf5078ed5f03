-- The numbers that the publisher keeps say which generations have acted, and joined sites take no more for received.
pub mod MessageFacts
pub mod Subscribing
pub mod Replying
pub mod Publishing
pub mod Worlds
pub mod Arrivals
pub mod Steps
pub mod Sendings
pub mod Deliveries
pub mod Models
pub mod BehindKept
