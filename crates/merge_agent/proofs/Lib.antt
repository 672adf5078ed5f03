mod Passing
mod Steps
mod Loops
mod Makings
mod Paths
mod Takings
mod Refusing
mod Exchanging
