pub mod Crosses
mod Days
mod Endings
mod Starts
