mod Endings
mod Holding
mod Starts
