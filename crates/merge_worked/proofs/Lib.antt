mod Happened
mod Valid
