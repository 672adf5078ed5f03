mod Names
mod Settings
