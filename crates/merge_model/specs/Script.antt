-- Scripts: the words of events and literals, how they are read, the texts of answers, and what is written for a whole script.
pub mod Grammar
pub mod Literals
pub mod Reading
pub mod Text
pub mod Proper
pub mod Resolvers
pub mod Play
