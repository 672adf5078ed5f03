-- Conflict tables have the rows of what the history has as lost.
pub mod TableRows
pub mod TablesAgree
