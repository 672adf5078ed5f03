-- What is found in pasts, in rows, and among the changes of a site.
pub mod DotTests
pub mod PastLookUps
pub mod PastLists
pub mod PastNotes
pub mod HeldRows
pub mod WorldLists
