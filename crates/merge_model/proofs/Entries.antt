-- The entries of a step, what they tell of partitions, and what a download reads of them.
pub mod EntryLists
pub mod StepParts
pub mod StepMoves
pub mod Downloads
