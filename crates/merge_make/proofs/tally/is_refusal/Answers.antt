-- Counts begin with the name of an article, and conflicts with a number.
use Rattle.merge_make.proofs.Refusals.{conflicts-are-none, counts-are-none}
use Rattle.merge_make.proofs.tally.is_refusal.Goals as goal

pub returns-in-Counts : goal.returns-in-Counts
returns-in-Counts c = counts-are-none _ _ c.in-Counts.is

pub returns-in-Conflicts : goal.returns-in-Conflicts
returns-in-Conflicts c = conflicts-are-none _ _ c.in-Conflicts.is
