use Rattle.merge_site.proofs.Committed.{subscriber-settled}
use Rattle.merge_site.proofs.subscriber_commit.commit_and_settle.Goals as goal

pub returns-clause-kept : goal.returns-clause-kept
returns-clause-kept g c =
    subscriber-settled _ _ _ _ _ _ _ c.requires.kept c.in_ok-edits.ensures.lead c.in_ok-edits.ensures.keyed c.in_ok-edits.ensures.printable c.in_ok-edits.ensures.lost c.deref.ensures.value c.in_ok-commit.ensures.ok c.settle.ensures.tables
