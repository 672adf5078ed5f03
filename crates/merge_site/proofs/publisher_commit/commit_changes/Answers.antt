use Rattle.merge_site.proofs.Committed.{publisher-settled}
use Rattle.merge_site.proofs.publisher_commit.commit_changes.Goals as goal

pub returns-clause-ok : goal.returns-clause-ok
returns-clause-ok g c =
    publisher-settled _ _ _ _ _ _ c.requires.kept c.in_ok-edits.ensures.lead c.in_ok-edits.ensures.keyed c.in_ok-edits.ensures.printable c.in_ok-edits.ensures.lost c.deref.ensures.value c.in_ok-commit.ensures.ok
