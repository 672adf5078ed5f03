use Rattle.std.proofs.Common.{refl}
use Rattle.merge_site.proofs.Committed.{publisher-same}
use Rattle.merge_site.proofs.publisher_commit.commit_and_settle.Goals as goal

pub returns-clause-kept : goal.returns-clause-kept
returns-clause-kept g c = publisher-same _ _ _ _ c.in_ok-commit_changes.ensures.ok c.settle.ensures.tables refl
