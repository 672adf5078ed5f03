use Rattle.merge_draft.proofs.Decided.{handled-is, refused-whatever}
use Rattle.merge_draft.proofs.laws.decided_laws.Goals as goal

pub returns-clause-handled : goal.returns-clause-handled
returns-clause-handled c = handled-is

pub returns-clause-refused : goal.returns-clause-refused
returns-clause-refused c = refused-whatever
