-- Why a text is no publication.
use Rattle.merge_program.proofs.Readings.{unpublished-so}
use Rattle.merge_program.proofs.files.publication_in.Goals as goal

pub returns-in-Err-clause-refused : goal.returns-in-Err-clause-refused
returns-in-Err-clause-refused c = unpublished-so _ _ _ _ c.refused.ensures c.in-Err.ensures.answer
