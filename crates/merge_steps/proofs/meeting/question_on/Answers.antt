use Rattle.merge_steps.proofs.DecidedRows.{few-sides}
use Rattle.merge_steps.proofs.meeting.question_on.Goals as goal

pub question-requires : goal.question-requires
question-requires c = few-sides c.requires.valid.0 c.args.publication.now c.requires.valid.1 c.args.item.now.article c.args.held.now c.args.item.now.version c.requires.held c.requires.item c.args.case.now c.requires.case
