use Rattle.merge_json.proofs.AnswerForms.{answered_read, answered_fault, answered_sendable}
use Rattle.merge_json.proofs.reply.read_reply.Goals as goal

pub returns-clause-read : goal.returns-clause-read
returns-clause-read c = answered_read c.args.kind c.args.body.now c.read_kind.result c.read_kind.ensures

pub returns-clause-fault : goal.returns-clause-fault
returns-clause-fault c = answered_fault c.args.kind c.args.body.now c.read_kind.result c.read_kind.ensures

pub returns-clause-sendable : goal.returns-clause-sendable
returns-clause-sendable c = answered_sendable c.args.kind c.args.body.now c.read_kind.result c.read_kind.ensures
