use Rattle.merge_json.proofs.SentForms.{sent_read, sent_fault, sent_sendable}
use Rattle.merge_json.proofs.request.read_request.Goals as goal

pub returns-clause-read : goal.returns-clause-read
returns-clause-read c = sent_read c.args.path.now c.args.body.now c.read_sent.result c.read_sent.ensures

pub returns-clause-fault : goal.returns-clause-fault
returns-clause-fault c = sent_fault c.args.path.now c.args.body.now c.read_sent.result c.read_sent.ensures

pub returns-clause-sendable : goal.returns-clause-sendable
returns-clause-sendable c = sent_sendable c.args.path.now c.args.body.now c.read_sent.result c.read_sent.ensures
