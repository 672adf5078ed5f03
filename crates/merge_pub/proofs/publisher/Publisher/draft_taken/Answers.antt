use Rattle.merge_pub.specs.Held.{publication_of, tables_of}
use Rattle.merge_pub.proofs.UploadKept.{taken-news, taken-old}
use Rattle.merge_pub.proofs.publisher.Publisher.draft_taken.Goals as goal

pub returns-clause-made : goal.returns-clause-made
returns-clause-made g c = taken-old (publication_of c.args.self.now) (tables_of c.args.self.now) _ c.args.upload.now c.args.arrival c.args.acting c.if-arrival-upload.false c.in_ok-draft.ensures.made

pub returns-then-arrival-upload-clause-made : goal.returns-then-arrival-upload-clause-made
returns-then-arrival-upload-clause-made g c = taken-news (publication_of c.args.self.now) (tables_of c.args.self.now) _ c.args.upload.now c.args.arrival c.args.acting c.if-arrival-upload.true c.in_ok-acted.ensures.made
