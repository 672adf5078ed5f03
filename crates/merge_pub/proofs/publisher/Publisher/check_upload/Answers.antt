use Rattle.merge_pub.specs.Held.{publication_of, tables_of}
use Rattle.merge_pub.proofs.UploadRules.{checked-subscribes}
use Rattle.merge_pub.proofs.publisher.Publisher.check_upload.Goals as goal

pub returns-clause-subscribes : goal.returns-clause-subscribes
returns-clause-subscribes c = checked-subscribes (publication_of c.args.self.now) c.args.upload.now.site c.args.upload.now.seq c.args.now (tables_of c.args.self.now) c.in_ok-state.ensures.refusal
