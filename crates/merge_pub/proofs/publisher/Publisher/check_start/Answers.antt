use Rattle.std.proofs.Common.{◌≡◌, ◌∙◌}
use Rattle.merge_pub.specs.Held.{tables_of}
use Rattle.merge_pub.proofs.UploadRules.{gap-refusal}
use Rattle.merge_pub.proofs.publisher.Publisher.check_start.Goals as goal

pub returns : goal.returns
returns c = c.check_gap.ensures ∙ gap-refusal (tables_of c.args.self.now) c.args.upload.now.site.0 c.args.upload.now.from c.args.state c.requires
