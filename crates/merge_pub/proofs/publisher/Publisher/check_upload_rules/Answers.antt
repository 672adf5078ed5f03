use Rattle.std.proofs.Common.{◌≡◌, ◌∙◌, sym}
use Rattle.merge_batch.proofs.Valid.{valid_upload}
use Rattle.merge_batch.specs.Laws.{IsValidUpload}
use Rattle.merge_pub.specs.Held.{publication_of, tables_of}
use Rattle.merge_pub.specs.Uploaded.{known_in}
use Rattle.merge_pub.proofs.UploadRules.{fault-at, fault-same, valid-on-ok}
use Rattle.merge_pub.proofs.publisher.Publisher.check_upload_rules.Goals as goal

pub returns-clause-refusal : goal.returns-clause-refusal
returns-clause-refusal c =
    c.check_rules.ensures ∙ fault-same (publication_of c.args.self.now) (tables_of c.args.self.now) c.args.upload.now c.upload_fault-broken.result
    (fault-at c.holding-holding.result.publication.now (publication_of c.args.self.now) _ (tables_of c.args.self.now) c.args.upload.now c.upload_fault-broken.result c.holding-holding.ensures.publication c.holding-holding.ensures.known c.upload_fault-broken.ensures)

pub returns-clause-valid : goal.returns-clause-valid
returns-clause-valid c =
    let p = tables_of c.args.self.now in
    let publication = publication_of c.args.self.now in
    let broken = fault-at c.holding-holding.result.publication.now publication _ p c.args.upload.now c.upload_fault-broken.result c.holding-holding.ensures.publication c.holding-holding.ensures.known c.upload_fault-broken.ensures in
    valid-on-ok (IsValidUpload publication (known_in publication p) c.args.upload.now) c.check_rules.result c.upload_fault-broken.result c.check_rules.ensures (λ none. (valid_upload publication (known_in publication p) c.args.upload.now).0 (sym broken ∙ none))
