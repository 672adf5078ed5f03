use Rattle.std.proofs.Common.{◌≡◌, map, refl}
use Rattle.std.specs.Prelude.{Ok}
use Rattle.merge_batch.specs.declared.reply.Reply.TheVariants as reply
use Rattle.merge_batch.specs.declared.reply.Uploaded.{Uploaded}
use Rattle.merge_batch.specs.declared.request.Request.TheVariants as request
use Rattle.merge_model.specs.World.Calls.{request_commits}
use Rattle.merge_pub.specs.After.{after}
use Rattle.merge_pub.specs.Held.{publication_of, tables_of}
use Rattle.merge_pub.specs.Uploaded.{asked_on, decided_on, upload_by}
use Rattle.merge_steps.specs.declared.changes.Draft.{Draft}
use Rattle.merge_resolve.specs.Asked.{says_at, tallies_after}
use Rattle.merge_site.specs.Publishers.{told_alone}
use Rattle.merge_site.proofs.Called.{ok-all}
use Rattle.merge_site.proofs.Drafts.{asked-upload, fits-upload, reply-refused, worked-upload}
use Rattle.merge_site.proofs.PublisherRequests.{request-still}
use Rattle.merge_site.proofs.UploadTold.{told-made}
use Rattle.merge_site.proofs.drafting.draft_upload.Goals as goal

pub returns-clause-worked : goal.returns-clause-worked
returns-clause-worked g c =
    worked-upload c.commits_upload-commits.result c.draft_upload-worked.result c.upload_drafted.result c.upload_drafted.ensures (upload_by (publication_of c.args.publisher.now) (says_at (λ r. (goal.Resolver-dyn g (r.vtable, r.value)).says r.value) c.args.resolvers.now.items) (map (λ r. (goal.Resolver-dyn g (r.vtable, r.value)).tally_of r.value) c.args.resolvers.now.items) c.args.now c.args.m.now (tables_of c.args.publisher.now)) (decided_on (publication_of c.args.publisher.now) (says_at (λ r. (goal.Resolver-dyn g (r.vtable, r.value)).says r.value) c.args.resolvers.now.items) (map (λ r. (goal.Resolver-dyn g (r.vtable, r.value)).tally_of r.value) c.args.resolvers.now.items) c.args.now c.args.m.now (tables_of c.args.publisher.now)) (request_commits (publication_of c.args.publisher.now) c.args.now (request.Upload c.args.m.now) (tables_of c.args.publisher.now)) (tables_of c.args.publisher.now)
    c.draft_upload-worked.ensures.made c.draft_upload-worked.ensures.decided (ok-all c.draft_upload-worked.result (λ made. c.commits_upload-commits.ensures)) c.draft_upload-worked.ensures.refused

pub returns-clause-ready : goal.returns-clause-ready
returns-clause-ready g c =
    fits-upload c.commits_upload-commits.result c.draft_upload-worked.result c.upload_drafted.result c.upload_drafted.ensures c.draft_upload-worked.new.self c.draft_upload-worked.ensures.ready
    (request-still (λ (told : Uploaded). reply.Uploaded told) (says_at (λ r. (goal.Resolver-dyn g (r.vtable, r.value)).says r.value) c.args.resolvers.now.items) (map (λ r. (goal.Resolver-dyn g (r.vtable, r.value)).tally_of r.value) c.args.resolvers.now.items) c.args.now (request.Upload c.args.m.now) c.args.publisher.now c.draft_upload-worked.new.self (upload_by (publication_of c.args.publisher.now) (says_at (λ r. (goal.Resolver-dyn g (r.vtable, r.value)).says r.value) c.args.resolvers.now.items) (map (λ r. (goal.Resolver-dyn g (r.vtable, r.value)).tally_of r.value) c.args.resolvers.now.items) c.args.now c.args.m.now (tables_of c.args.publisher.now)) (told_alone c.draft_upload-worked.result) c.commits_upload-commits.result refl c.requires c.draft_upload-worked.ensures.same
    (ok-all (told_alone c.draft_upload-worked.result) (λ made. c.commits_upload-commits.ensures))
    (told-made c.draft_upload-worked.result (told_alone c.draft_upload-worked.result) refl (λ (d : Draft) (told : Uploaded). (upload_by (publication_of c.args.publisher.now) (says_at (λ r. (goal.Resolver-dyn g (r.vtable, r.value)).says r.value) c.args.resolvers.now.items) (map (λ r. (goal.Resolver-dyn g (r.vtable, r.value)).tally_of r.value) c.args.resolvers.now.items) c.args.now c.args.m.now (tables_of c.args.publisher.now)) ≡ Ok (after d.changes (tables_of c.args.publisher.now), told)) c.draft_upload-worked.ensures.made))

pub returns-clause-asked : goal.returns-clause-asked
returns-clause-asked g c =
    let told = map (λ r. (goal.Resolver-dyn g (r.vtable, r.value)).tally_of r.value) c.draft_upload-worked.new.resolvers.items in
    asked-upload c.commits_upload-commits.result c.draft_upload-worked.result c.upload_drafted.result c.upload_drafted.ensures (told ≡ tallies_after (map (λ r. (goal.Resolver-dyn g (r.vtable, r.value)).tally_of r.value) c.args.resolvers.now.items) (asked_on (publication_of c.args.publisher.now) c.args.now c.args.m.now (tables_of c.args.publisher.now))) c.draft_upload-worked.ensures.asked

pub returns-clause-none : goal.returns-clause-none
returns-clause-none g c = λ refusal no. c.draft_upload-worked.ensures.none refusal (reply-refused (λ (told : Uploaded). reply.Uploaded told) (upload_by (publication_of c.args.publisher.now) (says_at (λ r. (goal.Resolver-dyn g (r.vtable, r.value)).says r.value) c.args.resolvers.now.items) (map (λ r. (goal.Resolver-dyn g (r.vtable, r.value)).tally_of r.value) c.args.resolvers.now.items) c.args.now c.args.m.now (tables_of c.args.publisher.now)) refusal no)
