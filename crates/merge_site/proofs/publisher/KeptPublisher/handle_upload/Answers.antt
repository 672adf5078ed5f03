use Rattle.std.proofs.Common.{◌≡◌, map, refl, subst, sym}
use Rattle.std.specs.Prelude.{Ok}
use Rattle.merge_batch.specs.declared.reply.Reply.TheVariants as reply
use Rattle.merge_batch.specs.declared.reply.Uploaded.{Uploaded}
use Rattle.merge_batch.specs.declared.refusal.Refusal.{Refusal}
use Rattle.merge_batch.specs.declared.request.Request.TheVariants as request
use Rattle.merge_resolve.specs.Asked.{says_at, tallies_after}
use Rattle.merge_model.specs.Laws.{AreSorted}
use Rattle.merge_pub.specs.After.{after}
use Rattle.merge_pub.specs.Held.{IsDrafted, publication_of, tables_of}
use Rattle.merge_pub.specs.Uploaded.{asked_on, upload_by}
use Rattle.merge_steps.specs.declared.changes.Draft.{Draft}
use Rattle.merge_world.specs.Views.{PublisherView}
use Rattle.merge_site.specs.Calls.{IsRefused}
use Rattle.merge_site.proofs.Called.{ok-all}
use Rattle.merge_site.proofs.PublisherCalls.{view_of}
use Rattle.merge_site.proofs.PublisherRequests.{request-called, request-counted, request-still}
use Rattle.merge_site.proofs.UploadTold.{told-asked, told-made, told-refused}
use Rattle.merge_site.proofs.publisher.KeptPublisher.handle_upload.Goals as goal

pub finish-requires-clause-drafted : goal.finish-requires-clause-drafted
finish-requires-clause-drafted g c =
    told-made c.draft_upload-drafted.result c.told_alone-worked.result c.told_alone-worked.ensures (λ (d : Draft) (told : Uploaded). IsDrafted c.draft_upload-drafted.new.self d) c.draft_upload-drafted.ensures.ready

pub finish-requires-clause-still : goal.finish-requires-clause-still
finish-requires-clause-still g c =
    let says = says_at (λ r. (goal.Resolver-dyn g (r.vtable, r.value)).says r.value) c.args.resolvers.now.items in
    let tallies = map (λ r. (goal.Resolver-dyn g (r.vtable, r.value)).tally_of r.value) c.args.resolvers.now.items in
    let by = upload_by (publication_of c.self.inside.publisher) says tallies c.args.now c.args.m.now (tables_of c.self.inside.publisher) in
    request-still (λ (told : Uploaded). reply.Uploaded told) says tallies c.args.now (request.Upload c.args.m.now) c.self.inside.publisher c.draft_upload-drafted.new.self by c.told_alone-worked.result c.commits_upload-commits.result refl (subst (λ (v : PublisherView). AreSorted v.tables) (sym c.self.view_is) c.requires) c.draft_upload-drafted.ensures.same
    (ok-all c.told_alone-worked.result (λ made. c.commits_upload-commits.ensures))
    (told-made c.draft_upload-drafted.result c.told_alone-worked.result c.told_alone-worked.ensures (λ (d : Draft) (told : Uploaded). by ≡ Ok (after d.changes (tables_of c.self.inside.publisher), told)) c.draft_upload-drafted.ensures.made)

pub returns-clause-called : goal.returns-clause-called
returns-clause-called g c =
    let says = says_at (λ r. (goal.Resolver-dyn g (r.vtable, r.value)).says r.value) c.args.resolvers.now.items in
    let tallies = map (λ r. (goal.Resolver-dyn g (r.vtable, r.value)).tally_of r.value) c.args.resolvers.now.items in
    let by = upload_by (publication_of c.self.inside.publisher) says tallies c.args.now c.args.m.now (tables_of c.self.inside.publisher) in
    request-called _ c.self.inside.publisher c.draft_upload-drafted.new.self c.finish.new.publisher (g.K.Keeper.count c.self.inside.keeper) (g.K.Keeper.count c.finish.new.keeper) c.self.view_is c.draft_upload-drafted.ensures.same c.args.now (request.Upload c.args.m.now) (λ publication p. upload_by publication says tallies c.args.now c.args.m.now p) c.commits_upload-commits.result c.told_alone-worked.result c.finish.result
    (told-made c.draft_upload-drafted.result c.told_alone-worked.result c.told_alone-worked.ensures (λ (d : Draft) (told : Uploaded). by ≡ Ok (after d.changes (tables_of c.self.inside.publisher), told)) c.draft_upload-drafted.ensures.made)
    (told-refused c.draft_upload-drafted.result c.told_alone-worked.result c.told_alone-worked.ensures (λ (why : Refusal). IsRefused by why) c.draft_upload-drafted.ensures.refused) c.finish.ensures.called
    (ok-all c.told_alone-worked.result (λ made. c.commits_upload-commits.ensures))

pub returns-clause-counted : goal.returns-clause-counted
returns-clause-counted g c =
    let says = says_at (λ r. (goal.Resolver-dyn g (r.vtable, r.value)).says r.value) c.args.resolvers.now.items in
    let tallies = map (λ r. (goal.Resolver-dyn g (r.vtable, r.value)).tally_of r.value) c.args.resolvers.now.items in
    let told = map (λ r. (goal.Resolver-dyn g (r.vtable, r.value)).tally_of r.value) c.draft_upload-drafted.new.resolvers.items in
    request-counted _ (view_of c.self.inside.publisher (g.K.Keeper.count c.self.inside.keeper) (g.K.Keeper.told c.self.inside.keeper)) c.self.view_is (λ (v : PublisherView). upload_by v.publication says tallies c.args.now c.args.m.now v.tables) (λ (v : PublisherView). asked_on v.publication c.args.now c.args.m.now v.tables) tallies _ c.told_alone-worked.result c.finish.result
    (told-asked c.draft_upload-drafted.result c.told_alone-worked.result c.told_alone-worked.ensures (told ≡ tallies_after tallies (asked_on (publication_of c.self.inside.publisher) c.args.now c.args.m.now (tables_of c.self.inside.publisher))) c.draft_upload-drafted.ensures.asked)
    c.draft_upload-drafted.ensures.some c.draft_upload-drafted.ensures.none c.finish.ensures.worked
