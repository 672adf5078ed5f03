use Rattle.std.proofs.Common.{None, map, refl, rules}
use Rattle.merge_resolve.specs.Asked.{says_at}
use Rattle.merge_pub.specs.Held.{publication_of, tables_of}
use Rattle.merge_pub.proofs.Costs.{within-more}
use Rattle.merge_pub.proofs.UploadMade.{upload-allowed, upload-asked, upload-decided, upload-made, upload-some}
use Rattle.merge_pub.proofs.publisher.Publisher.draft_upload.Goals as goal

pub returns-clause-made : goal.returns-clause-made
returns-clause-made g c =
    upload-made (publication_of c.args.self.now) c.args.now c.args.upload.now (tables_of c.args.self.now) _ _ _ _ c.in_ok-arrival.arrival c.in_ok-acting.acting _ c.in_ok-arrival.ensures.refusal c.in_ok-arrival.ensures.arrival
    c.in_ok-acting.ensures.passed c.in_ok-draft.ensures.made (search rules)

pub returns-clause-decided : goal.returns-clause-decided
returns-clause-decided g c =
    upload-decided (publication_of c.args.self.now) c.args.now c.args.upload.now (tables_of c.args.self.now) (says_at (λ r. (goal.Resolver-dyn g (r.vtable, r.value)).says r.value) c.args.resolvers.now.items) (map (λ r. (goal.Resolver-dyn g (r.vtable, r.value)).tally_of r.value) c.args.resolvers.now.items) c.in_ok-arrival.arrival _ c.in_ok-acting.acting.decisions c.in_ok-arrival.ensures.arrival c.in_ok-draft.ensures.decided c.in_ok-acting.ensures.decided

pub returns-clause-asked : goal.returns-clause-asked
returns-clause-asked g c =
    upload-asked (publication_of c.args.self.now) c.args.now c.args.upload.now (tables_of c.args.self.now) _ _ _ c.in_ok-arrival.arrival c.in_ok-acting.acting c.in_ok-arrival.ensures.arrival c.in_ok-acting.ensures.passed

pub returns-clause-some : goal.returns-clause-some
returns-clause-some g c =
    upload-some (publication_of c.args.self.now) c.args.now c.args.upload.now (tables_of c.args.self.now) (λ k n q. None) _ _ c.in_ok-arrival.arrival c.in_ok-arrival.ensures.arrival c.in_ok-acting.ensures.asked

pub returns-in_err-draft-clause-some : goal.returns-in_err-draft-clause-some
returns-in_err-draft-clause-some g c =
    upload-some (publication_of c.args.self.now) c.args.now c.args.upload.now (tables_of c.args.self.now) (λ k n q. None) _ _ c.in_ok-arrival.arrival c.in_ok-arrival.ensures.arrival c.in_ok-acting.ensures.asked

pub returns-in_err-acting-clause-some : goal.returns-in_err-acting-clause-some
returns-in_err-acting-clause-some g c =
    upload-some (publication_of c.args.self.now) c.args.now c.args.upload.now (tables_of c.args.self.now) (λ k n q. None) _ _ c.in_ok-arrival.arrival c.in_ok-arrival.ensures.arrival c.act_on_upload.ensures.asked

pub returns-in_err-arrival-clause-some : goal.returns-in_err-arrival-clause-some
returns-in_err-arrival-clause-some g c = (0, refl)

pub returns-clause-none : goal.returns-clause-none
returns-clause-none g c = λ refusal refused. absurd (upload-allowed (publication_of c.args.self.now) c.args.now c.args.upload.now (tables_of c.args.self.now) (says_at (λ r. (goal.Resolver-dyn g (r.vtable, r.value)).says r.value) c.args.resolvers.now.items) (map (λ r. (goal.Resolver-dyn g (r.vtable, r.value)).tally_of r.value) c.args.resolvers.now.items) refusal c.in_ok-arrival.ensures.refusal refused)

pub returns-in_err-draft-clause-none : goal.returns-in_err-draft-clause-none
returns-in_err-draft-clause-none g c = λ refusal refused. absurd (upload-allowed (publication_of c.args.self.now) c.args.now c.args.upload.now (tables_of c.args.self.now) (says_at (λ r. (goal.Resolver-dyn g (r.vtable, r.value)).says r.value) c.args.resolvers.now.items) (map (λ r. (goal.Resolver-dyn g (r.vtable, r.value)).tally_of r.value) c.args.resolvers.now.items) refusal c.in_ok-arrival.ensures.refusal refused)

pub returns-in_err-acting-clause-none : goal.returns-in_err-acting-clause-none
returns-in_err-acting-clause-none g c = λ refusal refused. absurd (upload-allowed (publication_of c.args.self.now) c.args.now c.args.upload.now (tables_of c.args.self.now) (says_at (λ r. (goal.Resolver-dyn g (r.vtable, r.value)).says r.value) c.args.resolvers.now.items) (map (λ r. (goal.Resolver-dyn g (r.vtable, r.value)).tally_of r.value) c.args.resolvers.now.items) refusal c.in_ok-arrival.ensures.refusal refused)

pub returns-in_err-arrival-clause-none : goal.returns-in_err-arrival-clause-none
returns-in_err-arrival-clause-none g c = λ refusal refused. refl

pub returns-clause-refuses : goal.returns-clause-refuses
returns-clause-refuses g c = λ refusal refused. absurd (upload-allowed (publication_of c.args.self.now) c.args.now c.args.upload.now (tables_of c.args.self.now) (says_at (λ r. (goal.Resolver-dyn g (r.vtable, r.value)).says r.value) c.args.resolvers.now.items) (map (λ r. (goal.Resolver-dyn g (r.vtable, r.value)).tally_of r.value) c.args.resolvers.now.items) refusal c.in_ok-arrival.ensures.refusal refused)

pub returns-in_err-draft-clause-refuses : goal.returns-in_err-draft-clause-refuses
returns-in_err-draft-clause-refuses g c = λ refusal refused. absurd (upload-allowed (publication_of c.args.self.now) c.args.now c.args.upload.now (tables_of c.args.self.now) (says_at (λ r. (goal.Resolver-dyn g (r.vtable, r.value)).says r.value) c.args.resolvers.now.items) (map (λ r. (goal.Resolver-dyn g (r.vtable, r.value)).tally_of r.value) c.args.resolvers.now.items) refusal c.in_ok-arrival.ensures.refusal refused)

pub returns-in_err-acting-clause-refuses : goal.returns-in_err-acting-clause-refuses
returns-in_err-acting-clause-refuses g c = λ refusal refused. absurd (upload-allowed (publication_of c.args.self.now) c.args.now c.args.upload.now (tables_of c.args.self.now) (says_at (λ r. (goal.Resolver-dyn g (r.vtable, r.value)).says r.value) c.args.resolvers.now.items) (map (λ r. (goal.Resolver-dyn g (r.vtable, r.value)).tally_of r.value) c.args.resolvers.now.items) refusal c.in_ok-arrival.ensures.refusal refused)

pub returns-clause-cost : goal.returns-clause-cost
returns-clause-cost g c = within-more _ _ _ _ _ c.in_ok-acting.ensures.few c.draft_taken.ensures.cost

pub returns-in_err-draft-clause-cost : goal.returns-in_err-draft-clause-cost
returns-in_err-draft-clause-cost g c = within-more _ _ _ _ _ c.in_ok-acting.ensures.few c.draft_taken.ensures.cost
