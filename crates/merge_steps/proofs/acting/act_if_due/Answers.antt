use Rattle.std.proofs.Common.{◌≡◌, ◌∙◌, map, sym}
use Rattle.merge_resolve.specs.Asked.{says_at}
use Rattle.merge_steps.specs.Uploading.{pass_at}
use Rattle.merge_steps.proofs.Passing.{due-asked, due-passed, idle-passed, none-asked, nothing-grows}
use Rattle.merge_steps.proofs.acting.act_if_due.Goals as goal

pub returns-then-acts_in-clause-passed : goal.returns-then-acts_in-clause-passed
returns-then-acts_in-clause-passed g c = due-passed c.args.publication.now c.args.arrival c.args.item.now c.args.rows.now.rows (says_at (λ r. (goal.Resolver-dyn g (r.vtable, r.value)).says r.value) c.args.resolvers.now.items) (pass_at c.args.acting.now (map (λ r. (goal.Resolver-dyn g (r.vtable, r.value)).tally_of r.value) c.args.resolvers.now.items)) (pass_at c.act_on.new.acting (map (λ r. (goal.Resolver-dyn g (r.vtable, r.value)).tally_of r.value) c.act_on.new.resolvers.items)) (sym c.acts_in.ensures ∙ c.if-acts_in.true) c.in_ok-act_on.ensures.passed

pub returns-then-acts_in-clause-asked : goal.returns-then-acts_in-clause-asked
returns-then-acts_in-clause-asked g c = due-asked c.args.publication.now c.args.arrival c.args.item.now c.args.rows.now.rows _ _ (sym c.acts_in.ensures ∙ c.if-acts_in.true) c.in_ok-act_on.ensures.asked

pub returns-in_err-act_on-clause-asked : goal.returns-in_err-act_on-clause-asked
returns-in_err-act_on-clause-asked g c = due-asked c.args.publication.now c.args.arrival c.args.item.now c.args.rows.now.rows _ _ (sym c.acts_in.ensures ∙ c.if-acts_in.true) c.act_on.ensures.asked

pub returns-clause-passed : goal.returns-clause-passed
returns-clause-passed g c = idle-passed c.args.publication.now c.args.arrival c.args.item.now c.args.rows.now.rows (says_at (λ r. (goal.Resolver-dyn g (r.vtable, r.value)).says r.value) c.args.resolvers.now.items) (pass_at c.args.acting.now (map (λ r. (goal.Resolver-dyn g (r.vtable, r.value)).tally_of r.value) c.args.resolvers.now.items)) (sym c.acts_in.ensures ∙ c.if-acts_in.false)

pub returns-clause-grows : goal.returns-clause-grows
returns-clause-grows g c = nothing-grows c.args.acting.now

pub returns-clause-fits : goal.returns-clause-fits
returns-clause-fits g c = λ all. all

pub returns-clause-asked : goal.returns-clause-asked
returns-clause-asked g c = none-asked _ _
