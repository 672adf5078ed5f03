use Rattle.std.proofs.Common.{map, subst, sym}
use Rattle.merge_resolve.specs.Asked.{says_at}
use Rattle.merge_steps.specs.Uploading.{pass_at}
use Rattle.merge_types.specs.declared.row_key.RowKey.{RowKey as Key}
use Rattle.merge_steps.specs.Keeps.{FitsHere}
use Rattle.merge_steps.proofs.Passing.{act-found, act-none, asked-found, none-asked, row-found}
use Rattle.merge_steps.proofs.acting.act_on.Goals as goal

pub meet-requires : goal.meet-requires
meet-requires g c = record {
  valid = c.requires.valid;
  held = subst (λ (k : Key). FitsHere c.args.publication.now c.args.acting.now.changes (k, c.in-Some.held.now.version)) c.key_of_item-key.ensures
      (row-found c.args.publication.now c.args.acting.now.changes c.key_of_item-key.result c.args.rows.now.rows c.requires.rows c.in-Some.held.now (sym c.in-Some.ensures.row));
  item = c.requires.item;
  changes = c.requires.changes;
  conflicts = c.requires.conflicts;
}

pub returns-in_ok-meet-in-Some-clause-passed : goal.returns-in_ok-meet-in-Some-clause-passed
returns-in_ok-meet-in-Some-clause-passed g c = act-found c.args.publication.now c.args.arrival c.args.item.now (says_at (λ r. (goal.Resolver-dyn g (r.vtable, r.value)).says r.value) c.args.resolvers.now.items) (pass_at c.args.acting.now (map (λ r. (goal.Resolver-dyn g (r.vtable, r.value)).tally_of r.value) c.args.resolvers.now.items)) (pass_at c.meet.new.acting (map (λ r. (goal.Resolver-dyn g (r.vtable, r.value)).tally_of r.value) c.meet.new.resolvers.items)) c.in-Some.held.now _ (rw c.key_of_item-key.ensures at c.in-Some.ensures.row) c.in_ok-meet-in-Some.ensures.passed

pub returns-in_ok-meet-in-Some-clause-asked : goal.returns-in_ok-meet-in-Some-clause-asked
returns-in_ok-meet-in-Some-clause-asked g c = asked-found c.args.publication.now c.args.arrival c.args.item.now _ _ c.in-Some.held.now _ (rw c.key_of_item-key.ensures at c.in-Some.ensures.row) c.in_ok-meet-in-Some.ensures.asked

pub returns-in_ok-come_in-in-None-clause-passed : goal.returns-in_ok-come_in-in-None-clause-passed
returns-in_ok-come_in-in-None-clause-passed g c = act-none c.args.publication.now c.args.arrival c.args.item.now (says_at (λ r. (goal.Resolver-dyn g (r.vtable, r.value)).says r.value) c.args.resolvers.now.items) (pass_at c.args.acting.now (map (λ r. (goal.Resolver-dyn g (r.vtable, r.value)).tally_of r.value) c.args.resolvers.now.items)) (pass_at c.come_in.new.acting (map (λ r. (goal.Resolver-dyn g (r.vtable, r.value)).tally_of r.value) c.args.resolvers.now.items)) _ (rw c.key_of_item-key.ensures at c.in-None.ensures.row) (c.in_ok-come_in-in-None.ensures.passed (says_at (λ r. (goal.Resolver-dyn g (r.vtable, r.value)).says r.value) c.args.resolvers.now.items) (map (λ r. (goal.Resolver-dyn g (r.vtable, r.value)).tally_of r.value) c.args.resolvers.now.items))

pub returns-in_ok-come_in-in-None-clause-asked : goal.returns-in_ok-come_in-in-None-clause-asked
returns-in_ok-come_in-in-None-clause-asked g c = none-asked _ _

pub returns-in_err-meet-in-Some-clause-asked : goal.returns-in_err-meet-in-Some-clause-asked
returns-in_err-meet-in-Some-clause-asked g c = asked-found c.args.publication.now c.args.arrival c.args.item.now _ _ c.in-Some.held.now _ (rw c.key_of_item-key.ensures at c.in-Some.ensures.row) c.meet.ensures.asked

pub returns-in_err-come_in-in-None-clause-asked : goal.returns-in_err-come_in-in-None-clause-asked
returns-in_err-come_in-in-None-clause-asked g c = none-asked _ _
