use Rattle.std.proofs.Common.{◌∙◌, sym}
use Rattle.std.proofs.lemmas.List.{get_or_default}
use Rattle.std.proofs.lemmas.Result.{IfOk-weaker}
use Rattle.merge_resolve.proofs.Changes.{changes_at-set}
use Rattle.merge_resolve.proofs.Asked.{says_at-asked, tallies-set, says_at-set}
use Rattle.merge_resolve.proofs.asking.ask_at.Goals as goal

-- the one that is asked is the one at the place
pub returns-clause-decision : goal.returns-clause-decision
returns-clause-decision g c =
    let read = c.index_mut-resolver.ensures.value ∙ get_or_default _ _ c.index_mut-resolver.result.now c.ask.new.resolver c.requires in
    IfOk-weaker _ _ _ (says_at-asked (λ r. (goal.Resolver-dyn g (r.vtable, r.value)).says r.value) (λ r. (goal.Resolver-dyn g (r.vtable, r.value)).tally_of r.value) c.args.resolvers.now.items c.args.at c.ask.new.resolver c.index_mut-resolver.result.now c.args.case.now c.requires read) c.ask.ensures.decision

pub returns-clause-tallies : goal.returns-clause-tallies
returns-clause-tallies g c =
    let read = get_or_default _ _ c.ask.new.resolver c.index_mut-resolver.result.now c.requires ∙ sym c.index_mut-resolver.ensures.value in
    tallies-set _ _ _ _ c.requires (rw read c.ask.ensures.counted)

pub returns-clause-steady : goal.returns-clause-steady
returns-clause-steady g c =
    let read = get_or_default _ _ c.ask.new.resolver c.index_mut-resolver.result.now c.requires ∙ sym c.index_mut-resolver.ensures.value in
    says_at-set _ _ _ _ c.requires (rw read c.ask.ensures.steady)

-- the resolver at the place was asked, and written back
pub returns-clause-others : goal.returns-clause-others
returns-clause-others g c =
    let read = get_or_default _ _ c.ask.new.resolver c.index_mut-resolver.result.now c.requires ∙ sym c.index_mut-resolver.ensures.value in
    changes_at-set _ _ _ _ c.requires (rw read (c.ask.ensures.counted, c.ask.ensures.steady))
