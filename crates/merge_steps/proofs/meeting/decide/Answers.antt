use Rattle.std.proofs.Common.{◌≡◌, ◌∙◌, map, refl, sym}
use Rattle.merge_resolve.specs.Asked.{says_at}
use Rattle.merge_steps.proofs.Meetings.{answer-fits, asked-none, asked-one, decision-none, decision-some, kept-when, question-none, tallies-none, tallies-one}
use Rattle.merge_steps.proofs.meeting.decide.Goals as goal

pub question_on-requires : goal.question_on-requires
question_on-requires g c = record {
  valid = c.requires.valid;
  held = c.requires.held;
  item = c.requires.item;
  case = c.requires.case;
  conflict = sym c.is_conflict.ensures ∙ c.if-is_conflict.true;
}

pub returns-then-is_conflict-clause-decision : goal.returns-then-is_conflict-clause-decision
returns-then-is_conflict-clause-decision g c = decision-some (says_at (λ r. (goal.Resolver-dyn g (r.vtable, r.value)).says r.value) c.args.resolvers.now.items) (map (λ r. (goal.Resolver-dyn g (r.vtable, r.value)).tally_of r.value) c.args.resolvers.now.items) c.in_ok-question.question _ c.in_ok-decision.decision c.in_ok-question.ensures c.in_ok-decision.ensures.decision

pub returns-then-is_conflict-clause-tallies : goal.returns-then-is_conflict-clause-tallies
returns-then-is_conflict-clause-tallies g c = tallies-one _ _ c.in_ok-question.question _ c.in_ok-question.ensures c.in_ok-decision.ensures.tallies

pub returns-then-is_conflict-clause-fits : goal.returns-then-is_conflict-clause-fits
returns-then-is_conflict-clause-fits g c =
    answer-fits c.requires.valid.0 c.args.publication.now c.requires.valid.1 c.args.arrival c.args.item.now c.args.held.now c.args.case.now c.requires.held c.requires.item c.requires.case (sym c.is_conflict.ensures ∙ c.if-is_conflict.true)
    c.in_ok-question.question c.in_ok-question.ensures (says_at (λ r. (goal.Resolver-dyn g (r.vtable, r.value)).says r.value) c.args.resolvers.now.items) (map (λ r. (goal.Resolver-dyn g (r.vtable, r.value)).tally_of r.value) c.args.resolvers.now.items) c.in_ok-decision.decision c.in_ok-decision.ensures.decision

pub returns-then-is_conflict-clause-asked : goal.returns-then-is_conflict-clause-asked
returns-then-is_conflict-clause-asked g c = asked-one _ _ c.in_ok-question.question _ c.in_ok-question.ensures c.in_ok-decision.ensures.tallies

pub returns-in_err-question-clause-asked : goal.returns-in_err-question-clause-asked
returns-in_err-question-clause-asked g c = asked-none _ _

pub returns-in_err-decision-clause-asked : goal.returns-in_err-decision-clause-asked
returns-in_err-decision-clause-asked g c = asked-one _ _ c.in_ok-question.question _ c.in_ok-question.ensures c.answer.ensures.tallies

pub returns-clause-decision : goal.returns-clause-decision
returns-clause-decision g c = decision-none (says_at (λ r. (goal.Resolver-dyn g (r.vtable, r.value)).says r.value) c.args.resolvers.now.items) (map (λ r. (goal.Resolver-dyn g (r.vtable, r.value)).tally_of r.value) c.args.resolvers.now.items) _ (question-none c.args.publication.now c.args.arrival c.args.item.now c.args.held.now c.args.case.now c.requires.case (sym c.is_conflict.ensures ∙ c.if-is_conflict.false))

pub returns-clause-tallies : goal.returns-clause-tallies
returns-clause-tallies g c = tallies-none _ _ _ (question-none c.args.publication.now c.args.arrival c.args.item.now c.args.held.now c.args.case.now c.requires.case (sym c.is_conflict.ensures ∙ c.if-is_conflict.false)) refl

pub returns-clause-fits : goal.returns-clause-fits
returns-clause-fits g c = kept-when c.requires.valid.0 c.args.publication.now c.requires.valid.1 c.args.item.now c.args.held.now c.requires.held c.requires.item

pub returns-clause-asked : goal.returns-clause-asked
returns-clause-asked g c = asked-none _ _
