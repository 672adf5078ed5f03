use Rattle.std.proofs.Common.{sym, ◌∙◌}
use Rattle.merge_world.proofs.Rounds.{join-none, joins-answered, joins-taken, joins-unanswered}
use Rattle.merge_world.proofs.world.Sites.join.Goals as goal

pub returns-then-is_joined : goal.returns-then-is_joined
returns-then-is_joined g c = join-none c.args.site _ _ (sym c.if-is_joined.true ∙ c.is_joined.ensures)

pub returns-in-Taken : goal.returns-in-Taken
returns-in-Taken g c = joins-taken c.args.site _ _ _ _ (sym c.if-is_joined.false ∙ c.is_joined.ensures) _ (rw c.in-Taken.is at c.exchange.ensures)

pub returns-in-Answered : goal.returns-in-Answered
returns-in-Answered g c = joins-answered c.args.site _ _ _ _ (sym c.if-is_joined.false ∙ c.is_joined.ensures) _ c.in-Answered.stop (rw c.in-Answered.is at c.exchange.ensures)

pub returns-in-Unanswered : goal.returns-in-Unanswered
returns-in-Unanswered g c = joins-unanswered c.args.site _ _ _ _ (sym c.if-is_joined.false ∙ c.is_joined.ensures) c.in-Unanswered.stop (rw c.in-Unanswered.is at c.exchange.ensures)
