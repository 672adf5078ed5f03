use Rattle.std.proofs.Common.{sym, ◌∙◌}
use Rattle.merge_world.proofs.Rounds.{ranges-answered, ranges-begin, ranges-done, ranges-last, ranges-more, ranges-unanswered}
use Rattle.merge_world.proofs.Sessions.{still-ordered}
use Rattle.merge_world.proofs.world.Sites.asking_ranges.Goals as goal

pub loop-at-init : goal.loop-at-init
loop-at-init g c = λ x y. ranges-begin c.args.site _ _ c.args.most x y

pub exchange-requires : goal.exchange-requires
exchange-requires g c = still-ordered _ _ (c.loop-at.invariant 0 0).keeps.stays c.requires

pub loop-at-preserved : goal.loop-at-preserved
loop-at-preserved g c = λ x y. ranges-more c.args.site c.args.most c.loop-at.at _ _ _ _ _ _ c.loop-at-test.true x y (c.loop-at.invariant x y) _ (sym c.if-not-grants.false ∙ c.grants.ensures) (rw c.in-Taken.is at c.exchange.ensures)

pub returns-then-not-grants : goal.returns-then-not-grants
returns-then-not-grants g c = λ x y. ranges-last c.args.site c.args.most c.loop-at.at _ _ _ _ _ _ c.loop-at-test.true x y (c.loop-at.invariant x y) _ (sym c.if-not-grants.true ∙ c.grants.ensures) (rw c.in-Taken.is at c.exchange.ensures)

pub returns-in-Answered : goal.returns-in-Answered
returns-in-Answered g c = λ x y. ranges-answered c.args.site c.args.most c.loop-at.at _ _ _ _ _ _ c.loop-at-test.true x y (c.loop-at.invariant x y) _ c.in-Answered.stop (rw c.in-Answered.is at c.exchange.ensures)

pub returns-in-Unanswered : goal.returns-in-Unanswered
returns-in-Unanswered g c = λ x y. ranges-unanswered c.args.site c.args.most c.loop-at.at _ _ _ _ _ _ c.loop-at-test.true x y (c.loop-at.invariant x y) c.in-Unanswered.stop (rw c.in-Unanswered.is at c.exchange.ensures)

pub returns : goal.returns
returns g c = λ x y. ranges-done c.args.site c.args.most c.loop-at.at _ _ _ _ c.loop-at-test.false x y (c.loop-at.invariant x y)
