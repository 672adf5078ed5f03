use Rattle.std.proofs.Common.{add-zero, arith, sym, ◌∙◌}
use Rattle.merge_world.proofs.Rounds.{downloads-answered, downloads-begin, downloads-done, downloads-last, downloads-more, downloads-unanswered, ran-so, stands-so}
use Rattle.merge_world.proofs.Sessions.{still-ordered}
use Rattle.merge_world.proofs.world.Sites.downloading.Goals as goal

pub exchange-requires : goal.exchange-requires
exchange-requires g c = still-ordered _ _ (c.loop-at.invariant.stands 0 0).keeps.stays c.requires

pub loop-at-init : goal.loop-at-init
loop-at-init g c = record { counted = omega arith; stands = λ x y. stands-so _ _ _ _ _ _ _ _ _ _ _ _ (add-zero y) (downloads-begin c.args.site _ _ c.args.most c.args.target x y) }

pub loop-at-preserved : goal.loop-at-preserved
loop-at-preserved g c = let counted = c.loop-at.invariant.counted in let one = c.one_if-count.ensures.within in let is = c.one_if-count.ensures.value in record {
  counted = omega (arith, counted, one);
  stands = λ x y. stands-so _ _ _ _ _ _ _ _ _ _ _ _ (omega (arith, is)) (downloads-more c.args.site c.args.most c.loop-at.at _ _ _ _ _ _ c.loop-at-test.true c.args.target x y _ (c.loop-at.invariant.stands x y) _ (sym c.if-is_past.false ∙ c.is_past.ensures) (rw c.in-Taken.is at c.exchange.ensures));
}

pub returns-then-is_past : goal.returns-then-is_past
returns-then-is_past g c = let counted = c.loop-at.invariant.counted in let one = c.one_if-count.ensures.within in let is = c.one_if-count.ensures.value in let lt = c.loop-at-test.true in record {
  ran = λ x y. ran-so _ _ _ _ _ _ _ _ _ _ _ _ (omega (arith, is)) (downloads-last c.args.site c.args.most c.loop-at.at _ _ _ _ _ _ c.loop-at-test.true c.args.target x y _ (c.loop-at.invariant.stands x y) _ (sym c.if-is_past.true ∙ c.is_past.ensures) (rw c.in-Taken.is at c.exchange.ensures));
  few = omega (arith, counted, one, lt);
}

pub returns-in-Answered : goal.returns-in-Answered
returns-in-Answered g c = let counted = c.loop-at.invariant.counted in let one = c.one_if-last.ensures.within in let is = c.one_if-last.ensures.value in let lt = c.loop-at-test.true in record {
  ran = λ x y. ran-so _ _ _ _ _ _ _ _ _ _ _ _ (omega (arith, is)) (downloads-answered c.args.site c.args.most c.loop-at.at _ _ _ _ _ _ c.loop-at-test.true c.args.target x y _ (c.loop-at.invariant.stands x y) _ c.in-Answered.stop (rw c.in-Answered.is at c.exchange.ensures));
  few = omega (arith, counted, one, lt);
}

pub returns-in-Unanswered : goal.returns-in-Unanswered
returns-in-Unanswered g c = let counted = c.loop-at.invariant.counted in let lt = c.loop-at-test.true in record {
  ran = λ x y. downloads-unanswered c.args.site c.args.most c.loop-at.at _ _ _ _ _ _ c.loop-at-test.true c.args.target x y _ (c.loop-at.invariant.stands x y) c.in-Unanswered.stop (rw c.in-Unanswered.is at c.exchange.ensures);
  few = omega (arith, counted, lt);
}

pub returns : goal.returns
returns g c = record {
  ran = λ x y. downloads-done c.args.site c.args.most c.loop-at.at _ _ _ _ c.loop-at-test.false c.args.target x y _ (c.loop-at.invariant.stands x y);
  few = let counted = c.loop-at.invariant.counted in omega arith;
}
