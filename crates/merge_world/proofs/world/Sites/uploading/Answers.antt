use Rattle.std.proofs.Common.{arith}
use Rattle.merge_world.proofs.Rounds.{uploads-answered, uploads-begin, uploads-done, uploads-more, uploads-unanswered}
use Rattle.merge_world.proofs.Sessions.{still-ordered}
use Rattle.merge_world.proofs.world.Sites.uploading.Goals as goal

pub loop-at-init : goal.loop-at-init
loop-at-init g c = record { counted = omega arith; stands = uploads-begin c.args.site _ _ c.args.most }

pub exchange-requires : goal.exchange-requires
exchange-requires g c = still-ordered _ _ c.loop-at.invariant.stands.keeps.stays c.requires

pub loop-at-preserved : goal.loop-at-preserved
loop-at-preserved g c = let i = c.loop-at.invariant in let counted = i.counted in record {
  counted = omega (arith, counted);
  stands = uploads-more c.args.site c.args.most c.loop-at.at _ _ _ _ _ _ c.loop-at-test.true c.loop-at.count i.stands _ (rw c.in-Taken.is at c.exchange.ensures);
}

pub returns-in-Answered : goal.returns-in-Answered
returns-in-Answered g c = uploads-answered c.args.site c.args.most c.loop-at.at _ _ _ _ _ _ c.loop-at-test.true c.loop-at.count c.loop-at.invariant.stands _ c.in-Answered.stop (rw c.in-Answered.is at c.exchange.ensures)

pub returns-in-Unanswered : goal.returns-in-Unanswered
returns-in-Unanswered g c = uploads-unanswered c.args.site c.args.most c.loop-at.at _ _ _ _ _ _ c.loop-at-test.true c.loop-at.count c.loop-at.invariant.stands c.in-Unanswered.stop (rw c.in-Unanswered.is at c.exchange.ensures)

pub returns : goal.returns
returns g c = uploads-done c.args.site c.args.most c.loop-at.at _ _ _ _ c.loop-at-test.false c.loop-at.count c.loop-at.invariant.stands
