use Rattle.merge_world.specs.Sessions.{download_in, last_in}
use Rattle.merge_world.proofs.Rounds.{firsts-answered, firsts-more, firsts-only, firsts-unanswered, left-beyond, ran-so}
use Rattle.merge_world.proofs.Sessions.{still-ordered}
use Rattle.merge_world.proofs.world.Sites.all_downloads.Goals as goal

pub more_downloads-requires-clause-ordered : goal.more_downloads-requires-clause-ordered
more_downloads-requires-clause-ordered g c = still-ordered _ _ c.exchange.ensures.keeps.stays c.requires

pub more_downloads-requires-clause-beyond : goal.more_downloads-requires-clause-beyond
more_downloads-requires-clause-beyond g c = left-beyond (download_in (last_in c.exchange.new.self.pool.items)) c.in-Some.span c.in-Some.ensures

pub returns-in-None : goal.returns-in-None
returns-in-None g c = λ x. ran-so _ _ _ _ _ _ _ _ _ _ _ _ c.one_if.ensures.value (firsts-only c.args.site _ _ _ _ x _ c.in-None.ensures (rw c.in-Taken.is at c.exchange.ensures))

pub returns-in-Some : goal.returns-in-Some
returns-in-Some g c = λ x. firsts-more c.args.site _ _ _ _ x _ _ _ c.in-Some.span _ _ (rw c.in-Taken.is at c.exchange.ensures) c.in-Some.ensures (c.more_downloads.ensures x)

pub returns-in-Answered : goal.returns-in-Answered
returns-in-Answered g c = λ x. ran-so _ _ _ _ _ _ _ _ _ _ _ _ c.one_if-in-Answered.ensures.value (firsts-answered c.args.site _ _ _ _ x _ c.in-Answered.stop (rw c.in-Answered.is at c.exchange.ensures))

pub returns-in-Unanswered : goal.returns-in-Unanswered
returns-in-Unanswered g c = λ x. firsts-unanswered c.args.site _ _ _ _ x c.in-Unanswered.stop (rw c.in-Unanswered.is at c.exchange.ensures)
