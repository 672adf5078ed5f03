use Rattle.std.proofs.Common.{◌+◌, ◌-◌, ap, arith}
use Rattle.merge_world.specs.Sessions.{one_if}
use Rattle.merge_world.proofs.Rounds.{downloads-want, ran-so}
use Rattle.merge_world.proofs.world.Sites.more_downloads.Goals as goal

pub returns-then-span-ge-NUMBER_LIMIT : goal.returns-then-span-ge-NUMBER_LIMIT
returns-then-span-ge-NUMBER_LIMIT g c = λ x. ran-so _ _ _ _ _ _ _ _ _ _ _ _ c.one_if.ensures.value
    (downloads-want c.args.site _ _ (c.args.span.last + 1 - c.args.span.from) c.args.span.last x _ (let beyond = c.requires.beyond in omega (arith, beyond)))

pub returns : goal.returns
returns g c = λ x. ran-so _ _ _ _ _ _ _ _ _ _ _ _ (ap (λ n. n + c.downloading-count.result.count) c.one_if-2.ensures.value) (c.downloading-count.ensures.ran x (one_if c.args.brings))
