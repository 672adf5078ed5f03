use Rattle.std.proofs.Common.{◌+◌, ap, length}
use Rattle.merge_world.proofs.Rounds.{ranges-all}
use Rattle.merge_world.proofs.world.Sites.all_ranges.Goals as goal

pub returns : goal.returns
returns g c = λ x y. ranges-all c.args.site _ _ _ _ x y x y _ _ (ap (λ l. length l + 4) c.grants.ensures) (c.asking_ranges.ensures x y)
