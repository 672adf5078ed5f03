use Rattle.merge_table.proofs.LookUps.{lookup-rows_after}
use Rattle.merge_table.proofs.laws.look_ups_after.Goals as goal

pub returns : goal.returns
returns g c = λ q. lookup-rows_after _ g.met.K.Ord.total q _ _ c.iter.ensures.ordered
