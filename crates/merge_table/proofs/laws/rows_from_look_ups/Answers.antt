use Rattle.merge_table.proofs.LookUps.{rows_from_look_ups}
use Rattle.merge_table.proofs.laws.rows_from_look_ups.Goals as goal

pub returns : goal.returns
returns g c = rows_from_look_ups _ g.met.K.Ord.total g.met.K.TableKey.equal_is_same _ _ c.iter.ensures.ordered c.iter-2.ensures.ordered
