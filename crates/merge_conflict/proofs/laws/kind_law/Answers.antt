use Rattle.std.proofs.Common.{refl}
use Rattle.merge_conflict.specs.Kinds.{KindIsRead}
use Rattle.merge_conflict.specs.declared.kind.ConflictKind.TheVariants as kind
use Rattle.merge_conflict.proofs.laws.kind_law.Goals as goal

kind_is_read : KindIsRead
kind_is_read kind.Discarded = refl
kind_is_read kind.RowUpdate = refl
kind_is_read kind.ColumnUpdate = refl
kind_is_read kind.DeleteWins = refl
kind_is_read kind.UpdateWins = refl

pub returns : goal.returns
returns c = kind_is_read
