use Rattle.std.specs.Option.{option_copied}
use Rattle.merge_change.proofs.Places.{insert-length}
use Rattle.merge_change.proofs.checks.length_after.Goals as goal

-- the row is so short that its length is told whole
pub returns-in-Insert : goal.returns-in-Insert
returns-in-Insert c =
    insert-length c.args.publication.now c.args.change.now (option_copied c.args.held) c.requires.asked c.requires.columns c.in-Insert.article c.in-Insert.values c.in-Insert.is c.as_slice.result.now c.as_slice.ensures c.new_length.result c.new_length.ensures
