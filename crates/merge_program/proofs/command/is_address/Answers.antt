-- What is visible is an address.
use Rattle.merge_program.proofs.Addresses.{is-address}
use Rattle.merge_program.proofs.command.is_address.Goals as goal

pub returns : goal.returns
returns c = is-address _ _ _ c.as_str.ensures.text c.is_visible.ensures
