use Rattle.merge_resolve.proofs.Ranges.{u128_ranges}
use Rattle.merge_resolve.proofs.typed.guid_is_typed.Goals as goal

pub returns : goal.returns
returns c = u128_ranges c.args.guid c.ranges.guid.fits
