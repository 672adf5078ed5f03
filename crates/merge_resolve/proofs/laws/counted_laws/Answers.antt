use Rattle.merge_resolve.proofs.CountedRows.{counted_fits, counted_stays_in_limit}
use Rattle.merge_resolve.proofs.laws.counted_laws.Goals as goal

pub returns : goal.returns
returns c = record { fits = counted_fits; limit = counted_stays_in_limit }
