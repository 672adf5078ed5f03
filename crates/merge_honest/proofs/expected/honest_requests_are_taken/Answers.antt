use Rattle.merge_honest.proofs.HonestTaken.{honest-taken}
use Rattle.merge_honest.proofs.expected.honest_requests_are_taken.Goals as goal

pub returns : goal.returns
returns c resolvers publication valid says tallies slips events = honest-taken c.identity_values_are_right.ensures resolvers publication valid says tallies slips events
