use Rattle.merge_laws.proofs.Runs.ValidRules.{valid-rules}
use Rattle.merge_laws.proofs.promised.valid_publications_have_values.Goals as goal

pub returns : goal.returns
returns c resolvers publication valid = valid-rules resolvers publication valid
