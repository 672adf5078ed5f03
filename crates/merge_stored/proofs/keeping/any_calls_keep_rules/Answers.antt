use Rattle.merge_model.specs.Publisher.{new_holders}
use Rattle.merge_stored.specs.Keeping.{after_calls}
use Rattle.merge_stored.specs.Stored.{publisher_stored}
use Rattle.merge_stored.proofs.AnyCalls.Rules.{any-calls, new-publishers}
use Rattle.merge_stored.proofs.keeping.any_calls_keep_rules.Goals as goal

pub returns : goal.returns
returns c = record {
  begins = new-publishers;
  rules = any-calls;
  loads = λ resolvers publication valid p keeps calls fit.
      c.publisher_stored_tables_load.ensures publication (new_holders publication) (publisher_stored (after_calls publication p calls)) (any-calls resolvers publication valid p keeps calls fit);
}
