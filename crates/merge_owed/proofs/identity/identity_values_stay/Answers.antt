use Rattle.merge_owed.proofs.IdentityKept.{taken-stands, values-taken}
use Rattle.merge_owed.proofs.identity.identity_values_stay.Goals as goal

pub returns : goal.returns
returns c = record {
  stay = taken-stands;
  taken = values-taken;
}
