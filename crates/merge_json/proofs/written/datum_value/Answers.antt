use Rattle.std.proofs.Common.{rules, ◌≡◌, ℕ, List, Some, subst}
use Rattle.merge_types.specs.Literal.{IsProper}
use Rattle.merge_types.specs.declared.values.Value.TheVariants.{Bytes}
use Rattle.merge_json.specs.Values.{value_at}
use Rattle.merge_json.specs.Written.{value_data}
use Rattle.merge_json.proofs.Again.{null_again, int_again, bit_again, text_again, day_value_again, again_of}
use Rattle.merge_json.proofs.written.datum_value.Goals as goal

pub returns-in-Null-clause-again : goal.returns-in-Null-clause-again
returns-in-Null-clause-again c = again_of _ _ c.in-Null.is null_again

pub returns-in-Int-clause-again : goal.returns-in-Int-clause-again
returns-in-Int-clause-again c = again_of _ _ c.in-Int.is (int_again _ (search rules))

pub returns-in-Bit-clause-again : goal.returns-in-Bit-clause-again
returns-in-Bit-clause-again c = again_of _ _ c.in-Bit.is (bit_again _)

pub returns-in_ok-try_from_str-in-Text-clause-again : goal.returns-in_ok-try_from_str-in-Text-clause-again
returns-in_ok-try_from_str-in-Text-clause-again c = again_of _ _ c.in-Text.is (text_again _)

pub returns-in_ok-day_value-in-Day-clause-again : goal.returns-in_ok-day_value-in-Day-clause-again
returns-in_ok-day_value-in-Day-clause-again c = again_of _ _ c.in-Day.is (day_value_again _ (subst IsProper c.in-Day.is c.requires))

pub returns-in_ok-guid_value-in-Guid-clause-again : goal.returns-in_ok-guid_value-in-Guid-clause-again
returns-in_ok-guid_value-in-Guid-clause-again c = again_of _ _ c.in-Guid.is c.in_ok-guid_value-in-Guid.ensures.again

pub returns-in_ok-bytes_value-in-Bytes-clause-again : goal.returns-in_ok-bytes_value-in-Bytes-clause-again
returns-in_ok-bytes_value-in-Bytes-clause-again c = again_of _ _ c.in-Bytes.is (subst (λ (bs : List ℕ). value_at (value_data (Bytes bs)) ≡ Some (Bytes bs)) c.as_slice.ensures c.in_ok-bytes_value-in-Bytes.ensures.again)
