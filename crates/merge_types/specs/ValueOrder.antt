-- The order of values.
use Rattle.std.specs.Prelude.{◌≡◌, true, false}
use Rattle.std.proofs.Common.{refl, ap}
use Rattle.std.specs.declared.cmp.Ordering.{Ordering}
use Rattle.std.specs.declared.cmp.Ordering.TheVariants.{Equal}
use Rattle.std.specs.Cmp.{IsTotalOrder}
use Rattle.std.proofs.lemmas.Map.Lookups.{exact_unsigned, exact_signed, exact_bytes}
use Rattle.merge_types.specs.declared.values.Value.{Value}
use Rattle.merge_types.specs.declared.values.Value.TheVariants as values
use Rattle.merge_types.specs.contracts.values.ValueOrd.TheImpl.{cmp-value}
use Rattle.merge_types.specs.contracts.values.ValueOrd.TheImpl.Laws.{total-law}

-- by type, and within it as numbers, or as texts and bytes are
abbrev pub value_cmp : Value → Value → Ordering
value_cmp = cmp-value.it

pub value_total : IsTotalOrder value_cmp
value_total = total-law

-- values that compare as equal are the same
pub value_exact : (a b : Value) → value_cmp a b ≡ Equal → a ≡ b
value_exact values.Null values.Null tied = refl
value_exact (values.Int a) (values.Int b) tied = ap values.Int (exact_signed a b tied)
value_exact (values.Bit true) (values.Bit true) tied = refl
value_exact (values.Bit false) (values.Bit false) tied = refl
value_exact (values.Text a) (values.Text b) tied = ap values.Text (exact_bytes a b tied)
value_exact (values.Day a) (values.Day b) tied = ap values.Day (exact_signed a b tied)
value_exact (values.Guid a) (values.Guid b) tied = ap values.Guid (exact_unsigned a b tied)
value_exact (values.Bytes a) (values.Bytes b) tied = ap values.Bytes (exact_bytes a b tied)
value_exact a b tied = absurd cc
