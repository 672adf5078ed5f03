-- The order of rows.
use Rattle.std.specs.Prelude.{◌≡◌, ℕ}
use Rattle.std.proofs.Common.{ap}
use Rattle.std.specs.declared.cmp.Ordering.{Ordering}
use Rattle.std.specs.declared.cmp.Ordering.TheVariants.{Equal}
use Rattle.std.specs.Ordering.{nat_cmp, ordering_then}
use Rattle.std.proofs.lemmas.Map.Lookups.{exact_unsigned, exact_pairs}
use Rattle.merge_types.specs.declared.row_key.RowKey.{RowKey}

-- by article, then by identifier
abbrev pub key_cmp : RowKey → RowKey → Ordering
key_cmp a b = ordering_then (nat_cmp a.article b.article) (nat_cmp a.row.0 b.row.0)

abbrev pub key_from : ℕ × ℕ → RowKey
key_from p = record { article = p.0; row = record { 0 = p.1 } }

-- keys that compare as equal are the same
pub key_exact : (a b : RowKey) → key_cmp a b ≡ Equal → a ≡ b
key_exact a b tied = ap key_from (exact_pairs nat_cmp nat_cmp exact_unsigned exact_unsigned (a.article, a.row.0) (b.article, b.row.0) tied)
