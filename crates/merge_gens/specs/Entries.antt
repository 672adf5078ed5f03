-- Index entries, and their order.
use Rattle.std.specs.Prelude.{◌≡◌, ℕ, Bool, ◌&&◌, nat_lt, nat_le, refl}
use Rattle.std.specs.Coded.{Coded, code_by, coded×, coded_ℕ}
use Rattle.std.proofs.Common.{ap}
use Rattle.std.specs.declared.cmp.Ordering.{Ordering}
use Rattle.std.specs.declared.cmp.Ordering.TheVariants.{Equal}
use Rattle.std.specs.Ordering.{nat_cmp, ordering_then}
use Rattle.std.proofs.lemmas.Map.Lookups.{exact_unsigned, exact_pairs}
use Rattle.merge_types.specs.RowKeys.{key_cmp, key_exact}
use Rattle.merge_types.specs.declared.row_key.RowKey.{RowKey}
use Rattle.merge_gens.specs.declared.index.IndexEntry.{IndexEntry}

abbrev pub entry_of : ℕ → RowKey → IndexEntry
entry_of generation key = record { generation = generation; key = key }

-- by generation, then by row
abbrev pub entry_cmp : IndexEntry → IndexEntry → Ordering
entry_cmp a b = ordering_then (nat_cmp a.generation b.generation) (key_cmp a.key b.key)

abbrev pub entry_from : ℕ × RowKey → IndexEntry
entry_from p = entry_of p.0 p.1

-- entries that compare as equal are the same
pub entry_exact : (a b : IndexEntry) → entry_cmp a b ≡ Equal → a ≡ b
entry_exact a b tied = ap entry_from (exact_pairs nat_cmp key_cmp exact_unsigned key_exact (a.generation, a.key) (b.generation, b.key) tied)

abbrev pub row_of : IndexEntry → RowKey
row_of entry = entry.key

-- whether the generation is behind one, up to another
abbrev pub is_between : ℕ → ℕ → IndexEntry → Bool
is_between from to entry = nat_lt from entry.generation && nat_le entry.generation to

-- an entry is stored as its three numbers
abbrev pub entry_from_numbers : ℕ × (ℕ × ℕ) → IndexEntry
entry_from_numbers p = entry_of p.0 (record { article = p.1.0; row = record { 0 = p.1.1 } })

abbrev pub entry_code : Coded IndexEntry
entry_code = code_by (ℕ × (ℕ × ℕ)) (coded× coded_ℕ (coded× coded_ℕ coded_ℕ)) (λ e. (e.generation, (e.key.article, e.key.row.0))) entry_from_numbers (λ _. refl)
