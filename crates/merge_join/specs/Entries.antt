-- Entries, and their order.
use Rattle.std.specs.Prelude.{◌≡◌, ℕ, Bool, ◌&&◌, ◌==◌}
use Rattle.std.proofs.Common.{ap}
use Rattle.std.specs.declared.cmp.Ordering.{Ordering}
use Rattle.std.specs.declared.cmp.Ordering.TheVariants.{Equal}
use Rattle.std.specs.Ordering.{nat_cmp, ordering_then}
use Rattle.std.specs.BTreeMap.{is_at}
use Rattle.std.proofs.lemmas.Map.Lookups.{exact_unsigned, exact_pairs}
use Rattle.merge_types.specs.declared.values.Value.{Value}
use Rattle.merge_types.specs.ValueOrder.{value_cmp, value_exact}
use Rattle.merge_join.specs.declared.entry.JoinEntry.{JoinEntry}

-- by value, then by join, then by child
abbrev pub entry_cmp : JoinEntry → JoinEntry → Ordering
entry_cmp a b = ordering_then (value_cmp a.value b.value) (ordering_then (nat_cmp a.join b.join) (nat_cmp a.child.0 b.child.0))

abbrev entry_from : Value × (ℕ × ℕ) → JoinEntry
entry_from p = record { value = p.0; join = p.1.0; child = record { 0 = p.1.1 } }

-- entries that compare as equal are the same
pub entry_exact : (a b : JoinEntry) → entry_cmp a b ≡ Equal → a ≡ b
entry_exact a b tied =
    ap entry_from (exact_pairs value_cmp (λ (p q : ℕ × ℕ). ordering_then (nat_cmp p.0 q.0) (nat_cmp p.1 q.1)) value_exact (exact_pairs nat_cmp nat_cmp exact_unsigned exact_unsigned) (a.value, (a.join, a.child.0)) (b.value, (b.join, b.child.0)) tied)

-- whether it is this value that a child has by this join
abbrev pub is_of : ℕ → Value → JoinEntry → Bool
is_of join value entry = is_at (value_cmp value) entry.value && (entry.join == join)
