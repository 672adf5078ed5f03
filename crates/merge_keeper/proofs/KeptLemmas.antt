-- What a keeper in memory holds.
use Rattle.std.proofs.Common.{◌≡◌, Bool, true, false, ◌||◌, List, [], ◌∷◌, refl, arith}
use Rattle.std.specs.Cmp.{IsTotalOrder}
use Rattle.std.specs.declared.cmp.Ordering.{Ordering}
use Rattle.merge_table.specs.declared.edit.Edit.{Edit}
use Rattle.merge_table.specs.Edits.{IsReady}
use Rattle.std.proofs.lemmas.Cmp.{then_total, on_total, nat_cmp_total, nat_list_cmp_total}
use Rattle.merge_ports.specs.declared.entry.EntryKey.{EntryKey}
use Rattle.merge_ports.specs.Entries.{entry_cmp}

pub idle : {K V : Type 0} (cmp : K → K → Ordering) (slots : List K) (made : List (Edit K V)) → made ≡ [] → IsReady cmp slots made
unfolding IsReady
idle cmp slots [] e = λ k d lt. absurd (omega arith)
idle cmp slots (m ∷ made) e = absurd cc

pub entry_total : IsTotalOrder entry_cmp
entry_total = then_total (on_total (λ (k : EntryKey). k.table) nat_cmp_total) (on_total (λ (k : EntryKey). k.key) nat_list_cmp_total)

-- where neither of two holds the first does not
pub or_false : (a b : Bool) → (a || b) ≡ false → a ≡ false
or_false true b e = absurd cc
or_false false b e = refl
