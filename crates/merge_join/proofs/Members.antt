-- Which entries there are after a change.
use Rattle.std.proofs.Common.{◌≡◌, ℕ, Bool, true, false, not, cond, ◌&&◌, ◌||◌, List, [], ◌∷◌, refl, sym, ap, ◌∙◌}
use Rattle.std.specs.List.Sorted.{IsStrictlySortedBy}
use Rattle.std.specs.declared.cmp.Ordering.{Ordering}
use Rattle.std.specs.declared.cmp.Ordering.TheVariants.{Less, Equal, Greater}
use Rattle.std.specs.Ordering.{ordering_reverse}
use Rattle.std.specs.Cmp.{IsTotalOrder, Equal-is, then_total, on_total, nat_cmp_total}
use Rattle.std.specs.BTreeMap.{is_at}
use Rattle.std.specs.Set.{remove_key}
use Rattle.std.proofs.lemmas.Cmp.{tied_itself}
use Rattle.std.proofs.lemmas.Map.Keys.{sorted_tail}
use Rattle.merge_types.specs.ValueOrder.{value_total}
use Rattle.merge_table.proofs.Room.{rest_above, no_room_above, room_not_below}
use Rattle.merge_join.specs.declared.entry.JoinEntry.{JoinEntry}
use Rattle.merge_join.specs.Entries.{entry_cmp, entry_exact}
use Rattle.merge_join.specs.Index.{has}

pub entry_total : IsTotalOrder entry_cmp
entry_total = then_total (on_total (λ (e : JoinEntry). e.value) value_total) (then_total (on_total (λ (e : JoinEntry). e.join) nat_cmp_total) (on_total (λ (e : JoinEntry). e.child.0) nat_cmp_total))

pub at_exact : (a b : JoinEntry) → is_at (entry_cmp a) b ≡ true → a ≡ b
at_exact a b at = entry_exact a b ((Equal-is (entry_cmp a b)).0 at)

pub at_itself : (a : JoinEntry) → is_at (entry_cmp a) a ≡ true
at_itself a = rw (tied_itself entry_total a) refl

-- behind an entry of a list in order, the entry does not come again
none_again : (q x : JoinEntry) (xs : List JoinEntry) → IsStrictlySortedBy entry_cmp (x ∷ xs) → is_at (entry_cmp q) x ≡ true → has xs q ≡ false
none_again q x xs sorted at = no_room_above entry_cmp q xs (rest_above entry_cmp entry_total q x xs sorted ((Equal-is (entry_cmp q x)).0 at))

remove_same : (b rest : Bool) → (b ≡ true → rest ≡ false) → rest ≡ (not b && (b || rest))
remove_same true rest none = none refl
remove_same false rest none = refl

remove_other : (b c rest kept : Bool) → (b ≡ true → c ≡ false) → rest ≡ (not b && kept) → (c || rest) ≡ (not b && (c || kept))
remove_other true true rest kept apart ih = let no : true ≡ false = apart refl in absurd cc
remove_other true false rest kept apart ih = ih
remove_other false true rest kept apart ih = refl
remove_other false false rest kept apart ih = ih

remove_step : (k q x : JoinEntry) (xs : List JoinEntry) → IsStrictlySortedBy entry_cmp (x ∷ xs) → has (remove_key (is_at (entry_cmp k)) xs) q ≡ (not (is_at (entry_cmp q) k) && has xs q)
    → (b : Bool) → is_at (entry_cmp k) x ≡ b
    → has (cond b xs (x ∷ remove_key (is_at (entry_cmp k)) xs)) q ≡ (not (is_at (entry_cmp q) k) && has (x ∷ xs) q)
remove_step k q x xs sorted ih true at =
    remove_same (is_at (entry_cmp q) k) (has xs q) (λ here. none_again q x xs sorted (ap (is_at (entry_cmp q)) (sym (at_exact k x at)) ∙ here))
    ∙ ap (λ (e : JoinEntry). not (is_at (entry_cmp q) k) && (is_at (entry_cmp q) e || has xs q)) (at_exact k x at)
remove_step k q x xs sorted ih false at =
    remove_other (is_at (entry_cmp q) k) (is_at (entry_cmp q) x) (has (remove_key (is_at (entry_cmp k)) xs) q) (has xs q)
    (λ here. ap (λ (e : JoinEntry). is_at (entry_cmp e) x) (at_exact q k here) ∙ at) ih

pub has-removed : (set : List JoinEntry) (k q : JoinEntry) → IsStrictlySortedBy entry_cmp set → has (remove_key (is_at (entry_cmp k)) set) q ≡ (not (is_at (entry_cmp q) k) && has set q)
has-removed [] k q sorted = elim (is_at (entry_cmp q) k) as (λ b. false ≡ (not b && false)) [ true ↦ refl | false ↦ refl ]
has-removed (x ∷ xs) k q sorted = remove_step k q x xs sorted (has-removed xs k q (sorted_tail entry_cmp x xs sorted)) (is_at (entry_cmp k) x) refl

tail_same : (q a : JoinEntry) (xs ys : List JoinEntry) → IsStrictlySortedBy entry_cmp (a ∷ xs) → IsStrictlySortedBy entry_cmp (a ∷ ys) → (b : Bool) → is_at (entry_cmp q) a ≡ b → (b || has xs q) ≡ (b || has ys q) → has xs q ≡ has ys q
tail_same q a xs ys one other true at same = none_again q a xs one at ∙ sym (none_again q a ys other at)
tail_same q a xs ys one other false at same = same

below_first : (a b : JoinEntry) (xs ys : List JoinEntry) → IsStrictlySortedBy entry_cmp (b ∷ ys) → entry_cmp a b ≡ Less → has (a ∷ xs) a ≡ has (b ∷ ys) a → true ≡ false
below_first a b xs ys other less same = room_not_below entry_cmp entry_total a b ys other (sym same ∙ ap (λ (c : Bool). c || has xs a) (at_itself a)) less

same_step : (a b : JoinEntry) (xs ys : List JoinEntry) → IsStrictlySortedBy entry_cmp (a ∷ xs) → IsStrictlySortedBy entry_cmp (b ∷ ys) → (((q : JoinEntry) → has xs q ≡ has ys q) → xs ≡ ys)
    → ((q : JoinEntry) → has (a ∷ xs) q ≡ has (b ∷ ys) q) → (r : Ordering) → entry_cmp a b ≡ r → a ∷ xs ≡ b ∷ ys
same_step a b xs ys one other ih same Less is = let no : true ≡ false = below_first a b xs ys other is (same a) in absurd cc
same_step a b xs ys one other ih same Equal is =
    let first : a ≡ b = entry_exact a b is in
    let other_a : IsStrictlySortedBy entry_cmp (a ∷ ys) = rw first other in
    let rest : xs ≡ ys = ih (λ q. tail_same q a xs ys one other_a (is_at (entry_cmp q) a) refl (same q ∙ ap (λ (e : JoinEntry). is_at (entry_cmp q) e || has ys q) (sym first))) in
    cc
same_step a b xs ys one other ih same Greater is =
    let less : entry_cmp b a ≡ Less = entry_total.antisymm b a ∙ ap ordering_reverse is in
    let no : true ≡ false = below_first b a ys xs one less (sym (same b)) in absurd cc

-- entries in order with the same members are the same
pub same_entries : (one other : List JoinEntry) → IsStrictlySortedBy entry_cmp one → IsStrictlySortedBy entry_cmp other → ((q : JoinEntry) → has one q ≡ has other q) → one ≡ other
same_entries [] [] one other same = refl
same_entries [] (b ∷ ys) one other same = let no : false ≡ true = same b ∙ ap (λ (c : Bool). c || has ys b) (at_itself b) in absurd cc
same_entries (a ∷ xs) [] one other same = let no : true ≡ false = sym (ap (λ (c : Bool). c || has xs a) (at_itself a)) ∙ same a in absurd cc
same_entries (a ∷ xs) (b ∷ ys) one other same = same_step a b xs ys one other (same_entries xs ys (sorted_tail entry_cmp a xs one) (sorted_tail entry_cmp b ys other)) same (entry_cmp a b) refl
