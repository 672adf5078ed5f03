-- What other rows give.
use Rattle.std.proofs.Common.{◌≡◌, ◌≢◌, ◌⊎◌, inl, inr, ℕ, Bool, true, false, ◌||◌, refl, sym, ap, ◌∙◌}
use Rattle.std.specs.BTreeMap.{is_at}
use Rattle.merge_types.specs.declared.row_key.RowKey.{RowKey}
use Rattle.merge_types.specs.RowKeys.{key_cmp}
use Rattle.merge_part.specs.declared.sites.Sites.{Sites}
use Rattle.merge_part.specs.Sites.{has_site}
use Rattle.merge_part.proofs.Bits.{no_site}
use Rattle.merge_part.proofs.Kept.{same_key}

not_true : (b : Bool) → (b ≡ true → ⊥) → b ≡ false
not_true true none = absurd (none refl)
not_true false none = refl

-- rows with different identifiers are two
pub apart_by_row : (key other : RowKey) → other.row.0 ≢ key.row.0 → is_at (key_cmp key) other ≡ false
apart_by_row key other apart = not_true (is_at (key_cmp key) other) (λ same. apart (ap (λ (k : RowKey). k.row.0) (sym (same_key key other same))))

pub or_cases : (a b : Bool) → (a || b) ≡ true → (a ≡ true) ⊎ (b ≡ true)
or_cases true b h = inl refl
or_cases false b h = inr h

-- the empty set has no subscriber
pub none_in : (sites : Sites) → sites.0 ≡ 0 → (place : ℕ) → has_site sites place ≡ true → ⊥
none_in sites empty place has =
    let bad : true ≡ false = sym has ∙ ap (λ (n : ℕ). has_site (record { 0 = n }) place) empty ∙ no_site place in
    absurd cc
