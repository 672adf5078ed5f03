-- A list of items beside the rest of a message.
use Rattle.std.proofs.Common.{◌≡◌, ◌∙◌, ◌+◌, ℕ, suc, List, codes, Option, Some, None, Result, Ok, Err, refl, sym, ap, subst, arith}
use Rattle.serde_json.specs.Data.{Data, array, Items}
use Rattle.serde_json.specs.Find.{get, as_array}
use Rattle.merge_json.specs.Reading.{Reader, field_at, placed, mapped_result, numbered_at}
use Rattle.merge_json.specs.Forms.{HasMember, IsList, HasBadMember}
use Rattle.merge_json.specs.Messages.{HasItems}
use Rattle.merge_json.proofs.Readers.{bind_some, placed_ok, mapped_ok, mapped_err}
use Rattle.merge_json.proofs.FormLemmas.{IsForm, array_is, numbered_found, numbered_only, numbered_bad, numbered_bad_only}

pub items_is : (d : Data) (ds : Items) → field_at (codes "items") as_array d ≡ Some ds → get (codes "items") d ≡ Some (array ds)
items_is d ds e =
    let s = bind_some (get (codes "items") d) as_array ds e in
    s.1 ∙ ap (λ (v : Data). Some v) (array_is s.0 ds s.2)

pub items_at : (d : Data) (ds : Items) → get (codes "items") d ≡ Some (array ds) → field_at (codes "items") as_array d ≡ Some ds
items_at d ds e = rw e refl

-- how all but the items comes first, and then the items by their numbers
abbrev pub both_at : {F M A : Type 0} → Reader F → (F → List A → M) → Reader A → Data → Result M ℕ
both_at front made read d = placed 0 (front d) (λ f. placed 0 (field_at (codes "items") as_array d) (λ ds. mapped_result (made f) (numbered_at read 1 ds)))

module _ {F M A : Type 0} (front : Reader F) (made : F → List A → M) (read : Reader A) (Is : A → Data → Type 0) (form : IsForm read Is) (d : Data) where
  pub both_found : (m : M) → both_at front made read d ≡ Ok m → (f : F) × (xs : List A) × (front d ≡ Some f) × HasMember (codes "items") (λ ys v. IsList Is ys v) xs d × (made f xs ≡ m)
  both_found m e =
      let s = placed_ok 0 (front d) (λ f. placed 0 (field_at (codes "items") as_array d) (λ ds. mapped_result (made f) (numbered_at read 1 ds))) m e in
      let t = placed_ok 0 (field_at (codes "items") as_array d) (λ ds. mapped_result (made s.0) (numbered_at read 1 ds)) m s.2 in
      let u = mapped_ok (made s.0) (numbered_at read 1 t.0) m t.2 in
      (s.0, u.0, s.1, (array t.0, items_is d t.0 t.1, (t.0, refl, numbered_found read Is form 1 t.0 u.0 u.1)), u.2)

  pub both_only : (f : F) (xs : List A) → front d ≡ Some f → HasMember (codes "items") (λ ys v. IsList Is ys v) xs d → both_at front made read d ≡ Ok (made f xs)
  both_only f xs is h =
      let listed : field_at (codes "items") as_array d ≡ Some h.2.0 = items_at d h.2.0 (h.1 ∙ ap (λ (v : Data). Some v) h.2.1) in
      rw (is, listed, numbered_only read Is form 1 h.2.0 xs h.2.2) refl

  -- what is read no further than its rest has the place 0, and else the item has its number
  pub both_bad : (n : ℕ) → both_at front made read d ≡ Err (suc n) → (f : F) × (front d ≡ Some f) × HasItems d (HasBadMember Is n)
  both_bad n e = by (front d) refl e
    where
      later : (f : F) (o : Option Items) → field_at (codes "items") as_array d ≡ o → front d ≡ Some f → placed 0 o (λ ds. mapped_result (made f) (numbered_at read 1 ds)) ≡ Err (suc n) → (f : F) × (front d ≡ Some f) × HasItems d (HasBadMember Is n)
      later f None is first h = absurd cc
      later f (Some ds) is first h =
          let b = numbered_bad read Is form 1 ds (suc n) (mapped_err (made f) (numbered_at read 1 ds) (suc n) h) in
          let same : b.0 ≡ n = omega (arith, b.1) in
          (f, first, (ds, items_is d ds is, subst (λ (k : ℕ). HasBadMember Is k ds) same b.2))

      by : (o : Option F) → front d ≡ o → placed 0 o (λ f. placed 0 (field_at (codes "items") as_array d) (λ ds. mapped_result (made f) (numbered_at read 1 ds))) ≡ Err (suc n) → (f : F) × (front d ≡ Some f) × HasItems d (HasBadMember Is n)
      by None is h = absurd cc
      by (Some f) is h = later f (field_at (codes "items") as_array d) refl is h

  pub both_bad_rest : (f : F) (ds : Items) → front d ≡ Some f → get (codes "items") d ≡ Some (array ds) → both_at front made read d ≡ Err 0 → ⊥
  both_bad_rest f ds is listed e =
      let split : both_at front made read d ≡ mapped_result (made f) (numbered_at read 1 ds) = rw (is, items_at d ds listed) refl in
      let b = numbered_bad read Is form 1 ds 0 (mapped_err (made f) (numbered_at read 1 ds) 0 (sym split ∙ e)) in
      omega (arith, b.1)

  pub both_bad_only : (f : F) (n : ℕ) → front d ≡ Some f → HasItems d (HasBadMember Is n) → both_at front made read d ≡ Err (suc n)
  both_bad_only f n is items =
      let place : n + 1 ≡ suc n = omega arith in
      rw (is, items_at d items.0 items.1, numbered_bad_only read Is form 1 items.0 n items.2) (ap (λ (k : ℕ). Err k) place)
