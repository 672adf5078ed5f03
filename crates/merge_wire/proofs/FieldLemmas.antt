-- The length of a body, field by field.
use Rattle.std.proofs.Common.{◌≡◌, ◌∙◌, ◌<◌, ◌^◌, ◌⊎◌, inl, inr, ℕ, List, [], ◌∷◌, ◌++◌, Bool, true, false, decimal, refl, sym, append_assoc}
use Rattle.std.proofs.lemmas.List.{append-nil}
use Rattle.merge_wire.specs.declared.fields.Length.{Length}
use Rattle.merge_wire.specs.declared.fields.Length.TheVariants.{Missing, Found, Bad}
use Rattle.merge_wire.specs.Fields.{Pair, IsLength, IsCoding, IsLengthText, HasNone, HasOne, HasLength, IsBad, IsSeen, behind}

-- ---- no field of a name

pub none_joins : (P : List ℕ → Type 0) (fs gs : List Pair) → HasNone P fs → HasNone P gs → HasNone P (fs ++ gs)
none_joins P [] gs p q = q
none_joins P (f ∷ fs) gs p q = (p.0, none_joins P fs gs p.1 q)

pub none_parts : (P : List ℕ → Type 0) (fs gs : List Pair) → HasNone P (fs ++ gs) → HasNone P fs × HasNone P gs
none_parts P [] gs p = (tt, p)
none_parts P (f ∷ fs) gs p = let q = none_parts P fs gs p.1 in ((p.0, q.0), q.1)

-- ---- exactly one

pub one_joins : (n : ℕ) (fs gs : List Pair) → HasOne n fs → HasNone IsLength gs → HasOne n (fs ++ gs)
one_joins n [] gs p q = absurd p
one_joins n (f ∷ fs) gs (inl p) q = inl (p.0, p.1, none_joins IsLength fs gs p.2 q)
one_joins n (f ∷ fs) gs (inr p) q = inr (p.0, one_joins n fs gs p.1 q)

pub one_behind : (n : ℕ) (fs gs : List Pair) → HasNone IsLength fs → HasOne n gs → HasOne n (fs ++ gs)
one_behind n [] gs p q = q
one_behind n (f ∷ fs) gs p q = inr (p.0, one_behind n fs gs p.1 q)

-- the one stands in the second part where the first has none
pub one_in_rest : (n : ℕ) (fs gs : List Pair) → HasNone IsLength fs → HasOne n (fs ++ gs) → HasOne n gs
one_in_rest n [] gs p q = q
one_in_rest n (f ∷ fs) gs p (inl q) = absurd (p.0 q.0)
one_in_rest n (f ∷ fs) gs p (inr q) = one_in_rest n fs gs p.1 q.1

-- where the first part has one already, the second has none
pub none_in_rest : (n m : ℕ) (fs gs : List Pair) → HasOne n fs → HasOne m (fs ++ gs) → HasNone IsLength gs
none_in_rest n m [] gs p q = absurd p
none_in_rest n m (f ∷ fs) gs (inl p) (inl q) = (none_parts IsLength fs gs q.2).1
none_in_rest n m (f ∷ fs) gs (inl p) (inr q) = absurd (q.0 p.0)
none_in_rest n m (f ∷ fs) gs (inr p) (inl q) = absurd (p.0 q.0)
none_in_rest n m (f ∷ fs) gs (inr p) (inr q) = none_in_rest n m fs gs p.1 q.1

-- ---- one field more

pub bad_by_coding : (fs : List Pair) (f : Pair) → IsCoding f.0 → IsBad (behind fs f)
bad_by_coding fs f e n more h = (none_parts IsCoding fs (f ∷ []) (none_parts IsCoding (behind fs f) more h.plain).0).1.0 e

pub bad_behind : (fs : List Pair) (f : Pair) → IsBad fs → IsBad (behind fs f)
bad_behind fs f bad n more h = bad n (f ∷ more) (rw append_assoc at h)

pub missing_behind : (fs : List Pair) (f : Pair) → (IsCoding f.0 → ⊥) → (IsLength f.0 → ⊥) → IsSeen Missing fs → IsSeen Missing (behind fs f)
missing_behind fs f c l h = (none_joins IsCoding fs (f ∷ []) h.0 (c, tt), none_joins IsLength fs (f ∷ []) h.1 (l, tt))

pub found_behind : (n : ℕ) (fs : List Pair) (f : Pair) → (IsCoding f.0 → ⊥) → (IsLength f.0 → ⊥) → IsSeen (Found n) fs → IsSeen (Found n) (behind fs f)
found_behind n fs f c l h = (h.0, record { plain = none_joins IsCoding fs (f ∷ []) h.1.plain (c, tt); one = one_joins n fs (f ∷ []) h.1.one (l, tt) })

pub found_now : (n : ℕ) (fs : List Pair) (f : Pair) → (IsCoding f.0 → ⊥) → IsLength f.0 → n < 2 ^ 64 → f.1 ≡ decimal n → IsSeen Missing fs → IsSeen (Found n) (behind fs f)
found_now n fs f c l lt e h = (lt, record { plain = none_joins IsCoding fs (f ∷ []) h.0 (c, tt); one = one_behind n fs (f ∷ []) h.1 (inl (l, (lt, e), tt)) })

-- the first length is no plain decimal
pub bad_by_text : (fs : List Pair) (f : Pair) → IsLength f.0 → ((n : ℕ) → n < 2 ^ 64 → f.1 ≡ decimal n → ⊥) → IsSeen Missing fs → IsBad (behind fs f)
bad_by_text fs f l none h n more has = first (one_in_rest n fs (f ∷ more) h.1 (rw append_assoc at has.one))
  where
    first : HasOne n (f ∷ more) → ⊥
    first (inl q) = none n q.1.0 q.1.1
    first (inr q) = q.0 l

-- a second length
pub bad_by_second : (n : ℕ) (fs : List Pair) (f : Pair) → IsLength f.0 → IsSeen (Found n) fs → IsBad (behind fs f)
bad_by_second n fs f l h m more has = (none_in_rest n m fs (f ∷ more) h.1.one (rw append_assoc at has.one)).0 l

-- ---- all fields

pub none_missing : (n : ℕ) (fs : List Pair) → IsSeen Missing fs → HasLength n fs → ⊥
none_missing n fs h has = one_in_rest n fs [] h.1 (rw append-nil has.one)

pub none_bad : (n : ℕ) (fs : List Pair) → IsSeen Bad fs → HasLength n fs → ⊥
none_bad n fs h has = h n [] (rw append-nil has)

-- a field of another name
pub kept_behind : (seen : Length) (fs : List Pair) (f : Pair) → (IsCoding f.0 → ⊥) → (IsLength f.0 → ⊥) → IsSeen seen fs → IsSeen seen (behind fs f)
kept_behind Missing fs f c l h = missing_behind fs f c l h
kept_behind (Found n) fs f c l h = found_behind n fs f c l h
kept_behind Bad fs f c l h = bad_behind fs f h
