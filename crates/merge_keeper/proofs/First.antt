-- The entry that is named is the first that breaks a rule.
use Rattle.std.proofs.Common.{◌≡◌, ◌∙◌, ℕ, Bool, true, false, List, [], ◌∷◌, ◌++◌, Option, Some, None, Ok, Err, refl, ap, subst, inl, inr}
use Rattle.merge_ports.specs.declared.entry.EntryKey.{EntryKey}
use Rattle.merge_ports.specs.Entries.{Map}
use Rattle.merge_keeper.specs.Start.{Loading, Loaded, go_on, loaded_behind, IsBroken, IsFirstBroken}

module _ {T : Type 0} where
  abbrev err : EntryKey → Loaded T
  err key = Err key

  pub err_is : (a b : EntryKey) → err a ≡ err b → a ≡ b
  err_is a b e = cc

  abbrev ok : T → Loaded T
  ok t = Ok t

  pub ok_is : (a b : T) → ok a ≡ ok b → a ≡ b
  ok_is a b e = cc

module _ {T R : Type 0} (l : Loading T R) where
  here : (t : T) (e : EntryKey × List ℕ) (es : Map) (key : EntryKey) → IsBroken l t e → e.0 ≡ key → IsFirstBroken l t (e ∷ es) key
  here t e es key broken is = subst (λ (k : EntryKey). IsFirstBroken l t (e ∷ es) k) is ([], es, e.1, t, refl, refl, broken)

  there : (t : T) (e : EntryKey × List ℕ) (es : Map) (key : EntryKey) (r : R) → l.reading e ≡ Some r → l.is_sound t r ≡ true → IsFirstBroken l (l.with_record t r) es key → IsFirstBroken l t (e ∷ es) key
  there t e es key r reads sound h =
      (e ∷ h.0, h.1, h.2, h.3, ap (λ (m : Map). e ∷ m) h.4, ap (go_on l (λ next. loaded_behind l next h.0) t e.0) reads ∙ rw sound h.5, h.6)

  by_sound : (t : T) (e : EntryKey × List ℕ) (es : Map) (key : EntryKey) (r : R) → l.reading e ≡ Some r → ((next : T) → loaded_behind l next es ≡ Err key → IsFirstBroken l next es key)
      → go_on l (λ next. loaded_behind l next es) t e.0 (Some r) ≡ Err key → (b : Bool) → l.is_sound t r ≡ b → IsFirstBroken l t (e ∷ es) key
  by_sound t e es key r reads ih h true s = there t e es key r reads s (ih (l.with_record t r) (rw s at h))
  by_sound t e es key r reads ih h false s = here t e es key (inr (r, reads, s)) (err_is e.0 key (rw s at h))

  by_reading : (t : T) (e : EntryKey × List ℕ) (es : Map) (key : EntryKey) → ((next : T) → loaded_behind l next es ≡ Err key → IsFirstBroken l next es key)
      → (o : Option R) → l.reading e ≡ o → go_on l (λ next. loaded_behind l next es) t e.0 o ≡ Err key → IsFirstBroken l t (e ∷ es) key
  by_reading t e es key ih None reads h = here t e es key (inl reads) (err_is e.0 key h)
  by_reading t e es key ih (Some r) reads h = by_sound t e es key r reads ih h (l.is_sound t r) refl

  pub first_is_named : (es : Map) (t : T) (key : EntryKey) → loaded_behind l t es ≡ Err key → IsFirstBroken l t es key
  first_is_named [] t key h = absurd cc
  first_is_named (e ∷ es) t key h = by_reading t e es key (λ next. first_is_named es next key) (l.reading e) refl h

  -- an entry that is broken is named, whatever stands behind it
  broken_is_named : (now : T) (e : EntryKey × List ℕ) (rest : Map) → IsBroken l now e → loaded_behind l now (e ∷ rest) ≡ Err e.0
  broken_is_named now e rest (inl none) = ap (go_on l (λ next. loaded_behind l next rest) now e.0) none
  broken_is_named now e rest (inr (r, reads, broken)) = ap (go_on l (λ next. loaded_behind l next rest) now e.0) reads ∙ rw broken refl

  on_by_sound : (front rest : Map) (t now : T) (key : EntryKey) (r : R) → ((next : T) → loaded_behind l next front ≡ Ok now → loaded_behind l next (front ++ rest) ≡ loaded_behind l now rest)
      → go_on l (λ next. loaded_behind l next front) t key (Some r) ≡ Ok now → (b : Bool) → l.is_sound t r ≡ b → go_on l (λ next. loaded_behind l next (front ++ rest)) t key (Some r) ≡ loaded_behind l now rest
  on_by_sound front rest t now key r ih h true s = rw s (ih (l.with_record t r) (rw s at h))
  on_by_sound front rest t now key r ih h false s = let no = rw s at h in absurd cc

  on_by_reading : (front rest : Map) (t now : T) (e : EntryKey × List ℕ) → ((next : T) → loaded_behind l next front ≡ Ok now → loaded_behind l next (front ++ rest) ≡ loaded_behind l now rest)
      → (o : Option R) → l.reading e ≡ o → go_on l (λ next. loaded_behind l next front) t e.0 o ≡ Ok now → loaded_behind l t (e ∷ (front ++ rest)) ≡ loaded_behind l now rest
  on_by_reading front rest t now e ih None reads h = absurd cc
  on_by_reading front rest t now e ih (Some r) reads h =
      ap (go_on l (λ next. loaded_behind l next (front ++ rest)) t e.0) reads ∙ on_by_sound front rest t now e.0 r ih h (l.is_sound t r) refl

  -- what stands behind entries that load is loaded behind their tables
  pub goes_on : (front rest : Map) (t now : T) → loaded_behind l t front ≡ Ok now → loaded_behind l t (front ++ rest) ≡ loaded_behind l now rest
  goes_on [] rest t now h = ap (λ (x : T). loaded_behind l x rest) (ok_is t now h)
  goes_on (e ∷ front) rest t now h = on_by_reading front rest t now e (λ next. goes_on front rest next now) (l.reading e) refl h

  pub named_is_first : (es : Map) (t : T) (key : EntryKey) → IsFirstBroken l t es key → loaded_behind l t es ≡ Err key
  named_is_first es t key h =
      ap (loaded_behind l t) h.4 ∙ goes_on h.0 ((key, h.2) ∷ h.1) t h.3 h.5 ∙ broken_is_named h.3 (key, h.2) h.1 h.6
