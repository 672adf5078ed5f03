-- A reader that refuses words, and where: its part can go on there with another word, and with this one it never can.
use Rattle.std.proofs.Common.{◌≡◌, ℕ, suc, ◌≤◌, List, [], ◌∷◌, ◌++◌, length, Result, Ok, Err, refl, ap, arith, ◌⊎◌, inl, inr}
use Rattle.merge_filter.specs.declared.form.Stuck.{Stuck}
use Rattle.merge_filter.specs.declared.form.Stuck.TheVariants.{BadForm, TooDeep}
use Rattle.merge_filter.specs.declared.word.Word.{Word}
use Rattle.merge_filter.specs.Form.{◌>>=◌}

-- which fault it is
pub data Fault : Type 0 where
  form : Fault
  depth : Fault

abbrev pub fault_at : Fault → ℕ → Stuck
fault_at form n = BadForm n
fault_at depth n = TooDeep n

-- the depths at which the fault is the same
abbrev pub Lasts : Fault → ℕ → ℕ → Type 0
Lasts form d e = d ≤ e
Lasts depth d e = d ≡ e

-- what reads at each depth
abbrev pub Readers : Type 0 → Type 0
Readers B = ℕ → List Word → Result B Stuck

-- whatever stands behind the first bad word, reading stops at it
abbrev pub Dead : {B : Type 0} → Readers B → ℕ → Fault → List Word → List Word → Type 0
Dead R d k front [] = (e : ℕ) → Lasts k d e → R e (front ++ []) ≡ Err (fault_at k 0)
Dead R d k front (v ∷ bad) = (e : ℕ) → Lasts k d e → (rest : List Word) → R e (front ++ v ∷ rest) ≡ Err (fault_at k (suc (length rest)))

-- a part begins so, if levels don't count
abbrev pub Deep : {C : Type 0} → (C → List Word) → Fault → List Word → List Word → Type 0
Deep spell form front bad = Unit {0}
Deep spell depth front [] = ⊥
Deep {C} spell depth front (v ∷ bad) = (c : C) × (rest : List Word) × (spell c ≡ front ++ v ∷ rest)

pub record Refused {B C : Type 0} (spell : C → List Word) (levels : C → ℕ) (R : Readers B) (d : ℕ) (ws : List Word) (e : Stuck) : Type 0 where
  pub kind : Fault
  pub front : List Word
  pub bad : List Word
  pub split : ws ≡ front ++ bad
  pub same : e ≡ fault_at kind (length bad)
  pub viable : (c : C) × (rest : List Word) × (spell c ≡ front ++ rest) × (levels c ≤ d)
  pub dead : Dead R d kind front bad
  pub deep : Deep spell kind front bad

abbrev pub wrong : {A : Type 0} → List Word → Result A Stuck
wrong ws = Err (BadForm (length ws))

abbrev pub failed : {A : Type 0} → Stuck → Result A Stuck
failed e = Err e

-- the fault of an answer
pub err_is : {A : Type 0} (e f : Stuck) → failed {A = A} e ≡ failed f → e ≡ f
err_is e f h = cc

-- the fault of two steps is the first's, or the second's
pub bind_err : {A B : Type 0} (r : Result A Stuck) (f : A → Result B Stuck) (e : Stuck) → (r >>= f) ≡ Err e → (r ≡ Err e) ⊎ ((x : A) × (r ≡ Ok x) × (f x ≡ Err e))
bind_err (Ok x) f e h = inr (x, refl, h)
bind_err (Err d) f e h = inl (ap failed (err_is _ _ h))

-- what is dead stays so behind what is read before it
pub dead_map : {B B' : Type 0} (R : Readers B) (R' : Readers B') (d : ℕ) (k : Fault) (front front' bad : List Word)
    → ((e : ℕ) → Lasts k d e → (tail : List Word) (f : Stuck) → R e (front ++ tail) ≡ Err f → R' e (front' ++ tail) ≡ Err f)
    → Dead R d k front bad → Dead R' d k front' bad
dead_map R R' d k front front' [] go h = λ e l. go e l [] _ (h e l)
dead_map R R' d k front front' (v ∷ bad) go h = λ e l rest. go e l (v ∷ rest) _ (h e l rest)

pub deep_map : {C C' : Type 0} (spell : C → List Word) (spell' : C' → List Word) (k : Fault) (front front' bad : List Word)
    → ((v : Word) (rest : List Word) (c : C) → spell c ≡ front ++ v ∷ rest → (c' : C') × (rest' : List Word) × (spell' c' ≡ front' ++ v ∷ rest'))
    → Deep spell k front bad → Deep spell' k front' bad
deep_map spell spell' form front front' bad go h = tt
deep_map spell spell' depth front front' [] go h = h
deep_map spell spell' depth front front' (v ∷ bad) go (c, rest, s) = go v rest c s

pub lasts_le : (k : Fault) (d e : ℕ) → Lasts k d e → d ≤ e
lasts_le form d e l = l
lasts_le depth d e l = omega arith
