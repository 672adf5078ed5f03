-- Chains of readers that have an answer, or none.
use Rattle.std.proofs.Common.{◌≡◌, ℕ, Bool, true, false, cond, Option, Some, None, Result, Ok, Err, refl}
use Rattle.merge_json.specs.Reading.{◌>>=◌, placed, mapped_result}

pub some_same : {A : Type 0} (a b : A) → Some a ≡ Some b → a ≡ b
some_same a b e = cc

abbrev Placed : Type 0 → Type 0
Placed A = Result A ℕ

abbrev done : {A : Type 0} → A → Placed A
done a = Ok a

pub ok_same : {A : Type 0} (a b : A) → done a ≡ done b → a ≡ b
ok_same a b e = cc

pub none_by : {A : Type 0} (o : Option A) → ((a : A) → o ≡ Some a → ⊥) → o ≡ None
none_by (Some a) none = absurd (none a refl)
none_by None none = refl

pub cond_some : {A : Type 0} (b : Bool) (x y : A) → cond b (Some x) None ≡ Some y → (b ≡ true) × (x ≡ y)
cond_some true x y e = (refl, some_same x y e)
cond_some false x y e = absurd cc

-- what a chain of steps gave, each step gave
pub bind_some : {A B : Type 0} (o : Option A) (k : A → Option B) (b : B) → (o >>= k) ≡ Some b → (a : A) × (o ≡ Some a) × (k a ≡ Some b)
bind_some (Some a) k b e = (a, refl, e)
bind_some None k b e = absurd cc

pub placed_ok : {A B : Type 0} (place : ℕ) (o : Option A) (go : A → Result B ℕ) (b : B) → placed place o go ≡ Ok b → (a : A) × (o ≡ Some a) × (go a ≡ Ok b)
placed_ok place (Some a) go b e = (a, refl, e)
placed_ok place None go b e = absurd cc

pub mapped_ok : {A B : Type 0} (f : A → B) (r : Result A ℕ) (b : B) → mapped_result f r ≡ Ok b → (a : A) × (r ≡ Ok a) × (f a ≡ b)
mapped_ok f (Ok a) b e = (a, refl, cc)
mapped_ok f (Err place) b e = absurd cc

pub mapped_err : {A B : Type 0} (f : A → B) (r : Result A ℕ) (n : ℕ) → mapped_result f r ≡ Err n → r ≡ Err n
mapped_err f (Ok a) n e = absurd cc
mapped_err f (Err place) n e = cc

-- ---- values that are made of several, read one after the other

pub two_found : {A B R : Type 0} (a : Option A) (b : Option B) (f : A → B → R) (r : R) → (a >>= λ x. b >>= λ y. Some (f x y)) ≡ Some r → (x : A) × (y : B) × (a ≡ Some x) × (b ≡ Some y) × (f x y ≡ r)
two_found (Some x) (Some y) f r e = (x, y, refl, refl, some_same (f x y) r e)
two_found (Some x) None f r e = absurd cc
two_found None b f r e = absurd cc

pub three_found : {A B C R : Type 0} (a : Option A) (b : Option B) (c : Option C) (f : A → B → C → R) (r : R) → (a >>= λ x. b >>= λ y. c >>= λ z. Some (f x y z)) ≡ Some r
    → (x : A) × (y : B) × (z : C) × (a ≡ Some x) × (b ≡ Some y) × (c ≡ Some z) × (f x y z ≡ r)
three_found (Some x) b c f r e = let t = two_found b c (f x) r e in (x, t.0, t.1, refl, t.2, t.3, t.4)
three_found None b c f r e = absurd cc

pub four_found : {A B C D R : Type 0} (a : Option A) (b : Option B) (c : Option C) (d : Option D) (f : A → B → C → D → R) (r : R) → (a >>= λ x. b >>= λ y. c >>= λ z. d >>= λ v. Some (f x y z v)) ≡ Some r
    → (x : A) × (y : B) × (z : C) × (v : D) × (a ≡ Some x) × (b ≡ Some y) × (c ≡ Some z) × (d ≡ Some v) × (f x y z v ≡ r)
four_found (Some x) b c d f r e = let t = three_found b c d (f x) r e in (x, t.0, t.1, t.2, refl, t.3, t.4, t.5, t.6)
four_found None b c d f r e = absurd cc

pub five_found : {A B C D E R : Type 0} (a : Option A) (b : Option B) (c : Option C) (d : Option D) (i : Option E) (f : A → B → C → D → E → R) (r : R)
    → (a >>= λ x. b >>= λ y. c >>= λ z. d >>= λ v. i >>= λ w. Some (f x y z v w)) ≡ Some r
    → (x : A) × (y : B) × (z : C) × (v : D) × (w : E) × (a ≡ Some x) × (b ≡ Some y) × (c ≡ Some z) × (d ≡ Some v) × (i ≡ Some w) × (f x y z v w ≡ r)
five_found (Some x) b c d i f r e = let t = four_found b c d i (f x) r e in (x, t.0, t.1, t.2, t.3, refl, t.4, t.5, t.6, t.7, t.8)
five_found None b c d i f r e = absurd cc

pub two_some : {A B R : Type 0} (a : Option A) (b : Option B) (f : A → B → R) (x : A) (y : B) → a ≡ Some x → b ≡ Some y → (a >>= λ x. b >>= λ y. Some (f x y)) ≡ Some (f x y)
two_some a b f x y p q = rw (p, q) refl

pub three_some : {A B C R : Type 0} (a : Option A) (b : Option B) (c : Option C) (f : A → B → C → R) (x : A) (y : B) (z : C) → a ≡ Some x → b ≡ Some y → c ≡ Some z
    → (a >>= λ x. b >>= λ y. c >>= λ z. Some (f x y z)) ≡ Some (f x y z)
three_some a b c f x y z p q r = rw (p, q, r) refl

pub four_some : {A B C D R : Type 0} (a : Option A) (b : Option B) (c : Option C) (d : Option D) (f : A → B → C → D → R) (x : A) (y : B) (z : C) (v : D) → a ≡ Some x → b ≡ Some y → c ≡ Some z → d ≡ Some v
    → (a >>= λ x. b >>= λ y. c >>= λ z. d >>= λ v. Some (f x y z v)) ≡ Some (f x y z v)
four_some a b c d f x y z v p q r s = rw (p, q, r, s) refl

pub five_some : {A B C D E R : Type 0} (a : Option A) (b : Option B) (c : Option C) (d : Option D) (i : Option E) (f : A → B → C → D → E → R) (x : A) (y : B) (z : C) (v : D) (w : E)
    → a ≡ Some x → b ≡ Some y → c ≡ Some z → d ≡ Some v → i ≡ Some w
    → (a >>= λ x. b >>= λ y. c >>= λ z. d >>= λ v. i >>= λ w. Some (f x y z v w)) ≡ Some (f x y z v w)
five_some a b c d i f x y z v w p q r s t = rw (p, q, r, s, t) refl
