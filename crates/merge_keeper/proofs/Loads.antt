-- Members of a list whose records keep the rules one behind the other are loaded one behind the other.
use Rattle.std.proofs.Common.{◌≡◌, ◌∙◌, ℕ, true, List, [], ◌∷◌, ◌++◌, map, Some, Ok, refl, sym, ap, subst, append_assoc}
use Rattle.std.specs.List.{AllByRecursion}
use Rattle.std.proofs.lemmas.List.{append-nil}
use Rattle.merge_ports.specs.declared.entry.EntryKey.{EntryKey}
use Rattle.merge_ports.specs.Entries.{Map}
use Rattle.merge_keeper.specs.Start.{Loading, go_on, loaded_behind, KeepOneByOne}
use Rattle.merge_keeper.proofs.Back.{after, Sound}

module _ {T R X : Type 0} (l : Loading T R) (entry : X → EntryKey × List ℕ) (read : X → R) (with : List X → T) where
  pub members_load : ((front : List X) (x : X) → l.with_record (with front) (read x) ≡ with (front ++ x ∷ [])) → (front xs : List X) (rest : Map) → KeepOneByOne (λ f x. (l.reading (entry x) ≡ Some (read x)) × (l.is_sound (with f) (read x) ≡ true)) front xs
      → loaded_behind l (with front) (map entry xs ++ rest) ≡ loaded_behind l (with (front ++ xs)) rest
  members_load adds front [] rest h = ap (λ (ys : List X). loaded_behind l (with ys) rest) (sym (append-nil front))
  members_load adds front (x ∷ xs) rest h =
      ap (go_on l (λ next. loaded_behind l next (map entry xs ++ rest)) (with front) (entry x).0) h.0.0
      ∙ rw h.0.1 (ap (λ (t : T). loaded_behind l t (map entry xs ++ rest)) (adds front x))
      ∙ members_load adds (front ++ x ∷ []) xs rest h.1
      ∙ ap (λ (ys : List X). loaded_behind l (with ys) rest) (append_assoc front (x ∷ []) xs)

-- members that keep the rules one behind the other, and what is behind them
pub joined : {T R X : Type 0} (l : Loading T R) (Fits : R → Type 0) (con : X → R) (with : List X → T) → ((front : List X) (x : X) → l.with_record (with front) (con x) ≡ with (front ++ x ∷ [])) → (front xs : List X) (rest : List R)
    → KeepOneByOne (λ f x. Fits (con x) × (l.is_sound (with f) (con x) ≡ true)) front xs → Sound l Fits (with (front ++ xs)) rest → Sound l Fits (with front) (map con xs ++ rest)
joined {X = X} l Fits con with adds front [] rest h later = subst (λ (f : List X). Sound l Fits (with f) rest) (append-nil front) later
joined {T = T} {R = R} {X = X} l Fits con with adds front (x ∷ xs) rest h later =
    let all : List R = map con xs ++ rest in
    (h.0, subst (λ (t : T). Sound l Fits t all) (sym (adds front x)) (joined l Fits con with adds (front ++ x ∷ []) xs rest h.1 (subst (λ (f : List X). Sound l Fits (with f) rest) (sym (append_assoc front (x ∷ []) xs)) later)))

pub joined_after : {T R X : Type 0} (l : Loading T R) (con : X → R) (with : List X → T) → ((front : List X) (x : X) → l.with_record (with front) (con x) ≡ with (front ++ x ∷ [])) → (front xs : List X) (rest : List R)
    → after l (with front) (map con xs ++ rest) ≡ after l (with (front ++ xs)) rest
joined_after {X = X} l con with adds front [] rest = ap (λ (f : List X). after l (with f) rest) (sym (append-nil front))
joined_after {T = T} {X = X} l con with adds front (x ∷ xs) rest =
    ap (λ (t : T). after l t (map con xs ++ rest)) (adds front x)
    ∙ joined_after l con with adds (front ++ x ∷ []) xs rest
    ∙ ap (λ (f : List X). after l (with f) rest) (append_assoc front (x ∷ []) xs)

pub sound_fits : {T R : Type 0} (l : Loading T R) (Fits : R → Type 0) (rs : List R) (t : T) → Sound l Fits t rs → AllByRecursion Fits rs
sound_fits l Fits [] t h = tt
sound_fits l Fits (r ∷ rs) t h = (h.0.0, sound_fits l Fits rs (l.with_record t r) h.1)

-- the entries of records that keep the rules one behind the other load
pub sound_loads : {T R : Type 0} (l : Loading T R) (entry : R → EntryKey × List ℕ) (Fits : R → Type 0) → ((r : R) → Fits r → l.reading (entry r) ≡ Some r) → (rs : List R) (t : T) → Sound l Fits t rs → loaded_behind l t (map entry rs) ≡ Ok (after l t rs)
sound_loads l entry Fits again [] t h = refl
sound_loads {T = T} {R = R} l entry Fits again (r ∷ rs) t h =
    ap (go_on l (λ next. loaded_behind l next (map entry rs)) t (entry r).0) (again r h.0.0)
    ∙ rw h.0.1 (sound_loads l entry Fits again rs (l.with_record t r) h.1)
