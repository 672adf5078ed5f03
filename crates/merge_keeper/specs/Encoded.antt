-- Entries in another form, and changes of them.
use Rattle.std.specs.Prelude.{◌≡◌, ℕ, ◌+◌, List, [], ◌∷◌, map}
use Rattle.std.specs.List.{AllByRecursion, flat_map}
use Rattle.std.specs.declared.cmp.Ordering.{Ordering}
use Rattle.merge_table.specs.declared.edit.Edit.{Edit}
use Rattle.merge_table.specs.declared.edit.Edit.TheVariants.{Put, Take}
use Rattle.merge_table.specs.Edits.{key_of, rows_after_all}

-- an entry with its key and its value in another form
abbrev pub encoded_entry : {K L V W : Type 0} → (K → L) → (K → V → W) → K × V → L × W
encoded_entry f g e = (f e.0, g e.0 e.1)

abbrev pub encoded_entries : {K L V W : Type 0} → (K → L) → (K → V → W) → List (K × V) → List (L × W)
encoded_entries f g es = map (encoded_entry f g) es

abbrev pub encoded_edit : {K L V W : Type 0} → (K → L) → (K → V → W) → Edit K V → Edit L W
encoded_edit f g (Put k v) = Put (f k) (g k v)
encoded_edit f g (Take k) = Take (f k)

abbrev pub encoded_edits : {K L V W : Type 0} → (K → L) → (K → V → W) → List (Edit K V) → List (Edit L W)
encoded_edits f g es = map (encoded_edit f g) es

-- all keys are of a kind
abbrev pub AllKeys : {K V : Type 0} → (K → Type 0) → List (K × V) → Type 0
AllKeys P es = AllByRecursion (λ e. P e.0) es

abbrev pub AllEditKeys : {K V : Type 0} → (K → Type 0) → List (Edit K V) → Type 0
AllEditKeys P es = AllByRecursion (λ e. P (key_of e)) es

-- keys of a kind stand in the order of what they become
pub record KeepsOrder {K L : Type 0} (P : K → Type 0) (cmp : K → K → Ordering) (cmp' : L → L → Ordering) (f : K → L) : Type 0 where
  pub same : (x y : K) → P x → P y → cmp' (f x) (f y) ≡ cmp x y

-- a part of a store: its entries, and the edits of them
pub record Part (L W : Type 0) : Type 0 where
  pub entries : List (L × W)
  pub edits : List (Edit L W)

-- the parts with numbers from n on, in order: each holds keys of its number alone
abbrev pub AreFrom : {L W : Type 0} → (L → ℕ) → ℕ → List (Part L W) → Type 0
AreFrom number n [] = Unit {0}
AreFrom number n (p ∷ ps) = (AllKeys (λ k. number k ≡ n) p.entries × AllEditKeys (λ k. number k ≡ n) p.edits) × AreFrom number (n + 1) ps

abbrev pub all_entries : {L W : Type 0} → List (Part L W) → List (L × W)
all_entries ps = flat_map (λ p. p.entries) ps

abbrev pub all_edits : {L W : Type 0} → List (Part L W) → List (Edit L W)
all_edits ps = flat_map (λ p. p.edits) ps

-- what each part holds afterwards
abbrev pub all_after : {L W : Type 0} → (L → L → Ordering) → List (Part L W) → List (L × W)
all_after cmp ps = flat_map (λ p. rows_after_all cmp p.entries p.edits) ps

-- entries of members that are put one after the other, in whatever order
abbrev pub puts_of : {X L W : Type 0} → (X → L) → (X → W) → List X → List (Edit L W)
puts_of f g xs = map (λ x. Put (f x) (g x)) xs
