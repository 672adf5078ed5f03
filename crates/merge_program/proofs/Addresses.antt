-- The addresses that words say, and that a command has one that a request can have.
use Rattle.std.proofs.Common.{All, Bool, Decides, List, None, Option, Some, false, length, refl, subst, sym, true, ℕ, ◌≡◌, ◌≤◌}
use Rattle.std.proofs.lemmas.Bool.{le-leb, leb-true}
use Rattle.std.proofs.lemmas.Bool.Decides.{Decides-and, Decides-by_and, Decides-like, same_from_decides}
use Rattle.std.specs.List.{list_all}
use Rattle.std.specs.Prelude.{IfSome, IsTrue, [], codes, if◌then◌else◌, nat_eq, nat_le, not, option_map, ◌&&◌, ◌∷◌, ◌↔◌}
use Rattle.std.specs.Cmp.Lexicographic.{pointwise}
use Rattle.merge_wire.specs.Written.{IsVisible}
use Rattle.merge_program.specs.declared.command.Command.{Command}
use Rattle.merge_program.specs.declared.command.Command.TheVariants.{Change, Make, Play, Show, Sync}
use Rattle.merge_program.specs.declared.command.Place.{Place}
use Rattle.merge_program.specs.Commands.{IsMeant, by_change, by_show, by_sync, command_of, customers_of, is_address, is_dashed, is_visible_byte, place_by}

decides-le : (a b : ℕ) → Decides (nat_le a b) (a ≤ b)
decides-le a b = (leb-true a b, le-leb a b)

abbrev IsByte : ℕ → Type 0
IsByte byte = (33 ≤ byte) × (byte ≤ 126)

decides-byte : (byte : ℕ) → Decides (is_visible_byte byte) (IsByte byte)
decides-byte byte = Decides-and (nat_le 33 byte) (nat_le byte 126) (decides-le 33 byte) (decides-le byte 126)

-- the parts of what is visible
abbrev Parts : List ℕ → Type 0
Parts word = (1 ≤ length word) × ((length word ≤ 255) × All IsByte word)

visible-by : (word : List ℕ) → Parts word → IsVisible word
visible-by word (some, (few, visible)) = record { some = some; few = few; visible = visible }

parts-of : (word : List ℕ) → IsVisible word → Parts word
parts-of word v = (v.some, (v.few, v.visible))

decides-parts : (word : List ℕ) → Decides (is_address word) (Parts word)
decides-parts word =
    Decides-and (nat_le 1 (length word)) (nat_le (length word) 255 && list_all is_visible_byte word) (decides-le 1 (length word))
    (Decides-and (nat_le (length word) 255) (list_all is_visible_byte word) (decides-le (length word) 255)
    (Decides-by_and is_visible_byte IsByte (list_all is_visible_byte) decides-byte refl (λ _ _. refl) word))

decides-address : (word : List ℕ) → Decides (is_address word) (IsVisible word)
decides-address word = Decides-like (is_address word) (visible-by word) (parts-of word) (decides-parts word)

-- a test that is true of what is visible, and of nothing else
decides-true : {P : Type 0} (r : Bool) → IsTrue r ↔ P → Decides r P
decides-true r p = (p.0, p.1)

pub is-address : (r : Bool) (text word : List ℕ) → text ≡ word → IsTrue r ↔ IsVisible text → r ≡ is_address word
is-address r text word same p = same_from_decides r (is_address word) (decides-true r (subst (λ (l : List ℕ). IsTrue r ↔ IsVisible l) same p)) (decides-address word)

-- Commands.

abbrev Meant : Option Command → Type 0
Meant said = IfSome said IsMeant

meant-if : (b : Bool) (said : Option Command) → (b ≡ true → Meant said) → Meant (if b then said else None)
meant-if true said p = p refl
meant-if false said p = tt

meant-map : {A : Type 0} (o : Option A) (f : A → Command) → ((x : A) → IsMeant (f x)) → Meant (option_map f o)
meant-map None f p = tt
meant-map (Some x) f p = p x

and-left : (a b : Bool) → (a && b) ≡ true → a ≡ true
and-left true b p = refl
and-left false b p = p

meant-sync : (publication store site address : List ℕ) → Meant (by_sync publication store site address)
meant-sync publication store site address = meant-if (is_address address && not (is_dashed address)) _ (λ shown. meant-map (place_by publication store site) (λ (place : Place). Sync place address) (λ place. (decides-address address).0 (and-left (is_address address) _ shown)))

meant-show : (word publication store site article : List ℕ) → Meant (by_show word publication store site article)
meant-show word publication store site article = meant-if (pointwise nat_eq word (codes "show") && not (is_dashed article)) _ (λ is. meant-map (place_by publication store site) (λ (place : Place). Show place article) (λ place. tt))

meant-change : (word publication store site : List ℕ) → Meant (by_change word publication store site)
meant-change word publication store site = meant-if (pointwise nat_eq word (codes "change")) _ (λ is. meant-map (place_by publication store site) Change (λ place. tt))

meant-either : (b : Bool) (this that : Option Command) → Meant this → Meant that → Meant (if b then this else that)
meant-either true this that p q = p
meant-either false this that p q = q

all-meant : (words : List (List ℕ)) → Meant (command_of words)
all-meant [] = tt
all-meant (word ∷ []) = meant-if (pointwise nat_eq word (codes "play")) (Some Play) (λ is. tt)
all-meant (word ∷ number ∷ []) = meant-if (pointwise nat_eq word (codes "make")) _ (λ is. meant-map (customers_of number) Make (λ customers. tt))
all-meant (word ∷ publication ∷ store ∷ []) = tt
all-meant (word ∷ publication ∷ store ∷ site ∷ []) = meant-change word publication store site
all-meant (word ∷ publication ∷ store ∷ site ∷ last ∷ []) = meant-either (pointwise nat_eq word (codes "sync")) _ _ (meant-sync publication store site last) (meant-show word publication store site last)
all-meant (word ∷ publication ∷ store ∷ site ∷ last ∷ more ∷ rest) = tt

pub meant : (words : List (List ℕ)) (command : Command) → Some command ≡ command_of words → IsMeant command
meant words command said = subst Meant (sym said) (all-meant words)

pub meant-visible : (command : Command) (place : Place) (address : List ℕ) → command ≡ Sync place address → IsMeant command → IsVisible address
meant-visible command place address is m = subst IsMeant is m
