-- Names are texts.
use Rattle.std.proofs.Common.{◌≡◌, ◌<◌, ◌≤◌, ◌^◌, ℕ, zero, suc, List, [], ◌∷◌, length, Bool, true, false, ◌&&◌, ◌||◌, ◌==◌, get_or, refl, arith, rules, lit<}
use Rattle.std.proofs.lemmas.Bool.Decides.{nat_tests}
use Rattle.std.proofs.lemmas.Str.{IsUtf8-from_ascii}
use Rattle.std.specs.Char.{is_ascii_alphabetic, is_ascii_alphanumeric}
use Rattle.std.specs.List.{list_all}
use Rattle.std.specs.Prelude.{slice_index, nat_lt, nat_le}
use Rattle.std.specs.Str.{IsAscii, IsUtf8}
use Rattle.merge_script.specs.Names.{begins_name, continues_name, is_name_text}

both : (a b : Bool) → (a && b) ≡ true → (a ≡ true) × (b ≡ true)
both true b h = (refl, h)
both false b h = absurd cc

low-continues : (b : ℕ) → continues_name b ≡ true → b < 128
low-continues b h = grind (arith, nat_tests)

low-begins : (b : ℕ) → begins_name b ≡ true → b < 128
low-begins b h = grind (arith, nat_tests)

low-all : (bs : List ℕ) → list_all continues_name bs ≡ true → IsAscii bs
low-all [] h i = lit< tt
low-all (b ∷ bs) h zero = low-continues b ((both (continues_name b) (list_all continues_name bs) h).0)
low-all (b ∷ bs) h (suc i) = low-all bs ((both (continues_name b) (list_all continues_name bs) h).1) i

pub name_is_text : (word : List ℕ) → is_name_text word ≡ true → IsUtf8 word
name_is_text word named = IsUtf8-from_ascii word (low word named)
  where
    low : (bs : List ℕ) → is_name_text bs ≡ true → IsAscii bs
    low [] h i = lit< tt
    low (b ∷ bs) h zero = low-begins b ((both (begins_name b) (list_all continues_name bs) ((both (begins_name b && list_all continues_name bs) _ h).0)).0)
    low (b ∷ bs) h (suc i) = low-all bs ((both (begins_name b) (list_all continues_name bs) ((both (begins_name b && list_all continues_name bs) _ h).0)).1) i
