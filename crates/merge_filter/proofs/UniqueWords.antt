-- A text has one list of words, up to where no word can be read.
use Rattle.std.proofs.Common.{◌≡◌, ◌≢◌, ℕ, ℤ, suc, ◌≤◌, List, [], ◌∷◌, ◌++◌, length, take, take_while, drop, Option, Some, None, refl, sym, ap, ◌∙◌, arith, subst}
use Rattle.std.proofs.lemmas.List.{append_cancel_right, length-drop}
use Rattle.hex.proofs.HexLemmas.{decode_of-same}
use Rattle.merge_types.specs.declared.values.Value.TheVariants.{Int, Day}
use Rattle.merge_types.specs.Day.{IsDayText}
use Rattle.merge_types.specs.Guid.{IsGuidText}
use Rattle.merge_types.proofs.Guids.{IsGuidText-one}
use Rattle.merge_types.proofs.Unique.{one_value}
use Rattle.merge_filter.specs.declared.kind.Kind.{Kind}
use Rattle.merge_filter.specs.declared.kind.Kind.TheVariants as kinds
use Rattle.merge_filter.specs.declared.word.Word.{Word}
use Rattle.merge_filter.specs.declared.word.Word.TheVariants as w
use Rattle.merge_filter.specs.Quoting.{quoted_content}
use Rattle.merge_filter.specs.Runs.{kind_of, run_len, mark_len, is_blank, behind_blanks}
use Rattle.merge_filter.specs.Words.{IsReadAs, IsTextWord, Spells, IsFrontWord, front_len, behind_front, place_of, AreWords, AreAllWords, IsBadToken}
use Rattle.merge_filter.proofs.QuotingLemmas.{unquoted_reads}

-- ---- one piece spells one word

same_int : (y z : ℤ) → Int y ≡ Int z → y ≡ z
same_int y z e = cc

same_day : (y z : ℤ) → Day y ≡ Day z → y ≡ z
same_day y z e = cc

one_day : (text : List ℕ) (y z : ℤ) → IsDayText text y → IsDayText text z → y ≡ z
one_day text y z is other = same_day y z (one_value text (Day y) (Day z) is other)

one_read : {V : Type 0} (IsLiteral : List ℕ → V → Type 0) (text : List ℕ) → ((x y : V) → IsLiteral text x → IsLiteral text y → x ≡ y) → (o p : Option V)
    → IsReadAs IsLiteral text o → IsReadAs IsLiteral text p → o ≡ p
one_read IsLiteral text one None None is other = refl
one_read IsLiteral text one None (Some y) is other = absurd (is y other)
one_read IsLiteral text one (Some x) None is other = absurd (other x is)
one_read IsLiteral text one (Some x) (Some y) is other = let same = one x y is other in rw same refl

one_text : (bytes : List ℕ) (a b : Word) → IsTextWord bytes a → IsTextWord bytes b → a ≡ b
one_text bytes a b (day, guid, u, d, g, e) (day', guid', u', d', g', e') =
    let days : day ≡ day' = one_read IsDayText bytes (one_day bytes) day day' d d' in
    let guids : guid ≡ guid' = one_read IsGuidText bytes (IsGuidText-one bytes) guid guid' g g' in
    e ∙ ap (λ (o : Option ℤ). w.Text bytes o guid) days ∙ ap (λ (o : Option ℕ). w.Text bytes day' o) guids ∙ sym e'

same_list : (x y : List ℕ) → Some x ≡ Some y → x ≡ y
same_list x y e = cc

same_word : (a b : Word) → Some a ≡ Some b → a ≡ b
same_word a b e = cc

pub one_word : (kind : Kind) (place : ℕ) (piece : List ℕ) (a b : Word) → Spells kind place piece a → Spells kind place piece b → a ≡ b
one_word kinds.Name place piece a b is other = is.1 ∙ sym other.1
one_word kinds.Number place piece a b (y, fits, spelled, e) (z, fits', spelled', e') =
    let same : y ≡ z = same_int y z (one_value piece (Int y) (Int z) (fits, spelled) (fits', spelled')) in
    e ∙ ap (λ (n : ℤ). w.Int n) same ∙ sym e'
one_word kinds.Hex place piece a b (x, d, e) (y, d', e') =
    e ∙ ap (λ (bytes : List ℕ). w.Bytes bytes) (decode_of-same (drop 2 piece) x y d d') ∙ sym e'
one_word kinds.Quoted place piece a b (x, spelled, is) (y, spelled', other) =
    let same : y ≡ x = same_list y x (sym (unquoted_reads y) ∙ ap quoted_content (sym spelled' ∙ spelled) ∙ unquoted_reads x) in
    one_text x a b is (subst (λ (bytes : List ℕ). IsTextWord bytes b) same other)
one_word kinds.Bracketed place piece a b (x, spelled, is, e) (y, spelled', is', e') =
    let both : 91 ∷ (x ++ 93 ∷ []) ≡ 91 ∷ (y ++ 93 ∷ []) = sym spelled ∙ spelled' in
    let inner : x ++ 93 ∷ [] ≡ y ++ 93 ∷ [] = cc in
    e ∙ ap (λ (name : List ℕ). w.Name name) (append_cancel_right x y (93 ∷ []) inner) ∙ sym e'
one_word kinds.Mark place piece a b is other = same_word a b (sym is ∙ other)

one_front : (place : ℕ) (bytes : List ℕ) (a b : Word) → IsFrontWord place bytes a → IsFrontWord place bytes b → a ≡ b
one_front place bytes a b is other = one_word (kind_of bytes) place (take (front_len bytes) bytes) a b is other

-- ---- words one after the other

-- no word can be read there, if anything is there at all
abbrev pub Stops : List ℕ → List ℕ → Type 0
Stops text rest = rest ≢ [] → (word : Word) → IsFrontWord (place_of text rest) rest word → ⊥

pub record SameWords (words words' : List Word) (places places' rest rest' : List ℕ) : Type 0 where
  pub words_are : words ≡ words'
  pub places_are : places ≡ places'
  pub rest_is : rest ≡ rest'

goes_no_further : (text bytes : List ℕ) (word : Word) (words : List Word) (place : ℕ) (places rest : List ℕ) → AreWords text bytes (word ∷ words) (place ∷ places) rest → Stops text bytes → ⊥
goes_no_further text bytes word words place places rest (some, at, is, later) stops = stops some word (subst (λ (n : ℕ). IsFrontWord n bytes word) at is)

one_more : (word word' : Word) (words words' : List Word) (place place' : ℕ) (places places' rest rest' : List ℕ) → word ≡ word' → place ≡ place' → SameWords words words' places places' rest rest'
    → SameWords (word ∷ words) (word' ∷ words') (place ∷ places) (place' ∷ places') rest rest'
one_more word word' words words' place place' places places' rest rest' e p s =
    let es = s.words_are in
    let ps = s.places_are in
    record { words_are = rw (e, es) refl; places_are = rw (p, ps) refl; rest_is = s.rest_is }

pub one_list : (text bytes : List ℕ) (words words' : List Word) (places places' rest rest' : List ℕ) → AreWords text bytes words places rest → AreWords text bytes words' places' rest' → Stops text rest → Stops text rest'
    → SameWords words words' places places' rest rest'
one_list text bytes [] [] [] [] rest rest' is other stops stops' = record { words_are = refl; places_are = refl; rest_is = sym is ∙ other }
one_list text bytes [] (word ∷ words') [] (place ∷ places') rest rest' is other stops stops' =
    absurd (goes_no_further text bytes word words' place places' rest' other (subst (λ (b : List ℕ). Stops text b) (sym is) stops))
one_list text bytes (word ∷ words) [] (place ∷ places) [] rest rest' is other stops stops' =
    absurd (goes_no_further text bytes word words place places rest is (subst (λ (b : List ℕ). Stops text b) (sym other) stops'))
one_list text bytes (word ∷ words) (word' ∷ words') (place ∷ places) (place' ∷ places') rest rest' (some, at, is, later) (some', at', is', later') stops stops' =
    let places_same : place ≡ place' = at ∙ sym at' in
    let same : word ≡ word' = one_front place bytes word word' is (subst (λ (n : ℕ). IsFrontWord n bytes word') (sym places_same) is') in
    one_more word word' words words' place place' places places' rest rest' same places_same (one_list text (behind_front bytes) words words' places places' rest rest' later later' stops stops')
one_list text bytes [] words' (place ∷ places) places' rest rest' is other stops stops' = absurd is
one_list text bytes (word ∷ words) words' [] places' rest rest' is other stops stops' = absurd is
one_list text bytes words [] places (place' ∷ places') rest rest' is other stops stops' = absurd other
one_list text bytes words (word' ∷ words') places [] rest rest' is other stops stops' = absurd other

-- nothing is left
at_end : (text : List ℕ) → Stops text []
at_end text = λ some word is. some refl

pub all_words_one : (text : List ℕ) (words words' : List Word) (places places' : List ℕ) → AreAllWords text words places → AreAllWords text words' places' → SameWords words words' places places' [] []
all_words_one text words words' places places' is other = one_list text (behind_blanks text) words words' places places' [] [] is other (at_end text) (at_end text)

stops_bad : (text rest : List ℕ) (place : ℕ) → place ≡ place_of text rest → ((word : Word) → IsFrontWord place rest word → ⊥) → Stops text rest
stops_bad text rest place at none = λ some word is. none word (subst (λ (n : ℕ). IsFrontWord n rest word) (sym at) is)

pub bad_token_one : (text : List ℕ) (p q : ℕ) → IsBadToken text p → IsBadToken text q → p ≡ q
bad_token_one text p q b c =
    let s = one_list text (behind_blanks text) b.words c.words b.places c.places b.rest c.rest b.before c.before (stops_bad text b.rest p b.same b.none) (stops_bad text c.rest q c.same c.none) in
    b.same ∙ ap (place_of text) s.rest_is ∙ sym c.same

pub no_bad_token : (text : List ℕ) (words : List Word) (places : List ℕ) (place : ℕ) → AreAllWords text words places → IsBadToken text place → ⊥
no_bad_token text words places place is b =
    let s = one_list text (behind_blanks text) b.words words b.places places b.rest [] b.before is (stops_bad text b.rest place b.same b.none) (at_end text) in
    b.more s.rest_is

-- ---- there are no more words than bytes

mark_some : (c : ℕ) (cs : List ℕ) → 1 ≤ mark_len c cs
mark_some c cs = grind arith

run_some : (kind : Kind) (c : ℕ) (cs : List ℕ) → 1 ≤ run_len kind (c ∷ cs)
run_some kinds.Name c cs = omega arith
run_some kinds.Number c cs = omega arith
run_some kinds.Hex c cs = omega arith
run_some kinds.Quoted c cs = omega arith
run_some kinds.Bracketed c cs = omega arith
run_some kinds.Mark c cs = mark_some c cs

front_less : (bytes : List ℕ) → bytes ≢ [] → suc (length (behind_front bytes)) ≤ length bytes
front_less [] some = absurd (some refl)
front_less (c ∷ cs) some =
    omega (arith, run_some (kind_of (c ∷ cs)) c cs, length-drop (front_len (c ∷ cs)) (c ∷ cs), length-drop (length (take_while is_blank (drop (front_len (c ∷ cs)) (c ∷ cs)))) (drop (front_len (c ∷ cs)) (c ∷ cs)))

words_fit : (text bytes : List ℕ) (words : List Word) (places rest : List ℕ) → AreWords text bytes words places rest → length words ≤ length bytes
words_fit text bytes [] [] rest is = omega arith
words_fit text bytes (word ∷ words) (place ∷ places) rest (some, at, is, later) = omega (arith, words_fit text (behind_front bytes) words places rest later, front_less bytes some)
words_fit text bytes [] (place ∷ places) rest is = absurd is
words_fit text bytes (word ∷ words) [] rest is = absurd is

pub all_words_fit : (text : List ℕ) (words : List Word) (places : List ℕ) → AreAllWords text words places → length words ≤ length text
all_words_fit text words places is =
    omega (arith, words_fit text (behind_blanks text) words places [] is, length-drop (length (take_while is_blank text)) text)
