-- The words of a line and the blanks between them are the line, and no other words are.
use Rattle.std.proofs.Common.{◌≡◌, ℕ, zero, suc, ◌≤◌, List, [], ◌∷◌, ◌++◌, length, nat_lt, refl, sym, ap, subst, ◌∙◌, arith, Bool, true, false, append-nil, length-append}
use Rattle.std.proofs.lemmas.Bool.{lt-ltb, and_parts, not-true}
use Rattle.std.specs.List.{list_all}
use Rattle.merge_script.specs.declared.words.Place.{Place}
use Rattle.merge_script.specs.declared.words.Place.TheVariants.{Outside, Inside, Escaped}
use Rattle.merge_script.specs.Parting.{place_after, is_unparted, IsWord, EndsBefore, IsParted}
use Rattle.merge_script.specs.Words.{is_blank, is_parting, place_behind, parts_from, words_of}
use Rattle.merge_script.proofs.WordParts.{words_of-blank}

-- a text in which no blank parts is one part
parts_from-all : (place : Place) (text : List ℕ) → is_unparted place text ≡ true → parts_from place text ≡ text ∷ []
parts_from-all place [] h = refl
parts_from-all place (byte ∷ more) h =
    let both = and_parts _ _ h in
    rw (not-true (is_parting place byte) both.0, parts_from-all (place_behind place byte) more both.1) refl

-- and the first part, where a blank behind it parts
parts_from-first : (place : Place) (text : List ℕ) (byte : ℕ) (rest : List ℕ) → is_unparted place text ≡ true → is_parting (place_after place text) byte ≡ true → parts_from place (text ++ byte ∷ rest) ≡ text ∷ parts_from Outside rest
parts_from-first place [] byte rest h parts = rw parts refl
parts_from-first place (first ∷ more) byte rest h parts =
    let both = and_parts _ _ h in
    rw (not-true (is_parting place first) both.0, parts_from-first (place_behind place first) more byte rest both.1 parts) refl

is_blank-parting : (place : Place) (byte : ℕ) → is_parting place byte ≡ true → is_blank byte ≡ true
is_blank-parting Outside byte h = h
is_blank-parting Inside byte h = cc
is_blank-parting Escaped byte h = cc

words_of-blanks : (blanks rest : List ℕ) → list_all is_blank blanks ≡ true → words_of (blanks ++ rest) ≡ words_of rest
words_of-blanks [] rest h = refl
words_of-blanks (byte ∷ more) rest h =
    let both = and_parts _ _ h in
    words_of-blank byte (more ++ rest) both.0 ∙ words_of-blanks more rest both.1

words_of-none : (line : List ℕ) → list_all is_blank line ≡ true → words_of line ≡ []
words_of-none [] h = refl
words_of-none (byte ∷ more) h =
    let both = and_parts _ _ h in
    words_of-blank byte more both.0 ∙ words_of-none more both.1

-- a word, and the words behind it
words_of-word : (word rest : List ℕ) → IsWord word → EndsBefore (place_after Outside word) rest → words_of (word ++ rest) ≡ word ∷ words_of rest
words_of-word word [] h ends =
    let some : nat_lt 0 (length word) ≡ true = lt-ltb 0 (length word) h.0 in
    rw (append-nil word, parts_from-all Outside word h.1, some) refl
words_of-word word (byte ∷ more) h ends =
    let some : nat_lt 0 (length word) ≡ true = lt-ltb 0 (length word) h.0 in
    let first : words_of (word ++ byte ∷ more) ≡ word ∷ words_of more = rw (parts_from-first Outside word byte more h.1 ends, some) refl in
    first ∙ ap (λ (words : List (List ℕ)). word ∷ words) (sym (words_of-blank byte more (is_blank-parting (place_after Outside word) byte ends)))

-- words that part a line are its words
pub IsParted-alone : (line : List ℕ) (words : List (List ℕ)) → IsParted line words → words ≡ words_of line
IsParted-alone line [] h = sym (words_of-none line h)
IsParted-alone line (word ∷ words) (blanks, rest, is_line, blank, is_word, ends, behind) =
    ap (λ (ws : List (List ℕ)). word ∷ ws) (IsParted-alone rest words behind)
    ∙ sym (ap words_of is_line ∙ words_of-blanks blanks (word ++ rest) blank ∙ words_of-word word rest is_word ends)

-- the front of a text up to the first blank that parts
record Front (place : Place) (text : List ℕ) : Type 0 where
  front : List ℕ
  rest : List ℕ
  is_text : text ≡ front ++ rest
  unparted : is_unparted place front ≡ true
  ends : EndsBefore (place_after place front) rest

front_by : (place : Place) (byte : ℕ) (more : List ℕ) (parts : Bool) → is_parting place byte ≡ parts → Front (place_behind place byte) more → Front place (byte ∷ more)
front_by place byte more true e f = record { front = []; rest = byte ∷ more; is_text = refl; unparted = refl; ends = e }
front_by place byte more false e f = record {
  front = byte ∷ f.front;
  rest = f.rest;
  is_text = ap (λ (bytes : List ℕ). byte ∷ bytes) f.is_text;
  unparted = rw e f.unparted;
  ends = f.ends;
}

front_of : (place : Place) (text : List ℕ) → Front place text
front_of place [] = record { front = []; rest = []; is_text = refl; unparted = refl; ends = tt }
front_of place (byte ∷ more) = front_by place byte more (is_parting place byte) refl (front_of (place_behind place byte) more)

IsParted-blank : (byte : ℕ) (more : List ℕ) (words : List (List ℕ)) → is_blank byte ≡ true → IsParted more words → IsParted (byte ∷ more) words
IsParted-blank byte more [] e h = rw e h
IsParted-blank byte more (word ∷ words) e (blanks, rest, is_line, blank, is_word, ends, behind) =
    (byte ∷ blanks, rest, ap (λ (bytes : List ℕ). byte ∷ bytes) is_line, rw e blank, is_word, ends, behind)

parted_by : (n : ℕ) (front rest : List ℕ) → is_unparted Outside front ≡ true → EndsBefore (place_after Outside front) rest → ((line : List ℕ) → length line ≤ n → IsParted line (words_of line)) → length (front ++ rest) ≤ suc n
    → IsParted (front ++ rest) (words_of (front ++ rest))
parted_by n [] [] unparted ends shorter fits = refl
parted_by n [] (byte ∷ more) unparted ends shorter fits =
    rw (words_of-blank byte more ends) (IsParted-blank byte more (words_of more) ends (shorter more (omega arith)))
parted_by n (byte ∷ more) rest unparted ends shorter fits =
    let is_word : IsWord (byte ∷ more) = (omega arith, unparted) in
    let behind : IsParted rest (words_of rest) = shorter rest (omega (arith, length-append (byte ∷ more) rest)) in
    let parted : IsParted ((byte ∷ more) ++ rest) ((byte ∷ more) ∷ words_of rest) = ([], rest, refl, refl, is_word, ends, behind) in
    subst (λ (words : List (List ℕ)). IsParted ((byte ∷ more) ++ rest) words) (sym (words_of-word (byte ∷ more) rest is_word ends)) parted

parted_within : (n : ℕ) (line : List ℕ) → length line ≤ n → IsParted line (words_of line)
parted_within zero [] fits = refl
parted_within zero (byte ∷ more) fits = absurd (omega arith)
parted_within (suc n) line fits =
    let f : Front Outside line = front_of Outside line in
    subst (λ (text : List ℕ). IsParted text (words_of text)) (sym f.is_text) (parted_by n f.front f.rest f.unparted f.ends (parted_within n) (subst (λ (text : List ℕ). length text ≤ suc n) f.is_text fits))

-- a line's words part it
pub IsParted-words_of : (line : List ℕ) → IsParted line (words_of line)
IsParted-words_of line = parted_within (length line) line (omega arith)
