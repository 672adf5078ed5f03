-- The first part of a text, the parts behind it, and the words that they are.
use Rattle.std.proofs.Common.{◌≡◌, ℕ, ◌+◌, ◌<◌, List, [], ◌∷◌, ◌++◌, length, take, drop, get_or, filter, nat_lt, refl, ap, ◌∙◌, arith, true, false, ◌==◌, append_assoc, append-nil}
use Rattle.std.proofs.lemmas.Bool.{lt-ltb}
use Rattle.std.proofs.lemmas.Bool.Decides.{nat_tests}
use Rattle.std.proofs.lemmas.List.{take_all, drop_all, take_more, drop_more}
use Rattle.std.specs.List.{onto_first}
use Rattle.merge_script.specs.declared.words.Place.{Place}
use Rattle.merge_script.specs.declared.words.Place.TheVariants.{Outside}
use Rattle.merge_script.specs.Words.{is_blank, is_parting, place_behind, parts_from, words_of, with_word, is_quiet_by}

-- the front of a text holds no parting blank, and the parts of the rest, which begins at a place, go on behind it
pub record GoesOn (text front : List ℕ) (place : Place) (rest : List ℕ) : Type 0 where
  pub parts : (part : List ℕ) (more : List (List ℕ)) → parts_from place rest ≡ part ∷ more → parts_from Outside text ≡ (front ++ part) ∷ more

pub GoesOn-start : (text : List ℕ) → GoesOn text (take 0 text) Outside (drop 0 text)
GoesOn-start text = record { parts = λ part more e. e }

pub GoesOn-more : (text : List ℕ) (i : ℕ) (place : Place) → i < length text → is_parting place (get_or text i 0) ≡ false → GoesOn text (take i text) place (drop i text)
    → GoesOn text (take (i + 1) text) (place_behind place (get_or text i 0)) (drop (i + 1) text)
GoesOn-more text i place h stays g = record {
  parts = λ part more e.
      let here : parts_from place (drop i text) ≡ (get_or text i 0 ∷ part) ∷ more = rw (drop_more text i 0 h, stays, e) refl in
      let front : take (i + 1) text ++ part ≡ take i text ++ (get_or text i 0 ∷ part) = ap (λ (l : List ℕ). l ++ part) (take_more text i 0 h) ∙ append_assoc (take i text) (get_or text i 0 ∷ []) part in
      rw front (g.parts (get_or text i 0 ∷ part) more here);
}

-- a blank parts the front from the rest
pub GoesOn-cut : (text : List ℕ) (i : ℕ) (place : Place) → i < length text → is_parting place (get_or text i 0) ≡ true → GoesOn text (take i text) place (drop i text)
    → parts_from Outside text ≡ take i text ∷ parts_from Outside (drop (i + 1) text)
GoesOn-cut text i place h parts g =
    let here : parts_from place (drop i text) ≡ [] ∷ parts_from Outside (drop (i + 1) text) = rw (drop_more text i 0 h, parts) refl in
    g.parts [] (parts_from Outside (drop (i + 1) text)) here ∙ ap (λ (l : List ℕ). l ∷ parts_from Outside (drop (i + 1) text)) (append-nil (take i text))

-- no blank parts the text
pub GoesOn-end : (text : List ℕ) (i : ℕ) (place : Place) → length text ≡ i → GoesOn text (take i text) place (drop i text) → parts_from Outside text ≡ text ∷ []
GoesOn-end text i place h g =
    let here : parts_from place (drop i text) ≡ [] ∷ [] = rw (drop_all i text (omega arith)) refl in
    g.parts [] [] here ∙ ap (λ (l : List ℕ). l ∷ []) (append-nil (take i text) ∙ take_all i text (omega arith))

-- the words, where a blank ends the first part
pub first_word : (text : List ℕ) (end : ℕ) → parts_from Outside text ≡ take end text ∷ parts_from Outside (drop (end + 1) text) → words_of text ≡ with_word (take end text) (words_of (drop (end + 1) text))
first_word text end e = rw e refl

-- the words, where the first part is all
pub only_word : (text : List ℕ) → parts_from Outside text ≡ text ∷ [] → words_of text ≡ with_word text (words_of (drop (length text) text))
only_word text e = rw (e, drop_all (length text) text (omega arith)) refl

-- words behind words
pub with_word-append : (part : List ℕ) (words : List (List ℕ)) → with_word part [] ++ words ≡ with_word part words
with_word-append part words = grind (arith, nat_tests)

-- a blank at the front is passed over
pub words_of-blank : (byte : ℕ) (more : List ℕ) → is_blank byte ≡ true → words_of (byte ∷ more) ≡ words_of more
words_of-blank byte more e = rw e refl

quiet_first : (byte : ℕ) (parts : List (List ℕ)) → is_quiet_by (filter (λ part. nat_lt 0 (length part)) (onto_first byte parts)) ≡ (byte == 35)
quiet_first byte [] = refl
quiet_first byte (part ∷ parts) = let more : nat_lt 0 (length (byte ∷ part)) ≡ true = lt-ltb 0 (length (byte ∷ part)) (omega arith) in rw more refl

-- any other byte at the front begins the first word
pub is_quiet_by-first : (byte : ℕ) (more : List ℕ) → is_blank byte ≡ false → is_quiet_by (words_of (byte ∷ more)) ≡ (byte == 35)
is_quiet_by-first byte more e = rw e (quiet_first byte (parts_from (place_behind Outside byte) more))
