-- The first line of a text, and the lines behind it.
use Rattle.std.proofs.Common.{◌≡◌, ℕ, ◌+◌, ◌<◌, List, [], ◌∷◌, length, take, drop, refl, ap, sym, ◌∙◌, arith, true, false, cond, not}
use Rattle.std.proofs.lemmas.Bool.Decides.{nat_tests}
use Rattle.std.proofs.lemmas.List.{drop_all}
use Rattle.std.proofs.Math.Seq.{drop-length}
use Rattle.std.proofs.lemmas.List.Splits.{slice_split_first, length-slice_split}
use Rattle.std.specs.List.{slice_split, after_first, position_or_len, onto_first}
use Rattle.std.specs.Str.Lines.{lines_of_parts, strip_carriage_return}
use Rattle.merge_script.specs.Lines.{is_line_feed, parts_of, lines_of}

-- a text that is cut at its first line feed
pub parts_of-first : (text : List ℕ) (end : ℕ) → position_or_len is_line_feed text ≡ end → end < length text → parts_of text ≡ take end text ∷ parts_of (drop (end + 1) text)
parts_of-first text end e h = rw (slice_split_first is_line_feed text 0 (rw e h), e) refl

-- a text with no line feed is one part
pub parts_of-none : (text : List ℕ) → position_or_len is_line_feed text ≡ length text → parts_of text ≡ text ∷ []
parts_of-none [] e = refl
parts_of-none (x ∷ xs) e =
    (elim (is_line_feed x) as (λ b. cond (not b) (1 + position_or_len is_line_feed xs) 0 ≡ length (x ∷ xs) → cond b ([] ∷ slice_split is_line_feed xs) (onto_first x (slice_split is_line_feed xs)) ≡ (x ∷ xs) ∷ []) [
      | true ↦ λ h. absurd (omega arith)
      | false ↦ λ h. rw (parts_of-none xs (omega arith)) refl
    ]) e

-- a part that another follows is a line
line_before : (x : List ℕ) (parts : List (List ℕ)) → 0 < length parts → lines_of_parts (x ∷ parts) ≡ strip_carriage_return x ∷ lines_of_parts parts
line_before x [] h = absurd (omega arith)
line_before x (y ∷ more) h = refl

-- the first line, where a line feed ends it
pub first_line : (text : List ℕ) (end : ℕ) → position_or_len is_line_feed text ≡ end → end < length text → lines_of text ≡ strip_carriage_return (take end text) ∷ lines_of (drop (end + 1) text)
first_line text end e h =
    rw (parts_of-first text end e h)
    (line_before (take end text) (parts_of (drop (end + 1) text)) (omega (arith, length-slice_split is_line_feed (drop (end + 1) text))))

one_line : (x : List ℕ) → 0 < length x → lines_of_parts (x ∷ []) ≡ x ∷ []
one_line x h = grind (arith, nat_tests)

-- the one line, where no line feed ends it
pub only_line : (text : List ℕ) → position_or_len is_line_feed text ≡ length text → 0 < length text → lines_of text ≡ text ∷ lines_of (drop (length text) text)
only_line text e more = rw (parts_of-none text e, drop-length) (one_line text more)

-- the text behind the first line feed
pub text_behind : (text : List ℕ) (end : ℕ) → position_or_len is_line_feed text ≡ end → after_first is_line_feed text ≡ drop (end + 1) text
text_behind text end e = ap (λ (n : ℕ). drop (n + 1) text) e

-- nothing is behind the one line
pub nothing_behind : (text : List ℕ) → position_or_len is_line_feed text ≡ length text → after_first is_line_feed text ≡ drop (length text) text
nothing_behind text e = text_behind text (length text) e ∙ drop_all (length text + 1) text (omega arith) ∙ sym (drop_all (length text) text (omega arith))
