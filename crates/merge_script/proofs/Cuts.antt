-- The publication, the bar and the script are the input.
use Rattle.std.proofs.Common.{◌≡◌, ℕ, zero, suc, ◌+◌, ◌<◌, ◌≤◌, ◌⊎◌, inl, inr, List, [], ◌∷◌, ◌++◌, length, take, drop, refl, sym, ap, subst, ◌∙◌, arith, true, false, append_assoc, append-nil, length-take, length-drop}
use Rattle.std.proofs.lemmas.Bool.{cases_lt, cases_Bool}
use Rattle.std.proofs.lemmas.List.{take_all, drop_all, take-append-drop, get_or-take}
use Rattle.std.proofs.lemmas.List.Elements.{All-from_get_or}
use Rattle.std.proofs.lemmas.List.Splits.{slice_split_at}
use Rattle.std.proofs.lemmas.List.Sums.{fails_before_first, prefix_len-le-length}
use Rattle.std.specs.List.{All, position_or_len}
use Rattle.merge_script.specs.Lines.{is_line_feed, parts_of}
use Rattle.merge_script.specs.Input.{is_bar, has_bar, publication_of, script_of, IsWholeLines, IsCut}
use Rattle.merge_script.proofs.Parts.{parts_of-first, parts_of-none}
use Rattle.merge_script.proofs.Bars.{front_line, bar_here, bar_behind}

-- no line feed stands in a first line
plain_front : (text : List ℕ) (end : ℕ) → position_or_len is_line_feed text ≡ end → All (λ byte. is_line_feed byte ≡ false) (take end text)
plain_front text end e = All-from_get_or (λ (byte : ℕ). is_line_feed byte ≡ false) (take end text) 0 (λ i h.
    let before : i < end = omega (arith, length-take end text, h) in
    rw (get_or-take end text i 0 before) (fails_before_first is_line_feed text i 0 (omega (arith, e, before))))

-- a line that is no bar, before whole lines with no bar
has_bar-line : (text behind : List ℕ) (end : ℕ) → position_or_len is_line_feed text ≡ end → end < length text → is_bar (take end text) ≡ false → has_bar behind ≡ false → has_bar (take (end + 1) text ++ behind) ≡ false
has_bar-line text behind end e h no_bar none =
    let joined : take (end + 1) text ++ behind ≡ take end text ++ 10 ∷ behind = ap (λ (x : List ℕ). x ++ behind) (front_line text end e h) ∙ append_assoc (take end text) (10 ∷ []) behind in
    let parts : parts_of (take end text ++ 10 ∷ behind) ≡ take end text ∷ parts_of behind = slice_split_at is_line_feed (take end text) 10 behind (plain_front text end e) refl in
    rw (joined, parts, no_bar) none

whole_lines-more : (text behind : List ℕ) (end : ℕ) → position_or_len is_line_feed text ≡ end → end < length text → IsWholeLines behind → IsWholeLines (take (end + 1) text ++ behind)
whole_lines-more text behind end e h (inl none) = inr (take end text, ap (λ (x : List ℕ). take (end + 1) text ++ x) none ∙ append-nil (take (end + 1) text) ∙ front_line text end e h)
whole_lines-more text behind end e h (inr (front, is_front)) =
    inr (take (end + 1) text ++ front, ap (λ (x : List ℕ). take (end + 1) text ++ x) is_front ∙ sym (append_assoc (take (end + 1) text) front (10 ∷ [])))

-- the bar is the first line
cut_here : (text : List ℕ) (end : ℕ) → position_or_len is_line_feed text ≡ end → end ≤ length text → is_bar (take end text) ≡ true → (end < length text) ⊎ (length text ≤ end) → IsCut text [] (drop (end + 1) text)
cut_here text end e le bar (inl h) = inl (take (end + 1) text, sym (take-append-drop (end + 1) text), (take end text, bar, inl (front_line text end e h)), inl refl, refl)
cut_here text end e le bar (inr h) =
    inl (take (end + 1) text, sym (take-append-drop (end + 1) text), (take end text, bar, inr (take_all (end + 1) text (omega arith) ∙ sym (take_all end text h), drop_all (end + 1) text (omega arith))), inl refl, refl)

-- the cut is behind the first line
cut_behind : (text publication script : List ℕ) (end : ℕ) → position_or_len is_line_feed text ≡ end → end < length text → is_bar (take end text) ≡ false → IsCut (drop (end + 1) text) publication script → IsCut text (take (end + 1) text ++ publication) script
cut_behind text publication script end e h no_bar (inl (line, is_rest, bar, whole, none)) =
    inl (
      line,
      sym (take-append-drop (end + 1) text) ∙ ap (λ (x : List ℕ). take (end + 1) text ++ x) is_rest ∙ sym (append_assoc (take (end + 1) text) publication (line ++ script)),
      bar,
      whole_lines-more text publication end e h whole,
      has_bar-line text publication end e h no_bar none,
    )
cut_behind text publication script end e h no_bar (inr (is_rest, empty, none)) =
    inr (
      sym (take-append-drop (end + 1) text) ∙ ap (λ (x : List ℕ). take (end + 1) text ++ x) is_rest,
      empty,
      rw (parts_of-first text end e h, no_bar) none,
    )

-- a last line that is not the bar
cut_nowhere : (text : List ℕ) (end : ℕ) → position_or_len is_line_feed text ≡ end → end ≤ length text → is_bar (take end text) ≡ false → length text ≤ end → IsCut text (publication_of text) (script_of text)
cut_nowhere text end e le no_bar h =
    let behind = bar_behind text end e le no_bar in
    let rest : drop (end + 1) text ≡ [] = drop_all (end + 1) text (omega arith) in
    let at_end : position_or_len is_line_feed text ≡ length text = omega (arith, e, le, h) in
    let it : is_bar text ≡ false = rw (take_all end text h) at no_bar in
    inr (
      sym (behind.0 ∙ ap (λ (x : List ℕ). take (end + 1) text ++ publication_of x) rest ∙ append-nil (take (end + 1) text) ∙ take_all (end + 1) text (omega arith)),
      behind.1 ∙ ap script_of rest,
      rw (parts_of-none text at_end, it) refl,
    )

cut_by : (n : ℕ) (text : List ℕ) (end : ℕ) → position_or_len is_line_feed text ≡ end → end ≤ length text → length text ≤ suc n → ((rest : List ℕ) → length rest ≤ n → IsCut rest (publication_of rest) (script_of rest))
    → (is_bar (take end text) ≡ true) ⊎ (is_bar (take end text) ≡ false) → (end < length text) ⊎ (length text ≤ end) → IsCut text (publication_of text) (script_of text)
cut_by n text end e le fits shorter (inl bar) where_it_ends =
    let here = bar_here text end e le bar in
    subst (λ (x : List ℕ). IsCut text x (script_of text)) (sym here.0) (subst (λ (x : List ℕ). IsCut text [] x) (sym here.1) (cut_here text end e le bar where_it_ends))
cut_by n text end e le fits shorter (inr no_bar) (inl h) =
    let behind = bar_behind text end e le no_bar in
    let rest : IsCut (drop (end + 1) text) (publication_of (drop (end + 1) text)) (script_of (drop (end + 1) text)) = shorter (drop (end + 1) text) (omega (arith, length-drop (end + 1) text)) in
    subst (λ (x : List ℕ). IsCut text x (script_of text)) (sym behind.0)
    (subst (λ (x : List ℕ). IsCut text (take (end + 1) text ++ publication_of (drop (end + 1) text)) x) (sym behind.1) (cut_behind text (publication_of (drop (end + 1) text)) (script_of (drop (end + 1) text)) end e h no_bar rest))
cut_by n text end e le fits shorter (inr no_bar) (inr h) = cut_nowhere text end e le no_bar h

cut_within : (n : ℕ) (text : List ℕ) → length text ≤ n → IsCut text (publication_of text) (script_of text)
cut_within zero [] fits = inr (refl, refl, refl)
cut_within zero (byte ∷ more) fits = absurd (omega arith)
cut_within (suc n) text fits =
    cut_by n text (position_or_len is_line_feed text) refl (prefix_len-le-length _ text) fits (cut_within n) (cases_Bool (is_bar (take (position_or_len is_line_feed text) text))) (cases_lt (position_or_len is_line_feed text) (length text))

-- an input is cut at its first bar
pub IsCut-input : (input : List ℕ) → IsCut input (publication_of input) (script_of input)
IsCut-input input = cut_within (length input) input (omega arith)
