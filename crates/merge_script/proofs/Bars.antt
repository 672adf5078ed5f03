-- The publication and the script of a text, by its first line.
use Rattle.std.proofs.Common.{◌≡◌, ℕ, ◌+◌, ◌<◌, ◌≤◌, min, ◌⊎◌, inl, inr, List, [], ◌∷◌, ◌++◌, length, take, drop, get_or, refl, sym, ap, ◌∙◌, arith, true, false, append_assoc, append-nil, if◌then◌else◌}
use Rattle.std.proofs.lemmas.Bool.{cases_lt, eqb-true}
use Rattle.std.proofs.lemmas.List.{take_all, drop_all, take_more, take_min, drop_min, drop-drop}
use Rattle.std.proofs.Math.Seq.{take-add}
use Rattle.std.proofs.lemmas.List.Splits.{join_with_byte-slice_split, length-slice_split}
use Rattle.std.proofs.lemmas.List.Sums.{passes_at_first}
use Rattle.std.specs.List.{position_or_len}
use Rattle.merge_script.specs.Lines.{is_line_feed, parts_of}
use Rattle.merge_script.specs.Input.{is_bar, text_before_bar, publication_of, script_of}
use Rattle.merge_script.proofs.Parts.{parts_of-first, parts_of-none}

-- the text before the bar, where another part follows
text_before_bar-cons : (part : List ℕ) (parts : List (List ℕ)) → 0 < length parts → text_before_bar (part ∷ parts) ≡ (if is_bar part then [] else part ++ 10 ∷ text_before_bar parts)
text_before_bar-cons part [] h = absurd (omega arith)
text_before_bar-cons part (next ∷ more) h = refl

-- a first line with its line feed
pub front_line : (text : List ℕ) (end : ℕ) → position_or_len is_line_feed text ≡ end → end < length text → take (end + 1) text ≡ take end text ++ 10 ∷ []
front_line text end e h =
    let passes : is_line_feed (get_or text end 0) ≡ true = rw (← e) (passes_at_first is_line_feed text 0 (rw e h)) in
    take_more text end 0 h ∙ ap (λ (b : ℕ). take end text ++ b ∷ []) (eqb-true (get_or text end 0) 10 passes)

bar_here_by : (text : List ℕ) (end : ℕ) → position_or_len is_line_feed text ≡ end → end ≤ length text → is_bar (take end text) ≡ true → (end < length text) ⊎ (length text ≤ end) → (publication_of text ≡ []) × (script_of text ≡ drop (end + 1) text)
bar_here_by text end e le bar (inl h) = (
  rw (parts_of-first text end e h, text_before_bar-cons (take end text) (parts_of (drop (end + 1) text)) (omega (arith, length-slice_split is_line_feed (drop (end + 1) text))), bar) refl,
  rw (parts_of-first text end e h, bar) (join_with_byte-slice_split 10 (drop (end + 1) text)),
)
bar_here_by text end e le bar (inr h) =
    let whole : take end text ≡ text = take_all end text h in
    let at_end : position_or_len is_line_feed text ≡ length text = omega (arith, e, le, h) in
    let it : is_bar text ≡ true = rw whole at bar in (
      rw (parts_of-none text at_end, it) refl,
      rw (parts_of-none text at_end, it, drop_all (end + 1) text (omega arith)) refl,
    )

-- a first line that is the bar
pub bar_here : (text : List ℕ) (end : ℕ) → position_or_len is_line_feed text ≡ end → end ≤ length text → is_bar (take end text) ≡ true → (publication_of text ≡ []) × (script_of text ≡ drop (end + 1) text)
bar_here text end e le bar = bar_here_by text end e le bar (cases_lt end (length text))

bar_behind_by : (text : List ℕ) (end : ℕ) → position_or_len is_line_feed text ≡ end → end ≤ length text → is_bar (take end text) ≡ false → (end < length text) ⊎ (length text ≤ end)
    → (publication_of text ≡ take (end + 1) text ++ publication_of (drop (end + 1) text)) × (script_of text ≡ script_of (drop (end + 1) text))
bar_behind_by text end e le bar (inl h) = (
  rw (parts_of-first text end e h, text_before_bar-cons (take end text) (parts_of (drop (end + 1) text)) (omega (arith, length-slice_split is_line_feed (drop (end + 1) text))), bar, front_line text end e h)
      (sym (append_assoc (take end text) (10 ∷ []) (publication_of (drop (end + 1) text)))),
  rw (parts_of-first text end e h, bar) refl,
)
bar_behind_by text end e le bar (inr h) =
    let whole : take end text ≡ text = take_all end text h in
    let at_end : position_or_len is_line_feed text ≡ length text = omega (arith, e, le, h) in
    let it : is_bar text ≡ false = rw whole at bar in (
      rw (parts_of-none text at_end, it, drop_all (end + 1) text (omega arith), take_all (end + 1) text (omega arith)) (sym (append-nil text)),
      rw (parts_of-none text at_end, it, drop_all (end + 1) text (omega arith)) refl,
    )

-- a first line that is not the bar
pub bar_behind : (text : List ℕ) (end : ℕ) → position_or_len is_line_feed text ≡ end → end ≤ length text → is_bar (take end text) ≡ false
    → (publication_of text ≡ take (end + 1) text ++ publication_of (drop (end + 1) text)) × (script_of text ≡ script_of (drop (end + 1) text))
bar_behind text end e le bar = bar_behind_by text end e le bar (cases_lt end (length text))

-- the bar stands behind a front of the input, on a line of the rest
pub publication_here : (input rest line : List ℕ) (at end : ℕ) → rest ≡ drop at input → line ≡ take end rest → position_or_len is_line_feed rest ≡ end → end ≤ length rest → is_bar line ≡ true
    → publication_of input ≡ take at input ++ publication_of (drop at input) → take at input ≡ publication_of input
publication_here input rest line at end r l e le bar so_far =
    let here : publication_of rest ≡ [] = (bar_here rest end e le (ap is_bar (sym l) ∙ bar)).0 in
    sym (so_far ∙ ap (λ (x : List ℕ). take at input ++ publication_of x) (sym r) ∙ ap (λ (x : List ℕ). take at input ++ x) here ∙ append-nil (take at input))

pub script_here : (input rest line : List ℕ) (at end behind : ℕ) → rest ≡ drop at input → line ≡ take end rest → position_or_len is_line_feed rest ≡ end → end ≤ length rest → is_bar line ≡ true
    → behind ≡ min (end + 1) (length rest) → script_of input ≡ script_of (drop at input) → drop behind rest ≡ script_of input
script_here input rest line at end behind r l e le bar b so_far =
    let here : script_of rest ≡ drop (end + 1) rest = (bar_here rest end e le (ap is_bar (sym l) ∙ bar)).1 in
    sym (so_far ∙ ap script_of (sym r) ∙ here ∙ sym (ap (λ (n : ℕ). drop n rest) b ∙ drop_min (end + 1) rest))

-- the line is not the bar
pub publication_more : (input rest line : List ℕ) (at end behind : ℕ) → rest ≡ drop at input → line ≡ take end rest → position_or_len is_line_feed rest ≡ end → end ≤ length rest → is_bar line ≡ false
    → behind ≡ min (end + 1) (length rest) → publication_of input ≡ take at input ++ publication_of (drop at input)
    → publication_of input ≡ take (at + behind) input ++ publication_of (drop (at + behind) input)
publication_more input rest line at end behind r l e le bar b so_far =
    let here : publication_of rest ≡ take (end + 1) rest ++ publication_of (drop (end + 1) rest) = (bar_behind rest end e le (ap is_bar (sym l) ∙ bar)).0 in
    let front : take (at + behind) input ≡ take at input ++ take (end + 1) rest =
    take-add at behind input ∙ ap (λ (x : List ℕ). take at input ++ take behind x) (sym r) ∙ ap (λ (n : ℕ). take at input ++ take n rest) b ∙ ap (λ (x : List ℕ). take at input ++ x) (take_min (end + 1) rest) in
    let back : drop (at + behind) input ≡ drop (end + 1) rest =
    sym (drop-drop behind at input) ∙ ap (λ (x : List ℕ). drop behind x) (sym r) ∙ ap (λ (n : ℕ). drop n rest) b ∙ drop_min (end + 1) rest in
    so_far
    ∙ ap (λ (x : List ℕ). take at input ++ publication_of x) (sym r)
    ∙ ap (λ (x : List ℕ). take at input ++ x) here
    ∙ sym (append_assoc (take at input) (take (end + 1) rest) (publication_of (drop (end + 1) rest)))
    ∙ ap (λ (x : List ℕ). x ++ publication_of (drop (end + 1) rest)) (sym front)
    ∙ ap (λ (x : List ℕ). take (at + behind) input ++ publication_of x) (sym back)

pub script_more : (input rest line : List ℕ) (at end behind : ℕ) → rest ≡ drop at input → line ≡ take end rest → position_or_len is_line_feed rest ≡ end → end ≤ length rest → is_bar line ≡ false
    → behind ≡ min (end + 1) (length rest) → script_of input ≡ script_of (drop at input) → script_of input ≡ script_of (drop (at + behind) input)
script_more input rest line at end behind r l e le bar b so_far =
    let here : script_of rest ≡ script_of (drop (end + 1) rest) = (bar_behind rest end e le (ap is_bar (sym l) ∙ bar)).1 in
    let back : drop (at + behind) input ≡ drop (end + 1) rest =
    sym (drop-drop behind at input) ∙ ap (λ (x : List ℕ). drop behind x) (sym r) ∙ ap (λ (n : ℕ). drop n rest) b ∙ drop_min (end + 1) rest in
    so_far ∙ ap script_of (sym r) ∙ here ∙ ap script_of (sym back)
