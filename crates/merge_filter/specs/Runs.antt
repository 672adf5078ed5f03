-- Where words begin and end. Blanks part words; the first byte of a word says its kind, and the longest run of
-- that kind is the word.
use Rattle.std.specs.Char.{is_ascii_digit, is_ascii_hexdigit}
use Rattle.std.specs.Prelude.{ℕ, suc, ◌+◌, Bool, false, ◌&&◌, ◌||◌, ◌==◌, List, [], ◌∷◌, length, drop, take_while, if◌then◌else◌}
use Rattle.merge_types.specs.Names.{begins_name, continues_name}
use Rattle.merge_filter.specs.declared.kind.Kind.{Kind}
use Rattle.merge_filter.specs.declared.kind.Kind.TheVariants.{Name, Number, Hex, Quoted, Bracketed, Mark}

-- space, tab, CR and LF
abbrev pub is_blank : ℕ → Bool
is_blank b = (b == 32) || (b == 9) || (b == 13) || (b == 10)

abbrev pub behind_blanks : List ℕ → List ℕ
behind_blanks bytes = drop (length (take_while is_blank bytes)) bytes

-- whether the first byte is this one
abbrev pub begins_with : ℕ → List ℕ → Bool
begins_with b [] = false
begins_with b (c ∷ cs) = c == b

abbrev pub kind_of : List ℕ → Kind
kind_of [] = Mark
kind_of (c ∷ cs) =
    if (c == 48) && begins_with 120 cs then Hex
    else if c == 39 then Quoted
    else if c == 91 then Bracketed
    else if (c == 45) || is_ascii_digit c then Number
    else if begins_name c then Name
    else Mark

-- behind an opening quote: up to and with the first quote that has no second quote behind it, or all
abbrev pub quoted_len : List ℕ → ℕ
quoted_len [] = 0
quoted_len (c ∷ []) = 1
quoted_len (c ∷ d ∷ cs) =
    if c == 39 then (if d == 39 then suc (suc (quoted_len cs)) else 1)
    else suc (quoted_len (d ∷ cs))

-- behind an opening bracket: a name, and the closing bracket if it is there
abbrev pub bracketed_len : List ℕ → ℕ
bracketed_len bytes =
    length (take_while continues_name bytes)
    + (if begins_with 93 (drop (length (take_while continues_name bytes)) bytes) then 1 else 0)

-- `<=`, `<>` and `>=` are two bytes long
abbrev pub mark_len : ℕ → List ℕ → ℕ
mark_len c cs =
    if (c == 60) && (begins_with 61 cs || begins_with 62 cs) then 2
    else if (c == 62) && begins_with 61 cs then 2
    else 1

-- the length of the word at the front, of this kind
abbrev pub run_len : Kind → List ℕ → ℕ
run_len kind [] = 0
run_len Name (c ∷ cs) = suc (length (take_while continues_name cs))
run_len Number (c ∷ cs) = suc (length (take_while is_ascii_digit cs))
run_len Hex (c ∷ cs) = suc (suc (length (take_while is_ascii_hexdigit (drop 1 cs))))
run_len Quoted (c ∷ cs) = suc (quoted_len cs)
run_len Bracketed (c ∷ cs) = suc (bracketed_len cs)
run_len Mark (c ∷ cs) = mark_len c cs
