-- How many lines have ended, in bytes and in heads.
use Rattle.std.proofs.Common.{◌≡◌, ◌∙◌, ◌≤◌, ◌<◌, ◌+◌, ◌-◌, ◌⊎◌, inl, inr, ℕ, suc, Bool, true, false, cond, List, [], ◌∷◌, ◌++◌, length, take, drop, codes, Option, Some, None, refl, sym, ap, subst, arith, append_assoc, flat_map}
use Rattle.std.specs.Char.{is_ascii_digit}
use Rattle.std.specs.List.{filter, prefix_len, All}
use Rattle.std.proofs.lemmas.Bool.{ne_eqb, cases_lt}
use Rattle.std.proofs.lemmas.List.{append-nil, length-append, take-append-drop}
use Rattle.std.proofs.lemmas.List.Elements.{All-head, All-tail, filter-append}
use Rattle.std.proofs.lemmas.List.Sums.{length-filter, sum_by-cons}
use Rattle.std.proofs.Math.Seq.{take-append_seam, take-append-add}
use Rattle.httparse.specs.Grammar.{LineEnd, crlf, lf, print_end, print_blank, print_version, print_reason, reason_phrase, AllPass, Field, IsField, print_field, print_section, is_token_byte, is_uri_byte, is_value_byte, RequestHead, IsRequestHead, print_request, HasNoRequest, ResponseHead, IsResponseHead, print_response, HasNoResponse}
use Rattle.httparse.specs.Pieces.{Stops, is_newline}
use Rattle.httparse.specs.Spans.{RequestOverflows, RequestExceeds, ResponseOverflows, ResponseExceeds}
use Rattle.httparse.proofs.GrammarLemmas.{print_request-append, print_response-append}
use Rattle.httparse.proofs.PieceLemmas.{Stops_token}
use Rattle.merge_wire.specs.Heads.{is_line_feed, line_ends, behind_blank, lines}

-- ---- line ends

pub ends_append : (a b : List ℕ) → line_ends (a ++ b) ≡ line_ends a + line_ends b
ends_append a b =
    let whole = length-filter is_line_feed (a ++ b) in
    let parts = ap length (filter-append is_line_feed a b) ∙ length-append (filter is_line_feed a) (filter is_line_feed b) in
    omega (arith, whole, parts, length-filter is_line_feed a, length-filter is_line_feed b)

ends_other : (x : ℕ) → is_line_feed x ≡ false → (xs : List ℕ) → line_ends (x ∷ xs) ≡ line_ends xs
ends_other x e xs = sum_by-cons (λ (b : ℕ). cond (is_line_feed b) 1 0) x xs ∙ ap (λ (c : Bool). cond c 1 0 + line_ends xs) e ∙ omega arith

ends_none : (test : ℕ → Bool) → test 10 ≡ false → (xs : List ℕ) → AllPass test xs → line_ends xs ≡ 0
ends_none test fails [] all = refl
ends_none test fails (x ∷ xs) all =
    let other : is_line_feed x ≡ false = ne_eqb x 10 (λ e. no (sym fails ∙ subst (λ (v : ℕ). test v ≡ true) e (All-head (λ v. test v ≡ true) x xs all))) in
    ends_other x other xs ∙ ends_none test fails xs (All-tail (λ v. test v ≡ true) x xs all)
  where
    no : false ≡ true → ⊥
    no e = absurd cc

ends_of_end : (e : LineEnd) → line_ends (print_end e) ≡ 1
ends_of_end crlf = refl
ends_of_end lf = refl

value_ends : is_value_byte 10 ≡ false
value_ends = refl

token_ends : is_token_byte 10 ≡ false
unfolding is_token_byte
token_ends = refl

ends_of_field : (f : Field) → IsField f → line_ends (print_field f) ≡ 1
ends_of_field f is =
    let a = ends_append (f.name ++ 58 ∷ f.raw) (print_end f.end) in
    let b = ends_append f.name (58 ∷ f.raw) in
    let c = ends_other 58 refl f.raw in
    omega (arith, a, b, c, ends_none is_token_byte token_ends f.name is.name.1, ends_none is_value_byte value_ends f.raw is.raw, ends_of_end f.end)

ends_of_fields : (fs : List Field) → All IsField fs → line_ends (flat_map print_field fs) ≡ length fs
ends_of_fields [] all = refl
ends_of_fields (f ∷ fs) all =
    let a = ends_append (print_field f) (flat_map print_field fs) in
    omega (arith, a, ends_of_field f (All-head IsField f fs all), ends_of_fields fs (All-tail IsField f fs all))

ends_of_section : (fs : List Field) (last : LineEnd) → All IsField fs → line_ends (print_section fs last) ≡ length fs + 1
ends_of_section fs last all =
    let a = ends_append (flat_map print_field fs) (print_end last) in
    omega (arith, a, ends_of_fields fs all, ends_of_end last)

ends_of_version : (minor : ℕ) → line_ends (print_version minor) ≡ 0
ends_of_version minor =
    let a = ends_append (codes "HTTP/1.") ((48 + minor) ∷ []) in
    let b = ends_other (48 + minor) (ne_eqb (48 + minor) 10 (λ e. omega arith)) [] in
    let c : line_ends (codes "HTTP/1.") ≡ 0 = refl in
    let d : line_ends [] ≡ 0 = refl in
    omega (arith, a, b, c, d)

ends_of_reason : (reason : Option (List ℕ)) → AllPass is_value_byte (reason_phrase reason) → line_ends (print_reason reason) ≡ 0
ends_of_reason None all = refl
ends_of_reason (Some phrase) all = ends_other 32 refl phrase ∙ ends_none is_value_byte value_ends phrase all

pub empty_few : lines [] ≤ 33
empty_few = omega arith

-- ---- empty lines at the front

blank_more : (b : ℕ) (bytes : List ℕ) → is_newline b ≡ true → behind_blank (b ∷ bytes) ≡ behind_blank bytes
blank_more b bytes e =
    let one : 1 + prefix_len is_newline bytes ≡ suc (prefix_len is_newline bytes) = omega arith in
    ap (λ (c : Bool). drop (cond c (1 + prefix_len is_newline bytes) 0) (b ∷ bytes)) e ∙ ap (λ (n : ℕ). drop n (b ∷ bytes)) one

blank_stops : (b : ℕ) (bytes : List ℕ) → is_newline b ≡ false → behind_blank (b ∷ bytes) ≡ b ∷ bytes
blank_stops b bytes e = ap (λ (c : Bool). drop (cond c (1 + prefix_len is_newline bytes) 0) (b ∷ bytes)) e

stopped : (bytes : List ℕ) → Stops is_newline bytes → behind_blank bytes ≡ bytes
stopped [] stops = absurd stops
stopped (b ∷ bytes) stops = blank_stops b bytes stops

blank_lines : (es : List LineEnd) (rest : List ℕ) → Stops is_newline rest → behind_blank (print_blank es ++ rest) ≡ rest
blank_lines [] rest stops = stopped rest stops
blank_lines (crlf ∷ es) rest stops =
    blank_more 13 (10 ∷ (print_blank es ++ rest)) refl ∙ blank_more 10 (print_blank es ++ rest) refl ∙ blank_lines es rest stops
blank_lines (lf ∷ es) rest stops = blank_more 10 (print_blank es ++ rest) refl ∙ blank_lines es rest stops

-- ---- lines, where more bytes come

lines-le : (bytes : List ℕ) → lines bytes ≤ line_ends bytes
lines-le bytes =
    let n = prefix_len is_newline bytes in
    omega (arith, ap line_ends (take-append-drop n bytes), ends_append (take n bytes) (drop n bytes))

abbrev Adds : List ℕ → List ℕ → Type 0
Adds a b = ((lines a ≡ 0) × (lines (a ++ b) ≤ line_ends b)) ⊎ (lines (a ++ b) ≡ lines a + line_ends b)

adds : (a b : List ℕ) → Adds a b
adds [] b = inl (refl, lines-le b)
adds (x ∷ a) b = by (is_newline x) refl (adds a b)
  where
    by : (c : Bool) → is_newline x ≡ c → Adds a b → Adds (x ∷ a) b
    by true e (inl h) = inl (ap line_ends (blank_more x a e) ∙ h.0, subst (λ (l : List ℕ). line_ends l ≤ line_ends b) (sym (blank_more x (a ++ b) e)) h.1)
    by true e (inr h) = inr (ap line_ends (blank_more x (a ++ b) e) ∙ h ∙ ap (λ (l : List ℕ). line_ends l + line_ends b) (sym (blank_more x a e)))
    by false e h = inr (ap line_ends (blank_stops x (a ++ b) e) ∙ ends_append (x ∷ a) b ∙ ap (λ (l : List ℕ). line_ends l + line_ends b) (sym (blank_stops x a e)))

at_most : (a b : List ℕ) → lines (a ++ b) ≤ lines a + line_ends b
at_most a b = by (adds a b)
  where
    by : Adds a b → lines (a ++ b) ≤ lines a + line_ends b
    by (inl h) = omega (arith, h.0, h.1)
    by (inr h) = omega (arith, h)

-- lines that have ended have ended, whatever follows
pub lines_grow : (a b : List ℕ) → lines a ≤ lines (a ++ b)
lines_grow a b = by (adds a b)
  where
    by : Adds a b → lines a ≤ lines (a ++ b)
    by (inl h) = omega (arith, h.0)
    by (inr h) = omega (arith, h)

added : (a b : List ℕ) → 0 < lines a → lines (a ++ b) ≡ lines a + line_ends b
added a b some = by (adds a b)
  where
    by : Adds a b → lines (a ++ b) ≡ lines a + line_ends b
    by (inl h) = absurd (omega (arith, h.0, some))
    by (inr h) = h

-- ---- the last byte

abbrev Closes : List ℕ → Type 0
Closes text = (front : List ℕ) × (text ≡ front ++ 10 ∷ [])

closes_end : (e : LineEnd) → Closes (print_end e)
closes_end crlf = (13 ∷ [], refl)
closes_end lf = ([], refl)

closes_behind : (a b : List ℕ) → Closes b → Closes (a ++ b)
closes_behind a b c = (a ++ c.0, ap (λ (l : List ℕ). a ++ l) c.1 ∙ sym (append_assoc a c.0 (10 ∷ [])))

closes_section : (fs : List Field) (last : LineEnd) → Closes (print_section fs last)
closes_section fs last = closes_behind (flat_map print_field fs) (print_end last) (closes_end last)

last_counts : (a k : List ℕ) (x : ℕ) (p : List ℕ) → a ++ x ∷ k ≡ p ++ 10 ∷ [] → 0 < line_ends (x ∷ k)
last_counts [] k x p e =
    let one : line_ends (10 ∷ []) ≡ 1 = refl in
    omega (arith, ap line_ends e, ends_append p (10 ∷ []), one)
last_counts (z ∷ a) k x [] e = absurd (omega (arith, ap length e, length-append a (x ∷ k)))
last_counts (z ∷ a) k x (y ∷ p) e = last_counts a k x p (cc)

-- the rest of a text that a line ends has a line's end
rest_counts : (a k text : List ℕ) → Closes text → text ≡ a ++ k → length a < length text → 0 < line_ends k
rest_counts a [] text c e less = absurd (omega (arith, ap length e, length-append a [], less))
rest_counts a (x ∷ k) text c e less = last_counts a k x c.0 (sym e ∙ c.1)

-- bytes at least as long as others that begin the same begin with them
pub begins : (a b c d : List ℕ) → a ++ b ≡ c ++ d → length c ≤ length a → (k : List ℕ) × (a ≡ c ++ k)
begins a b c d e le =
    let k = length a - length c in
    let split : length a ≡ length c + k = omega (arith, le) in
    (take k d, sym (take-append_seam a b) ∙ ap (λ (l : List ℕ). take (length a) l) e ∙ ap (λ (n : ℕ). take n (c ++ d)) split ∙ take-append-add c d k)

-- ---- requests

request_text : (m t v e s rest : List ℕ) → line_ends m ≡ 0 → line_ends t ≡ 0 → line_ends v ≡ 0 → line_ends e ≡ 1
    → line_ends (m ++ 32 ∷ (t ++ 32 ∷ (v ++ (e ++ (s ++ rest))))) ≡ 1 + line_ends s + line_ends rest
request_text m t v e s rest none_m none_t none_v one =
    let p = ends_append m (32 ∷ (t ++ 32 ∷ (v ++ (e ++ (s ++ rest))))) in
    let q = ends_other 32 refl (t ++ 32 ∷ (v ++ (e ++ (s ++ rest)))) in
    let r = ends_append t (32 ∷ (v ++ (e ++ (s ++ rest)))) in
    let u = ends_other 32 refl (v ++ (e ++ (s ++ rest))) in
    let w = ends_append v (e ++ (s ++ rest)) in
    let x = ends_append e (s ++ rest) in
    omega (arith, p, q, r, u, w, x, ends_append s rest, none_m, none_t, none_v, one)

pub lines_of_request : (h : RequestHead) (rest : List ℕ) → IsRequestHead h → lines (print_request h ++ rest) ≡ length h.fields + 2 + line_ends rest
lines_of_request h rest is =
    let text = request_text h.method h.target (print_version h.minor) (print_end h.line_end) (print_section h.fields h.last) rest
    (ends_none is_token_byte token_ends h.method is.method.1) (ends_none is_uri_byte refl h.target is.target.1) (ends_of_version h.minor) (ends_of_end h.line_end) in
    ap lines (print_request-append h rest) ∙ ap line_ends (blank_lines h.blank _ (Stops_token h.method _ is.method.0 is.method.1))
    ∙ omega (arith, text, ends_of_section h.fields h.last is.fields)

closes_request : (h : RequestHead) → Closes (print_request h)
unfolding print_request
closes_request h = closes_behind _ (print_section h.fields h.last) (closes_section h.fields h.last)

pub many_in_request : (bytes : List ℕ) → RequestExceeds 32 bytes → 33 < lines bytes
many_in_request bytes over =
    let front = over.0 in
    let h = over.3 in
    let whole : lines (front ++ print_end lf) ≡ length h.fields + 2 + 0 = ap lines over.4.1 ∙ lines_of_request h [] over.4.0 in
    let one : line_ends (print_end lf) ≡ 1 = refl in
    subst (λ (l : List ℕ). 33 < lines l) (sym over.2) (omega (arith, whole, one, at_most front (print_end lf), lines_grow front over.1, over.5))

pub many_overflow_request : (bytes : List ℕ) → HasNoRequest bytes → 33 < lines bytes → RequestOverflows 32 bytes
many_overflow_request bytes none many more h rest reads = by (cases_lt (length bytes) (length (print_request h)))
  where
    by : (length bytes < length (print_request h)) ⊎ (length (print_request h) ≤ length bytes) → 32 < length h.fields
    by (inr le) = let b = begins bytes more (print_request h) rest reads.1 le in absurd (none h b.0 (reads.0, b.1))
    by (inl less) =
        let b = begins (print_request h) rest bytes more (sym reads.1) (omega (arith, less)) in
        let whole = lines_of_request h [] reads.0 in
        let same : lines (print_request h ++ []) ≡ lines (bytes ++ b.0) = ap lines (append-nil (print_request h) ∙ b.1) in
        let nothing : line_ends [] ≡ 0 = refl in
        omega (arith, whole, same, nothing, added bytes b.0 (omega (arith, many)), rest_counts bytes b.0 (print_request h) (closes_request h) b.1 less, many)

-- ---- responses

response_text : (v d p e s rest : List ℕ) → line_ends v ≡ 0 → line_ends d ≡ 0 → line_ends p ≡ 0 → line_ends e ≡ 1
    → line_ends (v ++ 32 ∷ (d ++ (p ++ (e ++ (s ++ rest))))) ≡ 1 + line_ends s + line_ends rest
response_text v d p e s rest none_v none_d none_p one =
    let q = ends_append v (32 ∷ (d ++ (p ++ (e ++ (s ++ rest))))) in
    let r = ends_other 32 refl (d ++ (p ++ (e ++ (s ++ rest)))) in
    let t = ends_append d (p ++ (e ++ (s ++ rest))) in
    let u = ends_append p (e ++ (s ++ rest)) in
    let w = ends_append e (s ++ rest) in
    omega (arith, q, r, t, u, w, ends_append s rest, none_v, none_d, none_p, one)

pub lines_of_response : (h : ResponseHead) (rest : List ℕ) → IsResponseHead h → lines (print_response h ++ rest) ≡ length h.fields + 2 + line_ends rest
lines_of_response h rest is =
    let text = response_text (print_version h.minor) h.digits (print_reason h.reason) (print_end h.line_end) (print_section h.fields h.last) rest
    (ends_of_version h.minor) (ends_none is_ascii_digit refl h.digits is.digits.1) (ends_of_reason h.reason is.reason) (ends_of_end h.line_end) in
    ap lines (print_response-append h rest) ∙ ap line_ends (blank_lines h.blank _ refl)
    ∙ omega (arith, text, ends_of_section h.fields h.last is.fields)

closes_response : (h : ResponseHead) → Closes (print_response h)
unfolding print_response
closes_response h = closes_behind _ (print_section h.fields h.last) (closes_section h.fields h.last)

pub many_in_response : (bytes : List ℕ) → ResponseExceeds 32 bytes → 33 < lines bytes
many_in_response bytes over =
    let front = over.0 in
    let h = over.3 in
    let whole : lines (front ++ print_end lf) ≡ length h.fields + 2 + 0 = ap lines over.4.1 ∙ lines_of_response h [] over.4.0 in
    let one : line_ends (print_end lf) ≡ 1 = refl in
    subst (λ (l : List ℕ). 33 < lines l) (sym over.2) (omega (arith, whole, one, at_most front (print_end lf), lines_grow front over.1, over.5))

pub many_overflow_response : (bytes : List ℕ) → HasNoResponse bytes → 33 < lines bytes → ResponseOverflows 32 bytes
many_overflow_response bytes none many more h rest reads = by (cases_lt (length bytes) (length (print_response h)))
  where
    by : (length bytes < length (print_response h)) ⊎ (length (print_response h) ≤ length bytes) → 32 < length h.fields
    by (inr le) = let b = begins bytes more (print_response h) rest reads.1 le in absurd (none h b.0 (reads.0, b.1))
    by (inl less) =
        let b = begins (print_response h) rest bytes more (sym reads.1) (omega (arith, less)) in
        let whole = lines_of_response h [] reads.0 in
        let same : lines (print_response h ++ []) ≡ lines (bytes ++ b.0) = ap lines (append-nil (print_response h) ∙ b.1) in
        let nothing : line_ends [] ≡ 0 = refl in
        omega (arith, whole, same, nothing, added bytes b.0 (omega (arith, many)), rest_counts bytes b.0 (print_response h) (closes_response h) b.1 less, many)
