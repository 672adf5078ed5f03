-- Responses that are written read back.
use Rattle.std.proofs.Common.{◌≡◌, ◌∙◌, ◌<◌, ◌≤◌, ◌^◌, ◌==◌, ◌||◌, ◌≢◌, ◌⊎◌, inl, inr, lit<, ℕ, List, [], ◌∷◌, ◌++◌, length, map, Bool, true, false, cond, if◌then◌else◌, IsTrue, codes, decimal, Option, Some, None, refl, sym, ap, subst, append_assoc, arith}
use Rattle.std.specs.List.{All}
use Rattle.std.specs.Char.{is_ascii_digit}
use Rattle.std.specs.Str.Parse.{digits_value}
use Rattle.std.proofs.lemmas.Bool.{eqb-true}
use Rattle.std.proofs.lemmas.Bool.Decides.{nat_tests}
use Rattle.std.proofs.lemmas.Fmt.{length-decimal-le}
use Rattle.std.proofs.lemmas.List.{append-nil, length-append}
use Rattle.std.proofs.lemmas.List.Elements.{All-nil, All-cons, All-weaker}
use Rattle.std.proofs.lemmas.List.Sums.{AllPass-from_list_all}
use Rattle.http.specs.StatusCode.{code_digits}
use Rattle.httparse.specs.Grammar.{crlf, Field, IsField, AllPass, is_token_byte, is_value_byte, ResponseHead, IsResponseHead, print_response, status_code}
use Rattle.httparse.specs.Spans.{name_and_value}
use Rattle.httparse.proofs.GrammarLemmas.{print_response-append}
use Rattle.merge_wire.specs.declared.message.Message.{Message}
use Rattle.merge_wire.specs.Fields.{HasNone, IsCoding, IsLength, HasLength, body_limit}
use Rattle.merge_wire.specs.Messages.{IsResponse}
use Rattle.merge_wire.specs.Written.{joined, response_pieces, message_text, status_text, phrase_of, allow_line, is_status, IsWritableResponse}
use Rattle.merge_wire.proofs.Trimmed.{trim_decimal}
use Rattle.merge_wire.proofs.WrittenLemmas.{line, is_field, type_field, length_field, close_field, not_length, not_coding}

-- what holds of a status that is written
pub record IsWrittenStatus (status : ℕ) : Type 0 where
  pub digits : AllPass is_ascii_digit (code_digits status)
  pub value : digits_value 10 (code_digits status) ≡ status
  pub some : status ≢ 0
  pub phrase : AllPass is_value_byte (phrase_of status)
  pub short : length (phrase_of status) ≤ 40

written_status : (n : ℕ) → AllPass is_ascii_digit (code_digits n) → digits_value 10 (code_digits n) ≡ n → n ≢ 0 → AllPass is_value_byte (phrase_of n) → length (phrase_of n) ≤ 40 → IsWrittenStatus n
written_status n a b c d e = record { digits = a; value = b; some = c; phrase = d; short = e }

either : (a b : Bool) → (a || b) ≡ true → (a ≡ true) ⊎ (b ≡ true)
either true b e = inl refl
either false b e = inr e

pub status_is : (n : ℕ) → IsTrue (is_status n) → IsWrittenStatus n
status_is n e = by200 (either (200 == n) _ e)
  where
    at : (k : ℕ) → IsWrittenStatus k → (k == n) ≡ true → IsWrittenStatus n
    at k is same = subst IsWrittenStatus (eqb-true k n same) is

    by507 : ((507 == n) ≡ true) ⊎ (false ≡ true) → IsWrittenStatus n
    by507 (inl same) = at 507 (written_status 507 (AllPass-from_list_all is_ascii_digit (code_digits 507) refl) refl (λ z. omega (arith, z)) (AllPass-from_list_all is_value_byte (phrase_of 507) refl) (omega arith)) same
    by507 (inr none) = absurd cc

    by500 : ((500 == n) ≡ true) ⊎ (((507 == n) || false) ≡ true) → IsWrittenStatus n
    by500 (inl same) = at 500 (written_status 500 (AllPass-from_list_all is_ascii_digit (code_digits 500) refl) refl (λ z. omega (arith, z)) (AllPass-from_list_all is_value_byte (phrase_of 500) refl) (omega arith)) same
    by500 (inr rest) = by507 (either (507 == n) _ rest)

    by413 : ((413 == n) ≡ true) ⊎ (((500 == n) || ((507 == n) || false)) ≡ true) → IsWrittenStatus n
    by413 (inl same) = at 413 (written_status 413 (AllPass-from_list_all is_ascii_digit (code_digits 413) refl) refl (λ z. omega (arith, z)) (AllPass-from_list_all is_value_byte (phrase_of 413) refl) (omega arith)) same
    by413 (inr rest) = by500 (either (500 == n) _ rest)

    by409 : ((409 == n) ≡ true) ⊎ (((413 == n) || ((500 == n) || ((507 == n) || false))) ≡ true) → IsWrittenStatus n
    by409 (inl same) = at 409 (written_status 409 (AllPass-from_list_all is_ascii_digit (code_digits 409) refl) refl (λ z. omega (arith, z)) (AllPass-from_list_all is_value_byte (phrase_of 409) refl) (omega arith)) same
    by409 (inr rest) = by413 (either (413 == n) _ rest)

    by405 : ((405 == n) ≡ true) ⊎ (((409 == n) || ((413 == n) || ((500 == n) || ((507 == n) || false)))) ≡ true) → IsWrittenStatus n
    by405 (inl same) = at 405 (written_status 405 (AllPass-from_list_all is_ascii_digit (code_digits 405) refl) refl (λ z. omega (arith, z)) (AllPass-from_list_all is_value_byte (phrase_of 405) refl) (omega arith)) same
    by405 (inr rest) = by409 (either (409 == n) _ rest)

    by404 : ((404 == n) ≡ true) ⊎ (((405 == n) || ((409 == n) || ((413 == n) || ((500 == n) || ((507 == n) || false))))) ≡ true) → IsWrittenStatus n
    by404 (inl same) = at 404 (written_status 404 (AllPass-from_list_all is_ascii_digit (code_digits 404) refl) refl (λ z. omega (arith, z)) (AllPass-from_list_all is_value_byte (phrase_of 404) refl) (omega arith)) same
    by404 (inr rest) = by405 (either (405 == n) _ rest)

    by400 : ((400 == n) ≡ true) ⊎ (((404 == n) || ((405 == n) || ((409 == n) || ((413 == n) || ((500 == n) || ((507 == n) || false)))))) ≡ true) → IsWrittenStatus n
    by400 (inl same) = at 400 (written_status 400 (AllPass-from_list_all is_ascii_digit (code_digits 400) refl) refl (λ z. omega (arith, z)) (AllPass-from_list_all is_value_byte (phrase_of 400) refl) (omega arith)) same
    by400 (inr rest) = by404 (either (404 == n) _ rest)

    by200 : ((200 == n) ≡ true) ⊎ (((400 == n) || ((404 == n) || ((405 == n) || ((409 == n) || ((413 == n) || ((500 == n) || ((507 == n) || false))))))) ≡ true) → IsWrittenStatus n
    by200 (inl same) = at 200 (written_status 200 (AllPass-from_list_all is_ascii_digit (code_digits 200) refl) refl (λ z. omega (arith, z)) (AllPass-from_list_all is_value_byte (phrase_of 200) refl) (omega arith)) same
    by200 (inr rest) = by400 (either (400 == n) _ rest)

-- the fields of a response
abbrev pub allow_fields : ℕ → List Field
allow_fields status = if status == 405 then line (codes "Allow") (codes "POST") ∷ [] else []

abbrev pub response_head : Message → ResponseHead
response_head m = record {
  blank = [];
  minor = 1;
  digits = code_digits m.status;
  reason = Some (phrase_of m.status);
  line_end = crlf;
  fields = line (codes "Content-Type") (codes "application/json") ∷ line (codes "Content-Length") (decimal (length m.body)) ∷ line (codes "Connection") (codes "close") ∷ allow_fields m.status;
  last = crlf;
}

allow_field : IsField (line (codes "Allow") (codes "POST"))
unfolding is_token_byte
allow_field = is_field (codes "Allow") (codes "POST") (lit< tt, AllPass-from_list_all is_token_byte (codes "Allow") refl) (AllPass-from_list_all is_value_byte (codes "POST") refl)

-- what is said of the last fields, with the one for a refused method and without it
by_allow : (P : List Field → List ℕ → Type 0) → P (line (codes "Allow") (codes "POST") ∷ []) (codes "Allow: POST\r\n") → P [] [] → (status : ℕ) → P (allow_fields status) (allow_line status)
by_allow P with without status = by (status == 405)
  where
    by : (b : Bool) → P (cond b (line (codes "Allow") (codes "POST") ∷ []) []) (cond b (codes "Allow: POST\r\n") [])
    by true = with
    by false = without

response_fields : (n : ℕ) (status : ℕ) → n < 2 ^ 64 → All IsField (line (codes "Content-Type") (codes "application/json") ∷ line (codes "Content-Length") (decimal n) ∷ line (codes "Connection") (codes "close") ∷ allow_fields status)
response_fields n status lt =
    All-cons IsField (line (codes "Content-Type") (codes "application/json")) (line (codes "Content-Length") (decimal n) ∷ line (codes "Connection") (codes "close") ∷ allow_fields status) type_field
    (All-cons IsField (line (codes "Content-Length") (decimal n)) (line (codes "Connection") (codes "close") ∷ allow_fields status) (length_field n lt)
    (All-cons IsField (line (codes "Connection") (codes "close")) (allow_fields status) close_field
    (by_allow (λ fields text. All IsField fields) (All-cons IsField (line (codes "Allow") (codes "POST")) [] allow_field (All-nil IsField)) (All-nil IsField) status)))

response_valid : (m : Message) → IsWrittenStatus m.status → length m.body < 2 ^ 64 → IsResponseHead (response_head m)
response_valid m is lt = record {
  minor = omega arith;
  digits = (refl, is.digits);
  reason = is.phrase;
  fields = response_fields (length m.body) m.status lt;
}

abbrev head_with : Message → List Field → ResponseHead
head_with m fields = record (response_head m) { fields = line (codes "Content-Type") (codes "application/json") ∷ line (codes "Content-Length") (decimal (length m.body)) ∷ line (codes "Connection") (codes "close") ∷ fields }

abbrev pieces_with : Message → List ℕ → List (List ℕ)
pieces_with m text =
    codes "HTTP/1.1 " ∷ status_text m.status
    ∷ codes "\r\nContent-Type: application/json\r\nContent-Length: " ∷ decimal (length m.body)
    ∷ codes "\r\nConnection: close\r\n" ∷ text ∷ codes "\r\n" ∷ m.body ∷ []

section : (digits body b c : List ℕ) → (((digits ++ c) ++ b) ++ c) ++ body ≡ digits ++ (c ++ (b ++ (c ++ (body ++ []))))
section digits body b c = simp (append_assoc, append-nil)

spelled_with : (m : Message) → joined (pieces_with m (codes "Allow: POST\r\n")) ≡ print_response (head_with m (line (codes "Allow") (codes "POST") ∷ [])) ++ m.body
spelled_with m =
    sym (print_response-append (head_with m (line (codes "Allow") (codes "POST") ∷ [])) m.body
    ∙ ap (λ (l : List ℕ). codes "HTTP/1.1 " ++ (status_text m.status ++ (codes "\r\nContent-Type: application/json\r\nContent-Length: " ++ l)))
    (section (decimal (length m.body)) m.body (codes "Connection: close\r\nAllow: POST\r\n") (13 ∷ 10 ∷ [])))

spelled_without : (m : Message) → joined (pieces_with m []) ≡ print_response (head_with m []) ++ m.body
spelled_without m =
    sym (print_response-append (head_with m []) m.body
    ∙ ap (λ (l : List ℕ). codes "HTTP/1.1 " ++ (status_text m.status ++ (codes "\r\nContent-Type: application/json\r\nContent-Length: " ++ l)))
    (section (decimal (length m.body)) m.body (codes "Connection: close\r\n") (13 ∷ 10 ∷ [])))

response_spelled : (m : Message) → joined (response_pieces m) ≡ print_response (response_head m) ++ m.body
response_spelled m = by_allow (λ fields text. joined (pieces_with m text) ≡ print_response (head_with m fields) ++ m.body) (spelled_with m) (spelled_without m) m.status

sized_with : (n : ℕ) (fields : List Field) → n < 2 ^ 64 → HasNone IsCoding (map name_and_value fields) → HasNone IsLength (map name_and_value fields)
    → HasLength n (map name_and_value (line (codes "Content-Type") (codes "application/json") ∷ line (codes "Content-Length") (decimal n) ∷ line (codes "Connection") (codes "close") ∷ fields))
sized_with n fields lt coding lengths = record {
  plain = (not_coding (codes "Content-Type") (λ e. omega (arith, e)), (not_coding (codes "Content-Length") (λ e. omega (arith, e)), (not_coding (codes "Connection") (λ e. omega (arith, e)), coding)));
  one = inr (not_length (codes "Content-Type") (λ e. omega (arith, e)), inl (refl, (lt, trim_decimal n lt), (not_length (codes "Connection") (λ e. omega (arith, e)), lengths)));
}

response_sized : (m : Message) → length m.body < 2 ^ 64 → HasLength (length m.body) (map name_and_value ((response_head m).fields))
response_sized m lt = by_allow
    (λ fields text. HasLength (length m.body) (map name_and_value ((head_with m fields).fields)))
    (sized_with (length m.body) (line (codes "Allow") (codes "POST") ∷ []) lt (not_coding (codes "Allow") (λ e. omega (arith, e)), tt) (not_length (codes "Allow") (λ e. omega (arith, e)), tt))
    (sized_with (length m.body) [] lt tt tt) m.status

short_with : (m : Message) → IsWrittenStatus m.status → length m.body ≤ body_limit → length (print_response (head_with m (line (codes "Allow") (codes "POST") ∷ []))) ≤ 8192
unfolding print_response
short_with m is within =
    let digits : length (decimal (length m.body)) ≤ 9 = length-decimal-le 9 (length m.body) (omega arith) (omega arith) (omega arith) in
    simp (length-append) (omega (arith, digits, is.short))

short_without : (m : Message) → IsWrittenStatus m.status → length m.body ≤ body_limit → length (print_response (head_with m [])) ≤ 8192
unfolding print_response
short_without m is within =
    let digits : length (decimal (length m.body)) ≤ 9 = length-decimal-le 9 (length m.body) (omega arith) (omega arith) (omega arith) in
    simp (length-append) (omega (arith, digits, is.short))

response_short : (m : Message) → IsWrittenStatus m.status → length m.body ≤ body_limit → length (print_response (response_head m)) ≤ 8192
response_short m is within = by_allow (λ fields text. length (print_response (head_with m fields)) ≤ 8192) (short_with m is within) (short_without m is within) m.status

few_fields : (m : Message) → length ((response_head m).fields) ≤ 32
few_fields m = by_allow (λ fields text. length ((head_with m fields).fields) ≤ 32) (omega arith) (omega arith) m.status

no_zero : (n : ℕ) → n ≢ 0 → (n == 0) ≡ false
no_zero n ne = grind (arith, nat_tests)

response_text : (m : Message) → m.status ≢ 0 → message_text m ≡ joined (response_pieces m)
unfolding message_text
response_text m ne = rw (no_zero m.status ne) refl

pub response_reads_back : (m : Message) → IsWritableResponse m → length m.body ≤ body_limit → IsResponse (message_text m) m
response_reads_back m is within =
    let status = status_is m.status is.status in
    let lt : length m.body < 2 ^ 64 = omega arith in
    record {
      head = response_head m;
      rest = [];
      taken = record { valid = response_valid m status lt; few = few_fields m; short = response_short m status within };
      sized = response_sized m lt;
      within = within;
      spelled = response_text m status.some ∙ response_spelled m ∙ ap (λ (l : List ℕ). print_response (response_head m) ++ l) (sym (append-nil m.body));
      status = sym status.value;
      method = is.method;
      path = is.path;
      host = is.host;
    }
