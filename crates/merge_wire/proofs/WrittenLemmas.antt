-- What is written is a message.
use Rattle.std.proofs.Common.{◌≡◌, ◌∙◌, ◌<◌, ◌≤◌, ◌^◌, ◌==◌, ◌⊎◌, inl, inr, lit<, ◌≢◌, ℕ, List, [], ◌∷◌, ◌++◌, length, map, Bool, true, false, IsTrue, codes, decimal, Some, None, refl, sym, ap, subst, append_assoc, arith}
use Rattle.std.specs.List.{All}
use Rattle.std.specs.Char.{to_ascii_lowercase}
use Rattle.std.proofs.lemmas.Bool.Decides.{nat_tests}
use Rattle.std.proofs.lemmas.Fmt.{length-decimal-le}
use Rattle.std.proofs.lemmas.List.{append-nil, length-append}
use Rattle.std.proofs.lemmas.List.Elements.{All-nil, All-cons, All-weaker}
use Rattle.std.proofs.lemmas.List.Sums.{AllPass-from_list_all}
use Rattle.std.proofs.lemmas.Str.{IsUtf8-from_ascii}
use Rattle.std.proofs.lemmas.Str.Ascii.{IsAscii-from_all}
use Rattle.httparse.specs.Grammar.{LineEnd, crlf, lf, Field, IsField, IsToken, AllPass, is_token_byte, is_uri_byte, is_value_byte, RequestHead, IsRequestHead, print_request}
use Rattle.httparse.specs.Spans.{name_and_value}
use Rattle.httparse.proofs.GrammarLemmas.{print_request-append}
use Rattle.merge_wire.specs.declared.message.Message.{Message}
use Rattle.merge_wire.specs.Fields.{Pair, IsLength, IsCoding, HasNone, HasOne, HasLength, body_limit}
use Rattle.merge_wire.specs.Heads.{IsTakenRequest}
use Rattle.merge_wire.specs.Messages.{IsRequest}
use Rattle.merge_wire.specs.Written.{joined, request_pieces, message_text, IsVisible, IsWritableRequest}
use Rattle.merge_wire.proofs.Trimmed.{trim_decimal, decimal_digits}

-- a field as it is written
abbrev pub line : List ℕ → List ℕ → Field
line name value = record { name = name; raw = 32 ∷ value; end = crlf }

abbrev pub request_head : Message → RequestHead
request_head m = record {
  blank = [];
  method = codes "POST";
  target = m.path;
  minor = 1;
  line_end = crlf;
  fields = line (codes "Host") m.host ∷ line (codes "Content-Type") (codes "application/json") ∷ line (codes "Content-Length") (decimal (length m.body)) ∷ line (codes "Connection") (codes "close") ∷ [];
  last = crlf;
}

-- ---- classes of bytes

uri_byte : (b : ℕ) → (33 ≤ b) × (b ≤ 126) → is_uri_byte b ≡ true
uri_byte b h = grind (arith, nat_tests)

value_byte : (b : ℕ) → (33 ≤ b) × (b ≤ 126) → is_value_byte b ≡ true
value_byte b h = grind (arith, nat_tests)

digit_byte : (b : ℕ) → (48 ≤ b) × (b ≤ 57) → is_value_byte b ≡ true
digit_byte b h = value_byte b (omega arith, omega arith)

visible_values : (text : List ℕ) → IsVisible text → AllPass is_value_byte text
visible_values text is = All-weaker (λ b. (33 ≤ b) × (b ≤ 126)) (λ b. is_value_byte b ≡ true) value_byte text is.visible

digit_values : (n : ℕ) → n < 2 ^ 64 → AllPass is_value_byte (decimal n)
digit_values n lt = All-weaker (λ b. (48 ≤ b) × (b ≤ 57)) (λ b. is_value_byte b ≡ true) digit_byte (decimal n) (decimal_digits n lt)

-- behind the blank that parts a value from its name
behind_blank : (text : List ℕ) → AllPass is_value_byte text → AllPass is_value_byte (32 ∷ text)
behind_blank text h = All-cons (λ b. is_value_byte b ≡ true) 32 text refl h

visible_ascii : (b : ℕ) → (33 ≤ b) × (b ≤ 126) → b < 128
visible_ascii b h = omega arith

-- ---- lengths

pub not_length : (name : List ℕ) → length (map to_ascii_lowercase name) ≢ 14 → IsLength name → ⊥
not_length name ne e = ne (ap length e)

pub not_coding : (name : List ℕ) → length (map to_ascii_lowercase name) ≢ 17 → IsCoding name → ⊥
not_coding name ne e = ne (ap length e)

-- ---- requests

post_token : IsToken (codes "POST")
unfolding is_token_byte
post_token = (lit< tt, AllPass-from_list_all is_token_byte (codes "POST") refl)

pub is_field : (name value : List ℕ) → IsToken name → AllPass is_value_byte value → IsField (line name value)
is_field name value token values = record { name = token; raw = behind_blank value values }

host_field : (host : List ℕ) → IsVisible host → IsField (line (codes "Host") host)
unfolding is_token_byte
host_field host is = is_field (codes "Host") host (lit< tt, AllPass-from_list_all is_token_byte (codes "Host") refl) (visible_values host is)

pub type_field : IsField (line (codes "Content-Type") (codes "application/json"))
unfolding is_token_byte
type_field = is_field (codes "Content-Type") (codes "application/json") (lit< tt, AllPass-from_list_all is_token_byte (codes "Content-Type") refl) (AllPass-from_list_all is_value_byte (codes "application/json") refl)

pub length_field : (n : ℕ) → n < 2 ^ 64 → IsField (line (codes "Content-Length") (decimal n))
unfolding is_token_byte
length_field n lt = is_field (codes "Content-Length") (decimal n) (lit< tt, AllPass-from_list_all is_token_byte (codes "Content-Length") refl) (digit_values n lt)

pub close_field : IsField (line (codes "Connection") (codes "close"))
unfolding is_token_byte
close_field = is_field (codes "Connection") (codes "close") (lit< tt, AllPass-from_list_all is_token_byte (codes "Connection") refl) (AllPass-from_list_all is_value_byte (codes "close") refl)

four_fields : (a b c d : Field) → IsField a → IsField b → IsField c → IsField d → All IsField (a ∷ b ∷ c ∷ d ∷ [])
four_fields a b c d p q r s =
    All-cons IsField a (b ∷ c ∷ d ∷ []) p (All-cons IsField b (c ∷ d ∷ []) q (All-cons IsField c (d ∷ []) r (All-cons IsField d [] s (All-nil IsField))))

request_valid : (m : Message) → IsWritableRequest m → length m.body < 2 ^ 64 → IsRequestHead (request_head m)
request_valid m is lt = record {
  method = post_token;
  target = (omega (arith, is.path.some), All-weaker (λ b. (33 ≤ b) × (b ≤ 126)) (λ b. is_uri_byte b ≡ true) uri_byte m.path is.path.visible);
  target_text = IsUtf8-from_ascii m.path (IsAscii-from_all m.path (All-weaker (λ b. (33 ≤ b) × (b ≤ 126)) (λ b. b < 128) visible_ascii m.path is.path.visible));
  minor = omega arith;
  fields = four_fields _ _ _ _ (host_field m.host is.host) type_field (length_field (length m.body) lt) close_field;
}

section : (host digits body a b c : List ℕ) → (((host ++ c) ++ (a ++ ((digits ++ c) ++ b))) ++ c) ++ body ≡ host ++ (c ++ (a ++ (digits ++ (c ++ (b ++ (c ++ (body ++ [])))))))
section host digits body a b c = simp (append_assoc, append-nil)

request_spelled : (m : Message) → joined (request_pieces m) ≡ print_request (request_head m) ++ m.body
request_spelled m =
    sym (print_request-append (request_head m) m.body
    ∙ ap (λ (l : List ℕ). codes "POST " ++ (m.path ++ (codes " HTTP/1.1\r\nHost: " ++ l)))
    (section m.host (decimal (length m.body)) m.body (codes "Content-Type: application/json\r\nContent-Length: ") (codes "Connection: close\r\n") (13 ∷ 10 ∷ [])))

request_sized : (m : Message) → length m.body < 2 ^ 64 → HasLength (length m.body) (map name_and_value ((request_head m).fields))
request_sized m lt = record {
  plain = (not_coding (codes "Host") (λ e. omega (arith, e)), (not_coding (codes "Content-Type") (λ e. omega (arith, e)), (not_coding (codes "Content-Length") (λ e. omega (arith, e)), (not_coding (codes "Connection") (λ e. omega (arith, e)), tt))));
  one = inr (not_length (codes "Host") (λ e. omega (arith, e)), inr (not_length (codes "Content-Type") (λ e. omega (arith, e)), inl (refl, (lt, trim_decimal (length m.body) lt), (not_length (codes "Connection") (λ e. omega (arith, e)), tt))));
}

request_short : (m : Message) → IsWritableRequest m → length m.body ≤ body_limit → length (print_request (request_head m)) ≤ 8192
unfolding print_request
request_short m is within =
    let digits : length (decimal (length m.body)) ≤ 9 = length-decimal-le 9 (length m.body) (omega arith) (omega arith) (omega arith) in
    simp (length-append) (omega (arith, digits, is.path.few, is.host.few))

request_text : (m : Message) → IsWritableRequest m → message_text m ≡ joined (request_pieces m)
unfolding message_text
request_text m is = rw is.status refl

pub request_reads_back : (m : Message) → IsWritableRequest m → length m.body ≤ body_limit → IsRequest (message_text m) (record m { host = [] })
request_reads_back m is within =
    let lt : length m.body < 2 ^ 64 = omega arith in
    record {
      head = request_head m;
      taken = record { valid = request_valid m is lt; few = omega arith; short = request_short m is within };
      sized = request_sized m lt;
      within = within;
      spelled = request_text m is ∙ request_spelled m;
      method = is.method;
      path = refl;
      host = refl;
      status = is.status;
    }
