-- A head and a body are a message.
use Rattle.std.proofs.Common.{◌≡◌, ◌∙◌, ◌≤◌, ◌<◌, ℕ, List, [], ◌∷◌, ◌++◌, length, map, take, drop, refl, sym, ap, subst, append_assoc, arith, true, IsUtf8}
use Rattle.std.specs.List.{All}
use Rattle.std.proofs.lemmas.List.{append-nil, length-map, length-take, length-append}
use Rattle.std.proofs.lemmas.Bool.Decides.{nat_tests}
use Rattle.std.proofs.lemmas.List.Elements.{All-weaker}
use Rattle.std.proofs.lemmas.Str.{IsUtf8-from_ascii}
use Rattle.std.proofs.lemmas.Str.Ascii.{IsAscii-from_all}
use Rattle.std.proofs.Math.ListN.{drop_of_length-le}
use Rattle.httparse.specs.Grammar.{RequestHead, print_request, is_token_byte, IsToken, field_value}
use Rattle.httparse.specs.Spans.{IsRequestOf, IsRequestAt, IsRequestWithin, header_bytes, name_and_value, span_bytes}
use Rattle.httparse.specs.declared.spans.HeaderSpan.{HeaderSpan}
use Rattle.httparse.specs.declared.spans.RequestSpans.{RequestSpans}
use Rattle.merge_wire.specs.declared.message.Message.{Message}
use Rattle.merge_wire.specs.Fields.{Pair, HasLength}
use Rattle.merge_wire.specs.Heads.{IsTakenRequest}
use Rattle.merge_wire.specs.Messages.{IsRequest}

head_is : (buf : List ℕ) (fields : List HeaderSpan) (r : RequestSpans) (h : RequestHead) → IsRequestAt buf fields r h → length buf ≤ r.len → buf ≡ print_request h
head_is buf fields r h at le = at.reads.1 ∙ ap (λ (l : List ℕ). print_request h ++ l) (drop_of_length-le buf le) ∙ append-nil (print_request h)

-- what the parser found in the bytes of a head
pub record Parsed (buf : List ℕ) (fields : List HeaderSpan) (r : RequestSpans) : Type 0 where
  pub head : RequestHead
  pub taken : IsTakenRequest head
  pub spelled : buf ≡ print_request head
  pub pairs : map (header_bytes buf) (take r.headers fields) ≡ map name_and_value head.fields
  pub method : span_bytes buf r.method ≡ head.method
  pub path : span_bytes buf r.path ≡ head.target

few : (buf : List ℕ) (fields : List HeaderSpan) (n : ℕ) (h : RequestHead) → length fields ≡ 32 → map (header_bytes buf) (take n fields) ≡ map name_and_value h.fields → length h.fields ≤ 32
few buf fields n h room same =
    let lengths = ap length same in
    omega (arith, simp (length-map, length-take) at lengths)

pub parsed : (buf : List ℕ) (fields : List HeaderSpan) (r : RequestSpans) → IsRequestOf buf fields r → length buf ≤ r.len → length buf ≤ 8192 → length fields ≡ 32 → Parsed buf fields r
parsed buf fields r of le short room =
    let is = head_is buf fields r of.0 of.1 le in
    record {
      head = of.0;
      taken = record { valid = of.1.reads.0; few = few buf fields r.headers of.0 room of.1.fields; short = subst (λ (l : List ℕ). length l ≤ 8192) is short };
      spelled = is;
      pairs = of.1.fields;
      method = of.1.method;
      path = of.1.path;
    }

-- a head and a body are a request
pub request_is : (buf : List ℕ) (fields : List HeaderSpan) (r : RequestSpans) (m : Message) → Parsed buf fields r → HasLength (length m.body) (map (header_bytes buf) (take r.headers fields)) → length m.body ≤ 134_217_728
    → m.method ≡ span_bytes buf r.method → m.path ≡ span_bytes buf r.path → m.host ≡ [] → m.status ≡ 0 → IsRequest (buf ++ m.body) m
request_is buf fields r m p sized within method path host status = record {
  head = p.head;
  taken = p.taken;
  sized = subst (λ (fs : List Pair). HasLength (length m.body) fs) p.pairs sized;
  within = within;
  spelled = ap (λ (l : List ℕ). l ++ m.body) p.spelled;
  method = method ∙ p.method;
  path = path ∙ p.path;
  host = host;
  status = status;
}

token_is_ascii : (b : ℕ) → is_token_byte b ≡ true → b < 128
unfolding is_token_byte
token_is_ascii b token = grind (arith, nat_tests)

-- a token is text
token_text : (name : List ℕ) → IsToken name → IsUtf8 name
token_text name token = IsUtf8-from_ascii name (IsAscii-from_all name (All-weaker (λ b. is_token_byte b ≡ true) (λ b. b < 128) token_is_ascii name token.1))

pub method_text : (buf : List ℕ) (fields : List HeaderSpan) (r : RequestSpans) → Parsed buf fields r → IsUtf8 (span_bytes buf r.method)
method_text buf fields r p = subst (λ (l : List ℕ). IsUtf8 l) (sym p.method) (token_text p.head.method p.taken.valid.method)

pub path_text : (buf : List ℕ) (fields : List HeaderSpan) (r : RequestSpans) → Parsed buf fields r → IsUtf8 (span_bytes buf r.path)
path_text buf fields r p = subst (λ (l : List ℕ). IsUtf8 l) (sym p.path) p.taken.valid.target_text
