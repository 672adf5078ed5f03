-- A head and bytes behind it are a response.
use Rattle.std.proofs.Common.{◌≡◌, ◌∙◌, ◌≤◌, ◌<◌, ◌⊎◌, inl, inr, ℕ, List, [], ◌++◌, length, map, take, drop, refl, sym, ap, subst, arith}
use Rattle.std.proofs.lemmas.List.{length-map, length-take, length-take-le, take-append-drop}
use Rattle.std.proofs.Math.Seq.{drop-append_seam}
use Rattle.httparse.specs.Grammar.{ResponseHead, print_response, ReadsResponse, status_code}
use Rattle.httparse.specs.Spans.{IsResponseOf, IsResponseAt, IsResponseWithin, header_bytes, name_and_value}
use Rattle.httparse.specs.declared.spans.HeaderSpan.{HeaderSpan}
use Rattle.httparse.specs.declared.spans.ResponseSpans.{ResponseSpans}
use Rattle.httparse.proofs.GrammarLemmas.{ReadsResponse-append}
use Rattle.merge_wire.specs.declared.message.Message.{Message}
use Rattle.merge_wire.specs.declared.fault.WireFault.{WireFault}
use Rattle.merge_wire.specs.declared.fault.WireFault.TheVariants as fault
use Rattle.merge_wire.specs.Fields.{Pair, HasLength, IsLengthFault, body_limit}
use Rattle.merge_wire.specs.Heads.{IsTakenResponse}
use Rattle.merge_wire.specs.Messages.{IsResponse}
use Rattle.merge_wire.specs.Faults.{IsResponseFault, LacksResponseBody, HasResponseLengthFault}

-- what the parser found at the front of the bytes
pub record ParsedResponse (bytes : List ℕ) (fields : List HeaderSpan) (r : ResponseSpans) : Type 0 where
  pub head : ResponseHead
  pub taken : IsTakenResponse head
  pub spelled : bytes ≡ print_response head ++ drop r.len bytes
  pub pairs : map (header_bytes (take 8192 bytes)) (take r.headers fields) ≡ map name_and_value head.fields
  pub code : r.code ≡ status_code head

few : (buf : List ℕ) (fields : List HeaderSpan) (n : ℕ) (h : ResponseHead) → length fields ≡ 32 → map (header_bytes buf) (take n fields) ≡ map name_and_value h.fields → length h.fields ≤ 32
few buf fields n h room same =
    let lengths = ap length same in
    omega (arith, simp (length-map, length-take) at lengths)

behind : (bytes front rest : List ℕ) (n : ℕ) → bytes ≡ front ++ rest → n ≡ length front → bytes ≡ front ++ drop n bytes
behind bytes front rest n spelled len =
    let dropped : drop n bytes ≡ rest = ap (λ (l : List ℕ). drop n l) spelled ∙ ap (λ (k : ℕ). drop k (front ++ rest)) len ∙ drop-append_seam front rest in
    spelled ∙ ap (λ (l : List ℕ). front ++ l) (sym dropped)

pub parsed : (bytes : List ℕ) (fields : List HeaderSpan) (r : ResponseSpans) → IsResponseOf (take 8192 bytes) fields r → IsResponseWithin (take 8192 bytes) fields r → length fields ≡ 32 → ParsedResponse bytes fields r
parsed bytes fields r of within room =
    let h = of.0 in
    let reads : ReadsResponse (take 8192 bytes ++ drop 8192 bytes) h (drop r.len (take 8192 bytes) ++ drop 8192 bytes) = ReadsResponse-append (take 8192 bytes) h (drop r.len (take 8192 bytes)) (drop 8192 bytes) of.1.reads in
    let spelled : bytes ≡ print_response h ++ (drop r.len (take 8192 bytes) ++ drop 8192 bytes) = sym (take-append-drop 8192 bytes) ∙ reads.1 in
    record {
      head = h;
      taken = record { valid = of.1.reads.0; few = few (take 8192 bytes) fields r.headers h room of.1.fields; short = omega (arith, of.1.len, within.section.len_fits, length-take 8192 bytes) };
      spelled = behind bytes (print_response h) _ r.len spelled of.1.len;
      pairs = of.1.fields;
      code = of.1.code;
    }

with_pairs : (fs gs : List Pair) (e : WireFault) → fs ≡ gs → IsLengthFault fs e → IsLengthFault gs e
with_pairs fs gs e same h = subst (λ (l : List Pair). IsLengthFault l e) same h

pub length_fault : (bytes : List ℕ) (fields : List HeaderSpan) (r : ResponseSpans) (e : WireFault) → ParsedResponse bytes fields r → IsLengthFault (map (header_bytes (take 8192 bytes)) (take r.headers fields)) e → IsResponseFault bytes e
length_fault bytes fields r fault.BadHead p h = absurd h
length_fault bytes fields r fault.BadLength p h = (p.head, drop r.len bytes, p.taken, p.spelled, with_pairs _ _ fault.BadLength p.pairs h)
length_fault bytes fields r (fault.TooLong n) p h = (p.head, drop r.len bytes, p.taken, p.spelled, with_pairs _ _ (fault.TooLong n) p.pairs h)
length_fault bytes fields r fault.Ended p h = absurd h
length_fault bytes fields r fault.ReadFault p h = absurd h
length_fault bytes fields r fault.WriteFault p h = absurd h
length_fault bytes fields r fault.NoMemory p h = absurd h

-- less is there than the body that the head tells
pub ended : (bytes : List ℕ) (fields : List HeaderSpan) (r : ResponseSpans) (n : ℕ) → ParsedResponse bytes fields r → HasLength n (map (header_bytes (take 8192 bytes)) (take r.headers fields)) → n ≤ body_limit
    → length (drop r.len bytes) < n → IsResponseFault bytes fault.Ended
ended bytes fields r n p sized within less = inr (record {
  head = p.head;
  taken = p.taken;
  length_of = n;
  sized = subst (λ (fs : List Pair). HasLength n fs) p.pairs sized;
  within = within;
  front = drop r.len bytes;
  less = less;
  spelled = p.spelled;
})

-- the body is there, and perhaps more
pub response_is : (bytes : List ℕ) (fields : List HeaderSpan) (r : ResponseSpans) (n : ℕ) (m : Message) → ParsedResponse bytes fields r → HasLength n (map (header_bytes (take 8192 bytes)) (take r.headers fields)) → n ≤ body_limit
    → n ≤ length (drop r.len bytes) → m.body ≡ take n (drop r.len bytes) → m.status ≡ r.code → m.method ≡ [] → m.path ≡ [] → m.host ≡ [] → IsResponse bytes m
response_is bytes fields r n m p sized within enough body status method path host =
    let long : length m.body ≡ n = ap length body ∙ length-take-le n (drop r.len bytes) enough in
    record {
      head = p.head;
      rest = drop n (drop r.len bytes);
      taken = p.taken;
      sized = subst (λ (k : ℕ). HasLength k (map name_and_value p.head.fields)) (sym long) (subst (λ (fs : List Pair). HasLength n fs) p.pairs sized);
      within = subst (λ (k : ℕ). k ≤ body_limit) (sym long) within;
      spelled = p.spelled ∙ ap (λ (l : List ℕ). print_response p.head ++ l) (sym (take-append-drop n (drop r.len bytes)) ∙ ap (λ (l : List ℕ). l ++ drop n (drop r.len bytes)) (sym body));
      status = status ∙ p.code;
      method = method;
      path = path;
      host = host;
    }
