-- Bytes have one cause of a fault at the most.
use Rattle.std.proofs.Common.{◌≡◌, ◌∙◌, ◌≤◌, ◌⊎◌, inl, inr, ℕ, List, [], ◌++◌, length, map, take, Some, refl, sym, ap, subst, append_assoc, arith}
use Rattle.std.specs.declared.option.Option.{Option}
use Rattle.std.proofs.lemmas.List.{append-nil, length-append, take_all}
use Rattle.httparse.specs.Grammar.{RequestHead, print_request, ReadsRequest, ResponseHead, ReadsResponse}
use Rattle.httparse.specs.Spans.{name_and_value}
use Rattle.httparse.proofs.GrammarLemmas.{request_unique, response_unique}
use Rattle.merge_wire.specs.declared.fault.WireFault.{WireFault}
use Rattle.merge_wire.specs.declared.fault.WireFault.TheVariants as fault
use Rattle.merge_wire.specs.Fields.{Pair, HasLength, IsLengthFault, body_limit}
use Rattle.merge_wire.specs.Heads.{IsTakenRequest, IsTakenResponse, IsBadRequest, IsBadResponse, AwaitsRequest, AwaitsResponse, lines}
use Rattle.merge_wire.specs.Faults.{IsOfOutside, IsRequestFault, IsResponseFault}
use Rattle.merge_wire.proofs.LineEnds.{lines_grow}
use Rattle.merge_wire.proofs.NoFault.{took_is, end_is, no_bad_head, no_bad_response}
use Rattle.merge_wire.proofs.OneMessage.{one_length}

-- ---- what the fields of a head tell

-- the length is at fault so, or it is a length of a body that ends early
abbrev Tells : List Pair → WireFault → Type 0
Tells fs fault.Ended = (n : ℕ) × HasLength n fs × (n ≤ body_limit)
Tells fs fault.BadLength = IsLengthFault fs fault.BadLength
Tells fs (fault.TooLong n) = IsLengthFault fs (fault.TooLong n)
Tells fs _ = ⊥

same_long : (m n : ℕ) (fs : List Pair) → HasLength m fs → HasLength n fs → m ≡ n
same_long m n fs p q = one_length m n fs p.one q.one

one_told : (fs : List Pair) (e f : WireFault) → Tells fs e → Tells fs f → e ≡ f
one_told fs fault.BadHead f p q = absurd p
one_told fs fault.ReadFault f p q = absurd p
one_told fs fault.WriteFault f p q = absurd p
one_told fs fault.NoMemory f p q = absurd p
one_told fs fault.BadLength f p q = by f q
  where
    by : (f : WireFault) → Tells fs f → fault.BadLength ≡ f
    by fault.BadLength q = refl
    by (fault.TooLong n) q = absurd (p n q.0)
    by fault.Ended q = absurd (p q.0 q.1)
    by fault.BadHead q = absurd q
    by fault.ReadFault q = absurd q
    by fault.WriteFault q = absurd q
    by fault.NoMemory q = absurd q
one_told fs (fault.TooLong m) f p q = by f q
  where
    by : (f : WireFault) → Tells fs f → fault.TooLong m ≡ f
    by fault.BadLength q = absurd (q m p.0)
    by (fault.TooLong n) q = ap (λ (k : ℕ). fault.TooLong k) (same_long m n fs p.0 q.0)
    by fault.Ended q = let long = same_long m q.0 fs p.0 q.1 in absurd (omega (arith, long, p.1, q.2))
    by fault.BadHead q = absurd q
    by fault.ReadFault q = absurd q
    by fault.WriteFault q = absurd q
    by fault.NoMemory q = absurd q
one_told fs fault.Ended f p q = by f q
  where
    by : (f : WireFault) → Tells fs f → fault.Ended ≡ f
    by fault.BadLength q = absurd (q p.0 p.1)
    by (fault.TooLong n) q = let long = same_long n p.0 fs q.0 p.1 in absurd (omega (arith, long, p.2, q.1))
    by fault.Ended q = refl
    by fault.BadHead q = absurd q
    by fault.ReadFault q = absurd q
    by fault.WriteFault q = absurd q
    by fault.NoMemory q = absurd q

-- ---- requests

abbrev Refused : List ℕ → Type 0
Refused bytes = (q : List ℕ) × (r : List ℕ) × (bytes ≡ q ++ r) × IsBadRequest q

abbrev Headed : List ℕ → WireFault → Type 0
Headed bytes e = (h : RequestHead) × (rest : List ℕ) × IsTakenRequest h × ReadsRequest bytes h rest × Tells (map name_and_value h.fields) e

abbrev Cause : List ℕ → WireFault → Type 0
Cause bytes e = ((e ≡ fault.BadHead) × Refused bytes) ⊎ (((e ≡ fault.Ended) × AwaitsRequest bytes) ⊎ (Headed bytes e ⊎ IsOfOutside e))

cause : (bytes : List ℕ) (new : Option (List ℕ)) (count : ℕ) (e : WireFault) → IsRequestFault (Some bytes) new count count e → Cause bytes e
cause bytes new count fault.BadHead f = let t = took_is bytes new f.0 f.1 in inl (refl, (f.0, t.0, t.2, f.2.bad))
cause bytes new count fault.BadLength f =
    let t = took_is bytes new f.0 f.1 in
    inr (inr (inl (f.2.0, t.0, f.2.1, (f.2.1.valid, t.2 ∙ ap (λ (l : List ℕ). l ++ t.0) f.2.2), f.2.3)))
cause bytes new count (fault.TooLong n) f =
    let t = took_is bytes new f.0 f.1 in
    inr (inr (inl (f.2.0, t.0, f.2.1, (f.2.1.valid, t.2 ∙ ap (λ (l : List ℕ). l ++ t.0) f.2.2), f.2.3)))
cause bytes new count fault.Ended (q, took, end, inl awaits) =
    let t = took_is bytes new q took in
    let whole : q ≡ bytes = sym (t.2 ∙ ap (λ (l : List ℕ). q ++ l) (end_is new t.0 t.1 end) ∙ append-nil q) in
    inr (inl (refl, subst AwaitsRequest whole awaits))
cause bytes new count fault.Ended (q, took, end, inr lacks) =
    let t = took_is bytes new q took in
    let reads : ReadsRequest bytes lacks.head (lacks.front ++ t.0) = (lacks.taken.valid, t.2 ∙ ap (λ (l : List ℕ). l ++ t.0) lacks.spelled ∙ append_assoc (print_request lacks.head) lacks.front t.0) in
    inr (inr (inl (lacks.head, lacks.front ++ t.0, lacks.taken, reads, (lacks.length_of, lacks.sized, lacks.within))))
cause bytes new count fault.ReadFault f = inr (inr (inr (inl refl)))
cause bytes new count fault.WriteFault f = absurd f
cause bytes new count fault.NoMemory f = inr (inr (inr (inr refl)))

apart : (bytes q r : List ℕ) → bytes ≡ q ++ r → IsBadRequest q → AwaitsRequest bytes → ⊥
apart bytes q r e (inl bad) w =
    let x = w.hopeful in
    let many = bad.many (r ++ x.0, x.1, x.2, subst (λ (l : List ℕ). ReadsRequest l x.1 x.2) (ap (λ (l : List ℕ). l ++ x.0) e ∙ append_assoc q r x.0) x.3) in
    omega (arith, many, lines_grow q r, ap lines e, w.few)
apart bytes q r e (inr full) w = omega (arith, full.0, w.short, ap length e, length-append q r)

headed_not_bad : (bytes : List ℕ) (e : WireFault) → Refused bytes → Headed bytes e → ⊥
headed_not_bad bytes e bad x = no_bad_head bytes bad.0 bad.1 x.0 x.1 x.2 x.3 bad.2 bad.3

one_cause : (bytes : List ℕ) (e f : WireFault) → Cause bytes e → Cause bytes f → (e ≡ f) ⊎ (IsOfOutside e ⊎ IsOfOutside f)
one_cause bytes e f (inr (inr (inr p))) q = inr (inl p)
one_cause bytes e f (inl p) (inr (inr (inr q))) = inr (inr q)
one_cause bytes e f (inl p) (inl q) = inl (p.0 ∙ sym q.0)
one_cause bytes e f (inl p) (inr (inl q)) = absurd (apart bytes p.1.0 p.1.1 p.1.2 p.1.3 q.1)
one_cause bytes e f (inl p) (inr (inr (inl q))) = absurd (headed_not_bad bytes f p.1 q)
one_cause bytes e f (inr (inl p)) (inr (inr (inr q))) = inr (inr q)
one_cause bytes e f (inr (inl p)) (inl q) = absurd (apart bytes q.1.0 q.1.1 q.1.2 q.1.3 p.1)
one_cause bytes e f (inr (inl p)) (inr (inl q)) = inl (p.0 ∙ sym q.0)
one_cause bytes e f (inr (inl p)) (inr (inr (inl q))) = absurd (p.1.open_head q.0 q.1 q.3)
one_cause bytes e f (inr (inr (inl p))) (inr (inr (inr q))) = inr (inr q)
one_cause bytes e f (inr (inr (inl p))) (inl q) = absurd (headed_not_bad bytes e q.1 p)
one_cause bytes e f (inr (inr (inl p))) (inr (inl q)) = absurd (q.1.open_head p.0 p.1 p.3)
one_cause bytes e f (inr (inr (inl p))) (inr (inr (inl q))) =
    let same = (request_unique bytes p.0 q.0 p.1 q.1 p.3 q.3).0 in
    inl (one_told (map name_and_value q.0.fields) e f (subst (λ (h : RequestHead). Tells (map name_and_value h.fields) e) same p.4) q.4)

-- a source is at one fault by its bytes, whatever was taken of them
pub one_request_fault : (bytes : List ℕ) (left more : Option (List ℕ)) (count : ℕ) (e f : WireFault)
    → IsRequestFault (Some bytes) left count count e → IsRequestFault (Some bytes) more count count f → (e ≡ f) ⊎ (IsOfOutside e ⊎ IsOfOutside f)
one_request_fault bytes left more count e f p q = one_cause bytes e f (cause bytes left count e p) (cause bytes more count f q)

-- ---- responses

abbrev HeadedResponse : List ℕ → WireFault → Type 0
HeadedResponse bytes e = (h : ResponseHead) × (rest : List ℕ) × IsTakenResponse h × ReadsResponse bytes h rest × Tells (map name_and_value h.fields) e

abbrev ResponseCause : List ℕ → WireFault → Type 0
ResponseCause bytes e = ((e ≡ fault.BadHead) × IsBadResponse bytes) ⊎ (((e ≡ fault.Ended) × AwaitsResponse bytes) ⊎ (HeadedResponse bytes e ⊎ (e ≡ fault.NoMemory)))

response_cause : (bytes : List ℕ) (e : WireFault) → IsResponseFault bytes e → ResponseCause bytes e
response_cause bytes fault.BadHead f = inl (refl, f)
response_cause bytes fault.BadLength f = inr (inr (inl (f.0, f.1, f.2, (f.2.valid, f.3), f.4)))
response_cause bytes (fault.TooLong n) f = inr (inr (inl (f.0, f.1, f.2, (f.2.valid, f.3), f.4)))
response_cause bytes fault.Ended (inl awaits) = inr (inl (refl, awaits))
response_cause bytes fault.Ended (inr lacks) = inr (inr (inl (lacks.head, lacks.front, lacks.taken, (lacks.taken.valid, lacks.spelled), (lacks.length_of, lacks.sized, lacks.within))))
response_cause bytes fault.ReadFault f = absurd f
response_cause bytes fault.WriteFault f = absurd f
response_cause bytes fault.NoMemory f = inr (inr (inr refl))

apart_response : (bytes : List ℕ) → IsBadResponse bytes → AwaitsResponse bytes → ⊥
apart_response bytes (inl bad) w =
    let all : take 8192 bytes ≡ bytes = take_all 8192 bytes (omega (arith, w.short)) in
    let x = w.hopeful in
    let many = bad.many (x.0, x.1, [], subst (λ (l : List ℕ). ReadsResponse (l ++ x.0) x.1 []) (sym all) x.2) in
    omega (arith, many, ap lines all, w.few)
apart_response bytes (inr full) w = omega (arith, full.0, w.short)

response_not_bad : (bytes : List ℕ) (e : WireFault) → IsBadResponse bytes → HeadedResponse bytes e → ⊥
response_not_bad bytes e bad x = no_bad_response bytes x.0 x.1 x.2 x.3 bad

one_response_cause : (bytes : List ℕ) (e f : WireFault) → ResponseCause bytes e → ResponseCause bytes f → (e ≡ f) ⊎ ((e ≡ fault.NoMemory) ⊎ (f ≡ fault.NoMemory))
one_response_cause bytes e f (inr (inr (inr p))) q = inr (inl p)
one_response_cause bytes e f (inl p) (inr (inr (inr q))) = inr (inr q)
one_response_cause bytes e f (inl p) (inl q) = inl (p.0 ∙ sym q.0)
one_response_cause bytes e f (inl p) (inr (inl q)) = absurd (apart_response bytes p.1 q.1)
one_response_cause bytes e f (inl p) (inr (inr (inl q))) = absurd (response_not_bad bytes f p.1 q)
one_response_cause bytes e f (inr (inl p)) (inr (inr (inr q))) = inr (inr q)
one_response_cause bytes e f (inr (inl p)) (inl q) = absurd (apart_response bytes q.1 p.1)
one_response_cause bytes e f (inr (inl p)) (inr (inl q)) = inl (p.0 ∙ sym q.0)
one_response_cause bytes e f (inr (inl p)) (inr (inr (inl q))) = absurd (p.1.open_head q.0 q.1 q.3)
one_response_cause bytes e f (inr (inr (inl p))) (inr (inr (inr q))) = inr (inr q)
one_response_cause bytes e f (inr (inr (inl p))) (inl q) = absurd (response_not_bad bytes e q.1 p)
one_response_cause bytes e f (inr (inr (inl p))) (inr (inl q)) = absurd (q.1.open_head p.0 p.1 p.3)
one_response_cause bytes e f (inr (inr (inl p))) (inr (inr (inl q))) =
    let same = (response_unique bytes p.0 q.0 p.1 q.1 p.3 q.3).0 in
    inl (one_told (map name_and_value q.0.fields) e f (subst (λ (h : ResponseHead). Tells (map name_and_value h.fields) e) same p.4) q.4)

-- bytes are at one fault
pub one_response_fault : (bytes : List ℕ) (e f : WireFault) → IsResponseFault bytes e → IsResponseFault bytes f → (e ≡ f) ⊎ ((e ≡ fault.NoMemory) ⊎ (f ≡ fault.NoMemory))
one_response_fault bytes e f p q = one_response_cause bytes e f (response_cause bytes e p) (response_cause bytes f q)
