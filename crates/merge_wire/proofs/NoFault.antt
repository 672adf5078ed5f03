-- Bytes that begin with a message are at no fault.
use Rattle.std.proofs.Common.{◌≡◌, ◌∙◌, ◌≤◌, ◌<◌, ◌⊎◌, inl, inr, ◌-◌, ◌+◌, ℕ, List, [], ◌++◌, length, map, take, drop, Some, None, refl, sym, ap, subst, append_assoc, arith}
use Rattle.std.specs.declared.option.Option.{Option}
use Rattle.std.specs.Io.KnownBytes.{Consumes, IsAtEnd}
use Rattle.std.proofs.lemmas.List.{append-nil, length-append, length-take, take-append-drop}
use Rattle.std.proofs.Math.Seq.{take-append_seam, take-append-add}
use Rattle.httparse.specs.Grammar.{RequestHead, print_request, ReadsRequest, ResponseHead, print_response, ReadsResponse}
use Rattle.httparse.specs.Spans.{name_and_value}
use Rattle.httparse.proofs.GrammarLemmas.{request_unique, response_unique}
use Rattle.merge_wire.specs.declared.message.Message.{Message}
use Rattle.merge_wire.specs.declared.fault.WireFault.{WireFault}
use Rattle.merge_wire.specs.declared.fault.WireFault.TheVariants as fault
use Rattle.merge_wire.specs.Fields.{HasLength}
use Rattle.merge_wire.specs.Heads.{IsTakenRequest, IsTakenResponse, IsBadRequest, IsBadResponse}
use Rattle.merge_wire.specs.Messages.{IsRequest, IsResponse}
use Rattle.merge_wire.specs.Faults.{LacksResponseBody, IsUnfinished, IsRequestFault, IsResponseFault}
use Rattle.merge_wire.proofs.OneMessage.{one_length}

-- bytes at least as long as others that begin the same begin with them
begins : (a b c d : List ℕ) → a ++ b ≡ c ++ d → length c ≤ length a → (k : List ℕ) × (a ≡ c ++ k)
begins a b c d e le =
    let k = length a - length c in
    let split : length a ≡ length c + k = omega (arith, le) in
    (take k d, sym (take-append_seam a b) ∙ ap (λ (l : List ℕ). take (length a) l) e ∙ ap (λ (n : ℕ). take n (c ++ d)) split ∙ take-append-add c d k)

-- a body is no longer than what begins with it
shorter : (a b c d : List ℕ) → a ++ b ≡ c ++ d → d ≡ [] → length c < length a → ⊥
shorter a b c d e none lt =
    let long : length a + length b ≡ length c + length d = sym (length-append a b) ∙ ap length e ∙ length-append c d in
    omega (arith, long, ap length none, lt)

-- ---- requests

pub took_is : (bytes : List ℕ) (new : Option (List ℕ)) (q : List ℕ) → Consumes (Some bytes) new q → (rest : List ℕ) × (new ≡ Some rest) × (bytes ≡ q ++ rest)
took_is bytes (Some rest) q took = (rest, refl, took)
took_is bytes None q took = absurd took

pub end_is : (new : Option (List ℕ)) (rest : List ℕ) → new ≡ Some rest → IsAtEnd new → rest ≡ []
end_is (Some r) rest is end = let same : r ≡ rest = cc in sym same ∙ end
end_is None rest is end = absurd cc

reads : (bytes front rest : List ℕ) (m : Message) → bytes ≡ front ++ rest → (x : IsRequest front m) → ReadsRequest bytes x.head (m.body ++ rest)
reads bytes front rest m e x = (x.taken.valid, e ∙ ap (λ (l : List ℕ). l ++ rest) x.spelled ∙ append_assoc (print_request x.head) m.body rest)

pub no_bad_head : (bytes q r : List ℕ) (h : RequestHead) (rest : List ℕ) → IsTakenRequest h → ReadsRequest bytes h rest → bytes ≡ q ++ r → IsBadRequest q → ⊥
no_bad_head bytes q r h rest taken read e (inl over) =
    let many = over.over r h rest (subst (λ (l : List ℕ). ReadsRequest l h rest) e read) in
    omega (arith, many, taken.few)
no_bad_head bytes q r h rest taken read e (inr full) =
    let b = begins q r (print_request h) rest (sym e ∙ read.1) (omega (arith, full.0, taken.short)) in
    full.1 h b.0 (read.0, b.1)

same_length : (bytes : List ℕ) (h g : RequestHead) (r s : List ℕ) (n : ℕ) → ReadsRequest bytes h r → ReadsRequest bytes g s → HasLength n (map name_and_value h.fields) → HasLength n (map name_and_value g.fields)
same_length bytes h g r s n p q sized = subst (λ (x : RequestHead). HasLength n (map name_and_value x.fields)) (request_unique bytes h g r s p q).0 sized

not_unfinished : (bytes q r rest : List ℕ) (h : RequestHead) (body : List ℕ) → ReadsRequest bytes h (body ++ rest) → HasLength (length body) (map name_and_value h.fields) → bytes ≡ q ++ r → r ≡ [] → IsUnfinished q → ⊥
not_unfinished bytes q r rest h body read sized e none (inl awaits) =
    let whole : bytes ≡ q = e ∙ ap (λ (l : List ℕ). q ++ l) none ∙ append-nil q in
    awaits.open_head h (body ++ rest) (subst (λ (l : List ℕ). ReadsRequest l h (body ++ rest)) whole read)
not_unfinished bytes q r rest h body read sized e none (inr lacks) =
    let other : ReadsRequest bytes lacks.head (lacks.front ++ r) = (lacks.taken.valid, e ∙ ap (λ (l : List ℕ). l ++ r) lacks.spelled ∙ append_assoc (print_request lacks.head) lacks.front r) in
    let told = same_length bytes h lacks.head (body ++ rest) (lacks.front ++ r) (length body) read other sized in
    let long : lacks.length_of ≡ length body = one_length lacks.length_of (length body) (map name_and_value lacks.head.fields) lacks.sized.one told.one in
    shorter body rest lacks.front r (request_unique bytes h lacks.head (body ++ rest) (lacks.front ++ r) read other).1 none (omega (arith, lacks.less, long))

-- a source whose bytes begin with a request: reading it fails where a read fails, or for memory
pub request_at_no_fault : (bytes front rest : List ℕ) (m : Message) (new : Option (List ℕ)) (count : ℕ) (e : WireFault) → bytes ≡ front ++ rest → IsRequest front m → IsRequestFault (Some bytes) new count count e
    → (e ≡ fault.ReadFault) ⊎ (e ≡ fault.NoMemory)
request_at_no_fault bytes front rest m new count fault.BadHead p x f =
    let t = took_is bytes new f.0 f.1 in
    absurd (no_bad_head bytes f.0 t.0 x.head (m.body ++ rest) x.taken (reads bytes front rest m p x) t.2 f.2.bad)
request_at_no_fault bytes front rest m new count fault.BadLength p x f =
    let t = took_is bytes new f.0 f.1 in
    let other : ReadsRequest bytes f.2.0 t.0 = (f.2.1.valid, t.2 ∙ ap (λ (l : List ℕ). l ++ t.0) f.2.2) in
    absurd (f.2.3 (length m.body) (same_length bytes x.head f.2.0 (m.body ++ rest) t.0 (length m.body) (reads bytes front rest m p x) other x.sized))
request_at_no_fault bytes front rest m new count (fault.TooLong n) p x f =
    let t = took_is bytes new f.0 f.1 in
    let other : ReadsRequest bytes f.2.0 t.0 = (f.2.1.valid, t.2 ∙ ap (λ (l : List ℕ). l ++ t.0) f.2.2) in
    let told = same_length bytes x.head f.2.0 (m.body ++ rest) t.0 (length m.body) (reads bytes front rest m p x) other x.sized in
    let long : n ≡ length m.body = one_length n (length m.body) (map name_and_value f.2.0.fields) f.2.3.0.one told.one in
    absurd (omega (arith, long, f.2.3.1, x.within))
request_at_no_fault bytes front rest m new count fault.Ended p x f =
    let t = took_is bytes new f.0 f.1 in
    absurd (not_unfinished bytes f.0 t.0 rest x.head m.body (reads bytes front rest m p x) x.sized t.2 (end_is new t.0 t.1 f.2) f.3)
request_at_no_fault bytes front rest m new count fault.ReadFault p x f = inl refl
request_at_no_fault bytes front rest m new count fault.WriteFault p x f = absurd f
request_at_no_fault bytes front rest m new count fault.NoMemory p x f = inr refl

-- ---- responses

pub no_bad_response : (bytes : List ℕ) (h : ResponseHead) (rest : List ℕ) → IsTakenResponse h → ReadsResponse bytes h rest → IsBadResponse bytes → ⊥
no_bad_response bytes h rest taken read (inl over) =
    let many = over.over (drop 8192 bytes) h rest (subst (λ (l : List ℕ). ReadsResponse l h rest) (sym (take-append-drop 8192 bytes)) read) in
    omega (arith, many, taken.few)
no_bad_response bytes h rest taken read (inr full) =
    let b = begins (take 8192 bytes) (drop 8192 bytes) (print_response h) rest (take-append-drop 8192 bytes ∙ read.1) (omega (arith, full.0, taken.short, length-take 8192 bytes)) in
    full.1 h b.0 (read.0, b.1)

same_response_length : (bytes : List ℕ) (h g : ResponseHead) (r s : List ℕ) (n : ℕ) → ReadsResponse bytes h r → ReadsResponse bytes g s → HasLength n (map name_and_value h.fields) → HasLength n (map name_and_value g.fields)
same_response_length bytes h g r s n p q sized = subst (λ (x : ResponseHead). HasLength n (map name_and_value x.fields)) (response_unique bytes h g r s p q).0 sized

lacks_no_body : (bytes : List ℕ) (m : Message) → IsResponse bytes m → LacksResponseBody bytes → ⊥
lacks_no_body bytes m x lacks =
    let read : ReadsResponse bytes x.head (m.body ++ x.rest) = (x.taken.valid, x.spelled) in
    let other : ReadsResponse bytes lacks.head lacks.front = (lacks.taken.valid, lacks.spelled) in
    let told = same_response_length bytes x.head lacks.head (m.body ++ x.rest) lacks.front (length m.body) read other x.sized in
    let long : lacks.length_of ≡ length m.body = one_length lacks.length_of (length m.body) (map name_and_value lacks.head.fields) lacks.sized.one told.one in
    shorter m.body x.rest lacks.front [] ((response_unique bytes x.head lacks.head (m.body ++ x.rest) lacks.front read other).1 ∙ sym (append-nil lacks.front)) refl (omega (arith, lacks.less, long))

pub response_at_no_fault : (bytes : List ℕ) (m : Message) (e : WireFault) → IsResponse bytes m → IsResponseFault bytes e → e ≡ fault.NoMemory
response_at_no_fault bytes m fault.BadHead x f = absurd (no_bad_response bytes x.head (m.body ++ x.rest) x.taken (x.taken.valid, x.spelled) f)
response_at_no_fault bytes m fault.BadLength x f =
    absurd (f.4 (length m.body) (same_response_length bytes x.head f.0 (m.body ++ x.rest) f.1 (length m.body) (x.taken.valid, x.spelled) (f.2.valid, f.3) x.sized))
response_at_no_fault bytes m (fault.TooLong n) x f =
    let told = same_response_length bytes x.head f.0 (m.body ++ x.rest) f.1 (length m.body) (x.taken.valid, x.spelled) (f.2.valid, f.3) x.sized in
    let long : n ≡ length m.body = one_length n (length m.body) (map name_and_value f.0.fields) f.4.0.one told.one in
    absurd (omega (arith, long, f.4.1, x.within))
response_at_no_fault bytes m fault.Ended x (inl awaits) = absurd (awaits.open_head x.head (m.body ++ x.rest) (x.taken.valid, x.spelled))
response_at_no_fault bytes m fault.Ended x (inr lacks) = absurd (lacks_no_body bytes m x lacks)
response_at_no_fault bytes m fault.ReadFault x f = absurd f
response_at_no_fault bytes m fault.WriteFault x f = absurd f
response_at_no_fault bytes m fault.NoMemory x f = refl
