-- Bytes are of one message.
use Rattle.std.proofs.Common.{◌≡◌, ◌∙◌, ◌<◌, ◌^◌, ◌⊎◌, inl, inr, ℕ, List, [], ◌∷◌, ◌++◌, length, map, take, decimal, refl, sym, ap, subst, append_assoc}
use Rattle.std.specs.Str.Parse.{digits_value}
use Rattle.std.proofs.lemmas.Fmt.{decimal_is_IsNumeral}
use Rattle.std.proofs.Math.Seq.{take-append_seam}
use Rattle.httparse.specs.Grammar.{RequestHead, print_request, ReadsRequest, ResponseHead, print_response, ReadsResponse, status_code}
use Rattle.httparse.specs.Spans.{name_and_value}
use Rattle.httparse.proofs.GrammarLemmas.{request_unique, response_unique}
use Rattle.merge_wire.specs.declared.message.Message.{Message}
use Rattle.merge_wire.specs.Fields.{Pair, IsLength, IsLengthText, HasOne, HasLength}
use Rattle.merge_wire.specs.Messages.{IsRequest, IsResponse}

decimal_one : (m n : ℕ) → m < 2 ^ 64 → n < 2 ^ 64 → decimal m ≡ decimal n → m ≡ n
decimal_one m n lm ln e =
    let p = decimal_is_IsNumeral m lm in
    let q = decimal_is_IsNumeral n ln in
    sym p.1 ∙ ap (λ (ds : List ℕ). digits_value 10 ds) e ∙ q.1

pub one_length : (m n : ℕ) (fs : List Pair) → HasOne m fs → HasOne n fs → m ≡ n
one_length m n [] p q = absurd p
one_length m n (f ∷ fs) (inl p) (inl q) = decimal_one m n p.1.0 q.1.0 (sym p.1.1 ∙ q.1.1)
one_length m n (f ∷ fs) (inl p) (inr q) = absurd (q.0 p.0)
one_length m n (f ∷ fs) (inr p) (inl q) = absurd (p.0 q.0)
one_length m n (f ∷ fs) (inr p) (inr q) = one_length m n fs p.1 q.1

abbrev message : List ℕ → List ℕ → List ℕ → ℕ → List ℕ → Message
message method path host status body = record { method = method; path = path; host = host; status = status; body = body }

same_parts : (a b c : List ℕ) (n : ℕ) (body : List ℕ) (a' b' c' : List ℕ) (n' : ℕ) (body' : List ℕ) → a ≡ a' → b ≡ b' → c ≡ c' → n ≡ n' → body ≡ body'
    → message a b c n body ≡ message a' b' c' n' body'
same_parts a b c n body a' b' c' n' body' p q r s t = rw (p, q, r, s, t) refl

-- fronts of one length of one list are the same
same_front : (a b r s : List ℕ) → length a ≡ length b → a ++ r ≡ b ++ s → a ≡ b
same_front a b r s long e = sym (take-append_seam a r) ∙ ap (λ (l : List ℕ). take (length a) l) e ∙ ap (λ (n : ℕ). take n (b ++ s)) long ∙ take-append_seam b s

-- no two requests begin at one place
pub one_request : (bytes a b r s : List ℕ) (m n : Message) → bytes ≡ a ++ r → bytes ≡ b ++ s → IsRequest a m → IsRequest b n → m ≡ n
one_request bytes a b r s m n p q x y =
    let reads : ReadsRequest bytes x.head (m.body ++ r) = (x.taken.valid, p ∙ ap (λ (l : List ℕ). l ++ r) x.spelled ∙ append_assoc (print_request x.head) m.body r) in
    let other : ReadsRequest bytes y.head (n.body ++ s) = (y.taken.valid, q ∙ ap (λ (l : List ℕ). l ++ s) y.spelled ∙ append_assoc (print_request y.head) n.body s) in
    let same = request_unique bytes x.head y.head (m.body ++ r) (n.body ++ s) reads other in
    let sized : HasLength (length n.body) (map name_and_value x.head.fields) = subst (λ (h : RequestHead). HasLength (length n.body) (map name_and_value h.fields)) (sym same.0) y.sized in
    let long : length m.body ≡ length n.body = one_length (length m.body) (length n.body) (map name_and_value x.head.fields) x.sized.one sized.one in
    let body : m.body ≡ n.body = same_front m.body n.body r s long same.1 in
    same_parts m.method m.path m.host m.status m.body n.method n.path n.host n.status n.body
    (x.method ∙ ap (λ (h : RequestHead). h.method) same.0 ∙ sym y.method)
    (x.path ∙ ap (λ (h : RequestHead). h.target) same.0 ∙ sym y.path)
    (x.host ∙ sym y.host) (x.status ∙ sym y.status) body

-- no two responses begin at one place
pub one_response : (bytes : List ℕ) (m n : Message) → IsResponse bytes m → IsResponse bytes n → m ≡ n
one_response bytes m n x y =
    let same = response_unique bytes x.head y.head (m.body ++ x.rest) (n.body ++ y.rest) (x.taken.valid, x.spelled) (y.taken.valid, y.spelled) in
    let sized : HasLength (length n.body) (map name_and_value x.head.fields) = subst (λ (h : ResponseHead). HasLength (length n.body) (map name_and_value h.fields)) (sym same.0) y.sized in
    let long : length m.body ≡ length n.body = one_length (length m.body) (length n.body) (map name_and_value x.head.fields) x.sized.one sized.one in
    let body : m.body ≡ n.body = same_front m.body n.body x.rest y.rest long same.1 in
    same_parts m.method m.path m.host m.status m.body n.method n.path n.host n.status n.body
    (x.method ∙ sym y.method) (x.path ∙ sym y.path) (x.host ∙ sym y.host)
    (x.status ∙ ap status_code same.0 ∙ sym y.status) body
