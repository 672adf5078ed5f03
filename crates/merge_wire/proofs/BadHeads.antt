-- What the parser refuses, and what has too many lines, is no head.
use Rattle.std.proofs.Common.{◌≡◌, ◌∙◌, ◌≢◌, ◌<◌, ◌≤◌, ◌⊎◌, inl, inr, ℕ, List, [], ◌∷◌, ◌++◌, length, Result, Ok, Err, OnErr, refl, sym, ap, subst, arith, append_assoc, length-append}
use Rattle.httparse.specs.declared.Error.{Error}
use Rattle.httparse.specs.declared.Error.TheVariants.{HeaderName, HeaderValue, NewLine, Status as StatusWrong, Token, TooManyHeaders, Version}
use Rattle.httparse.specs.declared.Status.{Status}
use Rattle.httparse.specs.declared.spans.RequestSpans.{RequestSpans}
use Rattle.httparse.specs.declared.spans.ResponseSpans.{ResponseSpans}
use Rattle.httparse.specs.Grammar.{ReadsRequest, HasNoRequest, NeverHasRequest, print_request, HasNoResponse, NeverHasResponse}
use Rattle.httparse.specs.Outcome.{OnInvalid, OnTooManyHeaders}
use Rattle.httparse.specs.Spans.{RequestOverflows, RequestExceeds, ResponseOverflows, ResponseExceeds}
use Rattle.merge_wire.specs.Heads.{lines, CanBecomeRequest, CanBecomeResponse, NoRequestCan, NoResponseCan, IsBadRequest, TurnsBad}
use Rattle.merge_wire.proofs.LineEnds.{lines_grow, many_in_request, many_overflow_request, many_in_response, many_overflow_response}

which : (e : Error) → (e ≡ TooManyHeaders) ⊎ (e ≢ TooManyHeaders)
which HeaderName = inr (λ is. absurd cc)
which HeaderValue = inr (λ is. absurd cc)
which NewLine = inr (λ is. absurd cc)
which StatusWrong = inr (λ is. absurd cc)
which Token = inr (λ is. absurd cc)
which TooManyHeaders = inl refl
which Version = inr (λ is. absurd cc)

pub refused_request : (bytes : List ℕ) (room : ℕ) (r : Result (Status RequestSpans) Error) (e : Error) → room ≡ 32 → r ≡ Err e
    → OnInvalid r (NeverHasRequest bytes) → OnErr r (RequestOverflows room bytes) → OnTooManyHeaders r (RequestExceeds room bytes) → NoRequestCan bytes
refused_request bytes room (Ok s) e is32 is invalid over many = absurd cc
refused_request bytes room (Err f) e is32 is invalid over many = record {
  over = subst (λ (k : ℕ). RequestOverflows k bytes) is32 over;
  many = by (which f);
}
  where
    by : (f ≡ TooManyHeaders) ⊎ (f ≢ TooManyHeaders) → CanBecomeRequest bytes → 33 < lines bytes
    by (inl too) can = many_in_request bytes (subst (λ (k : ℕ). RequestExceeds k bytes) is32 (many (ap Err too)))
    by (inr other) can = absurd (invalid other can.0 can.1 can.2 can.3)

pub too_many_in_request : (bytes : List ℕ) → HasNoRequest bytes → 33 < lines bytes → NoRequestCan bytes
too_many_in_request bytes none many = record { over = many_overflow_request bytes none many; many = λ can. many }

pub none_in_request : (bytes : List ℕ) → (CanBecomeRequest bytes → ⊥) → NoRequestCan bytes
none_in_request bytes never = record { over = λ more h rest reads. absurd (never (more, h, rest, reads)); many = λ can. absurd (never can) }

-- ---- the last of the bytes is the first with which no head can come

pub turns_bad : (before : List ℕ) (last : ℕ) → length before < 8192 → HasNoRequest before → CanBecomeRequest before → lines before ≤ 33 → IsBadRequest (before ++ last ∷ []) → TurnsBad (before ++ last ∷ [])
turns_bad before last short none can few bad = record {
  before = before;
  last = last;
  spelled = refl;
  awaited = record { short = short; open_head = none; hopeful = can; few = few };
  bad = bad;
}

split_last : (bytes : List ℕ) → 0 < length bytes → (before : List ℕ) × (last : ℕ) × (bytes ≡ before ++ last ∷ [])
split_last [] some = absurd (omega (arith, some))
split_last (x ∷ []) some = ([], x, refl)
split_last (x ∷ y ∷ xs) some = let s = split_last (y ∷ xs) (omega arith) in (x ∷ s.0, s.1, ap (λ (l : List ℕ). x ∷ l) s.2)

-- the last of as many bytes as a head may have
pub full_turns_bad : (bytes : List ℕ) → length bytes ≡ 8192 → HasNoRequest bytes → CanBecomeRequest bytes → lines bytes ≤ 33 → TurnsBad bytes
full_turns_bad bytes full none (more, h, rest, reads) few =
    let s = split_last bytes (omega (arith, full)) in
    let before = s.0 in
    let last = s.1 in
    let e = s.2 in
    let cut : HasNoRequest before = λ g behind is. none g (behind ++ last ∷ []) (is.0, e ∙ ap (λ (l : List ℕ). l ++ last ∷ []) is.1 ∙ append_assoc (print_request g) behind (last ∷ [])) in
    let can : CanBecomeRequest before = (last ∷ more, h, rest, subst (λ (l : List ℕ). ReadsRequest l h rest) (ap (λ (l : List ℕ). l ++ more) e ∙ append_assoc before (last ∷ []) more) reads) in
    subst TurnsBad (sym e)
    (turns_bad before last (omega (arith, full, ap length e, length-append before (last ∷ []))) cut can (omega (arith, lines_grow before (last ∷ []), ap lines e, few))
    (subst IsBadRequest e (inr (full, none))))

pub refused_response : (bytes : List ℕ) (room : ℕ) (r : Result (Status ResponseSpans) Error) (e : Error) → room ≡ 32 → r ≡ Err e
    → OnInvalid r (NeverHasResponse bytes) → OnErr r (ResponseOverflows room bytes) → OnTooManyHeaders r (ResponseExceeds room bytes) → NoResponseCan bytes
refused_response bytes room (Ok s) e is32 is invalid over many = absurd cc
refused_response bytes room (Err f) e is32 is invalid over many = record {
  over = subst (λ (k : ℕ). ResponseOverflows k bytes) is32 over;
  many = by (which f);
}
  where
    by : (f ≡ TooManyHeaders) ⊎ (f ≢ TooManyHeaders) → CanBecomeResponse bytes → 33 < lines bytes
    by (inl too) can = many_in_response bytes (subst (λ (k : ℕ). ResponseExceeds k bytes) is32 (many (ap Err too)))
    by (inr other) can = absurd (invalid other can.0 can.1 can.2 can.3)

pub too_many_in_response : (bytes : List ℕ) → HasNoResponse bytes → 33 < lines bytes → NoResponseCan bytes
too_many_in_response bytes none many = record { over = many_overflow_response bytes none many; many = λ can. many }
