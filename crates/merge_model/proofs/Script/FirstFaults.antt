-- The first line of a script that is no event.
use Rattle.std.proofs.Common.{◌≡◌, ℕ, suc, ◌+◌, ◌-◌, ◌≤◌, ◌⊎◌, inl, inr, List, [], ◌∷◌, Bool, false, ◌||◌, Option, Some, None, refl, sym, ap, arith, take}
use Rattle.std.specs.Prelude.{MatchOption, option_map, slice_get}
use Rattle.merge_model.specs.declared.event.Line.{Line}
use Rattle.merge_model.specs.declared.event.Line.TheVariants.{Quiet, Event as Does, NoEvent}
use Rattle.merge_model.specs.Script.Reading.{IsFirstFault, events_by, events_of, fault_by, fault_from, fault_of, has_no_event, is_no_event, line_of}

same_fault : (number word : ℕ) (fault : ℕ × ℕ) → Some (number, word) ≡ Some fault → (fault.0 ≡ number) × (word ≡ fault.1)
same_fault number word fault e =
    let same : (number, word) ≡ fault = cc in
    (ap (λ (f : ℕ × ℕ). f.0) (sym same), ap (λ (f : ℕ × ℕ). f.1) same)

-- a fault is that of the line, or of those behind it
fault_by-is : (number : ℕ) (said : Line) (behind : Option (ℕ × ℕ)) (fault : ℕ × ℕ) → fault_by number said behind ≡ Some fault
    → ((fault.0 ≡ number) × (said ≡ NoEvent fault.1)) ⊎ ((behind ≡ Some fault) × (is_no_event said ≡ false))
fault_by-is number Quiet behind fault e = inr (e, refl)
fault_by-is number (Does event) behind fault e = inr (e, refl)
fault_by-is number (NoEvent word) behind fault e = let h = same_fault number word fault e in inl (h.0, ap (λ (w : ℕ). NoEvent w) h.1)

no_fault_by : (number : ℕ) (said : Line) (behind : Option (ℕ × ℕ)) → fault_by number said behind ≡ None → (behind ≡ None) × (is_no_event said ≡ false)
no_fault_by number Quiet behind e = (e, refl)
no_fault_by number (Does event) behind e = (e, refl)
no_fault_by number (NoEvent word) behind e = absurd cc

-- the first fault of lines that are counted from a number on
record IsFault (from : ℕ) (lines : List (List ℕ)) (fault : ℕ × ℕ) : Type 0 where
  above : from ≤ fault.0
  says : option_map line_of (slice_get lines (fault.0 - from)) ≡ Some (NoEvent fault.1)
  before : has_no_event (take (fault.0 - from) lines) ≡ false
  events : events_of lines ≡ events_of (take (fault.0 - from) lines)

fault_here : (from : ℕ) (line : List ℕ) (lines : List (List ℕ)) (fault : ℕ × ℕ) → fault.0 ≡ from → line_of line ≡ NoEvent fault.1 → IsFault from (line ∷ lines) fault
fault_here from line lines fault at says =
    let first : fault.0 - from ≡ 0 = omega (arith, at) in
    record {
      above = omega (arith, at);
      says = rw first (ap (λ (said : Line). Some said) says);
      before = rw first refl;
      events = rw first (ap (λ (said : Line). events_by said (events_of lines)) says);
    }

fault_behind : (from : ℕ) (line : List ℕ) (lines : List (List ℕ)) (fault : ℕ × ℕ) → is_no_event (line_of line) ≡ false → IsFault (from + 1) lines fault → IsFault from (line ∷ lines) fault
fault_behind from line lines fault event is =
    let next : fault.0 - from ≡ suc (fault.0 - (from + 1)) = omega (arith, is.above) in
    record {
      above = omega (arith, is.above);
      says = rw next is.says;
      before = rw next (neither (is_no_event (line_of line)) _ event is.before);
      events = rw next (ap (events_by (line_of line)) is.events);
    }
  where
    neither : (a b : Bool) → a ≡ false → b ≡ false → (a || b) ≡ false
    neither a b e f = rw (e, f) refl

fault_from-is : (from : ℕ) (lines : List (List ℕ)) (fault : ℕ × ℕ) → fault_from from lines ≡ Some fault → IsFault from lines fault
fault_from-is from [] fault e = absurd cc
fault_from-is from (line ∷ lines) fault e = elim (fault_by-is from (line_of line) (fault_from (from + 1) lines) fault e) [
  | inl here ↦ fault_here from line lines fault here.0 here.1
  | inr behind ↦ fault_behind from line lines fault behind.1 (fault_from-is (from + 1) lines fault behind.0)
]

no_fault_from : (from : ℕ) (lines : List (List ℕ)) → fault_from from lines ≡ None → has_no_event lines ≡ false
no_fault_from from [] e = refl
no_fault_from from (line ∷ lines) e =
    let h = no_fault_by from (line_of line) (fault_from (from + 1) lines) e in
    neither (is_no_event (line_of line)) _ h.1 (no_fault_from (from + 1) lines h.0)
  where
    neither : (a b : Bool) → a ≡ false → b ≡ false → (a || b) ≡ false
    neither a b e f = rw (e, f) refl

pub finds_first_fault : (lines : List (List ℕ)) → MatchOption (fault_of lines) (has_no_event lines ≡ false) (λ fault. IsFirstFault lines fault.0 fault.1)
finds_first_fault lines = by (fault_of lines) refl
  where
    by : (found : Option (ℕ × ℕ)) → fault_of lines ≡ found → MatchOption found (has_no_event lines ≡ false) (λ fault. IsFirstFault lines fault.0 fault.1)
    by (Some fault) e = let is = fault_from-is 1 lines fault e in record { from_one = is.above; says = is.says; before = is.before; events = is.events }
    by None e = no_fault_from 1 lines e
