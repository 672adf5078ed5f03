-- What a site holds follows from its history.
use Rattle.std.proofs.Common.{◌≡◌, ℕ, Bool, true, false, if◌then◌else◌, List, [], ◌∷◌, length, refl, sym, ap, ◌∙◌, add-one}
use Rattle.merge_ident.specs.declared.grants.Range.{Range}
use Rattle.merge_ident.specs.declared.ranges.RangeEvent.{RangeEvent}
use Rattle.merge_ident.specs.declared.ranges.RangeEvent.TheVariants.{Take, Receive}
use Rattle.merge_ident.specs.Holders.{Received, unused, has_values, used_once_more, held_after_take, held_after_receive, after_take, after_receive, HasValues}
use Rattle.merge_ident.specs.Runs.{after_all, EventsFit}
use Rattle.merge_ident.specs.Histories.{use_if_any, history_after_take, history_after, held_of, last_end_of, holder_of}
use Rattle.merge_ident.proofs.Taken.{unused_has_values}

-- ranges are used in turn: the last one has values as long as the one before has
abbrev pub AreInTurn : List Received → Type 0
AreInTurn [] = Unit {0}
AreInTurn (only ∷ []) = Unit {0}
AreInTurn (last ∷ before ∷ older) = has_values before ≡ true → has_values last ≡ true

-- a take, by which of the last two ranges have values
held-take_one : (b : Bool) (only : Received) → has_values only ≡ b → held_after_take (held_of (only ∷ [])) ≡ held_of (use_if_any only ∷ [])
held-take_one true only e = rw e refl
held-take_one false only e = rw e (rw e refl)

held-take_two : (b l : Bool) (last before : Received) (older : List Received) → has_values before ≡ b → has_values last ≡ l → (b ≡ true → l ≡ true)
    → held_after_take (held_of (last ∷ before ∷ older)) ≡ held_of (history_after_take (last ∷ before ∷ older))
held-take_two true true last before older e f turn = rw (e, f) (rw f refl)
held-take_two true false last before older e f turn = let no : false ≡ true = turn refl in cc
held-take_two false true last before older e f turn = rw (e, f) (rw e refl)
held-take_two false false last before older e f turn = rw (e, f) (rw (e, f) refl)

held-history_take : (history : List Received) → AreInTurn history → held_after_take (held_of history) ≡ held_of (history_after_take history)
held-history_take [] turn = refl
held-history_take (only ∷ []) turn = held-take_one (has_values only) only refl
held-history_take (last ∷ before ∷ older) turn = held-take_two (has_values before) (has_values last) last before older refl refl turn

-- a receipt
held-receive_one : (b : Bool) (only : Received) (range : Range) → has_values only ≡ b → has_values (unused range) ≡ true
    → held_after_receive (held_of (only ∷ [])) range ≡ held_of (unused range ∷ only ∷ [])
held-receive_one true only range e new = rw (e, new) refl
held-receive_one false only range e new = rw (e, new) refl

held-receive_two : (b l : Bool) (last before : Received) (older : List Received) (range : Range) → has_values before ≡ b → has_values last ≡ l → (b ≡ true → l ≡ true) → has_values (unused range) ≡ true
    → held_after_receive (held_of (last ∷ before ∷ older)) range ≡ held_of (unused range ∷ last ∷ before ∷ older)
held-receive_two true true last before older range e f turn new = rw (e, f, new) refl
held-receive_two true false last before older range e f turn new = let no : false ≡ true = turn refl in cc
held-receive_two false true last before older range e f turn new = rw (e, f, new) refl
held-receive_two false false last before older range e f turn new = rw (e, f, new) refl

held-history_receive : (history : List Received) (range : Range) → AreInTurn history → HasValues range → held_after_receive (held_of history) range ≡ held_of (unused range ∷ history)
held-history_receive [] range turn some = rw (unused_has_values range some) refl
held-history_receive (only ∷ []) range turn some = held-receive_one (has_values only) only range refl (unused_has_values range some)
held-history_receive (last ∷ before ∷ older) range turn some = held-receive_two (has_values before) (has_values last) last before older range refl refl turn (unused_has_values range some)

-- the order of use stays
turn-by_test : (b : Bool) (last before : Received) (older : List Received) → has_values before ≡ b → AreInTurn (last ∷ before ∷ older)
    → AreInTurn (if b then last ∷ used_once_more before ∷ older else use_if_any last ∷ before ∷ older)
turn-by_test true last before older e turn = λ more. turn e
turn-by_test false last before older e turn = λ more. let no : false ≡ true = sym e ∙ more in cc

turn-take : (history : List Received) → AreInTurn history → AreInTurn (history_after_take history)
turn-take [] turn = tt
turn-take (only ∷ []) turn = tt
turn-take (last ∷ before ∷ older) turn = turn-by_test (has_values before) last before older refl turn

turn-receive : (history : List Received) (range : Range) → HasValues range → AreInTurn (unused range ∷ history)
turn-receive [] range some = tt
turn-receive (last ∷ older) range some = λ more. unused_has_values range some

-- a take changes neither how many ranges were received nor the last one's end
take-by_test : (b : Bool) (last before : Received) (older : List Received) → length (if b then last ∷ used_once_more before ∷ older else use_if_any last ∷ before ∷ older) ≡ length (last ∷ before ∷ older)
take-by_test true last before older = refl
take-by_test false last before older = refl

length-take : (history : List Received) → length (history_after_take history) ≡ length history
length-take [] = refl
length-take (only ∷ []) = refl
length-take (last ∷ before ∷ older) = take-by_test (has_values before) last before older

use-by_test : (b : Bool) (received : Received) → (if b then used_once_more received else received).range ≡ received.range
use-by_test true received = refl
use-by_test false received = refl

end-by_test : (b : Bool) (last before : Received) (older : List Received) → last_end_of (if b then last ∷ used_once_more before ∷ older else use_if_any last ∷ before ∷ older) ≡ last.range.end
end-by_test true last before older = refl
end-by_test false last before older = ap (λ (r : Range). r.end) (use-by_test (has_values last) last)

end-take : (history : List Received) → last_end_of (history_after_take history) ≡ last_end_of history
end-take [] = refl
end-take (only ∷ []) = ap (λ (r : Range). r.end) (use-by_test (has_values only) only)
end-take (last ∷ before ∷ older) = end-by_test (has_values before) last before older

holder-take : (threshold : ℕ) (history : List Received) → AreInTurn history → after_take (holder_of threshold history) ≡ holder_of threshold (history_after_take history)
holder-take threshold history turn = rw (← length-take history, ← end-take history, held-history_take history turn) refl

holder-receive : (threshold : ℕ) (history : List Received) (range : Range) → AreInTurn history → HasValues range → after_receive (holder_of threshold history) range ≡ holder_of threshold (unused range ∷ history)
holder-receive threshold history range turn some = rw (held-history_receive history range turn some, add-one) refl

pub holder-history : (events : List RangeEvent) (threshold : ℕ) (history : List Received) → AreInTurn history → EventsFit (length history) events
    → after_all (holder_of threshold history) events ≡ holder_of threshold (history_after history events)
holder-history [] threshold history turn fit = refl
holder-history (Take ∷ events) threshold history turn fit =
    ap (λ holder. after_all holder events) (holder-take threshold history turn)
    ∙ holder-history events threshold (history_after_take history) (turn-take history turn) (rw (length-take history) fit.1)
holder-history (Receive number range ∷ events) threshold history turn fit =
    ap (λ holder. after_all holder events) (holder-receive threshold history range turn fit.0.1)
    ∙ holder-history events threshold (unused range ∷ history) (turn-receive history range fit.0.1) (rw (← add-one) fit.1)
