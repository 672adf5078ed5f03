use Rattle.std.proofs.Common.{◌≡◌, ◌∙◌, ℕ, List, Bool, true, false, cond, Option, Some, None, refl, ap, sym}
use Rattle.std.specs.Str.{IsUtf8, is_utf8}
use Rattle.std.proofs.lemmas.Str.{is_utf8-from_IsUtf8, IsUtf8-from_is_utf8}
use Rattle.merge_record.specs.Reading.{string_at}
use Rattle.merge_record.specs.Versions.{text_at}
use Rattle.merge_record.proofs.values.take_text.Goals as goal

is_text : (bytes text rest : List ℕ) → string_at bytes ≡ Some (text, rest) → IsUtf8 text → text_at bytes ≡ Some (text, rest)
unfolding text_at
is_text bytes text rest e h = rw (e, is_utf8-from_IsUtf8 text h) refl

abbrev nothing : List ℕ → Option (List ℕ × List ℕ)
nothing rest = None

no_text : (bytes text rest : List ℕ) → string_at bytes ≡ Some (text, rest) → (IsUtf8 text → ⊥) → text_at bytes ≡ None
unfolding text_at
no_text bytes text rest e h = rw e (by (is_utf8 text) refl)
  where
    by : (b : Bool) → is_utf8 text ≡ b → cond b (Some (text, rest)) (nothing rest) ≡ nothing rest
    by true e = absurd (h (IsUtf8-from_is_utf8 text e))
    by false e = refl

pub returns-in_ok-of-in-Ok : goal.returns-in_ok-of-in-Ok
returns-in_ok-of-in-Ok c = is_text c.args.bytes.now c.in_ok-text.text.now c.in_ok-text.rest.now c.in_ok-text.ensures c.in-Ok.ensures.cases.1 ∙ ap (λ (t : List ℕ). Some (t, c.in_ok-text.rest.now)) (sym (c.in_ok-of-in-Ok.ensures ∙ c.in-Ok.ensures.cases.0))

pub returns-in-Err : goal.returns-in-Err
returns-in-Err c = no_text c.args.bytes.now c.in_ok-text.text.now c.in_ok-text.rest.now c.in_ok-text.ensures c.in-Err.ensures.cases.0
