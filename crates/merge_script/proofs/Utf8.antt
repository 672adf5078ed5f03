-- What the reading of a text as UTF-8 tells.
use Rattle.std.proofs.Common.{◌≡◌, ℕ, List, Ok, Err, Result, sym}
use Rattle.std.proofs.lemmas.Bool.{false_from_ne_true}
use Rattle.std.proofs.lemmas.Str.{IsUtf8-from_is_utf8, is_utf8-from_IsUtf8}
use Rattle.std.specs.Prelude.{MatchResult, is_ok}
use Rattle.std.specs.Str.{IsUtf8, is_utf8}

pub is_ok-is_utf8 : {T E : Type 0} (P : T → Type 0) (Q : E → Type 0) (bytes : List ℕ) (r : Result T E) → MatchResult r (λ text. P text × IsUtf8 bytes) (λ fault. ¬ (IsUtf8 bytes) × Q fault) → is_ok r ≡ is_utf8 bytes
is_ok-is_utf8 P Q bytes (Ok text) h = sym (is_utf8-from_IsUtf8 bytes h.1)
is_ok-is_utf8 P Q bytes (Err fault) h = sym (false_from_ne_true (is_utf8 bytes) (λ t. h.0 (IsUtf8-from_is_utf8 bytes t)))
