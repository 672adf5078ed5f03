-- What a call is refused for.
use Rattle.std.specs.Prelude.{◌≡◌, Err, None, Ok, Option, Result, Some}
use Rattle.merge_batch.specs.declared.refusal.Refusal.{Refusal}

-- none where it is not
abbrev pub refusal_of : {A : Type 0} → Result A Refusal → Option Refusal
refusal_of (Ok done) = None
refusal_of (Err refusal) = Some refusal

-- what the definition refuses is refused, for the same
abbrev pub RefusesAs : {A B : Type 0} → Result A Refusal → Result B Refusal → Type 0
RefusesAs defined result = (refusal : Refusal) → defined ≡ Err refusal → result ≡ Err refusal
