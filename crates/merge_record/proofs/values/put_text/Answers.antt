use Rattle.std.proofs.Common.{◌≡◌, ℕ, List, true, subst}
use Rattle.std.specs.Str.{is_utf8}
use Rattle.std.proofs.lemmas.Str.{is_utf8-from_IsUtf8}
use Rattle.merge_record.proofs.values.put_text.Goals as goal

pub returns-clause-fits : goal.returns-clause-fits
returns-clause-fits c = subst (λ (bs : List ℕ). is_utf8 bs ≡ true) c.as_str-text.ensures.text (is_utf8-from_IsUtf8 c.as_str-text.result.now c.as_str-text.utf8)
