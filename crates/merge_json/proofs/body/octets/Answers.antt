use Rattle.std.proofs.Common.{◌≡◌, ℕ, List, true, subst}
use Rattle.std.specs.Str.{is_utf8}
use Rattle.std.proofs.lemmas.Str.{is_utf8-from_IsUtf8}
use Rattle.merge_json.proofs.body.octets.Goals as goal

pub returns-clause-text : goal.returns-clause-text
returns-clause-text c = subst (λ (bs : List ℕ). is_utf8 bs ≡ true) c.as_str-text.ensures.value (is_utf8-from_IsUtf8 c.as_str-text.result.now c.as_str-text.utf8)
