-- The text of an identifier has 36 characters of ASCII.
use Rattle.std.proofs.Common.{◌≡◌, ◌∙◌, ap, arith, map}
use Rattle.std.specs.Char.{to_ascii_lowercase}
use Rattle.merge_types.specs.Guid.{guid_text}
use Rattle.merge_types.proofs.Guids.{length-IsGuidText, IsAscii-guid_text}
use Rattle.merge_types.proofs.Texts.{IsUtf8-same_ascii}
use Rattle.merge_types.proofs.literal.guid.read_guid.Goals as goal

pub returns-then-text-ne36-clause-none : goal.returns-then-text-ne36-clause-none
returns-then-text-ne36-clause-none c = λ n is. omega (arith, length-IsGuidText c.args.text.now n is)

pub returns-in-Err-clause-none : goal.returns-in-Err-clause-none
returns-in-Err-clause-none c = λ n is.
    let lower : c.make_ascii_lowercase.new.self ≡ guid_text n = c.make_ascii_lowercase.ensures.after ∙ ap (map to_ascii_lowercase) c.copy_from_slice.ensures.after ∙ is.spelled in
    c.in-Err.ensures.cases.0 (IsUtf8-same_ascii lower (IsAscii-guid_text n))
