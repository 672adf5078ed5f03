-- A character more is written, and at the end the quote.
use Rattle.std.proofs.Common.{◌∷◌, ◌++◌, ◌∙◌, [], ap, encode_utf8_all, map-id, refl, rules, sym}
use Rattle.std.proofs.lemmas.Iterator.{YieldsList-from_chars}
use Rattle.std.proofs.lemmas.Iterator.Consumers.{YieldsList-end}
use Rattle.std.proofs.lemmas.Str.{encodes-chars}
use Rattle.std.specs.Str.{IsUtf8}
use Rattle.std.proofs.Output.{has_written_append, has_written_of_eq}
use Rattle.std.specs.List.{flat_map}
use Rattle.merge_types.specs.Quoted.{escaped_character}
use Rattle.merge_types.proofs.Texts.{escaped-more, quoted-IsEscaped}
use Rattle.merge_types.proofs.literal.quoted.QuotedDisplay.fmt.Goals as goal

pub loop-c-preserved : goal.loop-c-preserved
loop-c-preserved g c = λ plain. has_written_of_eq _ _ _ _ _ (escaped-more c.loop-c.yielded c.in-Some.c) (has_written_append _ _ _ _ _ _ (c.loop-c.invariant plain) (search rules))

pub returns-clause-writes : goal.returns-clause-writes
returns-clause-writes g c = λ plain ok.
    let text = c.args.self.now.0.now in
    let utf8 : IsUtf8 text = search rules in
    let end = YieldsList-end (YieldsList-from_chars text utf8 cc) c.loop-c.yielded _ c.loop-c.yielded_by _ _ c.in-None.is c.next.ensures.steps in
    let same = ap encode_utf8_all (sym (map-id c.loop-c.yielded) ∙ end.0) ∙ encodes-chars text utf8 in
    has_written_of_eq _ _ _ _ _ (quoted-IsEscaped ((34 ∷ flat_map escaped_character c.loop-c.yielded) ++ 34 ∷ []) c.args.self.now.0.now (c.loop-c.yielded, same, refl)) (has_written_append _ _ _ _ _ _ (c.loop-c.invariant plain) (search rules))
