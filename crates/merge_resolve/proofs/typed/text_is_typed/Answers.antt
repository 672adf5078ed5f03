use Rattle.std.proofs.lemmas.Str.{is_utf8-from_IsUtf8}
use Rattle.merge_resolve.proofs.typed.text_is_typed.Goals as goal

pub returns : goal.returns
returns c = is_utf8-from_IsUtf8 c.args.words.now c.words_are_utf8.ensures
