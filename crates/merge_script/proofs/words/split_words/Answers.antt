use Rattle.std.proofs.Common.{append_assoc}
use Rattle.merge_script.proofs.WordParts.{with_word-append}
use Rattle.merge_script.proofs.words.split_words.Goals as goal

pub loop-rest-preserved : goal.loop-rest-preserved
loop-rest-preserved c = rw (c.in_ok-add_word.ensures, append_assoc, with_word-append, ← c.cut_part.ensures.word) c.loop-rest.invariant
