use Rattle.merge_filter.proofs.BracketedNames.{bracketed_word}
use Rattle.merge_filter.proofs.laws.bracketed_names_are_words.Goals as goal

pub returns : goal.returns
returns c = bracketed_word
