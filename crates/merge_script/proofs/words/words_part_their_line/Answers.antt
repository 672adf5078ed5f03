use Rattle.merge_script.proofs.Partings.{IsParted-words_of, IsParted-alone}
use Rattle.merge_script.proofs.words.words_part_their_line.Goals as goal

pub returns-clause-parted : goal.returns-clause-parted
returns-clause-parted c = IsParted-words_of

pub returns-clause-alone : goal.returns-clause-alone
returns-clause-alone c = IsParted-alone
