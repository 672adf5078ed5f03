use Rattle.merge_part.proofs.covering.is_covered.Goals as goal

pub returns : goal.returns
returns c = λ covered place has. c.found_among-by_all.ensures place (c.covers.ensures covered place has)
