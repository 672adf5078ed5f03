use Rattle.merge_part.proofs.moves.moves_of.Goals as goal

pub returns-clause-each : goal.returns-clause-each
returns-clause-each c = rw (← c.in_ok-moves.ensures) c.sort_distinct.ensures.same
