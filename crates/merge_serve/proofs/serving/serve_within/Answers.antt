-- What is wanting is served by the first seat.
use Rattle.merge_serve.proofs.Ends.{first-later}
use Rattle.merge_serve.proofs.serving.serve_within.Goals as goal

pub returns-clause-grown : goal.returns-clause-grown
returns-clause-grown g c =
    first-later c.args.seats.now c.work_all.new.seats c.index-seats-0.result c.work_rest.new.seat c.work_all.ensures.length c.work_all.ensures.grown c.requires.some c.work_rest.ensures.grown
