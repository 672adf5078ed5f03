-- The rows are written as they are.
use Rattle.merge_program.proofs.Shows.{rows-end}
use Rattle.merge_program.proofs.show.show_sites.Goals as goal

pub returns : goal.returns
returns g c = λ place named. let e = c.show_rows-shown.ensures in rows-end _ _ _ _ _ _ _ _ _ c.ending_of.ensures (e.ok place named) (e.part place named) e.unsaid e.write
