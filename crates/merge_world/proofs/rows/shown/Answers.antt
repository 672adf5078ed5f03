use Rattle.std.proofs.Common.{List, sym, subst}
use Rattle.std.specs.Prelude.{All}
use Rattle.merge_model.specs.declared.answer.ShownRow.{ShownRow}
use Rattle.merge_model.specs.Script.Proper.{AreProper}
use Rattle.merge_world.proofs.Printing.{shown-printable}
use Rattle.merge_world.proofs.Rowwise.{shown-done}
use Rattle.merge_world.proofs.rows.shown.Goals as goal

pub returns-clause-shown : goal.returns-clause-shown
returns-clause-shown g c = shown-done c.args.article g.R.Versioned.version_of c.loop-key.shown c.loop-key.key-iterator c.args.rows.now.rows c.loop-key.invariant c.in-None.ensures.steps.0

pub returns-clause-printable : goal.returns-clause-printable
returns-clause-printable g c = λ printable. subst (λ (rows : List ShownRow). All (λ (row : ShownRow). AreProper row.values) rows)
    (sym (shown-done c.args.article g.R.Versioned.version_of c.loop-key.shown c.loop-key.key-iterator c.args.rows.now.rows c.loop-key.invariant c.in-None.ensures.steps.0))
    (shown-printable g.R.Versioned.version_of c.args.article c.args.rows.now.rows printable)
