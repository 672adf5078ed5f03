use Rattle.std.specs.Prelude.{IsSome}
use Rattle.std.proofs.Common.{Option, sym, subst}
use Rattle.std.specs.Option.{option_copied}
use Rattle.merge_units.specs.declared.version.Version.{Version}
use Rattle.merge_batch.specs.LocalChanges.{article_of}
use Rattle.merge_change.specs.Allowed.{FitsHeld}
use Rattle.merge_change.proofs.Whole.{version-fits, version-there}
use Rattle.merge_change.proofs.version.version_after.Goals as goal

pub returns-clause-fits : goal.returns-clause-fits
returns-clause-fits c whole =
    subst (λ (after : Option Version). FitsHeld c.args.publication.now (article_of c.args.making.now.change.now) after) (sym c.in_ok-after.ensures)
    (version-fits c.args.publication.now c.args.making.now.change.now (option_copied c.args.held) c.requires.asked c.requires.allowed c.args.making.now.identity whole c.args.making.now.dot)

pub returns-clause-there : goal.returns-clause-there
returns-clause-there c =
    subst (λ (after : Option Version). IsSome after) (sym c.in_ok-after.ensures)
    (version-there c.args.publication.now c.args.making.now.change.now (option_copied c.args.held) c.requires.allowed.columns.row c.args.making.now.identity c.args.making.now.dot)
