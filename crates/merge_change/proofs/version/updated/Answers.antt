use Rattle.merge_change.proofs.Places.{body-below}
use Rattle.merge_change.proofs.version.updated.Goals as goal

-- each column is one of the row's
pub change-requires-clause-places : goal.change-requires-clause-places
change-requires-clause-places c =
    (c.requires.ascend, body-below c.args.publication.now c.args.place c.args.settings.now c.requires.fits.types c.args.version.now.body c.requires.live c.requires.fits.fits)
