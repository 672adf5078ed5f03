use Rattle.merge_change.proofs.Places.{live-length}
use Rattle.merge_change.proofs.checks.live_length.Goals as goal

-- the row stays so short that its length is told whole
pub returns-in-Live : goal.returns-in-Live
returns-in-Live c dot =
    live-length c.args.publication.now c.args.place c.args.settings.now c.args.version.now c.requires.fits c.in-Live.cells c.in-Live.is c.tracking.result c.tracking.ensures c.as_slice.result.now c.as_slice.ensures c.length_after.result dot (c.length_after.ensures dot)
