use Rattle.merge_world.proofs.Rounds.{syncs-downloads, syncs-join, syncs-ranges, syncs-uploads}
use Rattle.merge_world.proofs.Sessions.{still-ordered}
use Rattle.merge_world.proofs.world.Sites.session.Goals as goal

pub returns-in-Some : goal.returns-in-Some
returns-in-Some g c = syncs-join c.args.site _ _ _ _ c.in-Some.refusal c.in-Some.ensures

pub returns-in-Some-stop : goal.returns-in-Some-stop
returns-in-Some-stop g c = syncs-uploads c.args.site _ _ _ _ c.in_default.ensures _ _ c.all_uploads-uploads.result.count c.in-Some-stop.refusal (rw c.in-Some-stop.is at c.all_uploads-uploads.ensures)

pub returns-in-Some-all_ranges : goal.returns-in-Some-all_ranges
returns-in-Some-all_ranges g c = syncs-ranges c.args.site _ _ _ _ c.in_default.ensures _ _ c.all_uploads-uploads.result.count (rw c.in_default-stop.is at c.all_uploads-uploads.ensures) _ _
    c.in-Some-all_ranges.refusal (c.in-Some-all_ranges.ensures c.all_uploads-uploads.result.count 0)

pub all_downloads-downloads-requires : goal.all_downloads-downloads-requires
all_downloads-downloads-requires g c = still-ordered _ _ (c.all_ranges.ensures 0 0).keeps.stays (still-ordered _ _ c.all_uploads-uploads.ensures.keeps.stays (still-ordered _ _ c.join.ensures.keeps.stays c.requires))

pub returns : goal.returns
returns g c = syncs-downloads c.args.site _ _ _ _ c.in_default.ensures _ _ c.all_uploads-uploads.result.count (rw c.in_default-stop.is at c.all_uploads-uploads.ensures) _ _
    (c.in_default-all_ranges.ensures c.all_uploads-uploads.result.count 0) _ _ c.all_downloads-downloads.result.count c.all_downloads-downloads.result.stop (c.all_downloads-downloads.ensures c.all_uploads-uploads.result.count)
