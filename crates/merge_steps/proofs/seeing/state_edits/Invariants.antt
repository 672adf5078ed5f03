use Rattle.std.specs.Prelude.{◌≡◌, ◌++◌}
use Rattle.merge_steps.specs.Uploading.{put_all, sites_with}
use Rattle.merge_steps.proofs.seeing.state_edits.Given as goal

abbrev pub invariant-loop-site : goal.invariant-loop-site
invariant-loop-site l = l.edits ++ put_all (sites_with l.arrival l.upload l.site-iterator) ≡ put_all (sites_with l.arrival l.upload l.sites.rows)
