use Rattle.std.proofs.Common.{None, Some, ap}
use Rattle.merge_model.specs.declared.answer.Answer.TheVariants.{Done}
use Rattle.merge_world.proofs.Happenings.{so-answered, sync-happens}
use Rattle.merge_world.proofs.Sessions.{still-ordered}
use Rattle.merge_world.proofs.world.Sites.sync.Goals as goal

pub watermark-requires : goal.watermark-requires
watermark-requires g c = still-ordered _ _ c.session-uploads.ensures.keeps.stays c.requires.ordered

pub returns-in-None : goal.returns-in-None
returns-in-None g c = so-answered _ _ _ _ _ _ _ (ap (λ n. Done c.session-uploads.result.uploads c.session-uploads.result.downloads n) c.watermark.ensures) (sync-happens c.args.site _ _ _ _ _ _ c.requires.subscriber None (rw c.in-None.is at c.session-uploads.ensures))

pub returns-in-Some : goal.returns-in-Some
returns-in-Some g c = sync-happens c.args.site _ _ _ _ _ _ c.requires.subscriber (Some c.in-Some.refusal) (rw c.in-Some.is at c.session-uploads.ensures)
