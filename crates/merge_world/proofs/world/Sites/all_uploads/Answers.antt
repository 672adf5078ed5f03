use Rattle.std.proofs.Common.{refl}
use Rattle.merge_world.proofs.Rounds.{uploads-all, uploads-want}
use Rattle.merge_world.proofs.world.Sites.all_uploads.Goals as goal

pub returns-in-Some : goal.returns-in-Some
returns-in-Some g c = uploads-all c.args.site _ _ _ _ _ _ _ _ _ c.in-Some.most c.in-Some.ensures.some c.uploading.ensures

pub returns-in-None : goal.returns-in-None
returns-in-None g c = uploads-all c.args.site _ _ _ _ _ _ _ _ _ _ refl (uploads-want c.args.site _ _ _ (c.in-None.ensures.none refl))
