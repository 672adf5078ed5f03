use Rattle.std.proofs.Common.{refl}
use Rattle.merge_part.proofs.Shown.{some_on}
use Rattle.merge_part.proofs.siblings.sites_by_children.Goals as goal

pub returns-then-is_free : goal.returns-then-is_free
returns-then-is_free c = some_on c.sites_if_alike.result _ _ (λ sites shows. (record { article = c.args.link.now.child; row = c.in-Some.entry.now.child }, refl, c.is_free.ensures c.if-is_free.true, shows)) c.sites_if_alike.ensures
