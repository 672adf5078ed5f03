-- The subscriptions so far, and what is to come.
use Rattle.std.proofs.Common.{◌≡◌, drop}
use Rattle.std.specs.List.{fold}
use Rattle.merge_model.specs.Tables.Keys.{put_number}
use Rattle.merge_model.specs.Tables.Publications.{by_site}
use Rattle.merge_program.proofs.stores.by_site.Given as goal

abbrev pub invariant-loop-subscription : goal.invariant-loop-subscription
invariant-loop-subscription l = fold (λ others subscription. put_number others subscription.site.0 subscription) l.subscriptions.rows (drop l.subscription-index l.subscription-items) ≡ by_site l.publication
