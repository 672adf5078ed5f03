use Rattle.std.proofs.Common.{◌≡◌, All, length, drop, map, codes}
use Rattle.toml.specs.View.{view}
use Rattle.merge_schema.specs.FileTables.{each_table, subscription_of}
use Rattle.merge_schema.specs.declared.publication.Subscription.{Subscription}
use Rattle.merge_schema.specs.Valid.{IsValidSubscription}
use Rattle.merge_schema.proofs.Each.{with_front}
use Rattle.merge_schema.proofs.file_tables.subscriptions_of.Given as goal

abbrev pub invariant-loop-value : goal.invariant-loop-value
invariant-loop-value l = record {
  long : length l.subscriptions ≡ l.value-index;
  valid : All (λ (subscription : Subscription). IsValidSubscription subscription) l.subscriptions;
  so_far : with_front l.subscriptions (each_table (codes "subscription") subscription_of (map view (drop l.value-index l.values))) ≡ each_table (codes "subscription") subscription_of (map view l.values);
}
