-- Runs in which inserts take identity values, computed.
use Rattle.std.specs.Prelude.{◌≡◌, List, [], ◌∷◌, ℕ, ℤ, pos, codes, Some, None, Option, map, refl}
use Rattle.merge_types.specs.declared.values.ColumnType.TheVariants as ty
use Rattle.merge_types.specs.declared.changes.Tracking.TheVariants as tracking
use Rattle.merge_schema.specs.declared.publication.Publication.{Publication}
use Rattle.merge_schema.specs.declared.publication.SubscriptionKind.TheVariants as kind
use Rattle.merge_types.specs.Fitting.{has_type}
use Rattle.merge_batch.specs.Asks.{broken_by_join, broken_by_ranges}
use Rattle.merge_batch.specs.Makers.{maker_of}
use Rattle.merge_batch.specs.Replies.{broken_by_reply}
use Rattle.merge_model.specs.declared.event.Event.{Event}
use Rattle.merge_model.specs.declared.event.Event.TheVariants as event
use Rattle.merge_model.specs.World.Events.{after}
use Rattle.merge_model.specs.History.{MadeChange}
use Rattle.merge_model.specs.History.Model.{empty_model, model}

-- one article; the publisher's ranges begin at 2 and have so many values
abbrev with_ranges : ℕ → Publication
with_ranges pub_range = record {
  name = codes "t";
  retention_days = 14;
  conflict_retention_days = 14;
  articles = (record {
    name = codes "ticket";
    columns = (record { name = codes "no"; ty = ty.Int } ∷ record { name = codes "note"; ty = ty.Text } ∷ []);
    tracking = tracking.Row;
    filter = None;
    joins = [];
    identity = (Some (record { column = 0; seed = pos 2; range = 2; pub_range = pub_range; threshold = 100; greatest = pos 8 }));
    resolver = 0;
    resolver_column = None;
  } ∷ []);
  subscriptions = (record { site = record { 0 = 1 }; host = record { 0 = codes "h1" }; kind = kind.Client; priority = 0 } ∷ []);
}

-- what the inserts took, the last one first
abbrev taken_by : ℕ → List Event → List (Option ℤ)
taken_by pub_range events = map (λ (change : MadeChange). change.identity) (after (with_ranges pub_range) (model (with_ranges pub_range) (λ a b c. None)) (empty_model (with_ranges pub_range) []) events).history.made

abbrev insert_at : ℕ → Event
insert_at site = event.Insert (record { 0 = site }) (codes "ticket") []

-- the publisher takes 2, its subscriber 4 of the range that a session brings, the publisher 3
some-taken : taken_by 2 (insert_at 0 ∷ event.Sync (record { 0 = 1 }) ∷ insert_at 1 ∷ insert_at 0 ∷ []) ≡ (Some (pos 3) ∷ Some (pos 4) ∷ Some (pos 2) ∷ [])
unfolding broken_by_join broken_by_reply broken_by_ranges has_type maker_of
some-taken = refl

-- where ranges have no values, two inserts take the same
no-values : taken_by 0 (insert_at 0 ∷ insert_at 0 ∷ []) ≡ (Some (pos 2) ∷ Some (pos 2) ∷ [])
no-values = refl
