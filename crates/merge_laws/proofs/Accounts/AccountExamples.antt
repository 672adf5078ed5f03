-- Runs in which changes are kept, computed.
use Rattle.std.specs.Prelude.{◌≡◌, Bool, List, None, [], codes, false, map, pos, refl, true, ℕ, ℤ, ◌∷◌}
use Rattle.merge_types.specs.Rows.{row_number}
use Rattle.merge_types.specs.declared.values.ColumnType.TheVariants as ty
use Rattle.merge_types.specs.declared.values.Value.TheVariants.{Int}
use Rattle.merge_types.specs.declared.changes.Tracking.TheVariants as tracking
use Rattle.merge_schema.specs.declared.publication.Publication.{Publication}
use Rattle.merge_schema.specs.declared.publication.SubscriptionKind.TheVariants as kind
use Rattle.merge_units.specs.Cases.{side_by}
use Rattle.merge_types.specs.Fitting.{has_type}
use Rattle.merge_batch.specs.Asks.{broken_by_join, broken_by_ranges}
use Rattle.merge_batch.specs.Makers.{maker_of}
use Rattle.merge_batch.specs.Replies.{broken_by_reply}
use Rattle.merge_batch.specs.Uploads.{broken_by_upload}
use Rattle.merge_model.specs.declared.event.Event.{Event}
use Rattle.merge_model.specs.declared.event.Event.TheVariants as event
use Rattle.merge_model.specs.World.Events.{after}
use Rattle.merge_model.specs.Tables.Keys.{put_number}
use Rattle.merge_model.specs.History.Model.{Model, empty_model, model}
use Rattle.merge_model.specs.Laws.Promises.{is_accounted}

-- one article with one column, and one subscriber
abbrev items : Publication
items = record {
  name = codes "t";
  retention_days = 14;
  conflict_retention_days = 14;
  articles = (record {
    name = codes "item";
    columns = (record { name = codes "qty"; ty = ty.Int } ∷ []);
    tracking = tracking.Row;
    filter = None;
    joins = [];
    identity = None;
    resolver = 0;
    resolver_column = None;
  } ∷ []);
  subscriptions = (record { site = record { 0 = 1 }; host = record { 0 = codes "h1" }; kind = kind.Client; priority = 0 } ∷ []);
}

abbrev run : List Event → Model
run events = after items (model items (λ place asked case. None)) (empty_model items []) events

abbrev sync : Event
sync = event.Sync (record { 0 = 1 })

abbrev update_at : ℕ → ℤ → Event
update_at site quantity = event.Update (record { 0 = site }) (codes "item") (record { 0 = row_number 0 1 }) (record { column = codes "qty"; value = Int quantity } ∷ [])

-- a row that the publisher makes, and that both update
abbrev conflict : List Event
conflict = event.Insert (record { 0 = 0 }) (codes "item") [] ∷ sync ∷ update_at 0 (pos 2) ∷ update_at 1 (pos 3) ∷ sync ∷ []

-- which changes are accounted for, the last one first
abbrev accounted : Model → List Bool
accounted m = map (is_accounted m) m.history.made

-- A change that lost is in the conflict table, and nowhere else.

abbrev without_tables : Model → Model
without_tables m = record m { history = record m.history { lost = [] } }

loser-kept : accounted (run conflict) ≡ (true ∷ true ∷ true ∷ [])
unfolding broken_by_join broken_by_ranges broken_by_reply broken_by_upload has_type maker_of side_by
loser-kept = refl

loser-lost : accounted (without_tables (run conflict)) ≡ (false ∷ true ∷ true ∷ [])
unfolding broken_by_join broken_by_ranges broken_by_reply broken_by_upload has_type maker_of side_by
loser-lost = refl

-- One that is not sent is in its site's row.

abbrev unsent : List Event
unsent = event.Insert (record { 0 = 0 }) (codes "item") [] ∷ sync ∷ update_at 1 (pos 3) ∷ []

abbrev without_rows : Model → Model
without_rows m = record m { history = record m.history { pasts = put_number m.history.pasts 1 [] } }

unsent-kept : accounted (run unsent) ≡ (true ∷ true ∷ [])
unfolding broken_by_join broken_by_ranges broken_by_reply broken_by_upload has_type maker_of side_by
unsent-kept = refl

unsent-lost : accounted (without_rows (run unsent)) ≡ (false ∷ true ∷ [])
unfolding broken_by_join broken_by_ranges broken_by_reply broken_by_upload has_type maker_of side_by
unsent-lost = refl

-- Of a row whose tombstone was purged nothing else tells, nor of the delete.

abbrev purged : List Event
purged = event.Insert (record { 0 = 0 }) (codes "item") [] ∷ event.Delete (record { 0 = 0 }) (codes "item") (record { 0 = row_number 0 1 }) ∷ event.Close (record { 0 = 0 }) ∷ event.Wait 1382400 ∷ event.Purge ∷ []

abbrev without_purged : Model → Model
without_purged m = record m { history = record m.history { purged = [] } }

purged-kept : accounted (run purged) ≡ (true ∷ true ∷ [])
purged-kept = refl

purged-lost : accounted (without_purged (run purged)) ≡ (false ∷ false ∷ [])
purged-lost = refl
