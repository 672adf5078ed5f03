-- Sessions that nothing refused, computed, and one in another order, which does not settle its site.
use Rattle.std.specs.Prelude.{◌≡◌, List, [], ◌∷◌, ℕ, codes, None, refl}
use Rattle.merge_types.specs.declared.identifiers.SiteId.{SiteId}
use Rattle.merge_types.specs.declared.values.ColumnType.TheVariants as ty
use Rattle.merge_types.specs.declared.changes.Tracking.TheVariants as tracking
use Rattle.merge_schema.specs.declared.publication.Publication.{Publication}
use Rattle.merge_schema.specs.declared.publication.SubscriptionKind.TheVariants as kind
use Rattle.merge_types.specs.Fitting.{has_type}
use Rattle.merge_batch.specs.Asks.{broken_by_join, broken_by_ranges}
use Rattle.merge_batch.specs.Makers.{maker_of}
use Rattle.merge_batch.specs.Replies.{broken_by_reply}
use Rattle.merge_batch.specs.Uploads.{broken_by_upload}
use Rattle.merge_model.specs.declared.event.Event.{Event}
use Rattle.merge_model.specs.declared.event.Event.TheVariants as event
use Rattle.merge_model.specs.World.Events.{after}
use Rattle.merge_model.specs.History.Model.{Model, empty_model, model}
use Rattle.merge_model.specs.World.Session.{Session, Stepping, all_downloads, all_uploads, join_if_due, session, unless_stopped}

-- one article and one subscriber
abbrev tickets : Publication
tickets = record {
  name = codes "t";
  retention_days = 14;
  conflict_retention_days = 14;
  articles = (record {
    name = codes "ticket";
    columns = (record { name = codes "note"; ty = ty.Text } ∷ []);
    tracking = tracking.Row;
    filter = None;
    joins = [];
    identity = None;
    resolver = 0;
    resolver_column = None;
  } ∷ []);
  subscriptions = (record { site = record { 0 = 1 }; host = record { 0 = codes "h1" }; kind = kind.Client; priority = 0 } ∷ []);
}

abbrev insert_at : ℕ → Event
insert_at site = event.Insert (record { 0 = site }) (codes "ticket") []

-- a session behind some events
abbrev session_behind : List Event → Session Model
session_behind events = session (model tickets (λ a b c. None)) (record { 0 = 1 }) (after tickets (model tickets (λ a b c. None)) (empty_model tickets []) events)

-- a session in which the uploads come last
abbrev uploading_last : Model → Session Model
uploading_last m = let steps : Stepping Model = model tickets (λ a b c. None) in let site : SiteId = record { 0 = 1 } in
    unless_stopped steps site (all_uploads steps site) (unless_stopped steps site (all_downloads steps site) (join_if_due steps site (record {
      world = m;
      uploads = 0;
      downloads = 0;
      stop = None;
    })))

-- the site joins, and at its next session it uploads its own row and downloads the publisher's
first-finishes : (session_behind []).stop ≡ None
unfolding broken_by_join broken_by_reply broken_by_ranges has_type maker_of
first-finishes = refl

next-finishes : (session_behind (event.Sync (record { 0 = 1 }) ∷ insert_at 0 ∷ insert_at 1 ∷ [])).stop ≡ None
unfolding broken_by_join broken_by_reply broken_by_ranges broken_by_upload has_type maker_of
next-finishes = refl

next-uploads : (session_behind (event.Sync (record { 0 = 1 }) ∷ insert_at 0 ∷ insert_at 1 ∷ [])).uploads ≡ 1
unfolding broken_by_join broken_by_reply broken_by_ranges broken_by_upload has_type maker_of
next-uploads = refl

-- its row stands in the publisher's open generation then
last-finishes : (uploading_last (after tickets (model tickets (λ a b c. None)) (empty_model tickets []) (event.Sync (record { 0 = 1 }) ∷ insert_at 1 ∷ []))).stop ≡ None
unfolding broken_by_join broken_by_reply broken_by_ranges broken_by_upload has_type maker_of
last-finishes = refl

last-leaves-open : (uploading_last (after tickets (model tickets (λ a b c. None)) (empty_model tickets []) (event.Sync (record { 0 = 1 }) ∷ insert_at 1 ∷ []))).world.world.publisher.gens.filling.filled ≡ 1
unfolding broken_by_join broken_by_reply broken_by_ranges broken_by_upload has_type maker_of
last-leaves-open = refl
