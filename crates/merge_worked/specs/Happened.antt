-- What happened in a model, and whether its promises hold, by numbers, lists and Booleans that compute.
use Rattle.std.specs.Bool.{beq}
use Rattle.std.specs.List.{list_all, list_any, zip}
use Rattle.std.specs.Option.{option_map_or}
use Rattle.std.specs.Prelude.{Bool, List, [], count_by, false, filter, filter_map, flat_map, is_none, length, map, nat_le, not, ℕ, ℤ, ◌&&◌, ◌==◌, ◌||◌, ◌∷◌}
use Rattle.merge_types.specs.declared.identifiers.Dot.{Dot}
use Rattle.merge_types.specs.declared.identifiers.SiteId.{SiteId}
use Rattle.merge_lineage.specs.Lineage.{knows}
use Rattle.merge_units.specs.declared.version.Version.{Version}
use Rattle.merge_gens.specs.declared.closings.Closing.{Closing}
use Rattle.merge_conflict.specs.declared.row.ConflictRow.{ConflictRow}
use Rattle.merge_schema.specs.Partition.{is_empty}
use Rattle.merge_schema.specs.declared.publication.Publication.{Publication}
use Rattle.merge_batch.specs.declared.reply.DownloadItem.{DownloadItem}
use Rattle.merge_script.specs.Input.{script_of}
use Rattle.merge_script.specs.Lines.{lines_of}
use Rattle.merge_model.specs.Judge.ByHistory.{by_made, by_past}
use Rattle.merge_model.specs.World.Events.{after}
use Rattle.merge_model.specs.History.{MadeChange, Past, has, past_at, past_in}
use Rattle.merge_model.specs.Tables.Keys.{has_key, same_key}
use Rattle.merge_model.specs.History.Model.{Model, empty_model, model}
use Rattle.merge_model.specs.Laws.Promises.{Place, base_of, is_accounted, is_expired_at, is_given_up, is_kept_as_lost, is_kept_here, is_kept_unsent, is_put, key_of_conflict, lineages_in, lost_at, places_of, publisher_versions, stays_inside, subscriber_versions, versions_held, versions_owed, watermark_of}
use Rattle.merge_model.specs.Publisher.{at_moment, last_closed}
use Rattle.merge_model.specs.Publisher.PublisherDownload.{reply_to}
use Rattle.merge_model.specs.Publisher.PublisherPurge.{is_old}
use Rattle.merge_model.specs.Script.Reading.{events_of}
use Rattle.merge_model.specs.Script.Resolvers.{rules_say}
use Rattle.merge_model.specs.Subscriber.Sending.{unsent_rows}
use Rattle.merge_model.specs.World.Session.{Session, session}
use Rattle.merge_types.specs.declared.row_key.RowKey.{RowKey as Key}
use Rattle.merge_model.specs.Tables.{SubscriberTables}
use Rattle.merge_model.specs.World.{subscriber_at}
use Rattle.merge_model.specs.declared.letter.Letter.{Letter}

-- the model after the events of an input, which begins empty
abbrev pub model_after : Publication → List ℕ → Model
model_after publication input = after publication (model publication rules_say) (empty_model publication (0 ∷ 0 ∷ 0 ∷ 0 ∷ 0 ∷ [])) (events_of (lines_of (script_of input)))

abbrev pub subscribers_of : Model → List SubscriberTables
subscribers_of m = map (λ (entry : ℕ × SubscriberTables). entry.1) m.world.subscribers

-- How much happened.

-- the changes that were made, with those that a resolver decided
abbrev pub changes_made : Model → ℕ
changes_made m = length m.history.made

-- those that were discarded as their site was made anew, and that its join then covered
abbrev pub changes_given_up : Model → ℕ
changes_given_up m = count_by (λ (change : MadeChange). is_given_up m.world.publisher m.history change.dot) m.history.made

-- those that are lost: at some place only a version in a conflict table descends from them
abbrev pub is_lost_at : Model → MadeChange → Place → Bool
is_lost_at m change place = not (is_kept_here m.history change place) && is_kept_as_lost m.history change place

abbrev pub changes_lost : Model → ℕ
changes_lost m = count_by (λ (change : MadeChange). list_any (is_lost_at m change) (places_of change)) m.history.made

-- those that no one has but their own site, which did not send them
abbrev pub is_unsent_at : Model → MadeChange → Place → Bool
is_unsent_at m change place = is_kept_unsent m change place && not (is_kept_here m.history change place) && not (is_kept_as_lost m.history change place)

abbrev pub changes_unsent : Model → ℕ
changes_unsent m = count_by (λ (change : MadeChange). list_any (is_unsent_at m change) (places_of change)) m.history.made

-- those of rows whose tombstones were purged
abbrev pub changes_purged : Model → ℕ
changes_purged m = count_by (λ (change : MadeChange). has_key m.history.purged change.key) m.history.made

-- the versions that were added to conflict tables
abbrev pub versions_lost : Model → ℕ
versions_lost m = length m.history.lost

-- the generations that acted, or that a join covered, by site
abbrev pub generations_done : Model → List (ℕ × ℕ)
generations_done m = m.history.done

-- the identity values that inserts took, the last one first
abbrev pub values_taken : Model → List ℤ
values_taken m = filter_map (λ (change : MadeChange). change.identity) m.history.made

-- how many identity ranges were granted
abbrev pub ranges_granted : Model → ℕ
ranges_granted m = length m.world.publisher.grants

-- Whether every change is accounted for.
abbrev pub all_are_accounted : Model → Bool
all_are_accounted m = list_all (is_accounted m) m.history.made

-- Whether lineages stand for what the versions know.

-- of each change of the row that is not given up, the lineage says what the past says
abbrev pub says_the_same : Model → Key → List Dot → Past → MadeChange → Bool
says_the_same m key lineage past change =
    not (same_key change.key key)
    || is_given_up m.world.publisher m.history change.dot
    || beq (has past.known change.dot) (knows lineage change.dot)

abbrev pub stands_for : Model → Key → List Dot → Past → Bool
stands_for m key lineage past = list_all (says_the_same m key lineage past) m.history.made

-- that of each row of a site,
abbrev pub row_stands : Model → ℕ → Key × Version → Bool
row_stands m site row = stands_for m row.0 row.1.lineage (past_at m.history site row.0)

abbrev pub all_rows_stand : Model → Bool
all_rows_stand m =
    list_all (row_stands m 0) (publisher_versions m.world)
    && list_all (λ (s : SubscriberTables). list_all (row_stands m s.site.0) (subscriber_versions s)) (subscribers_of m)

-- that of each version in a message of the pool,
abbrev pub letter_stands : Model → Letter × List (Key × Past) → Bool
letter_stands m letter = list_all (λ (entry : Key × List Dot). stands_for m entry.0 entry.1 (past_in letter.1 entry.0)) (lineages_in letter.0.message)

abbrev pub all_letters_stand : Model → Bool
all_letters_stand m = (length m.world.pool == length m.history.letters) && list_all (letter_stands m) (zip m.world.pool m.history.letters)

-- and that of each row of a conflict table, whose pasts the history has in the same order
abbrev pub lost_row_stands : Model → ConflictRow × (Key × Past) → Bool
lost_row_stands m pair = same_key (key_of_conflict pair.0) pair.1.0 && stands_for m pair.1.0 pair.0.losing.lineage pair.1.1

abbrev pub table_stands : Model → ℕ → List ConflictRow → Bool
table_stands m site rows = (length rows == length (lost_at m.history site)) && list_all (lost_row_stands m) (zip rows (lost_at m.history site))

abbrev pub all_tables_stand : Model → Bool
all_tables_stand m =
    table_stands m 0 m.world.publisher.conflicts
    && list_all (λ (s : SubscriberTables). table_stands m s.site.0 s.conflicts) (subscribers_of m)

-- Which sites are settled, and what they hold.
abbrev pub is_settled : Publication → Model → SubscriberTables → Bool
is_settled publication m s =
    s.is_joined
    && not (is_expired_at publication m.world s.site)
    && is_empty (unsent_rows (by_made m.history s.site) s)
    && (s.watermark == last_closed m.world.publisher)
    && (m.world.publisher.gens.filling.filled == 0)

abbrev pub settled_subscribers : Publication → Model → List SubscriberTables
settled_subscribers publication m = filter (is_settled publication m) (subscribers_of m)

abbrev pub settled_sites : Publication → Model → List ℕ
settled_sites publication m = map (λ (s : SubscriberTables). s.site.0) (settled_subscribers publication m)

-- the live rows of each settled site, how many these are, and the rows of its partition as the publisher has them
abbrev pub held_at_settled : Publication → Model → List (List (Key × Version))
held_at_settled publication m = map versions_held (settled_subscribers publication m)

abbrev pub rows_held : Publication → Model → List ℕ
rows_held publication m = map (λ (rows : List (Key × Version)). length rows) (held_at_settled publication m)

abbrev pub owed_to_settled : Publication → Model → List (List (Key × Version))
owed_to_settled publication m = map (λ (s : SubscriberTables). versions_owed publication m.world s.site) (settled_subscribers publication m)

-- Whether a session of each subscriber would end without a refusal and leave the site settled.
abbrev pub is_settled_in : Publication → Model → SiteId → Bool
is_settled_in publication m site = option_map_or (is_settled publication m) (subscriber_at m.world site) false

abbrev pub session_settles : Publication → Model → SubscriberTables → Bool
session_settles publication m s = let done : Session Model = session (model publication rules_say) s.site m in is_none done.stop && is_settled_in publication done.world s.site

abbrev pub all_sessions_settle : Publication → Model → Bool
all_sessions_settle publication m = list_all (session_settles publication m) (subscribers_of m)

-- What the subscribers would be told if they asked from the start.
abbrev pub told_from_start : Publication → Model → SubscriberTables → List DownloadItem
told_from_start publication m s = (reply_to publication (by_past m.history []) (record { site = s.site; seq = 0; from = 0 }) m.world.publisher).items

abbrev pub rows_put : Publication → Model → ℕ
rows_put publication m = count_by (λ (item : DownloadItem). is_put item.act) (flat_map (told_from_start publication m) (subscribers_of m))

abbrev pub rows_removed : Publication → Model → ℕ
rows_removed publication m = count_by (λ (item : DownloadItem). not (is_put item.act)) (flat_map (told_from_start publication m) (subscribers_of m))

-- whether each such row that is put is in the site's partition, and of each that is removed the site was told that it left
abbrev pub all_stay_inside : Publication → Model → Bool
all_stay_inside publication m = list_all (λ (s : SubscriberTables). list_all (stays_inside publication m s.site) (told_from_start publication m s)) (subscribers_of m)

-- What a purge would take now: the old generations,
abbrev pub old_generations : Publication → Model → List ℕ
old_generations publication m = filter (is_old publication (at_moment m.world.moment m.world.publisher)) (map (λ (closing : Closing). closing.generation) m.world.publisher.gens.closings)

-- and whether each site that is not expired asked from behind them, or joined after they closed
abbrev pub is_past : Model → SiteId → ℕ → Bool
is_past m site generation = nat_le generation (watermark_of m.world site) || nat_le generation (base_of m.history site)

abbrev pub old_are_past : Publication → Model → Bool
old_are_past publication m = list_all (λ (s : SubscriberTables). is_expired_at publication m.world s.site || list_all (is_past m s.site) (old_generations publication m)) (subscribers_of m)
