-- How the history goes on by a step that was not refused.
use Rattle.std.specs.List.{fold, range_with_len}
use Rattle.std.specs.Option.{option_map_or}
use Rattle.std.specs.Prelude.{Bool, Err, List, None, Ok, Some, [], false, filter, flat_map, if◌then◌else◌, map, not, unwrap_or, ℕ, ◌++◌, ◌+◌, ◌-◌, ◌∷◌}
use Rattle.merge_types.specs.declared.changes.Change.{Change}
use Rattle.merge_types.specs.declared.identifiers.Dot.{Dot}
use Rattle.merge_types.specs.declared.identifiers.SiteId.{SiteId}
use Rattle.merge_types.specs.declared.values.Value.{Value}
use Rattle.merge_units.specs.declared.case.Case.{Case}
use Rattle.merge_units.specs.declared.result.Decision.{Decision}
use Rattle.merge_units.specs.declared.result.Decision.TheVariants.{Custom, KeepPublisher, TakeSubscriber}
use Rattle.merge_units.specs.declared.version.Version.{Version}
use Rattle.merge_schema.specs.declared.publication.Publication.{Publication}
use Rattle.merge_schema.specs.declared.publication.Subscription.{Subscription}
use Rattle.merge_batch.specs.Uploads.{whole_number}
use Rattle.merge_batch.specs.declared.reply.Act.{Act as Order}
use Rattle.merge_batch.specs.declared.reply.DownloadItem.{DownloadItem}
use Rattle.merge_batch.specs.declared.reply.Reply.{Reply}
use Rattle.merge_batch.specs.declared.request.Join.{Join}
use Rattle.merge_batch.specs.declared.request.Upload.{Upload}
use Rattle.merge_model.specs.Publisher.Acts.{Act, Fate, Met, New, Unknown, acts_of}
use Rattle.merge_resolve.specs.Questions.{conflicting_places}
use Rattle.merge_units.specs.Cases.{is_conflict}
use Rattle.merge_model.specs.Tables.Changes.{key_of}
use Rattle.merge_model.specs.Publisher.Entries.{Entries, changing_entries, keys_of}
use Rattle.merge_model.specs.History.{Changed, EnteredFor, GoneFor, History, LeftFor, Line, LineKind, MadeChange, Past, is_done, past_at, past_in, pasts_at}
use Rattle.merge_model.specs.Judge.{PublisherJudge, SubscriberJudge}
use Rattle.merge_model.specs.Tables.Keys.{drop_row, put_number, put_row, row_at}
use Rattle.merge_model.specs.History.Pasts.{cells_made, is_delete, past_after, past_by}
use Rattle.merge_model.specs.Tables.Publications.{by_site}
use Rattle.merge_model.specs.Publisher.{last_closed}
use Rattle.merge_model.specs.Publisher.PublisherJoin.{join_acts}
use Rattle.merge_model.specs.Publisher.PublisherLocal.{Drawn, changing_locally, draw_for_change, next_dot, with_draw}
use Rattle.merge_model.specs.Publisher.PublisherPurge.{is_old, is_old_tombstone}
use Rattle.merge_model.specs.Publisher.PublisherUpload.{brings_news, changing_by, with_acts}
use Rattle.merge_model.specs.Subscriber.Reinit.{discarded_versions}
use Rattle.merge_model.specs.Subscriber.{subscriber_drawn, subscriber_last_closed, subscriber_next_dot}
use Rattle.merge_gens.specs.declared.moves.MoveKind.TheVariants.{Entered, Left}
use Rattle.merge_types.specs.declared.row_key.RowKey.{RowKey as Key}
use Rattle.merge_gens.specs.declared.moves.MoveKind.{MoveKind}
use Rattle.merge_units.specs.declared.site_row.PublisherRow.{PublisherRow}
use Rattle.merge_gens.specs.declared.moves.RowSite.{RowSite}
use Rattle.merge_model.specs.Tables.{PublisherTables, SubscriberTables}
use Rattle.merge_model.specs.Subscriber.Taking.{key_of_download}
use Rattle.merge_batch.specs.declared.reply.Act.TheVariants as order
use Rattle.merge_batch.specs.declared.reply.Reply.TheVariants as reply

abbrev pub with_past : ℕ → Key → Past → History → History
with_past site key past h = record h { pasts = put_number h.pasts site (put_row (pasts_at h site) key past) }

abbrev pub without_past : ℕ → Key → History → History
without_past site key h = record h { pasts = put_number h.pasts site (drop_row (pasts_at h site) key) }

abbrev pub with_line : History → Line → History
with_line h line = record h { lines = line ∷ h.lines }

abbrev pub with_lines : List Line → History → History
with_lines lines h = fold with_line h lines

-- The lines of a step's entries. A row that comes back as a changed row is no entry.

abbrev pub changed_line : Key × ℕ → Line
changed_line entry = record { key = entry.0; kind = Changed; generation = entry.1 }

abbrev pub move_kind : ℕ → MoveKind → LineKind
move_kind site Entered = EnteredFor site
move_kind site Left = LeftFor site

abbrev pub moved_line : (RowSite × MoveKind) × ℕ → Line
moved_line entry = record { key = entry.0.0.key; kind = move_kind entry.0.0.site entry.0.1; generation = entry.1 }

abbrev pub gone_line : ℕ → RowSite → Line
gone_line generation place = record { key = place.key; kind = GoneFor place.site; generation = generation }

abbrev pub lines_of_entries : ℕ → Entries → List Line
lines_of_entries generation entries = map changed_line entries.changed ++ map moved_line entries.moved ++ map (gone_line generation) entries.gone

-- Local changes.

abbrev pub made_change : Publication → Dot → ℕ → Change → Value → Key → Past → MadeChange
made_change publication dot generation change value key past = record {
  dot = dot;
  key = key;
  generation = generation;
  cells = cells_made publication change;
  deletes = is_delete change;
  identity = whole_number (Some value);
  past = past;
}

abbrev pub with_made : MadeChange → History → History
with_made change h = with_past change.dot.site.0 change.key change.past (record h { made = change ∷ h.made })

-- a change with the identity value that was drawn for it, Null where there is none
abbrev pub with_change : Publication → Dot → ℕ → Change → Value → History → History
with_change publication dot generation change value h = let key = key_of dot change in
    with_made (made_change publication dot generation change value key (past_after publication dot change (past_at h dot.site.0 key))) h

abbrev pub drawn_entries : Publication → PublisherJudge → Change → PublisherTables → Drawn → Entries
drawn_entries publication judge change p drawn = changing_entries publication judge (changing_locally publication change drawn.value p) (with_draw drawn p)

abbrev pub noted_at_publisher : Publication → PublisherJudge → Change → PublisherTables → History → History
noted_at_publisher publication judge change p h = elim (draw_for_change publication p change) [
  | Err refusal ↦ h
  | Ok draw ↦ with_lines (lines_of_entries (last_closed p + 1) (drawn_entries publication judge change p draw)) (with_change publication (next_dot p) (last_closed p + 1) change draw.value h)
]

abbrev pub noted_at_subscriber : Publication → Change → SubscriberTables → History → History
noted_at_subscriber publication change s h = elim (subscriber_drawn s change) [
  | Err refusal ↦ h
  | Ok draw ↦ with_change publication (subscriber_next_dot s) (subscriber_last_closed s + 1) change draw.0 h
]

-- Joins: the generations up to the one that the site tells are covered.

abbrev pub new_generations : History → ℕ → ℕ → ℕ → List ℕ
new_generations h site from to = filter (λ (generation : ℕ). not (is_done h site generation)) (range_with_len (from + 1) (to - from))

abbrev pub with_done : ℕ → ℕ → ℕ → History → History
with_done site from to h = record h { done = h.done ++ map (λ (generation : ℕ). (site, generation)) (new_generations h site from to) }

-- the rows of which the last line for the site is that they left, each once however many lines it has
abbrev pub left_rows : PublisherJudge → SiteId → List Key
left_rows judge site = filter (λ (key : Key). judge.has_left key site.0) (keys_of [] (judge.moved_rows site.0))

abbrev pub gone_for : SiteId → Key → RowSite
gone_for site key = record { key = key; site = site.0 }

abbrev pub noted_join : PublisherJudge → Join → PublisherTables → History → History
noted_join judge m p h = if join_acts m p
    then with_lines (map (gone_line (last_closed p + 1)) (map (gone_for m.site) (left_rows judge m.site)))
    (record (with_done m.site.0 0 m.generation h) { bases = put_number h.bases m.site.0 (last_closed p) })
    else h

-- Uploads.

abbrev pub with_accepted : Past → History → History
with_accepted past h = record h { accepted = h.accepted ++ past.known }

abbrev pub with_lost : ℕ → Key → Past → History → History
with_lost site key past h = record h { lost = h.lost ++ (site, (key, past)) ∷ [] }

-- what a decided conflict loses
abbrev pub with_loser : Decision → Key → Past → Past → History → History
with_loser KeepPublisher key ours theirs h = with_lost 0 key theirs h
with_loser TakeSubscriber key ours theirs h = with_lost 0 key ours h
with_loser (Custom values) key ours theirs h = with_lost 0 key theirs (with_lost 0 key ours h)

abbrev pub decided_change : Dot → ℕ → Key → Case → Past → MadeChange
decided_change dot generation key case past = record {
  dot = dot;
  key = key;
  generation = generation;
  cells = conflicting_places case;
  deletes = false;
  identity = None;
  past = past;
}

-- decided values are a change of the publisher
abbrev pub with_decided : Decision → Dot → ℕ → Key → Case → Past → History → History
with_decided (Custom values) dot generation key case past h = with_made (decided_change dot generation key case past) h
with_decided decision dot generation key case past h = with_past 0 key past h

abbrev pub with_meeting : Case → Decision → Dot → ℕ → Key → Past → Past → History → History
with_meeting case decision dot generation key ours theirs h =
    let after = with_decided decision dot generation key case (past_by case decision dot ours theirs) h in
    if is_conflict case then with_loser decision key ours theirs after else after

abbrev pub with_fate : Fate → ℕ → Key → Past → History → History
with_fate New generation key incoming h = with_past 0 key incoming h
with_fate Unknown generation key incoming h = with_lost 0 key incoming h
with_fate (Met held case decision dot) generation key incoming h = with_meeting case decision dot generation key (past_at h 0 key) incoming h

-- the generation of the entry that an act's row makes, 0 where it makes none
abbrev pub entry_generation : Entries → Key → ℕ
entry_generation entries key = unwrap_or (row_at entries.changed key) 0

abbrev pub with_act : List (Key × Past) → Entries → History → Act → History
with_act incoming entries h act = let past = past_in incoming act.key in
    with_accepted past (with_fate act.fate (entry_generation entries act.key) act.key past h)

abbrev pub acts_entries : Publication → PublisherJudge → Upload → List Act → PublisherTables → Entries
acts_entries publication judge m acts p = changing_entries publication judge (changing_by m acts) (with_acts publication m acts p)

abbrev pub with_acts_noted : Publication → PublisherJudge → Upload → List Act → List (Key × Past) → PublisherTables → History → History
with_acts_noted publication judge m acts incoming p h = let entries = acts_entries publication judge m acts p in
    with_done m.site.0 m.from m.to (with_lines (lines_of_entries (last_closed p + 1) entries) (fold (with_act incoming entries) h acts))

abbrev pub noted_upload : Publication → PublisherJudge → Upload → List Decision → List (Key × Past) → PublisherTables → History → History
noted_upload publication judge m decisions incoming p h =
    if brings_news judge m then with_acts_noted publication judge m (acts_of judge m decisions p) incoming p h else h

-- Replies: a row that is put has the past that the reply has of it.

abbrev pub with_order_past : ℕ → List (Key × Past) → Key → Order → History → History
with_order_past site incoming key (order.Put lineage live) h = with_past site key (past_in incoming key) h
with_order_past site incoming key order.RemoveDeleted h = without_past site key h
with_order_past site incoming key order.RemoveLeft h = without_past site key h

abbrev pub with_item_past : SubscriberJudge → ℕ → ℕ → List (Key × Past) → History → DownloadItem → History
with_item_past judge received site incoming h item =
    if judge.is_unsent received (key_of_download item) then h
    else with_order_past site incoming (key_of_download item) item.act h

abbrev pub noted_reply : SubscriberJudge → SiteId → List (Key × Past) → Reply → History → History
noted_reply judge site incoming (reply.Downloaded m) h = fold (with_item_past judge m.received site.0 incoming) h m.items
noted_reply judge site incoming m h = h

-- Making anew: what was unsent is in the site's own table, and nothing is held.

abbrev pub with_discarded : SiteId → History → Key × Version → History
with_discarded site h row = with_lost site.0 row.0 (past_at h site.0 row.0) h

abbrev pub noted_anew : SubscriberJudge → SubscriberTables → History → History
noted_anew judge s h = let after = fold (with_discarded s.site) h (discarded_versions judge s) in record after { pasts = put_number after.pasts s.site.0 [] }

-- Forgetting: old tombstones, and the old lines that say that a row left.

abbrev pub old_tombstones : Publication → PublisherTables → List Key
old_tombstones publication p = map (λ (row : Key × PublisherRow). row.0) (filter (is_old_tombstone publication p) p.rows)

abbrev pub is_old_for : Publication → PublisherJudge → PublisherTables → SiteId → Key → Bool
is_old_for publication judge p site key = option_map_or (is_old publication p) (judge.touch key site.0 false) false

abbrev pub old_left : Publication → PublisherJudge → PublisherTables → SiteId → List RowSite
old_left publication judge p site = map (gone_for site) (filter (is_old_for publication judge p site) (left_rows judge site))

abbrev pub site_of_subscription : ℕ × Subscription → SiteId
site_of_subscription entry = entry.1.site

abbrev pub with_purged : History → Key → History
with_purged h key = without_past 0 key (record h { purged = key ∷ h.purged })

abbrev pub noted_purge : Publication → PublisherJudge → PublisherTables → History → History
noted_purge publication judge p h =
    with_lines (map (gone_line (last_closed p + 1)) (flat_map (old_left publication judge p) (map site_of_subscription (by_site publication))))
    (fold with_purged h (old_tombstones publication p))
