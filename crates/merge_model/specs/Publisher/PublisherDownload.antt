-- A site asks for what was touched.
use Rattle.std.specs.List.{last_or, range_with_len}
use Rattle.std.specs.Prelude.{Bool, List, None, Option, Result, Some, [], count_by, filter, filter_map, if◌then◌else◌, map, max, min, nat_le, nat_lt, option_map, unwrap_or, ℕ, ◌&&◌, ◌+◌, ◌-◌, ◌==◌, ◌∷◌}
use Rattle.merge_types.specs.Limits.{generation_limit, item_limit}
use Rattle.merge_types.specs.declared.identifiers.Moment.{Moment}
use Rattle.merge_types.specs.declared.identifiers.SiteId.{SiteId}
use Rattle.merge_gens.specs.Book.{moment_of}
use Rattle.merge_gens.specs.declared.sites.SiteState.{SiteState}
use Rattle.merge_schema.specs.declared.publication.Publication.{Publication}
use Rattle.merge_batch.specs.Orders.{order_by}
use Rattle.merge_batch.specs.declared.refusal.Refusal.{Refusal}
use Rattle.merge_batch.specs.declared.refusal.Refusal.TheVariants.{WrongWatermark}
use Rattle.merge_batch.specs.declared.reply.DownloadItem.{DownloadItem}
use Rattle.merge_batch.specs.declared.reply.Downloaded.{Downloaded}
use Rattle.merge_batch.specs.declared.request.Download.{Download}
use Rattle.merge_model.specs.Publisher.Entries.{keys_of, partition_keys}
use Rattle.merge_model.specs.Judge.{PublisherJudge}
use Rattle.merge_model.specs.Tables.Keys.{has_key}
use Rattle.merge_resolve.specs.Priorities.{subscription_at}
use Rattle.merge_model.specs.Publisher.{at_moment, counters, last_closed, site_refusal, state_of, tables_after_close, with_state}
use Rattle.merge_model.specs.Publisher.PublisherLocal.{version_at}
use Rattle.merge_model.specs.Tables.Refusals.{counter_end, first_refusal, refused_if, unless}
use Rattle.merge_types.specs.declared.row_key.RowKey.{RowKey as Key}
use Rattle.merge_model.specs.Tables.{PublisherTables}

-- How far a site is in step: up to now, where it holds all closed generations and the open one is empty; else up to the moment
-- at which the last generation that it holds closed, and 0 where that is not kept.
abbrev pub in_step : Download → PublisherTables → ℕ
in_step m p = if (m.from == last_closed p) && (p.gens.filling.filled == 0) then p.latest.0 else unwrap_or (moment_of p.gens.closings m.from) 0

abbrev pub state_after_download : Download → PublisherTables → SiteState → SiteState
state_after_download m p state = record state {
  watermark = max state.watermark m.from;
  last_sync = max state.last_sync (in_step m p);
}

-- the open generation closes, so that all that was done is in the reply or behind it
abbrev pub tables_after_download : Download → PublisherTables → PublisherTables
tables_after_download m p = tables_after_close (with_state m.site (state_after_download m p (state_of p m.site)) p)

-- The reply.

-- a row that was touched for the site, and whether it is in its partition
pub record TouchedRow : Type 0 where
  pub key : Key
  pub is_in : Bool
  pub generation : ℕ

abbrev pub touched_row : PublisherJudge → SiteId → List Key → Key → Option TouchedRow
touched_row judge site inside key = let is_in = has_key inside key in
    option_map (λ (generation : ℕ). record { key = key; is_in = is_in; generation = generation }) (judge.touch key site.0 is_in)

abbrev pub inside_keys : Publication → SiteId → PublisherTables → List Key
inside_keys publication site p = elim (subscription_at publication site.0) [
  | None ↦ []
  | Some subscription ↦ partition_keys publication subscription p.rows
]

-- by article and row: the rows that the publisher holds, and those that it does not hold but told the site of
abbrev pub touched_rows : Publication → PublisherJudge → SiteId → PublisherTables → List TouchedRow
touched_rows publication judge site p = filter_map (touched_row judge site (inside_keys publication site p)) (keys_of p.rows (judge.moved_rows site.0))

abbrev pub is_between : ℕ → ℕ → TouchedRow → Bool
is_between from to row = nat_lt from row.generation && nat_le row.generation to

-- the greatest generation behind one, up to another and within the limit of generations, whose items are not too many
abbrev pub batch_end : (ℕ → ℕ) → ℕ → ℕ → ℕ
batch_end items_up_to from last = unwrap_or (last_or None (filter (λ (to : ℕ). nat_le (items_up_to to) item_limit) (range_with_len (from + 1) (min generation_limit (last - from))))) from

abbrev pub item_of : PublisherTables → TouchedRow → DownloadItem
item_of p row = record { article = row.key.article; row = row.key.row; act = order_by row.is_in (version_at p row.key) }

abbrev pub reply_by : PublisherJudge → Download → PublisherTables → List TouchedRow → Downloaded
reply_by judge m p rows = let to = batch_end (λ (to : ℕ). count_by (is_between m.from to) rows) m.from (last_closed p) in record {
  seq = m.seq;
  from = m.from;
  to = to;
  last = last_closed p;
  received = judge.received m.site.0;
  items = map (item_of p) (filter (is_between m.from to) rows);
}

abbrev pub reply_to : Publication → PublisherJudge → Download → PublisherTables → Downloaded
reply_to publication judge m p = reply_by judge m p (touched_rows publication judge m.site p)

abbrev pub download_refusal : Publication → Moment → Download → PublisherTables → Option Refusal
download_refusal publication now m p = first_refusal (
    site_refusal publication m.site m.seq now p
    ∷ refused_if (nat_lt (last_closed p) m.from) (WrongWatermark m.from (last_closed p))
    ∷ counter_end (counters p)
    ∷ [])

abbrev pub download : Publication → PublisherJudge → Moment → Download → PublisherTables → Result (PublisherTables × Downloaded) Refusal
download publication judge now m p = let after = tables_after_download m (at_moment now p) in
    unless (download_refusal publication now m p) (after, reply_to publication judge m after)
