-- Values of the publisher's rows and conflicts are typed: its calls keep it.
use Rattle.std.specs.BTreeMap.{is_at}
use Rattle.std.specs.List.{AllByRecursion, zip}
use Rattle.std.specs.Option.{option_to_list}
use Rattle.std.specs.Prelude.{Bool, IfOk, List, None, Option, Some, [], false, if◌then◌else◌, length, map, max, true, ℕ, ◌+◌, ◌<◌, ◌^◌, ◌≡◌, ◌∷◌}
use Rattle.std.proofs.Common.{arith}
use Rattle.std.proofs.lemmas.Bool.Decides.{nat_tests}
use Rattle.merge_types.specs.RowKeys.{key_cmp}
use Rattle.merge_types.specs.declared.changes.Change.{Change}
use Rattle.merge_types.specs.declared.identifiers.Moment.{Moment}
use Rattle.merge_types.specs.declared.row_key.RowKey.{RowKey as Key}
use Rattle.merge_units.specs.Version.{is_live}
use Rattle.merge_units.specs.declared.result.Decision.{Decision}
use Rattle.merge_units.specs.declared.site_row.PublisherRow.{PublisherRow}
use Rattle.merge_units.specs.declared.version.Version.{Version}
use Rattle.merge_schema.specs.declared.publication.Publication.{Publication}
use Rattle.merge_batch.specs.LocalChanges.{change_refusal, key_of, version_after}
use Rattle.merge_batch.specs.Orders.{order_by}
use Rattle.merge_batch.specs.declared.reply.Downloaded.{Downloaded}
use Rattle.merge_batch.specs.declared.reply.DownloadItem.{DownloadItem}
use Rattle.merge_batch.specs.declared.reply.Joined.{Joined}
use Rattle.merge_batch.specs.declared.reply.Ranged.{Ranged}
use Rattle.merge_batch.specs.declared.reply.Uploaded.{Uploaded}
use Rattle.merge_batch.specs.declared.reply.Act.TheVariants as order
use Rattle.merge_batch.specs.declared.request.Download.{Download}
use Rattle.merge_batch.specs.declared.request.Join.{Join}
use Rattle.merge_batch.specs.declared.request.RangeAsk.{RangeAsk}
use Rattle.merge_batch.specs.declared.request.Upload.{Upload}
use Rattle.merge_record.specs.Versions.{IsValue}
use Rattle.merge_model.specs.Publisher.Acts.{Act, acting_items, acts_of, lost_from}
use Rattle.merge_model.specs.Publisher.Entries.{Changing, Entries, changed_by, changing_entries, with_entries, with_rows}
use Rattle.merge_model.specs.Judge.{PublisherJudge}
use Rattle.merge_model.specs.Tables.Keys.{put_row, row_at}
use Rattle.merge_model.specs.Publisher.{at_moment, close_generation, counters, last_closed, tables_after_close}
use Rattle.merge_model.specs.Publisher.PublisherDownload.{TouchedRow, download, download_refusal, item_of, reply_to, tables_after_download}
use Rattle.merge_model.specs.Publisher.PublisherJoin.{join, join_acts, join_refusal, join_taken, tables_after_join}
use Rattle.merge_model.specs.Publisher.PublisherLocal.{Drawn, changing_locally, draw_for_change, local, local_refusal, made_locally, next_dot, version_at, with_draw}
use Rattle.merge_model.specs.Publisher.PublisherPurge.{purge}
use Rattle.merge_model.specs.Publisher.PublisherRanges.{plans, ranges, ranges_refusal, reply_to_ranges, with_grants}
use Rattle.merge_model.specs.Publisher.PublisherUpload.{brings_news, changing_by, tables_after_upload, taken_in, upload, upload_refusal, with_acts}
use Rattle.merge_model.specs.Tables.Refusals.{counter_end}
use Rattle.merge_model.specs.World.Steps.{kept_decisions, upload_questions}
use Rattle.merge_model.specs.Tables.{PublisherTables}
use Rattle.merge_model.specs.World.{Saying}
use Rattle.merge_model.proofs.Lists.{OfSome, all-append, all-filter, all-map, all-unit, some-map}
use Rattle.merge_model.proofs.Runs.Refusals.{first-none}
use Rattle.merge_typed.specs.Messages.{ItemIsTyped, OrderIsTyped}
use Rattle.merge_typed.specs.Outside.{ChangeIsTyped}
use Rattle.merge_typed.specs.Typed.{LostIsTyped, MomentFits}
use Rattle.merge_typed.proofs.Acts.{ActIsTyped, PutIsTyped, RowIsTyped, RowsAreTyped, acts-are, lost-are, puts-are, questions-are}
use Rattle.merge_typed.proofs.Calls.{local-ok, ok-of, unless-ok}
use Rattle.merge_typed.proofs.Decisions.{answers-fit}
use Rattle.merge_typed.proofs.Entries.{all-zipped, values-found, values-put}
use Rattle.merge_typed.proofs.Results.{DecisionFits}
use Rattle.merge_typed.proofs.Values.{VersionIsTyped, cells-typed, settings-are, version-is}

pub record OwnValues (p : PublisherTables) : Type 0 where
  pub rows : RowsAreTyped p.rows
  pub conflicts : AllByRecursion LostIsTyped p.conflicts
  pub latest : MomentFits p.latest

pub max-low : (a b : ℕ) → a < 2 ^ 64 → b < 2 ^ 64 → max a b < 2 ^ 64
max-low a b one other = grind (arith, nat_tests, one, other)

moved : (now : Moment) (p : PublisherTables) → MomentFits now → OwnValues p → OwnValues (at_moment now p)
moved now p low v = record { rows = v.rows; conflicts = v.conflicts; latest = max-low now.0 p.latest.0 low v.latest }

-- rows that get versions
rows-with : (changed : List ((Key × Version) × ℕ)) (rows : List (Key × PublisherRow)) → AllByRecursion (λ (x : (Key × Version) × ℕ). PutIsTyped x.0) changed → RowsAreTyped rows → RowsAreTyped (with_rows rows changed)
rows-with [] rows all typed = typed
rows-with (x ∷ changed) rows all typed =
    let row : PublisherRow = record { version = x.0.1; changed = x.1 } in
    rows-with changed (put_row rows x.0.0 row) all.1 (values-put RowIsTyped key_cmp x.0.0 row rows all.0 typed)

entries-with : (entries : Entries) (versions : List (Key × Version)) (p : PublisherTables) → AllByRecursion PutIsTyped versions → OwnValues p → OwnValues (with_entries entries versions p)
entries-with entries versions p all v = record {
  rows = rows-with (zip versions (map (λ (entry : Key × ℕ). entry.1) entries.changed)) p.rows (all-zipped PutIsTyped versions (map (λ (entry : Key × ℕ). entry.1) entries.changed) all) v.rows;
  conflicts = v.conflicts;
  latest = v.latest;
}

changed-by : (publication : Publication) (judge : PublisherJudge) (changing : Changing) (p : PublisherTables) → AllByRecursion PutIsTyped changing.versions → OwnValues p → OwnValues (changed_by publication judge changing p)
changed-by publication judge changing p all v = entries-with (changing_entries publication judge changing p) changing.versions p all v

-- a local change
held-version : (p : PublisherTables) (key : Key) → RowsAreTyped p.rows → OfSome VersionIsTyped (version_at p key)
held-version p key rows = some-map RowIsTyped VersionIsTyped (λ (row : PublisherRow). row.version) (λ row is. is) (row_at p.rows key) (values-found RowIsTyped (is_at (key_cmp key)) p.rows rows)

listed : (key : Key) (found : Option Version) → OfSome VersionIsTyped found → AllByRecursion PutIsTyped (map (λ (version : Version). (key, version)) (option_to_list found))
listed key None is = tt
listed key (Some version) is = (is, tt)

own-change : (publication : Publication) (judge : PublisherJudge) (now : Moment) (change : Change) (p : PublisherTables) (d : Drawn) → MomentFits now → ChangeIsTyped change → IsValue d.value → local_refusal publication change p ≡ None → OwnValues p
    → OwnValues (made_locally publication judge change d (at_moment now p)).0
own-change publication judge now change p d low typed value fine v =
    let q : PublisherTables = at_moment now p in
    let key : Key = key_of (next_dot p) change in
    let w : OwnValues q = moved now p low v in
    let behind = first-none (counter_end (counters p)) _ fine in
    let here = first-none (change_refusal publication (next_dot p) change (version_at p key) (length p.rows)) _ behind.1 in
    let set = settings-are publication (next_dot p) change (version_at p key) (length p.rows) here.0 typed in
    changed-by publication judge (changing_locally publication change d.value q) (with_draw d q)
    (listed key (version_after publication (next_dot p) d.value change (version_at p key)) (version-is publication (next_dot p) d.value change (version_at p key) value set (held-version p key v.rows)))
    (record { rows = w.rows; conflicts = w.conflicts; latest = w.latest })

-- an upload
upload-by : (publication : Publication) (judge : PublisherJudge) (m : Upload) (decisions : List Decision) (q : PublisherTables) (b : Bool) → AllByRecursion ItemIsTyped m.items → AllByRecursion DecisionFits decisions → OwnValues q
    → OwnValues (if b then taken_in publication judge m (acts_of judge m decisions q) q else q)
upload-by publication judge m decisions q false items fits v = v
upload-by publication judge m decisions q true items fits v =
    let acts : List Act = acts_of judge m decisions q in
    let are : AllByRecursion ActIsTyped acts = acts-are judge m.site q (q.changes + 1) decisions (acting_items judge m) v.rows fits (all-filter ItemIsTyped _ m.items items) in
    changed-by publication judge (changing_by m acts) (with_acts publication m acts q) (puts-are acts are)
    (record {
      rows = v.rows;
      conflicts = all-append LostIsTyped q.conflicts (lost_from publication m.site q.latest (q.conflict_count + 1) acts) v.conflicts (lost-are publication m.site q.latest (q.conflict_count + 1) acts v.latest are);
      latest = v.latest;
    })

-- a download
if-removed : (b : Bool) → OrderIsTyped (if b then order.RemoveLeft else order.RemoveDeleted)
if-removed true = tt
if-removed false = tt

order-is : (is_in : Bool) (found : Option Version) → OfSome VersionIsTyped found → OrderIsTyped (order_by is_in found)
order-is true (Some version) is = cells-typed version.body is
order-is false (Some version) is = if-removed (is_live version.body)
order-is true None is = tt
order-is false None is = tt

orders-are : (p : PublisherTables) (rows : List TouchedRow) → RowsAreTyped p.rows → AllByRecursion (λ (item : DownloadItem). OrderIsTyped item.act) (map (item_of p) rows)
orders-are p rows typed = all-map (λ (row : TouchedRow). Unit {0}) (λ (item : DownloadItem). OrderIsTyped item.act) (item_of p) (λ row none. order-is row.is_in (version_at p row.key) (held-version p row.key typed)) rows (all-unit rows)

-- a join
join-by : (m : Join) (q : PublisherTables) (b : Bool) → OwnValues q → OwnValues (if b then join_taken m q else q)
join-by m q true v = record { rows = v.rows; conflicts = v.conflicts; latest = v.latest }
join-by m q false v = v

module _ (publication : Publication) (now : Moment) (p : PublisherTables) (low : MomentFits now) (v : OwnValues p) where
  pub values-local : (judge : PublisherJudge) (change : Change) → ChangeIsTyped change → IfOk (draw_for_change publication p change) (λ d. IsValue d.value) → IfOk (local publication judge now change p) (λ done. OwnValues done.0)
  values-local judge change typed draw = local-ok publication judge now change p OwnValues (λ fine d is. own-change publication judge now change p d low typed (ok-of (λ (d : Drawn). IsValue d.value) (draw_for_change publication p change) d draw is) fine v)

  pub values-closed : IfOk (close_generation now p) (λ done. OwnValues done.0)
  values-closed = (let w = moved now p low v in
      unless-ok (λ (done : PublisherTables × ℕ). OwnValues done.0) (counter_end (counters p)) (tables_after_close (at_moment now p), last_closed (tables_after_close (at_moment now p))) (λ fine. record { rows = w.rows; conflicts = w.conflicts; latest = w.latest }))

  pub values-purged : OwnValues (purge publication now p).0
  values-purged = (let w = moved now p low v in record { rows = all-filter (λ (row : Key × PublisherRow). RowIsTyped row.1) _ p.rows v.rows; conflicts = w.conflicts; latest = w.latest })

  pub values-joined : (m : Join) → IfOk (join publication now m p) (λ done. OwnValues done.0 × Unit {0})
  values-joined m = unless-ok (λ (done : PublisherTables × Joined). OwnValues done.0 × Unit {0}) (join_refusal publication m p) (tables_after_join m (at_moment now p), record { seq = m.seq }) (λ fine. (join-by m (at_moment now p) (join_acts m (at_moment now p)) (moved now p low v), tt))

  pub values-uploaded : (says : Saying) (judge : PublisherJudge) (m : Upload) (tallies : List ℕ) → AllByRecursion ItemIsTyped m.items
      → IfOk (upload publication judge now m (kept_decisions says tallies (upload_questions publication judge now m p)) p) (λ done. OwnValues done.0 × Unit {0})
  values-uploaded says judge m tallies items =
      let q : PublisherTables = at_moment now p in
      let w : OwnValues q = moved now p low v in
      let decisions : List Decision = kept_decisions says tallies (upload_questions publication judge now m p) in
      let fit : AllByRecursion DecisionFits decisions = answers-fit says tallies (upload_questions publication judge now m p) (questions-are publication judge m q w.rows) in
      unless-ok (λ (done : PublisherTables × Uploaded). OwnValues done.0 × Unit {0}) (upload_refusal publication judge now m p) (tables_after_upload publication judge m decisions q, record { seq = m.seq; received = max m.to (judge.received m.site.0) })
      (λ fine. (upload-by publication judge m decisions q (brings_news judge m) items fit w, tt))

  pub values-ranged : (judge : PublisherJudge) (m : RangeAsk) → IfOk (ranges publication judge now m p) (λ done. OwnValues done.0 × Unit {0})
  values-ranged judge m = (let w = moved now p low v in
      unless-ok (λ (done : PublisherTables × Ranged). OwnValues done.0 × Unit {0}) (ranges_refusal publication judge now m p) (with_grants (plans publication m p) (at_moment now p), reply_to_ranges m (plans publication m p))
      (λ fine. (record { rows = w.rows; conflicts = w.conflicts; latest = w.latest }, tt)))

  pub values-asked : (judge : PublisherJudge) (m : Download) → IfOk (download publication judge now m p) (λ done. OwnValues done.0 × AllByRecursion (λ (item : DownloadItem). OrderIsTyped item.act) done.1.items)
  values-asked judge m =
      let after : PublisherTables = tables_after_download m (at_moment now p) in
      let w = moved now p low v in
      unless-ok (λ (done : PublisherTables × Downloaded). OwnValues done.0 × AllByRecursion (λ (item : DownloadItem). OrderIsTyped item.act) done.1.items) (download_refusal publication now m p) (after, reply_to publication judge m after)
      (λ fine. (record { rows = w.rows; conflicts = w.conflicts; latest = w.latest }, orders-are after _ w.rows))
