-- Every call of the publisher that is not refused keeps how many rows it holds and how far its counters stand.
use Rattle.std.specs.List.Sorted.{IsStrictlySortedBy}
use Rattle.std.specs.Map.{keys_of}
use Rattle.std.specs.Option.{option_to_list}
use Rattle.std.specs.Prelude.{Bool, Err, IfOk, List, None, Ok, Option, Result, Some, [], count_by, false, if◌then◌else◌, is_some, length, map, nat_lt, not, option_map, pos, refl, true, ℕ, ◌+◌, ◌<◌, ◌≡◌, ◌≤◌}
use Rattle.std.proofs.Common.{ap, arith, sym, ◌∙◌}
use Rattle.std.proofs.lemmas.Bool.Decides.{nat_tests}
use Rattle.merge_table.proofs.Puts.{sorted-filter}
use Rattle.merge_types.specs.Limits.{counter_limit, entry_limit, item_limit, rows_limit}
use Rattle.merge_types.specs.RowKeys.{key_cmp, key_exact}
use Rattle.merge_types.specs.declared.changes.Change.{Change}
use Rattle.merge_types.specs.declared.changes.Change.TheVariants.{Delete, Insert, Update}
use Rattle.merge_types.specs.declared.identifiers.Dot.{Dot}
use Rattle.merge_types.specs.declared.identifiers.Moment.{Moment}
use Rattle.merge_types.specs.declared.identifiers.RowId.{RowId}
use Rattle.merge_types.specs.declared.row_key.RowKey.{RowKey as Key}
use Rattle.merge_types.specs.declared.values.Value.{Value}
use Rattle.merge_types.specs.declared.values.Value.TheVariants.{Int}
use Rattle.merge_units.specs.declared.result.Decision.{Decision}
use Rattle.merge_units.specs.declared.site_row.PublisherRow.{PublisherRow}
use Rattle.merge_units.specs.declared.version.Version.{Version}
use Rattle.merge_schema.specs.declared.publication.Publication.{Publication}
use Rattle.merge_batch.specs.declared.refusal.Refusal.{Refusal}
use Rattle.merge_batch.specs.declared.refusal.Refusal.TheVariants.{Gap, TooManyRows, WrongWatermark}
use Rattle.merge_batch.specs.declared.reply.Uploaded.{Uploaded}
use Rattle.merge_batch.specs.declared.request.Download.{Download}
use Rattle.merge_batch.specs.declared.request.Upload.{Upload}
use Rattle.merge_model.specs.Publisher.Acts.{Act, acts_of}
use Rattle.merge_model.specs.Tables.Changes.{article_of, change_refusal, key_of, long_row, long_value, no_row, sets_identity, settings_of, too_many_rows, version_after, wrong_type}
use Rattle.merge_model.specs.Publisher.Entries.{Changing, changed_by}
use Rattle.merge_model.specs.World.Faults.{upload_fault}
use Rattle.merge_model.specs.Judge.{PublisherJudge}
use Rattle.merge_model.specs.Tables.Keys.{row_at}
use Rattle.merge_model.specs.Tables.Publications.{identity_column, types_at}
use Rattle.merge_model.specs.Publisher.{at_moment, counters, last_closed, site_refusal, tables_after_close}
use Rattle.merge_model.specs.Publisher.PublisherDownload.{download_refusal, reply_to, tables_after_download}
use Rattle.merge_model.specs.Publisher.PublisherLocal.{Drawn, changing_locally, draw_for_change, local_refusal, made_locally, next_dot, version_at, with_draw}
use Rattle.merge_model.specs.Publisher.PublisherPurge.{is_old_tombstone}
use Rattle.merge_model.specs.Publisher.PublisherUpload.{brings_news, changing_by, tables_after_upload, taken_in, too_many_new, upload_refusal, with_acts}
use Rattle.merge_model.specs.Tables.Refusals.{counter_end, refused_if, unless}
use Rattle.merge_model.specs.World.Steps.{Action, step_by}
use Rattle.merge_model.specs.Tables.{PublisherTables}
use Rattle.merge_model.specs.World.{Judges, Saying, World}
use Rattle.merge_model.proofs.Publishers.PublisherSteps.{step-holds}
use Rattle.merge_model.proofs.Publishers.{join-ok, ranges-ok}
use Rattle.merge_model.proofs.Runs.Refusals.{first-none}
use Rattle.merge_model.proofs.Publishers.Sorted.{key_total}
use Rattle.merge_honest.specs.Bounded.{PublisherIsBounded}
use Rattle.merge_honest.proofs.Bounded.{closed-unfilled, closed-up, publisher-low}
use Rattle.merge_honest.proofs.RowCounts.{ascends-after, closings-few, is_fresh, rows-after}
use Rattle.merge_honest.proofs.UploadCounts.{filter-short, upload-few, upload-items}

-- with what each step needs of the tables: rows in order, and an open generation that is not full
abbrev pub Within : PublisherTables → Type 0
Within p = PublisherIsBounded p × IsStrictlySortedBy key_cmp (keys_of p.rows) × (p.gens.filling.filled < entry_limit)

-- a step that is made where nothing refuses
made-where : {A : Type 0} (P : A → Type 0) (refusal : Option Refusal) (a : A) → (refusal ≡ None → P a) → IfOk (unless refusal a) P
made-where P (Some why) a each = tt
made-where P None a each = each refl

-- A step that gives rows versions.

module _ (publication : Publication) (few : length publication.subscriptions ≤ 63) where
  changed-within : (judge : PublisherJudge) (changing : Changing) (p : PublisherTables) → Within p → last_closed p < counter_limit → p.changes ≤ counter_limit + item_limit → length changing.versions ≤ item_limit → length changing.acted ≤ item_limit
      → length p.rows + count_by (λ (v : Key × Version). is_fresh p.rows v.0) changing.versions ≤ rows_limit → Within (changed_by publication judge changing p)
  changed-within judge changing p k low changes versions acted rows =
      let more = rows-after publication few judge changing p k.1 in (
        record {
          changes = changes;
          closed = closings-few publication few judge changing p k.0.rows versions acted k.2 low;
          rows = omega (arith, more, rows);
        },
        ascends-after publication few judge changing p k.1,
        omega arith,
      )

-- Local changes.

abbrev local_versions : Key → Option Version → List (Key × Version)
local_versions key found = map (λ (version : Version). (key, version)) (option_to_list found)

local-one : (key : Key) (found : Option Version) → length (local_versions key found) ≤ 1
local-one key None = omega arith
local-one key (Some version) = omega arith

fresh-one : (rows : List (Key × PublisherRow)) (key : Key) (found : Option Version) → count_by (λ (v : Key × Version). is_fresh rows v.0) (local_versions key found) ≤ 1
fresh-one rows key None = omega arith
fresh-one rows key (Some version) = grind (arith, nat_tests)

none-one : (rows : List (Key × PublisherRow)) (key : Key) (found : Option Version) → (is_some found ≡ true → is_fresh rows key ≡ false) → count_by (λ (v : Key × Version). is_fresh rows v.0) (local_versions key found) ≤ 0
none-one rows key None held = omega arith
none-one rows key (Some version) held = (let known = held refl in grind (arith, nat_tests, known))

-- a row that is not held has no version that an update or a delete goes on from
held-before : (made : Option Version → Option Version) (found : Option PublisherRow) → made None ≡ None → is_some (made (option_map (λ (row : PublisherRow). row.version) found)) ≡ true → not (is_some found) ≡ false
held-before made None none is = absurd (let no : false ≡ true = ap (λ (x : Option Version). is_some x) (sym none) ∙ is in cc)
held-before made (Some row) none is = refl

few-rows : (rows : ℕ) → refused_if (nat_lt rows_limit (rows + 1)) (TooManyRows (rows + 1)) ≡ None → rows + 1 ≤ rows_limit
few-rows rows none = grind (arith, nat_tests, none)

room-left : (publication : Publication) (dot : Dot) (change : Change) (held : Option Version) (rows : ℕ) → change_refusal publication dot change held rows ≡ None → too_many_rows change rows ≡ None
room-left publication dot change held rows none =
    let first = first-none (no_row change held) _ none in
    let second = first-none (sets_identity (settings_of change) (identity_column publication (article_of change))) _ first.1 in
    let third = first-none (wrong_type (types_at publication (article_of change)) (settings_of change)) _ second.1 in
    let fourth = first-none (long_value (settings_of change)) _ third.1 in
    let fifth = first-none (long_row (version_after publication dot (Int (pos 0)) change held)) _ fourth.1 in
    (first-none (too_many_rows change rows) [] fifth.1).0

local-rows : (publication : Publication) (change : Change) (value : Value) (p : PublisherTables) → length p.rows ≤ rows_limit → too_many_rows change (length p.rows) ≡ None
    → length p.rows + count_by (λ (v : Key × Version). is_fresh p.rows v.0) (local_versions (key_of (next_dot p) change) (version_after publication (next_dot p) value change (version_at p (key_of (next_dot p) change)))) ≤ rows_limit
local-rows publication (Insert article values) value p up none =
    let one = fresh-one p.rows (key_of (next_dot p) (Insert article values)) (version_after publication (next_dot p) value (Insert article values) (version_at p (key_of (next_dot p) (Insert article values)))) in
    let room = few-rows (length p.rows) none in
    omega (arith, one, room)
local-rows publication (Update article row values) value p up none =
    let made : Option Version → Option Version = version_after publication (next_dot p) value (Update article row values) in
    let key : Key = record { article = article; row = row } in
    let no = none-one p.rows key (made (version_at p key)) (λ is. held-before made (row_at p.rows key) refl is) in
    omega (arith, no, up)
local-rows publication (Delete article row) value p up none =
    let made : Option Version → Option Version = version_after publication (next_dot p) value (Delete article row) in
    let key : Key = record { article = article; row = row } in
    let no = none-one p.rows key (made (version_at p key)) (λ is. held-before made (row_at p.rows key) refl is) in
    omega (arith, no, up)

module _ (publication : Publication) (few : length publication.subscriptions ≤ 63) where
  made-within : (judge : PublisherJudge) (now : Moment) (change : Change) (p : PublisherTables) (d : Drawn) → Within p → local_refusal publication change p ≡ None → Within (made_locally publication judge change d (at_moment now p)).0
  made-within judge now change p d k none =
      let counted = first-none (counter_end (counters p)) _ none in
      let refused = first-none (change_refusal publication (next_dot p) change (version_at p (key_of (next_dot p) change)) (length p.rows)) _ counted.1 in
      let low = publisher-low p counted.0 in
      let changes = low.0 in
      let one = local-one (key_of (next_dot p) change) (version_after publication (next_dot p) d.value change (version_at p (key_of (next_dot p) change))) in
      let q : PublisherTables = with_draw d (at_moment now p) in
      changed-within publication few judge (changing_locally publication change d.value (at_moment now p)) q
      (record { changes = omega (arith, changes); closed = k.0.closed; rows = k.0.rows }, k.1, k.2) low.1 (omega (arith, changes)) (omega (arith, one)) (omega arith)
      (local-rows publication change d.value p k.0.rows (room-left publication (next_dot p) change (version_at p (key_of (next_dot p) change)) (length p.rows) refused.0))

  drawn-within : (judge : PublisherJudge) (now : Moment) (change : Change) (p : PublisherTables) (draw : Result Drawn Refusal) → Within p → local_refusal publication change p ≡ None
      → (let done : Result (PublisherTables × RowId) Refusal = elim draw [ Err refusal ↦ Err refusal | Ok d ↦ Ok (made_locally publication judge change d (at_moment now p)) ] in IfOk done (λ a. Within a.0))
  drawn-within judge now change p (Err refusal) k none = tt
  drawn-within judge now change p (Ok d) k none = made-within judge now change p d k none

  local-within : (judge : PublisherJudge) (now : Moment) (change : Change) (p : PublisherTables) (refusal : Option Refusal) → local_refusal publication change p ≡ refusal → Within p
      → (let done : Result (PublisherTables × RowId) Refusal = elim refusal [
        | Some why ↦ Err why
        | None ↦ elim (draw_for_change publication p change) [ Err why ↦ Err why | Ok d ↦ Ok (made_locally publication judge change d (at_moment now p)) ]
      ] in IfOk done (λ a. Within a.0))
  local-within judge now change p (Some why) is k = tt
  local-within judge now change p None is k = drawn-within judge now change p (draw_for_change publication p change) k is

  -- Closings.

  closed-within : (now : Moment) (p : PublisherTables) → Within p → counter_end (counters p) ≡ None → Within (tables_after_close (at_moment now p))
  closed-within now p k none =
      let low = (publisher-low p none).1 in
      let up = closed-up p.gens.filling in
      (record { changes = k.0.changes; closed = omega (arith, low, up); rows = k.0.rows }, k.1, closed-unfilled p.gens.filling)

  asked-within : (now : Moment) (m : Download) (p : PublisherTables) → Within p → download_refusal publication now m p ≡ None → Within (tables_after_download m (at_moment now p))
  asked-within now m p k none =
      let site = first-none (site_refusal publication m.site m.seq now p) _ none in
      let mark = first-none (refused_if (nat_lt (last_closed p) m.from) (WrongWatermark m.from (last_closed p))) _ site.1 in
      let all = closed-within now p k (first-none (counter_end (counters p)) _ mark.1).0 in
      (record { changes = all.0.changes; closed = all.0.closed; rows = all.0.rows }, all.1, all.2)

  -- Uploads.

  upload-within : (judge : PublisherJudge) (now : Moment) (m : Upload) (decisions : List Decision) (p : PublisherTables) (b : Bool) → Within p → upload_refusal publication judge now m p ≡ None
      → (let q : PublisherTables = if b then taken_in publication judge m (acts_of judge m decisions (at_moment now p)) (at_moment now p) else at_moment now p in Within q)
  upload-within judge now m decisions p false k none = (record { changes = k.0.changes; closed = k.0.closed; rows = k.0.rows }, k.1, k.2)
  upload-within judge now m decisions p true k none =
      let site = first-none (site_refusal publication m.site m.seq now p) _ none in
      let gap = first-none (refused_if (judge.is_gap m.site.0 m.from) (Gap m.from (judge.received m.site.0))) _ site.1 in
      let fault = first-none (upload_fault publication judge m p) _ gap.1 in
      let many = first-none (too_many_new (acts_of judge m [] p) p) _ fault.1 in
      let low = publisher-low p (first-none (counter_end (counters p)) _ many.1).0 in
      let changes = low.0 in
      let q : PublisherTables = at_moment now p in
      let acts : List Act = acts_of judge m decisions q in
      let made = upload-few publication judge m decisions p q fault.0 in
      let items = upload-items publication judge m decisions p q.latest fault.0 in
      let after : PublisherTables = with_acts publication m acts q in
      changed-within publication few judge (changing_by m acts) after (record { changes = omega (arith, changes, made); closed = k.0.closed; rows = k.0.rows }, k.1, k.2) low.1 (omega (arith, changes, made))
      items.versions items.acted (items.rows k.0.rows many.0)

  pub step-within : (says : Saying) (judges : Judges) (w : World) (action : Action) → Within w.publisher → Within (step_by publication says judges w action).0.publisher
  step-within says judges w action k = step-holds publication Within
      (λ judge now change p k. local-within judge now change p (local_refusal publication change p) refl k)
      (λ now p k. made-where (λ (done : PublisherTables × ℕ). Within done.0) (counter_end (counters p)) (tables_after_close (at_moment now p), last_closed (tables_after_close (at_moment now p))) (λ none. closed-within now p k none))
      (λ now m p k. join-ok Within publication now m p (record { changes = k.0.changes; closed = k.0.closed; rows = k.0.rows }, k.1, k.2) (record { changes = k.0.changes; closed = k.0.closed; rows = k.0.rows }, k.1, k.2))
      (λ judge now m decisions p k. made-where (λ (done : PublisherTables × Uploaded). Within done.0) (upload_refusal publication judge now m p) (tables_after_upload publication judge m decisions (at_moment now p), _) (λ none. upload-within judge now m decisions p (brings_news judge m) k none))
      (λ judge now m p k. ranges-ok Within publication judge now m p (record { changes = k.0.changes; closed = k.0.closed; rows = k.0.rows }, k.1, k.2))
      (λ judge now m p k. made-where (λ (done : PublisherTables × _). Within done.0) (download_refusal publication now m p) (tables_after_download m (at_moment now p), reply_to publication judge m (tables_after_download m (at_moment now p))) (λ none. asked-within now m p k none))
      (λ now p k. (
      let kept : Key × PublisherRow → Bool = λ (row : Key × PublisherRow). not (is_old_tombstone publication (at_moment now p) row) in
      let fewer = filter-short kept p.rows in
      let rows = k.0.rows in
      (record { changes = k.0.changes; closed = k.0.closed; rows = omega (arith, fewer, rows) }, sorted-filter key_cmp key_total key_exact kept p.rows k.1, k.2)))
      says judges w action k
