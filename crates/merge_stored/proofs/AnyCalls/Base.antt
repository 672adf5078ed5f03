-- What every call of the publisher keeps of counters, rows, mappings, conflicts and closed generations.
use Rattle.std.specs.List.{AllByRecursion, zip}
use Rattle.std.specs.Option.{option_to_list}
use Rattle.std.specs.Prelude.{Bool, List, None, Ok, Option, Some, [], false, if◌then◌else◌, length, map, nat_le, not, option_map, refl, true, ℕ, ◌++◌, ◌+◌, ◌-◌, ◌<◌, ◌^◌, ◌≡◌, ◌≤◌, ◌∷◌}
use Rattle.std.specs.List.{range_with_len}
use Rattle.std.specs.Prelude.{suc, zero}
use Rattle.std.proofs.Common.{arith, subst}
use Rattle.std.proofs.lemmas.List.{length-map}
use Rattle.std.proofs.lemmas.List.Elements.{recursion_from_All}
use Rattle.merge_types.specs.Limits.{counter_limit, entry_limit, item_limit, number_limit}
use Rattle.merge_types.specs.RowKeys.{key_cmp}
use Rattle.merge_types.specs.declared.changes.Change.{Change}
use Rattle.merge_types.specs.declared.changes.Change.TheVariants.{Delete, Insert, Update}
use Rattle.merge_types.specs.declared.identifiers.Dot.{Dot}
use Rattle.merge_types.specs.declared.identifiers.Moment.{Moment}
use Rattle.merge_types.specs.declared.row_key.RowKey.{RowKey as Key}
use Rattle.merge_units.specs.declared.result.Decision.{Decision}
use Rattle.merge_units.specs.declared.site_row.PublisherRow.{PublisherRow}
use Rattle.merge_units.specs.declared.version.Version.{Version}
use Rattle.merge_gens.specs.Book.{closing_at, closings_between}
use Rattle.merge_gens.specs.Filling as fill
use Rattle.merge_gens.specs.declared.closings.Closing.{Closing}
use Rattle.merge_gens.specs.declared.filling.Filling.{Filling}
use Rattle.merge_gens.specs.declared.moves.Mapping.{Mapping}
use Rattle.merge_gens.specs.declared.moves.RowSite.{RowSite}
use Rattle.merge_conflict.specs.declared.row.ConflictRow.{ConflictRow}
use Rattle.merge_schema.specs.Valid.{IsValid}
use Rattle.merge_schema.specs.declared.publication.Publication.{Publication}
use Rattle.merge_batch.specs.Articles.{has_article}
use Rattle.merge_batch.specs.Known.{Known}
use Rattle.merge_batch.specs.Laws.{IsValidItem}
use Rattle.merge_batch.specs.LocalChanges.{article_of, change_refusal, key_of, version_after}
use Rattle.merge_batch.specs.declared.request.Join.{Join}
use Rattle.merge_batch.specs.declared.request.Upload.{Upload}
use Rattle.merge_batch.specs.declared.request.UploadItem.{UploadItem}
use Rattle.merge_keeper.specs.SubscriberRules.{Numbered}
use Rattle.merge_model.specs.Judge.{PublisherJudge}
use Rattle.merge_model.specs.Publisher.Acts.{Act, acting_items, acts_of, changes_by, key_of_item, lost_from}
use Rattle.merge_model.specs.Publisher.Entries.{Changing, changed_by, changing_entries, entry_count, with_rows}
use Rattle.merge_model.specs.Publisher.{at_moment, counters, last_closed, tables_after_close}
use Rattle.merge_model.specs.Publisher.PublisherJoin.{is_left_of, join_taken}
use Rattle.merge_model.specs.Publisher.PublisherLocal.{Drawn, changing_locally, draw_for_change, local_refusal, made_locally, next_dot, version_at, with_draw}
use Rattle.merge_model.specs.Publisher.PublisherPurge.{cutoff, is_old_left, is_old_tombstone, purge}
use Rattle.merge_model.specs.Publisher.PublisherUpload.{changing_by, taken_in, upload_refusal, tables_after_upload, brings_news, with_acts}
use Rattle.merge_model.specs.Tables.Keys.{put_row, row_at}
use Rattle.merge_model.specs.Tables.Refusals.{counter_end}
use Rattle.merge_model.specs.Tables.{PublisherTables}
use Rattle.merge_model.specs.World.Faults.{known_by}
use Rattle.merge_model.specs.World.Steps.{kept_decisions, upload_questions}
use Rattle.merge_model.specs.World.{Saying}
use Rattle.merge_model.proofs.Entries.EntryLists.{all-put}
use Rattle.merge_model.proofs.Lists.Finding.{all-weaker}
use Rattle.merge_model.proofs.Lists.KeyLookUps.{keys-tied}
use Rattle.merge_model.proofs.Lists.{OfSome, all-append, all-filter}
use Rattle.merge_model.proofs.Runs.Refusals.{first-none}
use Rattle.merge_typed.proofs.Calls.{ok-of}
use Rattle.merge_owed.proofs.Decided.{upload-counts}
use Rattle.merge_honest.proofs.Bounded.{closed-up as closed-one, publisher-low}
use Rattle.merge_honest.proofs.UploadCounts.{upload-few, upload-items}
use Rattle.merge_stored.proofs.ConflictLists.{acts-few, acts-numbered, numbered-append}
use Rattle.merge_stored.proofs.HeldKeys.{HasKeys}
use Rattle.merge_stored.proofs.Outstanding.{closed-up}
use Rattle.merge_stored.proofs.PublisherConflicts.{UploadPassed, conflicts-low, upload-passed}
use Rattle.merge_stored.proofs.PublisherRowsLoad.{MoveFits}
use Rattle.merge_stored.proofs.AnyCalls.Acts.{ActIs, KeyStands, LostStands, acts-are, acts-stand, all-lost, found-row, keys-stand}
use Rattle.merge_stored.proofs.AnyCalls.Counters.{closed-low}
use Rattle.merge_stored.proofs.AnyCalls.Items.{item-stands}
use Rattle.merge_stored.proofs.AnyCalls.LocalRows.{IsWhole, TakesWhole, after-stands, draw-whole}
use Rattle.merge_stored.proofs.AnyCalls.Moves.{moves-changed}
use Rattle.merge_stored.proofs.AnyCalls.Versions.{RowStands, most, row-later}

-- Closed generations.

abbrev pub ClosingIs : ℕ → Closing → Type 0
ClosingIs last closing = (1 ≤ closing.generation) × (closing.generation ≤ last)

between-are : (moment : Moment) (last from count : ℕ) → 1 ≤ from → from + count ≤ last + 1 → AllByRecursion (ClosingIs last) (map (closing_at moment) (range_with_len from count))
between-are moment last from zero one low = tt
between-are moment last from (suc count) one low = ((one, (let here : from ≤ last = omega (arith, low) in here)), between-are moment last (from + 1) count (omega arith) (omega (arith, low)))

closings-later : (last later : ℕ) (closings : List Closing) → last ≤ later → AllByRecursion (ClosingIs last) closings → AllByRecursion (ClosingIs later) closings
closings-later last later closings up all = all-weaker (ClosingIs last) (ClosingIs later) (λ closing is. (is.0, (let low = is.1 in omega (arith, low, up)))) closings all

moved-closings : (from to : ℕ) (moment : Moment) (closings : List Closing) → from ≤ to → AllByRecursion (ClosingIs from) closings → AllByRecursion (ClosingIs to) (closings ++ closings_between from to moment)
moved-closings from to moment closings up all =
    all-append (ClosingIs to) closings (closings_between from to moment) (closings-later from to closings up all) (between-are moment to (from + 1) (to - from) (omega arith) (omega (arith, up)))

entered-up : (filling : Filling) (count : ℕ) → filling.last_closed ≤ (fill.filled_by filling count).last_closed
entered-up filling count = omega arith

module _ (publication : Publication) where
  abbrev pub RowIs : ℕ → Key × PublisherRow → Type 0
  RowIs changes row = RowStands publication changes row.0 row.1.version

  abbrev VersionIs : ℕ → Key × Version → Type 0
  VersionIs changes row = RowStands publication changes row.0 row.1

  pub record Base (p : PublisherTables) : Type 0 where
    pub changes : p.changes < number_limit
    pub closed : last_closed p < number_limit
    pub conflict_count : p.conflict_count < number_limit
    pub rows : AllByRecursion (RowIs p.changes) p.rows
    pub moves : AllByRecursion (MoveFits publication) p.mappings
    pub lost : AllByRecursion (LostStands publication) p.conflicts
    pub numbered : Numbered p.conflict_count 0 p.conflicts
    pub closings : AllByRecursion (ClosingIs (last_closed p)) p.gens.closings

  -- The small steps.

  pub at-base : (now : Moment) (p : PublisherTables) → Base p → Base (at_moment now p)
  at-base now p b = record { changes = b.changes; closed = b.closed; conflict_count = b.conflict_count; rows = b.rows; moves = b.moves; lost = b.lost; numbered = b.numbered; closings = b.closings }

  pub closed-base : (p : PublisherTables) → last_closed p < counter_limit → Base p → Base (tables_after_close p)
  closed-base p low b = record {
    changes = b.changes;
    closed = (let one = closed-one p.gens.filling in omega (arith, one, low));
    conflict_count = b.conflict_count;
    rows = b.rows;
    moves = b.moves;
    lost = b.lost;
    numbered = b.numbered;
    closings = moved-closings p.gens.filling.last_closed (fill.filling_after_close p.gens.filling).last_closed p.latest p.gens.closings (closed-up p.gens.filling) b.closings;
  }

  pub join-base : (m : Join) (p : PublisherTables) (b : Bool) → Base p → Base (if b then join_taken m p else p)
  join-base m p true b = record {
    changes = b.changes;
    closed = b.closed;
    conflict_count = b.conflict_count;
    rows = b.rows;
    moves = all-filter (MoveFits publication) (λ (entry : RowSite × Mapping). not (is_left_of m.site entry)) p.mappings b.moves;
    lost = b.lost;
    numbered = b.numbered;
    closings = b.closings;
  }
  join-base m p false b = b

  pub purge-base : (now : Moment) (p : PublisherTables) → Base p → Base (purge publication now p).0
  purge-base now p b = record {
    changes = b.changes;
    closed = b.closed;
    conflict_count = b.conflict_count;
    rows = all-filter (RowIs p.changes) (λ (row : Key × PublisherRow). not (is_old_tombstone publication (at_moment now p) row)) p.rows b.rows;
    moves = all-filter (MoveFits publication) (λ (entry : RowSite × Mapping). not (is_old_left publication (at_moment now p) entry)) p.mappings b.moves;
    lost = b.lost;
    numbered = b.numbered;
    closings = all-filter (ClosingIs (last_closed p)) (λ (c : Closing). nat_le (cutoff publication (at_moment now p)).0 c.moment.0) p.gens.closings b.closings;
  }

  -- Rows with versions.

  rows-put : (changes : ℕ) (changed : List ((Key × Version) × ℕ)) (rows : List (Key × PublisherRow)) → AllByRecursion (RowIs changes) rows → AllByRecursion (λ (x : (Key × Version) × ℕ). VersionIs changes x.0) changed → AllByRecursion (RowIs changes) (with_rows rows changed)
  rows-put changes [] rows all new = all
  rows-put changes (x ∷ changed) rows all new =
      let row : PublisherRow = record { version = x.0.1; changed = x.1 } in
      rows-put changes changed (put_row rows x.0.0 row) (all-put (RowIs changes) key_cmp x.0.0 row (λ q tied. subst (λ (key : Key). RowStands publication changes key x.0.1) (keys-tied x.0.0 q tied) new.0) new.0 rows all) new.1

  zip-all : (changes : ℕ) (versions : List (Key × Version)) (generations : List ℕ) → AllByRecursion (VersionIs changes) versions → AllByRecursion (λ (x : (Key × Version) × ℕ). VersionIs changes x.0) (zip versions generations)
  zip-all changes [] generations all = tt
  zip-all changes (version ∷ versions) [] all = tt
  zip-all changes (version ∷ versions) (generation ∷ generations) all = (all.0, zip-all changes versions generations all.1)

  later-rows : (changes later : ℕ) (rows : List (Key × PublisherRow)) → changes ≤ later → AllByRecursion (RowIs changes) rows → AllByRecursion (RowIs later) rows
  later-rows changes later rows up all = all-weaker (RowIs changes) (RowIs later) (λ row is. row-later publication changes later up row.0 row.1.version is) rows all

  module _ (resolvers : ℕ) (valid : IsValid resolvers publication) where
    -- what a step needs of the tables
    pub record HasRoom (q : PublisherTables) : Type 0 where
      pub unfilled : q.gens.filling.filled < entry_limit
      pub closed : last_closed q < counter_limit
      pub rows : length q.rows < 2 ^ 64

    changed-base : (judge : PublisherJudge) (changing : Changing) (q : PublisherTables) → Base q → HasRoom q → length changing.versions ≤ item_limit → length changing.acted ≤ item_limit → AllByRecursion (VersionIs q.changes) changing.versions → AllByRecursion (KeyStands publication) changing.acted
        → Base (changed_by publication judge changing q)
    changed-base judge changing q b room versions acted new keys =
        let generations : List ℕ = map (λ (entry : Key × ℕ). entry.1) (changing_entries publication judge changing q).changed in
        let count : ℕ = entry_count (changing_entries publication judge changing q) in
        record {
          changes = b.changes;
          closed = closed-low publication valid.few_subscriptions judge changing q room.rows versions acted room.unfilled room.closed;
          conflict_count = b.conflict_count;
          rows = rows-put q.changes (zip changing.versions generations) q.rows b.rows (zip-all q.changes changing.versions generations new);
          moves = moves-changed resolvers publication valid judge changing q (all-weaker (RowIs q.changes) (λ (row : Key × PublisherRow). KeyStands publication row.0) (λ row is. (is.stands.key_fits, is.stands.exists)) q.rows b.rows)
              (all-weaker (VersionIs q.changes) (λ (row : Key × Version). KeyStands publication row.0) (λ row is. (is.stands.key_fits, is.stands.exists)) changing.versions new) keys b.moves;
          lost = b.lost;
          numbered = b.numbered;
          closings = moved-closings q.gens.filling.last_closed (fill.filled_by q.gens.filling count).last_closed q.latest q.gens.closings (entered-up q.gens.filling count) b.closings;
        }

    -- A local change.

    held-some : (p : PublisherTables) (key : Key) (found : Option PublisherRow) → AllByRecursion (RowIs p.changes) p.rows → row_at p.rows key ≡ found → OfSome (RowStands publication p.changes key) (option_map (λ (row : PublisherRow). row.version) found)
    held-some p key None rows at = tt
    held-some p key (Some held) rows at = found-row (λ (k : Key) (row : PublisherRow). RowStands publication p.changes k row.version) p.rows key held rows at

    one-version : (changes : ℕ) (key : Key) (found : Option Version) → OfSome (RowStands publication changes key) found → AllByRecursion (VersionIs changes) (map (λ (version : Version). (key, version)) (option_to_list found))
    one-version changes key None stands = tt
    one-version changes key (Some version) stands = (stands, tt)

    one-long : (key : Key) (found : Option Version) → (let versions : List (Key × Version) = map (λ (version : Version). (key, version)) (option_to_list found) in length versions ≤ item_limit)
    one-long key None = omega arith
    one-long key (Some version) = omega arith

    takes-whole : (p : PublisherTables) (change : Change) (d : Drawn) → HasKeys publication p.held → draw_for_change publication p change ≡ Ok d → TakesWhole publication change d.value
    takes-whole p (Insert article settings) d keys is = λ some. ok-of IsWhole (draw_for_change publication p (Insert article settings)) d (draw-whole publication p article settings keys some) is
    takes-whole p (Update article row settings) d keys is = tt
    takes-whole p (Delete article row) d keys is = tt

    pub made-base : (judge : PublisherJudge) (now : Moment) (change : Change) (p : PublisherTables) (d : Drawn) → has_article publication (article_of change) ≡ true → Base p → p.gens.filling.filled < entry_limit → length p.rows < 2 ^ 64 → HasKeys publication p.held
        → local_refusal publication change p ≡ None → draw_for_change publication p change ≡ Ok d → Base (made_locally publication judge change d (at_moment now p)).0
    made-base judge now change p d exists b unfilled rows keys fine is =
        let counted = first-none (counter_end (counters p)) _ fine in
        let refused = first-none (change_refusal publication (next_dot p) change (version_at p (key_of (next_dot p) change)) (length p.rows)) _ counted.1 in
        let low = publisher-low p counted.0 in
        let changes = low.0 in
        let dot : Dot = next_dot p in
        let key : Key = key_of dot change in
        let held = held-some p key (row_at p.rows key) b.rows refl in
        let after = after-stands resolvers publication valid p.changes changes change d.value (version_at p key) (length p.rows) exists refused.0 (takes-whole p change d keys is) held in
        let found : Option Version = version_after publication dot d.value change (version_at p key) in
        let q : PublisherTables = with_draw d (at_moment now p) in
        let base : Base q = record {
          changes = omega (arith, changes);
          closed = b.closed;
          conflict_count = b.conflict_count;
          rows = later-rows p.changes (p.changes + 1) p.rows (omega arith) b.rows;
          moves = b.moves;
          lost = b.lost;
          numbered = b.numbered;
          closings = b.closings;
        } in
        changed-base judge (changing_locally publication change d.value (at_moment now p)) q base (record { unfilled = unfilled; closed = low.1; rows = rows }) (one-long key found) (omega arith) (one-version (p.changes + 1) key found after) tt

    -- An upload.

    module _ (judge : PublisherJudge) (says : Saying) (tallies : List ℕ) (now : Moment) (m : Upload) (p : PublisherTables) (b : Base p) (unfilled : p.gens.filling.filled < entry_limit) (rows : length p.rows < 2 ^ 64) (fine : upload_refusal publication judge now m p ≡ None) where
      abbrev here : PublisherTables
      here = at_moment now p

      abbrev decisions : List Decision
      decisions = kept_decisions says tallies (upload_questions publication judge now m p)

      abbrev acts : List Act
      acts = acts_of judge m decisions here

      passed : UploadPassed publication judge m p
      passed = upload-passed publication judge now m p fine

      few-changes : p.changes ≤ most
      few-changes = (let low = b.changes in omega (arith, low))

      items : AllByRecursion (λ (item : UploadItem). RowStands publication p.changes (key_of_item item) item.version) (acting_items judge m)
      items =
          let known : Known = known_by publication judge p in
          all-filter (λ (item : UploadItem). RowStands publication p.changes (key_of_item item) item.version) (λ (item : UploadItem). not (judge.has_acted m.site.0 item.generation)) m.items
          (all-weaker (IsValidItem publication known m) (λ (item : UploadItem). RowStands publication p.changes (key_of_item item) item.version) (λ item is. item-stands resolvers publication valid known m item is) m.items (recursion_from_All (IsValidItem publication known m) m.items passed.valid.items))

      are : AllByRecursion (ActIs publication) acts
      are = acts-are publication resolvers valid judge m.site here few-changes b.rows (p.changes + 1) decisions (acting_items judge m) items

      abbrev lost : List ConflictRow
      lost = lost_from publication m.site here.latest (p.conflict_count + 1) acts

      taken-base : Base (taken_in publication judge m acts here)
      taken-base =
          let low = publisher-low p passed.counted in
          let changes = low.0 in
          let conflicts = conflicts-low p passed.counted in
          let counts = upload-items publication judge m decisions p here.latest passed.sound in
          let made = upload-few publication judge m decisions p here passed.sound in
          let keys = length-map acts (λ (act : Act). act.key) in
          let acted = counts.acted in
          let two = acts-few publication m.site here.latest (p.conflict_count + 1) acts in
          let later : p.changes ≤ p.changes + changes_by acts = omega arith in
          let base : Base (with_acts publication m acts here) = record {
            changes = omega (arith, changes, made);
            closed = b.closed;
            conflict_count = omega (arith, conflicts, keys, acted, two);
            rows = later-rows p.changes (p.changes + changes_by acts) p.rows later b.rows;
            moves = b.moves;
            lost = all-append (LostStands publication) p.conflicts lost b.lost (all-lost publication m.site here.latest passed.subscribes (p.conflict_count + 1) acts are);
            numbered = numbered-append 0 p.conflict_count (p.conflict_count + length lost) p.conflicts lost b.numbered (acts-numbered publication m.site here.latest p.conflict_count (p.conflict_count + 1) acts refl);
            closings = b.closings;
          } in
          changed-base judge (changing_by m acts) (with_acts publication m acts here) base (record { unfilled = unfilled; closed = low.1; rows = rows }) counts.versions counts.acted
          (acts-stand publication resolvers valid judge m.site here few-changes b.rows (acting_items judge m) decisions items (upload-counts publication judge says tallies m here)) (keys-stand publication acts are)

      news-base : (news : Bool) → Base (if news then taken_in publication judge m acts here else here)
      news-base true = taken-base
      news-base false = at-base now p b

      pub upload-base : Base (tables_after_upload publication judge m decisions here)
      upload-base = news-base (brings_news judge m)
