-- What a subscriber keeps of its own changes with its rows: each row's generations ascend, there is room for each in its generation, and
-- what the site has yet to discard and what it discarded are no more than its changes.
use Rattle.std.specs.List.{AllByRecursion, cons_option, fold, list_any}
use Rattle.std.specs.List.Sorted.{IsStrictlySortedBy}
use Rattle.std.specs.Map.{keys_of, remove_entry, values_of}
use Rattle.std.specs.BTreeMap.{is_at}
use Rattle.std.specs.Ordering.{match_ordering}
use Rattle.std.specs.declared.cmp.Ordering.{Ordering}
use Rattle.std.specs.declared.cmp.Ordering.TheVariants.{Equal, Greater, Less}
use Rattle.std.specs.Prelude.{Bool, List, None, Option, Some, [], cond, false, filter_map, if◌then◌else◌, length, map, nat_le, nat_lt, option_map, refl, true, unwrap_or, ℕ, ◌+◌, ◌<◌, ◌==◌, ◌≡◌, ◌≤◌, ◌∷◌}
use Rattle.std.proofs.Common.{ap, arith, subst, sym, ◌∙◌}
use Rattle.std.proofs.lemmas.Bool.Decides.{nat_tests}
use Rattle.std.proofs.lemmas.List.Sums.{sum_by-cons}
use Rattle.std.proofs.lemmas.Map.Entries.{sum_by-insert_entry, sum_by-remove_entry}
use Rattle.merge_types.specs.Limits.{entry_limit}
use Rattle.merge_types.specs.RowKeys.{key_cmp}
use Rattle.merge_types.specs.declared.identifiers.Moment.{Moment}
use Rattle.merge_types.specs.declared.row_key.RowKey.{RowKey as Key}
use Rattle.merge_units.specs.declared.site_row.SubscriberRow.{SubscriberRow}
use Rattle.merge_units.specs.declared.version.Version.{Version}
use Rattle.merge_gens.specs.Filling as fill
use Rattle.merge_gens.specs.declared.filling.Filling.{Filling}
use Rattle.merge_ident.specs.Holders.{Holder}
use Rattle.merge_schema.specs.Valid.{IsValid}
use Rattle.merge_schema.specs.declared.publication.Publication.{Publication}
use Rattle.merge_batch.specs.declared.reply.Act.{Act as Order}
use Rattle.merge_batch.specs.declared.reply.Act.TheVariants as order
use Rattle.merge_batch.specs.declared.reply.DownloadItem.{DownloadItem}
use Rattle.merge_batch.specs.declared.reply.Reply.{Reply}
use Rattle.merge_batch.specs.declared.reply.Reply.TheVariants as reply
use Rattle.merge_batch.specs.declared.request.Outstanding.{Outstanding}
use Rattle.merge_batch.specs.declared.request.Outstanding.TheVariants as ask
use Rattle.merge_record.specs.Rows.{numbers_ascend}
use Rattle.merge_model.specs.Judge.ByHistory.{by_made, is_unsent_by_made}
use Rattle.merge_model.specs.Tables.Changes.{key_of, version_after}
use Rattle.merge_model.specs.Failing.{Slips}
use Rattle.merge_model.specs.History.{History, made_at, no_history}
use Rattle.merge_model.specs.Judge.{SubscriberJudge}
use Rattle.merge_model.specs.Tables.Keys.{at_number, drop_row, put_number, put_row, row_at}
use Rattle.merge_model.specs.Laws.{SubscriberIsSorted}
use Rattle.merge_model.specs.Subscriber.Reinit.{discarded_versions, result_of_reinit}
use Rattle.merge_model.specs.Failing.Runs.{model_behind}
use Rattle.merge_model.specs.Subscriber.Sending.{upload_sent, with_message}
use Rattle.merge_model.specs.Subscriber.{subscriber_at_moment, subscriber_closed, subscriber_last_closed, subscriber_next_dot, subscriber_version_at, with_open, with_version_if}
use Rattle.merge_model.specs.Tables.{SubscriberTables}
use Rattle.merge_model.specs.Subscriber.Taking.{key_of_download, row_above, tables_after_reply, with_item, with_order}
use Rattle.merge_model.specs.World.{Saying, World, empty_world, subscriber_at}
use Rattle.merge_model.specs.declared.event.Event.{Event}
use Rattle.merge_model.proofs.Entries.EntryLists.{all-put}
use Rattle.merge_model.proofs.Lists.Finding.{all-weaker}
use Rattle.merge_model.proofs.Publishers.Sorted.{key_total}
use Rattle.merge_laws.specs.Invariants.Unsent.{RowsTell, generations_in}
use Rattle.merge_laws.proofs.Runs.Ground.{Ground, grounded-always}
use Rattle.merge_laws.proofs.Received.Models.{begins-with}
use Rattle.merge_laws.proofs.Unsent.UnsentKept.{all-found, reply-site, version-site}
use Rattle.merge_laws.proofs.Walking.{StepsKeep, step-keeps}
use Rattle.merge_model.proofs.Lists.Finding.{found-named}
use Rattle.merge_model.proofs.Lists.RowsFound.{Found, each-found}
use Rattle.merge_honest.proofs.PutFound.{put-each}
use Rattle.merge_stored.specs.Entries.{Ascends, RowsHaveRoom, room_of, times_kept, total_kept}
use Rattle.merge_stored.proofs.ConflictLists.{anew-long}
use Rattle.merge_stored.proofs.Generations.{IsWeight, kept-ascends, length-open, length-weighs, open-ascends, times-open, times-weigh}

abbrev pub Rows : Type 0
Rows = List (Key × SubscriberRow)

-- What a reply leaves of the generations that are kept.

pub record Shrinks (rows less : Rows) : Type 0 where
  pub sums : (weigh : List ℕ → ℕ) → IsWeight weigh → total_kept weigh less ≤ total_kept weigh rows
  pub ascend : AllByRecursion Ascends rows → AllByRecursion Ascends less

none-shrinks : (rows : Rows) → Shrinks rows rows
none-shrinks rows = record { sums = λ weigh is. omega arith; ascend = λ all. all }

then-shrinks : (one two three : Rows) → Shrinks one two → Shrinks two three → Shrinks one three
then-shrinks one two three a b = record { sums = λ weigh is. (let first = a.sums weigh is in let second = b.sums weigh is in omega (arith, first, second)); ascend = λ all. b.ascend (a.ascend all) }

weight-of : (weigh : List ℕ → ℕ) → SubscriberRow → ℕ
weight-of weigh row = weigh row.generations

pub total-cons : (weigh : List ℕ → ℕ) (row : Key × SubscriberRow) (rows : Rows) → total_kept weigh (row ∷ rows) ≡ weigh row.1.generations + total_kept weigh rows
total-cons weigh row rows = sum_by-cons (λ (r : SubscriberRow). weigh r.generations) row.1 (values_of rows)

pub above-shrinks : (received : ℕ) (rows : Rows) → Shrinks rows (map (row_above received) rows)
above-shrinks received [] = none-shrinks []
above-shrinks received (row ∷ rows) =
    let rest = above-shrinks received rows in
    let keep : ℕ → Bool = λ g. nat_lt received g in
    record {
      sums = λ weigh is. (let first = is.fewer keep row.1.generations in let later = rest.sums weigh is in
          let one = total-cons weigh (row_above received row) (map (row_above received) rows) in let other = total-cons weigh row rows in omega (arith, first, later, one, other));
      ascend = λ all. (kept-ascends keep row.1.generations all.0, rest.ascend all.1);
    }

-- a row that is put with no generation
put-by : (weigh : List ℕ → ℕ) (o : Ordering) (key : Key) (new : SubscriberRow) (row : Key × SubscriberRow) (rows put : Rows) → weigh new.generations ≡ 0 → total_kept weigh put ≤ total_kept weigh rows
    → (let after : Rows = match_ordering o ((key, new) ∷ row ∷ rows) ((row.0, new) ∷ rows) (row ∷ put) in total_kept weigh after ≤ total_kept weigh (row ∷ rows))
put-by weigh Less key new row rows put none rest = (let one = total-cons weigh (key, new) (row ∷ rows) in omega (arith, none, one))
put-by weigh Equal key new row rows put none rest = (let one = total-cons weigh (row.0, new) rows in let other = total-cons weigh row rows in omega (arith, none, one, other))
put-by weigh Greater key new row rows put none rest = (let one = total-cons weigh row put in let other = total-cons weigh row rows in omega (arith, rest, one, other))

put-less : (weigh : List ℕ → ℕ) (key : Key) (new : SubscriberRow) (rows : Rows) → weigh new.generations ≡ 0 → total_kept weigh (put_row rows key new) ≤ total_kept weigh rows
put-less weigh key new [] none = (let nothing : Rows = [] in let one = total-cons weigh (key, new) nothing in omega (arith, none, one))
put-less weigh key new (row ∷ rows) none = put-by weigh (key_cmp key row.0) key new row rows (put_row rows key new) none (put-less weigh key new rows none)

put-shrinks : (key : Key) (version : Version) (rows : Rows) → (let new : SubscriberRow = record { version = version; generations = [] } in Shrinks rows (put_row rows key new))
put-shrinks key version rows = (let new : SubscriberRow = record { version = version; generations = [] } in record {
  sums = λ weigh is. put-less weigh key new rows is.none;
  ascend = λ all. all-put Ascends key_cmp key new (λ q is. refl) refl rows all;
})

-- a row that is dropped
all-removed : (test : Key → Bool) (rows : Rows) → AllByRecursion Ascends rows → AllByRecursion Ascends (remove_entry test rows)
all-removed test [] all = tt
all-removed test (row ∷ rows) all = removed-by (test row.0) row rows (remove_entry test rows) all (all-removed test rows all.1)
  where
    removed-by : (b : Bool) (row : Key × SubscriberRow) (rows removed : Rows) → AllByRecursion Ascends (row ∷ rows) → AllByRecursion Ascends removed → AllByRecursion Ascends (cond b rows (row ∷ removed))
    removed-by true row rows removed all rest = all.1
    removed-by false row rows removed all rest = (all.0, rest)

drop-shrinks : (key : Key) (rows : Rows) → Shrinks rows (drop_row rows key)
drop-shrinks key rows = record {
  sums = λ weigh is. (let sums = sum_by-remove_entry (λ (r : SubscriberRow). weigh r.generations) (is_at (key_cmp key)) rows in omega (arith, sums));
  ascend = λ all. all-removed (is_at (key_cmp key)) rows all;
}

order-shrinks : (key : Key) (act : Order) (rows : Rows) → Shrinks rows (with_order key act rows)
order-shrinks key (order.Put lineage live) rows = put-shrinks key _ rows
order-shrinks key order.RemoveDeleted rows = drop-shrinks key rows
order-shrinks key order.RemoveLeft rows = drop-shrinks key rows

item-by : (b : Bool) (key : Key) (act : Order) (rows : Rows) → Shrinks rows (if b then rows else with_order key act rows)
item-by true key act rows = none-shrinks rows
item-by false key act rows = order-shrinks key act rows

pub items-shrink : (judge : SubscriberJudge) (received : ℕ) (items : List DownloadItem) (rows : Rows) → Shrinks rows (fold (with_item judge received) rows items)
items-shrink judge received [] rows = none-shrinks rows
items-shrink judge received (item ∷ items) rows =
    let next : Rows = with_item judge received rows item in
    then-shrinks rows next (fold (with_item judge received) next items) (item-by (judge.is_unsent received (key_of_download item)) (key_of_download item) item.act rows) (items-shrink judge received items next)

reply-shrinks : (judge : SubscriberJudge) (now : Moment) (m : Reply) (s : SubscriberTables) → Shrinks s.rows (tables_after_reply judge now m s).rows
reply-shrinks judge now (reply.Joined m) s = none-shrinks s.rows
reply-shrinks judge now (reply.Uploaded m) s = above-shrinks m.received s.rows
reply-shrinks judge now (reply.Ranged m) s = none-shrinks s.rows
reply-shrinks judge now (reply.Downloaded m) s = then-shrinks s.rows (map (row_above m.received) s.rows) (tables_after_reply judge now (reply.Downloaded m) s).rows (above-shrinks m.received s.rows) (items-shrink judge m.received m.items (map (row_above m.received) s.rows))
reply-shrinks judge now (reply.Refused number values) s = none-shrinks s.rows

-- what a reply leaves
pub record ReplyLeaves (s t : SubscriberTables) : Type 0 where
  pub count : t.conflict_count ≡ s.conflict_count
  pub changes : t.changes ≡ s.changes
  pub filling : t.gens.filling ≡ s.gens.filling

reply-leaves : (judge : SubscriberJudge) (now : Moment) (m : Reply) (s : SubscriberTables) → ReplyLeaves s (tables_after_reply judge now m s)
reply-leaves judge now (reply.Joined m) s = record { count = refl; changes = refl; filling = refl }
reply-leaves judge now (reply.Uploaded m) s = record { count = refl; changes = refl; filling = refl }
reply-leaves judge now (reply.Ranged m) s = record { count = refl; changes = refl; filling = refl }
reply-leaves judge now (reply.Downloaded m) s = record { count = refl; changes = refl; filling = refl }
reply-leaves judge now (reply.Refused number values) s = record { count = refl; changes = refl; filling = refl }

shrink-on : (s t : SubscriberTables) → ReplyLeaves s t → Shrinks s.rows t.rows → RowsHaveRoom s → RowsHaveRoom t
shrink-on s t leaves shrinks b = record {
  few = (let sums = shrinks.sums length length-weighs in let low = b.few in let count = leaves.count in let changes = leaves.changes in omega (arith, sums, low, count, changes));
  ascend = shrinks.ascend b.ascend;
  room = λ generation. (let sums = shrinks.sums (times_kept generation) (times-weigh generation) in
      let low : total_kept (times_kept generation) s.rows ≤ room_of t.gens.filling generation = subst (λ (f : Filling). total_kept (times_kept generation) s.rows ≤ room_of f generation) (sym leaves.filling) (b.room generation) in omega (arith, sums, low));
}

-- A local change.

pub room-closed : (f : Filling) (generation : ℕ) → generation ≤ f.last_closed → room_of f generation ≡ entry_limit
room-closed f generation low = (let is : nat_le generation f.last_closed ≡ true = grind (arith, nat_tests, low) in grind (arith, is))

pub room-open : (f : Filling) (generation : ℕ) → generation ≡ f.last_closed + 1 → room_of f generation ≡ f.filled
room-open f generation here = (
    let is : nat_le generation f.last_closed ≡ false = grind (arith, nat_tests, here) in
    let same : (generation == f.last_closed + 1) ≡ true = grind (arith, nat_tests, here) in grind (arith, is, same))

pub room-above : (f : Filling) (generation : ℕ) → f.last_closed + 1 < generation → room_of f generation ≡ 0
room-above f generation high = (
    let is : nat_le generation f.last_closed ≡ false = grind (arith, nat_tests, high) in
    let differs : (generation == f.last_closed + 1) ≡ false = grind (arith, nat_tests, high) in grind (arith, is, differs))

-- the rooms as one entry is made in the open generation
pub entered-room : (filling : Filling) (generation : ℕ) → filling.filled < entry_limit → room_of filling generation + cond (generation == filling.last_closed + 1) 1 0 ≤ room_of (fill.filled_by filling 1) generation
entered-room filling generation low = entered-by (nat_le generation filling.last_closed) (generation == filling.last_closed + 1) refl refl
  where
    after : Filling
    after = fill.filled_by filling 1

    up : filling.last_closed ≤ after.last_closed
    up = omega arith

    open-by : (b : Bool) → nat_le generation after.last_closed ≡ b → generation ≡ filling.last_closed + 1 → filling.filled + 1 ≤ room_of after generation
    open-by true is here = (let room = room-closed after generation (grind (arith, nat_tests, is)) in omega (arith, room, low))
    open-by false is here = (
        let above : after.last_closed < generation = grind (arith, nat_tests, is) in
        let still : after.last_closed ≡ filling.last_closed = omega (arith, above, here, up) in
        let filled : after.filled ≡ filling.filled + 1 = omega (arith, low, still) in
        let room = room-open after generation (omega (arith, here, still)) in omega (arith, room, filled))

    entered-by : (a b : Bool) → nat_le generation filling.last_closed ≡ a → (generation == filling.last_closed + 1) ≡ b → room_of filling generation + cond (generation == filling.last_closed + 1) 1 0 ≤ room_of after generation
    entered-by true b is same = (
        let here : generation ≤ filling.last_closed = grind (arith, nat_tests, is) in
        let none : cond (generation == filling.last_closed + 1) 1 0 ≡ 0 = (let differs : (generation == filling.last_closed + 1) ≡ false = grind (arith, nat_tests, here) in ap (λ (c : Bool). (let n : ℕ = cond c 1 0 in n)) differs) in
        let one = room-closed filling generation here in let other = room-closed after generation (omega (arith, here, up)) in omega (arith, none, one, other))
    entered-by false true is same = (
        let here : generation ≡ filling.last_closed + 1 = grind (arith, nat_tests, same) in
        let one = room-open filling generation here in
        let some : cond (generation == filling.last_closed + 1) 1 0 ≡ 1 = ap (λ (c : Bool). (let n : ℕ = cond c 1 0 in n)) same in
        let room = open-by (nat_le generation after.last_closed) refl here in omega (arith, one, some, room))
    entered-by false false is same = (
        let above : filling.last_closed + 1 < generation = grind (arith, nat_tests, is, same) in
        let one = room-above filling generation above in
        let none : cond (generation == filling.last_closed + 1) 1 0 ≡ 0 = ap (λ (c : Bool). (let n : ℕ = cond c 1 0 in n)) same in omega (arith, one, none))

pub closed-room : (filling : Filling) (generation : ℕ) → filling.filled < entry_limit → room_of filling generation ≤ room_of (fill.filling_after_close filling) generation
closed-room filling generation low = closed-by (filling.filled == 0)
  where
    next : Filling
    next = record { last_closed = filling.last_closed + 1; filled = 0 }

    full-by : (a b : Bool) → nat_le generation filling.last_closed ≡ a → (generation == filling.last_closed + 1) ≡ b → room_of filling generation ≤ room_of next generation
    full-by true b is same = (let here : generation ≤ filling.last_closed = grind (arith, nat_tests, is) in
        let one = room-closed filling generation here in let other = room-closed next generation (omega (arith, here)) in omega (arith, one, other))
    full-by false true is same = (let here : generation ≡ filling.last_closed + 1 = grind (arith, nat_tests, same) in
        let one = room-open filling generation here in let other = room-closed next generation (omega (arith, here)) in omega (arith, one, other, low))
    full-by false false is same = (let above : filling.last_closed + 1 < generation = grind (arith, nat_tests, is, same) in let one = room-above filling generation above in omega (arith, one))

    closed-by : (b : Bool) → room_of filling generation ≤ room_of (if b then filling else next) generation
    closed-by true = omega arith
    closed-by false = full-by (nat_le generation filling.last_closed) (generation == filling.last_closed + 1) refl refl

held-length : (weigh : List ℕ → ℕ) (found : Option SubscriberRow) → weigh [] ≡ 0 → weigh (unwrap_or (option_map (λ (row : SubscriberRow). row.generations) found) []) ≡ unwrap_or (option_map (λ (row : SubscriberRow). weigh row.generations) found) 0
held-length weigh None none = none
held-length weigh (Some row) none = refl

-- the rows with a version more, in the open generation
pub put-total : (weigh : List ℕ → ℕ) (more : ℕ) (key : Key) (version : Version) (current : ℕ) (rows : Rows) → IsStrictlySortedBy key_cmp (keys_of rows) → weigh [] ≡ 0 → (let gens : List ℕ = generations_in rows key in weigh (with_open current gens) ≤ weigh gens + more
    → (let new : SubscriberRow = record { version = version; generations = with_open current gens } in total_kept weigh (put_row rows key new) ≤ total_kept weigh rows + more))
put-total weigh more key version current rows sorted none up =
    let gens : List ℕ = generations_in rows key in
    let new : SubscriberRow = record { version = version; generations = with_open current gens } in
    let sums = sum_by-insert_entry (λ (r : SubscriberRow). weigh r.generations) key_total rows key new sorted in
    let held = held-length weigh (row_at rows key) none in
    omega (arith, sums, held, up)

gens-by : (b : Bool) (row : SubscriberRow) (found : Option SubscriberRow) → numbers_ascend row.generations ≡ true → numbers_ascend (unwrap_or (option_map (λ (r : SubscriberRow). r.generations) found) []) ≡ true
    → (let now : Option SubscriberRow = cond b (Some row) found in numbers_ascend (unwrap_or (option_map (λ (r : SubscriberRow). r.generations) now) []) ≡ true)
gens-by true row found first rest = first
gens-by false row found first rest = rest

pub gens-ascend : (key : Key) (rows : Rows) → AllByRecursion Ascends rows → numbers_ascend (generations_in rows key) ≡ true
gens-ascend key [] all = refl
gens-ascend key (row ∷ rows) all = gens-by (is_at (key_cmp key) row.0) row.1 (row_at rows key) all.0 (gens-ascend key rows all.1)

change-on : (key : Key) (found : Option Version) (now : Moment) (held : List (ℕ × Holder)) (s : SubscriberTables) → SubscriberIsSorted s → RowsHaveRoom s
    → (let u : SubscriberTables = record (subscriber_at_moment now s) { changes = s.changes + 1; held = held } in RowsHaveRoom (with_version_if key found u))
change-on key None now held s sorted b = record { few = (let low = b.few in omega (arith, low)); ascend = b.ascend; room = b.room }
change-on key (Some version) now held s sorted b =
    let current : ℕ = subscriber_last_closed s + 1 in
    let gens : List ℕ = generations_in s.rows key in
    let new : SubscriberRow = record { version = version; generations = with_open current gens } in
    record {
      few = (let sums = put-total length 1 key version current s.rows sorted.rows_ascend refl (length-open current gens) in let low = b.few in omega (arith, sums, low));
      ascend = all-put Ascends key_cmp key new (λ q is. open-ascends current gens (gens-ascend key s.rows b.ascend)) (open-ascends current gens (gens-ascend key s.rows b.ascend)) s.rows b.ascend;
      room = λ generation. (let sums = put-total (times_kept generation) (cond (generation == current) 1 0) key version current s.rows sorted.rows_ascend refl (times-open generation current gens) in
          let low = b.room generation in let room = entered-room s.gens.filling generation sorted.generations_ascend.unfilled in omega (arith, sums, low, room));
    }

closing-on : (now : Moment) (s : SubscriberTables) → SubscriberIsSorted s → RowsHaveRoom s → RowsHaveRoom (subscriber_closed (subscriber_at_moment now s))
closing-on now s sorted b = record {
  few = b.few;
  ascend = b.ascend;
  room = λ generation. (let low = b.room generation in let room = closed-room s.gens.filling generation sorted.generations_ascend.unfilled in omega (arith, low, room));
}

-- What is discarded.

some-kept : (received : ℕ) (generations : List ℕ) → list_any (λ (g : ℕ). nat_lt received g) generations ≡ true → 1 ≤ length generations
some-kept received [] is = absurd cc
some-kept received (g ∷ generations) is = omega arith

discarded-step : (b : Bool) (row : Key × SubscriberRow) (rest : List (Key × Version)) (rows : Rows) → (b ≡ true → 1 ≤ length row.1.generations) → length rest ≤ total_kept length rows
    → (let found : Option (Key × Version) = if b then Some (row.0, row.1.version) else None in length (cons_option found rest) ≤ total_kept length (row ∷ rows))
discarded-step true row rest rows some low = (let one = total-cons length row rows in let here = some refl in omega (arith, one, here, low))
discarded-step false row rest rows some low = (let one = total-cons length row rows in omega (arith, one, low))

abbrev found_by : (Key → Bool) → Key × SubscriberRow → Option (Key × Version)
found_by unsent row = if unsent row.0 then Some (row.0, row.1.version) else None

discarded-few : (unsent : Key → Bool) (rows : Rows) → AllByRecursion (λ (row : Key × SubscriberRow). unsent row.0 ≡ true → 1 ≤ length row.1.generations) rows
    → length (filter_map (found_by unsent) rows) ≤ total_kept length rows
discarded-few unsent [] all = omega arith
discarded-few unsent (row ∷ rows) all = discarded-step (unsent row.0) row (filter_map (found_by unsent) rows) rows all.0 (discarded-few unsent rows all.1)

anew-on : (h : History) (now : Moment) (s : SubscriberTables) → SubscriberIsSorted s → RowsTell (made_at h s.site.0) s.received s.rows → RowsHaveRoom s → RowsHaveRoom (result_of_reinit (by_made h s.site) (subscriber_at_moment now s)).0
anew-on h now s sorted tell b =
    let u : SubscriberTables = subscriber_at_moment now s in
    let judge : SubscriberJudge = by_made h s.site in
    let lost : List (Key × Version) = discarded_versions judge u in
    let few : length lost ≤ total_kept length s.rows = discarded-few (is_unsent_by_made h s.site s.received) s.rows
    (all-weaker (Found s.rows) (λ (row : Key × SubscriberRow). is_unsent_by_made h s.site s.received row.0 ≡ true → 1 ≤ length row.1.generations)
    (λ row found is. some-kept s.received row.1.generations (ap (λ (r : Option SubscriberRow). list_any (λ (g : ℕ). nat_lt s.received g) (unwrap_or (option_map (λ (x : SubscriberRow). x.generations) r) [])) (sym found) ∙ tell.unsent row.0 s.received (omega arith) ∙ is)) s.rows
    (each-found s.rows sorted.rows_ascend)) in
    let long = anew-long u (u.conflict_count + 1) lost in
    record {
      few = (let low = b.few in omega (arith, few, long, low));
      ascend = tt;
      room = λ generation. omega arith;
    }

-- Every step, and every list of events.

abbrev OfRows : World → History → Type 0
OfRows w h = (n : ℕ) (s : SubscriberTables) → at_number w.subscribers n ≡ Some s → RowsHaveRoom s

module _ (publication : Publication) (says : Saying) where
  on : (w : World) (s t : SubscriberTables) → t.site.0 ≡ s.site.0 → RowsHaveRoom t → ((n : ℕ) (x : SubscriberTables) → at_number w.subscribers n ≡ Some x → RowsHaveRoom x) → (n : ℕ) (x : SubscriberTables) → at_number (put_number w.subscribers t.site.0 t) n ≡ Some x → RowsHaveRoom x
  on w s t same new all = put-each (λ (n : ℕ) (x : SubscriberTables). RowsHaveRoom x) w.subscribers s t same new all

  sorted-of : (w : World) (h : History) (s : SubscriberTables) → Ground publication w h → subscriber_at w s.site ≡ Some s → SubscriberIsSorted s
  sorted-of w h s g at = all-found SubscriberIsSorted w.subscribers s.site.0 s g.rows at

  -- a message leaves what is kept
  sent-on : (s : SubscriberTables) (seq : ℕ) (sent : Outstanding) → RowsHaveRoom s → RowsHaveRoom (with_message sent s)
  sent-on s seq sent b = record { few = b.few; ascend = b.ascend; room = b.room }

  rows-keep : StepsKeep publication says (Ground publication) OfRows
  rows-keep = record {
    moment = λ w h now g p. p;
    own_change = λ w h change d g p fine is. p;
    own_closing = λ w h g p. p;
    forgetting = λ w h g p. p;
    same = λ w h s g p at. on w s s refl (p s.site.0 s at) p;
    subscriber_change = λ w h s change d g p at named fine is. (
        let key : Key = key_of (subscriber_next_dot s) change in
        let found : Option Version = version_after publication (subscriber_next_dot s) d.0 change (subscriber_version_at s key) in
        let u : SubscriberTables = record (subscriber_at_moment w.moment s) { changes = s.changes + 1; held = d.1 } in
        on w s (with_version_if key found u) (version-site key found u) (change-on key found w.moment d.1 s (sorted-of w h s g at) (p s.site.0 s at)) p);
    subscriber_closing = λ w h s g p at. on w s (subscriber_closed (subscriber_at_moment w.moment s)) refl (closing-on w.moment s (sorted-of w h s g at) (p s.site.0 s at)) p;
    anew = λ w h s g p at. on w s (result_of_reinit (by_made h s.site) (subscriber_at_moment w.moment s)).0 refl (anew-on h w.moment s (sorted-of w h s g at) (g.unsent s.site.0 s (found-named w.subscribers s.site.0 s g.none at) at) (p s.site.0 s at)) p;
    sends_join = λ w h s g p at joining. on w s (with_message ask.Join s) refl (sent-on s 0 ask.Join (p s.site.0 s at)) p;
    sends_upload = λ w h s g p at fine. (let c : SubscriberTables = subscriber_closed (subscriber_at_moment w.moment s) in let t : SubscriberTables = (upload_sent (by_made h s.site) c).0 in
        on w s t refl (let b = closing-on w.moment s (sorted-of w h s g at) (p s.site.0 s at) in record { few = b.few; ascend = b.ascend; room = b.room }) p);
    sends_ranges = λ w h s g p at fine. on w s (with_message ask.Ranges s) refl (sent-on s 0 ask.Ranges (p s.site.0 s at)) p;
    sends_ask = λ w h s g p at fine. on w s (with_message (ask.Download s.watermark) s) refl (sent-on s 0 (ask.Download s.watermark) (p s.site.0 s at)) p;
    joins = λ w h number m g p at fine acts. p;
    joins_again = λ w h number m g p at acts. p;
    uploads = λ w h number m g p at fine news. p;
    uploads_again = λ w h number m g p at none. p;
    answers_ranges = λ w h site m g p. p;
    answers_ask = λ w h number site m g p at fine. p;
    replies = λ w h s number m sent g p at there out none. (let judge : SubscriberJudge = by_made h s.site in
        on w s (tables_after_reply judge w.moment m s) (reply-site judge w.moment m s) (shrink-on s (tables_after_reply judge w.moment m s) (reply-leaves judge w.moment m s) (reply-shrinks judge w.moment m s) (p s.site.0 s at)) p);
  }

  rows-begin : (tallies : List ℕ) → OfRows (empty_world publication tallies) no_history
  rows-begin tallies n s at = begins-with publication (λ (k : ℕ) (t : SubscriberTables). RowsHaveRoom t) (λ k site keyed. record { few = omega arith; ascend = tt; room = λ generation. omega arith }) n s at

  pub rows-have-room : (tallies : List ℕ) (slips : Slips) (events : List Event) → (resolvers : ℕ) × IsValid resolvers publication → OfRows (model_behind publication says tallies slips events).world (model_behind publication says tallies slips events).history
  rows-have-room tallies slips events valid = (grounded-always publication says tallies slips events valid OfRows
      (λ m action g p. step-keeps publication says (Ground publication) OfRows (λ w h ground. ground.received) rows-keep m action g p)
      (λ w h others p. p) (rows-begin tallies)).1
