-- What a site that begins anew discards is what it would have sent.
use Rattle.std.specs.Prelude.{◌≡◌, ◌+◌, ◌||◌, ℕ, Bool, true, false, List, [], ◌∷◌, None, Ok, Option, Some, filter_map, if◌then◌else◌, is_some, length, nat_lt, option_map, refl}
use Rattle.std.specs.List.{cons_option, list_any}
use Rattle.std.specs.List.Sorted.{IsStrictlySortedBy}
use Rattle.std.specs.Map.{keys_of}
use Rattle.std.specs.Option.{option_and_then}
use Rattle.std.proofs.Common.{ap, arith, subst, sym, ◌∙◌}
use Rattle.std.proofs.lemmas.Bool.Decides.{nat_tests}
use Rattle.merge_types.specs.RowKeys.{key_cmp}
use Rattle.merge_types.specs.declared.identifiers.Moment.{Moment}
use Rattle.merge_types.specs.declared.row_key.RowKey.{RowKey}
use Rattle.merge_units.specs.declared.site_row.SubscriberRow.{SubscriberRow}
use Rattle.merge_units.specs.declared.version.Version.{Version}
use Rattle.merge_batch.specs.declared.request.UploadItem.{UploadItem}
use Rattle.merge_conflict.specs.declared.row.ConflictRow.{ConflictRow}
use Rattle.merge_model.specs.Judge.ByNumbers.{by_rows, is_unsent_by_rows, last_between}
use Rattle.merge_model.specs.Subscriber.Reinit.{discarded_rows_from, discarded_versions, reinitialise, tables_made_anew}
use Rattle.merge_model.specs.Publisher.{later}
use Rattle.merge_model.specs.Tables.Refusals.{counter_end}
use Rattle.merge_model.specs.Subscriber.{subscriber_at_moment, subscriber_closed, subscriber_counters}
use Rattle.merge_model.specs.Tables.{SubscriberTables}
use Rattle.merge_sub.proofs.Anewly.{AreFound, Rows, rows-found}
use Rattle.merge_sub.proofs.ChangedRows.{is_inside, last-kept}
use Rattle.merge_sub.specs.Anew.{lost_from, lost_row}
use Rattle.merge_sub.specs.Held.{HaveOpened, Held, IsSound, KeepOpened, kept_by, tables_of}
use Rattle.merge_sub.specs.Sent.{item_at, item_of, row_item}
use Rattle.merge_sub.specs.declared.anew.Discarding.{Discarding}

-- No generation behind the open one was, so what is unsent lies up to it.

open-inside : (received closed : ℕ) (generations : List ℕ) → HaveOpened closed generations → list_any (is_inside received (closed + 1)) generations ≡ list_any (λ (generation : ℕ). nat_lt received generation) generations
open-inside received closed [] opened = refl
open-inside received closed (generation ∷ generations) opened =
    let first : is_inside received (closed + 1) generation ≡ nat_lt received generation = (let low = opened.0 in grind (arith, nat_tests, low)) in
    ap (λ (b : Bool). b || list_any (is_inside received (closed + 1)) generations) first
    ∙ ap (λ (b : Bool). nat_lt received generation || b) (open-inside received closed generations opened.1)

unsent-last : (received closed : ℕ) (generations : List ℕ) → HaveOpened closed generations → list_any (λ (generation : ℕ). nat_lt received generation) generations ≡ is_some (last_between received (closed + 1) generations)
unsent-last received closed generations opened = sym (last-kept (is_inside received (closed + 1)) generations ∙ open-inside received closed generations opened)

abbrev discarding : SubscriberTables → Discarding
discarding t = record { site = t.site; latest = t.latest }

abbrev discarded_version : SubscriberTables → RowKey × SubscriberRow → Option (RowKey × Version)
discarded_version s row = if is_unsent_by_rows s s.received row.0 then Some (row.0, row.1.version) else None

-- what would be sent of a row
abbrev unsent_at : SubscriberTables → ℕ → RowKey → Option UploadItem
unsent_at s closed = item_at s.rows s.received (closed + 1)

number-step : (s t : SubscriberTables) (closed number : ℕ) (row : RowKey × SubscriberRow) (rows : Rows) (last : Option ℕ) (unsent : Bool) → unsent ≡ is_some last
    → ((n : ℕ) → lost_from (discarding t) n (filter_map (unsent_at s closed) (keys_of rows)) ≡ discarded_rows_from t n (filter_map (discarded_version s) rows))
    → lost_from (discarding t) number (cons_option (option_map (row_item row.0 row.1) last) (filter_map (unsent_at s closed) (keys_of rows)))
    ≡ discarded_rows_from t number (let kept : Option (RowKey × Version) = if unsent then Some (row.0, row.1.version) else None in cons_option kept (filter_map (discarded_version s) rows))
number-step s t closed number row rows None true is more = absurd cc
number-step s t closed number row rows None false is more = more number
number-step s t closed number row rows (Some generation) true is more = ap (λ (rest : List ConflictRow). lost_row (discarding t) number (row_item row.0 row.1 generation) ∷ rest) (more (number + 1))
number-step s t closed number row rows (Some generation) false is more = absurd cc

-- the rows that are unsent, numbered in the order of their keys
lost-numbered : (s t : SubscriberTables) (closed : ℕ) → KeepOpened closed s.rows → (rows : Rows) → AreFound s.rows rows → (number : ℕ)
    → lost_from (discarding t) number (filter_map (unsent_at s closed) (keys_of rows)) ≡ discarded_rows_from t number (filter_map (discarded_version s) rows)
unfolding KeepOpened
lost-numbered s t closed opened [] found number = refl
lost-numbered s t closed opened (row ∷ rows) found number =
    let unsent : is_unsent_by_rows s s.received row.0 ≡ is_some (last_between s.received (closed + 1) row.1.generations) =
    ap (λ (o : Option SubscriberRow). list_any (λ (g : ℕ). nat_lt s.received g) (kept_by o)) found.0 ∙ unsent-last s.received closed row.1.generations (opened row.0 row.1 found.0) in
    ap (λ (o : Option SubscriberRow). lost_from (discarding t) number (cons_option (option_and_then (item_of s.received (closed + 1) row.0) o) (filter_map (unsent_at s closed) (keys_of rows)))) found.0
    ∙ number-step s t closed number row rows (last_between s.received (closed + 1) row.1.generations) (is_unsent_by_rows s s.received row.0) unsent (lost-numbered s t closed opened rows found.1)

-- The step of the machine.

anew-made : (s : SubscriberTables) (now : Moment) → counter_end (subscriber_counters s) ≡ None → IsStrictlySortedBy key_cmp (keys_of s.rows) → (closed : ℕ) → KeepOpened closed s.rows → (latest : Moment) → latest ≡ later now s.latest
    → (items : List UploadItem) → items ≡ filter_map (unsent_at s closed) (keys_of s.rows) → (lost : List ConflictRow) → lost ≡ lost_from (record { site = s.site; latest = latest }) (s.conflict_count + 1) items
    → (made : SubscriberTables) → made ≡ tables_made_anew lost (subscriber_closed (subscriber_at_moment now s)) → (count : ℕ) → count ≡ length lost
    → reinitialise (by_rows s) now s ≡ Ok (made, count)
anew-made s now below sorted closed opened latest late items unsent lost is made done count all =
    let numbered : lost ≡ discarded_rows_from (subscriber_at_moment now s) (s.conflict_count + 1) (discarded_versions (by_rows s) (subscriber_at_moment now s)) =
    is
    ∙ ap (λ (m : Moment). lost_from (record { site = s.site; latest = m }) (s.conflict_count + 1) items) late
    ∙ ap (λ (xs : List UploadItem). lost_from (record { site = s.site; latest = later now s.latest }) (s.conflict_count + 1) xs) unsent
    ∙ lost-numbered s (subscriber_at_moment now s) closed opened s.rows (rows-found s.rows sorted) (s.conflict_count + 1) in
    rw (below, done, all, numbered) refl

pub anew-done : (h now : Held) → h ≡ now → (moment : Moment) → counter_end (subscriber_counters (tables_of now)) ≡ None → IsStrictlySortedBy key_cmp (keys_of h.rows.rows) → IsSound h.publication (tables_of h) h.unsent.entries
    → (latest : Moment) → latest ≡ later moment h.state.latest
    → (items : List UploadItem) → items ≡ filter_map (item_at h.rows.rows h.state.received (h.gens.book.filling.last_closed + 1)) (keys_of h.rows.rows)
    → (lost : List ConflictRow) → lost ≡ lost_from (record { site = h.site; latest = latest }) (h.state.conflict_count + 1) items
    → (made : SubscriberTables) → made ≡ tables_made_anew lost (subscriber_closed (subscriber_at_moment moment (tables_of now))) → (count : ℕ) → count ≡ length lost → reinitialise (by_rows (tables_of now)) moment (tables_of now) ≡ Ok (made, count)
anew-done h now view moment below sorted sound latest late items unsent lost is made done count all =
    anew-made (tables_of now) moment below (subst (λ (x : Held). IsStrictlySortedBy key_cmp (keys_of x.rows.rows)) view sorted)
    now.gens.book.filling.last_closed (subst (λ (x : Held). KeepOpened x.gens.book.filling.last_closed x.rows.rows) view sound.opened)
    latest (subst (λ (x : Held). latest ≡ later moment x.state.latest) view late)
    items (subst (λ (x : Held). items ≡ filter_map (item_at x.rows.rows x.state.received (x.gens.book.filling.last_closed + 1)) (keys_of x.rows.rows)) view unsent)
    lost (subst (λ (x : Held). lost ≡ lost_from (record { site = x.site; latest = latest }) (x.state.conflict_count + 1) items) view is) made done count all
