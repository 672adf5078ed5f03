-- An upload that is made.
use Rattle.std.specs.Prelude.{◌≡◌, ◌+◌, ◌++◌, ℕ, Err, List, [], ◌∷◌, None, Ok, Option, Result, Some, filter_map, length, refl, unwrap_or}
use Rattle.std.proofs.Common.{ap, arith, subst, sym, ◌∙◌}
use Rattle.std.proofs.lemmas.List.{append-nil}
use Rattle.merge_types.specs.declared.identifiers.Moment.{Moment}
use Rattle.merge_types.specs.declared.row_key.RowKey.{RowKey}
use Rattle.merge_gens.specs.Book.{closed_now, moment_of}
use Rattle.merge_gens.specs.Filling.{filling_after_close}
use Rattle.merge_gens.specs.Plan.{book_after_plan}
use Rattle.merge_gens.specs.declared.plan.GenerationPlan.{GenerationPlan}
use Rattle.merge_batch.specs.declared.refusal.Refusal.{Refusal}
use Rattle.merge_batch.specs.declared.request.Outstanding.TheVariants as ask
use Rattle.merge_batch.specs.declared.request.Upload.{Upload}
use Rattle.merge_batch.specs.declared.request.UploadItem.{UploadItem}
use Rattle.merge_model.specs.Judge.ByNumbers.{by_rows, changed_between_by_rows}
use Rattle.merge_model.specs.Publisher.{later}
use Rattle.merge_model.specs.Publisher.PublisherDownload.{batch_end}
use Rattle.merge_model.specs.Tables.Refusals.{unless}
use Rattle.merge_model.specs.Subscriber.Sending.{make_upload, sending_refusal, unsent_rows, upload_item, upload_made, upload_sent}
use Rattle.merge_model.specs.Subscriber.{subscriber_at_moment, subscriber_closed, subscriber_last_closed}
use Rattle.merge_model.specs.Tables.{SubscriberTables}
use Rattle.merge_sub.proofs.ChangedRows.{sent-count, sent-items}
use Rattle.merge_sub.proofs.Ready.{still_changes}
use Rattle.merge_sub.specs.Drafts.{drafted, drafted_if_any}
use Rattle.merge_sub.specs.Held.{Held, tables_of}
use Rattle.merge_sub.specs.Sent.{AreChanged, changed_count, item_at}
use Rattle.merge_sub.specs.declared.changes.Changes.{Changes}
use Rattle.merge_sub.specs.declared.changes.Draft.{Draft}

sent-by : (s : SubscriberTables) (moment : Moment) (draft : Draft) (plan : GenerationPlan) (last to : ℕ) (keys : List RowKey) (items : List UploadItem) (through : ℕ)
    → last ≡ (filling_after_close s.gens.filling).last_closed → to ≡ batch_end (changed_count s.rows s.received) s.received last → AreChanged s.rows s.received to keys
    → items ≡ filter_map (item_at s.rows s.received to) keys → through ≡ unwrap_or (moment_of (closed_now s.gens (record { 0 = s.changes })).closings to) 0
    → draft.changes ≡ still_changes (record { changes = s.changes; conflict_count = s.conflict_count; latest = later moment s.latest; seq = s.seq + 1; outstanding = Some (s.seq + 1, ask.Upload s.received to); received = s.received; watermark = s.watermark; is_joined = s.is_joined }) plan
    → book_after_plan s.gens plan ≡ closed_now s.gens (record { 0 = s.changes })
    → drafted s (draft, record { site = s.site; seq = s.seq + 1; from = s.received; to = to; through = through; items = items }) ≡ upload_sent (by_rows s) (subscriber_closed (subscriber_at_moment moment s))
sent-by s moment draft plan last to keys items through last_is end changed items_are through_is changes closes =
    let all : items ≡ filter_map (upload_item s) (changed_between_by_rows s s.received to) = items_are ∙ sym (sent-items s s.received to keys changed) in
    let no_more : s.conflicts ++ [] ≡ s.conflicts = append-nil s.conflicts in
    let ends : to ≡ batch_end (changed_count s.rows s.received) s.received (filling_after_close s.gens.filling).last_closed = end ∙ ap (batch_end (changed_count s.rows s.received) s.received) last_is in
    rw (changes, closes, all, through_is, no_more, ends) refl

pub upload-sent : (h now : Held) → h ≡ now → (moment : Moment) (draft : Draft) (plan : GenerationPlan) (last to : ℕ) (keys : List RowKey) (items : List UploadItem) (through : ℕ)
    → last ≡ (filling_after_close h.gens.book.filling).last_closed → to ≡ batch_end (changed_count h.rows.rows h.state.received) h.state.received last → AreChanged h.rows.rows h.state.received to keys
    → items ≡ filter_map (item_at h.rows.rows h.state.received to) keys → through ≡ unwrap_or (moment_of (closed_now h.gens.book (record { 0 = h.state.changes })).closings to) 0
    → draft.changes ≡ still_changes (record { changes = h.state.changes; conflict_count = h.state.conflict_count; latest = later moment h.state.latest; seq = h.state.seq + 1; outstanding = Some (h.state.seq + 1, ask.Upload h.state.received to); received = h.state.received; watermark = h.state.watermark; is_joined = h.state.is_joined }) plan
    → book_after_plan h.gens.book plan ≡ closed_now h.gens.book (record { 0 = h.state.changes })
    → drafted (tables_of now) (draft, record { site = h.site; seq = h.state.seq + 1; from = h.state.received; to = to; through = through; items = items }) ≡ upload_sent (by_rows (tables_of now)) (subscriber_closed (subscriber_at_moment moment (tables_of now)))
upload-sent h now view moment draft plan last to keys items through last_is end changed items_are through_is changes closes =
    subst (λ (x : Held). drafted (tables_of x) (draft, record { site = h.site; seq = h.state.seq + 1; from = h.state.received; to = to; through = through; items = items }) ≡ upload_sent (by_rows (tables_of x)) (subscriber_closed (subscriber_at_moment moment (tables_of x)))) view
    (sent-by (tables_of h) moment draft plan last to keys items through last_is end changed items_are through_is changes closes)

-- Nothing is sent just where nothing is unsent.

nothing : {X Y : Type 0} (xs : List X) (ys : List Y) → length xs ≡ length ys → ys ≡ [] → xs ≡ []
nothing [] ys same none = refl
nothing {X = X} {Y = Y} (x ∷ xs) ys same none = let no : length (x ∷ xs) ≡ 0 = same ∙ ap (λ (l : List Y). length l) none in absurd (omega (arith, no))

made-none : (s : SubscriberTables) (moment : Moment) → unsent_rows (by_rows s) s ≡ [] → upload_made (by_rows s) moment s ≡ None
made-none s moment is = rw (upload_made, is) refl

pub none_sent : (h now : Held) → h ≡ now → (moment : Moment) → sending_refusal (tables_of now) ≡ None → (keys : List RowKey) → AreChanged h.rows.rows h.state.received (h.gens.book.filling.last_closed + 1) keys → keys ≡ []
    → make_upload (by_rows (tables_of now)) moment (tables_of now) ≡ Ok None
none_sent h now view moment passes keys changed none =
    let there : AreChanged now.rows.rows now.state.received (now.gens.book.filling.last_closed + 1) keys = subst (λ (x : Held). AreChanged x.rows.rows x.state.received (x.gens.book.filling.last_closed + 1) keys) view changed in
    let unsent : unsent_rows (by_rows (tables_of now)) (tables_of now) ≡ [] = nothing (unsent_rows (by_rows (tables_of now)) (tables_of now)) keys (sent-count now.rows.rows now.state.received (now.gens.book.filling.last_closed + 1) keys there) none in
    rw (passes, made-none (tables_of now) moment unsent) refl

made-of : (s : SubscriberTables) (moment : Moment) (unsent : List (RowKey × ℕ)) → unsent_rows (by_rows s) s ≡ unsent → (unsent ≡ [] → ⊥) → upload_made (by_rows s) moment s ≡ Some (upload_sent (by_rows s) (subscriber_closed (subscriber_at_moment moment s)))
made-of s moment [] is some = absurd (some refl)
made-of s moment (row ∷ rows) is some = rw (upload_made, is) refl

pub some_sent : (h now : Held) → h ≡ now → (moment : Moment) → sending_refusal (tables_of now) ≡ None → (keys : List RowKey) → AreChanged h.rows.rows h.state.received (h.gens.book.filling.last_closed + 1) keys → (keys ≡ [] → ⊥)
    → (made : Draft × Upload) → drafted (tables_of now) made ≡ upload_sent (by_rows (tables_of now)) (subscriber_closed (subscriber_at_moment moment (tables_of now))) → make_upload (by_rows (tables_of now)) moment (tables_of now) ≡ Ok (drafted_if_any (tables_of now) (Some made))
some_sent h now view moment passes keys changed some made is =
    let there : AreChanged now.rows.rows now.state.received (now.gens.book.filling.last_closed + 1) keys = subst (λ (x : Held). AreChanged x.rows.rows x.state.received (x.gens.book.filling.last_closed + 1) keys) view changed in
    let same : length (unsent_rows (by_rows (tables_of now)) (tables_of now)) ≡ length keys = sent-count now.rows.rows now.state.received (now.gens.book.filling.last_closed + 1) keys there in
    let sent : upload_made (by_rows (tables_of now)) moment (tables_of now) ≡ Some (upload_sent (by_rows (tables_of now)) (subscriber_closed (subscriber_at_moment moment (tables_of now)))) =
    made-of (tables_of now) moment (unsent_rows (by_rows (tables_of now)) (tables_of now)) refl (λ none. some (nothing keys (unsent_rows (by_rows (tables_of now)) (tables_of now)) (sym same) none)) in
    rw (passes, sent, is) refl

-- a list of no length has no member
pub none-left : (keys : List RowKey) → length keys ≡ 0 → keys ≡ []
none-left [] none = refl
none-left (key ∷ keys) none = absurd (omega (arith, none))
