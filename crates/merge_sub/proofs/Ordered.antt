-- The rows as a download orders them.
use Rattle.std.specs.BTreeMap.{is_at}
use Rattle.std.specs.List.{AllByRecursion, cons_option, fold, list_all, list_any}
use Rattle.std.specs.List.Sorted.{IsStrictlySortedBy}
use Rattle.std.specs.Map.{keys_of}
use Rattle.std.specs.Prelude.{◌≡◌, ◌≤◌, ◌==◌, ◌&&◌, ◌||◌, ℕ, Bool, true, false, not, List, [], ◌∷◌, None, Option, Some, cond, filter_map, if◌then◌else◌, map, nat_le, nat_lt, option_map, refl, unwrap_or}
use Rattle.std.proofs.Common.{ap, arith, subst, sym, ◌∙◌}
use Rattle.std.proofs.lemmas.Bool.Decides.{nat_tests}
use Rattle.merge_types.specs.RowKeys.{key_cmp}
use Rattle.merge_types.specs.declared.identifiers.Dot.{Dot}
use Rattle.merge_types.specs.declared.row_key.RowKey.{RowKey}
use Rattle.merge_table.specs.Edits.{key_of, row_of, rows_after, rows_after_all}
use Rattle.merge_table.specs.declared.edit.Edit.{Edit}
use Rattle.merge_table.proofs.LookUps.{lookup-rows_after}
use Rattle.merge_table.proofs.Sorted.{sorted_after}
use Rattle.merge_lineage.specs.Lineage.{number_at, number_of}
use Rattle.merge_units.specs.declared.version.Body.TheVariants.{Live}
use Rattle.merge_units.specs.declared.version.Cell.{Cell}
use Rattle.merge_units.specs.declared.site_row.SubscriberRow.{SubscriberRow}
use Rattle.merge_schema.specs.declared.publication.Publication.{Publication}
use Rattle.merge_batch.specs.Articles.{fits_article}
use Rattle.merge_batch.specs.Lineages.{has_tops, is_well_formed, knows_tops}
use Rattle.merge_batch.specs.Replies.{act_fits, was_made}
use Rattle.merge_batch.specs.declared.reply.Act.{Act}
use Rattle.merge_batch.specs.declared.reply.Act.TheVariants as order
use Rattle.merge_batch.specs.declared.reply.DownloadItem.{DownloadItem}
use Rattle.merge_batch.specs.declared.standing.Standing.{Standing}
use Rattle.merge_model.specs.Judge.ByNumbers.{by_rows}
use Rattle.merge_model.specs.World.Faults.{standing_of}
use Rattle.merge_model.specs.Tables.Keys.{row_at}
use Rattle.merge_model.specs.Tables.{SubscriberTables}
use Rattle.merge_model.specs.Subscriber.Taking.{key_of_download, row_above, with_item, with_order}
use Rattle.merge_model.proofs.Lists.KeyLookUps.{keys-exact}
use Rattle.merge_model.proofs.Lists.Finding.{all-weaker, some_same}
use Rattle.merge_model.proofs.Lists.{OfSome, all-filter_map, all-of, any-mono}
use Rattle.merge_model.proofs.Publishers.Sorted.{key_total}
use Rattle.merge_sub.proofs.Indexed.{is_among}
use Rattle.merge_sub.proofs.LetGo.{above-sorted, among-filter, and-none, row-above}
use Rattle.merge_sub.specs.Held.{AreFitting, AreMade, EachRow, keeps, kept_by}
use Rattle.merge_sub.specs.Taking.{AreOrders, is_unsent_at, kept_above, order_of, ordered}

abbrev Rows : Type 0
Rows = List (RowKey × SubscriberRow)

abbrev Edits : Type 0
Edits = List (Edit RowKey SubscriberRow)

-- The edits make what the items order.

order-made : (unsent : Bool) (key : RowKey) (act : Act) (rows : Rows) (rest : Edits)
    → rows_after_all key_cmp rows (let edit : Option (Edit RowKey SubscriberRow) = if unsent then None else Some (ordered key act) in cons_option edit rest) ≡ rows_after_all key_cmp (if unsent then rows else with_order key act rows) rest
order-made true key act rows rest = refl
order-made false key (order.Put lineage live) rows rest = refl
order-made false key order.RemoveDeleted rows rest = refl
order-made false key order.RemoveLeft rows rest = refl

pub orders-made : (s : SubscriberTables) (received : ℕ) (items : List DownloadItem) (rows : Rows) → rows_after_all key_cmp rows (filter_map (order_of s.rows received) items) ≡ fold (with_item (by_rows s) received) rows items
orders-made s received [] rows = refl
orders-made s received (item ∷ items) rows =
    order-made (is_unsent_at s.rows received (key_of_download item)) (key_of_download item) item.act rows (filter_map (order_of s.rows received) items)
    ∙ orders-made s received items (with_item (by_rows s) received rows item)

-- What holds of the row at each key, as rows are put and dropped.

edit-at : (Q : RowKey → Option SubscriberRow → Type 0) (rows : Rows) (edit : Edit RowKey SubscriberRow) → Q (key_of edit) (row_of edit) → ((k : RowKey) → Q k (row_at rows k)) → (k : RowKey) (here : Bool) → is_at (key_cmp k) (key_of edit) ≡ here
    → Q k (let found : Option SubscriberRow = cond here (row_of edit) (row_at rows k) in found)
edit-at Q rows edit new each k true is = subst (λ (q : RowKey). Q q (row_of edit)) (sym (keys-exact k (key_of edit) is)) new
edit-at Q rows edit new each k false is = each k

edits-each : (Q : RowKey → Option SubscriberRow → Type 0) (edits : Edits) → AllByRecursion (λ (edit : Edit RowKey SubscriberRow). Q (key_of edit) (row_of edit)) edits
    → (rows : Rows) → IsStrictlySortedBy key_cmp (keys_of rows) → ((k : RowKey) → Q k (row_at rows k)) → (k : RowKey) → Q k (row_at (rows_after_all key_cmp rows edits) k)
edits-each Q [] all rows sorted each k = each k
edits-each Q (edit ∷ edits) all rows sorted each k =
    edits-each Q edits all.1 (rows_after key_cmp rows edit) (sorted_after key_cmp key_total rows edit sorted)
    (λ q. subst (Q q) (sym (lookup-rows_after key_cmp key_total q rows edit sorted)) (edit-at Q rows edit all.0 each q (is_at (key_cmp q) (key_of edit)) refl)) k

ordered-key : (key : RowKey) (act : Act) → key ≡ key_of (ordered key act)
ordered-key key (order.Put lineage live) = refl
ordered-key key order.RemoveDeleted = refl
ordered-key key order.RemoveLeft = refl

-- what an order says of its row
abbrev IsByOrder : (RowKey → Option SubscriberRow → Type 0) → Rows → ℕ → DownloadItem → Type 0
IsByOrder Q all received item = is_unsent_at all received (key_of_download item) ≡ false → Q (key_of_download item) (row_of (ordered (key_of_download item) item.act))

order-some : (Q : RowKey → Option SubscriberRow → Type 0) (key : RowKey) (act : Act) (unsent : Bool) → (unsent ≡ false → Q key (row_of (ordered key act)))
    → OfSome (λ (edit : Edit RowKey SubscriberRow). Q (key_of edit) (row_of edit)) (let edit : Option (Edit RowKey SubscriberRow) = if unsent then None else Some (ordered key act) in edit)
order-some Q key act true new = tt
order-some Q key act false new = subst (λ (k : RowKey). Q k (row_of (ordered key act))) (ordered-key key act) (new refl)

ordered-each : (Q : RowKey → Option SubscriberRow → Type 0) (s : SubscriberTables) (received : ℕ) (items : List DownloadItem) → AllByRecursion (IsByOrder Q s.rows received) items
    → (rows : Rows) → IsStrictlySortedBy key_cmp (keys_of rows) → ((k : RowKey) → Q k (row_at rows k)) → (k : RowKey) → Q k (row_at (fold (with_item (by_rows s) received) rows items) k)
ordered-each Q s received items all rows sorted each k =
    subst (λ (made : Rows). Q k (row_at made k)) (orders-made s received items rows)
    (edits-each Q (filter_map (order_of s.rows received) items)
    (all-filter_map (IsByOrder Q s.rows received) (λ (edit : Edit RowKey SubscriberRow). Q (key_of edit) (row_of edit)) (order_of s.rows received)
    (λ item new. order-some Q (key_of_download item) item.act (is_unsent_at s.rows received (key_of_download item)) new) items all)
    rows sorted each k)

-- Facts of each row.

abbrev pub taken_rows : SubscriberTables → ℕ → List DownloadItem → Rows
taken_rows s received items = fold (with_item (by_rows s) received) (map (row_above received) s.rows) items

above-each : (P : RowKey → SubscriberRow → Type 0) (received : ℕ) (found : Option SubscriberRow) (k : RowKey) → ((row : SubscriberRow) → found ≡ Some row → P k (kept_above received row)) → (row : SubscriberRow) → option_map (kept_above received) found ≡ Some row → P k row
above-each P received None k each row is = absurd cc
above-each P received (Some before) k each row is = let same : kept_above received before ≡ row = cc in subst (P k) same (each before refl)

pub taken-rows : (P : RowKey → SubscriberRow → Type 0) (s : SubscriberTables) (received : ℕ) (items : List DownloadItem) → IsStrictlySortedBy key_cmp (keys_of s.rows)
    → ((k : RowKey) (row : SubscriberRow) → row_at s.rows k ≡ Some row → P k (kept_above received row))
    → AllByRecursion (λ (item : DownloadItem). (row : SubscriberRow) → row_of (ordered (key_of_download item) item.act) ≡ Some row → P (key_of_download item) row) items
    → EachRow P (taken_rows s received items)
taken-rows P s received items sorted each all =
    ordered-each (λ (k : RowKey) (found : Option SubscriberRow). (row : SubscriberRow) → found ≡ Some row → P k row) s received items
    (weaker items all)
    (map (row_above received) s.rows) (above-sorted received s.rows sorted)
    (λ k row is. above-each P received (row_at s.rows k) k (each k) row (sym (row-above received s.rows k) ∙ is))
  where
    weaker : (items : List DownloadItem) → AllByRecursion (λ (item : DownloadItem). (row : SubscriberRow) → row_of (ordered (key_of_download item) item.act) ≡ Some row → P (key_of_download item) row) items
        → AllByRecursion (IsByOrder (λ (k : RowKey) (found : Option SubscriberRow). (row : SubscriberRow) → found ≡ Some row → P k row) s.rows received) items
    weaker [] all = tt
    weaker (item ∷ items) all = (λ sent. all.0, weaker items all.1)

-- What an order fits.

act-parts : (a b c d e : Bool) → ((((a && b) && c) && d) && e) ≡ true → (a ≡ true) × (e ≡ true)
act-parts true true true true e fits = (refl, fits)
act-parts true true true false e fits = absurd cc
act-parts true true false d e fits = absurd cc
act-parts true false c d e fits = absurd cc
act-parts false b c d e fits = absurd cc

put-parts : (publication : Publication) (own : Standing) (article : ℕ) (lineage : List Dot) (live : List Cell) → act_fits publication own article (order.Put lineage live) ≡ true
    → (fits_article publication article (Live live) ≡ true) × (list_all (was_made own) lineage ≡ true)
put-parts publication own article lineage live fits =
    act-parts (fits_article publication article (Live live)) (is_well_formed publication lineage) (has_tops publication (Live live)) (knows_tops lineage (Live live)) (list_all (was_made own) lineage) fits

fits-ordered : (publication : Publication) (own : Standing) (key : RowKey) (act : Act) → act_fits publication own key.article act ≡ true → (row : SubscriberRow) → row_of (ordered key act) ≡ Some row → fits_article publication key.article row.version.body ≡ true
fits-ordered publication own key (order.Put lineage live) fits row is =
    subst (λ (r : SubscriberRow). fits_article publication key.article r.version.body ≡ true) (some_same _ _ is) (put-parts publication own key.article lineage live fits).0
fits-ordered publication own key order.RemoveDeleted fits row is = absurd cc
fits-ordered publication own key order.RemoveLeft fits row is = absurd cc

below-step : (here : Bool) (own : Standing) (dot : Dot) (lineage : List Dot) → (list_all (was_made own) lineage ≡ true → number_of lineage own.site.0 ≤ own.changes) → ((not here || nat_le dot.number own.changes) && list_all (was_made own) lineage) ≡ true
    → unwrap_or (let number : Option ℕ = if here then Some dot.number else number_at lineage own.site.0 in number) 0 ≤ own.changes
below-step true own dot lineage rest made = grind (arith, nat_tests, made)
below-step false own dot lineage rest made = rest made

made-below : (own : Standing) (lineage : List Dot) → list_all (was_made own) lineage ≡ true → number_of lineage own.site.0 ≤ own.changes
made-below own [] made = omega arith
made-below own (dot ∷ lineage) made = below-step (dot.site.0 == own.site.0) own dot lineage (made-below own lineage) made

made-ordered : (publication : Publication) (own : Standing) (key : RowKey) (act : Act) → act_fits publication own key.article act ≡ true → (row : SubscriberRow) → row_of (ordered key act) ≡ Some row → number_of row.version.lineage own.site.0 ≤ own.changes
made-ordered publication own key (order.Put lineage live) fits row is =
    subst (λ (r : SubscriberRow). number_of r.version.lineage own.site.0 ≤ own.changes) (some_same _ _ is) (made-below own lineage (put-parts publication own key.article lineage live fits).1)
made-ordered publication own key order.RemoveDeleted fits row is = absurd cc
made-ordered publication own key order.RemoveLeft fits row is = absurd cc

pub taken-fitting : (publication : Publication) (s : SubscriberTables) (received : ℕ) (items : List DownloadItem) → IsStrictlySortedBy key_cmp (keys_of s.rows) → AreFitting publication s.rows → AreOrders publication s items → AreFitting publication (taken_rows s received items)
unfolding AreFitting
taken-fitting publication s received items sorted fitting orders =
    taken-rows (λ (key : RowKey) (row : SubscriberRow). fits_article publication key.article row.version.body ≡ true) s received items sorted fitting
    (all-weaker (λ (item : DownloadItem). act_fits publication (standing_of s) item.article item.act ≡ true)
    (λ (item : DownloadItem). (row : SubscriberRow) → row_of (ordered (key_of_download item) item.act) ≡ Some row → fits_article publication item.article row.version.body ≡ true)
    (λ item fits row is. fits-ordered publication (standing_of s) (key_of_download item) item.act fits row is) items orders)

pub taken-made : (publication : Publication) (s : SubscriberTables) (received : ℕ) (items : List DownloadItem) → IsStrictlySortedBy key_cmp (keys_of s.rows) → AreMade s.site s.changes s.rows → AreOrders publication s items → AreMade s.site s.changes (taken_rows s received items)
unfolding AreMade
taken-made publication s received items sorted made orders =
    taken-rows (λ (key : RowKey) (row : SubscriberRow). number_of row.version.lineage s.site.0 ≤ s.changes) s received items sorted made
    (all-weaker (λ (item : DownloadItem). act_fits publication (standing_of s) item.article item.act ≡ true)
    (λ (item : DownloadItem). (row : SubscriberRow) → row_of (ordered (key_of_download item) item.act) ≡ Some row → number_of row.version.lineage s.site.0 ≤ s.changes)
    (λ item fits row is. made-ordered publication (standing_of s) (key_of_download item) item.act fits row is) items orders)

-- The generations that rows keep.

none-unsent : (received g : ℕ) (xs : List ℕ) → list_any (λ (h : ℕ). nat_lt received h) xs ≡ false → (nat_lt received g && is_among g xs) ≡ false
none-unsent received g xs sent = by-tests (nat_lt received g) (is_among g xs) refl refl
  where
    by-tests : (high among : Bool) → nat_lt received g ≡ high → is_among g xs ≡ among → (high && among) ≡ false
    by-tests false among above there = refl
    by-tests true false above there = refl
    by-tests true true above there =
        let some : list_any (λ (h : ℕ). nat_lt received h) xs ≡ true = any-mono (λ (h : ℕ). h == g) (λ (h : ℕ). nat_lt received h) xs (λ h same. grind (arith, nat_tests, same, above)) there in
        absurd cc

ordered-keeps : (key : RowKey) (act : Act) (g : ℕ) → keeps (row_of (ordered key act)) g ≡ false
ordered-keeps key (order.Put lineage live) g = refl
ordered-keeps key order.RemoveDeleted g = refl
ordered-keeps key order.RemoveLeft g = refl

above-keeps : (received g : ℕ) (found : Option SubscriberRow) → keeps (option_map (kept_above received) found) g ≡ (nat_lt received g && keeps found g)
above-keeps received g None = sym (and-none (nat_lt received g))
above-keeps received g (Some row) = among-filter (λ (h : ℕ). nat_lt received h) g row.generations

-- no row keeps another generation than before
pub taken-keeps : (s : SubscriberTables) (received : ℕ) (items : List DownloadItem) → IsStrictlySortedBy key_cmp (keys_of s.rows) → (k : RowKey) (g : ℕ) → keeps (row_at (taken_rows s received items) k) g ≡ (nat_lt received g && keeps (row_at s.rows k) g)
taken-keeps s received items sorted k =
    ordered-each (λ (key : RowKey) (found : Option SubscriberRow). (g : ℕ) → keeps found g ≡ (nat_lt received g && keeps (row_at s.rows key) g)) s received items
    (all-of (IsByOrder (λ (key : RowKey) (found : Option SubscriberRow). (g : ℕ) → keeps found g ≡ (nat_lt received g && keeps (row_at s.rows key) g)) s.rows received)
    (λ item sent g. ordered-keeps (key_of_download item) item.act g ∙ sym (none-unsent received g (kept_by (row_at s.rows (key_of_download item))) sent)) items)
    (map (row_above received) s.rows) (above-sorted received s.rows sorted)
    (λ q g. ap (λ (found : Option SubscriberRow). keeps found g) (row-above received s.rows q) ∙ above-keeps received g (row_at s.rows q)) k
