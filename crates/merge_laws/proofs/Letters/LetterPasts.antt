-- An item in a letter has the past of the row that it is made of.
use Rattle.std.specs.Prelude.{◌≡◌, ◌&&◌, ◌||◌, List, [], ◌∷◌, Bool, true, false, Option, Some, refl, if◌then◌else◌, cond, filter_map, map, unwrap_or}
use Rattle.std.specs.BTreeMap.{is_at}
use Rattle.std.specs.List.{AllByRecursion, list_any}
use Rattle.std.proofs.Common.{arith, subst, sym, ap, ◌∙◌}
use Rattle.merge_units.specs.declared.version.Body.TheVariants.{Live}
use Rattle.merge_units.specs.declared.version.Version.{Version}
use Rattle.merge_batch.specs.declared.reply.Act.{Act as Order}
use Rattle.merge_batch.specs.declared.reply.Act.TheVariants as order
use Rattle.merge_batch.specs.declared.reply.DownloadItem.{DownloadItem}
use Rattle.merge_batch.specs.declared.request.UploadItem.{UploadItem}
use Rattle.merge_model.specs.Publisher.Acts.{key_of_item}
use Rattle.merge_model.specs.History.{Past, no_past, past_in}
use Rattle.merge_types.specs.RowKeys.{key_cmp}
use Rattle.merge_model.specs.Tables.Keys.{row_at, same_key}
use Rattle.merge_model.specs.History.Model.{past_of_item, put_past}
use Rattle.merge_types.specs.declared.row_key.RowKey.{RowKey as Key}
use Rattle.merge_model.specs.Subscriber.Taking.{key_of_download}
use Rattle.merge_laws.specs.Facts.LineagesStand.{OfOrder}
use Rattle.merge_model.proofs.Lists.KeyLookUps.{key-itself, key-test, keys-exact, keys-same}
use Rattle.merge_model.proofs.Lists.{all-both, each-found}

-- What is found of a row that an item is made of.

found-step : (pasts : List (Key × Past)) (q k : Key) (b : Bool) (rest : Option Past) → is_at (key_cmp q) k ≡ b → (same_key q k ≡ false → unwrap_or rest no_past ≡ past_in pasts q) → unwrap_or (let found : Option Past = cond b (Some (past_in pasts k)) rest in found) no_past ≡ past_in pasts q
found-step pasts q k true rest is more = ap (λ (x : Key). past_in pasts x) (sym (keys-same q k (sym (key-test q k) ∙ is)))
found-step pasts q k false rest is more = more (sym (key-test q k) ∙ is)

pub item-past : (pasts : List (Key × Past)) (q : Key) (items : List UploadItem) → list_any (λ (item : UploadItem). same_key q (key_of_item item)) items ≡ true → past_in (map (past_of_item pasts) items) q ≡ past_in pasts q
item-past pasts q [] some = absurd (grind (arith, some))
item-past pasts q (item ∷ items) some = found-step pasts q (key_of_item item) (is_at (key_cmp q) (key_of_item item)) (row_at (map (past_of_item pasts) items) q) refl
    (λ differs. item-past pasts q items (grind (arith, some, differs)))

-- of a reply, which has the pasts of the rows that it puts
abbrev pub is_put : Order → Bool
is_put (order.Put lineage live) = true
is_put order.RemoveDeleted = false
is_put order.RemoveLeft = false

put-step : (pasts : List (Key × Past)) (q : Key) (item : DownloadItem) (items : List DownloadItem) (o : Order) → ((same_key q (key_of_download item) && is_put o) || list_any (λ (other : DownloadItem). same_key q (key_of_download other) && is_put other.act) items) ≡ true
    → (list_any (λ (other : DownloadItem). same_key q (key_of_download other) && is_put other.act) items ≡ true → past_in (filter_map (put_past pasts) items) q ≡ past_in pasts q)
    → past_in (filter_map (put_past pasts) (record item { act = o } ∷ items)) q ≡ past_in pasts q
put-step pasts q item items (order.Put lineage live) some more = found-step pasts q (key_of_download item) (is_at (key_cmp q) (key_of_download item)) (row_at (filter_map (put_past pasts) items) q) refl (λ differs. more (grind (arith, some, differs)))
put-step pasts q item items order.RemoveDeleted some more = more (grind (arith, some))
put-step pasts q item items order.RemoveLeft some more = more (grind (arith, some))

pub download-past : (pasts : List (Key × Past)) (q : Key) (items : List DownloadItem) → list_any (λ (item : DownloadItem). same_key q (key_of_download item) && is_put item.act) items ≡ true → past_in (filter_map (put_past pasts) items) q ≡ past_in pasts q
download-past pasts q [] some = absurd (grind (arith, some))
download-past pasts q (item ∷ items) some = put-step pasts q item items item.act some (download-past pasts q items)

-- a row that is removed needs no past
pub removed-order : (P : Key → Version → Past → Type 0) (key : Key) (past : Past) (b : Bool) → OfOrder P key past (if b then order.RemoveLeft else order.RemoveDeleted)
removed-order P key past true = tt
removed-order P key past false = tt

-- What is said of the items with the pasts of their rows is said of them with the letter's pasts.

pub items-sent : (Q : UploadItem → Past → Type 0) (pasts : List (Key × Past)) (items : List UploadItem) → AllByRecursion (λ (item : UploadItem). Q item (past_in pasts (key_of_item item))) items
    → AllByRecursion (λ (item : UploadItem). Q item (past_in (map (past_of_item pasts) items) (key_of_item item))) items
items-sent Q pasts items all = all-both (λ (item : UploadItem). Q item (past_in pasts (key_of_item item))) (λ (item : UploadItem). (test : UploadItem → Bool) → test item ≡ true → list_any test items ≡ true)
    (λ (item : UploadItem). Q item (past_in (map (past_of_item pasts) items) (key_of_item item)))
    (λ item fits found. subst (λ (past : Past). Q item past) (sym (item-past pasts (key_of_item item) items (found (λ (other : UploadItem). same_key (key_of_item item) (key_of_item other)) (key-itself (key_of_item item))))) fits) items all (each-found items)

order-same : (P : Key → Version → Past → Type 0) (key : Key) (past other : Past) (act : Order) → (is_put act ≡ true → other ≡ past) → OfOrder P key past act → OfOrder P key other act
order-same P key past other (order.Put lineage live) same p = subst (λ (x : Past). P key (record { lineage = lineage; body = Live live }) x) (sym (same refl)) p
order-same P key past other order.RemoveDeleted same p = tt
order-same P key past other order.RemoveLeft same p = tt

pub orders-sent : (P : Key → Version → Past → Type 0) (pasts : List (Key × Past)) (items : List DownloadItem) → AllByRecursion (λ (item : DownloadItem). OfOrder P (key_of_download item) (past_in pasts (key_of_download item)) item.act) items
    → AllByRecursion (λ (item : DownloadItem). OfOrder P (key_of_download item) (past_in (filter_map (put_past pasts) items) (key_of_download item)) item.act) items
orders-sent P pasts items all = all-both (λ (item : DownloadItem). OfOrder P (key_of_download item) (past_in pasts (key_of_download item)) item.act) (λ (item : DownloadItem). (test : DownloadItem → Bool) → test item ≡ true → list_any test items ≡ true)
    (λ (item : DownloadItem). OfOrder P (key_of_download item) (past_in (filter_map (put_past pasts) items) (key_of_download item)) item.act)
    (λ item fits found. order-same P (key_of_download item) (past_in pasts (key_of_download item)) (past_in (filter_map (put_past pasts) items) (key_of_download item)) item.act
    (λ puts. download-past pasts (key_of_download item) items (found (λ (other : DownloadItem). same_key (key_of_download item) (key_of_download other) && is_put other.act) (let same = key-itself (key_of_download item) in grind (arith, same, puts)))) fits) items all (each-found items)

-- What holds of no past and of a row's past holds of what a letter has of the row.

items-test : (Q : Past → Type 0) (pasts : List (Key × Past)) (key at : Key) (b : Bool) (rest : Option Past) → is_at (key_cmp key) at ≡ b → Q (past_in pasts key) → Q (unwrap_or rest no_past)
    → Q (let found : Option Past = cond b (Some (past_in pasts at)) rest in unwrap_or found no_past)
items-test Q pasts key at true rest is own more = subst (λ (k : Key). Q (past_in pasts k)) (keys-exact key at is) own
items-test Q pasts key at false rest is own more = more

pub items-past : (Q : Past → Type 0) (pasts : List (Key × Past)) (key : Key) (items : List UploadItem) → Q no_past → Q (past_in pasts key) → Q (past_in (map (past_of_item pasts) items) key)
items-past Q pasts key [] none own = none
items-past Q pasts key (item ∷ items) none own = items-test Q pasts key (key_of_item item) (is_at (key_cmp key) (key_of_item item)) (row_at (map (past_of_item pasts) items) key) refl own (items-past Q pasts key items none own)

orders-test : (Q : Past → Type 0) (pasts : List (Key × Past)) (key : Key) (item : DownloadItem) (o : Order) (items : List DownloadItem) → Q (past_in pasts key) → Q (past_in (filter_map (put_past pasts) items) key)
    → Q (past_in (filter_map (put_past pasts) (record item { act = o } ∷ items)) key)
orders-test Q pasts key item (order.Put lineage live) items own more = items-test Q pasts key (key_of_download item) (is_at (key_cmp key) (key_of_download item)) (row_at (filter_map (put_past pasts) items) key) refl own more
orders-test Q pasts key item order.RemoveDeleted items own more = more
orders-test Q pasts key item order.RemoveLeft items own more = more

pub orders-past : (Q : Past → Type 0) (pasts : List (Key × Past)) (key : Key) (items : List DownloadItem) → Q no_past → Q (past_in pasts key) → Q (past_in (filter_map (put_past pasts) items) key)
orders-past Q pasts key [] none own = none
orders-past Q pasts key (item ∷ items) none own = orders-test Q pasts key item item.act items own (orders-past Q pasts key items none own)
