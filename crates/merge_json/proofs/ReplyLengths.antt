-- Replies within the limits of the product are short.
use Rattle.std.proofs.Common.{◌≡◌, ◌==◌, ℕ, ◌+◌, ◌≤◌, List, length, codes, Bool, true, false, cond, Some, None, Ok, subst, arith}
use Rattle.std.specs.List.{AllByRecursion}
use Rattle.std.proofs.lemmas.List.Elements.{recursion_from_All}
use Rattle.serde_json.specs.Written.{compact_text}
use Rattle.serde_json.proofs.OnLiterals.{serde_json_on_literals}
use Rattle.merge_batch.specs.Heads.{answered_kind}
use Rattle.merge_batch.specs.declared.reply.Reply.{Reply}
use Rattle.merge_batch.specs.declared.reply.Reply.TheVariants as reply
use Rattle.merge_batch.specs.declared.reply.RangeGrant.{RangeGrant}
use Rattle.merge_batch.specs.declared.reply.Ended.{Ended}
use Rattle.merge_batch.specs.declared.reply.Downloaded.{Downloaded}
use Rattle.merge_batch.specs.declared.reply.DownloadItem.{DownloadItem}
use Rattle.merge_batch.specs.declared.reply.Act.{Act as Order}
use Rattle.merge_batch.specs.declared.reply.Act.TheVariants as order
use Rattle.merge_json.specs.Bodies.{data_at}
use Rattle.merge_json.specs.Replies.{field_count, reply_at}
use Rattle.merge_json.specs.Written.{whole, list_of, cell_data}
use Rattle.merge_json.specs.WrittenReplies.{grant_data, ended_data, download_item_data, download_item_data_by, downloaded_data, reply_data}
use Rattle.merge_json.specs.Forms.{IsCell}
use Rattle.merge_json.specs.ReplyForms.{IsAct, IsDownloadItem, IsDownloaded, IsReply}
use Rattle.merge_json.specs.Limits.{body_limit, IsShortOrder, IsShortDownloadItem, IsShortReply}
use Rattle.merge_json.proofs.Weights.{weight, body_short, text_short}
use Rattle.merge_json.proofs.Lengths.{OwnCell, both_recursion, own_list, items_short, all_short, key_short, lineage_short, row_short, cells_short}
use Rattle.merge_json.proofs.ReplyForms.{reply_found}

abbrev OwnOrder : Order → Type 0
OwnOrder (order.Put lineage cells) = AllByRecursion OwnCell cells
OwnOrder order.RemoveDeleted = Unit {0}
OwnOrder order.RemoveLeft = Unit {0}

order_own : (i : DownloadItem) (a : Order) → IsAct a (download_item_data_by i a) → OwnOrder a
unfolding serde_json_on_literals
order_own i (order.Put lineage cells) is =
    let found : Some (list_of cell_data cells) ≡ Some is.1.0 = is.1.1 in
    let same : is.1.0 ≡ list_of cell_data cells = cc in
    own_list (λ c d. IsCell c d) cell_data cells is.1.0 same is.1.2
order_own i order.RemoveDeleted is = tt
order_own i order.RemoveLeft is = tt

item_short : (i : DownloadItem) (a : Order) → IsShortOrder a → OwnOrder a → weight (download_item_data_by i a) + 1 ≤ 66_700
item_short i (order.Put lineage cells) short own =
    omega (
      arith,
      key_short (codes "article"),
      key_short (codes "lineage"),
      key_short (codes "live"),
      key_short (codes "row"),
      lineage_short lineage short.0,
      cells_short cells short.1.few short.1.few_values short.1.short own,
      row_short i.row.0,
    )
item_short i order.RemoveDeleted short own = omega (arith, key_short (codes "article"), key_short (codes "remove"), key_short (codes "row"), row_short i.row.0)
item_short i order.RemoveLeft short own = omega (arith, key_short (codes "article"), key_short (codes "remove"), key_short (codes "row"), row_short i.row.0)

abbrev IsShortOwn : DownloadItem → Type 0
IsShortOwn i = IsShortDownloadItem i × IsDownloadItem i (download_item_data i)

one_item_short : (i : DownloadItem) → IsShortOwn i → weight (download_item_data i) + 1 ≤ 66_700
one_item_short i is = item_short i i.act is.0 (order_own i i.act is.1.act)

items_own : (w : Downloaded) → IsDownloaded w (downloaded_data w) → AllByRecursion (λ i. IsDownloadItem i (download_item_data i)) w.items
unfolding serde_json_on_literals
items_own w is =
    let found : Some (list_of download_item_data w.items) ≡ Some is.items.0 = is.items.1 in
    let same : is.items.0 ≡ list_of download_item_data w.items = cc in
    own_list (λ i d. IsDownloadItem i d) download_item_data w.items is.items.0 same is.items.2

grant_short : (g : RangeGrant) → weight (grant_data g) + 1 ≤ 250
grant_short g = omega (arith, key_short (codes "article"), key_short (codes "begin"), key_short (codes "end"), key_short (codes "number"))

ended_short : (e : Ended) → weight (ended_data e) + 1 ≤ 250
ended_short e = omega (arith, key_short (codes "article"), key_short (codes "greatest"), key_short (codes "next"))

number_short : (n : ℕ) → weight (whole n) + 1 ≤ 21
number_short n = omega arith

-- no refusal has more than two fields
two_fields : (n k : ℕ) → field_count n ≡ Some k → k ≤ 2
two_fields n k e = chain (n == 1) (n == 2) (n == 3) (n == 4) (n == 5) (n == 6) (n == 12) (n == 16) (n == 17) e
  where
    least : (m : ℕ) → Some m ≡ Some k → m ≤ 2 → k ≤ 2
    least m f le = let same : m ≡ k = cc in subst (λ (j : ℕ). j ≤ 2) same le

    chain : (a b c d e f g h i : Bool)
        → (cond a (Some 1) (cond b (Some 2) (cond c (Some 2) (cond d (Some 2) (cond e (Some 2) (cond f (Some 2) (cond g (Some 1) (cond h (Some 1) (cond i (Some 0) None))))))))) ≡ Some k → k ≤ 2
    chain true b c d e f g h i x = least 1 x (omega arith)
    chain false true c d e f g h i x = least 2 x (omega arith)
    chain false false true d e f g h i x = least 2 x (omega arith)
    chain false false false true e f g h i x = least 2 x (omega arith)
    chain false false false false true f g h i x = least 2 x (omega arith)
    chain false false false false false true g h i x = least 2 x (omega arith)
    chain false false false false false false true h i x = least 1 x (omega arith)
    chain false false false false false false false true i x = least 1 x (omega arith)
    chain false false false false false false false false true x = least 0 x (omega arith)
    chain false false false false false false false false false x = absurd cc

reply_short : (r : Reply) → IsShortReply r → IsReply r (reply_data r) → weight (reply_data r) ≤ body_limit
reply_short (reply.Joined j) short is = omega (arith, key_short (codes "seq"))
reply_short (reply.Uploaded u) short is = omega (arith, key_short (codes "received"), key_short (codes "seq"))
reply_short (reply.Ranged r) short is =
    let grants = all_short grant_data 250 grant_short r.grants in
    let ended = all_short ended_data 250 ended_short r.ended in
    omega (arith, key_short (codes "ended"), key_short (codes "grants"), key_short (codes "seq"), grants, ended, short.0, short.1)
reply_short (reply.Downloaded w) short is =
    let own = both_recursion IsShortDownloadItem (λ i. IsDownloadItem i (download_item_data i)) w.items (recursion_from_All IsShortDownloadItem w.items short.1) (items_own w is) in
    let items = items_short download_item_data IsShortOwn 66_700 one_item_short w.items own in
    omega (arith, key_short (codes "from"), key_short (codes "items"), key_short (codes "last"), key_short (codes "received"), key_short (codes "seq"), key_short (codes "to"), items, short.0)
reply_short (reply.Refused n values) short is =
    let numbers = all_short whole 21 number_short values in
    omega (arith, key_short (codes "refused"), key_short (codes "values"), numbers, two_fields n (length values) is.told)

pub reply_fits : (r : Reply) (body : List ℕ) → data_at body ≡ Some (reply_data r) → reply_at (answered_kind r) (reply_data r) ≡ Ok r → IsShortReply r → length (compact_text (reply_data r)) ≤ body_limit
reply_fits r body told again short =
    let is = reply_found (answered_kind r) (reply_data r) r again in
    let text = text_short (reply_data r) (body_short body (reply_data r) told) in
    omega (arith, text, reply_short r short is.1)
