-- That a reply to a download which acts fits: it goes on where there is something behind where it begins, tells a generation that can
-- be told, and what it puts and removes fits its site.
use Rattle.std.specs.List.{list_all}
use Rattle.std.specs.List.Sorted.{IsStrictlySortedBy}
use Rattle.std.specs.Prelude.{Bool, List, None, Option, Some, [], false, length, map, nat_le, nat_lt, refl, true, ℕ, ◌&&◌, ◌+◌, ◌<◌, ◌≡◌, ◌≤◌, ◌∷◌}
use Rattle.std.specs.declared.cmp.Ordering.TheVariants.{Less}
use Rattle.std.proofs.Common.{arith, subst, sym}
use Rattle.std.proofs.lemmas.Bool.Decides.{nat_tests}
use Rattle.merge_table.proofs.Room.{AreAbove}
use Rattle.merge_types.specs.Limits.{item_limit, number_limit}
use Rattle.merge_types.specs.RowKeys.{key_cmp}
use Rattle.merge_types.specs.declared.identifiers.SiteId.{SiteId}
use Rattle.merge_schema.specs.declared.publication.Publication.{Publication}
use Rattle.merge_batch.specs.Makers.{maker_of}
use Rattle.merge_batch.specs.Replies.{act_fits, broken_by_download, broken_by_reply, downloaded_fits, interval_fits, item_fits, item_rules, maker_fits, received_fits, row_rises}
use Rattle.merge_batch.specs.Search.{broken_by_items, broken_from}
use Rattle.merge_batch.specs.declared.reply.Act.{Act as Order}
use Rattle.merge_batch.specs.declared.reply.Act.TheVariants as order
use Rattle.merge_batch.specs.declared.reply.DownloadItem.{DownloadItem}
use Rattle.merge_batch.specs.declared.reply.Downloaded.{Downloaded}
use Rattle.merge_batch.specs.declared.reply.Reply.TheVariants as reply
use Rattle.merge_batch.specs.declared.request.Outstanding.{Outstanding}
use Rattle.merge_batch.specs.declared.request.Outstanding.TheVariants as ask
use Rattle.merge_batch.specs.declared.standing.Standing.{Standing}
use Rattle.merge_model.specs.Judge.ByNumbers.{received_by_number}
use Rattle.merge_model.specs.World.Faults.{reply_fault, standing_of}
use Rattle.merge_model.specs.History.Model.{Model}
use Rattle.merge_model.specs.Subscriber.{subscriber_last_closed}
use Rattle.merge_model.specs.Tables.{SubscriberTables}
use Rattle.merge_model.specs.Subscriber.Taking.{key_of_download}
use Rattle.merge_model.specs.World.{subscriber_at}
use Rattle.merge_model.specs.declared.letter.Letter.{Letter}
use Rattle.merge_model.specs.declared.letter.Message.TheVariants.{Replies}
use Rattle.merge_model.proofs.Lists.Finding.{pool-at}
use Rattle.merge_laws.specs.Facts.Behind.{TellsActed}
use Rattle.merge_honest.specs.Answered.{IsOutstanding}
use Rattle.merge_honest.specs.Replied.{IsReply, put_fits, removal_fits}
use Rattle.merge_honest.specs.SentWell.{IsWell, ReplyIsMadeWell, ReplyIsWell}
use Rattle.merge_honest.proofs.ReplyRules.{outstanding-here}
use Rattle.merge_honest.proofs.Rules.{Known}

-- The reply as a whole.

interval-by : (d : Downloaded) (b : Bool) → nat_lt d.from d.last ≡ b → ReplyIsMadeWell d → d.last < number_limit → interval_fits d.from d ≡ true
interval-by d true more w told =
    let low : d.from < d.last = grind (arith, nat_tests, more) in
    let goes = w.goes low in
    let closed = w.closed in
    let few = w.few_generations in
    grind (arith, nat_tests, goes, closed, few, told)
interval-by d false none w told =
    let onward = w.onward in
    let closed = w.closed in
    let few = w.few_generations in
    grind (arith, nat_tests, none, onward, closed, few, told)

whole : (own : Standing) (d : Downloaded) → ReplyIsMadeWell d → d.last < number_limit → own.received ≤ d.received → d.received ≤ own.closed → downloaded_fits own d.from d ≡ true
whole own d w told low up =
    let one : interval_fits d.from d ≡ true = interval-by d (nat_lt d.from d.last) refl w told in
    let two : received_fits own d ≡ true = grind (arith, nat_tests, low, up) in
    let few = w.few_items in
    let three : nat_le (length d.items) item_limit ≡ true = grind (arith, nat_tests, few) in
    grind (arith, one, two, three)

-- Each item, with the one before it.

less-below : (a b : DownloadItem) → key_cmp (key_of_download a) (key_of_download b) ≡ Less → row_rises (Some a) b ≡ true
less-below a b less = grind (arith, nat_tests, less)

abbrev IsAbove : Option DownloadItem → List DownloadItem → Type 0
IsAbove None items = Unit {0}
IsAbove (Some before) items = AreAbove key_cmp (key_of_download before) (map key_of_download items)

rises-first : (before : Option DownloadItem) (item : DownloadItem) (items : List DownloadItem) → IsAbove before (item ∷ items) → row_rises before item ≡ true
rises-first None item items above = refl
rises-first (Some before) item items above = less-below before item above.0

module _ (publication : Publication) (own : Standing) where
  act-by : (article row : ℕ) (act : Order) → put_fits publication own article row act ≡ true → removal_fits publication own article row act ≡ true → (act_fits publication own article act && maker_fits own (maker_of row)) ≡ true
  act-by article row (order.Put lineage live) put removal = put
  act-by article row order.RemoveDeleted put removal = removal
  act-by article row order.RemoveLeft put removal = removal

  item-by : (before : Option DownloadItem) (item : DownloadItem) → row_rises before item ≡ true → put_fits publication own item.article item.row.0 item.act ≡ true → removal_fits publication own item.article item.row.0 item.act ≡ true → item_fits publication own before item ≡ true
  item-by before item rises put removal = (let both = act-by item.article item.row.0 item.act put removal in grind (arith, rises, both))

  items-by : (place : ℕ) (before : Option DownloadItem) (items : List DownloadItem) → IsAbove before items → IsStrictlySortedBy key_cmp (map key_of_download items)
      → list_all (λ (item : DownloadItem). put_fits publication own item.article item.row.0 item.act) items ≡ true → list_all (λ (item : DownloadItem). removal_fits publication own item.article item.row.0 item.act) items ≡ true
      → broken_from (item_rules publication own) place before items ≡ None
  unfolding IsStrictlySortedBy
  items-by place before [] above sorted puts removals = refl
  items-by place before (item ∷ items) above sorted puts removals =
      let put : put_fits publication own item.article item.row.0 item.act ≡ true = grind (arith, puts) in
      let removal : removal_fits publication own item.article item.row.0 item.act ≡ true = grind (arith, removals) in
      let first : item_fits publication own before item ≡ true = item-by before item (rises-first before item items above) put removal in
      let rest = items-by (place + 1) (Some item) items sorted.0 sorted.1 (grind (arith, puts)) (grind (arith, removals)) in
      grind (arith, first, rest)

  fits-by : (d : Downloaded) → ReplyIsMadeWell d → d.last < number_limit → own.received ≤ d.received → d.received ≤ own.closed
      → list_all (λ (item : DownloadItem). put_fits publication own item.article item.row.0 item.act) d.items ≡ true → list_all (λ (item : DownloadItem). removal_fits publication own item.article item.row.0 item.act) d.items ≡ true
      → broken_by_download publication own d.from d ≡ None
  fits-by d w told low up puts removals =
      let one : downloaded_fits own d.from d ≡ true = whole own d w told low up in
      let items : broken_by_items (item_rules publication own) d.items ≡ None = items-by 1 None d.items tt w.ascend puts removals in
      grind (arith, one, items)

fault-by : (publication : Publication) (d : Downloaded) (s : SubscriberTables) → broken_by_download publication (standing_of s) d.from d ≡ None → reply_fault publication (ask.Download d.from) (reply.Downloaded d) s ≡ None
unfolding broken_by_reply
fault-by publication d s none = grind (arith, none)

module _ (publication : Publication) (m : Model) (k : Known publication m) (number : ℕ) (site : SiteId) (d : Downloaded) (at : IsReply m number site (reply.Downloaded d)) where
  abbrev letter : Letter
  letter = record { site = site; message = Replies (reply.Downloaded d) }

  well : ReplyIsWell m.world.publisher d
  well = pool-at (λ (x : Letter). IsWell publication m.world.publisher x.site x.message) m.world number letter at k.whole.1.letters

  pub download-fits : (s : SubscriberTables) (sent : Outstanding) → subscriber_at m.world site ≡ Some s → s.outstanding ≡ Some (d.seq, sent)
      → list_all (λ (item : DownloadItem). put_fits publication (standing_of s) item.article item.row.0 item.act) d.items ≡ true → list_all (λ (item : DownloadItem). removal_fits publication (standing_of s) item.article item.row.0 item.act) d.items ≡ true
      → reply_fault publication sent (reply.Downloaded d) s ≡ None
  download-fits s sent there out puts removals =
      let is : IsOutstanding s sent (Replies (reply.Downloaded d)) = outstanding-here publication m k number site (reply.Downloaded d) at s sent there out in
      let acted : TellsActed (received_by_number m.world.publisher site.0) site (Replies (reply.Downloaded d)) = pool-at (λ (l : Letter). TellsActed (received_by_number m.world.publisher l.site.0) l.site l.message) m.world number letter at k.whole.0.0.behind.letters in
      let taken = (k.whole.0.0.received.subscribers site.0 s there).taken in
      let up : d.received ≤ subscriber_last_closed s = omega (arith, acted, taken) in
      let last = well.last in
      let closed = k.bounded.publisher.closed in
      let told : d.last < number_limit = omega (arith, last, closed) in
      subst (λ (x : Outstanding). reply_fault publication x (reply.Downloaded d) s ≡ None) (sym is.0) (fault-by publication d s (fits-by publication (standing_of s) d well.made told is.1 up puts removals))
