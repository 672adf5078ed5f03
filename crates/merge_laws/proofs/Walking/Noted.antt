-- What a step notes, taken apart: what each part of a history may become, all that steps note keeps.
use Rattle.std.specs.Prelude.{◌≡◌, ◌+◌, ℕ, List, [], ◌∷◌, Bool, true, false, Option, Some, None, refl, if◌then◌else◌, map, flat_map}
use Rattle.std.specs.List.{AllByRecursion, fold}
use Rattle.merge_types.specs.declared.changes.Change.{Change}
use Rattle.merge_types.specs.declared.identifiers.Dot.{Dot}
use Rattle.merge_types.specs.declared.identifiers.SiteId.{SiteId}
use Rattle.merge_units.specs.declared.case.Case.{Case}
use Rattle.merge_units.specs.declared.result.Decision.{Decision}
use Rattle.merge_units.specs.declared.result.Decision.TheVariants.{KeepPublisher, TakeSubscriber, Custom}
use Rattle.merge_units.specs.declared.version.Version.{Version}
use Rattle.merge_schema.specs.declared.publication.Publication.{Publication}
use Rattle.merge_batch.specs.declared.reply.Act.{Act as Order}
use Rattle.merge_batch.specs.declared.reply.Act.TheVariants as order
use Rattle.merge_batch.specs.declared.reply.DownloadItem.{DownloadItem}
use Rattle.merge_batch.specs.declared.reply.Reply.{Reply}
use Rattle.merge_batch.specs.declared.reply.Reply.TheVariants as reply
use Rattle.merge_batch.specs.declared.request.Upload.{Upload}
use Rattle.merge_batch.specs.declared.request.UploadItem.{UploadItem}
use Rattle.merge_model.specs.Publisher.Acts.{Act, Fate, New, Unknown, Met, act_of, acting_items, acts_from, acts_of, fate_by, is_new_row, key_of_item, left_by, made_by}
use Rattle.merge_units.specs.Cases.{is_conflict}
use Rattle.merge_model.specs.Publisher.Entries.{Entries}
use Rattle.merge_model.specs.History.{History, Line, MadeChange, Past, past_at, past_in}
use Rattle.merge_model.specs.Judge.{PublisherJudge, SubscriberJudge}
use Rattle.merge_model.specs.Tables.Keys.{put_number, row_at}
use Rattle.merge_model.specs.History.Noting
use Rattle.merge_model.specs.History.Pasts.{past_by}
use Rattle.merge_model.specs.Tables.Publications.{by_site}
use Rattle.merge_model.specs.Publisher.{last_closed}
use Rattle.merge_model.specs.Publisher.PublisherLocal.{Drawn}
use Rattle.merge_model.specs.Subscriber.Reinit.{discarded_versions}
use Rattle.merge_types.specs.declared.row_key.RowKey.{RowKey as Key}
use Rattle.merge_units.specs.declared.site_row.PublisherRow.{PublisherRow}
use Rattle.merge_model.specs.Tables.{PublisherTables, SubscriberTables}
use Rattle.merge_model.specs.Subscriber.Taking.{key_of_download}
use Rattle.merge_model.proofs.Lists.Tests.{if-both}
use Rattle.merge_laws.proofs.Walking.{own_noted}

-- of the changes only the publisher's own come in
pub record NotesKeep (P : History → Type 0) : Type 0 where
  pub of_lines : (h : History) (lines : List Line) → P h → P (record h { lines = lines })
  pub of_pasts : (h : History) (pasts : List (ℕ × List (Key × Past))) → P h → P (record h { pasts = pasts })
  pub of_lost : (h : History) (lost : List (ℕ × (Key × Past))) → P h → P (record h { lost = lost })
  pub of_accepted : (h : History) (accepted : List Dot) → P h → P (record h { accepted = accepted })
  pub of_purged : (h : History) (purged : List Key) → P h → P (record h { purged = purged })
  pub of_made : (h : History) (change : MadeChange) → change.dot.site.0 ≡ 0 → P h → P (record h { made = change ∷ h.made })

-- a decision that makes a change makes one of the publisher
abbrev pub DecidesAsOwn : Fate → Type 0
DecidesAsOwn New = Unit {0}
DecidesAsOwn Unknown = Unit {0}
DecidesAsOwn (Met held case decision dot) = dot.site.0 ≡ 0

fate-own : (judge : PublisherJudge) (site : SiteId) (number : ℕ) (decisions : List Decision) (item : UploadItem) (found : Option PublisherRow) → DecidesAsOwn (fate_by judge site number decisions item found)
fate-own judge site number decisions item None = elim (is_new_row judge site (key_of_item item)) as (λ (b : Bool). DecidesAsOwn (if b then New else Unknown)) [
  | true ↦ tt
  | false ↦ tt
]
fate-own judge site number decisions item (Some held) = refl

from-own : (judge : PublisherJudge) (site : SiteId) (p : PublisherTables) (number : ℕ) (decisions : List Decision) (items : List UploadItem) → AllByRecursion (λ (act : Act). DecidesAsOwn act.fate) (acts_from judge site p number decisions items)
from-own judge site p number decisions [] = tt
from-own judge site p number decisions (item ∷ items) =
    let act : Act = act_of judge site p number decisions item in
    (fate-own judge site number decisions item (row_at p.rows (key_of_item item)), from-own judge site p (number + made_by act.fate) (left_by act.fate decisions) items)

pub acts-own : (judge : PublisherJudge) (m : Upload) (decisions : List Decision) (p : PublisherTables) → AllByRecursion (λ (act : Act). DecidesAsOwn act.fate) (acts_of judge m decisions p)
acts-own judge m decisions p = from-own judge m.site p (p.changes + 1) decisions (acting_items judge m)

module _ (P : History → Type 0) (keeps : NotesKeep P) where
  pub lines-keep : (lines : List Line) (h : History) → P h → P (Noting.with_lines lines h)
  lines-keep [] h p = p
  lines-keep (line ∷ lines) h p = lines-keep lines (Noting.with_line h line) (keeps.of_lines h (line ∷ h.lines) p)

  past-keep : (site : ℕ) (key : Key) (past : Past) (h : History) → P h → P (Noting.with_past site key past h)
  past-keep site key past h p = keeps.of_pasts h (Noting.with_past site key past h).pasts p

  lost-keep : (site : ℕ) (key : Key) (past : Past) (h : History) → P h → P (Noting.with_lost site key past h)
  lost-keep site key past h p = keeps.of_lost h (Noting.with_lost site key past h).lost p

  made-keep : (change : MadeChange) (h : History) → change.dot.site.0 ≡ 0 → P h → P (Noting.with_made change h)
  made-keep change h own p = past-keep change.dot.site.0 change.key change.past (record h { made = change ∷ h.made }) (keeps.of_made h change own p)

  -- a local change at the publisher
  pub own-keep : (publication : Publication) (judge : PublisherJudge) (change : Change) (d : Drawn) (q : PublisherTables) (h : History) → P h → P (own_noted publication judge change d q h)
  own-keep publication judge change d q h p =
      let made : History = Noting.with_change publication (record { site = record { 0 = 0 }; number = q.changes + 1 }) (last_closed q + 1) change d.value h in
      lines-keep (Noting.lines_of_entries (last_closed q + 1) (Noting.drawn_entries publication judge change q d)) made (made-keep _ h refl p)

  -- the acts of an upload
  loser-keep : (decision : Decision) (key : Key) (ours theirs : Past) (h : History) → P h → P (Noting.with_loser decision key ours theirs h)
  loser-keep KeepPublisher key ours theirs h p = lost-keep 0 key theirs h p
  loser-keep TakeSubscriber key ours theirs h p = lost-keep 0 key ours h p
  loser-keep (Custom values) key ours theirs h p = lost-keep 0 key theirs (Noting.with_lost 0 key ours h) (lost-keep 0 key ours h p)

  decided-keep : (decision : Decision) (dot : Dot) (generation : ℕ) (key : Key) (case : Case) (past : Past) (h : History) → dot.site.0 ≡ 0 → P h → P (Noting.with_decided decision dot generation key case past h)
  decided-keep KeepPublisher dot generation key case past h own p = past-keep 0 key past h p
  decided-keep TakeSubscriber dot generation key case past h own p = past-keep 0 key past h p
  decided-keep (Custom values) dot generation key case past h own p = made-keep (Noting.decided_change dot generation key case past) h own p

  fate-keep : (fate : Fate) (generation : ℕ) (key : Key) (incoming : Past) (h : History) → DecidesAsOwn fate → P h → P (Noting.with_fate fate generation key incoming h)
  fate-keep New generation key incoming h own p = past-keep 0 key incoming h p
  fate-keep Unknown generation key incoming h own p = lost-keep 0 key incoming h p
  fate-keep (Met held case decision dot) generation key incoming h own p =
      let after : History = Noting.with_decided decision dot generation key case (past_by case decision dot (past_at h 0 key) incoming) h in
      let decided : P after = decided-keep decision dot generation key case (past_by case decision dot (past_at h 0 key) incoming) h own p in
      if-both P (is_conflict case) (Noting.with_loser decision key (past_at h 0 key) incoming after) after (loser-keep decision key (past_at h 0 key) incoming after decided) decided

  act-keep : (incoming : List (Key × Past)) (entries : Entries) (act : Act) (h : History) → DecidesAsOwn act.fate → P h → P (Noting.with_act incoming entries h act)
  act-keep incoming entries act h own p =
      let past : Past = past_in incoming act.key in
      let after : History = Noting.with_fate act.fate (Noting.entry_generation entries act.key) act.key past h in
      keeps.of_accepted after (Noting.with_accepted past after).accepted (fate-keep act.fate (Noting.entry_generation entries act.key) act.key past h own p)

  pub acts-keep : (incoming : List (Key × Past)) (entries : Entries) (acts : List Act) (h : History) → AllByRecursion (λ (act : Act). DecidesAsOwn act.fate) acts → P h → P (fold (Noting.with_act incoming entries) h acts)
  acts-keep incoming entries [] h own p = p
  acts-keep incoming entries (act ∷ acts) h own p = acts-keep incoming entries acts (Noting.with_act incoming entries h act) own.1 (act-keep incoming entries act h own.0 p)

  -- a reply
  order-keep : (site : ℕ) (incoming : List (Key × Past)) (key : Key) (o : Order) (h : History) → P h → P (Noting.with_order_past site incoming key o h)
  order-keep site incoming key (order.Put lineage live) h p = past-keep site key (past_in incoming key) h p
  order-keep site incoming key order.RemoveDeleted h p = keeps.of_pasts h (Noting.without_past site key h).pasts p
  order-keep site incoming key order.RemoveLeft h p = keeps.of_pasts h (Noting.without_past site key h).pasts p

  items-keep : (judge : SubscriberJudge) (received site : ℕ) (incoming : List (Key × Past)) (items : List DownloadItem) (h : History) → P h → P (fold (Noting.with_item_past judge received site incoming) h items)
  items-keep judge received site incoming [] h p = p
  items-keep judge received site incoming (item ∷ items) h p = items-keep judge received site incoming items (Noting.with_item_past judge received site incoming h item)
      (if-both P (judge.is_unsent received (key_of_download item)) h (Noting.with_order_past site incoming (key_of_download item) item.act h) p (order-keep site incoming (key_of_download item) item.act h p))

  pub reply-keep : (judge : SubscriberJudge) (site : SiteId) (incoming : List (Key × Past)) (m : Reply) (h : History) → P h → P (Noting.noted_reply judge site incoming m h)
  reply-keep judge site incoming (reply.Downloaded m) h p = items-keep judge m.received site.0 incoming m.items h p
  reply-keep judge site incoming (reply.Joined m) h p = p
  reply-keep judge site incoming (reply.Uploaded m) h p = p
  reply-keep judge site incoming (reply.Ranged m) h p = p
  reply-keep judge site incoming (reply.Refused number values) h p = p

  -- making anew
  discarded-keep : (site : SiteId) (rows : List (Key × Version)) (h : History) → P h → P (fold (Noting.with_discarded site) h rows)
  discarded-keep site [] h p = p
  discarded-keep site (row ∷ rows) h p = discarded-keep site rows (Noting.with_discarded site h row) (lost-keep site.0 row.0 (past_at h site.0 row.0) h p)

  pub anew-keep : (judge : SubscriberJudge) (s : SubscriberTables) (h : History) → P h → P (Noting.noted_anew judge s h)
  anew-keep judge s h p =
      let after : History = fold (Noting.with_discarded s.site) h (discarded_versions judge s) in
      keeps.of_pasts after (put_number after.pasts s.site.0 []) (discarded-keep s.site (discarded_versions judge s) h p)

  -- forgetting
  purged-keep : (keys : List Key) (h : History) → P h → P (fold Noting.with_purged h keys)
  purged-keep [] h p = p
  purged-keep (key ∷ keys) h p =
      let purged : History = record h { purged = key ∷ h.purged } in
      purged-keep keys (Noting.with_purged h key) (keeps.of_pasts purged (Noting.without_past 0 key purged).pasts (keeps.of_purged h (key ∷ h.purged) p))

  pub purge-keep : (publication : Publication) (judge : PublisherJudge) (q : PublisherTables) (h : History) → P h → P (Noting.noted_purge publication judge q h)
  purge-keep publication judge q h p =
      let rows : List Key = Noting.old_tombstones publication q in
      let lines : List Line = map (Noting.gone_line (last_closed q + 1)) (flat_map (Noting.old_left publication judge q) (map Noting.site_of_subscription (by_site publication))) in
      lines-keep lines (fold Noting.with_purged h rows) (purged-keep rows h p)
