-- What a reply that fits the outstanding message says, whoever made it.
use Rattle.std.specs.List.{AllByRecursion}
use Rattle.std.specs.Prelude.{Bool, None, Option, Some, [], false, refl, true, ℕ, ◌&&◌, ◌<◌, ◌^◌, ◌≡◌, ◌≤◌, ◌∷◌}
use Rattle.std.proofs.Common.{arith}
use Rattle.std.proofs.lemmas.Bool.Decides.{nat_tests}
use Rattle.std.proofs.lemmas.List.Elements.{recursion_from_All}
use Rattle.merge_types.specs.Limits.{number_limit}
use Rattle.merge_types.specs.declared.row_key.RowKey.{RowKey as Key}
use Rattle.merge_schema.specs.Valid.{IsValid}
use Rattle.merge_schema.specs.declared.publication.Publication.{Publication}
use Rattle.merge_batch.proofs.AllMet.{all_good, none_second}
use Rattle.merge_batch.specs.Makers.{maker_of}
use Rattle.merge_batch.specs.Replies.{act_fits, broken_by_download, broken_by_misfit, broken_by_reply, downloaded_fits, item_fits, item_rules, maker_fits, row_rises}
use Rattle.merge_batch.specs.Search.{broken_by_items, first_broken}
use Rattle.merge_batch.specs.declared.reply.Act.{Act as Order}
use Rattle.merge_batch.specs.declared.reply.Act.TheVariants as order
use Rattle.merge_batch.specs.declared.reply.DownloadItem.{DownloadItem}
use Rattle.merge_batch.specs.declared.reply.Downloaded.{Downloaded}
use Rattle.merge_batch.specs.declared.reply.Reply.TheVariants as reply
use Rattle.merge_batch.specs.declared.reply.Uploaded.{Uploaded}
use Rattle.merge_batch.specs.declared.request.Outstanding.{Outstanding}
use Rattle.merge_batch.specs.declared.request.Outstanding.TheVariants as ask
use Rattle.merge_batch.specs.declared.rules.BrokenRule.{BrokenRule}
use Rattle.merge_batch.specs.declared.standing.Standing.{Standing}
use Rattle.merge_model.specs.Subscriber.Taking.{key_of_download}
use Rattle.merge_model.specs.Tables.{SubscriberTables}
use Rattle.merge_model.specs.World.Faults.{fault_of, reply_fault, standing_of}
use Rattle.merge_model.proofs.Lists.{all-both}
use Rattle.merge_laws.proofs.Told.ToldItems.{fault-none}
use Rattle.merge_stored.specs.HasTypes.{ItemHasTypes, OrderHasTypes}
use Rattle.merge_stored.proofs.AnyReply.RowSteps.{OrderStands}
use Rattle.merge_stored.proofs.AnyReply.Versions.{put-stands, put-typed}

-- An upload's: no fewer generations than the site knows of.
pub uploaded-low : (publication : Publication) (sent : Outstanding) (m : Uploaded) (s : SubscriberTables) → reply_fault publication sent (reply.Uploaded m) s ≡ None → s.received ≤ m.received
unfolding broken_by_reply
uploaded-low publication (ask.Upload from to) m s e = grind (arith, nat_tests, e)
uploaded-low publication ask.Join m s e = absurd (grind (arith, e))
uploaded-low publication ask.Ranges m s e = absurd (grind (arith, e))
uploaded-low publication (ask.Download from) m s e = absurd (grind (arith, e))

-- A download's: it ends below the limit of numbers.
pub downloaded-low : (publication : Publication) (sent : Outstanding) (m : Downloaded) (s : SubscriberTables) → reply_fault publication sent (reply.Downloaded m) s ≡ None → m.to < number_limit
unfolding broken_by_reply
downloaded-low publication (ask.Download from) m s e = grind (arith, nat_tests, e)
downloaded-low publication ask.Join m s e = absurd (grind (arith, e))
downloaded-low publication ask.Ranges m s e = absurd (grind (arith, e))
downloaded-low publication (ask.Upload from to) m s e = absurd (grind (arith, e))

-- And each of its items fits.

abbrev pub ItemFits : Publication → Standing → DownloadItem → Type 0
ItemFits publication own item = (act_fits publication own item.article item.act ≡ true) × (maker_fits own (maker_of item.row.0) ≡ true)

first-met : (fits : Bool) → first_broken ((0, fits) ∷ []) ≡ None → fits ≡ true
first-met true none = refl
first-met false none = absurd cc

last-two : (a b c : Bool) → (a && b && c) ≡ true → (b ≡ true) × (c ≡ true)
last-two a b c fits = (grind (arith, fits), grind (arith, fits))

item-good : (publication : Publication) (own : Standing) (before : Option DownloadItem) (item : DownloadItem) → first_broken (item_rules publication own before item) ≡ None → ItemFits publication own item
item-good publication own before item none =
    last-two (row_rises before item) (act_fits publication own item.article item.act) (maker_fits own (maker_of item.row.0)) (first-met (item_fits publication own before item) none)

items-by : (publication : Publication) (own : Standing) (from : ℕ) (m : Downloaded) → broken_by_download publication own from m ≡ None → AllByRecursion (ItemFits publication own) m.items
items-by publication own from m none =
    let items : broken_by_items (item_rules publication own) m.items ≡ None = none_second (broken_by_misfit (downloaded_fits own from m)) (broken_by_items (item_rules publication own) m.items) none in
    recursion_from_All (ItemFits publication own) m.items (all_good (ItemFits publication own) (item_rules publication own) (item-good publication own) 1 None m.items items)

misfit-never : {X : Type 0} → fault_of (broken_by_misfit false) ≡ None → X
misfit-never none = absurd cc

items-fit : (publication : Publication) (sent : Outstanding) (m : Downloaded) (s : SubscriberTables) → reply_fault publication sent (reply.Downloaded m) s ≡ None → AllByRecursion (ItemFits publication (standing_of s)) m.items
unfolding broken_by_reply
items-fit publication (ask.Download from) m s e = items-by publication (standing_of s) from m (fault-none (broken_by_download publication (standing_of s) from m) e)
items-fit publication ask.Join m s e = misfit-never e
items-fit publication ask.Ranges m s e = misfit-never e
items-fit publication (ask.Upload from to) m s e = misfit-never e

-- So what it puts stands.

module _ (resolvers : ℕ) (publication : Publication) (valid : IsValid resolvers publication) (s : SubscriberTables) where
  order-stands : (key : Key) (act : Order) → act_fits publication (standing_of s) key.article act ≡ true → maker_fits (standing_of s) (maker_of key.row.0) ≡ true → key.row.0 < 2 ^ 128 → OrderHasTypes act → OrderStands publication s.site.0 s.changes key act
  order-stands key (order.Put lineage live) fits maker row types = (put-stands publication resolvers valid (standing_of s) key lineage live fits maker row, put-typed publication (standing_of s) key.article lineage live fits types)
  order-stands key order.RemoveDeleted fits maker row types = tt
  order-stands key order.RemoveLeft fits maker row types = tt

  pub items-stand : (sent : Outstanding) (m : Downloaded) → reply_fault publication sent (reply.Downloaded m) s ≡ None → AllByRecursion ItemHasTypes m.items → AllByRecursion (λ (item : DownloadItem). OrderStands publication s.site.0 s.changes (key_of_download item) item.act) m.items
  items-stand sent m fine types =
      all-both (ItemFits publication (standing_of s)) ItemHasTypes (λ (item : DownloadItem). OrderStands publication s.site.0 s.changes (key_of_download item) item.act)
      (λ item fits is. order-stands (key_of_download item) item.act fits.0 fits.1 is.0 is.1) m.items (items-fit publication sent m s fine) types
