-- Replies of the pool as they come back to the sites that asked, and which fit.
use Rattle.std.specs.List.{list_all}
use Rattle.std.specs.Prelude.{Bool, None, Some, false, nat_le, true, ◌&&◌, ◌==◌, ◌≡◌, ℕ}
use Rattle.merge_types.specs.declared.identifiers.SiteId.{SiteId}
use Rattle.merge_schema.specs.declared.publication.Publication.{Publication}
use Rattle.merge_batch.specs.Articles.{has_article}
use Rattle.merge_batch.specs.Makers.{maker_of}
use Rattle.merge_batch.specs.Replies.{act_fits, maker_fits}
use Rattle.merge_batch.specs.declared.refusal.Refusal.{Refusal}
use Rattle.merge_batch.specs.declared.reply.Act.{Act as Order}
use Rattle.merge_batch.specs.declared.reply.Act.TheVariants as order
use Rattle.merge_batch.specs.declared.reply.DownloadItem.{DownloadItem}
use Rattle.merge_batch.specs.declared.reply.Downloaded.{Downloaded}
use Rattle.merge_batch.specs.declared.reply.Reply.{Reply}
use Rattle.merge_batch.specs.declared.reply.Reply.TheVariants as reply
use Rattle.merge_batch.specs.declared.request.Outstanding.{Outstanding}
use Rattle.merge_batch.specs.declared.request.Outstanding.TheVariants as ask
use Rattle.merge_batch.specs.declared.standing.Standing.{Standing}
use Rattle.merge_model.specs.World.Faults.{reply_fault, standing_of}
use Rattle.merge_model.specs.History.Model.{Model}
use Rattle.merge_model.specs.Tables.{SubscriberTables}
use Rattle.merge_model.specs.Subscriber.Taking.{seq_of}
use Rattle.merge_model.specs.World.{Saying, letter_at, subscriber_at}
use Rattle.merge_model.specs.declared.letter.Message.TheVariants.{Replies}
use Rattle.merge_model.specs.declared.outcome.Outcome.TheVariants.{Refuses}
use Rattle.merge_laws.specs.Laws.ActsOnce.{step_of_delivery}

-- a letter of the pool is a reply
abbrev pub IsReply : Model → ℕ → SiteId → Reply → Type 0
IsReply m number site r = letter_at m.world number ≡ Some (record { site = site; message = Replies r })

-- A reply of the pool that has the number of its site's outstanding message fits that message.
abbrev pub RepliesFit : Publication → Saying → Model → Type 0
RepliesFit publication says m = (number : ℕ) (site : SiteId) (r : Reply) (s : SubscriberTables) (sent : Outstanding) → IsReply m number site r
    → subscriber_at m.world site ≡ Some s → s.outstanding ≡ Some (seq_of r, sent) → reply_fault publication sent r s ≡ None

-- No delivery of a reply of the pool is refused.
abbrev pub NoReplyIsRefused : Publication → Saying → Model → Type 0
NoReplyIsRefused publication says m = (number : ℕ) (site : SiteId) (r : Reply) (why : Refusal) → IsReply m number site r → (step_of_delivery publication says m number).1 ≡ Refuses why → ⊥

-- A reply of the pool that has the number of its site's outstanding message is of the kind that the message asks for, and tells
-- what it was asked: an upload was taken to its end, and a download begins where it was asked.
abbrev pub answers : Outstanding → Reply → Bool
answers ask.Join (reply.Joined m) = true
answers (ask.Upload from to) (reply.Uploaded m) = nat_le to m.received
answers ask.Ranges (reply.Ranged m) = true
answers (ask.Download from) (reply.Downloaded m) = m.from == from
answers sent r = false

abbrev pub RepliesAnswer : Publication → Saying → Model → Type 0
RepliesAnswer publication says m = (number : ℕ) (site : SiteId) (r : Reply) (s : SubscriberTables) (sent : Outstanding) → IsReply m number site r
    → subscriber_at m.world site ≡ Some s → s.outstanding ≡ Some (seq_of r, sent) → answers sent r ≡ true

-- What a reply of the pool puts, its site may take: the row fits its article, its lineage is well formed and knows its tops, and
-- knows no change of the site that the site did not make, nor is the row's maker such a change.
abbrev pub put_fits : Publication → Standing → ℕ → ℕ → Order → Bool
put_fits publication own article row (order.Put lineage live) = act_fits publication own article (order.Put lineage live) && maker_fits own (maker_of row)
put_fits publication own article row other = true

abbrev pub PutsFit : Publication → Saying → Model → Type 0
PutsFit publication says m = (number : ℕ) (site : SiteId) (d : Downloaded) (s : SubscriberTables) → IsReply m number site (reply.Downloaded d) → subscriber_at m.world site ≡ Some s
    → list_all (λ (item : DownloadItem). put_fits publication (standing_of s) item.article item.row.0 item.act) d.items ≡ true

-- What it removes are rows of an article that there is, and of no change that the site did not make.
abbrev pub removal_fits : Publication → Standing → ℕ → ℕ → Order → Bool
removal_fits publication own article row (order.Put lineage live) = true
removal_fits publication own article row other = has_article publication article && maker_fits own (maker_of row)

abbrev pub RemovalsFit : Publication → Saying → Model → Type 0
RemovalsFit publication says m = (number : ℕ) (site : SiteId) (d : Downloaded) (s : SubscriberTables) → IsReply m number site (reply.Downloaded d) → subscriber_at m.world site ≡ Some s
    → list_all (λ (item : DownloadItem). removal_fits publication (standing_of s) item.article item.row.0 item.act) d.items ≡ true
