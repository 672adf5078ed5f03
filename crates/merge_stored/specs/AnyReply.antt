-- Whatever reply comes to a subscriber, forged or honest, and whatever other step it makes, tables that keep the rules of a start keep
-- them afterwards.
use Rattle.std.specs.List.Sorted.{IsStrictlySortedBy}
use Rattle.std.specs.Map.{keys_of}
use Rattle.std.specs.Prelude.{IfOk, IfSome, Option, Result, length, true, ℕ, ◌≡◌, ◌≤◌}
use Rattle.merge_types.specs.Limits.{counter_limit}
use Rattle.merge_types.specs.RowKeys.{key_cmp}
use Rattle.merge_types.specs.declared.changes.Change.{Change}
use Rattle.merge_types.specs.declared.identifiers.Moment.{Moment}
use Rattle.merge_schema.specs.Places.{is_subscription}
use Rattle.merge_schema.specs.Valid.{IsValid}
use Rattle.merge_schema.specs.declared.publication.Publication.{Publication}
use Rattle.merge_batch.specs.Articles.{has_article}
use Rattle.merge_batch.specs.LocalChanges.{article_of}
use Rattle.merge_batch.specs.declared.refusal.Refusal.{Refusal}
use Rattle.merge_batch.specs.declared.reply.Reply.{Reply}
use Rattle.merge_keeper.specs.SubscriberRules as of_subscriber
use Rattle.merge_model.specs.Judge.ByNumbers.{by_rows}
use Rattle.merge_model.specs.Publisher.{new_holders}
use Rattle.merge_model.specs.Subscriber.Reinit.{reinitialise}
use Rattle.merge_model.specs.Subscriber.Sending.{make_ask, make_join, make_ranges, make_upload}
use Rattle.merge_model.specs.Subscriber.Taking.{take_reply}
use Rattle.merge_model.specs.Subscriber.{close_subscriber_generation, subscriber_local}
use Rattle.merge_model.specs.Tables.{SubscriberTables}
use Rattle.merge_typed.specs.Outside.{ChangeIsTyped}
use Rattle.merge_typed.specs.Typed.{MomentFits}
use Rattle.merge_stored.specs.HasTypes.{ReplyHasTypes}
use Rattle.merge_stored.specs.Stored.{subscriber_stored}

-- The tables of a subscriber of the publication, with its rows in order, keep all rules that a start tests.
pub record SubscriberKeeps (publication : Publication) (s : SubscriberTables) : Type 0 where
  pub subscribes : is_subscription publication s.site.0 ≡ true
  pub ascending : IsStrictlySortedBy key_cmp (keys_of s.rows)
  pub rules : of_subscriber.KeepRules publication (new_holders publication) (subscriber_stored s)

-- A call that is not refused leaves such tables, and so does the making of a message.
abbrev pub LeavesRules : {A : Type 0} → Publication → Result (SubscriberTables × A) Refusal → Type 0
LeavesRules publication done = IfOk done (λ after. SubscriberKeeps publication after.0)

abbrev pub SendsWithRules : {A : Type 0} → Publication → Result (Option (SubscriberTables × A)) Refusal → Type 0
SendsWithRules publication done = IfOk done (λ made. IfSome made (λ after. SubscriberKeeps publication after.0))

-- Of each call. A local change names an article that there is, and what is discarded as a site is made anew fits in memory.
pub record SubscriberCallsKeep (publication : Publication) (s : SubscriberTables) : Type 0 where
  pub of_reply : (now : Moment) (m : Reply) → MomentFits now → ReplyHasTypes m → LeavesRules publication (take_reply publication (by_rows s) now m s)
  pub of_change : (now : Moment) (change : Change) → MomentFits now → ChangeIsTyped change → has_article publication (article_of change) ≡ true → LeavesRules publication (subscriber_local publication now change s)
  pub of_closing : (now : Moment) → MomentFits now → LeavesRules publication (close_subscriber_generation now s)
  pub of_join : SendsWithRules publication (make_join s)
  pub of_upload : (now : Moment) → MomentFits now → SendsWithRules publication (make_upload (by_rows s) now s)
  pub of_ranges : SendsWithRules publication (make_ranges s)
  pub of_ask : LeavesRules publication (make_ask s)
  pub of_anew : (now : Moment) → MomentFits now → length s.rows ≤ counter_limit → LeavesRules publication (reinitialise (by_rows s) now s)

-- of publications that a file can say
abbrev pub AnyReplyKeepsRules : Type 0
AnyReplyKeepsRules = (resolvers : ℕ) (publication : Publication) → IsValid resolvers publication → (s : SubscriberTables) → SubscriberKeeps publication s → SubscriberCallsKeep publication s
