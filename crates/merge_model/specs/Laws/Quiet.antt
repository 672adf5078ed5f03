-- Calls that commit nothing: the tables behind them are those before.
use Rattle.std.specs.Prelude.{false, List, Ok, ℕ, ◌≡◌}
use Rattle.merge_types.specs.declared.identifiers.Moment.{Moment}
use Rattle.merge_schema.specs.declared.publication.Publication.{Publication}
use Rattle.merge_batch.specs.declared.reply.Reply.{Reply}
use Rattle.merge_batch.specs.declared.request.Request.{Request}
use Rattle.merge_model.specs.World.Calls.{closing_commits, reply_commits, request_commits, result_of_request}
use Rattle.merge_model.specs.Judge.{SubscriberJudge}
use Rattle.merge_model.specs.Laws.{AreSorted}
use Rattle.merge_model.specs.Publisher.{close_generation}
use Rattle.merge_model.specs.Subscriber.{close_subscriber_generation}
use Rattle.merge_model.specs.Tables.{PublisherTables, SubscriberTables}
use Rattle.merge_model.specs.Subscriber.Taking.{take_reply}
use Rattle.merge_model.specs.World.{Saying}
use Rattle.merge_model.specs.declared.outcome.Taken.{Taken}

-- a request, at a publisher whose lists ascend
abbrev pub QuietRequests : Type 0
QuietRequests = (publication : Publication) (says : Saying) (tallies : List ℕ) (now : Moment) (m : Request) (p : PublisherTables) (done : PublisherTables × Reply) → AreSorted p
    → result_of_request publication says tallies now m p ≡ Ok done → request_commits publication now m p done.1 ≡ false → done.0 ≡ p

-- a closing
abbrev pub QuietClosings : Type 0
QuietClosings = (now : Moment) (p : PublisherTables) (done : PublisherTables × ℕ) → close_generation now p ≡ Ok done → closing_commits now p.latest p.gens done.1 ≡ false → done.0 ≡ p

abbrev pub QuietSubscriberClosings : Type 0
QuietSubscriberClosings = (now : Moment) (s : SubscriberTables) (done : SubscriberTables × ℕ) → close_subscriber_generation now s ≡ Ok done → closing_commits now s.latest s.gens done.1 ≡ false → done.0 ≡ s

-- a reply
abbrev pub QuietReplies : Type 0
QuietReplies = (publication : Publication) (judge : SubscriberJudge) (now : Moment) (m : Reply) (s : SubscriberTables) (done : SubscriberTables × Taken)
    → take_reply publication judge now m s ≡ Ok done → reply_commits m done.1 ≡ false → done.0 ≡ s
