-- A world by the parts of a program that stand for it.
use Rattle.std.specs.Prelude.{Err, List, None, Ok, Option, Result, [], length, map, slice_get, suc, zero, ℕ, ◌++◌, ◌+◌, ◌∷◌}
use Rattle.merge_types.specs.declared.identifiers.Moment.{Moment}
use Rattle.merge_types.specs.declared.identifiers.SiteId.{SiteId}
use Rattle.merge_batch.specs.declared.refusal.Refusal.{Refusal}
use Rattle.merge_batch.specs.declared.reply.Reply.{Reply}
use Rattle.merge_model.specs.Tables.{PublisherTables, SubscriberTables}
use Rattle.merge_model.specs.World.{World}
use Rattle.merge_model.specs.declared.letter.Letter.{Letter}
use Rattle.merge_model.specs.declared.letter.Message.TheVariants.{Replies}
use Rattle.merge_model.specs.declared.outcome.Outcome.{Outcome}
use Rattle.merge_model.specs.declared.outcome.Outcome.TheVariants.{Posted, Refuses}

-- the world of a publisher, its subscribers in the order of their sites, resolvers, messages and a moment
abbrev pub world_of : {P S R : Type 0} → (P → PublisherTables) → (S → SubscriberTables) → (R → ℕ) → P → List S → List R → List Letter → Moment → World
world_of tables subscriber_tables tally p ss rs pool moment = record {
  publisher = tables p;
  subscribers = map (λ s. ((subscriber_tables s).site.0, subscriber_tables s)) ss;
  pool = pool;
  moment = moment;
  tallies = map tally rs;
}

-- the message with a number
abbrev pub letter_in_pool : List Letter → ℕ → Option Letter
letter_in_pool pool zero = None
letter_in_pool pool (suc number) = slice_get pool number

-- the world and the outcome behind a call of the publisher that makes a request
abbrev pub after_result : Result Reply Refusal → SiteId → World → PublisherTables → List ℕ → World × Outcome
after_result (Ok done) site w new tallies = (record w { publisher = new; tallies = tallies; pool = w.pool ++ record { site = site; message = Replies done } ∷ [] }, Posted (length w.pool + 1))
after_result (Err why) site w new tallies = (record w { publisher = new; tallies = tallies }, Refuses why)
