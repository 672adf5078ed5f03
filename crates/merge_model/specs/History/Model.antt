-- The model: a world with its history. Its steps are those of the machine, decided by the history.
use Rattle.std.specs.Prelude.{Bool, List, None, Option, Some, [], false, filter_map, if◌then◌else◌, map, true, ℕ, ◌++◌, ◌==◌, ◌∷◌}
use Rattle.merge_types.specs.declared.changes.Change.{Change}
use Rattle.merge_types.specs.declared.identifiers.SiteId.{SiteId}
use Rattle.merge_schema.specs.declared.publication.Publication.{Publication}
use Rattle.merge_batch.specs.declared.reply.DownloadItem.{DownloadItem}
use Rattle.merge_batch.specs.declared.request.Request.{Request}
use Rattle.merge_batch.specs.declared.request.UploadItem.{UploadItem}
use Rattle.merge_model.specs.Publisher.Acts.{key_of_item}
use Rattle.merge_model.specs.declared.answer.Answer.{Answer}
use Rattle.merge_model.specs.Judge.ByHistory.{by_history}
use Rattle.merge_model.specs.World.Events.{answers}
use Rattle.merge_model.specs.History.{History, Past, no_history, past_in, pasts_at, pasts_with}
use Rattle.merge_model.specs.Judge.{PublisherJudge}
use Rattle.merge_model.specs.History.Noting.{noted_anew, noted_at_publisher, noted_at_subscriber, noted_join, noted_purge, noted_reply, noted_upload}
use Rattle.merge_model.specs.Publisher.{at_moment}
use Rattle.merge_model.specs.World.Session.{Stepping}
use Rattle.merge_model.specs.World.Steps.{Action, Deliver, Forget, Make, MakeAnew, kept_decisions, step_by, upload_questions}
use Rattle.merge_model.specs.declared.outcome.Outcome.{Outcome}
use Rattle.merge_model.specs.declared.outcome.Outcome.TheVariants.{Posted, Refuses, Took}
use Rattle.merge_types.specs.declared.row_key.RowKey.{RowKey as Key}
use Rattle.merge_model.specs.Subscriber.Taking.{key_of_download}
use Rattle.merge_model.specs.declared.outcome.Taken.TheVariants.{Missed}
use Rattle.merge_model.specs.World.{Judges, Saying, World, empty_world, letter_at, subscriber_at}
use Rattle.merge_model.specs.declared.letter.Message.TheVariants.{Asks, Replies}
use Rattle.merge_model.specs.declared.letter.Letter.{Letter}
use Rattle.merge_model.specs.declared.letter.Message.{Message}
use Rattle.merge_model.specs.declared.event.Event.{Event}
use Rattle.merge_batch.specs.declared.reply.Act.TheVariants as order
use Rattle.merge_batch.specs.declared.reply.Reply.TheVariants as reply
use Rattle.merge_batch.specs.declared.request.Request.TheVariants as request

pub record Model : Type 0 where
  pub world : World
  pub history : History

abbrev pub empty_model : Publication → List ℕ → Model
empty_model publication tallies = record { world = empty_world publication tallies; history = no_history }

-- The pasts of the versions in a message: of the rows that a site sends, or that the publisher puts.

abbrev pub past_of_item : List (Key × Past) → UploadItem → Key × Past
past_of_item pasts item = (key_of_item item, past_in pasts (key_of_item item))

abbrev pub put_past : List (Key × Past) → DownloadItem → Option (Key × Past)
put_past pasts item = elim item.act [
  | order.Put lineage live ↦ Some (key_of_download item, past_in pasts (key_of_download item))
  | order.RemoveDeleted ↦ None
  | order.RemoveLeft ↦ None
]

abbrev pub pasts_in : History → SiteId → Message → List (Key × Past)
pasts_in h site (Asks (request.Upload m)) = map (past_of_item (pasts_at h site.0)) m.items
pasts_in h site (Replies (reply.Downloaded m)) = filter_map (put_past (pasts_at h 0)) m.items
pasts_in h site message = []

abbrev pub with_letter : Letter → History → History
with_letter letter h = record h { letters = h.letters ++ pasts_in h letter.site letter.message ∷ [] }

abbrev pub with_posted : World → Outcome → History → History
with_posted w (Posted number) h = elim (letter_at w number) [
  | None ↦ h
  | Some letter ↦ with_letter letter h
]
with_posted w outcome h = h

-- What a step notes that did something.

abbrev pub noted_make : Publication → Judges → SiteId → Change → World → History → History
noted_make publication judges site change w h =
    if site.0 == 0 then noted_at_publisher publication (judges.publisher 0) change (at_moment w.moment w.publisher) h
    else elim (subscriber_at w site) [
      | None ↦ h
      | Some s ↦ noted_at_subscriber publication change s h
    ]

abbrev pub noted_request : Publication → Saying → PublisherJudge → List (Key × Past) → World → Request → History → History
noted_request publication says judge incoming w (request.Join m) h = noted_join judge m w.publisher h
noted_request publication says judge incoming w (request.Upload m) h =
    noted_upload publication judge m (kept_decisions says w.tallies (upload_questions publication judge w.moment m w.publisher)) incoming (at_moment w.moment w.publisher) h
noted_request publication says judge incoming w m h = h

abbrev pub noted_letter : Publication → Saying → Judges → ℕ → World → Letter → History → History
noted_letter publication says judges number w letter h = elim letter.message [
  | Asks m ↦ noted_request publication says (judges.publisher number) (pasts_with h number) w m h
  | Replies m ↦ elim (subscriber_at w letter.site) [
    | None ↦ h
    | Some s ↦ noted_reply (judges.subscriber letter.site s) letter.site (pasts_with h number) m h
  ]
]

abbrev pub noted_deliver : Publication → Saying → Judges → ℕ → World → History → History
noted_deliver publication says judges number w h = elim (letter_at w number) [
  | None ↦ h
  | Some letter ↦ noted_letter publication says judges number w letter h
]

abbrev pub noted_anew_at : Judges → SiteId → World → History → History
noted_anew_at judges site w h = elim (subscriber_at w site) [
  | None ↦ h
  | Some s ↦ noted_anew (judges.subscriber site s) s h
]

abbrev pub noted_action : Publication → Saying → Judges → World → Action → History → History
noted_action publication says judges w (Make site change) h = noted_make publication judges site change w h
noted_action publication says judges w (Deliver number) h = noted_deliver publication says judges number w h
noted_action publication says judges w (MakeAnew site) h = noted_anew_at judges site w h
noted_action publication says judges w Forget h = noted_purge publication (judges.publisher 0) (at_moment w.moment w.publisher) h
noted_action publication says judges w action h = h

-- a refusal notes nothing, nor does a reply that did not act
abbrev pub did_something : Outcome → Bool
did_something (Refuses refusal) = false
did_something (Took (Missed seq outstanding)) = false
did_something outcome = true

abbrev pub noted_if : Bool → History → History → History
noted_if true after before = after
noted_if false after before = before

-- One step of the model.
abbrev pub after_step : Publication → Saying → Model → Judges → Action → World × Outcome → Model × Outcome
after_step publication says m judges action done = (
  record {
    world = done.0;
    history = with_posted done.0 done.1 (noted_if (did_something done.1) (noted_action publication says judges m.world action m.history) m.history);
  },
  done.1,
)

abbrev pub model_step : Publication → Saying → Model → Action → Model × Outcome
model_step publication says m action = let judges = by_history m.history in
    after_step publication says m judges action (step_by publication says judges m.world action)

-- the world of a model is its tables: what the machine has
abbrev pub tables_of : Model → World
tables_of m = m.world

abbrev pub model : Publication → Saying → Stepping Model
model publication says = record {
  act = model_step publication says;
  look = tables_of;
  retally = λ (tallies : List ℕ) (m : Model). record m { world = record m.world { tallies = tallies } };
}

-- what the model answers to the events of a script
abbrev pub model_answers : Publication → Saying → List ℕ → List Event → List Answer
model_answers publication says tallies events = answers publication (model publication says) (empty_model publication tallies) events
