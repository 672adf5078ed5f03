-- An upload takes effect once: what its items do is done as their generations act, and no delivery does it again.
use Rattle.std.specs.Prelude.{true, not, if◌then◌else◌, filter, ◌≡◌, ◌≤◌, ◌<◌, ◌++◌, ◌||◌, ℕ, Bool, List, [], ◌∷◌, Option, Some}
use Rattle.std.specs.List.{list_all}
use Rattle.merge_types.specs.declared.identifiers.SiteId.{SiteId}
use Rattle.merge_conflict.specs.declared.row.ConflictRow.{ConflictRow}
use Rattle.merge_schema.specs.declared.publication.Publication.{Publication}
use Rattle.merge_batch.specs.declared.reply.Reply.TheVariants as reply
use Rattle.merge_batch.specs.declared.request.Request.TheVariants as request
use Rattle.merge_batch.specs.declared.request.Upload.{Upload}
use Rattle.merge_batch.specs.declared.request.UploadItem.{UploadItem}
use Rattle.merge_model.specs.Failing.{Slips}
use Rattle.merge_model.specs.Failing.Runs.{model_after, model_after_actions}
use Rattle.merge_model.specs.declared.event.Event.{Event}
use Rattle.merge_model.specs.Publisher.Acts.{key_of_item}
use Rattle.merge_model.specs.Judge.ByHistory.{received_by_done}
use Rattle.merge_model.specs.History.{History, MadeChange, Past, is_done, past_at}
use Rattle.merge_model.specs.Tables.Keys.{row_at, same_key}
use Rattle.merge_model.specs.History.Model.{Model, did_something, model_step}
use Rattle.merge_model.specs.Laws.Promises.{key_of_conflict}
use Rattle.merge_model.specs.Publisher.{at_moment}
use Rattle.merge_model.specs.World.Steps.{Action, Deliver}
use Rattle.merge_model.specs.declared.outcome.Outcome.{Outcome}
use Rattle.merge_types.specs.declared.row_key.RowKey.{RowKey as Key}
use Rattle.merge_units.specs.declared.site_row.PublisherRow.{PublisherRow}
use Rattle.merge_model.specs.Tables.{PublisherTables}
use Rattle.merge_model.specs.World.{Saying, letter_at}
use Rattle.merge_model.specs.declared.letter.Message.TheVariants.{Asks, Replies}
use Rattle.merge_model.specs.declared.letter.Letter.{Letter}

-- a letter of the pool is an upload
abbrev pub IsUpload : Model → ℕ → SiteId → Upload → Type 0
IsUpload m number site u = letter_at m.world number ≡ Some (record { site = site; message = Asks (request.Upload u) })

-- a letter comes to where it goes
abbrev pub step_of_delivery : Publication → Saying → Model → ℕ → Model × Outcome
step_of_delivery publication says m number = model_step publication says m (Deliver number)

-- What the publisher has of a row: the version that it holds with the generation of its change, what that comes from, the versions that lost, and the changes that were made of the row.
pub record OfRow : Type 0 where
  pub held : Option PublisherRow
  pub past : Past
  pub conflicts : List ConflictRow
  pub lost : List (ℕ × (Key × Past))
  pub made : List MadeChange

abbrev pub of_row : PublisherTables → History → Key → OfRow
of_row p h key = record {
  held = row_at p.rows key;
  past = past_at h 0 key;
  conflicts = filter (λ (row : ConflictRow). same_key key (key_of_conflict row)) p.conflicts;
  lost = filter (λ (lost : ℕ × (Key × Past)). same_key key lost.1.0) h.lost;
  made = filter (λ (change : MadeChange). same_key key change.key) h.made;
}

-- Every item of the row stands in a generation that has acted. So it is also where the upload has no item of the row.
abbrev pub row_has_acted : History → Upload → Key → Bool
row_has_acted h u key = list_all (λ (item : UploadItem). not (same_key key (key_of_item item)) || is_done h u.site.0 item.generation) u.items

-- Such a row stays as it is, whatever the other items do, and whatever came before.
abbrev pub ActedRowsStay : Type 0
ActedRowsStay = (publication : Publication) (says : Saying) (m : Model) (number : ℕ) (site : SiteId) (u : Upload) (key : Key) → IsUpload m number site u → row_has_acted m.history u key ≡ true
    → (let n : Model = (step_of_delivery publication says m number).0 in of_row n.world.publisher n.history key ≡ of_row m.world.publisher m.history key)

-- Items of generations that have acted do nothing at all. Where the pool had the upload without them, the same would come of its delivery, but for the pool itself.
abbrev pub without_acted : History → Upload → Upload
without_acted h u = record u { items = filter (λ (item : UploadItem). not (is_done h u.site.0 item.generation)) u.items }

abbrev pub with_pool : List Letter → Model → Model
with_pool pool m = record m { world = record m.world { pool = pool } }

abbrev pub ActedItemsDoNothing : Type 0
ActedItemsDoNothing = (publication : Publication) (says : Saying) (m : Model) (number : ℕ) (site : SiteId) (u : Upload) (pool : List Letter) → IsUpload m number site u → IsUpload (with_pool pool m) number site (without_acted m.history u)
    → (let done : Model × Outcome = step_of_delivery publication says m number in
    let other : Model = (step_of_delivery publication says (with_pool pool m) number).0 in
    did_something done.1 ≡ true → other ≡ with_pool other.world.pool done.0)

-- each generation of the upload has acted
abbrev pub AllActed : History → Upload → Type 0
AllActed h u = (generation : ℕ) → u.from < generation → generation ≤ u.to → is_done h u.site.0 generation ≡ true

-- The publisher takes the moment over and answers with the last generation that has acted. All else stays: the other tables of the publisher, the subscribers, the tallies of resolvers and the history, which has no past in the answer.
abbrev pub answer_to : History → SiteId → Upload → Letter
answer_to h site u = record { site = site; message = Replies (reply.Uploaded (record { seq = u.seq; received = received_by_done h u.site.0 })) }

abbrev pub with_answer : SiteId → Upload → Model → Model
with_answer site u m = record {
  world = record m.world {
    publisher = at_moment m.world.moment m.world.publisher;
    pool = m.world.pool ++ answer_to m.history site u ∷ [];
  };
  history = record m.history { letters = m.history.letters ++ [] ∷ [] };
}

-- where it is refused, not even that
abbrev pub OnlyAnswers : SiteId → Upload → Model → Model × Outcome → Type 0
OnlyAnswers site u m done = done.0 ≡ (if did_something done.1 then with_answer site u m else m)

-- An upload whose generations have all acted is only answered, or refused.
abbrev pub ActedUploadsOnlyAnswer : Type 0
ActedUploadsOnlyAnswer = (publication : Publication) (says : Saying) (m : Model) (number : ℕ) (site : SiteId) (u : Upload) → IsUpload m number site u → AllActed m.history u
    → OnlyAnswers site u m (step_of_delivery publication says m number)

-- After a delivery that is not refused each generation of the upload has acted,
abbrev pub TakenHaveActed : Publication → Saying → Model → Type 0
TakenHaveActed publication says m = (number : ℕ) (site : SiteId) (u : Upload) → IsUpload m number site u
    → (let done : Model × Outcome = step_of_delivery publication says m number in did_something done.1 ≡ true → AllActed done.0.history u)

-- what has acted stays so, whatever happens,
abbrev pub DoneStays : Publication → Saying → Model → Type 0
DoneStays publication says m = (site generation : ℕ) → is_done m.history site generation ≡ true → (slips : Slips) (more : List Event) → is_done (model_after publication says m slips more).history site generation ≡ true

-- the pool keeps each letter at its number,
abbrev pub LettersStay : Publication → Saying → Model → Type 0
LettersStay publication says m = (number : ℕ) (letter : Letter) → letter_at m.world number ≡ Some letter → (slips : Slips) (more : List Event) → letter_at (model_after publication says m slips more).world number ≡ Some letter

-- so that another delivery, at once or after whatever events, is only answered, or refused.
abbrev pub TakenOnlyAnswer : Publication → Saying → Model → Type 0
TakenOnlyAnswer publication says m = (number : ℕ) (site : SiteId) (u : Upload) → IsUpload m number site u
    → (let done : Model × Outcome = step_of_delivery publication says m number in did_something done.1 ≡ true → (slips : Slips) (more : List Event)
    → (let later : Model = model_after publication says done.0 slips more in OnlyAnswers site u later (step_of_delivery publication says later number)))

-- The same where single actions come afterwards, in any order.

abbrev pub DoneStaysByActions : Publication → Saying → Model → Type 0
DoneStaysByActions publication says m = (site generation : ℕ) → is_done m.history site generation ≡ true → (slips : Slips) (more : List Action) → is_done (model_after_actions publication says m slips more).history site generation ≡ true

abbrev pub LettersStayByActions : Publication → Saying → Model → Type 0
LettersStayByActions publication says m = (number : ℕ) (letter : Letter) → letter_at m.world number ≡ Some letter → (slips : Slips) (more : List Action) → letter_at (model_after_actions publication says m slips more).world number ≡ Some letter

abbrev pub TakenOnlyAnswerByActions : Publication → Saying → Model → Type 0
TakenOnlyAnswerByActions publication says m = (number : ℕ) (site : SiteId) (u : Upload) → IsUpload m number site u
    → (let done : Model × Outcome = step_of_delivery publication says m number in did_something done.1 ≡ true → (slips : Slips) (more : List Action)
    → (let later : Model = model_after_actions publication says done.0 slips more in OnlyAnswers site u later (step_of_delivery publication says later number)))
