-- How many changes a site made in a generation, so that one generation fits into an upload, and that an upload has one.
use Rattle.std.specs.Prelude.{List, Some, count_by, ℕ, ◌+◌, ◌<◌, ◌==◌, ◌≡◌, ◌≤◌}
use Rattle.merge_types.specs.Limits.{entry_limit}
use Rattle.merge_batch.specs.declared.request.Request.TheVariants as request
use Rattle.merge_batch.specs.declared.request.Upload.{Upload}
use Rattle.merge_model.specs.History.{History, MadeChange, made_at}
use Rattle.merge_model.specs.Tables.Keys.{at_number}
use Rattle.merge_model.specs.Subscriber.{subscriber_last_closed}
use Rattle.merge_model.specs.Tables.{SubscriberTables}
use Rattle.merge_model.specs.World.{World}
use Rattle.merge_model.specs.declared.letter.Message.{Message}
use Rattle.merge_model.specs.declared.letter.Message.TheVariants.{Asks}

-- how many changes stand in a generation
abbrev pub count_in : ℕ → List MadeChange → ℕ
count_in generation made = count_by (λ (change : MadeChange). change.generation == generation) made

-- no generation of a site has more changes than fill one, and the open one has as many as its filling says
pub record IsFilled (made : List MadeChange) (s : SubscriberTables) : Type 0 where
  pub few : (generation : ℕ) → count_in generation made ≤ entry_limit
  pub entered : count_in (subscriber_last_closed s + 1) made ≡ s.gens.filling.filled

abbrev pub AreFilled : World → History → Type 0
AreFilled w h = (n : ℕ) (s : SubscriberTables) → at_number w.subscribers n ≡ Some s → IsFilled (made_at h n) s

-- what an upload has, of a message
abbrev pub OfUpload : (Upload → Type 0) → Message → Type 0
OfUpload Has (Asks (request.Upload m)) = Has m
OfUpload Has message = Unit {0}

-- an upload has a generation
abbrev pub HasGeneration : Upload → Type 0
HasGeneration m = m.from < m.to
