-- The numbers of uploads and joins in the pool: a join that can still act was made after every upload of its site.
use Rattle.std.specs.Prelude.{◌≡◌, ◌≤◌, ◌<◌, ◌==◌, ℕ, List, [], ◌∷◌, if◌then◌else◌, max, Some}
use Rattle.std.specs.List.{AllByRecursion}
use Rattle.merge_batch.specs.declared.request.Request.TheVariants as request
use Rattle.merge_model.specs.Tables.Keys.{at_number}
use Rattle.merge_model.specs.Tables.{SubscriberTables}
use Rattle.merge_model.specs.World.{World}
use Rattle.merge_model.specs.declared.letter.Message.TheVariants.{Asks}
use Rattle.merge_model.specs.declared.letter.Letter.{Letter}
use Rattle.merge_model.specs.declared.letter.Message.{Message}
use Rattle.merge_laws.specs.Facts.Received.{joined_at}

-- the number of an upload, 0 for other messages
abbrev pub upload_seq : Message → ℕ
upload_seq (Asks (request.Upload m)) = m.seq
upload_seq message = 0

-- the greatest number of a site's uploads, 0 where there is none
abbrev pub last_upload : ℕ → List Letter → ℕ
last_upload n [] = 0
last_upload n (letter ∷ pool) = max (if letter.site.0 == n then upload_seq letter.message else 0) (last_upload n pool)

abbrev pub JoinIsLater : ℕ → ℕ → Message → Type 0
JoinIsLater joined last (Asks (request.Join m)) = joined < m.seq → last < m.seq
JoinIsLater joined last message = Unit {0}

pub record LetterOrder (w : World) : Type 0 where
  pub sent : (n : ℕ) (s : SubscriberTables) → at_number w.subscribers n ≡ Some s → last_upload n w.pool ≤ s.seq
  pub joins : AllByRecursion (λ (letter : Letter). JoinIsLater (joined_at w.publisher letter.site) (last_upload letter.site.0 w.pool) letter.message) w.pool
