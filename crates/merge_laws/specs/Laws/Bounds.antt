-- The bounds on a session's uploads and downloads never end it: with a greater bound it does the same.
use Rattle.std.specs.Prelude.{◌≡◌, ◌+◌, ◌-◌, ℕ, None, Some, true, if◌then◌else◌, nat_le}
use Rattle.merge_types.specs.declared.identifiers.SiteId.{SiteId}
use Rattle.merge_schema.specs.declared.publication.Publication.{Publication}
use Rattle.merge_batch.specs.declared.reply.Downloaded.{Downloaded}
use Rattle.merge_model.specs.History.Model.{Model, model}
use Rattle.merge_model.specs.World.Session.{Session, Stepping, after_download, all_downloads, all_uploads, downloads_up_to, exchange, unsent_generations, uploads_up_to, with_answer}
use Rattle.merge_model.specs.World.Steps.{SendDownload}
use Rattle.merge_model.specs.Tables.{SubscriberTables}
use Rattle.merge_model.specs.World.{Saying, subscriber_at}

-- a session's part under way from this model, after so many uploads and downloads
abbrev pub under_way : Model → ℕ → ℕ → Session Model
under_way m uploads downloads = record { world = m; uploads = uploads; downloads = downloads; stop = None }

-- with so many more uploads than the session makes at most
abbrev pub more_uploads : Stepping Model → SiteId → ℕ → Session Model → Session Model
more_uploads stepping site more s = uploads_up_to stepping site (unsent_generations stepping site s.world + more) s

-- with so many more downloads
abbrev pub more_downloads : Stepping Model → SiteId → ℕ → Session Model → Session Model
more_downloads stepping site more s = exchange stepping site SendDownload (with_answer stepping site)
    (after_download stepping site (λ (m : Downloaded) (t : Session Model). if nat_le m.last m.from then t else downloads_up_to stepping site (m.last + 1 - m.from + more) m.last t)) s

abbrev pub UploadsAreEnough : Publication → Saying → Model → Type 0
UploadsAreEnough publication says m = (s : SubscriberTables) (uploads downloads more : ℕ) → subscriber_at m.world s.site ≡ Some s → s.is_joined ≡ true
    → more_uploads (model publication says) s.site more (under_way m uploads downloads) ≡ all_uploads (model publication says) s.site (under_way m uploads downloads)

abbrev pub DownloadsAreEnough : Publication → Saying → Model → Type 0
DownloadsAreEnough publication says m = (s : SubscriberTables) (uploads downloads more : ℕ) → subscriber_at m.world s.site ≡ Some s → s.is_joined ≡ true
    → more_downloads (model publication says) s.site more (under_way m uploads downloads) ≡ all_downloads (model publication says) s.site (under_way m uploads downloads)
