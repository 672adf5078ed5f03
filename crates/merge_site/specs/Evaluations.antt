-- How often a publisher evaluates filters for a request, at most.
use Rattle.std.specs.Prelude.{length, ℕ, ◌*◌}
use Rattle.merge_batch.specs.declared.request.Request.{Request}
use Rattle.merge_batch.specs.declared.request.Request.TheVariants as request
use Rattle.merge_schema.specs.declared.publication.Publication.{Publication}

-- for an upload once for each subscription and each of its items, and for other requests never
abbrev pub most_evaluations : Publication → Request → ℕ
most_evaluations publication (request.Upload m) = length publication.subscriptions * length m.items
most_evaluations publication m = 0
