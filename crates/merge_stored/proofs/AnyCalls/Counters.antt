-- No step closes so many generations that their number passes the limit, however many rows a publisher holds in memory.
use Rattle.std.specs.Prelude.{length, ℕ, ◌<◌, ◌^◌, ◌≤◌}
use Rattle.std.proofs.Common.{arith}
use Rattle.std.proofs.lemmas.List.{length-map}
use Rattle.merge_types.specs.Limits.{counter_limit, entry_limit, item_limit, number_limit}
use Rattle.merge_types.specs.declared.row_key.RowKey.{RowKey as Key}
use Rattle.merge_units.specs.declared.version.Version.{Version}
use Rattle.merge_schema.specs.declared.publication.Publication.{Publication}
use Rattle.merge_model.specs.Judge.{PublisherJudge}
use Rattle.merge_model.specs.Publisher.{last_closed}
use Rattle.merge_model.specs.Publisher.Entries.{Changing, changed_by, changing_entries, entry_count}
use Rattle.merge_model.specs.Tables.{PublisherTables}
use Rattle.merge_honest.proofs.EntriesFill.{all-counted}
use Rattle.merge_honest.proofs.RowCounts.{moves-few}

-- more entries than any step makes
abbrev most_entries : ℕ
most_entries = 1_163_000_000_000_000_000_000

module _ (publication : Publication) (few : length publication.subscriptions ≤ 63) (judge : PublisherJudge) (changing : Changing) (p : PublisherTables) where
  entries-few : length p.rows < 2 ^ 64 → length changing.versions ≤ item_limit → length changing.acted ≤ item_limit → entry_count (changing_entries publication judge changing p) ≤ most_entries
  entries-few rows versions acted =
      let counted = all-counted publication judge changing p in
      let moves = moves-few publication few judge changing p in
      let keys = length-map changing.versions (λ (row : Key × Version). row.0) in
      omega (arith, rows, versions, acted, counted, moves, keys)

  pub closed-low : length p.rows < 2 ^ 64 → length changing.versions ≤ item_limit → length changing.acted ≤ item_limit → p.gens.filling.filled < entry_limit → last_closed p < counter_limit → last_closed (changed_by publication judge changing p) < number_limit
  closed-low rows versions acted low closed = (let entries = entries-few rows versions acted in omega (arith, entries, low, closed))
