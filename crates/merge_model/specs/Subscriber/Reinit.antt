-- A subscriber is made anew: what was not sent is kept in its conflict table, and it joins again.
use Rattle.std.specs.Prelude.{List, None, Result, Some, [], false, filter_map, if◌then◌else◌, length, ℕ, ◌++◌, ◌+◌, ◌∷◌}
use Rattle.merge_types.specs.declared.identifiers.Moment.{Moment}
use Rattle.merge_units.specs.declared.version.Version.{Version}
use Rattle.merge_conflict.specs.declared.kind.ConflictKind.TheVariants as kind
use Rattle.merge_conflict.specs.declared.row.ConflictRow.{ConflictRow}
use Rattle.merge_batch.specs.declared.refusal.Refusal.{Refusal}
use Rattle.merge_model.specs.Judge.{SubscriberJudge}
use Rattle.merge_model.specs.Tables.Refusals.{counter_end, unless}
use Rattle.merge_model.specs.Subscriber.{subscriber_at_moment, subscriber_closed, subscriber_counters, subscriber_last_closed}
use Rattle.merge_types.specs.declared.row_key.RowKey.{RowKey as Key}
use Rattle.merge_units.specs.declared.site_row.SubscriberRow.{SubscriberRow}
use Rattle.merge_model.specs.Tables.{SubscriberTables}
use Rattle.merge_conflict.specs.declared.row.Verdict.TheVariants as verdict

abbrev pub discarded_row : SubscriberTables → ℕ → Key → Version → ConflictRow
discarded_row s number key version = record {
  number = number;
  article = key.article;
  row = key.row;
  kind = kind.Discarded;
  losing = version;
  from = s.site;
  verdict = verdict.Discarded;
  moment = s.latest;
}

-- the rows with a change that the publisher has not taken, by article and row
abbrev pub discarded_versions : SubscriberJudge → SubscriberTables → List (Key × Version)
discarded_versions judge s = filter_map (λ (row : Key × SubscriberRow). if judge.is_unsent s.received row.0 then Some (row.0, row.1.version) else None) s.rows

abbrev pub discarded_rows_from : SubscriberTables → ℕ → List (Key × Version) → List ConflictRow
discarded_rows_from s number [] = []
discarded_rows_from s number (row ∷ rows) = discarded_row s number row.0 row.1 ∷ discarded_rows_from s (number + 1) rows

abbrev pub tables_made_anew : List ConflictRow → SubscriberTables → SubscriberTables
tables_made_anew lost s = record s {
  gens = record s.gens { closings = [] };
  conflict_count = s.conflict_count + length lost;
  conflicts = s.conflicts ++ lost;
  outstanding = None;
  received = subscriber_last_closed s;
  watermark = 0;
  is_joined = false;
  rows = [];
}

abbrev pub result_of_reinit : SubscriberJudge → SubscriberTables → SubscriberTables × ℕ
result_of_reinit judge s = let lost = discarded_rows_from s (s.conflict_count + 1) (discarded_versions judge s) in (tables_made_anew lost (subscriber_closed s), length lost)

abbrev pub reinitialise : SubscriberJudge → Moment → SubscriberTables → Result (SubscriberTables × ℕ) Refusal
reinitialise judge now s = unless (counter_end (subscriber_counters s)) (result_of_reinit judge (subscriber_at_moment now s))
