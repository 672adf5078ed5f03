-- A conflict that an object decides that a program hands in behind the five rules, with values of its own.
use Rattle.std.specs.Prelude.{List, [], ◌∷◌, ◌==◌, if◌then◌else◌, pos, codes, Some, None}
use Rattle.merge_types.specs.declared.values.ColumnType.TheVariants as ty
use Rattle.merge_types.specs.declared.changes.Tracking.TheVariants as tracking
use Rattle.merge_schema.specs.declared.publication.Publication.{Publication}
use Rattle.merge_schema.specs.declared.publication.SubscriptionKind.TheVariants as kind
use Rattle.merge_worked.specs.Worked.{WorkedScript}
use Rattle.merge_types.specs.declared.values.Value.{Value}
use Rattle.merge_types.specs.declared.values.Value.TheVariants.{Int}
use Rattle.merge_units.specs.declared.result.Decision.TheVariants.{Custom}
use Rattle.merge_model.specs.Script.Resolvers.{rules_say}
use Rattle.merge_model.specs.World.{Saying}

abbrev publication : Publication
publication = record {
  name = codes "first";
  retention_days = 14;
  conflict_retention_days = 14;
  articles = (record {
    name = codes "item";
    columns = (record { name = codes "qty"; ty = ty.Int } ∷ []);
    tracking = tracking.Row;
    filter = None;
    joins = [];
    identity = None;
    resolver = 5;
    resolver_column = None;
  } ∷ []);
  subscriptions = (record { site = record { 0 = 1 }; host = record { 0 = codes "h1" }; kind = kind.Client; priority = 0 } ∷ record { site = record { 0 = 2 }; host = record { 0 = codes "h2" }; kind = kind.Client; priority = 0 } ∷ []);
}

-- the sixth object, which says the same whatever it is asked
abbrev saying : List Value → Saying
saying values place tally case = if place == 5 then Some (Custom values) else rules_say place tally case

-- a value for the one column of the row
abbrev pub one_value : Saying
one_value = saying (Int (pos 42) ∷ [])

-- one more than the row has columns, so that the decision does not fit
abbrev pub two_values : Saying
two_values = saying (Int (pos 42) ∷ Int (pos 43) ∷ [])

abbrev pub decided_by_one_value : WorkedScript
decided_by_one_value = record {
  publication = publication;
  input = codes "---\ninsert 0 item qty=1\nsync 1\nsync 2\nupdate 1 item 0.1 qty=10\nupdate 2 item 0.1 qty=20\nsync 2\nsync 1\nshow 0 item\nconflicts 0\n";
  answers = codes "row 00000000-0000-8000-8000-000000000001\ndone 0 1 1\ndone 0 1 1\nok\nok\ndone 1 1 2\ndone 1 1 3\n00000000-0000-8000-8000-000000000001 42\nrows 1\n1 item 00000000-0000-8000-8000-000000000001 1 0 custom 0 live 20\n2 item 00000000-0000-8000-8000-000000000001 1 1 custom 0 live 10\nconflicts 2\n";
}

abbrev pub decided_by_two_values : WorkedScript
decided_by_two_values = record {
  publication = publication;
  input = codes "---\ninsert 0 item qty=1\nsync 1\nsync 2\nupdate 1 item 0.1 qty=10\nupdate 2 item 0.1 qty=20\nsync 2\nsync 1\nshow 0 item\nconflicts 0\n";
  answers = codes "row 00000000-0000-8000-8000-000000000001\ndone 0 1 1\ndone 0 1 1\nok\nok\ndone 1 1 2\ndone 1 1 3\n00000000-0000-8000-8000-000000000001 20\nrows 1\n1 item 00000000-0000-8000-8000-000000000001 1 1 publisher 0 live 10\nconflicts 1\n";
}
