-- Sessions end by steps that fail: at the publisher and at a subscriber, by a fault of the store and by want of memory. A resolver is
-- asked by a step that fails, and again by the one that is made.
use Rattle.std.specs.Prelude.{List, None, Option, Some, [], codes, true, ℕ, ◌++◌, ◌∷◌}
use Rattle.merge_types.specs.declared.changes.Tracking.TheVariants as tracking
use Rattle.merge_types.specs.declared.values.ColumnType.TheVariants as ty
use Rattle.merge_schema.specs.declared.publication.Article.{Article}
use Rattle.merge_schema.specs.declared.publication.Publication.{Publication}
use Rattle.merge_schema.specs.declared.publication.SubscriptionKind.TheVariants as kind
use Rattle.merge_script.specs.Input.{script_of}
use Rattle.merge_script.specs.Lines.{lines_of}
use Rattle.merge_model.specs.Failing.{Slip, Slips}
use Rattle.merge_model.specs.Failing.Runs.{world_behind}
use Rattle.merge_model.specs.Script.Reading.{events_of}
use Rattle.merge_model.specs.Script.Resolvers.{rules_say}
use Rattle.merge_worked.specs.StepsFail.{no_slip, store_fails, wants_memory}
use Rattle.merge_worked.specs.Worked.{WorkedScript}

-- how often each resolver was asked in a run with slips
abbrev pub tallies_with : Slips → WorkedScript → List ℕ
tallies_with slips worked = (world_behind worked.publication rules_say (0 ∷ 0 ∷ 0 ∷ 0 ∷ 0 ∷ []) slips (events_of (lines_of (script_of worked.input)))).tallies

-- What becomes of each step, one after the other.

-- the store fails behind one question to a resolver
abbrev store_fails_asked : Option Slip
store_fails_asked = Some (record { is_fault = true; asked = 1 })

-- An insert at the publisher. The site joins: join and answer are three steps, there is no upload and no range to ask for, and two
-- downloads are three steps each. Then an update at the publisher, and one of the same row at the site.
abbrev starting : Slips
starting = no_slip ∷ no_slip ∷ no_slip ∷ no_slip ∷ no_slip ∷ no_slip ∷ no_slip ∷ no_slip ∷ no_slip ∷ no_slip ∷ no_slip ∷ no_slip ∷ no_slip ∷ no_slip ∷ []

-- The site's upload comes to the publisher, the resolver is asked about the conflict, and the commit is a fault.
abbrev asking : Slips
asking = no_slip ∷ store_fails_asked ∷ []

-- The site wants memory for the next upload. The one behind it acts, the resolver is asked again, and the answer is a fault at the site.
abbrev taking : Slips
taking = wants_memory ∷ no_slip ∷ no_slip ∷ store_fails ∷ []

-- The upload comes again and is only answered. The answer is taken, and no further upload and no range is to be asked for. The
-- publisher wants memory for the download. All steps of the last session are made.
abbrev downloading : Slips
downloading = no_slip ∷ no_slip ∷ no_slip ∷ no_slip ∷ no_slip ∷ no_slip ∷ wants_memory ∷ []

abbrev pub slips : Slips
slips = starting ++ asking ++ taking ++ downloading

-- Conflicts are decided by the resolver that adds up the column.
abbrev pub stock : Article
stock = record {
  name = codes "stock";
  columns = (record { name = codes "n"; ty = ty.Int } ∷ []);
  tracking = tracking.ByColumn;
  filter = None;
  joins = [];
  identity = None;
  resolver = 3;
  resolver_column = (Some 0);
}

abbrev pub publication : Publication
publication = record {
  name = codes "failing";
  retention_days = 14;
  conflict_retention_days = 14;
  articles = (stock ∷ []);
  subscriptions = (record { site = record { 0 = 1 }; host = record { 0 = codes "h1" }; kind = kind.Client; priority = 0 } ∷ []);
}

-- The conflict stands in the conflict table once.
abbrev pub sessions_fail : WorkedScript
sessions_fail = record {
  publication = publication;
  input = codes "---\ninsert 0 stock n=1\nsync 1\nupdate 0 stock 0.1 n=5\nupdate 1 stock 0.1 n=7\nsync 1\nsync 1\nsync 1\nsync 1\nsync 1\nshow 1 stock\nconflicts 0\n";
  answers = codes "row 00000000-0000-8000-8000-000000000001\ndone 0 1 1\nok\nok\nstopped 0 0 refused 7 store fault\nstopped 0 0 no memory\nstopped 1 0 refused 7 store fault\nstopped 1 0 no memory\ndone 0 1 2\n00000000-0000-8000-8000-000000000001 12\nrows 1\n1 stock 00000000-0000-8000-8000-000000000001 2 0 custom 0 live 5\n2 stock 00000000-0000-8000-8000-000000000001 2 1 custom 0 live 7\nconflicts 2\n";
}
