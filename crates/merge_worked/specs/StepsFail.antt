-- Steps fail in a run: at the publisher and at a subscriber, by a fault of the store and by want of memory, and inside sessions.
use Rattle.std.specs.Prelude.{◌≡◌, ◌∷◌, ◌++◌, [], Option, Some, None, true, false, codes}
use Rattle.merge_types.specs.declared.changes.Tracking.TheVariants as tracking
use Rattle.merge_types.specs.declared.values.ColumnType.TheVariants as ty
use Rattle.merge_schema.specs.declared.publication.Article.{Article}
use Rattle.merge_schema.specs.declared.publication.Publication.{Publication}
use Rattle.merge_schema.specs.declared.publication.SubscriptionKind.TheVariants as kind
use Rattle.merge_script.specs.Input.{script_of}
use Rattle.merge_script.specs.Lines.{lines_of}
use Rattle.merge_model.specs.Failing.{Slip, Slips}
use Rattle.merge_model.specs.Script.Play.{names_of}
use Rattle.merge_model.specs.Script.Reading.{events_of}
use Rattle.merge_model.specs.Script.Resolvers.{rules_say}
use Rattle.merge_model.specs.Failing.Runs.{machine_says, model_says}
use Rattle.merge_model.specs.Script.Text.{texts_of}
use Rattle.merge_worked.specs.Worked.{WorkedScript}

-- the answers of a run with slips, by the machine and by the model
abbrev pub IsPlayedWith : Slips → WorkedScript → Type 0
IsPlayedWith slips worked = texts_of (names_of worked.publication) (machine_says worked.publication rules_say (0 ∷ 0 ∷ 0 ∷ 0 ∷ 0 ∷ []) slips (events_of (lines_of (script_of worked.input)))) ≡ worked.answers

abbrev pub IsToldWith : Slips → WorkedScript → Type 0
IsToldWith slips worked = texts_of (names_of worked.publication) (model_says worked.publication rules_say (0 ∷ 0 ∷ 0 ∷ 0 ∷ 0 ∷ []) slips (events_of (lines_of (script_of worked.input)))) ≡ worked.answers

-- What becomes of each step, one after the other.

abbrev pub no_slip : Option Slip
no_slip = None

abbrev pub wants_memory : Option Slip
wants_memory = Some (record { is_fault = false; asked = 0 })

abbrev pub store_fails : Option Slip
store_fails = Some (record { is_fault = true; asked = 0 })

-- An insert at the publisher is a fault, and is made again.
abbrev inserting : Slips
inserting = store_fails ∷ no_slip ∷ []

-- A join is made, and the publisher wants memory for it. The next one acts, and its answer is a fault at the site.
abbrev joining : Slips
joining = no_slip ∷ wants_memory ∷ no_slip ∷ no_slip ∷ store_fails ∷ []

-- The third one joins the site: join and answer are three steps, there is no upload and no range to ask for, and two downloads
-- are three steps each.
abbrev joined : Slips
joined = no_slip ∷ no_slip ∷ no_slip ∷ no_slip ∷ no_slip ∷ no_slip ∷ no_slip ∷ no_slip ∷ no_slip ∷ no_slip ∷ no_slip ∷ []

-- The site updates the row. Its upload acts at the publisher and is answered, and the site wants memory for the answer.
abbrev uploading : Slips
uploading = no_slip ∷ no_slip ∷ no_slip ∷ wants_memory ∷ []

-- A report is made. The upload comes again and is only answered, which is no commit: a store fault is none there. The answer is
-- taken, and no further upload and no range is to be asked for. The reply to the download is a fault at the site.
abbrev coming_again : Slips
coming_again = no_slip ∷ no_slip ∷ store_fails ∷ no_slip ∷ no_slip ∷ no_slip ∷ no_slip ∷ no_slip ∷ store_fails ∷ []

abbrev pub slips : Slips
slips = inserting ++ joining ++ joined ++ uploading ++ coming_again

abbrev pub item : Article
item = record {
  name = codes "item";
  columns = (record { name = codes "qty"; ty = ty.Int } ∷ []);
  tracking = tracking.Row;
  filter = None;
  joins = [];
  identity = None;
  resolver = 0;
  resolver_column = None;
}

abbrev pub publication : Publication
publication = record {
  name = codes "failing";
  retention_days = 14;
  conflict_retention_days = 14;
  articles = (item ∷ []);
  subscriptions = (record { site = record { 0 = 1 }; host = record { 0 = codes "h1" }; kind = kind.Client; priority = 0 } ∷ []);
}

-- A session counts an upload that was answered, and a reply with generations that came, also where the site did not take them.
abbrev pub steps_fail : WorkedScript
steps_fail = record {
  publication = publication;
  input = codes "---\ninsert 0 item qty=1\ninsert 0 item qty=1\nsync 1\nsync 1\nsync 1\nupdate 1 item 0.1 qty=2\nsync 1\ngenerations 0\nsync 1\nsync 1\nshow 1 item\n";
  answers = codes "refused 7 store fault\nrow 00000000-0000-8000-8000-000000000001\nstopped 0 0 no memory\nstopped 0 0 refused 7 store fault\ndone 0 1 1\nok\nstopped 1 0 no memory\nclosed 1 open 1 kept 1\n1 joined 3 received 1 number 1 watermark 1 synced 0\nstopped 1 1 refused 7 store fault\ndone 0 1 2\n00000000-0000-8000-8000-000000000001 2\nrows 1\n";
}
