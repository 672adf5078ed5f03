-- Everything happens in one run, so that each promise speaks of something.
use Rattle.std.specs.Prelude.{List, [], ◌∷◌, ◌++◌, ℕ, codes, flat_map, pos, Some, None}
use Rattle.merge_types.specs.declared.values.ColumnType.TheVariants as ty
use Rattle.merge_types.specs.declared.changes.Tracking.TheVariants as tracking
use Rattle.merge_filter.specs.Syntax.{Compare}
use Rattle.merge_filter.specs.declared.tree.Operand.TheVariants as operand
use Rattle.merge_filter.specs.declared.word.Sign.TheVariants as sign
use Rattle.merge_schema.specs.declared.publication.Article.{Article}
use Rattle.merge_schema.specs.declared.publication.Publication.{Publication}
use Rattle.merge_schema.specs.declared.publication.SubscriptionKind.TheVariants as kind
use Rattle.merge_model.specs.History.Model.{Model}
use Rattle.merge_worked.specs.Happened.{model_after}
use Rattle.merge_worked.specs.Worked.{WorkedScript}

-- Conflicts of stock are decided by the resolver that adds up column n.
abbrev pub stock : Article
stock = record {
  name = codes "stock";
  columns = (record { name = codes "id"; ty = ty.Int } ∷ record { name = codes "n"; ty = ty.Int } ∷ []);
  tracking = tracking.Row;
  filter = None;
  joins = [];
  identity = (Some (record { column = 0; seed = pos 1; range = 10; pub_range = 10; threshold = 80; greatest = pos 1000 }));
  resolver = 3;
  resolver_column = (Some 1);
}

-- Those of clients go by priority.
abbrev pub client : Article
client = record {
  name = codes "client";
  columns = (record { name = codes "region"; ty = ty.Text } ∷ record { name = codes "credit"; ty = ty.Int } ∷ []);
  tracking = tracking.ByColumn;
  filter = (Some (Compare (operand.Column 0) sign.Equal 7 operand.Host));
  joins = [];
  identity = None;
  resolver = 0;
  resolver_column = None;
}

abbrev pub publication : Publication
publication = record {
  name = codes "everything";
  retention_days = 14;
  conflict_retention_days = 14;
  articles = (stock ∷ client ∷ []);
  subscriptions = (record { site = record { 0 = 1 }; host = record { 0 = codes "north" }; kind = kind.Server; priority = 7500 } ∷ record { site = record { 0 = 2 }; host = record { 0 = codes "north" }; kind = kind.Server; priority = 2500 } ∷ record { site = record { 0 = 3 }; host = record { 0 = codes "south" }; kind = kind.Client; priority = 0 } ∷ []);
}

-- A part of the script, with its answers.
pub record Scene : Type 0 where
  pub script : List ℕ
  pub answers : List ℕ

-- Seven rows are made at the publisher. A row of stock takes an identity value, and is in every partition. A client is in the
-- partitions of its region. Three sites join, are granted two ranges of identity values each, and take over their partitions.
abbrev sites_join : Scene
sites_join = record {
  script = codes "insert 0 stock n=1\ninsert 0 stock n=2\ninsert 0 stock n=3\ninsert 0 stock n=4\ninsert 0 stock n=5\ninsert 0 client region=\"north\" credit=10\ninsert 0 client region=\"north\" credit=20\nsync 1\nsync 2\nsync 3\n";
  answers = codes "row 00000000-0000-8000-8000-000000000001\nrow 00000000-0000-8000-8000-000000000002\nrow 00000000-0000-8000-8000-000000000003\nrow 00000000-0000-8000-8000-000000000004\nrow 00000000-0000-8000-8000-000000000005\nrow 00000000-0000-8000-8000-000000000006\nrow 00000000-0000-8000-8000-000000000007\ndone 0 1 1\ndone 0 1 1\ndone 0 1 1\n";
}

-- The publisher deletes two rows, and updates one.
abbrev publisher_works : Scene
publisher_works = record {
  script = codes "delete 0 stock 0.2\ndelete 0 stock 0.3\nupdate 0 client 0.6 credit=11\n";
  answers = codes "ok\nok\nok\n";
}

-- Site 2 does not know of that, and sends six changes. Row 0.2 is deleted on both sides, and the deletes unite. Row 0.3 is deleted
-- at the publisher and updated at the site, and the delete stays. Row 0.6 is updated on both sides, and the publisher's update
-- stays. The changes of rows 0.1, 0.4 and 0.7 meet nothing new, and are taken.
abbrev site_2_conflicts : Scene
site_2_conflicts = record {
  script = codes "delete 2 stock 0.2\nupdate 2 stock 0.3 n=30\ndelete 2 stock 0.4\nupdate 2 client 0.6 credit=12\nupdate 2 client 0.7 credit=21\nupdate 2 stock 0.1 n=5\nsync 2\n";
  answers = codes "ok\nok\nok\nok\nok\nok\ndone 1 1 2\n";
}

-- Site 1 knows of neither, and has a higher priority than site 2. Its update of row 0.4 wins over the delete, and the row lives
-- again. Its update of row 0.7 wins too. Of row 0.1 the resolver decides the sum of both values, 12.
abbrev site_1_conflicts : Scene
site_1_conflicts = record {
  script = codes "update 1 stock 0.1 n=7\nupdate 1 stock 0.4 n=40\nupdate 1 client 0.7 credit=22\nsync 1\nshow 0 stock\n";
  answers = codes "ok\nok\nok\ndone 1 1 3\n00000000-0000-8000-8000-000000000001 1 12\n00000000-0000-8000-8000-000000000004 4 40\n00000000-0000-8000-8000-000000000005 5 5\nrows 3\n";
}

-- The upload of site 2 comes a second time. It is answered, and does nothing.
abbrev upload_comes_again : Scene
upload_comes_again = record {
  script = codes "deliver 37\n";
  answers = codes "message 53\n";
}

-- Site 3 is made anew while an upload of it is under way. The update in it goes into the site's own conflict table, and is given
-- up as the site joins again. The upload comes late, and is refused.
abbrev site_3_is_made_anew : Scene
site_3_is_made_anew = record {
  script = codes "update 3 stock 0.1 n=9\nsend 3 upload\nreinit 3\nsync 3\ndeliver 54\n";
  answers = codes "ok\nmessage 54\ndiscarded 1\ndone 0 1 3\nrefused 3 stale 7 8\n";
}

-- Site 3 updates the row again, makes a row with a value of its range, and makes one for the partitions of sites 1 and 2, which
-- its session takes from it. Row 0.5 is deleted at the publisher and updated at site 1, which does not send it.
abbrev site_3_works_on : Scene
site_3_works_on = record {
  script = codes "update 3 stock 0.1 n=13\ninsert 3 stock n=8\ninsert 3 client region=\"north\" credit=30\ndelete 0 stock 0.5\nupdate 1 stock 0.5 n=50\nsync 3\n";
  answers = codes "ok\nrow 00000000-0003-8000-8000-000000000003\nrow 00000000-0003-8000-8000-000000000004\nok\nok\ndone 1 1 4\n";
}

-- Eight days later site 1 takes over what there is, and still sends nothing. Its updated row stays.
abbrev site_1_stays_in_step : Scene
site_1_stays_in_step = record {
  script = codes "wait 700000\nsend 1 download\ndeliver 71\ndeliver 72\nsend 1 download\ndeliver 73\ndeliver 74\n";
  answers = codes "now 700000\nmessage 71\nmessage 72\napplied\nmessage 73\nmessage 74\napplied\n";
}

-- Row 0.6 leaves the partitions of sites 1 and 2 for that of site 3. Site 2 has updated its other column meanwhile, and the changes
-- merge. Its session takes the row from site 2, and site 3 gets it.
abbrev row_moves : Scene
row_moves = record {
  script = codes "update 0 client 0.6 region=\"south\"\nupdate 2 client 0.6 credit=13\nsync 2\nsync 3\n";
  answers = codes "ok\nok\ndone 1 1 5\ndone 0 1 5\n";
}

-- Nearly a week passes, and the first four generations are old. That is fifteen days since they closed, the retention and one day more.
abbrev time_passes : Scene
time_passes = record {
  script = codes "wait 600000\n";
  answers = codes "now 1300000\n";
}

-- The tombstones of rows 0.2, 0.3 and 0.5 are purged, with eight notes that a row had left a partition, and with these generations.
-- Now site 1 sends its update of row 0.5. The row is not known any more, and the update is kept as lost.
abbrev tombstones_are_purged : Scene
tombstones_are_purged = record {
  script = codes "purge\nsync 1\nsync 2\nsync 3\n";
  answers = codes "purged 3 8 4\ndone 1 1 6\ndone 0 1 6\ndone 0 1 6\n";
}

-- All sites are settled. The conflict table has in this order the update of the deleted row 0.3, the update that met the publisher's,
-- both sides of the sum, the delete and the update that lost to a higher priority, and the update of the purged row. The table of
-- site 3 has what was discarded.
abbrev reports : Scene
reports = record {
  script = codes "show 1 stock\nshow 2 client\nshow 3 client\nconflicts 0\nconflicts 3\nranges 0\n";
  answers = codes "00000000-0000-8000-8000-000000000001 1 13\n00000000-0000-8000-8000-000000000004 4 40\n00000000-0003-8000-8000-000000000003 51 8\nrows 3\n00000000-0000-8000-8000-000000000007 \"north\" 22\n00000000-0003-8000-8000-000000000004 \"north\" 30\nrows 2\n00000000-0000-8000-8000-000000000006 \"south\" 13\nrows 1\n1 stock 00000000-0000-8000-8000-000000000003 3 2 publisher 0 live 3 30\n2 client 00000000-0000-8000-8000-000000000006 2 2 publisher 0 live \"north\" 12\n3 stock 00000000-0000-8000-8000-000000000001 1 0 custom 0 live 1 5\n4 stock 00000000-0000-8000-8000-000000000001 1 1 custom 0 live 1 7\n5 stock 00000000-0000-8000-8000-000000000004 4 0 subscriber 0 dead\n6 client 00000000-0000-8000-8000-000000000007 2 0 subscriber 0 live \"north\" 21\n7 stock 00000000-0000-8000-8000-000000000005 3 1 purged 1300000 live 5 50\nconflicts 7\n1 stock 00000000-0000-8000-8000-000000000001 0 3 discarded 0 live 1 9\nconflicts 1\nstock 0 1 1 10\nstock 1 1 11 20\nstock 1 2 21 30\nstock 2 1 31 40\nstock 2 2 41 50\nstock 3 1 51 60\nstock 3 2 61 70\nranges 7\n";
}

abbrev before_purge : List Scene
before_purge = sites_join ∷ publisher_works ∷ site_2_conflicts ∷ site_1_conflicts ∷ upload_comes_again ∷ site_3_is_made_anew ∷ site_3_works_on ∷ site_1_stays_in_step ∷ row_moves ∷ time_passes ∷ []

abbrev scenes : List Scene
scenes = before_purge ++ tombstones_are_purged ∷ reports ∷ []

-- the input that has the script of these scenes
abbrev input_of : List Scene → List ℕ
input_of parts = codes "---\n" ++ flat_map (λ (scene : Scene). scene.script) parts

abbrev pub everything_happens : WorkedScript
everything_happens = record {
  publication = publication;
  input = input_of scenes;
  answers = flat_map (λ (scene : Scene). scene.answers) scenes;
}

-- the model after it
unfoldable pub everything_happened : Model
everything_happened = model_after publication everything_happens.input

-- and the model as the purge comes
unfoldable pub purge_comes : Model
purge_comes = model_after publication (input_of before_purge)
