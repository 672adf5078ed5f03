-- A row that left the partition stays at the subscriber that changed it until the change is sent.
use Rattle.std.specs.Prelude.{codes}
use Rattle.merge_worked.specs.Publications.{orders_for_two}
use Rattle.merge_worked.specs.Worked.{WorkedScript}

abbrev pub unsent_row_stays : WorkedScript
unsent_row_stays = record {
  publication = orders_for_two;
  input = codes "---\ninsert 0 customer id=1 region=\"north\"\ninsert 0 orders id=10 cust=1\ninsert 0 line ord=10 qty=5\nsync 1\nsync 2\nupdate 0 customer 0.1 region=\"south\"\nupdate 1 line 0.3 qty=8\nsend 1 download\ndeliver 13\ndeliver 14\ncount 1\nsync 1\ncount 1\nsync 2\nshow 2 line\n";
  answers = codes "row 00000000-0000-8000-8000-000000000001\nrow 00000000-0000-8000-8000-000000000002\nrow 00000000-0000-8000-8000-000000000003\ndone 0 1 1\ndone 0 1 1\nok\nok\nmessage 13\nmessage 14\napplied\ncustomer 0\norders 0\nline 1\ndone 1 1 3\ncustomer 0\norders 0\nline 0\ndone 0 1 3\n00000000-0000-8000-8000-000000000003 10 8\nrows 1\n";
}
