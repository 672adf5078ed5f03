-- A row leaves for the partition of another site, and the rows that join to it follow through two articles.
use Rattle.std.specs.Prelude.{codes}
use Rattle.merge_worked.specs.Publications.{orders_for_two}
use Rattle.merge_worked.specs.Worked.{WorkedScript}

abbrev pub children_follow : WorkedScript
children_follow = record {
  publication = orders_for_two;
  input = codes "---\ninsert 0 customer id=1 region=\"north\"\ninsert 0 orders id=10 cust=1\ninsert 0 line ord=10 qty=5\nsync 1\nsync 2\nupdate 0 customer 0.1 region=\"south\"\ngenerations 0\nsync 1\ncount 1\nsync 2\ncount 2\n";
  answers = codes "row 00000000-0000-8000-8000-000000000001\nrow 00000000-0000-8000-8000-000000000002\nrow 00000000-0000-8000-8000-000000000003\ndone 0 1 1\ndone 0 1 1\nok\nclosed 1 open 6 kept 1\n1 joined 1 received 0 number 0 watermark 1 synced 0\n2 joined 1 received 0 number 0 watermark 1 synced 0\ndone 0 1 2\ncustomer 0\norders 0\nline 0\ndone 0 1 2\ncustomer 1\norders 1\nline 1\n";
}
