-- A row is made at the publisher, and a session brings it to a subscriber.
use Rattle.std.specs.Prelude.{codes}
use Rattle.merge_worked.specs.Publications.{item_for_one}
use Rattle.merge_worked.specs.Worked.{WorkedScript}

abbrev pub a_row_goes_over : WorkedScript
a_row_goes_over = record {
  publication = item_for_one;
  input = codes "---\ninsert 0 item qty=7\nsync 1\nshow 1 item\n";
  answers = codes "row 00000000-0000-8000-8000-000000000001\ndone 0 1 1\n00000000-0000-8000-8000-000000000001 7\nrows 1\n";
}
