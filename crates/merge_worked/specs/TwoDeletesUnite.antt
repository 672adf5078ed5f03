-- Both subscribers deleted the row, which is no conflict.
use Rattle.std.specs.Prelude.{codes}
use Rattle.merge_worked.specs.Publications.{item_for_two}
use Rattle.merge_worked.specs.Worked.{WorkedScript}

abbrev pub two_deletes_unite : WorkedScript
two_deletes_unite = record {
  publication = item_for_two;
  input = codes "---\ninsert 0 item qty=1\nsync 1\nsync 2\nupdate 1 item 0.1 qty=10\ndelete 1 item 0.1\ndelete 2 item 0.1\nsync 2\nsync 1\nconflicts 0\n";
  answers = codes "row 00000000-0000-8000-8000-000000000001\ndone 0 1 1\ndone 0 1 1\nok\nok\nok\ndone 1 1 2\ndone 1 1 3\nconflicts 0\n";
}
