-- An update of a higher priority meets a delete. The row lives again.
use Rattle.std.specs.Prelude.{codes}
use Rattle.merge_worked.specs.Publications.{item_for_servers}
use Rattle.merge_worked.specs.Worked.{WorkedScript}

abbrev pub higher_update_stays : WorkedScript
higher_update_stays = record {
  publication = item_for_servers;
  input = codes "---\ninsert 0 item qty=1\nsync 1\nsync 2\nupdate 1 item 0.1 qty=10\ndelete 2 item 0.1\nsync 2\nsync 1\nshow 1 item\nconflicts 0\nsync 2\nshow 2 item\n";
  answers = codes "row 00000000-0000-8000-8000-000000000001\ndone 0 1 1\ndone 0 1 1\nok\nok\ndone 1 1 2\ndone 1 1 3\n00000000-0000-8000-8000-000000000001 10\nrows 1\n1 item 00000000-0000-8000-8000-000000000001 4 0 subscriber 0 dead\nconflicts 1\ndone 0 1 3\n00000000-0000-8000-8000-000000000001 10\nrows 1\n";
}
