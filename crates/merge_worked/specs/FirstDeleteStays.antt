-- An update meets a delete that came first. The delete stays, and the update is kept as lost.
use Rattle.std.specs.Prelude.{codes}
use Rattle.merge_worked.specs.Publications.{item_for_two}
use Rattle.merge_worked.specs.Worked.{WorkedScript}

abbrev pub first_delete_stays : WorkedScript
first_delete_stays = record {
  publication = item_for_two;
  input = codes "---\ninsert 0 item qty=1\nsync 1\nsync 2\nupdate 1 item 0.1 qty=10\ndelete 2 item 0.1\nsync 2\nsync 1\nshow 1 item\nconflicts 0\n";
  answers = codes "row 00000000-0000-8000-8000-000000000001\ndone 0 1 1\ndone 0 1 1\nok\nok\ndone 1 1 2\ndone 1 1 3\nrows 0\n1 item 00000000-0000-8000-8000-000000000001 3 1 publisher 0 live 10\nconflicts 1\n";
}
