-- With column tracking, an update that came first stays against a delete.
use Rattle.std.specs.Prelude.{codes}
use Rattle.merge_worked.specs.Publications.{part_for_two}
use Rattle.merge_worked.specs.Worked.{WorkedScript}

abbrev pub column_update_stays : WorkedScript
column_update_stays = record {
  publication = part_for_two;
  input = codes "---\ninsert 0 part a=1 b=1\nsync 1\nsync 2\nupdate 1 part 0.1 a=2\ndelete 2 part 0.1\nsync 1\nsync 2\nconflicts 0\nshow 2 part\n";
  answers = codes "row 00000000-0000-8000-8000-000000000001\ndone 0 1 1\ndone 0 1 1\nok\nok\ndone 1 1 2\ndone 1 1 3\n1 part 00000000-0000-8000-8000-000000000001 4 2 publisher 0 dead\nconflicts 1\n00000000-0000-8000-8000-000000000001 2 1\nrows 1\n";
}
