-- With column tracking, updates of different columns merge, and updates of one column conflict.
use Rattle.std.specs.Prelude.{codes}
use Rattle.merge_worked.specs.Publications.{part_for_two}
use Rattle.merge_worked.specs.Worked.{WorkedScript}

abbrev pub columns_merge : WorkedScript
columns_merge = record {
  publication = part_for_two;
  input = codes "---\ninsert 0 part a=1 b=1\nsync 1\nsync 2\nupdate 1 part 0.1 a=2\nupdate 2 part 0.1 b=3\nsync 1\nsync 2\nsync 1\nshow 1 part\nupdate 1 part 0.1 a=4 b=4\nupdate 2 part 0.1 a=5\nsync 1\nsync 2\nshow 2 part\nconflicts 0\n";
  answers = codes "row 00000000-0000-8000-8000-000000000001\ndone 0 1 1\ndone 0 1 1\nok\nok\ndone 1 1 2\ndone 1 1 3\ndone 0 1 3\n00000000-0000-8000-8000-000000000001 2 3\nrows 1\nok\nok\ndone 1 1 4\ndone 1 1 5\n00000000-0000-8000-8000-000000000001 4 4\nrows 1\n1 part 00000000-0000-8000-8000-000000000001 2 2 publisher 0 live 5 3\nconflicts 1\n";
}
