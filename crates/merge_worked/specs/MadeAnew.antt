-- A subscriber is made anew. What it had not sent is in its conflict table, and old messages are stale.
use Rattle.std.specs.Prelude.{codes}
use Rattle.merge_worked.specs.Publications.{item_for_one}
use Rattle.merge_worked.specs.Worked.{WorkedScript}

abbrev pub made_anew : WorkedScript
made_anew = record {
  publication = item_for_one;
  input = codes "---\ninsert 0 item qty=1\nsync 1\nupdate 1 item 0.1 qty=2\nsend 1 download\ndeliver 7\nreinit 1\ndeliver 8\ninsert 1 item qty=3\nsync 1\nshow 1 item\nconflicts 1\ndeliver 7\n";
  answers = codes "row 00000000-0000-8000-8000-000000000001\ndone 0 1 1\nok\nmessage 7\nmessage 8\ndiscarded 1\nignored 4 0\nrefused 15 joining\ndone 0 1 1\n00000000-0000-8000-8000-000000000001 1\nrows 1\n1 item 00000000-0000-8000-8000-000000000001 0 1 discarded 0 live 2\nconflicts 1\nrefused 3 stale 4 5\n";
}
