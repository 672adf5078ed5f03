-- An update of a row whose tombstone was purged is kept as lost.
use Rattle.std.specs.Prelude.{codes}
use Rattle.merge_worked.specs.Publications.{item_for_two}
use Rattle.merge_worked.specs.Worked.{WorkedScript}

abbrev pub purged_tombstone : WorkedScript
purged_tombstone = record {
  publication = item_for_two;
  input = codes "---\ninsert 0 item qty=1\nsync 1\nsync 2\nupdate 1 item 0.1 qty=5\ndelete 0 item 0.1\nsend 1 download\ndeliver 13\ndeliver 14\nwait 1000000\nsend 1 download\ndeliver 15\ndeliver 16\nwait 296001\npurge\nsync 1\ncount 1\nconflicts 0\n";
  answers = codes "row 00000000-0000-8000-8000-000000000001\ndone 0 1 1\ndone 0 1 1\nok\nok\nmessage 13\nmessage 14\napplied\nnow 1000000\nmessage 15\nmessage 16\napplied\nnow 1296001\npurged 1 2 2\ndone 1 1 3\nitem 0\n1 item 00000000-0000-8000-8000-000000000001 3 1 purged 1296001 live 5\nconflicts 1\n";
}
