-- A reply to an older message is passed over.
use Rattle.std.specs.Prelude.{codes}
use Rattle.merge_worked.specs.Publications.{item_for_one}
use Rattle.merge_worked.specs.Worked.{WorkedScript}

abbrev pub late_reply : WorkedScript
late_reply = record {
  publication = item_for_one;
  input = codes "---\nsync 1\ninsert 1 item qty=5\nsend 1 upload\ndeliver 5\nupdate 0 item 1.1 qty=9\nsend 1 download\ndeliver 7\ndeliver 8\ndeliver 5\ndeliver 6\nshow 1 item\n";
  answers = codes "done 0 0 0\nrow 00000000-0001-8000-8000-000000000001\nmessage 5\nmessage 6\nok\nmessage 7\nmessage 8\napplied\nmessage 9\nignored 3 0\n00000000-0001-8000-8000-000000000001 9\nrows 1\n";
}
