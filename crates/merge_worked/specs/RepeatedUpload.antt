-- An upload that comes three times acts once.
use Rattle.std.specs.Prelude.{codes}
use Rattle.merge_worked.specs.Publications.{item_for_one}
use Rattle.merge_worked.specs.Worked.{WorkedScript}

abbrev pub repeated_upload : WorkedScript
repeated_upload = record {
  publication = item_for_one;
  input = codes "---\nsync 1\ninsert 1 item qty=5\nsend 1 upload\ndeliver 5\ndeliver 5\ndeliver 5\ndeliver 8\ndeliver 6\ngenerations 0\n";
  answers = codes "done 0 0 0\nrow 00000000-0001-8000-8000-000000000001\nmessage 5\nmessage 6\nmessage 7\nmessage 8\napplied\nignored 3 0\nclosed 0 open 1 kept 0\n1 joined 1 received 1 number 1 watermark 0 synced 0\n";
}
