-- A grant whose reply was lost is granted again, and not anew.
use Rattle.std.specs.Prelude.{codes}
use Rattle.merge_worked.specs.Publications.{ticket_for_one}
use Rattle.merge_worked.specs.Worked.{WorkedScript}

abbrev pub lost_grant : WorkedScript
lost_grant = record {
  publication = ticket_for_one;
  input = codes "---\nsend 1 join\ndeliver 1\ndeliver 2\nsend 1 ranges\ndeliver 3\ndeliver 3\nsend 1 ranges\ndeliver 6\ndeliver 7\nranges 1\nranges 0\ndeliver 99\n";
  answers = codes "message 1\nmessage 2\napplied\nmessage 3\nmessage 4\nmessage 5\nmessage 6\nmessage 7\napplied\nticket 1 1 2 - -\nranges 1\nticket 1 1 1 2\nranges 1\nno message 99\n";
}
