-- Identity values come from granted ranges, and run out at the greatest.
use Rattle.std.specs.Prelude.{codes}
use Rattle.merge_worked.specs.Publications.{ticket_for_one}
use Rattle.merge_worked.specs.Worked.{WorkedScript}

abbrev pub identity_values : WorkedScript
identity_values = record {
  publication = ticket_for_one;
  input = codes "---\nsync 1\ninsert 1 ticket note=\"a\"\ninsert 1 ticket note=\"a\"\ninsert 1 ticket note=\"a\"\ninsert 1 ticket note=\"a\"\ninsert 1 ticket note=\"a\"\ninsert 0 ticket note=\"b\"\nshow 0 ticket\nsync 1\ninsert 1 ticket note=\"a\"\ninsert 1 ticket note=\"a\"\ninsert 1 ticket note=\"a\"\ninsert 1 ticket no=3\nranges 0\n";
  answers = codes "done 0 0 0\nrow 00000000-0001-8000-8000-000000000001\nrow 00000000-0001-8000-8000-000000000002\nrow 00000000-0001-8000-8000-000000000003\nrow 00000000-0001-8000-8000-000000000004\nrefused 11 identity used up 4\nrow 00000000-0000-8000-8000-000000000001\n00000000-0000-8000-8000-000000000001 5 \"b\"\nrows 1\ndone 1 1 1\nrow 00000000-0001-8000-8000-000000000005\nrow 00000000-0001-8000-8000-000000000006\nrefused 11 identity used up 8\nrefused 13 identity column no\nticket 1 1 1 2\nticket 1 2 3 4\nticket 0 1 5 6\nticket 1 3 7 8\nranges 4\n";
}
