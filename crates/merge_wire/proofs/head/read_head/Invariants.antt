-- What was read so far are the bytes that were taken from the source, and no head, but one can come.
use Rattle.std.proofs.Common.{◌≡◌, ◌≤◌, length}
use Rattle.std.specs.Io.KnownBytes.{Consumes}
use Rattle.httparse.specs.Grammar.{HasNoRequest}
use Rattle.merge_wire.specs.Heads.{line_limit, lines, CanBecomeRequest}
use Rattle.merge_wire.proofs.head.read_head.Given as goal

abbrev pub invariant-loop : goal.invariant-loop
invariant-loop g l = record {
  taken : Consumes (g.S.Source.left l.initial.source) (g.S.Source.left l.source) l.head;
  open_head : HasNoRequest l.head;
  hopeful : CanBecomeRequest l.head;
  few : lines l.head ≤ line_limit;
  counted : length l.head ≡ l.counter;
  kept : g.S.Source.count l.source ≡ g.S.Source.count l.initial.source;
}
