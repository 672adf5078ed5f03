use Rattle.merge_laws.proofs.Runs.LawsOfActions as laws
use Rattle.merge_actions.proofs.numbers.actions_keep_numbers_and_lines.Goals as goal

pub returns : goal.returns
returns c = record {
  received = laws.received-is-done;
  acted = laws.acted-is-done;
  gap = laws.gap-is-done;
  closed = laws.takes-only-closed;
  joined = laws.joined-takes-acted;
  number = laws.number-is-done;
  unmet = laws.unmet-is-done;
  kept = laws.closings-keep-the-last;
  told = laws.uploads-tell-the-last;
  subscribers = laws.subscribers-alike;
  mappings = laws.mappings-told;
  changes = laws.changes-told;
  has_left = laws.left-by-line;
  touch_inside = laws.inside-by-line;
  touch_outside = laws.outside-by-line;
  numbered = laws.made-are-numbered;
  known = laws.known-were-made;
  lineages = laws.knows-only-made;
}
