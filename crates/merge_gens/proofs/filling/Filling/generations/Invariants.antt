use Rattle.std.proofs.Common.{◌≡◌, ◌≤◌, vec_len, vec_capacity}
use Rattle.merge_gens.specs.Filling.{generations_of}
use Rattle.merge_gens.proofs.filling.Filling.generations.Given as goal

abbrev pub invariant-loop-number : goal.invariant-loop-number
invariant-loop-number l = record {
  items : l.generations.items ≡ generations_of l.self l.number;
  len : vec_len l.generations ≡ l.number;
  capacity : l.count ≤ vec_capacity l.generations;
}
