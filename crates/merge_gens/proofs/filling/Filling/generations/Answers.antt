use Rattle.std.proofs.Common.{arith, refl}
use Rattle.std.proofs.lemmas.List.FromFn.{map-range_with_len_more}
use Rattle.merge_gens.specs.Filling.{generation_of}
use Rattle.merge_gens.proofs.filling.Filling.generations.Goals as goal

pub loop-number-preserved : goal.loop-number-preserved
loop-number-preserved c = record {
  items = rw (c.push_reserved.ensures.items, c.loop-number.invariant.items, map-range_with_len_more (generation_of c.args.self) 0 c.loop-number.number c.loop-number.number (omega arith)) refl;
  len = omega (arith, c.push_reserved.ensures.len, c.loop-number.invariant.len);
  capacity = omega (arith, c.push_reserved.ensures.capacity, c.loop-number.invariant.capacity);
}
