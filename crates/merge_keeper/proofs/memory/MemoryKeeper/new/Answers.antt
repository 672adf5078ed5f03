use Rattle.merge_ports.specs.Entries.{entry_cmp}
use Rattle.merge_keeper.proofs.KeptLemmas.{idle}
use Rattle.merge_keeper.proofs.memory.MemoryKeeper.new.Goals as goal

pub invariant_of-result : goal.invariant_of-result
invariant_of-result c = (idle entry_cmp c.into_table.result.slots c.new.result.items c.new.ensures.items, λ _. c.new.ensures.items)
