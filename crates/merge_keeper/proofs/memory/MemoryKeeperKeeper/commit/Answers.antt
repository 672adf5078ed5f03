use Rattle.std.proofs.Common.{◌∙◌, sym}
use Rattle.merge_ports.specs.Entries.{entry_cmp}
use Rattle.merge_keeper.proofs.KeptLemmas.{idle, or_false}
use Rattle.merge_keeper.proofs.memory.MemoryKeeperKeeper.commit.Goals as goal

pub invariant_of-self-in_err-prepare : goal.invariant_of-self-in_err-prepare
invariant_of-self-in_err-prepare c =
    let e = c.self.invariant.1 (or_false _ _ (sym c.is_refused.ensures.refused ∙ c.if-is_refused.false)) in
    (idle entry_cmp c.prepare.new.self.slots c.self.inside.made.items e, λ _. e)

pub invariant_of-self-in-None : goal.invariant_of-self-in-None
invariant_of-self-in-None c =
    let e = c.self.invariant.1 (or_false _ _ (sym c.is_refused.ensures.refused ∙ c.if-is_refused.false)) in
    (idle entry_cmp c.apply.new.self.slots c.self.inside.made.items e, λ _. e)

pub invariant_of-self-else-is_after : goal.invariant_of-self-else-is_after
invariant_of-self-else-is_after c =
    let e = c.self.invariant.1 (or_false _ _ (sym c.is_refused.ensures.refused ∙ c.if-is_refused.false)) in
    (idle entry_cmp c.prepare.new.self.slots c.self.inside.made.items e, λ _. e)
