use Rattle.std.proofs.Common.{sym, ap, ◌∙◌}
use Rattle.std.specs.Option.{option_copied_mut}
use Rattle.merge_table.proofs.Slots.{set_value_none}
use Rattle.merge_table.proofs.table.swap.Goals as goal

pub returns-in-None-clause-entries : goal.returns-in-None-clause-entries
returns-in-None-clause-entries g c =
    ap (λ m. m.entries) c.get_mut.follows.holds-at-none ∙ sym (set_value_none _ _ _ (sym c.get_mut.ensures.value ∙ ap option_copied_mut c.in-None.is))
