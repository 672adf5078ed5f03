use Rattle.std.proofs.Common.{◌∙◌, ◌∷◌, [], ap}
use Rattle.merge_table.specs.declared.edit.Edit.TheVariants.{Put}
use Rattle.merge_keeper.specs.Entries.{state_key}
use Rattle.merge_keeper.specs.States.{publisher_spelling}
use Rattle.merge_keeper.proofs.EditLists.{held_map, of_list, seven_behind}
use Rattle.merge_keeper.proofs.stored.PublisherChanges.edits.Goals as goal

pub returns : goal.returns
returns c t =
    seven_behind _ _ _ _ _ _ _ _ _ _ _ _ _ _ _ _ _ (c.in_ok-edits.ensures ∙ ap (λ s. Put state_key (publisher_spelling s) ∷ []) c.state.ensures)
    (of_list _ _ _ _ _ c.in_ok-add_all.ensures c.as_slice.ensures) (of_list _ _ _ _ _ c.in_ok-add_all-2.ensures c.as_slice-2.ensures) (of_list _ _ _ _ _ c.in_ok-add_all-3.ensures c.as_slice-3.ensures) (of_list _ _ _ _ _ c.in_ok-add_all-4.ensures c.as_slice-4.ensures) (of_list _ _ _ _ _ c.in_ok-add_all-5.ensures c.as_slice-5.ensures)
    (held_map c.args.self.now.held) (of_list _ _ _ _ _ c.in_ok-add_all-6.ensures c.as_slice-6.ensures) (of_list _ _ _ _ _ c.in_ok-add_all-7.ensures c.as_slice-7.ensures)
