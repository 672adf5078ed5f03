use Rattle.std.proofs.Common.{◌∙◌, ◌∷◌, [], ap, sym}
use Rattle.merge_table.specs.declared.edit.Edit.TheVariants.{Put}
use Rattle.merge_keeper.specs.Edits.{subscriber_state_of}
use Rattle.merge_keeper.specs.Entries.{state_key}
use Rattle.merge_keeper.specs.States.{subscriber_spelling}
use Rattle.merge_keeper.proofs.EditLists.{four_behind, held_map, of_list}
use Rattle.merge_keeper.proofs.stored.SubscriberChanges.edits.Goals as goal

pub returns : goal.returns
returns c t same =
    four_behind _ _ _ _ _ _ _ _ _ _ _ (c.in_ok-edits.ensures ∙ ap (λ s. Put state_key (subscriber_spelling s) ∷ []) c.state.ensures.state ∙ ap (λ site. Put state_key (subscriber_spelling (subscriber_state_of site c.args.self.now)) ∷ []) (sym same))
    (of_list _ _ _ _ _ c.in_ok-add_all.ensures c.as_slice.ensures) (of_list _ _ _ _ _ c.in_ok-add_all-2.ensures c.as_slice-2.ensures) (of_list _ _ _ _ _ c.in_ok-add_all-3.ensures c.as_slice-3.ensures) (of_list _ _ _ _ _ c.in_ok-add_all-4.ensures c.as_slice-4.ensures) (held_map c.args.self.now.held)
