use Rattle.std.proofs.Common.{◌-◌, ap, length, option_map, sym, ◌∙◌}
use Rattle.std.specs.List.{slice_get}
use Rattle.merge_model.specs.declared.letter.Letter.{Letter}
use Rattle.merge_world.proofs.Finding.{last-message}
use Rattle.merge_world.proofs.world.Sites.last_message.Goals as goal

pub returns-in-Some : goal.returns-in-Some
returns-in-Some g c = ap (option_map (λ (letter : Letter). letter.message)) (c.in-Some.ensures.value ∙ ap (λ l. slice_get l (length l - 1)) c.as_slice.ensures.value) ∙ sym (last-message c.args.self.now.pool.items)

pub returns-in-None : goal.returns-in-None
returns-in-None g c = ap (option_map (λ (letter : Letter). letter.message)) (c.in-None.ensures.value ∙ ap (λ l. slice_get l (length l - 1)) c.as_slice.ensures.value) ∙ sym (last-message c.args.self.now.pool.items)
