use Rattle.std.proofs.Common.{rules}
use Rattle.std.specs.Prelude.{is_some, ⊤}
use Rattle.std.proofs.lemmas.Map.Entries.{filter_from_retain_pairs}
use Rattle.merge_table.proofs.table.drop_room.Goals as goal

pub returns-clause-entries : goal.returns-clause-entries
returns-clause-entries g c = filter_from_retain_pairs _ (λ _. ⊤) (λ e. is_some e.1) (λ f k v b w after i called. search rules) _ _ _ tt c.retain.ensures.filtered
