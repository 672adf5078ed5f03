use Rattle.std.specs.Prelude.{drop}
use Rattle.merge_keeper.specs.Encoded.{AllEditKeys}
use Rattle.merge_site.proofs.places.fit_places.Given as goal

-- all fit where those that are left do
abbrev pub invariant-loop-edit : goal.invariant-loop-edit
invariant-loop-edit g l = AllEditKeys g.K.Field.IsSpelled (drop l.edit-index l.edits) → AllEditKeys g.K.Field.IsSpelled l.edits
