-- The ranges that a step grants.
use Rattle.std.specs.Prelude.{List, None, Option, Some, [], ◌∷◌}
use Rattle.merge_ident.specs.Answers.{new_grant}
use Rattle.merge_ident.specs.declared.grants.Grant.{Grant}
use Rattle.merge_ident.specs.declared.grants.GrantPlan.{GrantPlan}

abbrev pub before_rest : Option Grant → List Grant → List Grant
before_rest None rest = rest
before_rest (Some grant) rest = grant ∷ rest

-- the grants that plans make, in their order
abbrev pub granted_by : List GrantPlan → List Grant
granted_by [] = []
granted_by (plan ∷ plans) = before_rest (new_grant plan.ask plan.answer) (granted_by plans)
