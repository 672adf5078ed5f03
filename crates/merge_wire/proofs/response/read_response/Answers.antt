-- What the parser refuses is no head.
use Rattle.std.proofs.Common.{rules, ℕ, List, inl, subst}
use Rattle.merge_wire.specs.Heads.{NoResponseCan}
use Rattle.merge_wire.proofs.BadHeads.{refused_response}
use Rattle.merge_wire.proofs.response.read_response.Goals as goal

pub returns-in-Err-clause-fault : goal.returns-in-Err-clause-fault
returns-in-Err-clause-fault c =
    inl (subst (λ (l : List ℕ). NoResponseCan l) c.front_of.ensures
    (refused_response c.front_of.result.now _ c.parse_response.result c.in-Err.field-0 (search rules) c.in-Err.is c.parse_response.ensures.invalid c.parse_response.ensures.no_room c.parse_response.ensures.too_many))
