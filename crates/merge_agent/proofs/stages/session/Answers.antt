use Rattle.std.proofs.Common.{refl}
use Rattle.std.proofs.lemmas.Result.{err_from_is_err_and}
use Rattle.merge_agent.proofs.Steps.{leads-fails, leads-then}
use Rattle.merge_agent.proofs.stages.session.Goals as goal

pub returns-in_err-uploads-clause-syncs : goal.returns-in_err-uploads-clause-syncs
returns-in_err-uploads-clause-syncs g c =
    let p = err_from_is_err_and c.from_residual-in_err-uploads.result c.from_residual-in_err-uploads.ensures.1 in
    rw (p.1, p.2) (leads-fails _ _ _ _ _ _ _ c.in_ok-join_first.ensures.goes c.in_err-uploads.ensures.goes)

pub returns-in_err-ask_for_ranges-clause-syncs : goal.returns-in_err-ask_for_ranges-clause-syncs
returns-in_err-ask_for_ranges-clause-syncs g c =
    let p = err_from_is_err_and c.from_residual-in_err-ask_for_ranges.result c.from_residual-in_err-ask_for_ranges.ensures.1 in
    rw (p.1, p.2) (leads-fails _ _ _ _ _ _ _ (leads-then _ _ _ _ _ _ _ c.in_ok-join_first.ensures.goes c.in_ok-uploads.ensures.goes) (c.in_err-ask_for_ranges.ensures.goes c.in_ok-uploads.uploads))

pub returns-in_err-downloads-clause-syncs : goal.returns-in_err-downloads-clause-syncs
returns-in_err-downloads-clause-syncs g c =
    let p = err_from_is_err_and c.from_residual-in_err-downloads.result c.from_residual-in_err-downloads.ensures.1 in
    rw (p.1, p.2) (leads-fails _ _ _ _ _ _ _ (leads-then _ _ _ _ _ _ _ (leads-then _ _ _ _ _ _ _ c.in_ok-join_first.ensures.goes c.in_ok-uploads.ensures.goes) (c.in_ok-ask_for_ranges.ensures.goes c.in_ok-uploads.uploads)) (c.in_err-downloads.ensures.goes c.in_ok-uploads.uploads))

pub returns-clause-syncs : goal.returns-clause-syncs
returns-clause-syncs g c = (
  leads-then _ _ _ _ _ _ _ (leads-then _ _ _ _ _ _ _ (leads-then _ _ _ _ _ _ _ c.in_ok-join_first.ensures.goes c.in_ok-uploads.ensures.goes) (c.in_ok-ask_for_ranges.ensures.goes c.in_ok-uploads.uploads)) (c.in_ok-downloads.ensures.goes c.in_ok-uploads.uploads),
  rw c.marks.ensures refl,
)
