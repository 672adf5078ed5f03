-- A publisher that has started serves, and its keeper is given back.
use Rattle.std.proofs.Common.{ap, refl, ◌∙◌}
use denote.Exit.{yes}
use denote.Param.Send.{arg_send, param_send, sendable}
use denote.Param.Object.{Vt, ghosts_of}
use Rattle.merge_resolve.specs.Asked.{says_at}
use Rattle.merge_service.proofs.Crosses.{site_send}
use Rattle.merge_service.specs.contracts.service.serve_kept.dyn-1 as handed
use Rattle.merge_service.proofs.Endings.{kept-at, not-served-so, summed-so}
use Rattle.merge_service.proofs.service.serve_kept.Goals as goal

pub returns-in-Ok-clause-ends : goal.returns-in-Ok-clause-ends
returns-in-Ok-clause-ends g c = λ publication stored stores same read.
    let same_items = ap (λ v. v.items) c.new-publisher.ensures.resolvers in
    let said = ap (says_at (λ r. (goal.Resolver-dyn g (r.vtable, r.value)).says r.value)) same_items in
    summed-so _ _ _ _ _ _ _ _ _ _ _ read (kept-at _ _ _ c.keeper_back.ensures.map c.into_keeper.ensures.kept.kept) _ _ _ (c.new-publisher.ensures.publication ∙ same) said c.new-publisher.ensures.tables _ c.open_day-opened.ensures.day
    _ c.in-Ok.is _ refl _ c.write_summary.ensures.ok c.write_summary.ensures.err

pub returns-in-Err-clause-ends : goal.returns-in-Err-clause-ends
returns-in-Err-clause-ends g c = λ publication stored stores same read.
    let same_items = ap (λ v. v.items) c.new-publisher.ensures.resolvers in
    let said = ap (says_at (λ r. (goal.Resolver-dyn g (r.vtable, r.value)).says r.value)) same_items in
    not-served-so _ _ _ _ _ _ _ _ _ _ _ read (kept-at _ _ _ c.keeper_back.ensures.map c.into_keeper.ensures.kept.kept) _ _ _ (c.new-publisher.ensures.publication ∙ same) said c.new-publisher.ensures.tables _ c.open_day-opened.ensures.day
    _ c.in-Err.is refl

pub returns-in-Ok-clause-others : goal.returns-in-Ok-clause-others
returns-in-Ok-clause-others g c = c.keeper_back.ensures.others

pub returns-in-Err-clause-others : goal.returns-in-Err-clause-others
returns-in-Err-clause-others g c = c.keeper_back.ensures.others

pub open_day-opened-requires-send-P : goal.open_day-opened-requires-send-P
open_day-opened-requires-send-P g c κs within =
    let slots = handed.slots g.row.R g.row.O g.row.E g.row.T g.row.C g.row.E-Keep g.row.T-Opened g.row.T-Opened-Input g.row.T-Opened-Output in
    param_send _ _ (arg_send _ yes _ (site_send _ (Vt slots g.dyn-1.0) _ (ghosts_of slots g.dyn-1.0 g.dyn-1.1) c.type_bounds.send-E-Keep g.dyn-1.2 (search sendable)))
