use Rattle.std.proofs.Common.{◌≡◌, ap, ◌∙◌, arith}
use Rattle.std.proofs.lemmas.List.Sums.{count_by-le-length}
use Rattle.merge_ident.specs.Grants.{granted_to, is_of}
use Rattle.merge_ident.proofs.Lasts.{granted_last, number_of}
use Rattle.merge_ident.proofs.halving.granted.Goals as goal

pub returns-in-Some-clause-granted : goal.returns-in-Some-clause-granted
returns-in-Some-clause-granted c = ap number_of c.in-Some.ensures ∙ granted_last c.args.article c.args.site.0 c.args.grants.now c.requires.order c.requires.numbered

pub returns-in-None-clause-granted : goal.returns-in-None-clause-granted
returns-in-None-clause-granted c = ap number_of c.in-None.ensures ∙ granted_last c.args.article c.args.site.0 c.args.grants.now c.requires.order c.requires.numbered

pub returns-in-Some-clause-bound : goal.returns-in-Some-clause-bound
returns-in-Some-clause-bound c =
    let is : c.in-Some.grant.number ≡ granted_to c.args.article c.args.site.0 c.args.grants.now = ap number_of c.in-Some.ensures ∙ granted_last c.args.article c.args.site.0 c.args.grants.now c.requires.order c.requires.numbered in
    omega (arith, is, count_by-le-length (is_of c.args.article c.args.site.0) c.args.grants.now)
