use Rattle.std.proofs.Common.{◌≡◌, ◌+◌, ◌-◌, sym, ◌∙◌, arith}
use mir.Val.{SFits}
use mir.Syntax.{w64}
use Rattle.std.proofs.lemmas.Int.{to_z-of_z}
use Rattle.merge_ident.proofs.Lasts.{granted_none, granted_at}
use Rattle.merge_ident.proofs.halving.has_granted.Goals as goal

pub returns-then-behind-eq0 : goal.returns-then-behind-eq0
returns-then-behind-eq0 c =
    let fits : SFits w64 c.args.value = c.ranges.value in
    sym (granted_none c.args.article c.args.site.0 c.args.value c.args.grants.now c.requires.order c.behind_value-behind.result (simp to_z-of_z at c.behind_value-behind.ensures.point) c.if-behind-eq0.true)

pub returns : goal.returns
returns c =
    let fits : SFits w64 c.args.value = c.ranges.value in
    let before : c.behind_value-behind.result ≡ (c.behind_value-behind.result - 1) + 1 = omega (arith, c.if-behind-eq0.false) in
    (simp to_z-of_z at c.gives_to.ensures)
    ∙ granted_at c.args.article c.args.site.0 c.args.value c.args.grants.now c.requires.order c.behind_value-behind.result (simp to_z-of_z at c.behind_value-behind.ensures.point) (c.behind_value-behind.result - 1) _ before c.behind_value-behind.ensures.bound
