use Rattle.std.specs.Prelude.{◌≡◌, true, false}
use Rattle.std.proofs.Common.{arith, ap, ◌∙◌}
use Rattle.merge_model.specs.Judge.ByNumbers.{touch_inside, touch_outside}
use Rattle.merge_pub.proofs.Looking.{touch-in, touch-out}
use Rattle.merge_pub.proofs.publisher.Publisher.touch.Goals as goal

pub returns-then-not-is_in : goal.returns-then-not-is_in
returns-then-not-is_in c =
    let out : c.args.is_in ≡ false = grind (arith, c.if-not-is_in.true) in
    touch-out _ _ c.self.view_is c.args.key c.args.site.0 c.args.is_in _ out (c.touch_outside.ensures ∙ ap touch_outside (c.copied-mapping.ensures ∙ c.get.ensures.row))

pub returns-in-Some : goal.returns-in-Some
returns-in-Some c =
    let inn : c.args.is_in ≡ true = grind (arith, c.if-not-is_in.false) in
    touch-in _ _ c.self.view_is c.args.key c.args.site.0 c.args.is_in c.in-Some.row.now _ inn c.in-Some.ensures.row (c.touch_inside.ensures ∙ ap (touch_inside c.in-Some.row.now.changed) (c.copied-mapping.ensures ∙ c.get.ensures.row))
