use Rattle.std.proofs.Common.{◌≡◌, List, length, nat_le, unwrap_or, ap, ◌∙◌, arith}
use Rattle.std.specs.List.{insert, position}
use Rattle.merge_schema.specs.declared.order.Ranked.{Ranked}
use Rattle.merge_schema.proofs.Ranks.{put_into}
use Rattle.merge_schema.proofs.order.put.Goals as goal

pub returns : goal.returns
returns c =
    let order : List Ranked = c.args.order.now.items in
    let next : Ranked = c.args.next in
    let place : c.unwrap_or.result ≡ unwrap_or (position (λ (other : Ranked). nat_le next.ancestors other.ancestors) order) (length order) =
    grind (arith, c.unwrap_or.ensures, c.first_not_below-behind.ensures, c.as_slice.ensures.value, c.len.ensures, c.args.order.now.ok.0) in
    c.in_ok-insert.ensures.items ∙ ap (λ i. insert order i next) place ∙ put_into next order
