use Rattle.std.proofs.Common.{◌≡◌, rules, nat_le, nat_lt, arith}
use Rattle.std.specs.List.{filter}
use Rattle.std.proofs.lemmas.Bool.Decides.{nat_tests}
use Rattle.std.proofs.lemmas.Fn.{filter_same}
use Rattle.merge_gens.specs.declared.closings.Closing.{Closing}
use Rattle.merge_gens.proofs.ClosedGenerations.{count_kept}
use Rattle.merge_gens.proofs.closings.keep_from.Goals as goal

pub returns-clause-items : goal.returns-clause-items
returns-clause-items c = filter_same _ (λ (closing : Closing). nat_le c.args.cutoff.0 closing.moment.0) _ (λ x b f' k. search rules) _ _ c.retain.ensures.filtered

pub returns-clause-len : goal.returns-clause-len
returns-clause-len c =
    let kept : c.retain.new.self.items ≡ filter (λ (closing : Closing). nat_le c.args.cutoff.0 closing.moment.0) c.args.closings.now.items = filter_same _ (λ (closing : Closing). nat_le c.args.cutoff.0 closing.moment.0) _ (λ x b f' k. search rules) _ _ c.retain.ensures.filtered in
    grind (arith, kept, count_kept (λ (x : Closing). nat_le c.args.cutoff.0 x.moment.0) (λ (x : Closing). nat_lt x.moment.0 c.args.cutoff.0) (λ x. grind (arith, nat_tests)) c.args.closings.now.items)
