use Rattle.std.proofs.Common.{◌≡◌, rules, nat_le, nat_lt, arith}
use Rattle.std.specs.List.{filter}
use Rattle.std.proofs.lemmas.Bool.Decides.{nat_tests}
use Rattle.std.proofs.lemmas.Fn.{filter_same}
use Rattle.merge_gens.specs.declared.closings.Closing.{Closing}
use Rattle.merge_gens.proofs.ClosedGenerations.{count_kept}
use Rattle.merge_gens.proofs.closings.keep_above.Goals as goal

pub returns-clause-items : goal.returns-clause-items
returns-clause-items c = filter_same _ (λ (closing : Closing). nat_lt c.args.up_to closing.generation) _ (λ x b f' k. search rules) _ _ c.retain.ensures.filtered

pub returns-clause-len : goal.returns-clause-len
returns-clause-len c =
    let kept : c.retain.new.self.items ≡ filter (λ (closing : Closing). nat_lt c.args.up_to closing.generation) c.args.closings.now.items = filter_same _ (λ (closing : Closing). nat_lt c.args.up_to closing.generation) _ (λ x b f' k. search rules) _ _ c.retain.ensures.filtered in
    grind (arith, kept, count_kept (λ (x : Closing). nat_lt c.args.up_to x.generation) (λ (x : Closing). nat_le x.generation c.args.up_to) (λ x. grind (arith, nat_tests)) c.args.closings.now.items)
