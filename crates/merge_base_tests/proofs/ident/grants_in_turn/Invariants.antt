use Rattle.std.proofs.Common.{IsSome}
use Rattle.merge_ident.specs.Answers.{rule_of}
use Rattle.merge_base_tests.proofs.ident.grants_in_turn.Given as goal

-- the article has a rule
abbrev pub invariant-loop-site : goal.invariant-loop-site
invariant-loop-site g l = IsSome (rule_of l.book.rules 0)
