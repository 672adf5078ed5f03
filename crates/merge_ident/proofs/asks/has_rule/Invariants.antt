use Rattle.std.proofs.Common.{◌≡◌, drop}
use Rattle.merge_ident.specs.Answers.{rule_of}
use Rattle.merge_ident.proofs.asks.has_rule.Given as goal

-- none of those so far is the article's
abbrev pub invariant-loop-rule : goal.invariant-loop-rule
invariant-loop-rule l = rule_of (drop l.rule-index l.rules) l.article ≡ rule_of l.rules l.article
