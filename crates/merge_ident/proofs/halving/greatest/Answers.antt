use Rattle.std.proofs.Common.{ap, ◌∙◌}
use Rattle.merge_ident.specs.Lasts.{is_of_article}
use Rattle.merge_ident.proofs.Lasts.{end_of, greatest_last, last_granted}
use Rattle.merge_ident.proofs.halving.greatest.Goals as goal

pub end_of-requires : goal.end_of-requires
end_of-requires c = last_granted (is_of_article c.args.article) c.args.grants.now c.in-Some.grant c.in-Some.ensures c.requires.granted

pub returns-in-Some-clause-greatest : goal.returns-in-Some-clause-greatest
returns-in-Some-clause-greatest c = c.end_of.ensures.end ∙ ap end_of c.in-Some.ensures ∙ greatest_last c.args.article c.args.grants.now c.requires.order c.requires.granted

pub returns-in-None-clause-greatest : goal.returns-in-None-clause-greatest
returns-in-None-clause-greatest c = ap end_of c.in-None.ensures ∙ greatest_last c.args.article c.args.grants.now c.requires.order c.requires.granted
