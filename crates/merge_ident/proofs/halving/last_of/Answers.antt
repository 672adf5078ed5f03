use Rattle.merge_ident.proofs.Lasts.{last_of_empty, last_of_other, last_of_same}
use Rattle.merge_ident.proofs.halving.last_of.Goals as goal

pub returns-then-behind-eq0 : goal.returns-then-behind-eq0
returns-then-behind-eq0 c = last_of_empty c.args.article c.args.grants.now c.requires c.place-behind.result c.place-behind.ensures.bound c.place-behind.ensures.point c.if-behind-eq0.true

pub returns-then-last-article : goal.returns-then-last-article
returns-then-last-article c = last_of_other c.args.article c.args.grants.now c.requires c.place-behind.result c.place-behind.ensures.bound c.place-behind.ensures.point _ c.if-behind-eq0.false c.if-last-article.true

pub returns : goal.returns
returns c = last_of_same c.args.article c.args.grants.now c.requires c.place-behind.result c.place-behind.ensures.bound c.place-behind.ensures.point _ c.if-behind-eq0.false c.if-last-article.false
