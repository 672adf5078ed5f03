use Rattle.std.proofs.Common.{◌∙◌}
use Rattle.merge_world.proofs.Namings.{article-first, has-found}
use Rattle.merge_world.proofs.naming.article_place.Goals as goal

pub returns-clause-place : goal.returns-clause-place
returns-clause-place c = c.article_place.ensures.place ∙ article-first c.args.publication.now c.args.name.now c.as_str.result.now c.as_str.ensures.text

pub returns-clause-article : goal.returns-clause-article
returns-clause-article c = has-found c.args.publication.now c.article_place.result c.article_place.ensures.within
