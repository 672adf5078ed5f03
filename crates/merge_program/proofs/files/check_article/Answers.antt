-- The article is looked for by its name.
use Rattle.std.proofs.Common.{refl, sym, ◌∙◌}
use Rattle.merge_world.proofs.Namings.{article-first}
use Rattle.merge_program.proofs.Readings.{article-found, article-lost}
use Rattle.merge_program.proofs.files.check_article.Goals as goal

pub returns-in-Some-clause-ok : goal.returns-in-Some-clause-ok
returns-in-Some-clause-ok c = (_, article-found c.args.publication.now c.args.name.now _ (sym (c.in-Some.ensures.place ∙ article-first c.args.publication.now c.args.name.now c.as_str.result.now c.as_str.ensures.text)))

pub returns-in-None-clause-err : goal.returns-in-None-clause-err
returns-in-None-clause-err c = (refl, article-lost c.args.publication.now c.args.name.now (sym (c.in-None.ensures.place ∙ article-first c.args.publication.now c.args.name.now c.as_str.result.now c.as_str.ensures.text)))
