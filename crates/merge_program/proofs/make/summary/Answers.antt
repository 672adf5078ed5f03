-- The sites are started at no path, or there is no summary.
use Rattle.std.proofs.Common.{map, refl, subst, sym, ◌∙◌, ◌≡◌}
use Rattle.std.proofs.lemmas.Result.{err_from_is_err_and}
use Rattle.merge_schema.specs.declared.publication.Publication.{Publication}
use Rattle.merge_command.specs.Alone.{fresh_publisher}
use Rattle.merge_program.specs.Stores.{at_no_path, fresh_subscribers, untold_publisher, untold_subscriber}
use Rattle.merge_program.proofs.Makes.{unmade}
use Rattle.merge_program.proofs.Plays.{empty-of, unstarted-of}
use Rattle.merge_program.proofs.make.summary.Goals as goal

pub make_started-requires-clause-publisher : goal.make_started-requires-clause-publisher
make_started-requires-clause-publisher g c = subst (λ (q : Publication). untold_publisher c.in_ok-started.started.0 ≡ fresh_publisher q) c.in_ok-publication.ensures.made c.in_ok-started.ensures.publisher

pub make_started-requires-clause-subscribers : goal.make_started-requires-clause-subscribers
make_started-requires-clause-subscribers g c = subst (λ (q : Publication). map untold_subscriber c.in_ok-started.started.1.items ≡ fresh_subscribers q) c.in_ok-publication.ensures.made c.in_ok-started.ensures.subscribers

pub returns-in_err-started-clause-unmade : goal.returns-in_err-started-clause-unmade
returns-in_err-started-clause-unmade g c =
    let p = err_from_is_err_and c.from_residual-in_err-started.result c.from_residual-in_err-started.ensures.1 in
    rw (p.1, p.2) (unmade (at_no_path (g.E.Outside.told c.args.outside.now)) _ _ _
    (unstarted-of _ _ (sym c.in_ok-publication.ensures.made) _ c.no_path-path.ensures (g.E.Outside.told c.args.outside.now) _ _ _ c.in_err-started.ensures.ends))

pub returns-clause-empty : goal.returns-clause-empty
returns-clause-empty g c = empty-of _ _ (sym c.in_ok-publication.ensures.made) _ c.no_path-path.ensures (g.E.Outside.told c.args.outside.now) c.in_ok-started.ensures.empty

pub returns-in_err-publication-clause-others : goal.returns-in_err-publication-clause-others
returns-in_err-publication-clause-others g c = λ s p other. refl

pub returns-in_err-started-clause-others : goal.returns-in_err-started-clause-others
returns-in_err-started-clause-others g c = λ s p other. c.in_err-started.ensures.others s p (λ is. other (is ∙ c.no_path-path.ensures))

pub returns-in_err-text-clause-others : goal.returns-in_err-text-clause-others
returns-in_err-text-clause-others g c = λ s p other.
    c.in_err-text.ensures.others s p (λ is. other (is ∙ c.no_path-path.ensures)) ∙ c.in_ok-started.ensures.others s p (λ is. other (is ∙ c.no_path-path.ensures))

pub returns-clause-others : goal.returns-clause-others
returns-clause-others g c = λ s p other.
    c.in_ok-text.ensures.others s p (λ is. other (is ∙ c.no_path-path.ensures)) ∙ c.in_ok-started.ensures.others s p (λ is. other (is ∙ c.no_path-path.ensures))
