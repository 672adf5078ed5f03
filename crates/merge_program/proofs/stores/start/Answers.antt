-- Each site is started at the path, and its keeper is given back there.
use Rattle.std.proofs.Common.{refl, ◌∙◌}
use Rattle.std.proofs.lemmas.Result.{err_from_is_err_and}
use Rattle.merge_schema.specs.Places.{is_subscription}
use Rattle.merge_model.specs.World.Events.{is_site}
use Rattle.merge_program.proofs.Starts.{all-empty, beside, unstarted-one, unstarted-widely}
use Rattle.merge_program.proofs.stores.start.Goals as goal

pub returns-in_err-publisher-clause-ends : goal.returns-in_err-publisher-clause-ends
returns-in_err-publisher-clause-ends g c =
    let p = err_from_is_err_and c.from_residual.result c.from_residual.ensures.1 in
    rw (p.1, p.2) (unstarted-one (is_site c.args.publication.now) (λ s. g.E.Outside.told c.args.outside.now s c.args.path.now) (record { 0 = 0 }) refl _ refl _ _ _ refl _ c.in_err-publisher.ensures.ends)

pub returns-in-Err-clause-ends : goal.returns-in-Err-clause-ends
returns-in-Err-clause-ends g c =
    let opened = c.in_ok-publisher.ensures in
    unstarted-widely (λ s. is_subscription c.args.publication.now s.0) (is_site c.args.publication.now) (λ s. g.E.Outside.told c.start_publisher.new.outside s c.args.path.now) (λ s. g.E.Outside.told c.args.outside.now s c.args.path.now)
    (beside c.args.publication.now c.requires c.args.path.now _ _ opened.others) _ _ _ _ _ _ opened.kept c.give_back.ensures.rose c.in-Err.ensures.ends

pub returns-in-Ok-clause-empty : goal.returns-in-Ok-clause-empty
returns-in-Ok-clause-empty g c =
    let opened = c.in_ok-publisher.ensures in
    all-empty c.args.publication.now (λ s. g.E.Outside.told c.args.outside.now s c.args.path.now) (λ s. g.E.Outside.told c.start_publisher.new.outside s c.args.path.now)
    (beside c.args.publication.now c.requires c.args.path.now _ _ opened.others) opened.empty c.in-Ok.ensures.empty

pub returns-in_err-publisher-clause-others : goal.returns-in_err-publisher-clause-others
returns-in_err-publisher-clause-others g c = λ s p other. c.in_err-publisher.ensures.others s p (λ both. other both.1)

pub returns-in-Ok-clause-others : goal.returns-in-Ok-clause-others
returns-in-Ok-clause-others g c = λ s p other. c.in-Ok.ensures.others s p other ∙ c.in_ok-publisher.ensures.others s p (λ both. other both.1)

pub returns-in-Err-clause-others : goal.returns-in-Err-clause-others
returns-in-Err-clause-others g c = λ s p other. c.give_back.ensures.others s p other ∙ (c.in-Err.ensures.others s p other ∙ c.in_ok-publisher.ensures.others s p (λ both. other both.1))
