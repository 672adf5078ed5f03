use Rattle.std.proofs.Common.{Ok, ap, inl, ◌∙◌}
use Rattle.std.proofs.lemmas.Result.{IfErr-weaker}
use Rattle.merge_keeper.specs.PublisherStart.{publisher_loaded}
use Rattle.merge_model.specs.Publisher.{new_holders}
use Rattle.merge_model.specs.Tables.{PublisherTables}
use Rattle.merge_world.specs.Views.{PublisherView}
use Rattle.merge_site.specs.Kept.{IsKept}
use Rattle.merge_site.specs.Loading.{IsRead}
use Rattle.merge_site.specs.Publishers.{publisher_stored, records_of, stored_tables}
use Rattle.merge_site.proofs.Called.{ok-same}
use Rattle.merge_site.proofs.PublisherStarted.{started}
use Rattle.merge_site.proofs.publisher.KeptPublisher.start.Goals as goal

pub resume-requires-clause-stands : goal.resume-requires-clause-stands
resume-requires-clause-stands g c =
    let p = started c.args.publication.now c.requires _ c.in-Ok.tables c.in-Ok.ensures.ok in
    p.stands

pub resume-requires-clause-kept : goal.resume-requires-clause-kept
resume-requires-clause-kept g c =
    let p = started c.args.publication.now c.requires _ c.in-Ok.tables c.in-Ok.ensures.ok in
    rw c.load_publisher.ensures.same p.kept

pub returns-in-Ok-clause-tables : goal.returns-in-Ok-clause-tables
returns-in-Ok-clause-tables g c =
    ok-same (λ (p : PublisherView). p.tables) (λ (t : PublisherTables). IsRead (publisher_loaded c.args.publication.now (new_holders c.args.publication.now)) (g.K.Keeper.told c.args.keeper) (Ok (publisher_stored t))) c.resume.result (stored_tables c.in-Ok.tables) c.in-Ok.ensures.ok c.resume.ensures.tables

pub returns-in-Ok-clause-kept : goal.returns-in-Ok-clause-kept
returns-in-Ok-clause-kept g c =
    let p = started c.args.publication.now c.requires _ c.in-Ok.tables c.in-Ok.ensures.ok in
    ok-same (λ (p : PublisherView). p.tables) (λ (t : PublisherTables). IsKept (records_of t) (g.K.Keeper.told c.args.keeper)) c.resume.result (stored_tables c.in-Ok.tables) p.kept.kept c.resume.ensures.tables

-- a keeper that is given back counts what it counted before
pub returns-in-Ok-clause-err : goal.returns-in-Ok-clause-err
returns-in-Ok-clause-err g c = IfErr-weaker c.resume.result _ _ (λ n back. inl (inl (back.0, ap g.K.Keeper.count back.1 ∙ c.in-Ok.ensures.count))) c.resume.ensures.err
