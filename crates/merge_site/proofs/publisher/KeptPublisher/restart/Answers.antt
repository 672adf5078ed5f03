-- The load told it, and the keeper has the records of the tables.
use Rattle.std.proofs.Common.{ap}
use Rattle.std.proofs.lemmas.Result.{err_from_is_err_and}
use Rattle.merge_keeper.specs.PublisherStart.{publisher_loaded}
use Rattle.merge_model.specs.Publisher.{new_holders}
use Rattle.merge_pub.specs.Held.{publication_of, tables_of}
use Rattle.merge_schema.specs.declared.publication.Publication.{Publication}
use Rattle.merge_site.proofs.Damaged.{damaged-at, publisher-untold}
use Rattle.merge_site.proofs.publisher.KeptPublisher.restart.Goals as goal

pub returns-in_err-load_publisher-clause-damaged : goal.returns-in_err-load_publisher-clause-damaged
returns-in_err-load_publisher-clause-damaged g c = λ table key is.
    let p = err_from_is_err_and c.from_residual.result c.from_residual.ensures.1 in
    let damage =
    damaged-at _ _ (ap (λ (q : Publication). publisher_loaded q (new_holders q)) c.publication.ensures)
    _ _ c.in_err-load_publisher.ensures.same c.from_residual.result p.0 c.in_err-load_publisher.field-0.0 p.1 p.2 _ _ c.in_err-load_publisher.ensures.why table key is in
    record {
      damage = damage;
      untold = publisher-untold (publication_of c.self.inside.publisher) (tables_of c.self.inside.publisher) _ _ c.in_err-load_publisher.ensures.same c.self.invariant.kept _ damage;
    }
