-- The load told it, and the keeper has the records of the tables.
use Rattle.std.proofs.Common.{ap, ◌∙◌}
use Rattle.std.proofs.lemmas.Result.{err_from_is_err_and}
use Rattle.merge_keeper.specs.SubscriberStart.{subscriber_loaded}
use Rattle.merge_model.specs.Publisher.{new_holders}
use Rattle.merge_schema.specs.declared.publication.Publication.{Publication}
use Rattle.merge_sub.specs.Held.{tables_of}
use Rattle.merge_types.specs.declared.identifiers.SiteId.{SiteId}
use Rattle.merge_site.proofs.Damaged.{damaged-at, subscriber-untold}
use Rattle.merge_site.proofs.subscriber.KeptSubscriber.restart.Goals as goal

pub returns-in_err-load_subscriber-clause-damaged : goal.returns-in_err-load_subscriber-clause-damaged
returns-in_err-load_subscriber-clause-damaged g c = λ table key is.
    let p = err_from_is_err_and c.from_residual.result c.from_residual.ensures.1 in
    let damage =
    damaged-at _ _ (ap (λ (q : Publication). subscriber_loaded q c.site.result (new_holders q)) c.publication.ensures
    ∙ ap (λ (s : SiteId). subscriber_loaded c.self.inside.subscriber.publication s (new_holders c.self.inside.subscriber.publication)) c.site.ensures)
    _ _ c.in_err-load_subscriber.ensures.same c.from_residual.result p.0 c.in_err-load_subscriber.field-0.0 p.1 p.2 _ _ c.in_err-load_subscriber.ensures.why table key is in
    record {
      damage = damage;
      untold = subscriber-untold c.self.inside.subscriber.publication (tables_of c.self.inside.subscriber) _ _ c.in_err-load_subscriber.ensures.same c.self.invariant.kept _ damage;
    }
