-- The publisher's numbers only rise.
use Rattle.std.specs.Prelude.{◌≤◌, List, Result, Ok, Err, IfOk}
use Rattle.std.proofs.Common.{arith}
use Rattle.std.proofs.lemmas.Bool.Decides.{nat_tests}
use Rattle.merge_types.specs.declared.identifiers.Moment.{Moment}
use Rattle.merge_types.specs.declared.changes.Change.{Change}
use Rattle.merge_batch.specs.declared.refusal.Refusal.{Refusal}
use Rattle.merge_batch.specs.declared.request.Upload.{Upload}
use Rattle.merge_gens.specs.declared.filling.Filling.{Filling}
use Rattle.merge_gens.specs.Filling as fill
use Rattle.merge_schema.specs.declared.publication.Publication.{Publication}
use Rattle.merge_model.specs.Tables.{PublisherTables}
use Rattle.merge_model.specs.Judge.{PublisherJudge}
use Rattle.merge_model.specs.Publisher.Acts.{Act, acts_of}
use Rattle.merge_model.specs.Publisher.{at_moment, tables_after_close}
use Rattle.merge_model.specs.Publisher.PublisherLocal.{draw_for_change, Drawn, made_locally}
use Rattle.merge_model.specs.Publisher.PublisherUpload.{taken_in}
use Rattle.merge_model.specs.World.{World, Judges, Saying}
use Rattle.merge_model.specs.World.Steps.{Action, step_by}
use Rattle.merge_model.specs.Laws.{PublisherRises}
use Rattle.merge_model.proofs.Publishers.PublisherSteps.{step-holds}
use Rattle.merge_model.proofs.Publishers.{local-ok, close-ok, join-ok, upload-ok, ranges-ok, download-ok}

moment-rises : (b p : PublisherTables) (now : Moment) → PublisherRises b p → PublisherRises b (at_moment now p)
moment-rises b p now r = record {
  changes_rise = r.changes_rise;
  closed_rises = r.closed_rises;
  conflicts_rise = r.conflicts_rise;
  latest_rises = omega (arith, r.latest_rises);
}

closed_filling-rises : (filling : Filling) → filling.last_closed ≤ (fill.filling_after_close filling).last_closed
closed_filling-rises filling = grind (arith, nat_tests)

closed-rises : (b p : PublisherTables) → PublisherRises b p → PublisherRises b (tables_after_close p)
closed-rises b p r = record {
  changes_rise = r.changes_rise;
  closed_rises = omega (arith, r.closed_rises, closed_filling-rises p.gens.filling);
  conflicts_rise = r.conflicts_rise;
  latest_rises = r.latest_rises;
}

made-rises : (b : PublisherTables) (publication : Publication) (judge : PublisherJudge) (change : Change) (d : Drawn) (p : PublisherTables) → PublisherRises b p → PublisherRises b (made_locally publication judge change d p).0
made-rises b publication judge change d p r = record {
  changes_rise = omega (arith, r.changes_rise);
  closed_rises = omega (arith, r.closed_rises);
  conflicts_rise = r.conflicts_rise;
  latest_rises = r.latest_rises;
}

taken-rises : (b : PublisherTables) (publication : Publication) (judge : PublisherJudge) (m : Upload) (acts : List Act) (p : PublisherTables) → PublisherRises b p → PublisherRises b (taken_in publication judge m acts p)
taken-rises b publication judge m acts p r = record {
  changes_rise = omega (arith, r.changes_rise);
  closed_rises = omega (arith, r.closed_rises);
  conflicts_rise = omega (arith, r.conflicts_rise);
  latest_rises = r.latest_rises;
}

same-rises : (p : PublisherTables) → PublisherRises p p
same-rises p = record { changes_rise = omega arith; closed_rises = omega arith; conflicts_rise = omega arith; latest_rises = omega arith }

drawn-rises : (b : PublisherTables) (publication : Publication) (judge : PublisherJudge) (now : Moment) (change : Change) (p : PublisherTables) (draw : Result Drawn Refusal) → PublisherRises b p
    → IfOk draw (λ d. PublisherRises b (made_locally publication judge change d (at_moment now p)).0)
drawn-rises b publication judge now change p (Ok d) r = made-rises b publication judge change d (at_moment now p) (moment-rises b p now r)
drawn-rises b publication judge now change p (Err refusal) r = tt

pub step-rises : (publication : Publication) (says : Saying) (judges : Judges) (w : World) (action : Action) → PublisherRises w.publisher (step_by publication says judges w action).0.publisher
step-rises publication says judges w action =
    step-holds publication (λ (p : PublisherTables). PublisherRises w.publisher p)
    (λ judge now change p k. local-ok (λ (q : PublisherTables). PublisherRises w.publisher q) publication judge now change p (drawn-rises w.publisher publication judge now change p (draw_for_change publication p change) k))
    (λ now p k. close-ok (λ (q : PublisherTables). PublisherRises w.publisher q) now p (closed-rises w.publisher (at_moment now p) (moment-rises w.publisher p now k)))
    (λ now m p k. join-ok (λ (q : PublisherTables). PublisherRises w.publisher q) publication now m p
    (let r = moment-rises w.publisher p now k in record { changes_rise = r.changes_rise; closed_rises = r.closed_rises; conflicts_rise = r.conflicts_rise; latest_rises = r.latest_rises })
    (moment-rises w.publisher p now k))
    (λ judge now m decisions p k. upload-ok (λ (q : PublisherTables). PublisherRises w.publisher q) publication judge now m decisions p
    (taken-rises w.publisher publication judge m (acts_of judge m decisions (at_moment now p)) (at_moment now p) (moment-rises w.publisher p now k)) (moment-rises w.publisher p now k))
    (λ judge now m p k. ranges-ok (λ (q : PublisherTables). PublisherRises w.publisher q) publication judge now m p
    (let r = moment-rises w.publisher p now k in record { changes_rise = r.changes_rise; closed_rises = r.closed_rises; conflicts_rise = r.conflicts_rise; latest_rises = r.latest_rises }))
    (λ judge now m p k. download-ok (λ (q : PublisherTables). PublisherRises w.publisher q) publication judge now m p
    (let r = moment-rises w.publisher p now k in let c = closed-rises w.publisher (at_moment now p) r in record { changes_rise = c.changes_rise; closed_rises = c.closed_rises; conflicts_rise = c.conflicts_rise; latest_rises = c.latest_rises }))
    (λ now p k. let r = moment-rises w.publisher p now k in record { changes_rise = r.changes_rise; closed_rises = r.closed_rises; conflicts_rise = r.conflicts_rise; latest_rises = r.latest_rises })
    says judges w action (same-rises w.publisher)
