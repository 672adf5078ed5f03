use Rattle.std.proofs.Common.{refl, ap}
use Rattle.merge_types.specs.declared.identifiers.Moment.{Moment}
use Rattle.merge_pub.specs.Held.{tables_of}
use Rattle.merge_steps.specs.declared.acting.Arrival.{Arrival}
use Rattle.merge_pub.proofs.UploadRules.{arrival-same}
use Rattle.merge_pub.proofs.publisher.Publisher.arrival_of.Goals as goal

pub returns : goal.returns
returns c = arrival-same c.args.now c.args.upload.now (tables_of c.args.self.now) c.args.state _ c.requires
    (ap (λ (moment : Moment). (let a : Arrival = record { site = c.args.upload.now.site; received = c.args.state.received; received_number = c.args.state.received_number; moment = moment } in a)) c.moment_at-moment.ensures)
