use Rattle.std.proofs.Common.{subst, sym}
use Rattle.merge_pub.specs.Held.{IsCompact}
use Rattle.merge_pub.proofs.publisher.Publisher.forget_closings.Goals as goal

pub returns-clause-compact : goal.returns-clause-compact
returns-clause-compact c = λ compact.
    let was = subst IsCompact (sym c.self.view_is) compact in
    record { rows = was.rows; mappings = was.mappings; changed = was.changed; moved = was.moved }
