-- The publisher is alone.
use Rattle.std.proofs.Common.{[], rules, ◌≡◌}
use Rattle.merge_program.proofs.Sites.{publisher-read}
use Rattle.merge_program.proofs.alone.open_publisher.Goals as goal

pub returns-clause-read : goal.returns-clause-read
returns-clause-read g c =
    let none : c.new-subscribers.result.items ≡ [] = search rules in
    let empty : c.new-pool.result.items ≡ [] = search rules in
    let e = c.in_ok-publisher.ensures in publisher-read _ _ c.in_ok-publisher.publisher _ _ none empty e.tables e.publication e.faults
