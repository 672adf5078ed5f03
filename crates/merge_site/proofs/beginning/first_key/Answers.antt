-- The first entry is what the iteration gives first.
use Rattle.std.proofs.Common.{sym, ◌∙◌}
use Rattle.merge_site.proofs.beginning.first_key.Goals as goal

pub returns-in_ok-clone-in-Some : goal.returns-in_ok-clone-in-Some
returns-in_ok-clone-in-Some c = (c.in-Some.field-0-1.now, c.next.new.self, rw c.in_ok-clone-in-Some.ensures.cases (sym c.iter-rest.ensures.entries ∙ c.in-Some.ensures.steps))
