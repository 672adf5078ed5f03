use Rattle.merge_part.proofs.membership.Membership.publication.Goals as goal

pub returns-clause-filters : goal.returns-clause-filters
returns-clause-filters c = c.self.invariant.rules.filters
