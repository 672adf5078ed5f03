use Rattle.std.proofs.Common.{subst}
use Rattle.merge_schema.specs.Valid.{IsValid}
use Rattle.std.specs.Prelude.{ℕ}
use Rattle.merge_pub.specs.Held.{Held, publication_of, tables_of}
use Rattle.merge_steps.specs.Keeps.{KeepsRules}
use Rattle.merge_pub.proofs.publisher.Publisher.keeps_rules.Goals as goal

pub returns-clause-valid : goal.returns-clause-valid
returns-clause-valid c = subst (λ (h : Held). (count : ℕ) × IsValid count (publication_of h)) c.self.view_is c.self.invariant.valid

pub returns-clause-rules : goal.returns-clause-rules
returns-clause-rules c = subst (λ (h : Held). KeepsRules (publication_of h) (tables_of h)) c.self.view_is c.self.invariant.keeps
