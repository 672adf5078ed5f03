use Rattle.std.proofs.Common.{subst, sym}
use Rattle.std.proofs.lemmas.Result.{IfOk-weaker}
use Rattle.merge_schema.specs.Valid.{IsValid}
use Rattle.merge_schema.specs.declared.publication.Publication.{Publication}
use Rattle.merge_make.proofs.Published.{made-valid}
use Rattle.merge_make.proofs.publication.made.Goals as goal

pub returns-clause-valid : goal.returns-clause-valid
returns-clause-valid c = IfOk-weaker c.built.result _ _ (λ publication is. subst (λ (p : Publication). IsValid 1 p) (sym is) made-valid) c.built.ensures
