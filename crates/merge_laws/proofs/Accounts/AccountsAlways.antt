-- Every list of events keeps what is accounted for, so no change is lost.
use Rattle.std.specs.Prelude.{[]}
use Rattle.merge_schema.specs.declared.publication.Publication.{Publication}
use Rattle.merge_model.specs.Failing.{faulty}
use Rattle.merge_model.specs.Failing.Runs.{model_behind_actions}
use Rattle.merge_model.specs.History.Model.{Model, empty_model, model}
use Rattle.merge_model.specs.Laws.Promises.{AllAccounted}
use Rattle.merge_model.proofs.Runs.Actions.{failing-actions-keep}
use Rattle.merge_laws.specs.Facts.Accounts.{OfAccounts}
use Rattle.merge_laws.specs.Laws.{OfEveryValidActions}
use Rattle.merge_laws.proofs.Accounts.AccountBase.{Base}
use Rattle.merge_laws.proofs.Accounts.AccountEach.{all-accounted}
use Rattle.merge_laws.proofs.Accounts.AccountSteps.{accounts-begin, accounts-keep}
use Rattle.merge_laws.proofs.Lineages.LineagesAlways.{Kept, ground, kept-always, kept-step, kept-tallied, owns}
use Rattle.merge_laws.proofs.Walking.{step-keeps}

pub base : (publication : Publication) (m : Model) → Kept publication m → Base publication m.world m.history
base publication m k = (ground publication m k, (k.told, owns publication m k))

abbrev IsAccounted : Publication → Model → Type 0
IsAccounted publication m = Kept publication m × OfAccounts publication m.world m.history

pub no-change-is-lost : OfEveryValidActions (λ publication says m. AllAccounted m)
no-change-is-lost resolvers publication valid says tallies slips actions =
    let m : Model = model_behind_actions publication says tallies slips actions in
    let all : IsAccounted publication m = failing-actions-keep publication (model publication says) (IsAccounted publication)
    (λ n action k. (
      kept-step publication n k.0 says action,
      step-keeps publication says (Base publication) (OfAccounts publication) (λ w h b. b.0.received) (accounts-keep publication says) n action (base publication n k.0) k.1,
    )) (λ n others k. (kept-tallied publication n others k.0, k.1)) actions (faulty (empty_model publication tallies) slips) (kept-always publication (resolvers, valid) says tallies [] [], accounts-begin publication tallies (resolvers, valid)) in
    all-accounted publication m.world m.history (base publication m all.0).0.numbered all.1
