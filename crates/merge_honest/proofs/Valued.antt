-- Each live row of an article with an identity column has a value: that which the change took which made it.
use Rattle.std.specs.Prelude.{List, Option, is_some, true, ℤ, ◌≡◌}
use Rattle.std.proofs.Common.{ap, subst, sym, ◌∙◌}
use Rattle.merge_types.specs.declared.row_key.RowKey.{RowKey as Key}
use Rattle.merge_units.specs.declared.version.Body.{Body}
use Rattle.merge_units.specs.declared.version.Body.TheVariants.{Dead, Live}
use Rattle.merge_units.specs.declared.version.Version.{Version}
use Rattle.merge_schema.specs.declared.publication.Publication.{Publication}
use Rattle.merge_batch.specs.Makers.{maker_of}
use Rattle.merge_batch.specs.Uploads.{identity_value}
use Rattle.merge_model.specs.History.{MadeChange, Past}
use Rattle.merge_model.specs.History.Model.{Model}
use Rattle.merge_model.specs.Failing.Runs.{model_behind}
use Rattle.merge_model.proofs.Lists.KeyLookUps.{keys-same}
use Rattle.merge_laws.specs.Laws.{OfEveryValidRun}
use Rattle.merge_laws.proofs.Accounts.AccountElements.{all-in}
use Rattle.merge_owed.specs.Identity.{HasIdentity, IsMaker, ValueWasTaken}
use Rattle.merge_owed.proofs.IdentityFits.{taken-out}
use Rattle.merge_owed.proofs.IdentityKept.{values-taken}
use Rattle.merge_owed.proofs.MadeStays.{every-weaker}
use Rattle.merge_honest.specs.Valued.{InsertsTook, IsValued, RowsAreValued}
use Rattle.merge_honest.proofs.RowsFit.{AllTook, TookValue}
use Rattle.merge_honest.proofs.TookValues.{took-always}

pub inserts-took : OfEveryValidRun InsertsTook
inserts-took resolvers publication valid says tallies slips events = took-always publication says tallies slips events (resolvers, valid)

body-valued : (publication : Publication) (made : List MadeChange) → AllTook publication made → (key : Key) (body : Body) → ValueWasTaken publication made key body → IsValued publication key body
body-valued publication made took key (Live cells) taken = λ has. taken-out (is_some (identity_value publication key.article (Live cells)) ≡ true) made key (identity_value publication key.article (Live cells)) (taken has) (λ change inside with. (
    let one : change.key ≡ key = keys-same change.key key with.same in
    let maker : IsMaker change = ap (λ (k : Key). maker_of k.row.0) one ∙ with.maker in
    let is : is_some change.identity ≡ true = all-in (TookValue publication) made change took inside maker (subst (HasIdentity publication) (sym one) has) in
    subst (λ (value : Option ℤ). is_some value ≡ true) with.took is))
body-valued publication made took key (Dead top) taken = tt

pub rows-valued : OfEveryValidRun RowsAreValued
rows-valued resolvers publication valid says tallies slips events =
    let m : Model = model_behind publication says tallies slips events in
    every-weaker (λ (key : Key) (version : Version) (past : Past). ValueWasTaken publication m.history.made key version.body) (λ (key : Key) (version : Version) (past : Past). IsValued publication key version.body)
    (λ key version past taken. body-valued publication m.history.made (took-always publication says tallies slips events (resolvers, valid)) key version.body taken) m.world m.history (values-taken resolvers publication valid says tallies slips events)
