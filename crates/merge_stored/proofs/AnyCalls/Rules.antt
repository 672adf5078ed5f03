-- Tables that keep the rules of a start keep them after any calls.
use Rattle.std.specs.Prelude.{Err, IfOk, List, None, Ok, Result, [], length, ℕ, ◌<◌, ◌^◌, ◌∷◌}
use Rattle.merge_schema.specs.Valid.{IsValid}
use Rattle.merge_schema.specs.declared.publication.Publication.{Publication}
use Rattle.merge_batch.specs.declared.refusal.Refusal.{Refusal}
use Rattle.merge_model.specs.Judge.ByNumbers.{by_numbers}
use Rattle.merge_model.specs.Publisher.{close_generation, empty_publisher}
use Rattle.merge_model.specs.Publisher.PublisherLocal.{local}
use Rattle.merge_model.specs.Tables.{PublisherTables}
use Rattle.merge_model.specs.World.Calls.{result_of_request}
use Rattle.merge_stored.specs.Keeping.{AfterAnyCalls, Call, CallFits, CallsFit, Changes, ClosesAt, NewPublishersKeep, PublisherKeeps, PurgesAt, Receives, after_call, after_calls, unless_refused}
use Rattle.merge_stored.proofs.PublisherLoads.{publisher-loads}
use Rattle.merge_stored.proofs.AnyCalls.FitFrom.{fit-from}
use Rattle.merge_stored.proofs.AnyCalls.FromRules.{base-from, rooms-from, sites-from}
use Rattle.merge_stored.proofs.AnyCalls.GrantsFrom.{grants-from, keyed-from, own-from}
use Rattle.merge_stored.proofs.AnyCalls.Loads.{parts-load}
use Rattle.merge_stored.proofs.AnyCalls.Parts.{Parts, changed-parts, closed-parts, handled-parts, purged-parts}
use Rattle.merge_stored.proofs.AnyCalls.Values.{Fit, begin-fit, changed-fit, closed-fit, handled-fit, purged-fit, tables-typed}

module _ (resolvers : ℕ) (publication : Publication) (valid : IsValid resolvers publication) where
  parts-from : (p : PublisherTables) → PublisherKeeps publication p → Parts publication p
  parts-from p rules = record {
    base = base-from publication p resolvers valid rules;
    rooms = rooms-from publication p resolvers valid rules;
    sites = sites-from publication p resolvers valid rules;
    grants = grants-from resolvers publication valid p rules;
    own = own-from resolvers publication valid p rules;
    keys = keyed-from resolvers publication valid p rules;
  }

  record Stands (p : PublisherTables) : Type 0 where
    parts : Parts publication p
    fit : Fit resolvers publication valid p

  refused-stands : {A : Type 0} (p : PublisherTables) (done : Result (PublisherTables × A) Refusal) → Stands p → IfOk done (λ a. Parts publication a.0) → IfOk done (λ a. Fit resolvers publication valid a.0) → Stands (unless_refused p done)
  refused-stands p (Ok a) s parts fit = record { parts = parts; fit = fit }
  refused-stands p (Err refusal) s parts fit = s

  call-stands : (p : PublisherTables) (call : Call) → length p.rows < 2 ^ 64 → CallFits publication call → Stands p → Stands (after_call publication p call)
  call-stands p (Receives says tallies now m) few is s = refused-stands p (result_of_request publication says tallies now m p) s (handled-parts resolvers publication valid says tallies now m p few s.parts) (handled-fit resolvers publication valid says tallies now is.0 p s.fit m is.1)
  call-stands p (Changes now change) few is s = refused-stands p (local publication (by_numbers p) now change p) s (changed-parts resolvers publication valid now change p is.2 few s.parts) (changed-fit resolvers publication valid now is.0 p s.fit change is.1)
  call-stands p (ClosesAt now) few is s = refused-stands p (close_generation now p) s (closed-parts resolvers publication valid now p s.parts) (closed-fit resolvers publication valid now is p s.fit)
  call-stands p (PurgesAt now) few is s = record { parts = purged-parts resolvers publication valid now p s.parts; fit = purged-fit resolvers publication valid now is p s.fit }

  calls-stand : (p : PublisherTables) (calls : List Call) → CallsFit publication p calls → Stands p → Stands (after_calls publication p calls)
  calls-stand p [] fit s = s
  calls-stand p (call ∷ calls) fit s = calls-stand (after_call publication p call) calls fit.2 (call-stands p call fit.0 fit.1 s)

  keep : (p : PublisherTables) → Stands p → PublisherKeeps publication p
  keep p s = parts-load resolvers publication valid p s.parts (tables-typed resolvers publication valid p s.fit)

  start : (p : PublisherTables) → PublisherKeeps publication p → Stands p
  start p keeps = record { parts = parts-from p keeps; fit = fit-from resolvers publication valid p keeps }

pub any-calls : AfterAnyCalls PublisherKeeps
any-calls resolvers publication valid p keeps calls fit = keep resolvers publication valid (after_calls publication p calls) (calls-stand resolvers publication valid p calls fit (start resolvers publication valid p keeps))

pub new-publishers : NewPublishersKeep
new-publishers resolvers publication valid = publisher-loads resolvers publication valid (λ place times case. None) [] [] [] (tables-typed resolvers publication valid (empty_publisher publication) (begin-fit resolvers publication valid))
