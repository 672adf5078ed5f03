-- What is known to a site and accepted is known to the publisher, or a purge among the events took the row.
use Rattle.std.specs.Prelude.{Bool, List, None, Option, Some, [], false, is_some, refl, true, ◌==◌, ◌≡◌, ◌⊎◌, ℕ}
use Rattle.std.proofs.Common.{ap, arith, inl, inr}
use Rattle.std.proofs.lemmas.Bool.Decides.{nat_tests}
use Rattle.merge_types.specs.declared.identifiers.Dot.{Dot}
use Rattle.merge_types.specs.declared.row_key.RowKey.{RowKey as Key}
use Rattle.merge_units.specs.declared.site_row.PublisherRow.{PublisherRow}
use Rattle.merge_schema.specs.Valid.{IsValid}
use Rattle.merge_schema.specs.declared.publication.Publication.{Publication}
use Rattle.merge_model.specs.Failing.{Faulty, Slips, faulty}
use Rattle.merge_model.specs.History.{has, is_accepted, past_at}
use Rattle.merge_model.specs.Tables.Keys.{has_key, row_at}
use Rattle.merge_model.specs.History.Model.{Model, empty_model, model}
use Rattle.merge_model.specs.Laws.{AreSorted}
use Rattle.merge_model.specs.Failing.Runs.{model_behind, model_behind_actions}
use Rattle.merge_model.specs.World.Steps.{Action}
use Rattle.merge_model.specs.World.{Saying}
use Rattle.merge_model.specs.declared.event.Event.{Event}
use Rattle.merge_model.proofs.Runs.Actions.{failing-actions-keep}
use Rattle.merge_laws.specs.Facts.Knowledge.{is_made}
use Rattle.merge_laws.proofs.Known.KnownRows.{held-knows}
use Rattle.merge_laws.proofs.Lineages.LineagesAlways.{Kept, ground, kept-always, kept-step, kept-tallied}
use Rattle.merge_laws.proofs.Runs.OfActions.{of-events}
use Rattle.merge_laws.proofs.Runs.RestsOnKept.{accepted-known, accepted-known-by-actions, known-accepted, known-accepted-by-actions}
use Rattle.merge_laws.specs.Laws.RestsOn.{AcceptedIsKnown, KnownIsAccepted}
use Rattle.merge_laws.proofs.Told.ToldSites.{world-stays}
use Rattle.merge_laws.proofs.Told.ToldWalk.{every-begins}
use Rattle.merge_laws.proofs.Walking.{step-keeps}
use Rattle.merge_owed.specs.Purged.{KnownIsWithin, LackedWerePurged, OfEveryPurgingActions, OfEveryPurgingRun, PurgedWereTaken, WasPurged, WasPurgedByActions}
use Rattle.merge_owed.proofs.HaveMakers.{HasMaker, makers-go_on}
use Rattle.merge_owed.proofs.PurgeActions.{purged-by-actions, purged-stays-by-actions}
use Rattle.merge_owed.proofs.PurgeEvents.{purged-by, purged-stays}
use Rattle.merge_owed.proofs.RowsThere.{RowsThere, made-there}
use Rattle.merge_owed.proofs.RowsThereSteps.{Base, there-keeps}
use Rattle.merge_owed.proofs.VersionKept.{Holds, holds-keep}

record Whole (publication : Publication) (m : Model) : Type 0 where
  pub kept : Kept publication m
  pub makers : Holds publication HasMaker (makers-go_on publication) [] m.world m.history
  pub there : RowsThere m.world m.history

-- Of one model: where each row that its history has as purged is one of some rows.
module _ (publication : Publication) (m : Model) (whole : Whole publication m) (Purged : Key → Type 0) (taken : (key : Key) → has_key m.history.purged key ≡ true → Purged key) (known : KnownIsAccepted m) (accepted : AcceptedIsKnown m) where
  lacked-purged : LackedWerePurged Purged m
  lacked-purged key dot none made accept =
      let there = made-there m.world m.history whole.there key dot made accept in
      let lacks : is_some (row_at m.world.publisher.rows key) ≡ false = ap (λ (found : Option PublisherRow). is_some found) none in
      taken key (grind (arith, there, lacks))

  -- what is known was made, and is accepted
  accepted-by : (site : ℕ) (key : Key) (dot : Dot) (own : Bool) → (dot.site.0 == site) ≡ own → has (past_at m.history site key).known dot ≡ true → (dot.site.0 ≡ site → is_accepted m.history dot ≡ true) → is_accepted m.history dot ≡ true
  accepted-by site key dot true is knows accept = accept (grind (arith, nat_tests, is))
  accepted-by site key dot false is knows accept = known site key dot knows (λ same. absurd (grind (arith, nat_tests, is, same)))

  within-by : (key : Key) (dot : Dot) (found : Option PublisherRow) → row_at m.world.publisher.rows key ≡ found → is_made m.history.made key dot ≡ true → is_accepted m.history dot ≡ true → (has (past_at m.history 0 key).known dot ≡ true) ⊎ Purged key
  within-by key dot None at made accept = inr (lacked-purged key dot at made accept)
  within-by key dot (Some row) at made accept = inl (accepted key dot (ap (λ (found : Option PublisherRow). is_some found) at) made accept)

  known-within : KnownIsWithin Purged m
  known-within site key dot knows accept =
      let made : is_made m.history.made key dot ≡ true = (held-knows m.history site key (ground publication m whole.kept).known.knowledge).made_here dot knows in
      within-by key dot (row_at m.world.publisher.rows key) refl made (accepted-by site key dot (dot.site.0 == site) refl knows accept)

-- Behind every list of actions, and of events.

module _ (publication : Publication) (valid : (resolvers : ℕ) × IsValid resolvers publication) (says : Saying) (tallies : List ℕ) (slips : Slips) where
  abbrev start : Faulty Model
  start = faulty (empty_model publication tallies) slips

  starts-sorted : AreSorted start.world.world.publisher
  starts-sorted = (ground publication (empty_model publication tallies) (kept-always publication valid says tallies [] [])).sorted

  begun : (Purged : Type 0) (key : Key) → (has_key start.world.history.purged key ≡ true) ⊎ Purged → Purged
  begun Purged key (inl is) = absurd cc
  begun Purged key (inr p) = p

  whole-by-actions : (actions : List Action) → Whole publication (model_behind_actions publication says tallies slips actions)
  whole-by-actions actions = failing-actions-keep publication (model publication says) (Whole publication)
      (λ m action k. record {
        kept = kept-step publication m k.kept says action;
        makers = step-keeps publication says _ (Holds publication HasMaker (makers-go_on publication) []) (λ w h b. b.0.received) (holds-keep publication HasMaker (makers-go_on publication) [] says) m action (ground publication m k.kept, k.kept.grounded.1.1) k.makers;
        there = step-keeps publication says (Base publication) RowsThere (λ w h b. b.0.grounded.0.received) (there-keeps publication says) m action (k.kept, k.makers.0) k.there;
      })
      (λ m others k. record {
        kept = kept-tallied publication m others k.kept;
        makers = (world-stays (HasMaker m.history.made) m.world (record m.world { tallies = others }) m.history refl refl refl k.makers.0, k.makers.1);
        there = k.there;
      }) actions start
      (record { kept = kept-always publication valid says tallies [] []; makers = (every-begins (HasMaker []) publication tallies, λ change is. is); there = tt })

  module _ (actions : List Action) where
    abbrev pub model_there : Model
    model_there = model_behind_actions publication says tallies slips actions

    took : (key : Key) → has_key model_there.history.purged key ≡ true → WasPurgedByActions publication says start actions key
    took key is = begun (WasPurgedByActions publication says start actions key) key (purged-by-actions publication says actions start key starts-sorted is)

    pub lacked-by-actions : LackedWerePurged (WasPurgedByActions publication says start actions) model_there
    lacked-by-actions = lacked-purged publication model_there (whole-by-actions actions) (WasPurgedByActions publication says start actions) took
        (known-accepted-by-actions valid.0 publication valid.1 says tallies slips actions) (accepted-known-by-actions valid.0 publication valid.1 says tallies slips actions)

    pub within-by-actions : KnownIsWithin (WasPurgedByActions publication says start actions) model_there
    within-by-actions = known-within publication model_there (whole-by-actions actions) (WasPurgedByActions publication says start actions) took
        (known-accepted-by-actions valid.0 publication valid.1 says tallies slips actions) (accepted-known-by-actions valid.0 publication valid.1 says tallies slips actions)

    pub taken-by-actions : PurgedWereTaken (WasPurgedByActions publication says start actions) model_there
    taken-by-actions key = (λ is. took key is, λ p. purged-stays-by-actions publication says actions start key starts-sorted p)

  module _ (events : List Event) where
    abbrev event_there : Model
    event_there = model_behind publication says tallies slips events

    abbrev Purged : Key → Type 0
    Purged key = WasPurged publication says start events key

    whole-always : Whole publication event_there
    whole-always = of-events publication says tallies slips events (Whole publication) whole-by-actions

    took-it : (key : Key) → has_key event_there.history.purged key ≡ true → Purged key
    took-it key is = begun (Purged key) key (purged-by publication says events start key starts-sorted is)

    lacked-always : LackedWerePurged Purged event_there
    lacked-always = lacked-purged publication event_there whole-always Purged took-it (known-accepted valid.0 publication valid.1 says tallies slips events) (accepted-known valid.0 publication valid.1 says tallies slips events)

    within-always : KnownIsWithin Purged event_there
    within-always = known-within publication event_there whole-always Purged took-it (known-accepted valid.0 publication valid.1 says tallies slips events) (accepted-known valid.0 publication valid.1 says tallies slips events)

    taken-always : PurgedWereTaken Purged event_there
    taken-always key = (λ is. took-it key is, λ p. purged-stays publication says events start key starts-sorted p)

pub lacked-were-purged : OfEveryPurgingRun LackedWerePurged
lacked-were-purged resolvers publication valid says tallies slips events = lacked-always publication (resolvers, valid) says tallies slips events

pub known-is-within : OfEveryPurgingRun KnownIsWithin
known-is-within resolvers publication valid says tallies slips events = within-always publication (resolvers, valid) says tallies slips events

pub purged-were-taken : OfEveryPurgingRun PurgedWereTaken
purged-were-taken resolvers publication valid says tallies slips events = taken-always publication (resolvers, valid) says tallies slips events

pub lacked-were-purged-by-actions : OfEveryPurgingActions LackedWerePurged
lacked-were-purged-by-actions resolvers publication valid says tallies slips actions = lacked-by-actions publication (resolvers, valid) says tallies slips actions

pub known-is-within-by-actions : OfEveryPurgingActions KnownIsWithin
known-is-within-by-actions resolvers publication valid says tallies slips actions = within-by-actions publication (resolvers, valid) says tallies slips actions

pub purged-were-taken-by-actions : OfEveryPurgingActions PurgedWereTaken
purged-were-taken-by-actions resolvers publication valid says tallies slips actions = taken-by-actions publication (resolvers, valid) says tallies slips actions
