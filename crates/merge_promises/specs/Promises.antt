-- All that is promised of a model behind a run, in one record, and all that is promised of the run. Each field is a law of its own;
-- what a function of this crate or of a crate below has for contract stands here once.
use Rattle.std.specs.Prelude.{List, true, ◌≡◌, ℕ}
use Rattle.merge_types.specs.declared.row_key.RowKey.{RowKey as Key}
use Rattle.merge_schema.specs.Valid.{IsValid}
use Rattle.merge_schema.specs.declared.publication.Publication.{Publication}
use Rattle.merge_model.specs.Failing.{Slips, faulty}
use Rattle.merge_model.specs.Failing.Runs.{machine_says, model_behind, model_says, world_behind}
use Rattle.merge_model.specs.History.Model.{Model, empty_model}
use Rattle.merge_model.specs.Tables.Keys.{has_key}
use Rattle.merge_model.specs.World.{Saying}
use Rattle.merge_model.specs.declared.event.Event.{Event}
use Rattle.merge_laws.specs.Laws.ActsOnce.{ActedItemsDoNothing, ActedRowsStay, ActedUploadsOnlyAnswer, DoneStaysByActions, LettersStayByActions, TakenOnlyAnswerByActions}
use Rattle.merge_laws.specs.Laws.Effects.{ActingTakeEffect, NoneTakesEffectTwice}
use Rattle.merge_laws.specs.Laws.Leavings.{LeavingsAreSeen}
use Rattle.merge_laws.specs.Laws.Promised.{Promised}
use Rattle.merge_owed.specs.Chains.{TopsAreInChains}
use Rattle.merge_owed.specs.Forgotten.{JoinsForgetByLines, PublisherTellsDone, PurgesAnswerByLines, PurgesCountByLines, PurgesForgetByLines, SubscribersTellMade, TombstonesAreOldByLines}
use Rattle.merge_owed.specs.Identity.{TakenStandsForGood, TakenStandsForGoodByActions, ValuesWereTaken}
use Rattle.merge_owed.specs.Mappings.{KeptOrWent, KeptOrWentByActions, ToldAreKeptOrGone, Went}
use Rattle.merge_owed.specs.Purged.{KnownIsWithin, LackedWerePurged, PurgedWereTaken, WasPurged}
use Rattle.merge_owed.specs.Ranges.{RangesAreEnough}
use Rattle.merge_owed.specs.Values.{ValuesStandForGood, ValuesStandForGoodByActions}
use Rattle.merge_honest.specs.Delivered.{FirstReasonIsTold, NoneIsRefusedFor, breaks, is_gap, is_not_joined, is_unexpected, is_unknown_site, is_wrong_watermark}
use Rattle.merge_honest.specs.Finished.{FailingSessionFinishes, FailingSessionSettles, SessionFinishes}
use Rattle.merge_honest.specs.Replied.{NoReplyIsRefused, PutsFit, RemovalsFit, RepliesAnswer, RepliesFit}
use Rattle.merge_honest.specs.Taken.{HonestAreTaken}
use Rattle.merge_honest.specs.Valued.{InsertsTook, RowsAreValued}
use Rattle.merge_promises.specs.Given.{DecisionsAreAnswers, DecisionsGive, PublisherGives, SubscribersGive}
use Rattle.merge_promises.specs.GivenForGood.{DecisionsStand, GivenStandsHere, GivenStandsThere}
use Rattle.merge_promises.specs.Earlier.{EveryKnowsEarlier, HeldKnowEarlier}
use Rattle.merge_promises.specs.GrantedRanges.{HeldRangesWereGranted, ToldRangesWereGranted}
use Rattle.merge_promises.specs.Leavings.{LeavingsWereSeen, WasSeen}
use Rattle.merge_promises.specs.SpacedRounds.{SpacedRoundsSettle}
use Rattle.merge_promises.specs.Syncs.{FailingRoundSettles, FailingTwoRoundsSettle, TwoRoundsSettle}
use Rattle.merge_promises.specs.Tombstones.{AcceptedAreNeverNew, HeldAreNeverNew, LeavingsArePassed, TombstonesArePassed}

-- the history has the row's tombstone as purged
abbrev pub HasPurged : Model → Key → Type 0
HasPurged m key = has_key m.history.purged key ≡ true

pub record AllPromised (publication : Publication) (says : Saying) (m : Model) : Type 0 where
  -- what merge_laws promises: no accepted change is lost, a settled site holds its partition, lineages decide as histories do, and more
  pub promised : Promised publication says m
  -- what the publisher accepted of a row that it lacks was purged, and what a site knows of a row is known to the publisher's version or was
  pub lacked : LackedWerePurged (HasPurged m) m
  pub within : KnownIsWithin (HasPurged m) m
  -- who knows a change of a row knows each earlier one of the same site, but what was given up
  pub earlier : EveryKnowsEarlier m
  pub held_earlier : HeldKnowEarlier m
  -- the change that last set a cell is in its chain, and cells with one top have the same values, for good
  pub tops : TopsAreInChains publication says m
  pub values : ValuesStandForGood publication says m
  pub values_by_actions : ValuesStandForGoodByActions publication says m
  -- a change that a site makes gives the cells of its row what it says, and a conflict what is decided of it: what its own resolver says
  pub own_changes : PublisherGives
  pub subscriber_changes : SubscribersGive
  pub decisions : DecisionsGive
  pub answers_decide : DecisionsAreAnswers
  -- these values stand for good
  pub own_values : GivenStandsHere publication says m
  pub subscriber_values : GivenStandsThere publication says m
  pub decided_values : DecisionsStand publication says m
  -- an upload takes effect once: no generation does at two deliveries, and each item that does something stands in one that does
  pub twice : NoneTakesEffectTwice
  pub acting : ActingTakeEffect
  -- rows whose items have all acted stay as they are, items that have acted do nothing, and an upload of such alone is only answered
  pub acted_rows : ActedRowsStay
  pub acted_items : ActedItemsDoNothing
  pub acted_uploads : ActedUploadsOnlyAnswer
  -- what has acted stays so, letters stay, and what was taken is only answered, also where single actions come afterwards
  pub stays : DoneStaysByActions publication says m
  pub letters : LettersStayByActions publication says m
  pub again : TakenOnlyAnswerByActions publication says m
  -- a row is told to leave only where a step saw it inside, or an item of the site's own upload acted on it
  pub leavings : LeavingsAreSeen
  -- a session is refused for little, also where its steps may fail, and one that ends with nothing refused settles its site
  pub finishes : SessionFinishes publication says m
  pub fails : FailingSessionFinishes publication says m
  pub settles : FailingSessionSettles publication says m
  -- when every subscriber has had a session that nothing refused, and then every one another, all are settled, also where steps may fail
  pub syncs : TwoRoundsSettle publication says m
  pub failing_syncs : FailingTwoRoundsSettle publication says m
  -- so they are behind a round of uploads and downloads; where no step fails the promises above say it
  pub failing_rounds : FailingRoundSettles publication says m
  -- and where every one has sent all, and then every one taken all, with whatever comes beside but changes of rows and sites made anew
  pub spaced_rounds : SpacedRoundsSettle publication says m
  -- the bound on its range requests is never what ends it
  pub ranges : RangesAreEnough publication says m
  -- an honest request is taken but for expiry, a later join, too many rows and a counter's end, and the first reason is told
  pub honest : HonestAreTaken publication says m
  pub few : NoneIsRefusedFor is_unexpected publication says m
  pub first : FirstReasonIsTold
  -- so none is refused for a rule of messages, for a gap, for a watermark, or for its sender
  pub rules : (rule : ℕ) → NoneIsRefusedFor (breaks rule) publication says m
  pub gaps : NoneIsRefusedFor is_gap publication says m
  pub watermarks : NoneIsRefusedFor is_wrong_watermark publication says m
  pub known_sites : NoneIsRefusedFor is_unknown_site publication says m
  pub joined_sites : NoneIsRefusedFor is_not_joined publication says m
  -- a reply answers what was asked, fits, and is never refused; what it puts and removes is right for its site
  pub answers : RepliesAnswer publication says m
  pub fit : RepliesFit publication says m
  pub replies : NoReplyIsRefused publication says m
  pub puts : PutsFit publication says m
  pub removals : RemovalsFit publication says m
  -- an insert takes an identity value where it is due, its row has this value for good, and no live row has another
  pub inserts : InsertsTook publication says m
  pub valued : RowsAreValued publication says m
  pub taken : ValuesWereTaken publication says m
  pub identities : TakenStandsForGood publication says m
  pub identities_by_actions : TakenStandsForGoodByActions publication says m
  -- each range that a site holds, or a reply tells it of, was granted to it, whole
  pub held_ranges : HeldRangesWereGranted m
  pub told_ranges : ToldRangesWereGranted m
  -- a purge drops a tombstone, and a mapping, that each live site has passed, and no row that is held, or was accepted, is made again by what
  -- is still sent
  pub tombstones : TombstonesArePassed publication m
  pub passed_leavings : LeavingsArePassed publication m
  pub held_rows : HeldAreNeverNew m
  pub accepted_rows : AcceptedAreNeverNew m
  -- what a join and a purge forget, and how much a purge counts, is what the last lines say
  pub join_forgets : JoinsForgetByLines m
  pub purge_forgets : PurgesForgetByLines publication says m
  pub purge_drops : TombstonesAreOldByLines publication says m
  pub purge_counts : PurgesCountByLines publication says m
  pub purge_answers : PurgesAnswerByLines publication says m
  -- a mapping stays until a purge or a join takes it, its row comes back, or its row moves on
  pub mappings : KeptOrWent publication says m
  pub mappings_by_actions : KeptOrWentByActions publication says m
  -- reports tell what the history says
  pub sites_told : PublisherTellsDone publication says m
  pub rows_told : SubscribersTellMade publication says m

-- The same of a whole run, with what its events say of what is no longer there.
pub record RunPromised (publication : Publication) (says : Saying) (tallies : List ℕ) (slips : Slips) (events : List Event) : Type 0 where
  -- of the model behind it
  pub model : AllPromised publication says (model_behind publication says tallies slips events)
  -- the machine, which has tables alone, answers as the model does, and has its tables
  pub answers : machine_says publication says tallies slips events ≡ model_says publication says tallies slips events
  pub tables : world_behind publication says tallies slips events ≡ (model_behind publication says tallies slips events).world
  -- a purge among the events took each row that is lacking, what a site knows beyond the publisher, and just what the history has as purged
  pub lacked : LackedWerePurged (WasPurged publication says (faulty (empty_model publication tallies) slips) events) (model_behind publication says tallies slips events)
  pub within : KnownIsWithin (WasPurged publication says (faulty (empty_model publication tallies) slips) events) (model_behind publication says tallies slips events)
  pub taken : PurgedWereTaken (WasPurged publication says (faulty (empty_model publication tallies) slips) events) (model_behind publication says tallies slips events)
  -- each move of a row that a line tells is kept as a mapping, or it went by one of the events
  pub told : ToldAreKeptOrGone (Went publication says (faulty (empty_model publication tallies) slips) events) (model_behind publication says tallies slips events)
  -- each line that says that a row left was written at one of the events, by a step that saw it
  pub left : LeavingsWereSeen (WasSeen publication says (faulty (empty_model publication tallies) slips) events) (model_behind publication says tallies slips events)

abbrev pub OfEveryRunPromised : Type 0
OfEveryRunPromised = (resolvers : ℕ) (publication : Publication) → IsValid resolvers publication → (says : Saying) (tallies : List ℕ) (slips : Slips) (events : List Event) → RunPromised publication says tallies slips events
