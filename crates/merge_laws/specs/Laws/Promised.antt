-- All that is promised of a model behind a run, in one record.
use Rattle.std.specs.Prelude.{◌≡◌, ℕ, List, All}
use Rattle.std.specs.List.{AllByRecursion}
use Rattle.merge_ident.specs.Books.{IsRule}
use Rattle.merge_schema.specs.Valid.{IsValid}
use Rattle.merge_schema.specs.declared.publication.Publication.{Publication}
use Rattle.merge_model.specs.Laws.Bridge.{PublisherDecidesAlike}
use Rattle.merge_model.specs.Failing.{Slips}
use Rattle.merge_model.specs.Laws.{AreSorted, SubscriberIsSorted}
use Rattle.merge_model.specs.History.Model.{Model}
use Rattle.merge_model.specs.Laws.Promises.{AllAccounted, AllStand, IdentitiesApart, NoneActsTwice, OldIsPast, RangesApart, RepliesStayInside, SessionSettles, SettledHoldsPartition}
use Rattle.merge_model.specs.Tables.Publications.{rules_of}
use Rattle.merge_model.specs.Failing.Runs.{world_behind}
use Rattle.merge_model.specs.Tables.{SubscriberTables}
use Rattle.merge_model.specs.World.{Saying, World}
use Rattle.merge_model.specs.declared.event.Event.{Event}
use Rattle.merge_laws.specs.Laws.ActsOnce.{DoneStays, LettersStay, TakenHaveActed, TakenOnlyAnswer}
use Rattle.merge_laws.specs.Laws.Bounds.{DownloadsAreEnough, UploadsAreEnough}
use Rattle.merge_laws.specs.Laws.Deciding.{CasesDecideAlike, EachStepAlike}
use Rattle.merge_laws.specs.Laws.Effects.{NewsIsUnmet, NumbersTakeEffect}
use Rattle.merge_laws.specs.Facts.Identities.{TakenWereGranted}
use Rattle.merge_laws.specs.Facts.Knowledge.{KnownWereMade, MadeAreNumbered}
use Rattle.merge_laws.specs.Laws.LastLines.{ChangedIsLastChange, LeftByLine, MappingIsLastLine, TouchedInsideByLine, TouchedOutsideByLine}
use Rattle.merge_laws.specs.Laws.{ActedIsDone, ClosingsKeepTheLast, GapIsDone, JoinedTakesActed, KnowsOnlyMade, ReceivedIsDone, ReceivedNumberIsDone, SubscribersDecideAlike, TakesOnlyClosed, UnmetIsDone, UploadsTellTheLast}
use Rattle.merge_laws.specs.Laws.Leavings.{JoinsTakeNothingOwed, PurgesTakeNothingOwed}
use Rattle.merge_laws.specs.Laws.RestsOn.{AcceptedIsKnown, ChainsAreAccounted, HeldWereGranted, KnownIsAccepted, MomentsAreInStep, ReceivedIsInStep, RepliesAreTrue, SitesAreEqual}
use Rattle.merge_laws.specs.Laws.Rounds.{RoundSettles}
use Rattle.merge_laws.specs.Facts.Watermarks.{WatermarksAreHeld}

-- the ranges of a publication that a file can say have values
abbrev pub ValidRulesHaveValues : Type 0
ValidRulesHaveValues = (resolvers : ℕ) (publication : Publication) → IsValid resolvers publication → All IsRule (rules_of publication)

pub record Promised (publication : Publication) (says : Saying) (m : Model) : Type 0 where
  -- no accepted change is lost
  pub accounted : AllAccounted m
  -- a settled site holds its partition, and a session that nothing refused settles its site
  pub partition : SettledHoldsPartition publication m
  pub sessions : SessionSettles publication says m
  -- no generation of a site acts twice: what has acted stays so, and an upload that was taken once is only answered, or refused
  pub once : NoneActsTwice m
  pub taken : TakenHaveActed publication says m
  pub stays : DoneStays publication says m
  pub letters : LettersStay publication says m
  pub again : TakenOnlyAnswer publication says m
  pub effects : NumbersTakeEffect m
  pub news : NewsIsUnmet m
  -- lineages stand for histories, and all decisions by tables are those by histories
  pub lineages : AllStand m
  pub publisher : PublisherDecidesAlike m
  pub subscribers : SubscribersDecideAlike m
  pub cases : CasesDecideAlike m
  pub steps : EachStepAlike publication says m
  -- granted ranges are apart; what an insert took was granted to its site, and is taken once
  pub ranges : RangesApart m
  pub identities : IdentitiesApart m
  pub granted : TakenWereGranted m
  -- a purge takes nothing that a live site still needs, and a joined site's watermark at the publisher is no more than its own
  pub old : OldIsPast publication m
  pub watermarks : WatermarksAreHeld m
  -- a download puts what is in its site's partition, and removes what left it
  pub inside : RepliesStayInside publication m
  -- the number of a site's received generations says which have acted, no side takes more than was closed, and a joined site no more than has acted
  pub received : ReceivedIsDone m
  pub acted : ActedIsDone m
  pub gaps : GapIsDone m
  pub closed : TakesOnlyClosed m
  pub joined : JoinedTakesActed m
  -- so does the number of its last change
  pub numbers : ReceivedNumberIsDone m
  pub unmet : UnmetIsDone m
  -- mappings and changes are the last lines
  pub mappings : MappingIsLastLine m
  pub changes : ChangedIsLastChange m
  -- changes are numbered as they were made, and none is known that was not made
  pub numbered : MadeAreNumbered m
  pub known : KnownWereMade m
  pub lineages_known : KnowsOnlyMade m
  -- what a site keeps and an upload tells of its last changes, and what is read of mappings
  pub kept : ClosingsKeepTheLast m
  pub told : UploadsTellTheLast m
  pub has_left : LeftByLine m
  pub touch_inside : TouchedInsideByLine m
  pub touch_outside : TouchedOutsideByLine m
  -- a round of uploads and downloads settles all sites, and bounds never end a session
  pub rounds : RoundSettles publication says m
  pub uploads : UploadsAreEnough publication says m
  pub downloads : DownloadsAreEnough publication says m
  -- what a purge takes and a join forgets is owed to no site that still asks for it
  pub purges : PurgesTakeNothingOwed publication m
  pub forgets : JoinsTakeNothingOwed publication m
  -- what the laws rest on
  pub accepted : KnownIsAccepted m
  pub accepted_known : AcceptedIsKnown m
  pub chains : ChainsAreAccounted publication m
  pub equal : SitesAreEqual publication m
  pub replies : RepliesAreTrue publication m
  pub moments : MomentsAreInStep m
  pub in_step : ReceivedIsInStep m
  pub held : HeldWereGranted m
  -- rows and closed generations ascend, at the publisher mappings and sites too
  pub sorted : AreSorted m.world.publisher
  pub subscriber_sorted : AllByRecursion (λ (entry : ℕ × SubscriberTables). SubscriberIsSorted entry.1) m.world.subscribers

-- Tables are those of a model of which all is promised.
pub record HasPromises (publication : Publication) (says : Saying) (w : World) : Type 0 where
  pub model : Model
  pub same_tables : model.world ≡ w
  pub promised : Promised publication says model

-- So are those behind every run of the machine.
abbrev pub MachineHasPromises : Type 0
MachineHasPromises = (resolvers : ℕ) (publication : Publication) → IsValid resolvers publication → (says : Saying) (tallies : List ℕ) (slips : Slips) (events : List Event)
    → HasPromises publication says (world_behind publication says tallies slips events)
