-- What a run of `play` may write, and why it ends.
use Rattle.std.specs.Prelude.{Err, List, None, Ok, Option, Some, count_by, length, take, IfSome, true, ℕ, ◌+◌, ◌++◌, ◌<◌, ◌∷◌, ◌≡◌, ◌≢◌, ◌≤◌, ◌⊎◌}
use Rattle.std.specs.Io.KnownBytes.{Appends}
use Rattle.merge_types.specs.declared.identifiers.SiteId.{SiteId}
use Rattle.merge_ports.specs.Entries.{Map}
use Rattle.merge_ports.specs.Faults.{Rose}
use Rattle.merge_schema.specs.Answers.{IsAnswer}
use Rattle.merge_schema.specs.declared.fault.SchemaFault.{SchemaFault}
use Rattle.merge_schema.specs.declared.fault.SchemaFault.TheVariants.{NoMemory as Lacking}
use Rattle.merge_schema.specs.declared.publication.Publication.{Publication}
use Rattle.merge_script.specs.Input.{publication_of, script_of}
use Rattle.merge_script.specs.Lines.{lines_of}
use Rattle.merge_model.specs.Failing.Reach.{is_store_fault}
use Rattle.merge_model.specs.Script.Play.{names_of}
use Rattle.merge_model.specs.Script.Reading.{events_of, fault_of}
use Rattle.merge_model.specs.Script.Text.{texts_of}
use Rattle.merge_model.specs.World.Events.{is_site}
use Rattle.merge_model.specs.declared.answer.Answer.{Answer}
use Rattle.merge_model.specs.declared.event.Event.{Event}
use Rattle.merge_model.specs.declared.event.Event.TheVariants.{Restart}
use Rattle.merge_world.specs.Views.{HandedView}
use Rattle.merge_program.specs.declared.ending.Ending.{Ending}
use Rattle.merge_program.specs.declared.ending.Ending.TheVariants.{BadReply, Damaged, Declined, Done, Expired, LinkFault, NoEvent, NoMemory, NotTaken, ReadFault, Refused, StoreFault, TooLong, UnknownArticle, UnknownSite, Usage, WriteFault}
use Rattle.merge_program.specs.Sited.{IsDamageAt}
use Rattle.merge_program.specs.Stores.{AreEmptyStores, HasFirstKey, RoseBy}
use Rattle.merge_types.specs.Limits.{input_limit}
pub use Rattle.merge_program.specs.Runs.{IsRun, Sides}

-- the lines of an input's script
abbrev pub lines_of_input : List ℕ → List (List ℕ)
lines_of_input input = lines_of (script_of input)

-- What was written is the text of a run over the events of the lines before the first that is no event, or of all.
pub record RunIsWritten (publication : Publication) (handed : HandedView) (lines : List (List ℕ)) (sides : Sides) : Type 0 where
  pub answers : List Answer
  pub run : IsRun publication handed (events_of lines) answers sides.before sides.after
  pub bytes : Appends sides.was sides.written (texts_of (names_of publication) answers)

-- What was written is a front of the text of a run over some of the first of these events: all answers but the last one whole.
pub record AnsweredInPart (publication : Publication) (handed : HandedView) (lines : List (List ℕ)) (sides : Sides) : Type 0 where
  pub events : List Event
  pub more : List Event
  pub split : events_of lines ≡ events ++ more
  pub answers : List Answer
  pub run : IsRun publication handed events answers sides.before sides.after
  pub whole : List Answer
  pub rest : List Answer
  pub parts : answers ≡ whole ++ rest
  pub one : length rest ≤ 1
  pub count : ℕ
  pub enough : length (texts_of (names_of publication) whole) ≤ count
  pub bytes : Appends sides.was sides.written (take count (texts_of (names_of publication) answers))

-- What was written is the text of a run over the events before the restart of a site. Stores failed as often as steps of this run by a
-- store, and so often more at least.
pub record AnsweredToRestart (publication : Publication) (handed : HandedView) (lines : List (List ℕ)) (sides : Sides) (lost : ℕ) : Type 0 where
  pub events : List Event
  pub site : SiteId
  pub more : List Event
  pub split : events_of lines ≡ events ++ Restart site ∷ more
  pub known : is_site publication site ≡ true
  pub answers : List Answer
  pub run : IsRun publication handed events answers sides.before sides.after
  pub behind : RoseBy (count_by is_store_fault run.slips + lost) sides.before sides.after
  pub bytes : Appends sides.was sides.written (texts_of (names_of publication) answers)

-- nothing was written, or all that comes before a restart
abbrev pub IsCutOff : Publication → HandedView → List (List ℕ) → Sides → (lost : ℕ) → Type 0
IsCutOff publication handed lines sides lost = (sides.written ≡ sides.was) ⊎ AnsweredToRestart publication handed lines sides lost

-- Why a stored record is damaged: nothing was written, and the store of a site begins with this entry, which no site that has done nothing
-- has; or all that comes before a restart was written, and what is told of the store of its site does not load for this record. That is so of
-- no store that is told. `stored` and `kept` are what is told of the stores before and behind the run.
abbrev pub IsDamagedFor : Publication → HandedView → List (List ℕ) → Sides → (stored kept : SiteId → Option Map) → (table : ℕ) → (key : List ℕ) → Type 0
IsDamagedFor publication handed lines sides stored kept table key =
    ((sides.written ≡ sides.was) × HasFirstKey (is_site publication) stored table key)
    ⊎ ((cut : AnsweredToRestart publication handed lines sides 0) × IsDamageAt publication cut.site (kept cut.site) table key × (kept cut.site ≡ None))

-- the input is not too long, and has this publication before its script, where so many resolvers are handed in
pub record IsTaken (resolvers : ℕ) (input : List ℕ) (publication : Publication) : Type 0 where
  pub fits : length input ≤ input_limit
  pub read : IsAnswer resolvers (publication_of input) (Ok publication)

-- the input is not too long, and the text before its script is no publication for this
pub record IsRefusedFor (resolvers : ℕ) (input : List ℕ) (fault : SchemaFault) : Type 0 where
  pub fits : length input ≤ input_limit
  pub read : IsAnswer resolvers (publication_of input) (Err fault)
  pub known : fault ≢ Lacking

abbrev pub IsTakenInput : ℕ → List ℕ → Type 0
IsTakenInput resolvers input = (publication : Publication) × IsTaken resolvers input publication

abbrev pub IsRefused : ℕ → List ℕ → Type 0
IsRefused resolvers input = (fault : SchemaFault) × IsRefusedFor resolvers input fault

-- Each line of the input's script is an event or quiet, and all events were answered. The stores were empty, where they are told.
pub record AnsweredWhole (handed : HandedView) (input : List ℕ) (sides : Sides) (stored : SiteId → Option Map) : Type 0 where
  pub publication : Publication
  pub taken : IsTaken (length handed.tallies) input publication
  pub events : fault_of (lines_of_input input) ≡ None
  pub empty : AreEmptyStores (is_site publication) stored
  pub answered : RunIsWritten publication handed (lines_of_input input) sides

-- The first line of the input's script that is no event has this number and this first wrong word, and the events before it were answered.
-- The stores were empty, where they are told.
pub record AnsweredUpTo (handed : HandedView) (input : List ℕ) (line word : ℕ) (sides : Sides) (stored : SiteId → Option Map) : Type 0 where
  pub publication : Publication
  pub taken : IsTaken (length handed.tallies) input publication
  pub no_event : fault_of (lines_of_input input) ≡ Some (line, word)
  pub empty : AreEmptyStores (is_site publication) stored
  pub answered : RunIsWritten publication handed (lines_of_input input) sides

-- The input was taken. The run ended as the sites did not start, and nothing was written; or at a restart of its script.
abbrev pub IsStopped : HandedView → List ℕ → Sides → (lost : ℕ) → Type 0
IsStopped handed input sides lost = (publication : Publication) × IsTaken (length handed.tallies) input publication × IsCutOff publication handed (lines_of_input input) sides lost

-- The input was taken. The run ended for a damaged record, as its sites started or at a restart of its script.
abbrev pub IsDamagedIn : HandedView → List ℕ → Sides → (stored kept : SiteId → Option Map) → (table : ℕ) → (key : List ℕ) → Type 0
IsDamagedIn handed input sides stored kept table key =
    (publication : Publication) × IsTaken (length handed.tallies) input publication × IsDamagedFor publication handed (lines_of_input input) sides stored kept table key

-- nothing was written, or a front of the answers to some of the first events of the input's script
abbrev pub WrittenInPart : HandedView → List ℕ → Sides → Type 0
WrittenInPart handed input sides = (sides.written ≡ sides.was)
    ⊎ ((publication : Publication) × IsTaken (length handed.tallies) input publication × AnsweredInPart publication handed (lines_of_input input) sides)

-- Why a script's run ended, over sites that have done nothing. `stored` and `kept` are what is told of their stores before and behind it;
-- writes were refused from `writes` to `refused`.
abbrev pub PlayEnds : Ending → Publication → HandedView → List (List ℕ) → Sides → (stored kept : SiteId → Option Map) → (writes refused : ℕ) → Type 0
PlayEnds Done publication handed lines sides stored kept writes refused = (fault_of lines ≡ None) × AreEmptyStores (is_site publication) stored × RunIsWritten publication handed lines sides
PlayEnds (NoEvent line word) publication handed lines sides stored kept writes refused =
    (fault_of lines ≡ Some (line, word)) × AreEmptyStores (is_site publication) stored × RunIsWritten publication handed lines sides
PlayEnds WriteFault publication handed lines sides stored kept writes refused = Rose writes refused
PlayEnds StoreFault publication handed lines sides stored kept writes refused = IsCutOff publication handed lines sides 1 × Rose sides.before sides.after
PlayEnds (Damaged table key) publication handed lines sides stored kept writes refused = IsDamagedFor publication handed lines sides stored kept table key
PlayEnds NoMemory publication handed lines sides stored kept writes refused = Unit {0}
PlayEnds other publication handed lines sides stored kept writes refused = ⊥

-- why a run ended whose input was read whole
abbrev pub InputEnds : Ending → HandedView → List ℕ → Sides → (stored kept : SiteId → Option Map) → (writes refused : ℕ) → Type 0
InputEnds (Refused fault) handed input sides stored kept writes refused = IsRefusedFor (length handed.tallies) input fault
InputEnds Done handed input sides stored kept writes refused = AnsweredWhole handed input sides stored
InputEnds (NoEvent line word) handed input sides stored kept writes refused = AnsweredUpTo handed input line word sides stored
InputEnds WriteFault handed input sides stored kept writes refused = IsTakenInput (length handed.tallies) input × Rose writes refused
InputEnds StoreFault handed input sides stored kept writes refused = IsStopped handed input sides 1 × Rose sides.before sides.after
InputEnds (Damaged table key) handed input sides stored kept writes refused = IsDamagedIn handed input sides stored kept table key
InputEnds NoMemory handed input sides stored kept writes refused = Unit {0}
InputEnds other handed input sides stored kept writes refused = ⊥

-- why a run of `play` ended; reads failed from `reads` to `failed`
abbrev pub PlayRunEnds : Ending → Option (List ℕ) → HandedView → Sides → (stored kept : SiteId → Option Map) → (writes refused reads failed : ℕ) → Type 0
PlayRunEnds Usage left handed sides stored kept writes refused reads failed = ⊥
PlayRunEnds (NotTaken line) left handed sides stored kept writes refused reads failed = ⊥
PlayRunEnds UnknownSite left handed sides stored kept writes refused reads failed = ⊥
PlayRunEnds UnknownArticle left handed sides stored kept writes refused reads failed = ⊥
PlayRunEnds LinkFault left handed sides stored kept writes refused reads failed = ⊥
PlayRunEnds (Expired last_sync now) left handed sides stored kept writes refused reads failed = ⊥
PlayRunEnds (BadReply place) left handed sides stored kept writes refused reads failed = ⊥
PlayRunEnds (Declined number) left handed sides stored kept writes refused reads failed = ⊥
PlayRunEnds ReadFault left handed sides stored kept writes refused reads failed = Rose reads failed
PlayRunEnds TooLong left handed sides stored kept writes refused reads failed = IfSome left (λ (input : List ℕ). input_limit < length input)
PlayRunEnds WriteFault left handed sides stored kept writes refused reads failed = Rose writes refused × IfSome left (IsTakenInput (length handed.tallies))
PlayRunEnds StoreFault left handed sides stored kept writes refused reads failed = Rose sides.before sides.after × IfSome left (λ (input : List ℕ). IsStopped handed input sides 1)
PlayRunEnds other left handed sides stored kept writes refused reads failed = IfSome left (λ (input : List ℕ). InputEnds other handed input sides stored kept writes refused)
