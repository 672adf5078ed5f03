-- What a run writes and leaves that changes one site, and why it ends.
use Rattle.std.specs.Prelude.{List, None, Option, Some, ℕ, ◌≡◌, ◌⊎◌}
use Rattle.merge_types.specs.declared.identifiers.SiteId.{SiteId}
use Rattle.merge_link.specs.Moments.{Moments}
use Rattle.merge_ports.specs.Entries.{Map}
use Rattle.merge_ports.specs.Faults.{Rose}
use Rattle.merge_script.specs.Lines.{lines_of}
use Rattle.merge_schema.specs.declared.publication.Publication.{Publication}
use Rattle.merge_world.specs.Views.{SitesView}
use Rattle.merge_command.specs.Changed.{Changed, ChangedInPart}
use Rattle.merge_command.specs.Taken.{halt_of}
use Rattle.merge_command.specs.declared.stop.Stop.{Stop}
use Rattle.merge_command.specs.declared.stop.Stop.TheVariants as stop
use Rattle.merge_program.specs.declared.command.Place.{Place}
use Rattle.merge_program.specs.declared.ending.Ending.{Ending}
use Rattle.merge_program.specs.declared.ending.Ending.TheVariants.{Damaged, Done, NoEvent, NoMemory, NotTaken, ReadFault, Refused, StoreFault, TooLong, UnknownArticle, UnknownSite, Usage, WriteFault}
use Rattle.merge_program.specs.Files.{IsGiven, IsUngiven}
use Rattle.merge_program.specs.Runs.{Sides}
use Rattle.merge_program.specs.Sited.{AtSite, IsDamageAt, IsKeptAt, IsUntouched}
use Rattle.merge_program.specs.Stores.{RoseBy}
use Rattle.merge_program.specs.Visits.{IsIdle, Visit, sides_of}

-- The first line that is no event, or whose event is none of the site, is this one. The events of the lines before it happened at
-- the site, each at the next moment of the clock, and the text of their answers was written.
abbrev pub AnsweredTo : Option Stop → SiteId → List (List ℕ) → (old new : SitesView) → (began told : Option Moments) → (was written : Option (List ℕ)) → Type 0
AnsweredTo why here lines old new began told was written = (halt_of here lines ≡ why) × Changed here lines old new began told was written

-- why the lines of a script ended at a site
abbrev pub LinesEnd : Ending → SiteId → List (List ℕ) → (old new : SitesView) → (began told : Option Moments) → (was written : Option (List ℕ)) → (writes refused : ℕ) → Type 0
LinesEnd Done here lines old new began told was written writes refused = AnsweredTo None here lines old new began told was written
LinesEnd (NotTaken line) here lines old new began told was written writes refused = AnsweredTo (Some (stop.NotTaken line)) here lines old new began told was written
LinesEnd (NoEvent line word) here lines old new began told was written writes refused = AnsweredTo (Some (stop.NoEvent line word)) here lines old new began told was written
LinesEnd WriteFault here lines old new began told was written writes refused = Rose writes refused
LinesEnd NoMemory here lines old new began told was written writes refused = Unit {0}
LinesEnd other here lines old new began told was written writes refused = ⊥

-- The lines of a script ended so at a site. Some of the first events happened, and nothing else did, and a front of the text of their
-- answers was written. The store has the records of the site behind them, and no more of them failed by the store than were counted.
pub record LinesDone (ending : Ending) (here : SiteId) (lines : List (List ℕ)) (old : SitesView) (began : Option Moments) (sides : Sides) (map : Option Map) (writes refused : ℕ) : Type 0 where
  pub new : SitesView
  pub told : Option Moments
  pub ends : LinesEnd ending here lines old new began told sides.was sides.written writes refused
  pub part : ChangedInPart here lines old new began told sides.was sides.written
  pub kept : IsKeptAt here new map
  pub few : RoseBy new.faults sides.before sides.after

-- why a run ended at a site of this publication, whose store was told as `stored` before
abbrev pub SiteEnds : Ending → Publication → SiteId → (stored : Option Map) → List (List ℕ) → Option Moments → Sides → Option Map → (writes refused : ℕ) → Type 0
SiteEnds StoreFault publication here stored lines began sides map writes refused = Rose sides.before sides.after × IsUntouched stored map sides
SiteEnds (Damaged table key) publication here stored lines began sides map writes refused = IsDamageAt publication here stored table key × IsUntouched stored map sides
SiteEnds NoMemory publication here stored lines began sides map writes refused =
    IsUntouched stored map sides ⊎ AtSite publication here stored (λ (old : SitesView). LinesDone NoMemory here lines old began sides map writes refused)
SiteEnds other publication here stored lines began sides map writes refused =
    AtSite publication here stored (λ (old : SitesView). LinesDone other here lines old began sides map writes refused)

-- why a run ended whose file and input were read, and whose site is there
abbrev pub GivenEnds : Ending → Place → (resolvers : ℕ) → Visit → Type 0
GivenEnds ending place resolvers v = (publication : Publication) × (script : List ℕ) × IsGiven (v.offers.texts place.publication) v.input resolvers place.site publication script
    × SiteEnds ending publication place.site (v.stored place.site place.store) (lines_of script) v.offers.moments (sides_of v) (v.kept place.site place.store) v.writes v.refused

-- why a run ended before its site was started
abbrev pub UngivenEnds : Ending → Place → (resolvers : ℕ) → Visit → Type 0
UngivenEnds ending place resolvers v = IsUngiven ending (v.offers.texts place.publication) v.input resolvers place.site v.old.texts v.new.texts v.reads v.failed × IsIdle v

-- why a run of `change` ended
abbrev pub ChangeEnds : Ending → Place → (resolvers : ℕ) → Visit → Type 0
ChangeEnds Usage place resolvers v = ⊥
ChangeEnds UnknownArticle place resolvers v = ⊥
ChangeEnds (Refused fault) place resolvers v = UngivenEnds (Refused fault) place resolvers v
ChangeEnds ReadFault place resolvers v = UngivenEnds ReadFault place resolvers v
ChangeEnds TooLong place resolvers v = UngivenEnds TooLong place resolvers v
ChangeEnds UnknownSite place resolvers v = UngivenEnds UnknownSite place resolvers v
ChangeEnds NoMemory place resolvers v = IsIdle v ⊎ GivenEnds NoMemory place resolvers v
ChangeEnds other place resolvers v = GivenEnds other place resolvers v
