-- What a run writes that shows the rows of an article at one site, and why it ends.
use Rattle.std.specs.Prelude.{List, Ok, Option, ℕ, ◌≡◌, ◌⊎◌}
use Rattle.std.specs.Io.KnownBytes.{Appends}
use Rattle.merge_types.specs.declared.identifiers.SiteId.{SiteId}
use Rattle.merge_ports.specs.Entries.{Map}
use Rattle.merge_ports.specs.Faults.{Rose}
use Rattle.merge_ports.specs.Parts.{AppendsFront}
use Rattle.merge_schema.specs.declared.publication.Publication.{Publication}
use Rattle.merge_model.specs.World.Naming.{article_by}
use Rattle.merge_world.specs.Views.{SitesView}
use Rattle.merge_command.specs.Shown.{shown_text}
use Rattle.merge_program.specs.declared.command.Place.{Place}
use Rattle.merge_program.specs.declared.ending.Ending.{Ending}
use Rattle.merge_program.specs.declared.ending.Ending.TheVariants.{Damaged, Done, NoEvent, NoMemory, NotTaken, ReadFault, Refused, StoreFault, TooLong, UnknownArticle, UnknownSite, Usage, WriteFault}
use Rattle.merge_program.specs.Files.{IsNamed, IsUnnamed}
use Rattle.merge_program.specs.Runs.{Sides}
use Rattle.merge_program.specs.Sited.{AtSite, IsDamageAt, IsKeptAt, IsUntouched}
use Rattle.merge_program.specs.Visits.{IsIdle, Visit, sides_of}

-- how the rows of the article at a place were shown: their text was written, or a front of it, or nothing
abbrev pub RowsEnd : Ending → SiteId → (article : ℕ) → SitesView → (was written : Option (List ℕ)) → (writes refused : ℕ) → Type 0
RowsEnd Done here article old was written writes refused = Appends was written (shown_text old here article)
RowsEnd WriteFault here article old was written writes refused = AppendsFront was written (shown_text old here article) × Rose writes refused
RowsEnd NoMemory here article old was written writes refused = written ≡ was
RowsEnd other here article old was written writes refused = ⊥

-- they were shown so, and the store has the records of the tables
pub record RowsDone (ending : Ending) (here : SiteId) (article : ℕ) (old : SitesView) (sides : Sides) (map : Option Map) (writes refused : ℕ) : Type 0 where
  pub ends : RowsEnd ending here article old sides.was sides.written writes refused
  pub kept : IsKeptAt here old map

-- why a run ended at a site of this publication, whose store was told as `stored` before
abbrev pub ShownEnds : Ending → Publication → SiteId → (article : ℕ) → (stored : Option Map) → Sides → Option Map → (writes refused : ℕ) → Type 0
ShownEnds StoreFault publication here article stored sides map writes refused = Rose sides.before sides.after × IsUntouched stored map sides
ShownEnds (Damaged table key) publication here article stored sides map writes refused = IsDamageAt publication here stored table key × IsUntouched stored map sides
ShownEnds NoMemory publication here article stored sides map writes refused =
    IsUntouched stored map sides ⊎ AtSite publication here stored (λ (old : SitesView). RowsDone NoMemory here article old sides map writes refused)
ShownEnds other publication here article stored sides map writes refused =
    AtSite publication here stored (λ (old : SitesView). RowsDone other here article old sides map writes refused)

-- the same, by the name of the article
abbrev pub ShownBy : Ending → Publication → SiteId → (name : List ℕ) → (stored : Option Map) → Sides → Option Map → (writes refused : ℕ) → Type 0
ShownBy ending publication here name stored sides map writes refused =
    (article : ℕ) → article_by publication name ≡ Ok article → ShownEnds ending publication here article stored sides map writes refused

-- why a run ended whose file was read, and whose site and article are there
abbrev pub NamedEnds : Ending → Place → (name : List ℕ) → (resolvers : ℕ) → Visit → Type 0
NamedEnds ending place name resolvers v = (publication : Publication) × (article : ℕ) × IsNamed (v.offers.texts place.publication) resolvers place.site name publication article
    × ShownEnds ending publication place.site article (v.stored place.site place.store) (sides_of v) (v.kept place.site place.store) v.writes v.refused

-- why a run ended before its site was started
abbrev pub UnnamedEnds : Ending → Place → (name : List ℕ) → (resolvers : ℕ) → Visit → Type 0
UnnamedEnds ending place name resolvers v = IsUnnamed ending (v.offers.texts place.publication) resolvers place.site name v.old.texts v.new.texts × IsIdle v

-- why a run of `show` ended
abbrev pub ShowEnds : Ending → Place → (name : List ℕ) → (resolvers : ℕ) → Visit → Type 0
ShowEnds Usage place name resolvers v = ⊥
ShowEnds (NotTaken line) place name resolvers v = ⊥
ShowEnds (NoEvent line word) place name resolvers v = ⊥
ShowEnds (Refused fault) place name resolvers v = UnnamedEnds (Refused fault) place name resolvers v
ShowEnds ReadFault place name resolvers v = UnnamedEnds ReadFault place name resolvers v
ShowEnds TooLong place name resolvers v = UnnamedEnds TooLong place name resolvers v
ShowEnds UnknownSite place name resolvers v = UnnamedEnds UnknownSite place name resolvers v
ShowEnds UnknownArticle place name resolvers v = UnnamedEnds UnknownArticle place name resolvers v
ShowEnds NoMemory place name resolvers v = IsIdle v ⊎ NamedEnds NoMemory place name resolvers v
ShowEnds other place name resolvers v = NamedEnds other place name resolvers v
