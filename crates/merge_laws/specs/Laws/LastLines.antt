-- Mappings and generations of changes are what the last lines say.
use Rattle.std.specs.Prelude.{◌≡◌, ◌==◌, ℕ, List, Bool, true, false, Option, None, Some, is_some, map, find, option_map}
use Rattle.std.specs.List.{list_any}
use Rattle.merge_types.specs.declared.identifiers.SiteId.{SiteId}
use Rattle.merge_schema.specs.declared.publication.Publication.{Publication}
use Rattle.merge_model.specs.Judge.ByHistory.{has_left_by_line, is_change_of, is_line_for, last_change, last_line, touch_by_line}
use Rattle.merge_model.specs.Judge.ByNumbers.{changed_in, has_left_by_mapping, mapping_at, touch_by_mapping}
use Rattle.merge_model.specs.History.{Changed, EnteredFor, GoneFor, LeftFor, Line}
use Rattle.merge_model.specs.Tables.Keys.{at_row_site, row_at}
use Rattle.merge_model.specs.History.Model.{Model}
use Rattle.merge_model.specs.History.Noting.{site_of_subscription}
use Rattle.merge_model.specs.Tables.Publications.{by_site}
use Rattle.merge_gens.specs.declared.moves.MoveKind.TheVariants.{Entered, Left}
use Rattle.merge_types.specs.declared.row_key.RowKey.{RowKey as Key}
use Rattle.merge_gens.specs.declared.moves.Mapping.{Mapping}
use Rattle.merge_units.specs.declared.site_row.PublisherRow.{PublisherRow}
use Rattle.merge_gens.specs.declared.moves.RowSite.{RowSite}

-- The laws.

-- the move of which a row's last line for a site tells. Nothing is told where there is no line, or where it says that the leaving is no longer told
abbrev pub move_told : Option Line → Option Mapping
move_told None = None
move_told (Some line) = elim line.kind [
  | Changed ↦ None
  | EnteredFor site ↦ Some (record { kind = Entered; generation = line.generation })
  | LeftFor site ↦ Some (record { kind = Left; generation = line.generation })
  | GoneFor site ↦ None
]

-- The publisher keeps a mapping of a row and a site exactly where their last line tells of a move, and it is this move.
abbrev pub MappingIsLastLine : Model → Type 0
MappingIsLastLine m = (key : Key) (site : ℕ) → mapping_at m.world.publisher key site ≡ move_told (last_line m.history key site)

-- A row that the publisher holds has the generation of the last line that says that it changed.
abbrev pub ChangedIsLastChange : Model → Type 0
ChangedIsLastChange m = (key : Key) → is_some (row_at m.world.publisher.rows key) ≡ true → changed_in m.world.publisher key ≡ last_change m.history key

-- So what the publisher reads of them is what its lines say: whether a row left, and in which generation it was touched.
abbrev pub LeftByLine : Model → Type 0
LeftByLine m = (key : Key) (site : ℕ) → has_left_by_mapping m.world.publisher key site ≡ has_left_by_line m.history key site

abbrev pub TouchedInsideByLine : Model → Type 0
TouchedInsideByLine m = (key : Key) (site : ℕ) → is_some (row_at m.world.publisher.rows key) ≡ true → touch_by_mapping m.world.publisher key site true ≡ touch_by_line m.history key site true

abbrev pub TouchedOutsideByLine : Model → Type 0
TouchedOutsideByLine m = (key : Key) (site : ℕ) → touch_by_mapping m.world.publisher key site false ≡ touch_by_line m.history key site false

-- The invariant.

-- the same of a list of lines
abbrev pub move_in : List Line → Key → ℕ → Option Mapping
move_in lines key site = move_told (find (is_line_for key site) lines)

abbrev pub change_in : List Line → Key → Option ℕ
change_in lines key = option_map (λ (line : Line). line.generation) (find (is_change_of key) lines)

abbrev pub MappingsFit : List (RowSite × Mapping) → List Line → Type 0
MappingsFit mappings lines = (key : Key) (site : ℕ) → at_row_site mappings (record { key = key; site = site }) ≡ move_in lines key site

abbrev pub RowsFit : List (Key × PublisherRow) → List Line → Type 0
RowsFit rows lines = (key : Key) → is_some (row_at rows key) ≡ true → option_map (λ (row : PublisherRow). row.changed) (row_at rows key) ≡ change_in lines key

-- whether a site is among those that a purge goes over
abbrev pub subscribes : Publication → ℕ → Bool
subscribes publication site = list_any (λ (other : SiteId). other.0 == site) (map site_of_subscription (by_site publication))

-- no row moved for any other site
abbrev pub MovedForSubscribers : Publication → List (RowSite × Mapping) → Type 0
MovedForSubscribers publication mappings = (key : Key) (site : ℕ) → is_some (at_row_site mappings (record { key = key; site = site })) ≡ true → subscribes publication site ≡ true

pub record LastLines (publication : Publication) (rows : List (Key × PublisherRow)) (mappings : List (RowSite × Mapping)) (lines : List Line) : Type 0 where
  pub moves : MappingsFit mappings lines
  pub changes : RowsFit rows lines
  pub sites : MovedForSubscribers publication mappings
