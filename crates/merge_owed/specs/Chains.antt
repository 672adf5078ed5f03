-- What made a cell is in the chain at its place.
use Rattle.std.specs.List.{AllZip}
use Rattle.std.specs.Prelude.{List, length, true, ◌≡◌, ℕ}
use Rattle.merge_types.specs.declared.identifiers.Dot.{Dot}
use Rattle.merge_types.specs.declared.row_key.RowKey.{RowKey as Key}
use Rattle.merge_units.specs.declared.version.Body.{Body}
use Rattle.merge_units.specs.declared.version.Body.TheVariants.{Dead, Live}
use Rattle.merge_units.specs.declared.version.Cell.{Cell}
use Rattle.merge_units.specs.declared.version.Version.{Version}
use Rattle.merge_schema.specs.declared.publication.Publication.{Publication}
use Rattle.merge_model.specs.History.{Chains, OfCells, OfDead, Past, has}
use Rattle.merge_model.specs.History.Model.{Model}
use Rattle.merge_model.specs.History.Pasts.{cell_count}
use Rattle.merge_model.specs.World.{Saying}
use Rattle.merge_laws.specs.Facts.LineagesStand.{EveryVersion}

-- the change that last set a cell is one that the cell descends from
abbrev pub TopIsIn : Cell → List Dot → Type 0
TopIsIn cell chain = has chain cell.top ≡ true

-- A live body has so many cells, each with its own chain, place by place; a deleted row descends from its delete.
abbrev pub TopsStand : ℕ → Body → Chains → Type 0
TopsStand count (Live cells) (OfCells chains) = (length cells ≡ count) × AllZip TopIsIn cells chains
TopsStand count (Dead top) (OfDead chain) = has chain top ≡ true
TopsStand count body chains = ⊥

-- Of every version: at each site, in each message and in each conflict table.
abbrev pub TopsAreInChains : Publication → Saying → Model → Type 0
TopsAreInChains publication says m = EveryVersion (λ (key : Key) (version : Version) (past : Past). TopsStand (cell_count publication key.article) version.body past.chains) m
