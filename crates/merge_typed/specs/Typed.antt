-- What the types of a program's tables give of what comes from outside, and no rule of messages asks: whole numbers and identifiers fit
-- their fields, texts are texts, and so are days and moments.
use Rattle.std.specs.List.{AllByRecursion}
use Rattle.std.specs.Prelude.{ℕ, ◌<◌, ◌^◌}
use Rattle.merge_types.specs.declared.identifiers.Moment.{Moment}
use Rattle.merge_types.specs.declared.row_key.RowKey.{RowKey as Key}
use Rattle.merge_units.specs.declared.site_row.PublisherRow.{PublisherRow}
use Rattle.merge_units.specs.declared.site_row.SubscriberRow.{SubscriberRow}
use Rattle.merge_units.specs.declared.version.Body.{Body}
use Rattle.merge_units.specs.declared.version.Body.TheVariants.{Dead, Live}
use Rattle.merge_units.specs.declared.version.Cell.{Cell}
use Rattle.merge_gens.specs.declared.closings.Closing.{Closing}
use Rattle.merge_gens.specs.declared.sites.SiteState.{SiteState}
use Rattle.merge_conflict.specs.declared.row.ConflictRow.{ConflictRow}
use Rattle.merge_ident.specs.Holders.{Holder}
use Rattle.merge_ident.specs.declared.grants.Grant.{Grant}
use Rattle.merge_record.specs.Tables.{IsHeld, IsRange}
use Rattle.merge_record.specs.Versions.{IsValue}
use Rattle.merge_keeper.specs.Entries.{held_ranges}
use Rattle.merge_model.specs.Tables.{PublisherTables, SubscriberTables}

abbrev pub CellIsTyped : Cell → Type 0
CellIsTyped cell = AllByRecursion IsValue cell.values

abbrev pub BodyIsTyped : Body → Type 0
BodyIsTyped (Live cells) = AllByRecursion CellIsTyped cells
BodyIsTyped (Dead top) = Unit {0}

abbrev pub MomentFits : Moment → Type 0
MomentFits moment = moment.0 < 2 ^ 64

abbrev pub LostIsTyped : ConflictRow → Type 0
LostIsTyped row = BodyIsTyped row.losing.body × MomentFits row.moment

-- the number of a grant, and what a site holds of an article's ranges
abbrev pub GrantIsTyped : Grant → Type 0
GrantIsTyped grant = IsRange grant.range × (grant.number < 2 ^ 64)

abbrev pub HolderIsTyped : ℕ × Holder → Type 0
HolderIsTyped entry = IsHeld (held_ranges entry.1)

pub record PublisherIsTyped (p : PublisherTables) : Type 0 where
  pub rows : AllByRecursion (λ (row : Key × PublisherRow). BodyIsTyped row.1.version.body) p.rows
  pub conflicts : AllByRecursion LostIsTyped p.conflicts
  pub closings : AllByRecursion (λ (closing : Closing). MomentFits closing.moment) p.gens.closings
  pub sites : AllByRecursion (λ (site : ℕ × SiteState). site.1.last_sync < 2 ^ 64) p.sites
  pub grants : AllByRecursion GrantIsTyped p.grants
  pub held : AllByRecursion HolderIsTyped p.held
  pub latest : MomentFits p.latest

-- a closed generation of a subscriber has a number of a change in place of a moment, which is a matter of rules
pub record SubscriberIsTyped (s : SubscriberTables) : Type 0 where
  pub rows : AllByRecursion (λ (row : Key × SubscriberRow). BodyIsTyped row.1.version.body) s.rows
  pub conflicts : AllByRecursion LostIsTyped s.conflicts
  pub held : AllByRecursion HolderIsTyped s.held
  pub latest : MomentFits s.latest
