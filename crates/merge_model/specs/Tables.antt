-- The tables of the sites: what the stored records of a site hold, as lists.
-- The room holds what steps are written in: keys, what a publication says, local changes, and refusals in order.
pub mod Keys
pub mod Publications
pub mod Changes
pub mod Refusals
use Rattle.std.specs.Prelude.{Bool, List, Option, ℕ}
use Rattle.merge_types.specs.declared.identifiers.Moment.{Moment}
use Rattle.merge_types.specs.declared.identifiers.SiteId.{SiteId}
use Rattle.merge_types.specs.declared.row_key.RowKey.{RowKey as Key}
use Rattle.merge_units.specs.declared.site_row.PublisherRow.{PublisherRow}
use Rattle.merge_units.specs.declared.site_row.SubscriberRow.{SubscriberRow}
use Rattle.merge_gens.specs.Book.{Book}
use Rattle.merge_gens.specs.declared.moves.Mapping.{Mapping}
use Rattle.merge_gens.specs.declared.moves.RowSite.{RowSite}
use Rattle.merge_gens.specs.declared.sites.SiteState.{SiteState}
use Rattle.merge_ident.specs.Holders.{Holder}
use Rattle.merge_ident.specs.declared.grants.Grant.{Grant}
use Rattle.merge_conflict.specs.declared.row.ConflictRow.{ConflictRow}
use Rattle.merge_batch.specs.declared.request.Outstanding.{Outstanding}

-- All lists of pairs ascend: rows by article and row, mappings by row and site, the rest by number.
-- A closed generation keeps the moment at which it closed.
pub record PublisherTables : Type 0 where
  -- how many changes this site made
  pub changes : ℕ
  pub gens : Book
  -- how many rows were added to the conflict table
  pub conflict_count : ℕ
  -- the greatest moment that a call was given that was not refused
  pub latest : Moment
  pub rows : List (Key × PublisherRow)
  pub mappings : List (RowSite × Mapping)
  pub conflicts : List ConflictRow
  pub grants : List Grant
  -- the publisher's own ranges, by article
  pub held : List (ℕ × Holder)
  -- the subscribers that ever joined
  pub sites : List (ℕ × SiteState)

-- A closed generation keeps the number of this site's last change in it, in place of a moment.
pub record SubscriberTables : Type 0 where
  pub site : SiteId
  pub changes : ℕ
  pub gens : Book
  pub conflict_count : ℕ
  pub latest : Moment
  -- the number of the last message that was made
  pub seq : ℕ
  -- the message that is outstanding, with its number
  pub outstanding : Option (ℕ × Outstanding)
  -- The own generations up to this one are done with: the publisher has taken them, or the site was made anew since, and
  -- discarded what it had not sent.
  pub received : ℕ
  -- the last generation of the publisher that is held
  pub watermark : ℕ
  pub is_joined : Bool
  pub rows : List (Key × SubscriberRow)
  pub conflicts : List ConflictRow
  pub held : List (ℕ × Holder)
