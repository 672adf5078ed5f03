-- Tables of which all parts stand keep the rules of a start, where their values are typed.
use Rattle.std.specs.List.{AllByRecursion}
use Rattle.std.specs.Option.{option_map}
use Rattle.std.specs.Prelude.{Some, [], filter, refl, ℕ, ◌<◌, ◌^◌, ◌≡◌}
use Rattle.std.proofs.Common.{arith}
use Rattle.merge_types.specs.Limits.{number_limit}
use Rattle.merge_types.specs.declared.row_key.RowKey.{RowKey as Key}
use Rattle.merge_units.specs.declared.site_row.PublisherRow.{PublisherRow}
use Rattle.merge_gens.specs.declared.closings.Closing.{Closing}
use Rattle.merge_gens.specs.declared.sites.SiteState.{SiteState}
use Rattle.merge_ident.specs.Holders.{Holder}
use Rattle.merge_schema.specs.Valid.{IsValid}
use Rattle.merge_schema.specs.declared.publication.Publication.{Publication}
use Rattle.merge_keeper.specs.Entries.{held_ranges, was_received}
use Rattle.merge_keeper.specs.Start.{holder_of, identity_at}
use Rattle.merge_model.specs.Laws.Promises.{key_of_conflict}
use Rattle.merge_model.specs.Publisher.{last_closed}
use Rattle.merge_model.specs.Tables.{PublisherTables}
use Rattle.merge_model.proofs.Lists.Finding.{all-weaker}
use Rattle.merge_model.proofs.Lists.{all-both}
use Rattle.merge_typed.specs.Typed.{BodyIsTyped, LostIsTyped, MomentFits, PublisherIsTyped}
use Rattle.merge_stored.specs.Closings.{PublisherClosingLoads}
use Rattle.merge_stored.specs.Keeping.{PublisherKeeps}
use Rattle.merge_stored.specs.Ranges.{AllHeldLoad, GrantsLoad, HeldLoads}
use Rattle.merge_stored.specs.Subscriptions.{SiteLoads}
use Rattle.merge_stored.specs.Versions.{VersionIsStored}
use Rattle.merge_stored.proofs.Closings.{closing-sound}
use Rattle.merge_stored.proofs.LostTables.{IsFromSite, RowLoads, table-loads}
use Rattle.merge_stored.proofs.PublisherRowsLoad.{moves-load, rows-load}
use Rattle.merge_stored.proofs.RangeFacts.{range-rule-of}
use Rattle.merge_stored.proofs.Ranges.{grants-load, held-loads}
use Rattle.merge_stored.proofs.States.{front-fits, front-sound}
use Rattle.merge_stored.proofs.Subscriptions.{SiteIs, site-loads}
use Rattle.merge_stored.proofs.AnyCalls.Acts.{LostStands}
use Rattle.merge_stored.proofs.AnyCalls.Base.{Base, ClosingIs, RowIs}
use Rattle.merge_stored.proofs.AnyCalls.Parts.{Parts}
use Rattle.merge_stored.proofs.AnyCalls.Versions.{any, row-stored, version-loads}

closing-loads : (p : PublisherTables) (closing : Closing) → last_closed p < number_limit → ClosingIs (last_closed p) closing → MomentFits closing.moment → PublisherClosingLoads p closing
closing-loads p closing low is fits = ((let up = is.1 in omega (arith, low, up)), fits, closing-sound p closing is.0 is.1)

module _ (resolvers : ℕ) (publication : Publication) (valid : IsValid resolvers publication) (p : PublisherTables) (parts : Parts publication p) (typed : PublisherIsTyped p) where
  abbrev base : Base publication p
  base = parts.base

  stored : AllByRecursion (λ (row : Key × PublisherRow). VersionIsStored publication 0 p.changes row.0 row.1.version) p.rows
  stored = all-both (RowIs publication p.changes) (λ (row : Key × PublisherRow). BodyIsTyped row.1.version.body) (λ (row : Key × PublisherRow). VersionIsStored publication 0 p.changes row.0 row.1.version)
      (λ row is fits. row-stored publication resolvers valid p.changes (let low = base.changes in omega (arith, low)) row.0 row.1.version is fits) p.rows base.rows typed.rows

  lost-loads : AllByRecursion (RowLoads publication (resolvers, valid)) p.conflicts
  lost-loads = all-both (LostStands publication) LostIsTyped (RowLoads publication (resolvers, valid)) (λ row is fits. version-loads publication resolvers valid any (λ n. omega arith) (key_of_conflict row) row.losing is.0 fits.0) p.conflicts base.lost typed.conflicts

  from-sites : AllByRecursion (IsFromSite publication (resolvers, valid)) p.conflicts
  from-sites = all-weaker (LostStands publication) (IsFromSite publication (resolvers, valid)) (λ row is. is.1) p.conflicts base.lost

  grants : GrantsLoad p.grants
  grants = grants-load resolvers publication valid p.grants parts.own.0 parts.grants

  held : AllHeldLoad publication p.held
  held = held-loads resolvers publication valid p.held parts.keys.0 parts.keys.1

  pub parts-load : PublisherKeeps publication p
  parts-load = record {
    fits = front-fits p base.changes base.closed base.conflict_count parts.rooms.unfilled typed.latest;
    state = front-sound p base.changes base.closed base.conflict_count parts.rooms.unfilled typed.latest;
    rows = rows-load publication p base.closed [] p.rows (λ g. (let up = parts.rooms.room g in omega (arith, up))) stored;
    mappings = moves-load publication p base.closed [] p.mappings (λ g. (let up = parts.rooms.room g in omega (arith, up))) base.moves;
    closings = all-both (ClosingIs (last_closed p)) (λ (closing : Closing). MomentFits closing.moment) (PublisherClosingLoads p) (λ closing is fits. closing-loads p closing base.closed is fits) p.gens.closings base.closings typed.closings;
    conflicts = table-loads publication (resolvers, valid) p.conflict_count base.conflict_count [] p.conflicts 0 refl base.numbered from-sites lost-loads typed.conflicts;
    numbered = base.numbered;
    ranges = range-rule-of publication p grants held parts.keys.0 parts.own.1 parts.grants typed;
    received = all-weaker (HeldLoads publication) (λ (entry : ℕ × Holder). option_map (λ identity. holder_of identity (held_ranges entry.1)) (identity_at publication entry.0) ≡ Some entry.1) (λ entry loads. loads.same) (filter was_received p.held) held.received;
    all_held = held.all_held;
    in_order = grants.in_order;
    granted = grants.granted;
    keyed = grants.keyed typed.grants;
    sites = all-both (SiteIs publication (last_closed p)) (λ (site : ℕ × SiteState). site.1.last_sync < 2 ^ 64) (SiteLoads publication p) (λ site is sync. site-loads publication resolvers valid p site base.closed sync is) p.sites parts.sites typed.sites;
  }
