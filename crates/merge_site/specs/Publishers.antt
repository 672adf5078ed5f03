-- A publisher with a keeper of its records.
use Rattle.std.specs.List.{AllByRecursion}
use Rattle.std.specs.Prelude.{Err, List, Ok, Option, Result, map, true, ◌<◌, ◌^◌, ◌≡◌}
use Rattle.merge_units.specs.declared.site_row.PublisherRow.{PublisherRow}
use Rattle.merge_gens.specs.declared.closings.Closing.{Closing}
use Rattle.merge_batch.specs.declared.refusal.Refusal.{Refusal}
use Rattle.merge_batch.specs.declared.reply.Uploaded.{Uploaded}
use Rattle.merge_model.specs.Tables.{PublisherTables}
use Rattle.merge_ports.specs.Entries.{Map}
use Rattle.merge_record.specs.Tables.{IsRowKey, IsRowSite}
use Rattle.merge_keeper.specs.Encoded.{AllEditKeys}
use Rattle.merge_keeper.specs.Entries.{was_received}
use Rattle.merge_keeper.specs.Stored.{HasGrantKey, IsPublisherKeyed, publisher_records}
use Rattle.merge_keeper.specs.declared.stored.PublisherChanges.{PublisherChanges}
use Rattle.merge_keeper.specs.declared.stored.PublisherStored.{PublisherStored}
use Rattle.merge_pub.specs.After.{after}
use Rattle.merge_steps.specs.declared.changes.Changes.{Changes}
use Rattle.merge_steps.specs.declared.changes.Draft.{Draft}
use Rattle.merge_pub.specs.declared.uploading.UploadDraft.{UploadDraft}
use Rattle.merge_world.specs.Printable.{AreLostPrintable, ArePrintable}
use Rattle.merge_site.specs.Grants.{granted_by}
use Rattle.merge_site.specs.Kept.{IsKept}
use Rattle.merge_site.specs.Lists.{book_left, closing_changes, conflict_put, held_changes}
use Rattle.merge_site.specs.declared.lists.Forgets.{Forgets}

-- the tables, as they are stored
abbrev pub publisher_stored : PublisherTables → PublisherStored
publisher_stored p = record {
  changes = p.changes;
  filling = p.gens.filling;
  closings = p.gens.closings;
  conflict_count = p.conflict_count;
  latest = p.latest;
  rows = p.rows;
  mappings = p.mappings;
  conflicts = p.conflicts;
  grants = p.grants;
  held = p.held;
  sites = p.sites;
}

-- tables that are stored, as a publisher holds them
abbrev pub stored_tables : PublisherStored → PublisherTables
stored_tables t = record {
  changes = t.changes;
  gens = record { filling = t.filling; closings = t.closings };
  conflict_count = t.conflict_count;
  latest = t.latest;
  rows = t.rows;
  mappings = t.mappings;
  conflicts = t.conflicts;
  grants = t.grants;
  held = t.held;
  sites = t.sites;
}

-- the records of the tables
unfoldable pub records_of : PublisherTables → Map
records_of p = publisher_records (publisher_stored p)

-- every number under which a record stands fits its field
unfoldable pub AreKeyed : PublisherTables → Type 0
AreKeyed p = IsPublisherKeyed (publisher_stored p)

-- What holds of a publisher's tables and what its keeper tells: each value of the tables can be printed, and the keeper has
-- their records.
pub record IsKeptPublisher (p : PublisherTables) (told : Option Map) : Type 0 where
  pub keyed : AreKeyed p
  pub kept : IsKept (records_of p) told
  pub printable : ArePrintable (λ (row : PublisherRow). row.version) p.rows
  pub lost : AreLostPrintable p.conflicts

-- the tables after a step's changes, and without the closed generations that it forgets
abbrev pub after_forgetting : Option Forgets → Changes → PublisherTables → PublisherTables
after_forgetting forgets c p = let changed = after c p in record changed { gens = book_left changed.gens forgets }

-- a step's changes as its commit has them, where these closed generations are kept
pub record AreStoredAs (kept : List Closing) (forgets : Option Forgets) (c : Changes) (stored : PublisherChanges) : Type 0 where
  pub changes : stored.changes ≡ c.changes
  pub conflict_count : stored.conflict_count ≡ c.conflict_count
  pub latest : stored.latest ≡ c.latest
  pub filling : stored.filling ≡ c.gens.filling
  pub rows : stored.rows ≡ c.rows
  pub mappings : stored.mappings ≡ c.mappings
  pub closings : stored.closings ≡ closing_changes kept c.gens.closings forgets
  pub conflicts : stored.conflicts ≡ map conflict_put c.conflicts.rows
  pub grants : stored.grants ≡ granted_by c.grants
  pub held : held_changes stored.held ≡ c.held
  pub sites : stored.sites ≡ c.sites

-- the numbers under which records of changes stand fit their fields, and a range was received of each article whose ranges are put
pub record FitFields (c : PublisherChanges) : Type 0 where
  pub rows : AllEditKeys IsRowKey c.rows
  pub mappings : AllEditKeys IsRowSite c.mappings
  pub closings : AllEditKeys (λ n. n < 2 ^ 64) c.closings
  pub conflicts : AllEditKeys (λ n. n < 2 ^ 64) c.conflicts
  pub grants : AllByRecursion HasGrantKey c.grants
  pub held : AllByRecursion (λ p. (p.0 < 2 ^ 8) × (was_received p ≡ true)) c.held
  pub sites : AllEditKeys (λ n. n < 2 ^ 16) c.sites

-- an upload that was worked out, with what is told to the site
abbrev pub told_alone : Result UploadDraft Refusal → Result (Draft × Uploaded) Refusal
told_alone (Ok drafted) = Ok (drafted.draft, drafted.told)
told_alone (Err why) = Err why

-- the tables after a draft, and what the call answers
abbrev pub tables_after_draft : {A : Type 0} → PublisherTables → Draft × A → PublisherTables × A
tables_after_draft p made = (after made.0.changes p, made.1)
