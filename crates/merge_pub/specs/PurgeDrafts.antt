-- The tables after a purge.
use Rattle.merge_gens.specs.Book.{book_after_purge}
use Rattle.merge_model.specs.Tables.{PublisherTables}
use Rattle.merge_pub.specs.After.{after}
use Rattle.merge_pub.specs.declared.purging.PurgeDraft.{PurgeDraft}

-- the changes of its step are made, and the generations are forgotten that closed before the moment
abbrev pub after_purge : PurgeDraft → PublisherTables → PublisherTables
after_purge d p = let changed = after d.draft.changes p in record changed { gens = book_after_purge changed.gens d.cutoff }
