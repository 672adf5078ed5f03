-- What a request that was worked out leaves.
use Rattle.std.specs.Prelude.{None, Option, Some}
use Rattle.merge_batch.specs.declared.reply.Reply.{Reply}
use Rattle.merge_model.specs.Tables.{PublisherTables}

-- where nothing is to be put in place, the tables stay
abbrev pub left_by : {W : Type 0} → (W → PublisherTables → PublisherTables) → Option W → PublisherTables → Reply → PublisherTables × Reply
left_by after (Some work) p answer = (after work p, answer)
left_by after None p answer = (p, answer)
