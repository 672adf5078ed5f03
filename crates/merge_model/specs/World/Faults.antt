-- What is wrong in a message, by the rules of messages.
use Rattle.std.specs.Option.{option_and_then}
use Rattle.std.specs.Prelude.{None, Option, Some, option_map, ℕ, ℤ}
use Rattle.merge_types.specs.declared.identifiers.RowId.{RowId}
use Rattle.merge_gens.specs.declared.sites.SiteState.{SiteState}
use Rattle.merge_ident.specs.Holders.{Holder}
use Rattle.merge_schema.specs.declared.publication.Publication.{Publication}
use Rattle.merge_batch.specs.Asks.{broken_by_join, broken_by_ranges}
use Rattle.merge_batch.specs.Known.{Known}
use Rattle.merge_batch.specs.Replies.{broken_by_reply}
use Rattle.merge_batch.specs.Uploads.{broken_by_upload, identity_value}
use Rattle.merge_batch.specs.declared.refusal.Refusal.{Refusal}
use Rattle.merge_batch.specs.declared.refusal.Refusal.TheVariants.{BadBatch}
use Rattle.merge_batch.specs.declared.reply.Reply.{Reply}
use Rattle.merge_batch.specs.declared.request.Join.{Join}
use Rattle.merge_batch.specs.declared.request.Outstanding.{Outstanding}
use Rattle.merge_batch.specs.declared.request.RangeAsk.{RangeAsk}
use Rattle.merge_batch.specs.declared.request.Upload.{Upload}
use Rattle.merge_batch.specs.declared.rules.BrokenRule.{BrokenRule}
use Rattle.merge_batch.specs.declared.standing.Standing.{Standing}
use Rattle.merge_model.specs.Judge.{PublisherJudge}
use Rattle.merge_model.specs.Tables.Keys.{at_number, row_at}
use Rattle.merge_units.specs.declared.site_row.PublisherRow.{PublisherRow}
use Rattle.merge_model.specs.Tables.{PublisherTables, SubscriberTables}

abbrev pub fault_of : Option BrokenRule → Option Refusal
fault_of None = None
fault_of (Some broken) = Some (BadBatch broken.item broken.rule)

-- what the publisher remembers of a site, as it decides by it
abbrev pub judged_state : PublisherJudge → ℕ → SiteState → SiteState
judged_state judge site state = record state {
  received = judge.received site;
  received_number = judge.received_number site;
  seen = judge.seen site;
}

-- the identity value of the live row that the publisher holds
abbrev pub held_identity : Publication → PublisherTables → ℕ → RowId → Option ℤ
held_identity publication p article row = option_and_then (λ (held : PublisherRow). identity_value publication article held.version.body) (row_at p.rows (record { article = article; row = row }))

abbrev pub known_by : Publication → PublisherJudge → PublisherTables → Known
known_by publication judge p = record {
  changes = p.changes;
  state = λ (site : ℕ). option_map (judged_state judge site) (at_number p.sites site);
  grants = p.grants;
  identity = λ (article row : ℕ). held_identity publication p article (record { 0 = row });
}

abbrev pub upload_fault : Publication → PublisherJudge → Upload → PublisherTables → Option Refusal
upload_fault publication judge m p = fault_of (broken_by_upload publication (known_by publication judge p) m)

abbrev pub join_fault : Join → Option Refusal
join_fault m = fault_of (broken_by_join m)

abbrev pub ranges_fault : Publication → PublisherJudge → RangeAsk → PublisherTables → Option Refusal
ranges_fault publication judge m p = fault_of (broken_by_ranges publication (known_by publication judge p) m)

-- how a subscriber stands
abbrev pub standing_of : SubscriberTables → Standing
standing_of s = record {
  site = s.site;
  changes = s.changes;
  closed = s.gens.filling.last_closed;
  received = s.received;
}

abbrev pub heard_by : SubscriberTables → ℕ → Option ℕ
heard_by s article = option_map (λ (holder : Holder). holder.have) (at_number s.held article)

abbrev pub reply_fault : Publication → Outstanding → Reply → SubscriberTables → Option Refusal
reply_fault publication sent m s = fault_of (broken_by_reply publication (standing_of s) (heard_by s) sent m)
