-- Which of what a publisher holds may cross threads.
use denote.RattleType.{RattleType}
use denote.Param.Send.{IsSend, sendable}
use denote.Param.Object.{Ghosts, table_of}
use denote.Param.Sent.{Sends}
use Rattle.std.proofs.Crossing as std
use Rattle.merge_filter.specs.contracts.filters.Filter as Filter
use Rattle.merge_filter.proofs.tree.Node.TheLaws.TheKnot as node_knot
use Rattle.merge_schema.specs.contracts.publication.Article as Article
use Rattle.merge_schema.specs.contracts.publication.Publication as Publication
use Rattle.merge_part.specs.contracts.membership.Membership as Membership
use Rattle.merge_part.proofs.keeping.Kept.TheSendSync as kept
use Rattle.merge_gens.proofs.index.GenerationIndex.TheSendSync as index
use Rattle.merge_gens.proofs.book.GenerationBook.TheSendSync as book
use Rattle.merge_conflict.proofs.table.ConflictTable.TheSendSync as conflicts
use Rattle.merge_ident.proofs.book.RangeBook.TheSendSync as ranges
use Rattle.merge_gens.proofs.moves.Mapping.TheSendSync as mapping
use Rattle.merge_steps.proofs.site_moves.MoveEntry.TheSendSync as move
use Rattle.merge_gens.proofs.moves.RowSite.TheSendSync as row_site
use Rattle.merge_gens.proofs.sites.SiteState.TheSendSync as state
use Rattle.merge_ident.proofs.ranges.Ranges.TheSendSync as held
use Rattle.merge_units.proofs.site_row.PublisherRow.TheSendSync as row
use Rattle.merge_types.proofs.row_key.RowKey.TheSendSync as key
use Rattle.merge_types.proofs.identifiers.Moment.TheSendSync as moment
use Rattle.merge_table.proofs.table.Table.TheSendSync as table
use Rattle.merge_ports.specs.declared.keeper.Keeper as Keeper
use Rattle.merge_site.specs.contracts.drafting_site.DraftingSite as DraftingSite
use Rattle.merge_pub.specs.contracts.publisher.Publisher as Publisher

filter_send : IsSend Filter.the_row
filter_send = search (std.crosses, node_knot.crosses, sendable) depth 60 fits 20000

article_send : IsSend Article.the_row
article_send = search (filter_send, std.crosses, sendable) depth 60 fits 20000

publication_field_send : IsSend (Publication.the_field).row
publication_field_send = search (article_send, std.crosses, sendable) depth 60 fits 20000

membership_field_send : IsSend (Membership.the_field).row
membership_field_send = search (publication_field_send, kept.the_field_send, std.crosses, sendable) depth 60 fits 20000

publisher_send : IsSend (Publisher.the_field).row
publisher_send = search (membership_field_send, index.the_send, book.the_send, conflicts.the_send, ranges.the_send, mapping.the_send, move.the_send, row_site.the_send, state.the_send, held.the_send, row.the_send, key.the_send, moment.the_field_send, table.the_send, std.crosses, sendable) depth 60 fits 20000

module _ (K D : RattleType) (k : Keeper.Ghosts K.Denot) (d : Ghosts D.Denot) where
  pub site_send : IsSend K → Sends (table_of D.Denot d) → IsSend D → IsSend (DraftingSite.the_row K D k d)
  site_send sk sd ss = let a = std.dyn_box_send D d sd ss in search (publisher_send, std.crosses, sendable) depth 60 fits 20000
