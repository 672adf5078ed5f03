-- Messages that break one rule each, and messages that break none.
use Rattle.std.specs.Prelude.{◌≡◌, ℕ, pos, ◌-◌, ◌^◌, ◌==◌, ◌&&◌, if◌then◌else◌, refl, List, [], ◌∷◌, replicate, Some, None, codes, true}
use Rattle.merge_types.specs.declared.Dot.{Dot}
use Rattle.merge_types.specs.declared.ColumnType.TheVariants as column
use Rattle.merge_types.specs.declared.Tracking.TheVariants as tracking
use Rattle.merge_types.specs.declared.Value.{Value}
use Rattle.merge_types.specs.declared.Value.TheVariants.{Null, Int, Text}
use Rattle.merge_types.specs.Rows.{row_number}
use Rattle.merge_units.specs.declared.version.Body.TheVariants.{Live, Dead}
use Rattle.merge_schema.specs.declared.publication.Publication.{Publication}
use Rattle.merge_schema.specs.declared.publication.Article.{Article}
use Rattle.merge_schema.specs.declared.publication.SubscriptionKind.TheVariants.{Client}
use Rattle.merge_batch.specs.declared.standing.Standing.{Standing}
use Rattle.merge_batch.specs.declared.request.Upload.{Upload}
use Rattle.merge_batch.specs.declared.request.UploadItem.{UploadItem}
use Rattle.merge_batch.specs.declared.request.Outstanding.TheVariants as outstanding
use Rattle.merge_batch.specs.declared.reply.Reply.TheVariants as reply
use Rattle.merge_batch.specs.declared.reply.Downloaded.{Downloaded}
use Rattle.merge_batch.specs.declared.reply.DownloadItem.{DownloadItem}
use Rattle.merge_batch.specs.declared.reply.Act.TheVariants.{Put, RemoveDeleted, RemoveLeft}
use Rattle.merge_batch.specs.Known.{Known}
use Rattle.merge_batch.specs.Search.{broken_at}
use Rattle.merge_batch.specs.Uploads.{broken_by_upload}
use Rattle.merge_batch.specs.Asks.{broken_by_join, broken_by_ranges}
use Rattle.merge_batch.specs.Replies.{Heard, broken_by_reply}
use Rattle.merge_batch.specs.Opened.{opened}

-- an item with a quantity; a part with two columns that are tracked by column; a ticket with an identity column and a note
abbrev item_article : Article
item_article = record {
  name = codes "item";
  columns = record { name = codes "qty"; ty = column.Int } ∷ [];
  tracking = tracking.Row;
  filter = None;
  joins = [];
  identity = None;
  resolver = 0;
  resolver_column = None;
}

abbrev part_article : Article
part_article = record {
  name = codes "part";
  columns = record { name = codes "a"; ty = column.Int } ∷ record { name = codes "b"; ty = column.Text } ∷ [];
  tracking = tracking.ByColumn;
  filter = None;
  joins = [];
  identity = None;
  resolver = 0;
  resolver_column = None;
}

abbrev ticket_article : Article
ticket_article = record {
  name = codes "ticket";
  columns = record { name = codes "no"; ty = column.Int } ∷ record { name = codes "note"; ty = column.Text } ∷ [];
  tracking = tracking.Row;
  filter = None;
  joins = [];
  identity = Some (record { column = 0; seed = pos 1; range = 10; pub_range = 10; threshold = 80; greatest = pos 1000 });
  resolver = 0;
  resolver_column = None;
}

abbrev publication : Publication
publication = record {
  name = codes "first";
  retention_days = 14;
  conflict_retention_days = 14;
  articles = item_article ∷ part_article ∷ ticket_article ∷ [];
  subscriptions =
      record { site = record { 0 = 1 }; host = record { 0 = codes "h1" }; kind = Client; priority = 0 }
      ∷ record { site = record { 0 = 2 }; host = record { 0 = codes "h2" }; kind = Client; priority = 0 }
      ∷ [];
}

-- the publisher made five changes and took two generations of site 1, the last change of which is its seventh; site 2 never joined
-- site 1 was granted the values 1 to 10 of tickets, and gave 4 to the ticket that its third change made
abbrev known : Known
known = record {
  changes = 5;
  state = λ site. if site == 1 then Some (record { joined_at = 1; received = 2; received_number = 7; seen = 7; watermark = 0; last_sync = 0 }) else None;
  grants = record { article = 2; site = record { 0 = 1 }; number = 1; range = record { begin = pos 1; end = pos 10 } } ∷ [];
  identity = λ article row. if article == 2 && row == row_number 1 3 then Some (pos 4) else None;
}

abbrev dot : ℕ → ℕ → Dot
dot site number = record { site = record { 0 = site }; number = number }

-- a live row of one cell, made by the change that last set it
abbrev live_item : ℕ → List Dot → Dot → List Value → UploadItem
live_item article lineage top values = record {
  article = article;
  row = record { 0 = row_number top.site.0 top.number };
  generation = 3;
  version = record { lineage = lineage; body = Live (record { top = top; values = values } ∷ []) };
}

abbrev good_item : UploadItem
good_item = live_item 0 (dot 1 8 ∷ []) (dot 1 8) (Int (pos 5) ∷ [])

abbrev upload : List UploadItem → Upload
upload items = record { site = record { 0 = 1 }; seq = 9; from = 2; to = 4; through = 9; items = items }

-- an insert of site 1, and a batch without items
accepts_an_insert : broken_by_upload publication known (upload (good_item ∷ [])) ≡ None
unfolding opened
accepts_an_insert = refl

accepts_no_items : broken_by_upload publication known (upload []) ≡ None
unfolding opened
accepts_no_items = refl

-- a batch that was taken before may have any last change number
accepts_what_was_taken : broken_by_upload publication known (record (upload []) { from = 1; to = 2; through = 0 }) ≡ None
unfolding opened
accepts_what_was_taken = refl

-- rules of the message
refuses_no_generation : broken_by_upload publication known (record (upload (good_item ∷ [])) { from = 4 }) ≡ Some (broken_at 0 1)
unfolding opened
refuses_no_generation = refl

accepts_a_hundred_generations : broken_by_upload publication known (record (upload (good_item ∷ [])) { to = 102 }) ≡ None
unfolding opened
accepts_a_hundred_generations = refl

refuses_a_hundred_and_one : broken_by_upload publication known (record (upload (good_item ∷ [])) { to = 103 }) ≡ Some (broken_at 0 2)
unfolding opened
refuses_a_hundred_and_one = refl

-- the second of equal rows breaks the rule of items
counts_two_thousand_items : broken_by_upload publication known (upload (replicate 2000 good_item)) ≡ Some (broken_at 2 5)
unfolding opened
counts_two_thousand_items = refl

refuses_more_items : broken_by_upload publication known (upload (replicate 2001 good_item)) ≡ Some (broken_at 0 3)
unfolding opened
refuses_more_items = refl

refuses_a_number_that_falls : broken_by_upload publication known (record (upload (good_item ∷ [])) { through = 6 }) ≡ Some (broken_at 0 4)
unfolding opened
refuses_a_number_that_falls = refl

accepts_the_number_received : broken_by_upload publication known (record (upload (good_item ∷ [])) { through = 7 }) ≡ None
unfolding opened
accepts_the_number_received = refl

refuses_a_generation_past_the_end : broken_by_upload publication known (record (upload []) { from = 2 ^ 62 - 1; to = 2 ^ 62 }) ≡ Some (broken_at 0 4)
unfolding opened
refuses_a_generation_past_the_end = refl

refuses_a_number_past_the_end : broken_by_upload publication known (record (upload []) { through = 2 ^ 62 }) ≡ Some (broken_at 0 4)
unfolding opened
refuses_a_number_past_the_end = refl

-- rows rise by article and identifier
accepts_rows_that_rise : broken_by_upload publication known (upload (good_item ∷ live_item 0 (dot 1 9 ∷ []) (dot 1 9) (Int (pos 5) ∷ []) ∷ [])) ≡ None
unfolding opened
accepts_rows_that_rise = refl

refuses_a_row_twice : broken_by_upload publication known (upload (good_item ∷ live_item 0 (dot 1 8 ∷ []) (dot 1 8) (Int (pos 5) ∷ []) ∷ [])) ≡ Some (broken_at 2 5)
unfolding opened
refuses_a_row_twice = refl

refuses_rows_that_fall : broken_by_upload publication known (upload (good_item ∷ live_item 0 (dot 1 7 ∷ []) (dot 1 7) (Int (pos 5) ∷ []) ∷ [])) ≡ Some (broken_at 2 5)
unfolding opened
refuses_rows_that_fall = refl

accepts_a_later_article : broken_by_upload publication known (upload (live_item 0 (dot 1 9 ∷ []) (dot 1 9) (Int (pos 5) ∷ []) ∷ live_item 2 (dot 1 8 ∷ []) (dot 1 8) (Int (pos 5) ∷ Null ∷ []) ∷ [])) ≡ None
unfolding opened
accepts_a_later_article = refl

-- cells and values fit the article
refuses_an_unknown_article : broken_by_upload publication known (upload (live_item 3 (dot 1 8 ∷ []) (dot 1 8) (Int (pos 5) ∷ []) ∷ [])) ≡ Some (broken_at 1 6)
unfolding opened
refuses_an_unknown_article = refl

accepts_a_null : broken_by_upload publication known (upload (live_item 0 (dot 1 8 ∷ []) (dot 1 8) (Null ∷ []) ∷ [])) ≡ None
unfolding opened
accepts_a_null = refl

refuses_a_wrong_type : broken_by_upload publication known (upload (live_item 0 (dot 1 8 ∷ []) (dot 1 8) (Text (codes "x") ∷ []) ∷ [])) ≡ Some (broken_at 1 6)
unfolding opened
refuses_a_wrong_type = refl

refuses_a_value_too_many : broken_by_upload publication known (upload (live_item 0 (dot 1 8 ∷ []) (dot 1 8) (Int (pos 5) ∷ Null ∷ []) ∷ [])) ≡ Some (broken_at 1 6)
unfolding opened
refuses_a_value_too_many = refl

refuses_a_value_too_few : broken_by_upload publication known (upload (live_item 2 (dot 1 8 ∷ []) (dot 1 8) (Int (pos 5) ∷ []) ∷ [])) ≡ Some (broken_at 1 6)
unfolding opened
refuses_a_value_too_few = refl

accepts_a_long_text : broken_by_upload publication known (upload (live_item 2 (dot 1 8 ∷ []) (dot 1 8) (Int (pos 5) ∷ Text (replicate 4000 97) ∷ []) ∷ [])) ≡ None
unfolding opened
accepts_a_long_text = refl

refuses_a_text_too_long : broken_by_upload publication known (upload (live_item 2 (dot 1 8 ∷ []) (dot 1 8) (Int (pos 5) ∷ Text (replicate 4001 97) ∷ []) ∷ [])) ≡ Some (broken_at 1 6)
unfolding opened
refuses_a_text_too_long = refl

refuses_a_null_identity : broken_by_upload publication known (upload (live_item 2 (dot 1 8 ∷ []) (dot 1 8) (Null ∷ Null ∷ []) ∷ [])) ≡ Some (broken_at 1 6)
unfolding opened
refuses_a_null_identity = refl

refuses_one_cell_where_columns_are_tracked : broken_by_upload publication known (upload (live_item 1 (dot 1 8 ∷ []) (dot 1 8) (Int (pos 5) ∷ Null ∷ []) ∷ [])) ≡ Some (broken_at 1 6)
unfolding opened
refuses_one_cell_where_columns_are_tracked = refl

accepts_a_cell_for_each_column : broken_by_upload publication known (upload (record good_item { article = 1; version = record { lineage = dot 0 2 ∷ dot 1 8 ∷ []; body = Live (record { top = dot 1 8; values = Int (pos 5) ∷ [] } ∷ record { top = dot 0 2; values = Null ∷ [] } ∷ []) } } ∷ [])) ≡ None
unfolding opened
accepts_a_cell_for_each_column = refl

accepts_a_delete : broken_by_upload publication known (upload (record good_item { version = record { lineage = dot 1 9 ∷ []; body = Dead (dot 1 9) } } ∷ [])) ≡ None
unfolding opened
accepts_a_delete = refl

refuses_a_delete_in_no_article : broken_by_upload publication known (upload (record good_item { article = 3; version = record { lineage = dot 1 9 ∷ []; body = Dead (dot 1 9) } } ∷ [])) ≡ Some (broken_at 1 6)
unfolding opened
refuses_a_delete_in_no_article = refl

-- the lineage is well formed, and has a pair of the uploader
refuses_sites_out_of_order : broken_by_upload publication known (upload (live_item 0 (dot 1 8 ∷ dot 0 2 ∷ []) (dot 1 8) (Int (pos 5) ∷ []) ∷ [])) ≡ Some (broken_at 1 7)
unfolding opened
refuses_sites_out_of_order = refl

refuses_an_unknown_site : broken_by_upload publication known (upload (live_item 0 (dot 1 8 ∷ dot 3 2 ∷ []) (dot 1 8) (Int (pos 5) ∷ []) ∷ [])) ≡ Some (broken_at 1 7)
unfolding opened
refuses_an_unknown_site = refl

refuses_a_number_of_zero : broken_by_upload publication known (upload (live_item 0 (dot 0 0 ∷ dot 1 8 ∷ []) (dot 1 8) (Int (pos 5) ∷ []) ∷ [])) ≡ Some (broken_at 1 7)
unfolding opened
refuses_a_number_of_zero = refl

refuses_a_lineage_number_past_the_end : broken_by_upload publication known (upload (live_item 0 (dot 1 (2 ^ 62) ∷ []) (dot 1 8) (Int (pos 5) ∷ []) ∷ [])) ≡ Some (broken_at 1 7)
unfolding opened
refuses_a_lineage_number_past_the_end = refl

refuses_a_lineage_without_the_uploader : broken_by_upload publication known (upload (live_item 0 (dot 0 2 ∷ []) (dot 0 2) (Int (pos 5) ∷ []) ∷ [])) ≡ Some (broken_at 1 7)
unfolding opened
refuses_a_lineage_without_the_uploader = refl

-- the generation lies above from and not above to
refuses_the_generation_at_from : broken_by_upload publication known (upload (record good_item { generation = 2 } ∷ [])) ≡ Some (broken_at 1 8)
unfolding opened
refuses_the_generation_at_from = refl

accepts_the_generation_at_to : broken_by_upload publication known (upload (record good_item { generation = 4 } ∷ [])) ≡ None
unfolding opened
accepts_the_generation_at_to = refl

refuses_a_generation_above_to : broken_by_upload publication known (upload (record good_item { generation = 5 } ∷ [])) ≡ Some (broken_at 1 8)
unfolding opened
refuses_a_generation_above_to = refl

-- tops are known by the lineage
refuses_a_top_that_is_not_known : broken_by_upload publication known (upload (live_item 0 (dot 1 8 ∷ []) (dot 1 9) (Int (pos 5) ∷ []) ∷ [])) ≡ Some (broken_at 1 9)
unfolding opened
refuses_a_top_that_is_not_known = refl

refuses_a_dead_top_that_is_not_known : broken_by_upload publication known (upload (record good_item { version = record { lineage = dot 1 8 ∷ []; body = Dead (dot 1 9) } } ∷ [])) ≡ Some (broken_at 1 9)
unfolding opened
refuses_a_dead_top_that_is_not_known = refl

-- the row has a maker that the publisher can have heard of
refuses_a_row_without_a_maker : broken_by_upload publication known (upload (record good_item { row = record { 0 = 5 } } ∷ [])) ≡ Some (broken_at 1 10)
unfolding opened
refuses_a_row_without_a_maker = refl

accepts_a_row_of_the_publisher : broken_by_upload publication known (upload (record good_item { row = record { 0 = row_number 0 5 } } ∷ [])) ≡ None
unfolding opened
accepts_a_row_of_the_publisher = refl

refuses_a_row_that_the_publisher_did_not_make : broken_by_upload publication known (upload (record good_item { row = record { 0 = row_number 0 6 } } ∷ [])) ≡ Some (broken_at 1 10)
unfolding opened
refuses_a_row_that_the_publisher_did_not_make = refl

refuses_a_row_of_a_site_that_never_joined : broken_by_upload publication known (upload (record good_item { row = record { 0 = row_number 2 1 } } ∷ [])) ≡ Some (broken_at 1 10)
unfolding opened
refuses_a_row_of_a_site_that_never_joined = refl

refuses_a_row_of_no_subscription : broken_by_upload publication known (upload (record good_item { row = record { 0 = row_number 3 1 } } ∷ [])) ≡ Some (broken_at 1 10)
unfolding opened
refuses_a_row_of_no_subscription = refl

-- the lineage knows nothing that cannot have been seen
accepts_what_the_publisher_made : broken_by_upload publication known (upload (live_item 0 (dot 0 5 ∷ dot 1 8 ∷ []) (dot 1 8) (Int (pos 5) ∷ []) ∷ [])) ≡ None
unfolding opened
accepts_what_the_publisher_made = refl

refuses_what_the_publisher_did_not_make : broken_by_upload publication known (upload (live_item 0 (dot 0 6 ∷ dot 1 8 ∷ []) (dot 1 8) (Int (pos 5) ∷ []) ∷ [])) ≡ Some (broken_at 1 11)
unfolding opened
refuses_what_the_publisher_did_not_make = refl

refuses_what_was_never_seen : broken_by_upload publication known (upload (live_item 0 (dot 1 8 ∷ dot 2 1 ∷ []) (dot 1 8) (Int (pos 5) ∷ []) ∷ [])) ≡ Some (broken_at 1 11)
unfolding opened
refuses_what_was_never_seen = refl

-- identity values come from the ranges of the row's maker, and stay
accepts_a_granted_value : broken_by_upload publication known (upload (live_item 2 (dot 1 8 ∷ []) (dot 1 8) (Int (pos 10) ∷ Null ∷ []) ∷ [])) ≡ None
unfolding opened
accepts_a_granted_value = refl

refuses_a_value_of_no_range : broken_by_upload publication known (upload (live_item 2 (dot 1 8 ∷ []) (dot 1 8) (Int (pos 11) ∷ Null ∷ []) ∷ [])) ≡ Some (broken_at 1 12)
unfolding opened
refuses_a_value_of_no_range = refl

refuses_a_value_of_another_site : broken_by_upload publication known (upload (record (live_item 2 (dot 1 8 ∷ []) (dot 1 8) (Int (pos 5) ∷ Null ∷ [])) { row = record { 0 = row_number 0 2 } } ∷ [])) ≡ Some (broken_at 1 12)
unfolding opened
refuses_a_value_of_another_site = refl

accepts_the_value_that_is_held : broken_by_upload publication known (upload (record (live_item 2 (dot 1 8 ∷ []) (dot 1 8) (Int (pos 4) ∷ Null ∷ [])) { row = record { 0 = row_number 1 3 } } ∷ [])) ≡ None
unfolding opened
accepts_the_value_that_is_held = refl

refuses_another_value_than_is_held : broken_by_upload publication known (upload (record (live_item 2 (dot 1 8 ∷ []) (dot 1 8) (Int (pos 5) ∷ Null ∷ [])) { row = record { 0 = row_number 1 3 } } ∷ [])) ≡ Some (broken_at 1 12)
unfolding opened
refuses_another_value_than_is_held = refl

-- joins
accepts_a_join : broken_by_join (record { site = record { 0 = 1 }; seq = 1; generation = 0; number = 0 }) ≡ None
unfolding opened
accepts_a_join = refl

refuses_a_sequence_number_past_the_end : broken_by_join (record { site = record { 0 = 1 }; seq = 2 ^ 62; generation = 0; number = 0 }) ≡ Some (broken_at 0 4)
unfolding opened
refuses_a_sequence_number_past_the_end = refl

refuses_a_joined_generation_past_the_end : broken_by_join (record { site = record { 0 = 1 }; seq = 1; generation = 2 ^ 62; number = 0 }) ≡ Some (broken_at 0 4)
unfolding opened
refuses_a_joined_generation_past_the_end = refl

refuses_a_joined_number_past_the_end : broken_by_join (record { site = record { 0 = 1 }; seq = 1; generation = 0; number = 2 ^ 62 }) ≡ Some (broken_at 0 4)
unfolding opened
refuses_a_joined_number_past_the_end = refl

-- range requests
accepts_a_range_request : broken_by_ranges publication known (record { site = record { 0 = 1 }; seq = 9; wants = record { article = 2; have = 1; due = true } ∷ [] }) ≡ None
unfolding opened
accepts_a_range_request = refl

accepts_a_range_request_of_a_lost_reply : broken_by_ranges publication known (record { site = record { 0 = 1 }; seq = 9; wants = record { article = 2; have = 0; due = true } ∷ [] }) ≡ None
unfolding opened
accepts_a_range_request_of_a_lost_reply = refl

refuses_more_ranges_than_were_granted : broken_by_ranges publication known (record { site = record { 0 = 1 }; seq = 9; wants = record { article = 2; have = 2; due = true } ∷ [] }) ≡ Some (broken_at 0 13)
unfolding opened
refuses_more_ranges_than_were_granted = refl

refuses_an_article_without_identity : broken_by_ranges publication known (record { site = record { 0 = 1 }; seq = 9; wants = record { article = 0; have = 0; due = true } ∷ [] }) ≡ Some (broken_at 0 13)
unfolding opened
refuses_an_article_without_identity = refl

refuses_ranges_of_no_article : broken_by_ranges publication known (record { site = record { 0 = 1 }; seq = 9; wants = record { article = 3; have = 0; due = true } ∷ [] }) ≡ Some (broken_at 0 13)
unfolding opened
refuses_ranges_of_no_article = refl

refuses_an_article_twice : broken_by_ranges publication known (record { site = record { 0 = 1 }; seq = 9; wants = record { article = 2; have = 1; due = true } ∷ record { article = 2; have = 1; due = true } ∷ [] }) ≡ Some (broken_at 0 13)
unfolding opened
refuses_an_article_twice = refl

-- site 1 made eight changes and closed four generations, of which the publisher took two; it heard of one range of tickets
abbrev own : Standing
own = record { site = record { 0 = 1 }; changes = 8; closed = 4; received = 2 }

abbrev heard : Heard
heard article = if article == 2 then Some 1 else None

abbrev downloaded : List DownloadItem → Downloaded
downloaded items = record { seq = 9; from = 3; to = 5; last = 7; received = 2; items = items }

abbrev put_item : ℕ → List Dot → Dot → List Value → DownloadItem
put_item article lineage top values = record {
  article = article;
  row = record { 0 = row_number 1 8 };
  act = Put lineage (record { top = top; values = values } ∷ []);
}

abbrev good_put : DownloadItem
good_put = put_item 0 (dot 0 9 ∷ dot 1 8 ∷ dot 2 4 ∷ []) (dot 2 4) (Int (pos 5) ∷ [])

-- replies
a_joined_reply_fits : broken_by_reply publication own heard (outstanding.Join) (reply.Joined (record { seq = 9 })) ≡ None
unfolding opened
a_joined_reply_fits = refl

another_kind_does_not_fit : broken_by_reply publication own heard (outstanding.Join) (reply.Uploaded (record { seq = 9; received = 4 })) ≡ Some (broken_at 0 0)
unfolding opened
another_kind_does_not_fit = refl

a_refusal_fits : broken_by_reply publication own heard (outstanding.Upload 2 4) (reply.Refused 17 []) ≡ None
unfolding opened
a_refusal_fits = refl

an_uploaded_reply_fits : broken_by_reply publication own heard (outstanding.Upload 2 4) (reply.Uploaded (record { seq = 9; received = 4 })) ≡ None
unfolding opened
an_uploaded_reply_fits = refl

less_than_was_sent_does_not_fit : broken_by_reply publication own heard (outstanding.Upload 2 4) (reply.Uploaded (record { seq = 9; received = 3 })) ≡ Some (broken_at 0 0)
unfolding opened
less_than_was_sent_does_not_fit = refl

more_than_was_closed_does_not_fit : broken_by_reply publication own heard (outstanding.Upload 2 4) (reply.Uploaded (record { seq = 9; received = 5 })) ≡ Some (broken_at 0 0)
unfolding opened
more_than_was_closed_does_not_fit = refl

the_next_range_fits : broken_by_reply publication own heard (outstanding.Ranges) (reply.Ranged (record { seq = 9; grants = record { article = 2; number = 2; begin = pos 11; end = pos 20 } ∷ []; ended = [] })) ≡ None
unfolding opened
the_next_range_fits = refl

no_range_fits : broken_by_reply publication own heard (outstanding.Ranges) (reply.Ranged (record { seq = 9; grants = []; ended = [] })) ≡ None
unfolding opened
no_range_fits = refl

the_same_range_does_not_fit : broken_by_reply publication own heard (outstanding.Ranges) (reply.Ranged (record { seq = 9; grants = record { article = 2; number = 1; begin = pos 1; end = pos 10 } ∷ []; ended = [] })) ≡ Some (broken_at 0 0)
unfolding opened
the_same_range_does_not_fit = refl

a_range_of_another_article_does_not_fit : broken_by_reply publication own heard (outstanding.Ranges) (reply.Ranged (record { seq = 9; grants = record { article = 0; number = 1; begin = pos 1; end = pos 10 } ∷ []; ended = [] })) ≡ Some (broken_at 0 0)
unfolding opened
a_range_of_another_article_does_not_fit = refl

an_empty_range_does_not_fit : broken_by_reply publication own heard (outstanding.Ranges) (reply.Ranged (record { seq = 9; grants = record { article = 2; number = 2; begin = pos 11; end = pos 10 } ∷ []; ended = [] })) ≡ Some (broken_at 0 0)
unfolding opened
an_empty_range_does_not_fit = refl

two_ranges_of_an_article_do_not_fit : broken_by_reply publication own heard (outstanding.Ranges) (reply.Ranged (record { seq = 9; grants = record { article = 2; number = 2; begin = pos 11; end = pos 20 } ∷ record { article = 2; number = 2; begin = pos 11; end = pos 20 } ∷ []; ended = [] })) ≡ Some (broken_at 0 0)
unfolding opened
two_ranges_of_an_article_do_not_fit = refl

a_downloaded_reply_fits : broken_by_reply publication own heard (outstanding.Download 3) (reply.Downloaded (downloaded (good_put ∷ []))) ≡ None
unfolding opened
a_downloaded_reply_fits = refl

another_begin_does_not_fit : broken_by_reply publication own heard (outstanding.Download 3) (reply.Downloaded (record (downloaded []) { from = 4 })) ≡ Some (broken_at 0 0)
unfolding opened
another_begin_does_not_fit = refl

an_end_below_the_begin_does_not_fit : broken_by_reply publication own heard (outstanding.Download 3) (reply.Downloaded (record (downloaded []) { to = 2 })) ≡ Some (broken_at 0 0)
unfolding opened
an_end_below_the_begin_does_not_fit = refl

an_end_past_the_last_does_not_fit : broken_by_reply publication own heard (outstanding.Download 3) (reply.Downloaded (record (downloaded []) { to = 8 })) ≡ Some (broken_at 0 0)
unfolding opened
an_end_past_the_last_does_not_fit = refl

a_standstill_does_not_fit : broken_by_reply publication own heard (outstanding.Download 3) (reply.Downloaded (record (downloaded []) { to = 3 })) ≡ Some (broken_at 0 0)
unfolding opened
a_standstill_does_not_fit = refl

a_standstill_at_the_last_fits : broken_by_reply publication own heard (outstanding.Download 3) (reply.Downloaded (record (downloaded []) { to = 3; last = 3 })) ≡ None
unfolding opened
a_standstill_at_the_last_fits = refl

more_than_a_hundred_does_not_fit : broken_by_reply publication own heard (outstanding.Download 3) (reply.Downloaded (record (downloaded []) { to = 104; last = 104 })) ≡ Some (broken_at 0 0)
unfolding opened
more_than_a_hundred_does_not_fit = refl

a_last_past_the_end_does_not_fit : broken_by_reply publication own heard (outstanding.Download 3) (reply.Downloaded (record (downloaded []) { last = 2 ^ 62 })) ≡ Some (broken_at 0 0)
unfolding opened
a_last_past_the_end_does_not_fit = refl

less_received_does_not_fit : broken_by_reply publication own heard (outstanding.Download 3) (reply.Downloaded (record (downloaded []) { received = 1 })) ≡ Some (broken_at 0 0)
unfolding opened
less_received_does_not_fit = refl

received_above_closed_does_not_fit : broken_by_reply publication own heard (outstanding.Download 3) (reply.Downloaded (record (downloaded []) { received = 5 })) ≡ Some (broken_at 0 0)
unfolding opened
received_above_closed_does_not_fit = refl

more_items_do_not_fit : broken_by_reply publication own heard (outstanding.Download 3) (reply.Downloaded (downloaded (replicate 2001 good_put))) ≡ Some (broken_at 0 0)
unfolding opened
more_items_do_not_fit = refl

a_row_twice_does_not_fit : broken_by_reply publication own heard (outstanding.Download 3) (reply.Downloaded (downloaded (good_put ∷ good_put ∷ []))) ≡ Some (broken_at 2 0)
unfolding opened
a_row_twice_does_not_fit = refl

a_remove_fits : broken_by_reply publication own heard (outstanding.Download 3) (reply.Downloaded (downloaded (record good_put { act = RemoveLeft } ∷ []))) ≡ None
unfolding opened
a_remove_fits = refl

a_remove_in_no_article_does_not_fit : broken_by_reply publication own heard (outstanding.Download 3) (reply.Downloaded (downloaded (record good_put { article = 3; act = RemoveDeleted } ∷ []))) ≡ Some (broken_at 1 0)
unfolding opened
a_remove_in_no_article_does_not_fit = refl

a_wrong_type_does_not_fit : broken_by_reply publication own heard (outstanding.Download 3) (reply.Downloaded (downloaded (put_item 0 (dot 1 8 ∷ []) (dot 1 8) (Text (codes "x") ∷ []) ∷ []))) ≡ Some (broken_at 1 0)
unfolding opened
a_wrong_type_does_not_fit = refl

an_unknown_site_does_not_fit : broken_by_reply publication own heard (outstanding.Download 3) (reply.Downloaded (downloaded (put_item 0 (dot 1 8 ∷ dot 3 1 ∷ []) (dot 1 8) (Int (pos 5) ∷ []) ∷ []))) ≡ Some (broken_at 1 0)
unfolding opened
an_unknown_site_does_not_fit = refl

an_unknown_top_does_not_fit : broken_by_reply publication own heard (outstanding.Download 3) (reply.Downloaded (downloaded (put_item 0 (dot 1 8 ∷ []) (dot 2 1) (Int (pos 5) ∷ []) ∷ []))) ≡ Some (broken_at 1 0)
unfolding opened
an_unknown_top_does_not_fit = refl

an_own_change_that_was_not_made_does_not_fit : broken_by_reply publication own heard (outstanding.Download 3) (reply.Downloaded (downloaded (put_item 0 (dot 1 9 ∷ []) (dot 1 9) (Int (pos 5) ∷ []) ∷ []))) ≡ Some (broken_at 1 0)
unfolding opened
an_own_change_that_was_not_made_does_not_fit = refl

an_own_row_that_was_not_made_does_not_fit : broken_by_reply publication own heard (outstanding.Download 3) (reply.Downloaded (downloaded (record good_put { row = record { 0 = row_number 1 9 } } ∷ []))) ≡ Some (broken_at 1 0)
unfolding opened
an_own_row_that_was_not_made_does_not_fit = refl

a_row_without_a_maker_fits : broken_by_reply publication own heard (outstanding.Download 3) (reply.Downloaded (downloaded (record good_put { row = record { 0 = 5 } } ∷ []))) ≡ None
unfolding opened
a_row_without_a_maker_fits = refl
