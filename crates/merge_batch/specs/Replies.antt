-- Which replies fit the message that they answer.
use Rattle.std.specs.Prelude.{ℕ, ◌+◌, ◌-◌, ◌==◌, ◌&&◌, ◌||◌, Bool, true, false, not, nat_lt, nat_le, int_le, List, [], ◌∷◌, length, map, Option, None, option_map}
use Rattle.std.specs.List.{list_all}
use Rattle.std.specs.Option.{option_or, option_map_or}
use Rattle.merge_types.specs.Limits.{generation_limit, item_limit, number_limit}
use Rattle.merge_types.specs.declared.Dot.{Dot}
use Rattle.merge_units.specs.declared.version.Body.TheVariants.{Live}
use Rattle.merge_schema.specs.declared.publication.Publication.{Publication}
use Rattle.merge_batch.specs.declared.rules.BrokenRule.{BrokenRule}
use Rattle.merge_batch.specs.declared.standing.Standing.{Standing}
use Rattle.merge_batch.specs.declared.request.Outstanding.{Outstanding}
use Rattle.merge_batch.specs.declared.request.Outstanding.TheVariants as outstanding
use Rattle.merge_batch.specs.declared.reply.Reply.{Reply}
use Rattle.merge_batch.specs.declared.reply.Reply.TheVariants as reply
use Rattle.merge_batch.specs.declared.reply.Uploaded.{Uploaded}
use Rattle.merge_batch.specs.declared.reply.Ranged.{Ranged}
use Rattle.merge_batch.specs.declared.reply.RangeGrant.{RangeGrant}
use Rattle.merge_batch.specs.declared.reply.Downloaded.{Downloaded}
use Rattle.merge_batch.specs.declared.reply.DownloadItem.{DownloadItem}
use Rattle.merge_batch.specs.declared.reply.Act.{Act}
use Rattle.merge_batch.specs.declared.reply.Act.TheVariants.{Put}
use Rattle.merge_batch.specs.Search.{broken_by_message, broken_by_items, is_above, are_distinct}
use Rattle.merge_batch.specs.Makers.{maker_of}
use Rattle.merge_batch.specs.Articles.{has_article, fits_article}
use Rattle.merge_batch.specs.Lineages.{is_well_formed, has_tops, knows_tops}

-- the publisher took what was sent, no fewer generations than the site knows of, and none that the site has not closed
abbrev pub uploaded_fits : Standing → ℕ → Uploaded → Bool
uploaded_fits own to uploaded = nat_le to uploaded.received && nat_le own.received uploaded.received && nat_le uploaded.received own.closed

-- how many ranges the site heard of, for each article that it asked for
abbrev pub Heard : Type 0
Heard = ℕ → Option ℕ

-- a range with a value, of an article that was asked for, and the next one that the site hears of
abbrev pub grant_fits : Heard → RangeGrant → Bool
grant_fits heard grant =
    option_map_or (λ have. grant.number == have + 1) (heard grant.article) false
    && int_le grant.begin grant.end

abbrev pub granted_article : RangeGrant → ℕ
granted_article grant = grant.article

-- at most one for each article
abbrev pub ranged_fits : Heard → Ranged → Bool
ranged_fits heard ranged = list_all (grant_fits heard) ranged.grants && are_distinct (map granted_article ranged.grants)

-- the reply begins where the site asked, goes on by at most 100 generations, by at least one where there is one, and ends at a closed generation
abbrev pub interval_fits : ℕ → Downloaded → Bool
interval_fits from downloaded =
    downloaded.from == from
    && nat_le downloaded.from downloaded.to
    && nat_le downloaded.to downloaded.last
    && nat_lt downloaded.last number_limit
    && nat_le (downloaded.to - downloaded.from) generation_limit
    && (nat_le downloaded.last downloaded.from || nat_lt downloaded.from downloaded.to)

-- it says of the site's own generations no less than the site knows, and no more than it closed
abbrev pub received_fits : Standing → Downloaded → Bool
received_fits own downloaded = nat_le own.received downloaded.received && nat_le downloaded.received own.closed

-- and it has at most 2,000 items
abbrev pub downloaded_fits : Standing → ℕ → Downloaded → Bool
downloaded_fits own from downloaded = interval_fits from downloaded && received_fits own downloaded && nat_le (length downloaded.items) item_limit

-- the item is above the one before it, by article and row
abbrev pub row_of : DownloadItem → ℕ × ℕ
row_of item = (item.article, item.row.0)

abbrev pub row_rises : Option DownloadItem → DownloadItem → Bool
row_rises before item = is_above (option_map row_of before) (row_of item)

-- a change is not one of the site itself that it did not make
abbrev pub was_made : Standing → Dot → Bool
was_made own dot = not (dot.site.0 == own.site.0) || nat_le dot.number own.changes

-- the article exists. The cells and values of a row that is put fit it, its lineage is well formed, its tops are changes of the publisher or of subscriptions and known by the lineage, and the lineage knows no change of the site that it did not make
abbrev pub act_fits : Publication → Standing → ℕ → Act → Bool
act_fits publication own article (Put lineage live) =
    fits_article publication article (Live live)
    && is_well_formed publication lineage
    && has_tops publication (Live live)
    && knows_tops lineage (Live live)
    && list_all (was_made own) lineage
act_fits publication own article _ = has_article publication article

-- nor is the row's maker such a change
abbrev pub maker_fits : Standing → Option Dot → Bool
maker_fits own maker = option_map_or (was_made own) maker true

abbrev pub item_fits : Publication → Standing → Option DownloadItem → DownloadItem → Bool
item_fits publication own before item =
    row_rises before item
    && act_fits publication own item.article item.act
    && maker_fits own (maker_of item.row.0)

-- a reply breaks no rule of its own number: it fits or not
abbrev pub item_rules : Publication → Standing → Option DownloadItem → DownloadItem → List (ℕ × Bool)
item_rules publication own before item = (0, item_fits publication own before item) ∷ []

abbrev pub broken_by_misfit : Bool → Option BrokenRule
broken_by_misfit fits = broken_by_message ((0, fits) ∷ [])

-- the reply to a download as a whole, else its first item that does not fit
abbrev pub broken_by_download : Publication → Standing → ℕ → Downloaded → Option BrokenRule
broken_by_download publication own from downloaded =
    option_or (broken_by_misfit (downloaded_fits own from downloaded)) (broken_by_items (item_rules publication own) downloaded.items)

-- what does not fit in the reply to the outstanding message: the reply as a whole, or its first such item. A reply of another kind does not fit, and a refusal fits each message
unfoldable pub broken_by_reply : Publication → Standing → Heard → Outstanding → Reply → Option BrokenRule
broken_by_reply publication own heard message (reply.Refused number values) = None
broken_by_reply publication own heard outstanding.Join (reply.Joined joined) = None
broken_by_reply publication own heard (outstanding.Upload from to) (reply.Uploaded uploaded) = broken_by_misfit (uploaded_fits own to uploaded)
broken_by_reply publication own heard outstanding.Ranges (reply.Ranged ranged) = broken_by_misfit (ranged_fits heard ranged)
broken_by_reply publication own heard (outstanding.Download from) (reply.Downloaded downloaded) = broken_by_download publication own from downloaded
broken_by_reply publication own heard message _ = broken_by_misfit false
