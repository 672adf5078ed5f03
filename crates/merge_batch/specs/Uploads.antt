-- When an upload is valid. Rules are numbered as the refusal of a bad batch tells them.
use Rattle.std.specs.Prelude.{ℕ, ℤ, ◌-◌, ◌==◌, ◌&&◌, ◌||◌, Bool, true, false, nat_lt, nat_le, if◌then◌else◌, List, [], ◌∷◌, length, slice_get, Option, Some, None, option_map}
use Rattle.std.specs.List.{list_all}
use Rattle.std.specs.Option.{option_or, option_map_or}
use Rattle.std.specs.Ordering.{int_eq}
use Rattle.merge_types.specs.Limits.{generation_limit, item_limit, number_limit}
use Rattle.merge_types.specs.declared.Dot.{Dot}
use Rattle.merge_types.specs.declared.Value.{Value}
use Rattle.merge_types.specs.declared.Value.TheVariants.{Int}
use Rattle.merge_units.specs.declared.version.Body.{Body}
use Rattle.merge_units.specs.declared.version.Body.TheVariants.{Live, Dead}
use Rattle.merge_ident.specs.Grants.{is_granted}
use Rattle.merge_schema.specs.declared.publication.Publication.{Publication}
use Rattle.merge_schema.specs.declared.publication.Article.{Article}
use Rattle.merge_schema.specs.declared.publication.Identity.{Identity}
use Rattle.merge_schema.specs.Places.{article_at, is_subscription}
use Rattle.merge_batch.specs.declared.rules.BrokenRule.{BrokenRule}
use Rattle.merge_batch.specs.declared.request.Upload.{Upload}
use Rattle.merge_batch.specs.declared.request.UploadItem.{UploadItem}
use Rattle.merge_batch.specs.Search.{broken_by_message, broken_by_items, is_above}
use Rattle.merge_batch.specs.Makers.{maker_of}
use Rattle.merge_batch.specs.Known.{Known, received_of, received_number_of, seen_of}
use Rattle.merge_batch.specs.Articles.{row_values, fits_article}
use Rattle.merge_batch.specs.Lineages.{is_well_formed, has_pair_of, has_tops, knows_tops}

-- rule 1: the interval has a generation
abbrev pub has_generations : Upload → Bool
has_generations upload = nat_lt upload.from upload.to

-- rule 2: it has at most 100
abbrev pub has_few_generations : Upload → Bool
has_few_generations upload = nat_le (upload.to - upload.from) generation_limit

-- rule 3: there are at most 2,000 items
abbrev pub has_few_items : Upload → Bool
has_few_items upload = nat_le (length upload.items) item_limit

-- rule 4: both numbers are below 2^62, and where the batch has generations that were not taken yet, the last change number does not fall
abbrev pub numbers_go_on : Known → Upload → Bool
numbers_go_on known upload =
    nat_lt upload.to number_limit
    && nat_lt upload.through number_limit
    && (nat_le upload.to (received_of known upload.site.0) || nat_le (received_number_of known upload.site.0) upload.through)

-- rule 5: the item is above the one before it, by article and row
abbrev pub row_of : UploadItem → ℕ × ℕ
row_of item = (item.article, item.row.0)

abbrev pub row_rises : Option UploadItem → UploadItem → Bool
row_rises before item = is_above (option_map row_of before) (row_of item)

-- rule 6: the article exists, and the cells and values of a live row fit it
abbrev pub row_fits : Publication → UploadItem → Bool
row_fits publication item = fits_article publication item.article item.version.body

-- rule 7: the lineage is well formed, and has a pair of the uploader
abbrev pub lineage_fits : Publication → Upload → UploadItem → Bool
lineage_fits publication upload item = is_well_formed publication item.version.lineage && has_pair_of upload.site.0 item.version.lineage

-- rule 8: the item's generation is one of the interval
abbrev pub is_in_interval : Upload → UploadItem → Bool
is_in_interval upload item = nat_lt upload.from item.generation && nat_le item.generation upload.to

-- rule 9: each top is a change of the publisher or of a subscription, and is known by the item's lineage
abbrev pub tops_are_known : Publication → UploadItem → Bool
tops_are_known publication item = has_tops publication item.version.body && knows_tops item.version.lineage item.version.body

-- rule 10: the row has a maker that the publisher can have heard of: a change of its own that it made, a change of the uploader, or a change of another subscription that was taken
abbrev pub maker_is_heard_of : Publication → Known → ℕ → Dot → Bool
maker_is_heard_of publication known uploader maker =
    if maker.site.0 == 0 then nat_le maker.number known.changes
    else is_subscription publication maker.site.0 && (maker.site.0 == uploader || nat_le maker.number (received_number_of known maker.site.0))

abbrev pub has_maker : Publication → Known → Upload → UploadItem → Bool
has_maker publication known upload item = option_map_or (maker_is_heard_of publication known upload.site.0) (maker_of item.row.0) false

-- rule 11: the lineage knows no change of the publisher that it did not make, and none of a third site that it never saw
abbrev pub was_seen : Known → ℕ → Dot → Bool
was_seen known uploader dot =
    if dot.site.0 == 0 then nat_le dot.number known.changes
    else dot.site.0 == uploader || nat_le dot.number (seen_of known dot.site.0)

abbrev pub lineage_is_honest : Known → Upload → UploadItem → Bool
lineage_is_honest known upload item = list_all (was_seen known upload.site.0) item.version.lineage

-- rule 12: the identity value of a live item lies in a range that was granted to the row's maker, and is that of the live row that the publisher holds
abbrev pub whole_number : Option Value → Option ℤ
whole_number (Some (Int number)) = Some number
whole_number _ = None

abbrev pub identity_at : Option Identity → List Value → Option ℤ
identity_at None values = None
identity_at (Some identity) values = whole_number (slice_get values identity.column)

abbrev pub identity_in : Body → Article → Option ℤ
identity_in (Live cells) article = identity_at article.identity (row_values cells)
identity_in (Dead top) article = None

-- the identity value of a row, none where it was deleted or its article has no identity column
abbrev pub identity_value : Publication → ℕ → Body → Option ℤ
identity_value publication place body = option_map_or (identity_in body) (article_at publication place) None

-- the value of an article was granted to the maker
abbrev pub was_granted_to : Known → ℕ → ℤ → Option Dot → Bool
was_granted_to known article value None = false
was_granted_to known article value (Some maker) = is_granted article maker.site.0 value known.grants

-- a value is that of a row, where one is held
abbrev pub is_kept : ℤ → Option ℤ → Bool
is_kept value None = true
is_kept value (Some held) = int_eq held value

abbrev pub identity_is_right : Publication → Known → UploadItem → Bool
identity_is_right publication known item =
    option_map_or (λ value. was_granted_to known item.article value (maker_of item.row.0) && is_kept value (known.identity item.article item.row.0))
    (identity_value publication item.article item.version.body) true

-- the rules of the message in order
abbrev pub upload_rules : Known → Upload → List (ℕ × Bool)
upload_rules known upload =
    (1, has_generations upload)
    ∷ (2, has_few_generations upload)
    ∷ (3, has_few_items upload)
    ∷ (4, numbers_go_on known upload)
    ∷ []

-- the rules of an item in order, held against the item before it
abbrev pub item_rules : Publication → Known → Upload → Option UploadItem → UploadItem → List (ℕ × Bool)
item_rules publication known upload before item =
    (5, row_rises before item)
    ∷ (6, row_fits publication item)
    ∷ (7, lineage_fits publication upload item)
    ∷ (8, is_in_interval upload item)
    ∷ (9, tops_are_known publication item)
    ∷ (10, has_maker publication known upload item)
    ∷ (11, lineage_is_honest known upload item)
    ∷ (12, identity_is_right publication known item)
    ∷ []

-- what an upload breaks: a rule of the message, else the first item that breaks a rule of items
unfoldable pub broken_by_upload : Publication → Known → Upload → Option BrokenRule
broken_by_upload publication known upload =
    option_or (broken_by_message (upload_rules known upload)) (broken_by_items (item_rules publication known upload) upload.items)
