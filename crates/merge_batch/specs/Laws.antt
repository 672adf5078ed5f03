-- What it means that a message is valid, and that a fault is the first one.
use Rattle.std.specs.Prelude.{◌≡◌, ℕ, zero, suc, ◌+◌, ◌<◌, ◌≤◌, Bool, true, List, length, slice_get, Option, Some, None, MatchOption, All, AllPairs, ◌↔◌}
use Rattle.merge_types.specs.Limits.{generation_limit, item_limit, number_limit}
use Rattle.merge_types.specs.declared.Dot.{Dot}
use Rattle.merge_types.specs.Rows.{IsMadeBy}
use Rattle.merge_units.specs.declared.version.Body.{Body}
use Rattle.merge_units.specs.Version.{KnowsItsTops, HaveEqualCounts}
use Rattle.merge_schema.specs.declared.publication.Publication.{Publication}
use Rattle.merge_schema.specs.declared.publication.Article.{Article}
use Rattle.merge_batch.specs.declared.rules.BrokenRule.{BrokenRule}
use Rattle.merge_batch.specs.declared.standing.Standing.{Standing}
use Rattle.merge_batch.specs.declared.request.Upload.{Upload}
use Rattle.merge_batch.specs.declared.request.UploadItem.{UploadItem}
use Rattle.merge_batch.specs.declared.reply.Downloaded.{Downloaded}
use Rattle.merge_batch.specs.declared.reply.DownloadItem.{DownloadItem}
use Rattle.merge_batch.specs.Search.{first_broken, broken_by_items, is_below}
use Rattle.merge_batch.specs.Makers.{maker_of}
use Rattle.merge_batch.specs.Known.{Known, received_of, received_number_of}
use Rattle.merge_batch.specs.Articles.{body_fits}
use Rattle.merge_batch.specs.Lineages.{has_tops}
use Rattle.merge_batch.specs.Uploads.{row_of, row_fits, lineage_fits, has_maker, lineage_is_honest, identity_is_right, item_rules, broken_by_upload}
use Rattle.merge_batch.specs.Replies.{act_fits, maker_fits, broken_by_download}
use Rattle.merge_batch.specs.Replies.{row_of as download_row, item_rules as download_rules}

-- the item before a place, where another item stands before them all
abbrev pub item_before : {X : Type 0} → Option X → List X → ℕ → Option X
item_before before items zero = before
item_before before items (suc k) = slice_get items k

-- each item meets its rules, held against the one before it
abbrev pub AllMet : {X : Type 0} → (Option X → X → List (ℕ × Bool)) → Option X → List X → Type 0
AllMet {X} rules before items = (k : ℕ) (x : X) → slice_get items k ≡ Some x → first_broken (rules (item_before before items k) x) ≡ None

-- the fault is a rule of the item at a place, the first rule that this item breaks, and each item before it meets its rules. Places count from a start
pub record IsFirst {X : Type 0} (rules : Option X → X → List (ℕ × Bool)) (start : ℕ) (before : Option X) (items : List X) (fault : BrokenRule) : Type 0 where
  pub at : ℕ
  pub item : X
  pub there : slice_get items at ≡ Some item
  pub counted : fault.item ≡ start + at
  pub broken : first_broken (rules (item_before before items at) item) ≡ Some fault.rule
  pub earlier : (k : ℕ) (x : X) → k < at → slice_get items k ≡ Some x → first_broken (rules (item_before before items k) x) ≡ None

-- the search over items finds the first that breaks a rule, and none just where each meets its rules
abbrev pub FindsFirst : {X : Type 0} → (Option X → X → List (ℕ × Bool)) → List X → Type 0
FindsFirst rules items = MatchOption (broken_by_items rules items) (AllMet rules None items) (IsFirst rules 1 None items)

abbrev pub FirstUploadItem : Type 0
FirstUploadItem = (publication : Publication) (known : Known) (upload : Upload) → FindsFirst (item_rules publication known upload) upload.items

abbrev pub FirstDownloadItem : Type 0
FirstDownloadItem = (publication : Publication) (own : Standing) (items : List DownloadItem) → FindsFirst (download_rules publication own) items

-- a row's maker is the change that its identifier carries
abbrev pub MakerIsCarried : Type 0
MakerIsCarried = (row : ℕ) (dot : Dot) → (maker_of row ≡ Some dot) ↔ IsMadeBy row dot.site.0 dot.number

-- what a valid item has
pub record IsValidItem (publication : Publication) (known : Known) (upload : Upload) (item : UploadItem) : Type 0 where
  pub fits : row_fits publication item ≡ true
  pub lineage : lineage_fits publication upload item ≡ true
  pub above_from : upload.from < item.generation
  pub up_to : item.generation ≤ upload.to
  pub tops : KnowsItsTops item.version
  pub made : has_tops publication item.version.body ≡ true
  pub maker : has_maker publication known upload item ≡ true
  pub honest : lineage_is_honest known upload item ≡ true
  pub identity : identity_is_right publication known item ≡ true

-- what a valid upload has, and what makes it valid: each row once, in order
pub record IsValidUpload (publication : Publication) (known : Known) (upload : Upload) : Type 0 where
  pub generations : upload.from < upload.to
  pub few_generations : upload.to ≤ upload.from + generation_limit
  pub few_items : length upload.items ≤ item_limit
  pub to_fits : upload.to < number_limit
  pub through_fits : upload.through < number_limit
  pub goes_on : received_of known upload.site.0 < upload.to → received_number_of known upload.site.0 ≤ upload.through
  pub rows_rise : AllPairs (λ (a b : UploadItem). is_below (row_of a) (row_of b) ≡ true) upload.items
  pub items : All (IsValidItem publication known upload) upload.items

abbrev pub ValidUpload : Type 0
ValidUpload = (publication : Publication) (known : Known) (upload : Upload) → (broken_by_upload publication known upload ≡ None) ↔ IsValidUpload publication known upload

-- what an item that fits has
pub record IsFittingItem (publication : Publication) (own : Standing) (item : DownloadItem) : Type 0 where
  pub act : act_fits publication own item.article item.act ≡ true
  pub maker : maker_fits own (maker_of item.row.0) ≡ true

-- what a reply to a download that fits has, and what makes it fit: each row once, in order
pub record IsFittingDownload (publication : Publication) (own : Standing) (from : ℕ) (downloaded : Downloaded) : Type 0 where
  pub begins : downloaded.from ≡ from
  pub forward : downloaded.from ≤ downloaded.to
  pub closed : downloaded.to ≤ downloaded.last
  pub last_fits : downloaded.last < number_limit
  pub few_generations : downloaded.to ≤ downloaded.from + generation_limit
  pub goes_on : downloaded.from < downloaded.last → downloaded.from < downloaded.to
  pub no_less : own.received ≤ downloaded.received
  pub no_more : downloaded.received ≤ own.closed
  pub few_items : length downloaded.items ≤ item_limit
  pub rows_rise : AllPairs (λ (a b : DownloadItem). is_below (download_row a) (download_row b) ≡ true) downloaded.items
  pub items : All (IsFittingItem publication own) downloaded.items

abbrev pub FittingDownload : Type 0
FittingDownload = (publication : Publication) (own : Standing) (from : ℕ) (downloaded : Downloaded) → (broken_by_download publication own from downloaded ≡ None) ↔ IsFittingDownload publication own from downloaded

-- two rows that fit one article have as many cells, where both live
abbrev pub EqualCounts : Type 0
EqualCounts = (article : Article) (ours theirs : Body) → body_fits ours article ≡ true → body_fits theirs article ≡ true → HaveEqualCounts ours theirs
