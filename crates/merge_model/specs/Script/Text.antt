-- The texts of answers. A line is words with a blank between each two, and a line feed.
use Rattle.std.specs.Prelude.{ℕ, suc, ℤ, List, [], ◌∷◌, ◌++◌, length, map, sum_by, codes, slice_get, Option, Some, None, option_map}
use Rattle.std.specs.List.{flat_map}
use Rattle.std.specs.Fmt.{decimal, signed_decimal}
use Rattle.merge_types.specs.Literal.{printed}
use Rattle.merge_types.specs.Rows.{row_text}
use Rattle.merge_units.specs.declared.version.Cell.{Cell}
use Rattle.merge_units.specs.declared.version.Body.{Body}
use Rattle.merge_units.specs.declared.version.Body.TheVariants.{Live, Dead}
use Rattle.merge_gens.specs.declared.filling.Filling.{Filling}
use Rattle.merge_gens.specs.declared.sites.SiteState.{SiteState}
use Rattle.merge_gens.specs.declared.sites.Marks.{Marks}
use Rattle.merge_ident.specs.declared.grants.Grant.{Grant}
use Rattle.merge_ident.specs.Holders.{Received, next_of}
use Rattle.merge_conflict.specs.Kinds.{number_of_kind}
use Rattle.merge_conflict.specs.declared.row.ConflictRow.{ConflictRow}
use Rattle.merge_conflict.specs.declared.row.Verdict.{Verdict}
use Rattle.merge_conflict.specs.declared.row.Verdict.TheVariants.{Publisher, Subscriber, Custom, Purged as PurgedRow, Discarded as DiscardedRow}
use Rattle.merge_model.specs.declared.answer.Answer.{Answer}
use Rattle.merge_model.specs.declared.answer.Answer.TheVariants.{Now, RowMade, Fine, ClosedAt, Done, Stopped, Sent, Nothing, Applied, Ignored, NoMessage, Discarded, Purged, Rows, Partition, Counts, Conflicts, Grants, Held, OfPublisher, OfSubscriber, Refused, RefusedIn}
use Rattle.merge_model.specs.declared.answer.HeldRanges.{HeldRanges}
use Rattle.merge_model.specs.declared.answer.ShownRow.{ShownRow}
use Rattle.merge_model.specs.declared.answer.SiteStanding.{SiteStanding}
use Rattle.merge_types.specs.declared.row_key.RowKey.{RowKey as Key}
use Rattle.merge_batch.specs.declared.refusal.Refusal.{Refusal}
use Rattle.merge_batch.specs.declared.refusal.Refusal.TheVariants.{UnknownSite, Expired, Stale, Gap, BadBatch, WrongWatermark, StoreFault, NoRow, WrongType, RowTooLong, IdentityUsedUp, TooManyRows, IdentityColumn, Damaged, Joining, CounterEnd, NotJoined, UnknownName, NoMemory}

-- the names of articles and of their columns, by their places
pub record Names : Type 0 where
  pub article : ℕ → List ℕ
  pub column : ℕ → ℕ → List ℕ

-- words with a blank between each two
abbrev pub joined_words : List (List ℕ) → List ℕ
joined_words [] = []
joined_words (word ∷ []) = word
joined_words (word ∷ next ∷ more) = word ++ 32 ∷ joined_words (next ∷ more)

abbrev pub line : List (List ℕ) → List ℕ
line words = joined_words words ++ 10 ∷ []

-- how many there are of what was told
abbrev pub count_line : List ℕ → ℕ → List ℕ
count_line what count = line (what ∷ decimal count ∷ [])

-- Refusals.

-- the number and the words of a refusal, with a column by what it is called. No step of a script is refused for a damaged record
abbrev pub refusal_words : (ℕ → List ℕ) → Refusal → List (List ℕ)
refusal_words column (UnknownSite site) = codes "refused 1 unknown site" ∷ decimal site.0 ∷ []
refusal_words column (Expired last_sync now) = codes "refused 2 expired" ∷ decimal last_sync.0 ∷ decimal now.0 ∷ []
refusal_words column (Stale seq joined_at) = codes "refused 3 stale" ∷ decimal seq ∷ decimal joined_at ∷ []
refusal_words column (Gap from received) = codes "refused 4 gap" ∷ decimal from ∷ decimal received ∷ []
refusal_words column (BadBatch item rule) = codes "refused 5 bad batch" ∷ decimal item ∷ decimal rule ∷ []
refusal_words column (WrongWatermark from last) = codes "refused 6 wrong watermark" ∷ decimal from ∷ decimal last ∷ []
refusal_words column StoreFault = codes "refused 7 store fault" ∷ []
refusal_words column NoRow = codes "refused 8 no row" ∷ []
refusal_words column (WrongType place) = codes "refused 9 wrong type" ∷ column place ∷ []
refusal_words column (RowTooLong length) = codes "refused 10 row too long" ∷ decimal length ∷ []
refusal_words column (IdentityUsedUp end) = codes "refused 11 identity used up" ∷ signed_decimal end ∷ []
refusal_words column (TooManyRows count) = codes "refused 12 too many rows" ∷ decimal count ∷ []
refusal_words column (IdentityColumn place) = codes "refused 13 identity column" ∷ column place ∷ []
refusal_words column (Damaged table key) = codes "refused 14 damaged" ∷ decimal table ∷ []
refusal_words column Joining = codes "refused 15 joining" ∷ []
refusal_words column (CounterEnd value) = codes "refused 16 counter end" ∷ decimal value ∷ []
refusal_words column NotJoined = codes "refused 17 not joined" ∷ []
refusal_words column (UnknownName name) = codes "refused 18 name" ∷ name ∷ []
refusal_words column NoMemory = codes "no memory" ∷ []

-- Reports.

-- a row's identifier, and its values
abbrev pub row_line : ShownRow → List ℕ
row_line row = line (row_text row.row.0 ∷ map printed row.values)

abbrev pub rows_text : List ShownRow → List ℕ
rows_text rows = flat_map row_line rows ++ count_line (codes "rows") (length rows)

abbrev pub member_line : Names → Key → List ℕ
member_line names row = line (names.article row.article ∷ row_text row.row.0 ∷ [])

abbrev pub partition_text : Names → List Key → List ℕ
partition_text names rows = flat_map (member_line names) rows ++ count_line (codes "rows") (length rows)

-- the live rows of each article, of which the first has this place
abbrev pub counts_from : Names → ℕ → List ℕ → List ℕ
counts_from names article [] = []
counts_from names article (count ∷ more) = count_line (names.article article) count ++ counts_from names (suc article) more

abbrev pub cell_words : Cell → List (List ℕ)
cell_words cell = map printed cell.values

abbrev pub body_words : Body → List (List ℕ)
body_words (Live cells) = codes "live" ∷ flat_map cell_words cells
body_words (Dead top) = codes "dead" ∷ []

abbrev pub verdict_text : Verdict → List ℕ
verdict_text Publisher = codes "publisher"
verdict_text Subscriber = codes "subscriber"
verdict_text Custom = codes "custom"
verdict_text PurgedRow = codes "purged"
verdict_text DiscardedRow = codes "discarded"

abbrev pub conflict_line : Names → ConflictRow → List ℕ
conflict_line names row =
    line (
    decimal row.number
    ∷ names.article row.article
    ∷ row_text row.row.0
    ∷ decimal (number_of_kind row.kind)
    ∷ decimal row.from.0
    ∷ verdict_text row.verdict
    ∷ decimal row.moment.0
    ∷ body_words row.losing.body)

abbrev pub conflicts_text : Names → List ConflictRow → List ℕ
conflicts_text names rows = flat_map (conflict_line names) rows ++ count_line (codes "conflicts") (length rows)

abbrev pub grant_line : Names → Grant → List ℕ
grant_line names grant =
    line (
    names.article grant.article
    ∷ decimal grant.site.0
    ∷ decimal grant.number
    ∷ signed_decimal grant.range.begin
    ∷ signed_decimal grant.range.end
    ∷ [])

abbrev pub grants_text : Names → List Grant → List ℕ
grants_text names grants = flat_map (grant_line names) grants ++ count_line (codes "ranges") (length grants)

-- two numbers of a range, or `-` for each where there is none
abbrev pub number_words : Option (ℤ × ℤ) → List (List ℕ)
number_words (Some numbers) = signed_decimal numbers.0 ∷ signed_decimal numbers.1 ∷ []
number_words None = codes "-" ∷ codes "-" ∷ []

-- the next value of a range and its end
abbrev pub next_and_end : Received → ℤ × ℤ
next_and_end received = (next_of received, received.range.end)

abbrev pub begin_and_end : Received → ℤ × ℤ
begin_and_end received = (received.range.begin, received.range.end)

abbrev pub holder_line : Names → HeldRanges → List ℕ
holder_line names holder =
    line (
    names.article holder.article
    ∷ decimal holder.ranges.have
    ∷ number_words (option_map next_and_end (slice_get holder.ranges.held 0))
    ++ number_words (option_map begin_and_end (slice_get holder.ranges.held 1)))

-- how many ranges are held
abbrev pub held_count : HeldRanges → ℕ
held_count holder = length holder.ranges.held

abbrev pub holders_text : Names → List HeldRanges → List ℕ
holders_text names holders = flat_map (holder_line names) holders ++ count_line (codes "ranges") (sum_by held_count holders)

-- the last closed generation, and how many entries the open one has
abbrev pub filling_words : ℕ → ℕ → List (List ℕ)
filling_words closed filled = codes "closed" ∷ decimal closed ∷ codes "open" ∷ decimal filled ∷ []

abbrev pub state_words : Option SiteState → List (List ℕ)
state_words None = codes "fresh" ∷ []
state_words (Some state) =
    codes "joined" ∷ decimal state.joined_at
    ∷ codes "received" ∷ decimal state.received
    ∷ codes "number" ∷ decimal state.received_number
    ∷ codes "watermark" ∷ decimal state.watermark
    ∷ codes "synced" ∷ decimal state.last_sync
    ∷ []

abbrev pub subscription_line : SiteStanding → List ℕ
subscription_line standing = line (decimal standing.site.0 ∷ state_words standing.state)

abbrev pub publisher_text : Filling → ℕ → List SiteStanding → List ℕ
publisher_text filling kept sites =
    line (filling_words filling.last_closed filling.filled ++ codes "kept" ∷ decimal kept ∷ []) ++ flat_map subscription_line sites

abbrev pub subscriber_text : Marks → ℕ → List ℕ
subscriber_text marks unsent =
    line (
    filling_words marks.closed marks.filled
    ++ codes "received" ∷ decimal marks.received
    ∷ codes "watermark" ∷ decimal marks.watermark
    ∷ codes "seq" ∷ decimal marks.seq
    ∷ codes "outstanding" ∷ decimal marks.outstanding
    ∷ codes "unsent" ∷ decimal unsent
    ∷ [])

-- the text of an answer. Only a local change is refused for a column, so another refusal has its place
abbrev pub text_of : Names → Answer → List ℕ
text_of names (Now moment) = line (codes "now" ∷ decimal moment ∷ [])
text_of names (RowMade row) = line (codes "row" ∷ row_text row.0 ∷ [])
text_of names Fine = line (codes "ok" ∷ [])
text_of names (ClosedAt generation) = line (codes "closed" ∷ decimal generation ∷ [])
text_of names (Done uploads downloads watermark) = line (codes "done" ∷ decimal uploads ∷ decimal downloads ∷ decimal watermark ∷ [])
text_of names (Stopped uploads downloads refusal) = line (codes "stopped" ∷ decimal uploads ∷ decimal downloads ∷ refusal_words decimal refusal)
text_of names (Sent number) = line (codes "message" ∷ decimal number ∷ [])
text_of names Nothing = line (codes "nothing" ∷ [])
text_of names Applied = line (codes "applied" ∷ [])
text_of names (Ignored seq outstanding) = line (codes "ignored" ∷ decimal seq ∷ decimal outstanding ∷ [])
text_of names (NoMessage number) = line (codes "no message" ∷ decimal number ∷ [])
text_of names (Discarded rows) = line (codes "discarded" ∷ decimal rows ∷ [])
text_of names (Purged tombstones mappings generations) = line (codes "purged" ∷ decimal tombstones ∷ decimal mappings ∷ decimal generations ∷ [])
text_of names (Rows rows) = rows_text rows
text_of names (Partition rows) = partition_text names rows
text_of names (Counts counts) = counts_from names 0 counts
text_of names (Conflicts rows) = conflicts_text names rows
text_of names (Grants grants) = grants_text names grants
text_of names (Held holders) = holders_text names holders
text_of names (OfPublisher filling kept sites) = publisher_text filling kept sites
text_of names (OfSubscriber marks unsent) = subscriber_text marks unsent
text_of names (Refused refusal) = line (refusal_words decimal refusal)
text_of names (RefusedIn article refusal) = line (refusal_words (names.column article) refusal)

-- the texts of answers, one behind the other
abbrev pub texts_of : Names → List Answer → List ℕ
texts_of names answers = flat_map (text_of names) answers
