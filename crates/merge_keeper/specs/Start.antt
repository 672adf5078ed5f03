-- What a start makes of a store: the tables, or the key of the first entry that breaks a rule.
use Rattle.std.specs.Prelude.{◌≡◌, ℕ, ℤ, pos, ◌+◌, int_le, int_lt, unwrap_or, filter_map, take, drop, Bool, true, false, if◌then◌else◌, nat_lt, nat_le, count_by, ◌==◌, ◌&&◌, ◌||◌, not, ◌⊎◌, List, [], ◌∷◌, ◌++◌, map, length, Option, Some, None, Result, Ok, Err}
use Rattle.std.specs.Int.{w64}
use Rattle.std.specs.List.{list_all, position_or_len}
use Rattle.std.specs.Ordering.{int_eq}
use Rattle.std.specs.Option.{option_map, option_map_or}
use Rattle.merge_types.specs.declared.identifiers.Dot.{Dot}
use Rattle.merge_types.specs.Limits.{number_limit}
use Rattle.merge_types.specs.declared.row_key.RowKey.{RowKey}
use Rattle.merge_lineage.specs.Lineage.{number_of}
use Rattle.merge_units.specs.declared.version.Cell.{Cell}
use Rattle.merge_units.specs.declared.version.Body.{Body}
use Rattle.merge_units.specs.declared.version.Body.TheVariants.{Live, Dead}
use Rattle.merge_units.specs.declared.version.Version.{Version}
use Rattle.merge_schema.specs.declared.publication.Publication.{Publication}
use Rattle.merge_schema.specs.declared.publication.Identity.{Identity}
use Rattle.merge_schema.specs.Places.{article_at}
use Rattle.merge_ident.specs.declared.grants.Range.{Range}
use Rattle.merge_ident.specs.Holders.{Holder, held_from}
use Rattle.merge_batch.specs.Articles.{fits_article}
use Rattle.merge_batch.specs.Lineages.{is_site, knows_tops}
use Rattle.merge_batch.specs.Makers.{maker_of}
use Rattle.merge_ports.specs.declared.entry.EntryKey.{EntryKey}
use Rattle.merge_ports.specs.Entries.{Map}
use Rattle.merge_conflict.specs.Kinds.{kind_of_number}
use Rattle.merge_conflict.specs.declared.kind.ConflictKind.{ConflictKind}
use Rattle.merge_conflict.specs.declared.row.ConflictRow.{ConflictRow}
use Rattle.merge_ident.specs.declared.grants.Grant.{Grant}
use Rattle.merge_record.specs.Reading.{◌>>=◌, Reader, number_at, whole_of}
use Rattle.merge_record.specs.Tables.{grant_key_at, range_at}
use Rattle.merge_record.specs.declared.ranges.GrantKey.{GrantKey}
use Rattle.merge_keeper.specs.declared.states.ConflictValue.{ConflictValue}
use Rattle.merge_keeper.specs.States.{conflict_at}
use Rattle.merge_record.specs.declared.ranges.HeldRanges.{HeldRanges}
use Rattle.merge_keeper.specs.declared.start.StartFault.{StartFault}
use Rattle.merge_keeper.specs.declared.start.StartFault.TheVariants.{Damaged, NoMemory}

-- ---- one pass, of whatever tables

-- the record of an entry, whether it keeps the rules where these tables hold those before it, and the tables with it
pub record Loading (T R : Type 0) : Type 0 where
  pub reading : EntryKey × List ℕ → Option R
  pub is_sound : T → R → Bool
  pub with_record : T → R → T

-- each member stands so behind those in front of it
abbrev pub KeepOneByOne : {X : Type 0} → (List X → X → Type 0) → List X → List X → Type 0
KeepOneByOne P front [] = Unit {0}
KeepOneByOne P front (x ∷ xs) = P front x × KeepOneByOne P (front ++ x ∷ []) xs

abbrev pub Loaded : Type 0 → Type 0
Loaded T = Result T EntryKey

-- an entry is named where it has no reading, and where its record breaks a rule
abbrev pub go_on : {T R : Type 0} → Loading T R → (T → Loaded T) → T → EntryKey → Option R → Loaded T
go_on l next t key None = Err key
go_on l next t key (Some r) = if l.is_sound t r then next (l.with_record t r) else Err key

abbrev pub loaded_behind : {T R : Type 0} → Loading T R → T → Map → Loaded T
loaded_behind l t [] = Ok t
loaded_behind l t (e ∷ es) = go_on l (λ next. loaded_behind l next es) t e.0 (l.reading e)

-- one entry
abbrev pub one_loaded : {T R : Type 0} → Loading T R → T → EntryKey × List ℕ → Loaded T
one_loaded l t e = go_on l (λ next. Ok next) t e.0 (l.reading e)

-- an entry that has no reading, or breaks a rule behind those before it
abbrev pub IsBroken : {T R : Type 0} → Loading T R → T → EntryKey × List ℕ → Type 0
IsBroken {R = R} l t e = (l.reading e ≡ None) ⊎ ((r : R) × (l.reading e ≡ Some r) × (l.is_sound t r ≡ false))

-- the entry that is named is broken, and those before it load
abbrev pub IsFirstBroken : {T R : Type 0} → Loading T R → T → Map → EntryKey → Type 0
IsFirstBroken {T = T} l t es key = (front rest : Map) × (value : List ℕ) × (now : T) × (es ≡ front ++ (key, value) ∷ rest) × (loaded_behind l t front ≡ Ok now) × IsBroken l now (key, value)

-- the tables or the key, or memory ran out
abbrev pub Gives : {X T : Type 0} → (X → T) → Result X StartFault → Result T EntryKey → Type 0
Gives view (Ok x) l = l ≡ Ok (view x)
Gives view (Err (Damaged key)) l = l ≡ Err key
Gives view (Err NoMemory) l = Unit {0}

-- ---- readings

-- a key and a value, all bytes of both
abbrev pub pair_reading : {K V : Type 0} → Reader K → Reader V → List ℕ → List ℕ → Option (K × V)
pair_reading key_at value_at key value = whole_of (key_at key) >>= λ k. whole_of (value_at value) >>= λ v. Some (k, v)

-- ---- rules on versions, which rows and conflicts share

abbrev pub dot_site_is_known : Publication → Dot → Bool
dot_site_is_known publication dot = is_site publication dot.site.0

abbrev pub cell_site_is_known : Publication → Cell → Bool
cell_site_is_known publication cell = is_site publication cell.top.site.0

-- each change that last set a cell, or deleted the row, is of a site of the publication
abbrev pub top_sites_are_known : Publication → Body → Bool
top_sites_are_known publication (Live cells) = list_all (cell_site_is_known publication) cells
top_sites_are_known publication (Dead top) = is_site publication top.site.0

-- the article, the sites, the cells and the types of values fit the publication, and tops are known
unfoldable pub version_is_sound : Publication → ℕ → Version → Bool
version_is_sound publication article version =
    fits_article publication article version.body
    && list_all (dot_site_is_known publication) version.lineage
    && top_sites_are_known publication version.body
    && knows_tops version.lineage version.body

-- a change is none that this site has yet to make
abbrev pub was_made : ℕ → ℕ → Dot → Bool
was_made site changes dot = not (dot.site.0 == site) || nat_le dot.number changes

-- neither the lineage nor the maker of a row has a change that this site has yet to make
unfoldable pub row_was_made : ℕ → ℕ → RowKey → Version → Bool
row_was_made site changes key version =
    nat_le (number_of version.lineage site) changes && option_map_or (was_made site changes) (maker_of key.row.0) true

-- ---- rules on generations and counters

abbrev pub is_counter : ℕ → Bool
is_counter number = nat_lt number number_limit

-- ---- rules on ranges

abbrev pub identity_at : Publication → ℕ → Option Identity
identity_at publication place = article_at publication place >>= λ article. article.identity

abbrev pub has_values : Range → Bool
has_values range = int_le range.begin range.end

-- each range has values, and the next value lies in the first one, and is 0 where there is none
abbrev pub is_next_in : List Range → ℤ → Bool
is_next_in [] next = int_eq next (pos 0)
is_next_in (first ∷ rest) next = int_le first.begin next && int_le next first.end

unfoldable pub are_kept : List Range → ℤ → Bool
are_kept ranges next = nat_le (length ranges) 2 && list_all has_values ranges && is_next_in ranges next

abbrev pub same_range : Range → Range → Bool
same_range a b = int_eq a.begin b.begin && int_eq a.end b.end

-- nothing is held, or the last of these alone
abbrev pub holds_last : Option Range → List Range → Bool
holds_last last [] = true
holds_last last (range ∷ []) = option_map_or (same_range range) last false
holds_last last (range ∷ next ∷ rest) = false

-- the holder of an article with the ranges of its record
abbrev pub holder_of : Identity → HeldRanges → Holder
holder_of identity held = record { threshold = identity.threshold; have = held.have; last_end = held.last_end; held = held_from held.ranges held.next }

-- whether a grant is of a lesser article, or of the same one and begins before
abbrev pub begins_before : Grant → Grant → Bool
begins_before grant other = nat_lt grant.article other.article || ((grant.article == other.article) && int_lt grant.range.begin other.range.begin)

-- the place of the first that a grant begins before, and else the end
abbrev pub place_by_begin : List Grant → Grant → ℕ
place_by_begin grants new = position_or_len (begins_before new) grants

-- and stands before it
abbrev pub insert_by_begin : List Grant → Grant → List Grant
insert_by_begin grants new = take (place_by_begin grants new) grants ++ new ∷ drop (place_by_begin grants new) grants

-- a value in place of the one at its number
abbrev pub replaced_at : {V : Type 0} → ℕ → V → ℕ × V → ℕ × V
replaced_at number value p = if p.0 == number then (number, value) else p

abbrev pub with_value_at : {V : Type 0} → List (ℕ × V) → ℕ → V → List (ℕ × V)
with_value_at ps number value = map (replaced_at number value) ps

-- the ranges that are held of all articles, with those of a record
abbrev pub with_held : Publication → List (ℕ × Holder) → ℕ → HeldRanges → List (ℕ × Holder)
with_held publication held article ranges = option_map_or (λ identity. with_value_at held article (holder_of identity ranges)) (identity_at publication article) held

-- ---- conflicts, and what the rules seek behind a record

abbrev pub row_of_kind : ℕ → ConflictValue → ConflictKind → ConflictRow
row_of_kind number value kind = record { number = number; article = value.head.article; row = value.head.row; kind = kind; losing = value.losing; from = value.head.from; verdict = value.head.verdict; moment = value.head.moment }

abbrev pub conflict_row : ℕ → ConflictValue → Option ConflictRow
conflict_row number value = option_map (row_of_kind number value) (kind_of_number value.head.kind)

abbrev pub conflict_reading : List ℕ → List ℕ → Option ConflictRow
conflict_reading key value = pair_reading (number_at w64) conflict_at key value >>= λ p. conflict_row p.0 p.1

-- the number of a conflict is one more than that of the one before it
unfoldable pub conflict_is_sound : Publication → ℕ → ℕ → ConflictRow → Bool
conflict_is_sound publication before counter row =
    (row.number == before + 1) && nat_le row.number counter && is_site publication row.from.0 && version_is_sound publication row.article row.losing

-- the number of the last conflict, by keys alone, and 0 where there is none
abbrev pub number_in : EntryKey → Option ℕ
number_in key = if key.table == 5 then whole_of (number_at w64 key.key) else None

abbrev pub last_conflict_behind : ℕ → Map → ℕ
last_conflict_behind last [] = last
last_conflict_behind last (e ∷ es) = last_conflict_behind (unwrap_or (number_in e.0) last) es

abbrev pub last_conflict : Map → ℕ
last_conflict es = last_conflict_behind 0 es

-- the range that an entry grants to the publisher itself, with its article
abbrev pub own_of : GrantKey × Range → Option (ℕ × Range)
own_of p = if p.0.site.0 == 0 then Some (p.0.article, p.1) else None

abbrev pub own_grant : EntryKey × List ℕ → Option (ℕ × Range)
own_grant e = if e.0.table == 6 then pair_reading grant_key_at range_at e.0.key e.1 >>= own_of else None

-- the publisher's own ranges, by article and number
abbrev pub own_grants : Map → List (ℕ × Range)
own_grants es = filter_map own_grant es

abbrev pub is_own : ℕ → ℕ × Range → Bool
is_own article own = own.0 == article

-- how many of them are of an article
abbrev pub own_count : ℕ → List (ℕ × Range) → ℕ
own_count article owns = count_by (is_own article) owns

-- and the last of these
abbrev pub last_own_behind : ℕ → Option Range → List (ℕ × Range) → Option Range
last_own_behind article last [] = last
last_own_behind article last (own ∷ owns) = last_own_behind article (if own.0 == article then Some own.1 else last) owns

abbrev pub last_own : ℕ → List (ℕ × Range) → Option Range
last_own article owns = last_own_behind article None owns
