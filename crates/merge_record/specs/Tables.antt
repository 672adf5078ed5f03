-- The keys of the tables as bytes, and the values of mappings, ranges and subscriptions.
use Rattle.std.specs.Prelude.{◌≡◌, ℕ, ℤ, ◌<◌, ◌≤◌, ◌^◌, FitsSigned, Bool, nat_le, zero, suc, List, [], ◌∷◌, ◌++◌, length, Some, None, true}
use Rattle.std.specs.Int.{w8, w16, w64, w128, to_be_bytes}
use Rattle.merge_types.specs.declared.row_key.RowKey.{RowKey}
use Rattle.merge_gens.specs.declared.moves.RowSite.{RowSite}
use Rattle.merge_gens.specs.declared.moves.MoveKind.{MoveKind}
use Rattle.merge_gens.specs.declared.moves.MoveKind.TheVariants.{Entered, Left}
use Rattle.merge_gens.specs.declared.moves.Mapping.{Mapping}
use Rattle.merge_gens.specs.declared.sites.SiteState.{SiteState}
use Rattle.merge_ident.specs.declared.grants.Range.{Range}
use Rattle.merge_record.specs.declared.ranges.GrantKey.{GrantKey}
use Rattle.merge_record.specs.declared.ranges.HeldRanges.{HeldRanges}
use Rattle.merge_record.specs.Reading.{Reader, both_at, pair_at, counted_at, number_at, signed_at, tested_at}
use Rattle.merge_record.specs.Codec.{counted_bytes, signed_bytes, AreCounted}

-- ---- rows: the article in one byte, and the identifier in sixteen

abbrev pub article_row : ℕ → ℕ → RowKey
article_row article row = record { article = article; row = record { 0 = row } }

unfoldable pub row_key_at : Reader RowKey
row_key_at bytes = both_at article_row (number_at w8) (number_at w128) bytes

abbrev pub row_key_bytes : RowKey → List ℕ
row_key_bytes key = to_be_bytes w8 key.article ++ to_be_bytes w128 key.row.0

abbrev pub IsRowKey : RowKey → Type 0
IsRowKey key = (key.article < 2 ^ 8) × (key.row.0 < 2 ^ 128)

-- ---- rows and sites: the row, and the site in two bytes

abbrev pub key_site : RowKey → ℕ → RowSite
key_site key site = record { key = key; site = site }

unfoldable pub row_site_at : Reader RowSite
row_site_at bytes = both_at key_site row_key_at (number_at w16) bytes

abbrev pub row_site_bytes : RowSite → List ℕ
row_site_bytes place = row_key_bytes place.key ++ to_be_bytes w16 place.site

abbrev pub IsRowSite : RowSite → Type 0
IsRowSite place = IsRowKey place.key × (place.site < 2 ^ 16)

-- ---- mappings: 1 where the row entered and 2 where it left, and the generation

unfoldable pub kind_at : Reader MoveKind
kind_at (suc zero ∷ rest) = Some (Entered, rest)
kind_at (suc (suc zero) ∷ rest) = Some (Left, rest)
kind_at bytes = None

abbrev pub kind_number : MoveKind → ℕ
kind_number Entered = 1
kind_number Left = 2

abbrev pub kind_bytes : MoveKind → List ℕ
kind_bytes kind = kind_number kind ∷ []

abbrev pub kind_generation : MoveKind → ℕ → Mapping
kind_generation kind generation = record { kind = kind; generation = generation }

unfoldable pub mapping_at : Reader Mapping
mapping_at bytes = both_at kind_generation kind_at (number_at w64) bytes

abbrev pub mapping_bytes : Mapping → List ℕ
mapping_bytes mapping = kind_bytes mapping.kind ++ to_be_bytes w64 mapping.generation

abbrev pub IsMapping : Mapping → Type 0
IsMapping mapping = Unit {0} × (mapping.generation < 2 ^ 64)

-- ---- grants: article, site and number; and a begin and an end

abbrev pub grant_key_of : ℕ → ℕ × ℕ → GrantKey
grant_key_of article rest = record { article = article; site = record { 0 = rest.0 }; number = rest.1 }

unfoldable pub grant_key_at : Reader GrantKey
grant_key_at bytes = both_at grant_key_of (number_at w8) (pair_at (number_at w16) (number_at w64)) bytes

abbrev pub grant_key_bytes : GrantKey → List ℕ
grant_key_bytes key = to_be_bytes w8 key.article ++ (to_be_bytes w16 key.site.0 ++ to_be_bytes w64 key.number)

abbrev pub IsGrantKey : GrantKey → Type 0
IsGrantKey key = (key.article < 2 ^ 8) × ((key.site.0 < 2 ^ 16) × (key.number < 2 ^ 64))

abbrev pub begin_end : ℤ → ℤ → Range
begin_end begin end = record { begin = begin; end = end }

unfoldable pub range_at : Reader Range
range_at bytes = both_at begin_end (signed_at w64) (signed_at w64) bytes

abbrev pub range_bytes : Range → List ℕ
range_bytes range = signed_bytes w64 range.begin ++ signed_bytes w64 range.end

abbrev pub IsRange : Range → Type 0
IsRange range = FitsSigned w64 range.begin × FitsSigned w64 range.end

-- ---- ranges that are held: how many were received, the end of the last one, at most two ranges, and the next value

abbrev pub at_most_two : List Range → Bool
at_most_two ranges = nat_le (length ranges) 2

unfoldable pub ranges_at : Reader (List Range)
ranges_at bytes = tested_at at_most_two (counted_at w8 range_at) bytes

abbrev pub held_of : ℕ → ℤ × (List Range × ℤ) → HeldRanges
held_of have rest = record { have = have; last_end = rest.0; ranges = rest.1.0; next = rest.1.1 }

unfoldable pub held_at : Reader HeldRanges
held_at bytes = both_at held_of (number_at w64) (pair_at (signed_at w64) (pair_at ranges_at (signed_at w64))) bytes

abbrev pub held_bytes : HeldRanges → List ℕ
held_bytes held = to_be_bytes w64 held.have ++ (signed_bytes w64 held.last_end ++ (counted_bytes w8 range_bytes held.ranges ++ signed_bytes w64 held.next))

abbrev pub AreRanges : List Range → Type 0
AreRanges ranges = AreCounted (2 ^ 8) IsRange ranges × (at_most_two ranges ≡ true)

abbrev pub IsHeld : HeldRanges → Type 0
IsHeld held = (held.have < 2 ^ 64) × (FitsSigned w64 held.last_end × (AreRanges held.ranges × FitsSigned w64 held.next))

abbrev pub IsShortHeld : HeldRanges → Type 0
IsShortHeld held = length held.ranges ≤ 2

-- ---- subscriptions: six numbers

abbrev pub site_state_of : ℕ → ℕ × (ℕ × (ℕ × (ℕ × ℕ))) → SiteState
site_state_of joined_at rest = record { joined_at = joined_at; received = rest.0; received_number = rest.1.0; seen = rest.1.1.0; watermark = rest.1.1.1.0; last_sync = rest.1.1.1.1 }

unfoldable pub site_state_at : Reader SiteState
site_state_at bytes = both_at site_state_of (number_at w64) (pair_at (number_at w64) (pair_at (number_at w64) (pair_at (number_at w64) (pair_at (number_at w64) (number_at w64))))) bytes

abbrev pub site_state_bytes : SiteState → List ℕ
site_state_bytes state = to_be_bytes w64 state.joined_at ++ (to_be_bytes w64 state.received ++ (to_be_bytes w64 state.received_number ++ (to_be_bytes w64 state.seen ++ (to_be_bytes w64 state.watermark ++ to_be_bytes w64 state.last_sync))))

abbrev pub IsSiteState : SiteState → Type 0
IsSiteState state = (state.joined_at < 2 ^ 64) × ((state.received < 2 ^ 64) × ((state.received_number < 2 ^ 64) × ((state.seen < 2 ^ 64) × ((state.watermark < 2 ^ 64) × (state.last_sync < 2 ^ 64)))))
