-- Rows of both kinds of site as bytes.
use Rattle.std.specs.Prelude.{◌≡◌, ℕ, ◌<◌, ◌^◌, ◌&&◌, Bool, true, nat_lt, List, [], ◌∷◌, ◌++◌, length}
use Rattle.std.specs.Int.{w64, to_be_bytes}
use Rattle.merge_units.specs.declared.version.Version.{Version}
use Rattle.merge_units.specs.declared.site_row.PublisherRow.{PublisherRow}
use Rattle.merge_units.specs.declared.site_row.SubscriberRow.{SubscriberRow}
use Rattle.merge_record.specs.Reading.{Reader, both_at, counted_at, number_at, tested_at}
use Rattle.merge_record.specs.Codec.{counted_bytes, AreCounted, IsBelow}
use Rattle.merge_record.specs.Versions.{version_at, version_bytes, IsVersion, IsShortVersion}

-- ---- at the publisher: the version, and the generation of the last change

abbrev pub version_changed : Version → ℕ → PublisherRow
version_changed version changed = record { version = version; changed = changed }

unfoldable pub publisher_row_at : Reader PublisherRow
publisher_row_at bytes = both_at version_changed version_at (number_at w64) bytes

abbrev pub publisher_row_bytes : PublisherRow → List ℕ
publisher_row_bytes row = version_bytes row.version ++ to_be_bytes w64 row.changed

abbrev pub IsPublisherRow : PublisherRow → Type 0
IsPublisherRow row = IsVersion row.version × (row.changed < 2 ^ 64)

abbrev pub IsShortPublisherRow : PublisherRow → Type 0
IsShortPublisherRow row = IsShortVersion row.version

-- ---- at a subscriber: the version, and the generations, which ascend

-- each number is above the one before it, and the first above this one
abbrev pub ascend_behind : ℕ → List ℕ → Bool
ascend_behind last [] = true
ascend_behind last (number ∷ numbers) = nat_lt last number && ascend_behind number numbers

abbrev pub numbers_ascend : List ℕ → Bool
numbers_ascend [] = true
numbers_ascend (number ∷ numbers) = ascend_behind number numbers

unfoldable pub generations_at : Reader (List ℕ)
generations_at bytes = tested_at numbers_ascend (counted_at w64 (number_at w64)) bytes

abbrev pub version_generations : Version → List ℕ → SubscriberRow
version_generations version generations = record { version = version; generations = generations }

unfoldable pub subscriber_row_at : Reader SubscriberRow
subscriber_row_at bytes = both_at version_generations version_at generations_at bytes

abbrev pub subscriber_row_bytes : SubscriberRow → List ℕ
subscriber_row_bytes row = version_bytes row.version ++ counted_bytes w64 (to_be_bytes w64) row.generations

abbrev pub AreGenerations : List ℕ → Type 0
AreGenerations generations = AreCounted (2 ^ 64) (IsBelow (2 ^ 64)) generations × (numbers_ascend generations ≡ true)

abbrev pub IsSubscriberRow : SubscriberRow → Type 0
IsSubscriberRow row = IsVersion row.version × AreGenerations row.generations

abbrev pub IsShortSubscriberRow : SubscriberRow → Type 0
IsShortSubscriberRow row = IsShortVersion row.version × (numbers_ascend row.generations ≡ true)
