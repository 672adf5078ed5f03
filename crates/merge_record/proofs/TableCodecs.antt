-- Rows, keys and the values of the small tables are read as they are spelled.
use Rattle.std.proofs.Common.{◌≡◌, ℕ, ℤ, zero, suc, ◌^◌, ◌<◌, FitsSigned, List, [], ◌∷◌, ◌++◌, Option, Some, refl, subst}
use Rattle.std.specs.Int.{w8, w16, w64, w128, to_be_bytes}
use Rattle.merge_units.specs.declared.version.Version.{Version}
use Rattle.merge_gens.specs.declared.moves.MoveKind.{MoveKind}
use Rattle.merge_gens.specs.declared.moves.MoveKind.TheVariants.{Entered, Left}
use Rattle.merge_ident.specs.declared.grants.Range.{Range}
use Rattle.merge_record.specs.Reading.{number_at, signed_at, counted_at, pair_at}
use Rattle.merge_record.specs.Codec.{IsBytes, Takes, IsCodec, signed_bytes, counted_bytes, AreCounted, IsBelow}
use Rattle.merge_record.specs.Versions.{version_at, version_bytes, IsVersion}
use Rattle.merge_record.specs.Rows.{version_changed, publisher_row_at, publisher_row_bytes, IsPublisherRow, numbers_ascend, generations_at, AreGenerations, version_generations, subscriber_row_at, subscriber_row_bytes, IsSubscriberRow}
use Rattle.merge_record.specs.Tables.{article_row, row_key_at, row_key_bytes, IsRowKey, key_site, row_site_at, row_site_bytes, IsRowSite, kind_at, kind_bytes, kind_generation, mapping_at, mapping_bytes, IsMapping, grant_key_of, grant_key_at, grant_key_bytes, IsGrantKey, begin_end, range_at, range_bytes, IsRange, at_most_two, ranges_at, held_of, held_at, held_bytes, AreRanges, IsHeld, site_state_of, site_state_at, site_state_bytes, IsSiteState}
use Rattle.merge_record.proofs.Codecs.{both, paired, number, signed, wide8, wide16, wide64, counted_is, tested, some_is}
use Rattle.merge_record.proofs.Wide.{wide128}
use Rattle.merge_record.proofs.VersionCodecs.{version_is, bytes_rest}

pub num8 : IsCodec (to_be_bytes w8) (number_at w8) (IsBelow (2 ^ 8))
num8 = number w8 (2 ^ 8) wide8

pub num16 : IsCodec (to_be_bytes w16) (number_at w16) (IsBelow (2 ^ 16))
num16 = number w16 (2 ^ 16) wide16

pub num64 : IsCodec (to_be_bytes w64) (number_at w64) (IsBelow (2 ^ 64))
num64 = number w64 (2 ^ 64) wide64

int64 : IsCodec (signed_bytes w64) (signed_at w64) (FitsSigned w64)
int64 = signed w64 wide64

pub publisher_row_is : IsCodec publisher_row_bytes publisher_row_at IsPublisherRow
unfolding publisher_row_at
publisher_row_is = both version_bytes (to_be_bytes w64) version_at (number_at w64) IsVersion (IsBelow (2 ^ 64)) version_changed (λ r. r.version) (λ r. r.changed) (λ r. refl) (λ a b. refl) (λ a b. refl) version_is num64

generations_is : IsCodec (counted_bytes w64 (to_be_bytes w64)) generations_at AreGenerations
unfolding generations_at
generations_is = tested (counted_bytes w64 (to_be_bytes w64)) (counted_at w64 (number_at w64)) (AreCounted (2 ^ 64) (IsBelow (2 ^ 64))) numbers_ascend (counted_is w64 (2 ^ 64) wide64 (to_be_bytes w64) (number_at w64) (IsBelow (2 ^ 64)) num64)

pub subscriber_row_is : IsCodec subscriber_row_bytes subscriber_row_at IsSubscriberRow
unfolding subscriber_row_at
subscriber_row_is = both version_bytes (counted_bytes w64 (to_be_bytes w64)) version_at generations_at IsVersion AreGenerations version_generations (λ r. r.version) (λ r. r.generations) (λ r. refl) (λ a b. refl) (λ a b. refl) version_is generations_is

pub row_key_is : IsCodec row_key_bytes row_key_at IsRowKey
unfolding row_key_at
row_key_is = both (to_be_bytes w8) (to_be_bytes w128) (number_at w8) (number_at w128) (IsBelow (2 ^ 8)) (IsBelow (2 ^ 128)) article_row (λ k. k.article) (λ k. k.row.0) (λ k. refl) (λ a b. refl) (λ a b. refl) num8 (number w128 (2 ^ 128) wide128)

pub row_site_is : IsCodec row_site_bytes row_site_at IsRowSite
unfolding row_site_at
row_site_is = both row_key_bytes (to_be_bytes w16) row_key_at (number_at w16) IsRowKey (IsBelow (2 ^ 16)) key_site (λ p. p.key) (λ p. p.site) (λ p. refl) (λ a b. refl) (λ a b. refl) row_key_is num16

kind_takes : (bytes : List ℕ) → IsBytes bytes → (kind : MoveKind) (rest : List ℕ) → kind_at bytes ≡ Some (kind, rest) → Takes bytes (kind_bytes kind) rest × Unit {0}
unfolding kind_at
kind_takes [] bs kind rest e = absurd cc
kind_takes (zero ∷ bytes) bs kind rest e = absurd cc
kind_takes (suc zero ∷ bytes) bs kind rest e = subst (λ (z : MoveKind × List ℕ). Takes (1 ∷ bytes) (kind_bytes z.0) z.1 × Unit {0}) (some_is (Entered, bytes) (kind, rest) e) (record { parts = refl; rest_fits = bytes_rest 1 bytes bs }, tt)
kind_takes (suc (suc zero) ∷ bytes) bs kind rest e = subst (λ (z : MoveKind × List ℕ). Takes (2 ∷ bytes) (kind_bytes z.0) z.1 × Unit {0}) (some_is (Left, bytes) (kind, rest) e) (record { parts = refl; rest_fits = bytes_rest 2 bytes bs }, tt)
kind_takes (suc (suc (suc n)) ∷ bytes) bs kind rest e = absurd cc

kind_again : (kind : MoveKind) (rest : List ℕ) → Unit {0} → kind_at (kind_bytes kind ++ rest) ≡ Some (kind, rest)
unfolding kind_at
kind_again Entered rest h = refl
kind_again Left rest h = refl

kind_is : IsCodec kind_bytes kind_at (λ _. Unit {0})
kind_is = record { again = kind_again; takes = kind_takes }

pub mapping_is : IsCodec mapping_bytes mapping_at IsMapping
unfolding mapping_at
mapping_is = both kind_bytes (to_be_bytes w64) kind_at (number_at w64) (λ _. Unit {0}) (IsBelow (2 ^ 64)) kind_generation (λ m. m.kind) (λ m. m.generation) (λ m. refl) (λ a b. refl) (λ a b. refl) kind_is num64

pub grant_key_is : IsCodec grant_key_bytes grant_key_at IsGrantKey
unfolding grant_key_at
grant_key_is = both (to_be_bytes w8) (λ (p : ℕ × ℕ). to_be_bytes w16 p.0 ++ to_be_bytes w64 p.1) (number_at w8) (pair_at (number_at w16) (number_at w64)) (IsBelow (2 ^ 8)) (λ (p : ℕ × ℕ). IsBelow (2 ^ 16) p.0 × IsBelow (2 ^ 64) p.1)
    grant_key_of (λ k. k.article) (λ k. (k.site.0, k.number)) (λ k. refl) (λ a b. refl) (λ a b. refl) num8
    (paired (to_be_bytes w16) (to_be_bytes w64) (number_at w16) (number_at w64) (IsBelow (2 ^ 16)) (IsBelow (2 ^ 64)) num16 num64)

pub range_is : IsCodec range_bytes range_at IsRange
unfolding range_at
range_is = both (signed_bytes w64) (signed_bytes w64) (signed_at w64) (signed_at w64) (FitsSigned w64) (FitsSigned w64) begin_end (λ r. r.begin) (λ r. r.end) (λ r. refl) (λ a b. refl) (λ a b. refl) int64 int64

ranges_is : IsCodec (counted_bytes w8 range_bytes) ranges_at AreRanges
unfolding ranges_at
ranges_is = tested (counted_bytes w8 range_bytes) (counted_at w8 range_at) (AreCounted (2 ^ 8) IsRange) at_most_two (counted_is w8 (2 ^ 8) wide8 range_bytes range_at IsRange range_is)

pub held_is : IsCodec held_bytes held_at IsHeld
unfolding held_at
held_is = both (to_be_bytes w64) (λ (p : ℤ × (List Range × ℤ)). signed_bytes w64 p.0 ++ (counted_bytes w8 range_bytes p.1.0 ++ signed_bytes w64 p.1.1)) (number_at w64) (pair_at (signed_at w64) (pair_at ranges_at (signed_at w64)))
    (IsBelow (2 ^ 64)) (λ (p : ℤ × (List Range × ℤ)). FitsSigned w64 p.0 × (AreRanges p.1.0 × FitsSigned w64 p.1.1))
    held_of (λ h. h.have) (λ h. (h.last_end, (h.ranges, h.next))) (λ h. refl) (λ a b. refl) (λ a b. refl) num64
    (paired (signed_bytes w64) (λ (p : List Range × ℤ). counted_bytes w8 range_bytes p.0 ++ signed_bytes w64 p.1) (signed_at w64) (pair_at ranges_at (signed_at w64)) (FitsSigned w64) (λ (p : List Range × ℤ). AreRanges p.0 × FitsSigned w64 p.1) int64
    (paired (counted_bytes w8 range_bytes) (signed_bytes w64) ranges_at (signed_at w64) AreRanges (FitsSigned w64) ranges_is int64))

-- several numbers of eight bytes
two : IsCodec (λ (p : ℕ × ℕ). to_be_bytes w64 p.0 ++ to_be_bytes w64 p.1) (pair_at (number_at w64) (number_at w64)) (λ (p : ℕ × ℕ). (p.0 < 2 ^ 64) × (p.1 < 2 ^ 64))
two = paired (to_be_bytes w64) (to_be_bytes w64) (number_at w64) (number_at w64) (IsBelow (2 ^ 64)) (IsBelow (2 ^ 64)) num64 num64

one_more_is : {A : Type 0} (s : A → List ℕ) (r : List ℕ → Option (A × List ℕ)) (F : A → Type 0) → IsCodec s r F
    → IsCodec (λ (p : ℕ × A). to_be_bytes w64 p.0 ++ s p.1) (pair_at (number_at w64) r) (λ (p : ℕ × A). (p.0 < 2 ^ 64) × F p.1)
one_more_is s r F p = paired (to_be_bytes w64) s (number_at w64) r (IsBelow (2 ^ 64)) F num64 p

pub site_state_is : IsCodec site_state_bytes site_state_at IsSiteState
unfolding site_state_at
site_state_is = both (to_be_bytes w64) (λ (p : ℕ × (ℕ × (ℕ × (ℕ × ℕ)))). to_be_bytes w64 p.0 ++ (to_be_bytes w64 p.1.0 ++ (to_be_bytes w64 p.1.1.0 ++ (to_be_bytes w64 p.1.1.1.0 ++ to_be_bytes w64 p.1.1.1.1)))) (number_at w64)
    (pair_at (number_at w64) (pair_at (number_at w64) (pair_at (number_at w64) (pair_at (number_at w64) (number_at w64)))))
    (IsBelow (2 ^ 64)) (λ (p : ℕ × (ℕ × (ℕ × (ℕ × ℕ)))). (p.0 < 2 ^ 64) × ((p.1.0 < 2 ^ 64) × ((p.1.1.0 < 2 ^ 64) × ((p.1.1.1.0 < 2 ^ 64) × (p.1.1.1.1 < 2 ^ 64)))))
    site_state_of (λ s. s.joined_at) (λ s. (s.received, (s.received_number, (s.seen, (s.watermark, s.last_sync))))) (λ s. refl) (λ a b. refl) (λ a b. refl) num64
    (one_more_is _ _ _ (one_more_is _ _ _ (one_more_is _ _ _ two)))
