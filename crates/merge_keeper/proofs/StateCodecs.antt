-- States and conflicts are read as they are spelled.
use Rattle.std.proofs.Common.{◌≡◌, ℕ, zero, suc, ◌^◌, ◌<◌, ◌==◌, lit<, Bool, true, false, cond, List, [], ◌∷◌, ◌++◌, Option, Some, None, refl, subst}
use Rattle.std.specs.Int.{w8, w16, w64, w128, to_be_bytes}
use Rattle.std.proofs.lemmas.Bool.{eqb-true}
use Rattle.merge_conflict.specs.declared.row.Verdict.{Verdict}
use Rattle.merge_conflict.specs.declared.row.Verdict.TheVariants.{Publisher, Subscriber, Custom, Purged, Discarded}
use Rattle.merge_record.specs.Reading.{Reader, number_at, pair_at}
use Rattle.merge_record.specs.Codec.{IsBytes, Takes, IsCodec, IsBelow}
use Rattle.merge_record.specs.Versions.{version_at, version_bytes, IsVersion}
use Rattle.merge_record.proofs.Codecs.{Takes-then, both, mapped, paired, number, wide8, wide16, wide64, tested, bind_some, some_is}
use Rattle.merge_record.proofs.Wide.{wide128}
use Rattle.merge_record.proofs.VersionCodecs.{version_is, bytes_rest, tag_takes, tag_again}
use Rattle.merge_keeper.specs.Entries.{verdict_bytes}
use Rattle.merge_keeper.specs.States.{behind_tag, front_of, front_at, front_spelling, IsFront, publisher_of, of_publisher_at, publisher_state_at, publisher_spelling, IsPublisherState, talk_of, is_talk, numbers_at, talk_at, talk_spelling, AreTalkNumbers, IsTalk, front_talk, front_talk_at, subscriber_state_at, subscriber_spelling, IsSubscriberState, verdict_at, head_of, has_kind, head_fields_at, AreHeadFields, head_at, head_spelling, IsHead, head_losing, conflict_at, conflict_spelling, IsConflict}
use Rattle.merge_keeper.specs.declared.states.PublisherState.{PublisherState}

taken_some : {A : Type 0} (b : Bool) (o : Option A) (y : A) → cond b o None ≡ Some y → (b ≡ true) × (o ≡ Some y)
taken_some true o y e = (refl, e)
taken_some false o y e = absurd cc

-- a field behind a tag
behind : {A : Type 0} (tag : ℕ) → tag < 256 → (tag == tag) ≡ true → (s : A → List ℕ) (r : Reader A) (F : A → Type 0) → IsCodec s r F → IsCodec (λ a. tag ∷ s a) (behind_tag tag r) F
behind {A = A} tag lt same s r F p = record {
  again = λ a rest fits. rw (tag_again tag (s a ++ rest) lt, same) (p.again a rest fits);
  takes = λ bytes bs a rest e.
      let b = bind_some (number_at w8 bytes) (λ t. cond (t.0 == tag) (r t.1) None) (a, rest) e in
      let h = tag_takes bytes bs b.0.0 b.0.1 b.1 in
      let d = taken_some (b.0.0 == tag) (r b.0.1) (a, rest) b.2 in
      let k = p.takes b.0.1 h.rest_fits a rest d.1 in
      (subst (λ (n : ℕ). Takes bytes (n ∷ s a) rest) (eqb-true b.0.0 tag d.0) (Takes-then bytes (b.0.0 ∷ []) b.0.1 (s a) rest h k.0), k.1);
}

num8 : IsCodec (to_be_bytes w8) (number_at w8) (IsBelow (2 ^ 8))
num8 = number w8 (2 ^ 8) wide8

num16 : IsCodec (to_be_bytes w16) (number_at w16) (IsBelow (2 ^ 16))
num16 = number w16 (2 ^ 16) wide16

num64 : IsCodec (to_be_bytes w64) (number_at w64) (IsBelow (2 ^ 64))
num64 = number w64 (2 ^ 64) wide64

-- a number of eight bytes in front of another field
then64 : {A : Type 0} (s : A → List ℕ) (r : Reader A) (F : A → Type 0) → IsCodec s r F
    → IsCodec (λ (p : ℕ × A). to_be_bytes w64 p.0 ++ s p.1) (pair_at (number_at w64) r) (λ (p : ℕ × A). IsBelow (2 ^ 64) p.0 × F p.1)
then64 s r F p = paired (to_be_bytes w64) s (number_at w64) r (IsBelow (2 ^ 64)) F num64 p

pub front_is : IsCodec front_spelling front_at IsFront
unfolding front_at
front_is = both (to_be_bytes w16) _ (number_at w16) _ (IsBelow (2 ^ 16)) _ front_of (λ f. f.site) (λ f. (f.changes, (f.last_closed, (f.filled, (f.conflicts, f.latest))))) (λ f. refl) (λ a b. refl) (λ a b. refl) num16
    (then64 _ _ _ (then64 _ _ _ (then64 _ _ _ (then64 _ _ _ num64))))

of_publisher_is : IsCodec (λ (s : PublisherState). front_spelling s.0) of_publisher_at IsPublisherState
unfolding of_publisher_at
of_publisher_is = mapped front_spelling front_at IsFront publisher_of (λ s. s.0) (λ s. refl) (λ f. refl) front_is

pub publisher_state_is : IsCodec publisher_spelling publisher_state_at IsPublisherState
unfolding publisher_state_at
publisher_state_is = behind 1 (lit< tt) refl (λ (s : PublisherState). front_spelling s.0) of_publisher_at IsPublisherState of_publisher_is

numbers_is : IsCodec talk_spelling numbers_at AreTalkNumbers
unfolding numbers_at
numbers_is = both (to_be_bytes w64) _ (number_at w64) _ (IsBelow (2 ^ 64)) _ talk_of (λ t. t.seq) (λ t. (t.outstanding, (t.from, (t.to, (t.received, (t.watermark, (t.kind, t.phase))))))) (λ t. refl) (λ a b. refl) (λ a b. refl) num64
    (then64 _ _ _ (then64 _ _ _ (then64 _ _ _ (then64 _ _ _ (then64 _ _ _ (paired (to_be_bytes w8) (to_be_bytes w8) (number_at w8) (number_at w8) (IsBelow (2 ^ 8)) (IsBelow (2 ^ 8)) num8 num8))))))

talk_is : IsCodec talk_spelling talk_at IsTalk
unfolding talk_at
talk_is = tested talk_spelling numbers_at AreTalkNumbers is_talk numbers_is

front_talk_is : IsCodec (λ s. front_spelling s.front ++ talk_spelling s.talk) front_talk_at IsSubscriberState
unfolding front_talk_at
front_talk_is = both front_spelling talk_spelling front_at talk_at IsFront IsTalk front_talk (λ s. s.front) (λ s. s.talk) (λ s. refl) (λ a b. refl) (λ a b. refl) front_is talk_is

pub subscriber_state_is : IsCodec subscriber_spelling subscriber_state_at IsSubscriberState
unfolding subscriber_state_at
subscriber_state_is = behind 2 (lit< tt) refl _ front_talk_at IsSubscriberState front_talk_is

verdict_takes : (bytes : List ℕ) → IsBytes bytes → (v : Verdict) (rest : List ℕ) → verdict_at bytes ≡ Some (v, rest) → Takes bytes (verdict_bytes v) rest × Unit {0}
unfolding verdict_at
verdict_takes [] bs v rest e = absurd cc
verdict_takes (zero ∷ bytes) bs v rest e = absurd cc
verdict_takes (suc zero ∷ bytes) bs v rest e = subst (λ (z : Verdict × List ℕ). Takes (1 ∷ bytes) (verdict_bytes z.0) z.1 × Unit {0}) (some_is (Publisher, bytes) (v, rest) e) (record { parts = refl; rest_fits = bytes_rest 1 bytes bs }, tt)
verdict_takes (suc (suc zero) ∷ bytes) bs v rest e = subst (λ (z : Verdict × List ℕ). Takes (2 ∷ bytes) (verdict_bytes z.0) z.1 × Unit {0}) (some_is (Subscriber, bytes) (v, rest) e) (record { parts = refl; rest_fits = bytes_rest 2 bytes bs }, tt)
verdict_takes (suc (suc (suc zero)) ∷ bytes) bs v rest e = subst (λ (z : Verdict × List ℕ). Takes (3 ∷ bytes) (verdict_bytes z.0) z.1 × Unit {0}) (some_is (Custom, bytes) (v, rest) e) (record { parts = refl; rest_fits = bytes_rest 3 bytes bs }, tt)
verdict_takes (suc (suc (suc (suc zero))) ∷ bytes) bs v rest e = subst (λ (z : Verdict × List ℕ). Takes (4 ∷ bytes) (verdict_bytes z.0) z.1 × Unit {0}) (some_is (Purged, bytes) (v, rest) e) (record { parts = refl; rest_fits = bytes_rest 4 bytes bs }, tt)
verdict_takes (suc (suc (suc (suc (suc zero)))) ∷ bytes) bs v rest e = subst (λ (z : Verdict × List ℕ). Takes (5 ∷ bytes) (verdict_bytes z.0) z.1 × Unit {0}) (some_is (Discarded, bytes) (v, rest) e) (record { parts = refl; rest_fits = bytes_rest 5 bytes bs }, tt)
verdict_takes (suc (suc (suc (suc (suc (suc n))))) ∷ bytes) bs v rest e = absurd cc

verdict_again : (v : Verdict) (rest : List ℕ) → Unit {0} → verdict_at (verdict_bytes v ++ rest) ≡ Some (v, rest)
unfolding verdict_at
verdict_again Publisher rest h = refl
verdict_again Subscriber rest h = refl
verdict_again Custom rest h = refl
verdict_again Purged rest h = refl
verdict_again Discarded rest h = refl

abbrev Always : Verdict → Type 0
Always v = Unit {0}

verdict_is : IsCodec verdict_bytes verdict_at Always
verdict_is = record { again = verdict_again; takes = verdict_takes }

head_fields_is : IsCodec head_spelling head_fields_at AreHeadFields
unfolding head_fields_at
head_fields_is = both (to_be_bytes w8) _ (number_at w8) _ (IsBelow (2 ^ 8)) _ head_of (λ c. c.article) (λ c. (c.row.0, (c.kind, (c.from.0, (c.verdict, c.moment.0))))) (λ c. refl) (λ a b. refl) (λ a b. refl) num8
    (paired (to_be_bytes w128) _ (number_at w128) _ (IsBelow (2 ^ 128)) _ (number w128 (2 ^ 128) wide128)
    (paired (to_be_bytes w8) _ (number_at w8) _ (IsBelow (2 ^ 8)) _ num8
    (paired (to_be_bytes w16) _ (number_at w16) _ (IsBelow (2 ^ 16)) _ num16
    (paired verdict_bytes (to_be_bytes w64) verdict_at (number_at w64) Always (IsBelow (2 ^ 64)) verdict_is num64))))

head_is : IsCodec head_spelling head_at IsHead
unfolding head_at
head_is = tested head_spelling head_fields_at AreHeadFields has_kind head_fields_is

pub conflict_is : IsCodec conflict_spelling conflict_at IsConflict
unfolding conflict_at
conflict_is = both head_spelling version_bytes head_at version_at IsHead IsVersion head_losing (λ c. c.head) (λ c. c.losing) (λ c. refl) (λ a b. refl) (λ a b. refl) head_is version_is
