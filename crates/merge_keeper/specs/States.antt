-- The records of states and of conflicts: how they are read, how they are spelled, and which have a spelling.
use Rattle.std.specs.Prelude.{◌≡◌, ℕ, ◌<◌, ◌^◌, ◌==◌, ◌&&◌, ◌||◌, Bool, nat_le, zero, suc, List, ◌∷◌, ◌++◌, Some, None, true, if◌then◌else◌}
use Rattle.std.specs.Int.{w8, w16, w64, w128, to_be_bytes}
use Rattle.merge_units.specs.declared.version.Version.{Version}
use Rattle.merge_conflict.specs.declared.row.Verdict.{Verdict}
use Rattle.merge_conflict.specs.declared.row.Verdict.TheVariants.{Publisher, Subscriber, Custom, Purged, Discarded}
use Rattle.merge_record.specs.Reading.{◌>>=◌, Reader, both_at, pair_at, number_at, tested_at, wrapped_at}
use Rattle.merge_record.specs.Versions.{version_at, version_bytes, IsVersion, IsShortVersion}
use Rattle.merge_keeper.specs.Entries.{verdict_bytes}
use Rattle.merge_keeper.specs.declared.states.Front.{Front}
use Rattle.merge_keeper.specs.declared.states.Talk.{Talk}
use Rattle.merge_keeper.specs.declared.states.PublisherState.{PublisherState}
use Rattle.merge_keeper.specs.declared.states.SubscriberState.{SubscriberState}
use Rattle.merge_keeper.specs.declared.states.ConflictHead.{ConflictHead}
use Rattle.merge_keeper.specs.declared.states.ConflictValue.{ConflictValue}

-- a field behind this tag
abbrev pub behind_tag : {A : Type 0} → ℕ → Reader A → Reader A
behind_tag tag read bytes = number_at w8 bytes >>= λ t. if t.0 == tag then read t.1 else None

-- ---- what both kinds of site have

abbrev pub front_of : ℕ → ℕ × (ℕ × (ℕ × (ℕ × ℕ))) → Front
front_of site rest = record { site = site; changes = rest.0; last_closed = rest.1.0; filled = rest.1.1.0; conflicts = rest.1.1.1.0; latest = rest.1.1.1.1 }

unfoldable pub front_at : Reader Front
front_at bytes = both_at front_of (number_at w16) (pair_at (number_at w64) (pair_at (number_at w64) (pair_at (number_at w64) (pair_at (number_at w64) (number_at w64))))) bytes

abbrev pub front_spelling : Front → List ℕ
front_spelling front = to_be_bytes w16 front.site ++ (to_be_bytes w64 front.changes ++ (to_be_bytes w64 front.last_closed ++ (to_be_bytes w64 front.filled ++ (to_be_bytes w64 front.conflicts ++ to_be_bytes w64 front.latest))))

abbrev pub IsFront : Front → Type 0
IsFront front = (front.site < 2 ^ 16) × ((front.changes < 2 ^ 64) × ((front.last_closed < 2 ^ 64) × ((front.filled < 2 ^ 64) × ((front.conflicts < 2 ^ 64) × (front.latest < 2 ^ 64)))))

-- ---- the publisher: 1, and no more

abbrev pub publisher_of : Front → PublisherState
publisher_of front = record { 0 = front }

unfoldable pub of_publisher_at : Reader PublisherState
of_publisher_at bytes = wrapped_at publisher_of front_at bytes

unfoldable pub publisher_state_at : Reader PublisherState
publisher_state_at bytes = behind_tag 1 of_publisher_at bytes

abbrev pub publisher_spelling : PublisherState → List ℕ
publisher_spelling state = 1 ∷ front_spelling state.0

abbrev pub IsPublisherState : PublisherState → Type 0
IsPublisherState state = IsFront state.0

-- ---- a subscriber: 2, and where it stands with the publisher

abbrev pub talk_of : ℕ → ℕ × (ℕ × (ℕ × (ℕ × (ℕ × (ℕ × ℕ))))) → Talk
talk_of seq rest = record { seq = seq; outstanding = rest.0; from = rest.1.0; to = rest.1.1.0; received = rest.1.1.1.0; watermark = rest.1.1.1.1.0; kind = rest.1.1.1.1.1.0; phase = rest.1.1.1.1.1.1 }

-- 0 none, 1 join, 2 upload, 3 ranges, 4 download: what a message does not ask is 0
abbrev pub asks : ℕ → ℕ → ℕ → Bool
asks kind from to = nat_le kind 4 && ((kind == 2) || ((to == 0) && ((kind == 4) || (from == 0))))

-- 1 joining, 2 joined
abbrev pub is_phase : ℕ → Bool
is_phase phase = (phase == 1) || (phase == 2)

abbrev pub is_talk : Talk → Bool
is_talk talk = asks talk.kind talk.from talk.to && is_phase talk.phase

unfoldable pub numbers_at : Reader Talk
numbers_at bytes = both_at talk_of (number_at w64) (pair_at (number_at w64) (pair_at (number_at w64) (pair_at (number_at w64) (pair_at (number_at w64) (pair_at (number_at w64) (pair_at (number_at w8) (number_at w8))))))) bytes

unfoldable pub talk_at : Reader Talk
talk_at bytes = tested_at is_talk numbers_at bytes

abbrev pub talk_spelling : Talk → List ℕ
talk_spelling talk = to_be_bytes w64 talk.seq ++ (to_be_bytes w64 talk.outstanding ++ (to_be_bytes w64 talk.from ++ (to_be_bytes w64 talk.to ++ (to_be_bytes w64 talk.received ++ (to_be_bytes w64 talk.watermark ++ (to_be_bytes w8 talk.kind ++ to_be_bytes w8 talk.phase))))))

abbrev pub AreTalkNumbers : Talk → Type 0
AreTalkNumbers talk = (talk.seq < 2 ^ 64) × ((talk.outstanding < 2 ^ 64) × ((talk.from < 2 ^ 64) × ((talk.to < 2 ^ 64) × ((talk.received < 2 ^ 64) × ((talk.watermark < 2 ^ 64) × ((talk.kind < 2 ^ 8) × (talk.phase < 2 ^ 8)))))))

abbrev pub IsTalk : Talk → Type 0
IsTalk talk = AreTalkNumbers talk × (is_talk talk ≡ true)

abbrev pub front_talk : Front → Talk → SubscriberState
front_talk front talk = record { front = front; talk = talk }

unfoldable pub front_talk_at : Reader SubscriberState
front_talk_at bytes = both_at front_talk front_at talk_at bytes

unfoldable pub subscriber_state_at : Reader SubscriberState
subscriber_state_at bytes = behind_tag 2 front_talk_at bytes

abbrev pub subscriber_spelling : SubscriberState → List ℕ
subscriber_spelling state = 2 ∷ (front_spelling state.front ++ talk_spelling state.talk)

abbrev pub IsSubscriberState : SubscriberState → Type 0
IsSubscriberState state = IsFront state.front × IsTalk state.talk

-- what a caller sees to: the kind and the phase are known
abbrev pub IsShortState : SubscriberState → Type 0
IsShortState state = is_talk state.talk ≡ true

-- ---- conflicts

unfoldable pub verdict_at : Reader Verdict
verdict_at (suc zero ∷ rest) = Some (Publisher, rest)
verdict_at (suc (suc zero) ∷ rest) = Some (Subscriber, rest)
verdict_at (suc (suc (suc zero)) ∷ rest) = Some (Custom, rest)
verdict_at (suc (suc (suc (suc zero))) ∷ rest) = Some (Purged, rest)
verdict_at (suc (suc (suc (suc (suc zero)))) ∷ rest) = Some (Discarded, rest)
verdict_at bytes = None

abbrev pub head_of : ℕ → ℕ × (ℕ × (ℕ × (Verdict × ℕ))) → ConflictHead
head_of article rest = record { article = article; row = record { 0 = rest.0 }; kind = rest.1.0; from = record { 0 = rest.1.1.0 }; verdict = rest.1.1.1.0; moment = record { 0 = rest.1.1.1.1 } }

-- the kind is one of those from 0 to 4
abbrev pub has_kind : ConflictHead → Bool
has_kind head = nat_le head.kind 4

unfoldable pub head_fields_at : Reader ConflictHead
head_fields_at bytes = both_at head_of (number_at w8) (pair_at (number_at w128) (pair_at (number_at w8) (pair_at (number_at w16) (pair_at verdict_at (number_at w64))))) bytes

unfoldable pub head_at : Reader ConflictHead
head_at bytes = tested_at has_kind head_fields_at bytes

abbrev pub head_spelling : ConflictHead → List ℕ
head_spelling c = to_be_bytes w8 c.article ++ (to_be_bytes w128 c.row.0 ++ (to_be_bytes w8 c.kind ++ (to_be_bytes w16 c.from.0 ++ (verdict_bytes c.verdict ++ to_be_bytes w64 c.moment.0))))

abbrev pub AreHeadFields : ConflictHead → Type 0
AreHeadFields c = (c.article < 2 ^ 8) × ((c.row.0 < 2 ^ 128) × ((c.kind < 2 ^ 8) × ((c.from.0 < 2 ^ 16) × (Unit {0} × (c.moment.0 < 2 ^ 64)))))

abbrev pub IsHead : ConflictHead → Type 0
IsHead c = AreHeadFields c × (has_kind c ≡ true)

abbrev pub head_losing : ConflictHead → Version → ConflictValue
head_losing head losing = record { head = head; losing = losing }

unfoldable pub conflict_at : Reader ConflictValue
conflict_at bytes = both_at head_losing head_at version_at bytes

abbrev pub conflict_spelling : ConflictValue → List ℕ
conflict_spelling c = head_spelling c.head ++ version_bytes c.losing

abbrev pub IsConflict : ConflictValue → Type 0
IsConflict c = IsHead c.head × IsVersion c.losing

abbrev pub IsShortConflict : ConflictValue → Type 0
IsShortConflict c = (has_kind c.head ≡ true) × IsShortVersion c.losing

abbrev pub IsShortHead : ConflictHead → Type 0
IsShortHead c = has_kind c ≡ true
