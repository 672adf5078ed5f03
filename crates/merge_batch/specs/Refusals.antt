-- The numbers of the refusals, and what a reply tells of one.
use Rattle.std.specs.Prelude.{ℕ, ◌/◌, ◌%◌, false, List, [], ◌∷◌, flat_map, Option, Some, None, option_map}
use Rattle.std.specs.Fmt.{digit_glyph}
use Rattle.merge_batch.specs.declared.refusal.Refusal.{Refusal}
use Rattle.merge_batch.specs.declared.refusal.Refusal.TheVariants as refusal
use Rattle.merge_batch.specs.declared.reply.Reply.{Reply}
use Rattle.merge_batch.specs.declared.reply.Reply.TheVariants as reply

-- want of memory has no number of its own
abbrev pub number_of : Refusal → ℕ
number_of (refusal.UnknownSite site) = 1
number_of (refusal.Expired last_sync now) = 2
number_of (refusal.Stale seq joined_at) = 3
number_of (refusal.Gap from received) = 4
number_of (refusal.BadBatch item rule) = 5
number_of (refusal.WrongWatermark from last) = 6
number_of refusal.StoreFault = 7
number_of refusal.NoRow = 8
number_of (refusal.WrongType column) = 9
number_of (refusal.RowTooLong length) = 10
number_of (refusal.IdentityUsedUp end) = 11
number_of (refusal.TooManyRows count) = 12
number_of (refusal.IdentityColumn column) = 13
number_of (refusal.Damaged table key) = 14
number_of refusal.Joining = 15
number_of (refusal.CounterEnd value) = 16
number_of refusal.NotJoined = 17
number_of (refusal.UnknownName name) = 18
number_of refusal.NoMemory = 0

-- the fields of a refusal that the publisher tells in a reply, in order; none for the other refusals
abbrev pub told_fields : Refusal → Option (List ℕ)
told_fields (refusal.UnknownSite site) = Some (site.0 ∷ [])
told_fields (refusal.Expired last_sync now) = Some (last_sync.0 ∷ now.0 ∷ [])
told_fields (refusal.Stale seq joined_at) = Some (seq ∷ joined_at ∷ [])
told_fields (refusal.Gap from received) = Some (from ∷ received ∷ [])
told_fields (refusal.BadBatch item rule) = Some (item ∷ rule ∷ [])
told_fields (refusal.WrongWatermark from last) = Some (from ∷ last ∷ [])
told_fields (refusal.TooManyRows count) = Some (count ∷ [])
told_fields (refusal.CounterEnd value) = Some (value ∷ [])
told_fields refusal.NotJoined = Some []
told_fields _ = None

-- the reply that tells a refusal
abbrev pub reply_to : Refusal → Option Reply
reply_to refused = option_map (λ fields. reply.Refused (number_of refused) fields) (told_fields refused)

-- a byte in two hexadecimal digits
abbrev pub hex_pair : ℕ → List ℕ
hex_pair byte = digit_glyph false (byte / 16) ∷ digit_glyph false (byte % 16) ∷ []

-- how the key of a record is printed: byte by byte, and `-` where it has none
abbrev pub key_text : List ℕ → List ℕ
key_text [] = 45 ∷ []
key_text (byte ∷ bytes) = flat_map hex_pair (byte ∷ bytes)
