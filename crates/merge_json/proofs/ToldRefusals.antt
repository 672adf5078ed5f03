-- A reply that tells a refusal has a form.
use Rattle.std.proofs.Common.{◌≡◌, [], ◌∷◌, Some, refl, subst}
use Rattle.merge_batch.specs.declared.refusal.Refusal.{Refusal}
use Rattle.merge_batch.specs.declared.refusal.Refusal.TheVariants as refusal
use Rattle.merge_batch.specs.declared.reply.Reply.{Reply}
use Rattle.merge_batch.specs.declared.reply.Reply.TheVariants as reply
use Rattle.merge_batch.specs.Refusals.{reply_to}
use Rattle.merge_json.specs.Sendable.{IsSendableReply}
use Rattle.merge_json.proofs.Readers.{some_same}

pub told_sendable : (refused : Refusal) (r : Reply) → reply_to refused ≡ Some r → IsSendableReply r
told_sendable (refusal.UnknownSite site) r e = subst IsSendableReply (some_same (reply.Refused 1 (site.0 ∷ [])) r e) refl
told_sendable (refusal.Expired last_sync now) r e = subst IsSendableReply (some_same (reply.Refused 2 (last_sync.0 ∷ now.0 ∷ [])) r e) refl
told_sendable (refusal.Stale seq joined_at) r e = subst IsSendableReply (some_same (reply.Refused 3 (seq ∷ joined_at ∷ [])) r e) refl
told_sendable (refusal.Gap from received) r e = subst IsSendableReply (some_same (reply.Refused 4 (from ∷ received ∷ [])) r e) refl
told_sendable (refusal.BadBatch at rule) r e = subst IsSendableReply (some_same (reply.Refused 5 (at ∷ rule ∷ [])) r e) refl
told_sendable (refusal.WrongWatermark from last) r e = subst IsSendableReply (some_same (reply.Refused 6 (from ∷ last ∷ [])) r e) refl
told_sendable (refusal.TooManyRows count) r e = subst IsSendableReply (some_same (reply.Refused 12 (count ∷ [])) r e) refl
told_sendable (refusal.CounterEnd value) r e = subst IsSendableReply (some_same (reply.Refused 16 (value ∷ [])) r e) refl
told_sendable refusal.NotJoined r e = subst IsSendableReply (some_same (reply.Refused 17 []) r e) refl
told_sendable refusal.StoreFault r e = absurd cc
told_sendable refusal.NoRow r e = absurd cc
told_sendable (refusal.WrongType column) r e = absurd cc
told_sendable (refusal.RowTooLong len) r e = absurd cc
told_sendable (refusal.IdentityUsedUp end) r e = absurd cc
told_sendable (refusal.IdentityColumn column) r e = absurd cc
told_sendable (refusal.Damaged table key) r e = absurd cc
told_sendable refusal.Joining r e = absurd cc
told_sendable (refusal.UnknownName name) r e = absurd cc
told_sendable refusal.NoMemory r e = absurd cc
