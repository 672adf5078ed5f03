-- What both sides write is read again.
use Rattle.std.specs.List.{list_all}
use Rattle.std.specs.Prelude.{All, Bool, IsTrue, List, [], false, nat_le, refl, true, ℕ, ◌&&◌, ◌≡◌, ◌≤◌}
use Rattle.std.proofs.Common.{arith}
use Rattle.std.proofs.lemmas.Bool.{leb-true}
use Rattle.std.proofs.lemmas.List.Elements.{All-weaker}
use Rattle.std.proofs.lemmas.List.Sums.{AllPass-from_list_all}
use Rattle.merge_batch.specs.Heads.{kind_of}
use Rattle.merge_batch.specs.declared.reply.Reply.{Reply}
use Rattle.merge_batch.specs.declared.reply.Reply.TheVariants as reply
use Rattle.merge_batch.specs.declared.request.Kind.TheVariants as kind
use Rattle.merge_batch.specs.declared.request.Request.{Request}
use Rattle.merge_batch.specs.declared.request.Request.TheVariants as request
use Rattle.merge_json.specs.Requests.{path_of}
use Rattle.merge_wire.specs.Written.{IsVisible, is_status}
use Rattle.merge_wire.proofs.ResponseWritten.{response_reads_back}
use Rattle.merge_wire.proofs.WrittenLemmas.{request_reads_back}
use Rattle.merge_agent.specs.Texts.{message_of_request, request_text}
use Rattle.merge_serve.specs.Answers.{reply_status, response_of}
use Rattle.merge_serve.specs.declared.answer.Answer.TheVariants as answer
use Rattle.merge_synced.specs.Synced.{RepliesAreTold, RequestsAreRead}

-- A path can be written in a head.

abbrev is_visible : ℕ → Bool
is_visible byte = nat_le 33 byte && nat_le byte 126

both : (x y : Bool) → (x && y) ≡ true → (x ≡ true) × (y ≡ true)
both true y e = (refl, e)
both false y e = absurd (grind (arith, e))

visible-byte : (byte : ℕ) → is_visible byte ≡ true → (33 ≤ byte) × (byte ≤ 126)
visible-byte byte e = let parts = both (nat_le 33 byte) (nat_le byte 126) e in (leb-true 33 byte parts.0, leb-true byte 126 parts.1)

all-visible : (text : List ℕ) → list_all is_visible text ≡ true → All (λ (byte : ℕ). (33 ≤ byte) × (byte ≤ 126)) text
all-visible text e = All-weaker (λ (byte : ℕ). is_visible byte ≡ true) (λ (byte : ℕ). (33 ≤ byte) × (byte ≤ 126)) visible-byte text (AllPass-from_list_all is_visible text e)

visible : (r : Request) → IsVisible (path_of (kind_of r))
visible (request.Join m) = record { some = omega arith; few = omega arith; visible = all-visible (path_of kind.Join) refl }
visible (request.Upload m) = record { some = omega arith; few = omega arith; visible = all-visible (path_of kind.Upload) refl }
visible (request.Ranges m) = record { some = omega arith; few = omega arith; visible = all-visible (path_of kind.Ranges) refl }
visible (request.Download m) = record { some = omega arith; few = omega arith; visible = all-visible (path_of kind.Download) refl }

known-status : (r : Reply) → IsTrue (is_status (reply_status r))
known-status (reply.Joined m) = refl
known-status (reply.Uploaded m) = refl
known-status (reply.Ranged m) = refl
known-status (reply.Downloaded m) = refl
known-status (reply.Refused number values) = refl

pub requests-are-read : RequestsAreRead
unfolding request_text
requests-are-read address r host sent short =
    (record (message_of_request address r) { host = [] }, request_reads_back (message_of_request address r) (record { status = refl; method = refl; path = visible r; host = host }) short, sent)

pub replies-are-told : RepliesAreTold
replies-are-told r body tells short =
    (response_of (answer.Told r body), response_reads_back (response_of (answer.Told r body)) (record { status = known-status r; method = refl; path = refl; host = refl }) short, refl, tells)
