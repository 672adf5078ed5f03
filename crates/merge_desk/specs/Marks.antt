-- What a mark says of a request and its reply.
use Rattle.std.specs.Prelude.{Bool, List, false, true, ℕ}
use Rattle.serde_json.specs.Written.{compact_text}
use Rattle.sha2.specs.Sha256.{sha256}
use Rattle.merge_types.specs.declared.identifiers.Moment.{Moment}
use Rattle.merge_batch.specs.Heads.{kind_of}
use Rattle.merge_batch.specs.declared.reply.Reply.{Reply}
use Rattle.merge_batch.specs.declared.reply.Reply.TheVariants as reply
use Rattle.merge_batch.specs.declared.request.Request.{Request}
use Rattle.merge_json.specs.WrittenReplies.{reply_data}
use Rattle.merge_json.specs.WrittenRequests.{request_data}
use Rattle.merge_desk.specs.declared.mark.Mark.{Mark}

abbrev pub is_refused : Reply → Bool
is_refused (reply.Refused number values) = true
is_refused m = false

-- the digests of the bodies that are written
abbrev pub request_digest : Request → List ℕ
request_digest m = sha256 (compact_text (request_data m))

abbrev pub reply_digest : Reply → List ℕ
reply_digest m = sha256 (compact_text (reply_data m))

-- the mark of a request that was answered at a moment and of its reply, at a place of the journal
abbrev pub mark_on : ℕ → Moment → Request → Reply → Mark
mark_on place now m answer = record {
  place = place;
  moment = now;
  kind = kind_of m;
  refused = is_refused answer;
  asked = request_digest m;
  digest = reply_digest answer;
}
