-- A body that was written is read as its message.
use Rattle.std.proofs.Common.{◌≡◌, ℕ, List, Ok, Some, refl}
use Rattle.serde_json.specs.Data.{Data}
use Rattle.merge_batch.specs.declared.request.Request.{Request}
use Rattle.merge_batch.specs.declared.request.Request.TheVariants as request
use Rattle.merge_batch.specs.declared.reply.Reply.{Reply}
use Rattle.merge_batch.specs.Heads.{kind_of, answered_kind}
use Rattle.merge_json.specs.Requests.{path_of, kind_at, request_at}
use Rattle.merge_json.specs.Replies.{reply_at}
use Rattle.merge_json.specs.Bodies.{data_at, request_of, request_sent, reply_of}

pub path_again : (r : Request) → kind_at (path_of (kind_of r)) ≡ Some (kind_of r)
unfolding kind_at
path_again (request.Join m) = refl
path_again (request.Upload m) = refl
path_again (request.Ranges m) = refl
path_again (request.Download m) = refl

pub request_again : (r : Request) (body : List ℕ) (d : Data) → data_at body ≡ Some d → request_at (kind_of r) d ≡ Ok r → request_sent (path_of (kind_of r)) body ≡ Ok r
unfolding request_sent request_of
request_again r body d text read = rw (path_again r, text) read

pub reply_again : (r : Reply) (body : List ℕ) (d : Data) → data_at body ≡ Some d → reply_at (answered_kind r) d ≡ Ok r → reply_of (answered_kind r) body ≡ Ok r
unfolding reply_of
reply_again r body d text read = rw text read
