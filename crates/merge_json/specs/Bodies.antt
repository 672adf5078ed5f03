-- Messages of the bytes of a body.
use Rattle.std.specs.Prelude.{ℕ, List, Option, None, Result, if◌then◌else◌}
use Rattle.std.specs.Str.{is_utf8}
use Rattle.serde_json.specs.Data.{Data}
use Rattle.serde_json.specs.Read as json
use Rattle.merge_batch.specs.declared.request.Kind.{Kind}
use Rattle.merge_batch.specs.declared.request.Request.{Request}
use Rattle.merge_batch.specs.declared.reply.Reply.{Reply}
use Rattle.merge_json.specs.Reading.{placed}
use Rattle.merge_json.specs.Requests.{request_at, kind_at}
use Rattle.merge_json.specs.Replies.{reply_at}

-- the JSON value of a text in UTF-8
unfoldable pub data_at : List ℕ → Option Data
data_at body = if is_utf8 body then json.read body else None

-- the message of a body, or the number of its first bad item, and 0 where anything else is bad
unfoldable pub request_of : Kind → List ℕ → Result Request ℕ
request_of kind body = placed 0 (data_at body) (request_at kind)

unfoldable pub reply_of : Kind → List ℕ → Result Reply ℕ
reply_of kind body = placed 0 (data_at body) (reply_at kind)

-- by the path that a request goes to
unfoldable pub request_sent : List ℕ → List ℕ → Result Request ℕ
request_sent path body = placed 0 (kind_at path) (λ kind. request_of kind body)
