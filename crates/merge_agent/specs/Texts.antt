-- Requests as the agent sends them.
use Rattle.std.specs.Prelude.{◌≤◌, ℕ, List, codes, length}
use Rattle.serde_json.specs.Written.{compact_text}
use Rattle.merge_batch.specs.Heads.{kind_of}
use Rattle.merge_batch.specs.declared.request.Request.{Request}
use Rattle.merge_json.specs.Limits.{body_limit, IsShortRequest}
use Rattle.merge_json.specs.Messages.{IsSent}
use Rattle.merge_json.specs.Requests.{path_of}
use Rattle.merge_json.specs.WrittenRequests.{request_data}
use Rattle.merge_wire.specs.Written.{message_text}
use Rattle.merge_wire.specs.declared.message.Message.{Message}

abbrev pub message_of_request : List ℕ → Request → Message
message_of_request address request = record {
  method = codes "POST";
  path = path_of (kind_of request);
  host = address;
  status = 0;
  body = compact_text (request_data request);
}

-- a POST to the path of its kind at an address, with the request as JSON
unfoldable pub request_text : List ℕ → Request → List ℕ
request_text address request = message_text (message_of_request address request)

-- The body that is posted is read as the request, and where the request is within the limits of the product the message may
-- have such a body.
pub record IsReadable (request : Request) : Type 0 where
  pub sent_as : IsSent (path_of (kind_of request)) (compact_text (request_data request)) request
  pub fits : IsShortRequest request → length (compact_text (request_data request)) ≤ body_limit
