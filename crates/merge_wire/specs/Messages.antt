-- Messages as bytes.
use Rattle.std.specs.Prelude.{◌≡◌, ◌≤◌, ℕ, List, [], ◌++◌, length, map}
use Rattle.httparse.specs.Grammar.{RequestHead, print_request, ResponseHead, print_response, status_code}
use Rattle.httparse.specs.Spans.{name_and_value}
use Rattle.merge_wire.specs.declared.message.Message.{Message}
use Rattle.merge_wire.specs.Fields.{HasLength, body_limit}
use Rattle.merge_wire.specs.Heads.{IsTakenRequest, IsTakenResponse}

-- the bytes are that request: a head, and a body of the length that it gives. The host is left out
pub record IsRequest (bytes : List ℕ) (m : Message) : Type 0 where
  pub head : RequestHead
  pub taken : IsTakenRequest head
  pub sized : HasLength (length m.body) (map name_and_value head.fields)
  pub within : length m.body ≤ body_limit
  pub spelled : bytes ≡ print_request head ++ m.body
  pub method : m.method ≡ head.method
  pub path : m.path ≡ head.target
  pub host : m.host ≡ []
  pub status : m.status ≡ 0

-- the bytes begin with that response
pub record IsResponse (bytes : List ℕ) (m : Message) : Type 0 where
  pub head : ResponseHead
  pub rest : List ℕ
  pub taken : IsTakenResponse head
  pub sized : HasLength (length m.body) (map name_and_value head.fields)
  pub within : length m.body ≤ body_limit
  pub spelled : bytes ≡ print_response head ++ (m.body ++ rest)
  pub status : m.status ≡ status_code head
  pub method : m.method ≡ []
  pub path : m.path ≡ []
  pub host : m.host ≡ []
