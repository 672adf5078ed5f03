-- Heads of messages, in the grammar of `httparse`.
use Rattle.std.specs.Prelude.{◌≡◌, ◌<◌, ◌≤◌, ◌⊎◌, ◌==◌, ℕ, Bool, not, List, [], ◌∷◌, ◌++◌, length, take, drop, count_by, IsUtf8}
use Rattle.std.specs.List.{prefix_len}
use Rattle.httparse.specs.Ascii.{space}
use Rattle.httparse.specs.Grammar.{AllPass, is_uri_byte, RequestHead, IsRequestHead, print_request, ReadsRequest, HasNoRequest, ResponseHead, IsResponseHead, print_response, ReadsResponse, HasNoResponse, MayBecomeResponse}
use Rattle.httparse.specs.Pieces.{is_newline}
use Rattle.httparse.specs.Spans.{RequestOverflows, ResponseOverflows}

-- the most bytes and fields of a head
abbrev pub head_limit : ℕ
head_limit = 8192

abbrev pub field_limit : ℕ
field_limit = 32

-- a head that is taken: valid, and within both limits
pub record IsTakenRequest (h : RequestHead) : Type 0 where
  pub valid : IsRequestHead h
  pub few : length h.fields ≤ field_limit
  pub short : length (print_request h) ≤ head_limit

pub record IsTakenResponse (h : ResponseHead) : Type 0 where
  pub valid : IsResponseHead h
  pub few : length h.fields ≤ field_limit
  pub short : length (print_response h) ≤ head_limit

-- ---- a head that is not yet whole

abbrev pub is_line_feed : ℕ → Bool
is_line_feed b = b == 10

-- how many lines end in the bytes
abbrev pub line_ends : List ℕ → ℕ
line_ends bytes = count_by is_line_feed bytes

-- the bytes behind the empty lines at their front
abbrev pub behind_blank : List ℕ → List ℕ
behind_blank bytes = drop (prefix_len is_newline bytes) bytes

-- how many lines of a head have ended: the first one, and one for each field
abbrev pub lines : List ℕ → ℕ
lines bytes = line_ends (behind_blank bytes)

abbrev pub line_limit : ℕ
line_limit = 33

-- a head stands at their front, or bytes can follow that bring one
abbrev pub CanBecomeRequest : List ℕ → Type 0
CanBecomeRequest bytes = (more : List ℕ) × (h : RequestHead) × (rest : List ℕ) × ReadsRequest (bytes ++ more) h rest

abbrev pub CanBecomeResponse : List ℕ → Type 0
CanBecomeResponse bytes = (more : List ℕ) × (h : ResponseHead) × (rest : List ℕ) × ReadsResponse (bytes ++ more) h rest

-- no head with few fields can come of the bytes, and where one with more can, too many have ended
pub record NoRequestCan (bytes : List ℕ) : Type 0 where
  pub over : RequestOverflows field_limit bytes
  pub many : CanBecomeRequest bytes → line_limit < lines bytes

-- the same of a response
pub record NoResponseCan (bytes : List ℕ) : Type 0 where
  pub over : ResponseOverflows field_limit bytes
  pub many : CanBecomeResponse bytes → line_limit < lines bytes

-- no head with few fields can come, or none is ended within as many bytes as a head may have
abbrev pub IsBadRequest : List ℕ → Type 0
IsBadRequest bytes = NoRequestCan bytes ⊎ ((length bytes ≡ head_limit) × HasNoRequest bytes)

-- the same of the first bytes of a response
abbrev pub IsBadResponse : List ℕ → Type 0
IsBadResponse bytes = NoResponseCan (take head_limit bytes) ⊎ ((head_limit ≤ length bytes) × HasNoResponse (take head_limit bytes))

-- no head is there yet, and more bytes can bring one: too many fields have not ended
pub record AwaitsRequest (bytes : List ℕ) : Type 0 where
  pub short : length bytes < head_limit
  pub open_head : HasNoRequest bytes
  pub hopeful : CanBecomeRequest bytes
  pub few : lines bytes ≤ line_limit

-- the same of a response
pub record AwaitsResponse (bytes : List ℕ) : Type 0 where
  pub short : length bytes < head_limit
  pub open_head : HasNoResponse bytes
  pub hopeful : MayBecomeResponse bytes
  pub few : lines bytes ≤ line_limit

-- a head within the limits could come before the last of the bytes, and none can with it
pub record TurnsBad (bytes : List ℕ) : Type 0 where
  pub before : List ℕ
  pub last : ℕ
  pub spelled : bytes ≡ before ++ last ∷ []
  pub awaited : AwaitsRequest before
  pub bad : IsBadRequest bytes

-- ---- the method of a request and its target

abbrev pub is_no_space : ℕ → Bool
is_no_space b = not (b == space)

-- bytes of a target can follow with which they are a text
abbrev pub BeginsText : List ℕ → Type 0
BeginsText bytes = (more : List ℕ) × AllPass is_uri_byte more × IsUtf8 (bytes ++ more)
