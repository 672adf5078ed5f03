-- Messages as they are written.
use Rattle.std.specs.Prelude.{◌≡◌, ◌==◌, ◌≤◌, ◌⊎◌, ℕ, List, [], ◌∷◌, ◌++◌, length, map, All, Bool, IsTrue, codes, decimal, Option, unwrap_or, if◌then◌else◌}
use Rattle.std.specs.List.{list_any}
use Rattle.http.specs.StatusCode.{code_digits, reason_phrase}
use Rattle.merge_wire.specs.declared.message.Message.{Message}

-- pieces one behind the other
abbrev pub joined : List (List ℕ) → List ℕ
joined [] = []
joined (piece ∷ pieces) = piece ++ joined pieces

-- a request: its lines, an empty line and the body
abbrev pub request_pieces : Message → List (List ℕ)
request_pieces m =
    codes "POST " ∷ m.path ∷ codes " HTTP/1.1\r\nHost: " ∷ m.host
    ∷ codes "\r\nContent-Type: application/json\r\nContent-Length: " ∷ decimal (length m.body)
    ∷ codes "\r\nConnection: close\r\n\r\n" ∷ m.body ∷ []

-- the canonical phrase of a status
abbrev pub phrase_of : ℕ → List ℕ
phrase_of status = unwrap_or (reason_phrase status) []

-- a status with its phrase
abbrev pub status_text : ℕ → List ℕ
status_text status = code_digits status ++ codes " " ++ phrase_of status

-- a refused method is answered with the one that is taken
abbrev pub allow_line : ℕ → List ℕ
allow_line status = if status == 405 then codes "Allow: POST\r\n" else []

-- a response
abbrev pub response_pieces : Message → List (List ℕ)
response_pieces m =
    codes "HTTP/1.1 " ∷ status_text m.status
    ∷ codes "\r\nContent-Type: application/json\r\nContent-Length: " ∷ decimal (length m.body)
    ∷ codes "\r\nConnection: close\r\n" ∷ allow_line m.status ∷ codes "\r\n" ∷ m.body ∷ []

-- the bytes of a message
unfoldable pub message_text : Message → List ℕ
message_text m = if m.status == 0 then joined (request_pieces m) else joined (response_pieces m)

-- from 1 to 255 visible characters of ASCII
pub record IsVisible (text : List ℕ) : Type 0 where
  pub some : 1 ≤ length text
  pub few : length text ≤ 255
  pub visible : All (λ byte. (33 ≤ byte) × (byte ≤ 126)) text

-- the statuses of the product
abbrev pub is_status : ℕ → Bool
is_status status = list_any (λ known. known == status) (200 ∷ 400 ∷ 404 ∷ 405 ∷ 409 ∷ 413 ∷ 500 ∷ 507 ∷ [])

pub record IsWritableRequest (m : Message) : Type 0 where
  pub status : m.status ≡ 0
  pub method : m.method ≡ codes "POST"
  pub path : IsVisible m.path
  pub host : IsVisible m.host

pub record IsWritableResponse (m : Message) : Type 0 where
  pub status : IsTrue (is_status m.status)
  pub method : m.method ≡ []
  pub path : m.path ≡ []
  pub host : m.host ≡ []

-- what is written: a request to an address, or a response with a status of the product
abbrev pub IsWritable : Message → Type 0
IsWritable m = IsWritableRequest m ⊎ IsWritableResponse m
