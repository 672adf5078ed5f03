-- Why a message is not read.
use Rattle.std.specs.Prelude.{◌≡◌, ◌<◌, ◌≤◌, ◌⊎◌, ℕ, List, ◌++◌, length, map}
use Rattle.std.specs.declared.option.Option.{Option}
use Rattle.std.specs.Io.KnownBytes.{Consumes, IsAtEnd}
use Rattle.httparse.specs.Grammar.{RequestHead, print_request, ResponseHead, print_response}
use Rattle.httparse.specs.Spans.{name_and_value}
use Rattle.merge_ports.specs.Faults.{Rose}
use Rattle.merge_wire.specs.declared.fault.WireFault.{WireFault}
use Rattle.merge_wire.specs.declared.fault.WireFault.TheVariants as fault
use Rattle.merge_wire.specs.Fields.{HasLength, IsLengthFault, body_limit}
use Rattle.merge_wire.specs.Heads.{IsTakenRequest, IsTakenResponse, IsBadResponse, AwaitsRequest, AwaitsResponse, TurnsBad}

-- such bytes were taken from a source, where it tells them
abbrev pub Took : Option (List ℕ) → Option (List ℕ) → (List ℕ → Type 0) → Type 0
Took old new Is = (bytes : List ℕ) × Consumes old new bytes × Is bytes

-- and they were the last
abbrev pub TookLast : Option (List ℕ) → Option (List ℕ) → (List ℕ → Type 0) → Type 0
TookLast old new Is = (bytes : List ℕ) × Consumes old new bytes × IsAtEnd new × Is bytes

-- the bytes are a head, and its length is at fault so
abbrev pub HasLengthFault : WireFault → List ℕ → Type 0
HasLengthFault e bytes = (h : RequestHead) × IsTakenRequest h × (bytes ≡ print_request h) × IsLengthFault (map name_and_value h.fields) e

-- the bytes are a head, and less than the body that it tells
pub record LacksBody (bytes : List ℕ) : Type 0 where
  pub head : RequestHead
  pub taken : IsTakenRequest head
  pub length_of : ℕ
  pub sized : HasLength length_of (map name_and_value head.fields)
  pub within : length_of ≤ body_limit
  pub front : List ℕ
  pub less : length front < length_of
  pub spelled : bytes ≡ print_request head ++ front

-- no head is there yet and one can come, or not the whole body
abbrev pub IsUnfinished : List ℕ → Type 0
IsUnfinished bytes = AwaitsRequest bytes ⊎ LacksBody bytes

-- Each fault of reading a request, by what was taken from the source and how its count of faults moved.
abbrev pub IsRequestFault : Option (List ℕ) → Option (List ℕ) → ℕ → ℕ → WireFault → Type 0
IsRequestFault old new before after fault.BadHead = Took old new TurnsBad
IsRequestFault old new before after fault.BadLength = Took old new (HasLengthFault fault.BadLength)
IsRequestFault old new before after (fault.TooLong n) = Took old new (HasLengthFault (fault.TooLong n))
IsRequestFault old new before after fault.Ended = TookLast old new IsUnfinished
IsRequestFault old new before after fault.ReadFault = Rose before after
IsRequestFault old new before after fault.WriteFault = ⊥
IsRequestFault old new before after fault.NoMemory = Unit {0}

-- the same of the head alone
abbrev pub IsHeadFault : Option (List ℕ) → Option (List ℕ) → ℕ → ℕ → WireFault → Type 0
IsHeadFault old new before after fault.BadHead = Took old new TurnsBad
IsHeadFault old new before after fault.Ended = TookLast old new AwaitsRequest
IsHeadFault old new before after fault.ReadFault = Rose before after
IsHeadFault old new before after fault.NoMemory = Unit {0}
IsHeadFault old new before after _ = ⊥

-- of a body of this length
abbrev pub IsBodyFault : ℕ → Option (List ℕ) → Option (List ℕ) → ℕ → ℕ → WireFault → Type 0
IsBodyFault n old new before after fault.Ended = TookLast old new (λ bytes. length bytes < n)
IsBodyFault n old new before after fault.ReadFault = Rose before after
IsBodyFault n old new before after fault.NoMemory = Unit {0}
IsBodyFault n old new before after _ = ⊥

-- and of one byte, after which nothing was taken
abbrev pub IsByteFault : Option (List ℕ) → ℕ → ℕ → WireFault → Type 0
IsByteFault new before after fault.Ended = IsAtEnd new
IsByteFault new before after fault.ReadFault = Rose before after
IsByteFault new before after _ = ⊥

-- a fault that comes whatever the bytes are: of a read that failed, or for want of memory
abbrev pub IsOfOutside : WireFault → Type 0
IsOfOutside e = (e ≡ fault.ReadFault) ⊎ (e ≡ fault.NoMemory)

-- Each fault of reading a response, by its bytes.
pub record LacksResponseBody (bytes : List ℕ) : Type 0 where
  pub head : ResponseHead
  pub taken : IsTakenResponse head
  pub length_of : ℕ
  pub sized : HasLength length_of (map name_and_value head.fields)
  pub within : length_of ≤ body_limit
  pub front : List ℕ
  pub less : length front < length_of
  pub spelled : bytes ≡ print_response head ++ front

abbrev pub HasResponseLengthFault : WireFault → List ℕ → Type 0
HasResponseLengthFault e bytes = (h : ResponseHead) × (rest : List ℕ) × IsTakenResponse h × (bytes ≡ print_response h ++ rest) × IsLengthFault (map name_and_value h.fields) e

abbrev pub IsResponseFault : List ℕ → WireFault → Type 0
IsResponseFault bytes fault.BadHead = IsBadResponse bytes
IsResponseFault bytes fault.BadLength = HasResponseLengthFault fault.BadLength bytes
IsResponseFault bytes (fault.TooLong n) = HasResponseLengthFault (fault.TooLong n) bytes
IsResponseFault bytes fault.Ended = AwaitsResponse bytes ⊎ LacksResponseBody bytes
IsResponseFault bytes fault.NoMemory = Unit {0}
IsResponseFault bytes _ = ⊥
