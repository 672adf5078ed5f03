-- What comes over a connection: a request, or something else that is answered without the desk.
use Rattle.std.specs.Prelude.{Bool, List, None, Option, Some, codes, false, true, ℕ, ◌≡◌, ◌≢◌, ◌⊎◌}
use Rattle.merge_batch.specs.declared.request.Kind.{Kind}
use Rattle.merge_batch.specs.declared.request.Request.{Request}
use Rattle.merge_json.specs.Messages.{IsSent, IsSentBad}
use Rattle.merge_json.specs.Requests.{kind_at}
use Rattle.merge_ports.specs.Faults.{Rose}
use Rattle.merge_wire.specs.Faults.{IsRequestFault, Took}
use Rattle.merge_wire.specs.Messages.{IsRequest}
use Rattle.merge_wire.specs.declared.fault.WireFault.{WireFault}
use Rattle.merge_wire.specs.declared.fault.WireFault.TheVariants as fault
use Rattle.merge_wire.specs.declared.message.Message.{Message}
use Rattle.merge_serve.specs.declared.answer.Bare.{Bare}
use Rattle.merge_serve.specs.declared.answer.Bare.TheVariants as bare
use Rattle.merge_serve.specs.declared.asking.Unasked.{Unasked}
use Rattle.merge_serve.specs.declared.asking.Unasked.TheVariants as unasked

-- the bytes that were taken are a message, and it is such
abbrev pub Came : Option (List ℕ) → Option (List ℕ) → (Message → Type 0) → Type 0
Came old new Is = (m : Message) × Took old new (λ bytes. IsRequest bytes m) × Is m

-- its path is one that requests go to
abbrev pub HasPath : Message → Type 0
HasPath m = (kind : Kind) × (kind_at m.path ≡ Some kind)

abbrev pub IsPost : Message → Type 0
IsPost m = m.method ≡ codes "POST"

-- the bytes that were taken are a request of a subscriber
abbrev pub Asks : Option (List ℕ) → Option (List ℕ) → Request → Type 0
Asks old new r = Came old new (λ m. IsPost m × IsSent m.path m.body r)

-- the faults of a message that can be answered
abbrev pub is_broken : WireFault → Bool
is_broken fault.BadHead = true
is_broken fault.BadLength = true
is_broken fault.Ended = true
is_broken _ = false

-- the bytes that were taken are no message
abbrev pub IsBroken : Option (List ℕ) → Option (List ℕ) → ℕ → ℕ → Type 0
IsBroken old new before after = (e : WireFault) × (is_broken e ≡ true) × IsRequestFault old new before after e

-- they are one to a path of requests, by their method, and its body is none
abbrev pub HasBadBody : Message → Type 0
HasBadBody m = HasPath m × IsPost m × ((place : ℕ) × IsSentBad m.path m.body place)

-- a message that is no request, and is answered so
abbrev pub IsNoRequest : Message → Bare → Type 0
IsNoRequest m bare.BadRequest = HasBadBody m
IsNoRequest m bare.NotFound = kind_at m.path ≡ None
IsNoRequest m bare.MethodNotAllowed = HasPath m × (m.method ≢ codes "POST")
IsNoRequest m bare.NoMemory = Unit {0}
IsNoRequest m _ = ⊥

-- What came is answered so without the desk, by what was taken from the source and how its count of faults moved.
abbrev pub IsDeclined : Option (List ℕ) → Option (List ℕ) → ℕ → ℕ → Bare → Type 0
IsDeclined old new before after bare.BadRequest = IsBroken old new before after ⊎ Came old new HasBadBody
IsDeclined old new before after bare.TooLong = (n : ℕ) × IsRequestFault old new before after (fault.TooLong n)
IsDeclined old new before after bare.NoMemory = Unit {0}
IsDeclined old new before after why = Came old new (λ m. IsNoRequest m why)

-- no request came, or a read failed
abbrev pub IsUnasked : Option (List ℕ) → Option (List ℕ) → ℕ → ℕ → Unasked → Type 0
IsUnasked old new before after (unasked.Declined why) = IsDeclined old new before after why
IsUnasked old new before after unasked.ReadFault = Rose before after

-- what comes of a message that is not read
abbrev pub unasked_of_fault : WireFault → Unasked
unasked_of_fault fault.BadHead = unasked.Declined bare.BadRequest
unasked_of_fault fault.BadLength = unasked.Declined bare.BadRequest
unasked_of_fault (fault.TooLong n) = unasked.Declined bare.TooLong
unasked_of_fault fault.Ended = unasked.Declined bare.BadRequest
unasked_of_fault fault.ReadFault = unasked.ReadFault
unasked_of_fault fault.WriteFault = unasked.Declined bare.NoMemory
unasked_of_fault fault.NoMemory = unasked.Declined bare.NoMemory
