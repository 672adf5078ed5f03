-- What the bytes of a response tell.
use Rattle.std.specs.Prelude.{◌≡◌, ◌≢◌, ◌⊎◌, ℕ, List, ◌==◌, if◌then◌else◌}
use Rattle.merge_batch.specs.declared.request.Kind.{Kind}
use Rattle.merge_batch.specs.declared.request.Kind.TheVariants as kind
use Rattle.merge_wire.specs.declared.message.Message.{Message}
use Rattle.merge_wire.specs.declared.fault.WireFault.{WireFault}
use Rattle.merge_wire.specs.declared.fault.WireFault.TheVariants as wire
use Rattle.merge_wire.specs.Faults.{IsResponseFault}
use Rattle.merge_wire.specs.Messages.{IsResponse}
use Rattle.merge_json.specs.Messages.{IsAnswered, IsAnsweredBad}
use Rattle.merge_agent.specs.declared.answer.Form.{Form}
use Rattle.merge_agent.specs.declared.answer.Form.TheVariants.{Body, Refusal, Stray}
use Rattle.merge_agent.specs.declared.answer.Told.{Told}
use Rattle.merge_agent.specs.declared.answer.Told.TheVariants.{Replied, Spoiled, Declined}

-- What a status says: 200 has a reply of the kind that was asked for, 409 a refusal; 500 is the refusal 7, a store that
-- failed, 507 is want of memory, which has the number 0; no other status is an answer.
abbrev pub form_of : Kind → ℕ → Form
form_of asked status =
    if status == 200 then Body asked
    else (if status == 409 then Body kind.Refused
    else (if status == 500 then Refusal 7
    else (if status == 507 then Refusal 0
    else Stray)))

-- a body that is to be a reply of a kind
abbrev pub TellsBody : Kind → List ℕ → Told → Type 0
TellsBody asked body (Replied reply) = IsAnswered asked body reply
TellsBody asked body (Spoiled place) = IsAnsweredBad asked body place
TellsBody asked body (Declined number) = ⊥

abbrev pub TellsBy : Form → List ℕ → Told → Type 0
TellsBy (Body asked) body told = TellsBody asked body told
TellsBy (Refusal number) body told = told ≡ Declined number
TellsBy Stray body told = told ≡ Spoiled 0

-- bytes that begin with a response
abbrev pub TellsResponse : Kind → List ℕ → Told → Type 0
TellsResponse asked bytes told = (m : Message) × IsResponse bytes m × TellsBy (form_of asked m.status) m.body told

-- bytes that begin with none
abbrev pub TellsNone : List ℕ → Told → Type 0
TellsNone bytes told = (e : WireFault) × (e ≢ wire.NoMemory) × IsResponseFault bytes e × (told ≡ Spoiled 0)

-- what bytes tell that answer a message of a kind
unfoldable pub Tells : Kind → List ℕ → Told → Type 0
Tells asked bytes told = TellsResponse asked bytes told ⊎ TellsNone bytes told
