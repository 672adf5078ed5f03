-- What comes is no request.
use Rattle.std.proofs.Common.{◌≡◌, List, ℕ, inl, inr, refl}
use Rattle.std.specs.declared.option.Option.{Option}
use Rattle.merge_wire.specs.Faults.{IsRequestFault, Took}
use Rattle.merge_wire.specs.Messages.{IsRequest}
use Rattle.merge_wire.specs.declared.fault.WireFault.{WireFault}
use Rattle.merge_wire.specs.declared.fault.WireFault.TheVariants as fault
use Rattle.merge_wire.specs.declared.message.Message.{Message}
use Rattle.merge_serve.specs.declared.answer.Bare.{Bare}
use Rattle.merge_serve.specs.declared.answer.Bare.TheVariants as bare
use Rattle.merge_serve.specs.Asking.{IsDeclined, IsNoRequest, IsUnasked, unasked_of_fault}

pub unasked_fault : (old new : Option (List ℕ)) (before after : ℕ) (e : WireFault) → IsRequestFault old new before after e → IsUnasked old new before after (unasked_of_fault e)
unasked_fault old new before after fault.BadHead p = inl (fault.BadHead, refl, p)
unasked_fault old new before after fault.BadLength p = inl (fault.BadLength, refl, p)
unasked_fault old new before after (fault.TooLong n) p = (n, p)
unasked_fault old new before after fault.Ended p = inl (fault.Ended, refl, p)
unasked_fault old new before after fault.ReadFault p = p
unasked_fault old new before after fault.WriteFault p = tt
unasked_fault old new before after fault.NoMemory p = tt

pub declined_message : (old new : Option (List ℕ)) (before after : ℕ) (m : Message) (why : Bare) → Took old new (λ bytes. IsRequest bytes m) → IsNoRequest m why → IsDeclined old new before after why
declined_message old new before after m bare.BadRequest took p = inr (m, took, p)
declined_message old new before after m bare.NotFound took p = (m, took, p)
declined_message old new before after m bare.MethodNotAllowed took p = (m, took, p)
declined_message old new before after m bare.TooLong took p = absurd p
declined_message old new before after m bare.StoreFault took p = absurd p
declined_message old new before after m bare.NoMemory took p = tt
