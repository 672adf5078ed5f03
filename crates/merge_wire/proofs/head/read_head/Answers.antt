-- The bytes that were taken are the head, and nothing behind it.
use Rattle.std.proofs.Common.{◌≡◌, ◌∙◌, ℕ, List, length, inl, sym, ap, subst, arith}
use Rattle.std.specs.Io.KnownBytes.{Consumes}
use Rattle.std.proofs.lemmas.Result.{err_from_is_err_and}
use Rattle.merge_ports.proofs.Known.{Consumes-append}
use Rattle.merge_wire.specs.Heads.{NoRequestCan}
use Rattle.merge_wire.proofs.BadHeads.{turns_bad, full_turns_bad}
use Rattle.merge_wire.proofs.FaultLemmas.{bad_head}
use Rattle.merge_wire.proofs.HeadLemmas.{whole_is}
use Rattle.merge_wire.proofs.head.read_head.Goals as goal

pub returns-in_err-head-clause-front : goal.returns-in_err-head-clause-front
returns-in_err-head-clause-front g c = (
  _,
  Consumes-append _ (g.S.Source.left c.loop.source) _ _ _ c.loop.invariant.taken c.in_ok-byte.ensures.taken,
)

pub returns-in-Some-clause-whole : goal.returns-in-Some-clause-whole
returns-in-Some-clause-whole g c =
    whole_is c.loop.head c.in_ok-byte.byte c.as_slice.result.now _ c.in-Some.spans c.loop.invariant.open_head (c.as_slice.ensures ∙ c.in_ok-head.ensures) (rw c.in-Some.is at c.in_ok-spans.ensures.some) (rw c.in-Some.is at c.in_ok-spans.ensures.within)
    ∙ ap length (c.as_slice.ensures ∙ sym c.into_octets.ensures)

pub returns-in-Some-clause-front : goal.returns-in-Some-clause-front
returns-in-Some-clause-front g c = (
  _,
  Consumes-append _ (g.S.Source.left c.loop.source) _ _ _ c.loop.invariant.taken c.in_ok-byte.ensures.taken,
)

pub returns-in_err-spans-clause-fault : goal.returns-in_err-spans-clause-fault
returns-in_err-spans-clause-fault g c =
    let p = err_from_is_err_and c.from_residual-in_err-spans.result c.from_residual-in_err-spans.ensures.1 in
    rw (p.1, p.2)
    (bad_head _ _ _ _ _ c.in_err-spans.field-0.0 c.in_err-spans.ensures.bad.0
    (Consumes-append _ (g.S.Source.left c.loop.source) _ _ _ c.loop.invariant.taken c.in_ok-byte.ensures.taken)
    (turns_bad c.loop.head c.in_ok-byte.byte (omega (arith, c.loop.invariant.counted)) c.loop.invariant.open_head c.loop.invariant.hopeful c.loop.invariant.few
    (inl (subst (λ (l : List ℕ). NoRequestCan l) (c.as_slice.ensures ∙ c.in_ok-head.ensures) c.in_err-spans.ensures.bad.1))))

pub returns-clause-fault : goal.returns-clause-fault
returns-clause-fault g c = (
  c.loop.head,
  c.loop.invariant.taken,
  full_turns_bad c.loop.head (omega (arith, c.loop.invariant.counted)) c.loop.invariant.open_head c.loop.invariant.hopeful c.loop.invariant.few,
)

pub returns-in-Some-clause-taken : goal.returns-in-Some-clause-taken
returns-in-Some-clause-taken g c =
    subst (λ (l : List ℕ). Consumes (g.S.Source.left c.args.source.now) (g.S.Source.left c.next.new.source) l) (sym (c.into_octets.ensures ∙ c.in_ok-head.ensures))
    (Consumes-append _ (g.S.Source.left c.loop.source) _ _ _ c.loop.invariant.taken c.in_ok-byte.ensures.taken)
