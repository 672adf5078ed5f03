-- Faults of the parts of a request are faults of the request.
use Rattle.std.proofs.Common.{◌≡◌, ◌∙◌, ◌≤◌, ◌<◌, ◌⊎◌, inl, inr, ℕ, List, ◌++◌, length, map, take, sym, ap, subst, arith}
use Rattle.std.specs.declared.option.Option.{Option}
use Rattle.std.specs.Io.KnownBytes.{Consumes, IsAtEnd}
use Rattle.httparse.specs.Spans.{header_bytes, name_and_value}
use Rattle.httparse.specs.declared.spans.HeaderSpan.{HeaderSpan}
use Rattle.httparse.specs.declared.spans.RequestSpans.{RequestSpans}
use Rattle.merge_ports.specs.Faults.{Rose}
use Rattle.merge_ports.proofs.Known.{Consumes-append}
use Rattle.merge_wire.specs.declared.fault.WireFault.{WireFault}
use Rattle.merge_wire.specs.declared.fault.WireFault.TheVariants as fault
use Rattle.merge_wire.specs.Fields.{Pair, HasLength, IsLengthFault, body_limit}
use Rattle.merge_wire.specs.Heads.{TurnsBad}
use Rattle.merge_wire.specs.Faults.{Took, TookLast, HasLengthFault, LacksBody, IsRequestFault, IsHeadFault, IsBodyFault}
use Rattle.merge_wire.proofs.MessageLemmas.{Parsed}

pub head_fault : (old new : Option (List ℕ)) (before after : ℕ) (e : WireFault) → IsHeadFault old new before after e → IsRequestFault old new before after e
head_fault old new before after fault.BadHead h = h
head_fault old new before after fault.BadLength h = absurd h
head_fault old new before after (fault.TooLong n) h = absurd h
head_fault old new before after fault.Ended h = (h.0, h.1, h.2, inl h.3)
head_fault old new before after fault.ReadFault h = h
head_fault old new before after fault.WriteFault h = absurd h
head_fault old new before after fault.NoMemory h = tt

pub bad_head : (old new : Option (List ℕ)) (before after : ℕ) (bytes : List ℕ) (e : WireFault) → e ≡ fault.BadHead → Consumes old new bytes → TurnsBad bytes → IsHeadFault old new before after e
bad_head old new before after bytes e is took bad = subst (λ (x : WireFault). IsHeadFault old new before after x) (sym is) (bytes, took, bad)

-- the fields that the spans cover are those of the head
with_pairs : (fs gs : List Pair) (e : WireFault) → fs ≡ gs → IsLengthFault fs e → IsLengthFault gs e
with_pairs fs gs e same h = subst (λ (l : List Pair). IsLengthFault l e) same h

pub length_fault : (old new : Option (List ℕ)) (before after : ℕ) (buf : List ℕ) (fields : List HeaderSpan) (r : RequestSpans) (e : WireFault) → Consumes old new buf → Parsed buf fields r
    → IsLengthFault (map (header_bytes buf) (take r.headers fields)) e → IsRequestFault old new before after e
length_fault old new before after buf fields r fault.BadHead took p h = absurd h
length_fault old new before after buf fields r fault.BadLength took p h = (buf, took, (p.head, p.taken, p.spelled, with_pairs _ _ fault.BadLength p.pairs h))
length_fault old new before after buf fields r (fault.TooLong n) took p h = (buf, took, (p.head, p.taken, p.spelled, with_pairs _ _ (fault.TooLong n) p.pairs h))
length_fault old new before after buf fields r fault.Ended took p h = absurd h
length_fault old new before after buf fields r fault.ReadFault took p h = absurd h
length_fault old new before after buf fields r fault.WriteFault took p h = absurd h
length_fault old new before after buf fields r fault.NoMemory took p h = absurd h

rose_later : (a b c : ℕ) → a ≤ b → Rose b c → Rose a c
rose_later a b c le rose = omega (arith, rose)

pub body_fault : (old mid new : Option (List ℕ)) (before between after : ℕ) (buf : List ℕ) (fields : List HeaderSpan) (r : RequestSpans) (n : ℕ) (e : WireFault) → Consumes old mid buf → before ≤ between → Parsed buf fields r
    → HasLength n (map (header_bytes buf) (take r.headers fields)) → n ≤ body_limit → IsBodyFault n mid new between after e → IsRequestFault old new before after e
body_fault old mid new before between after buf fields r n fault.BadHead took le p sized within h = absurd h
body_fault old mid new before between after buf fields r n fault.BadLength took le p sized within h = absurd h
body_fault old mid new before between after buf fields r n (fault.TooLong k) took le p sized within h = absurd h
body_fault old mid new before between after buf fields r n fault.Ended took le p sized within h =
    let lacks : LacksBody (buf ++ h.0) = record {
      head = p.head;
      taken = p.taken;
      length_of = n;
      sized = subst (λ (fs : List Pair). HasLength n fs) p.pairs sized;
      within = within;
      front = h.0;
      less = h.3;
      spelled = ap (λ (l : List ℕ). l ++ h.0) p.spelled;
    } in
    (buf ++ h.0, Consumes-append old mid new buf h.0 took h.1, h.2, inr lacks)
body_fault old mid new before between after buf fields r n fault.ReadFault took le p sized within h = rose_later before between after le h
body_fault old mid new before between after buf fields r n fault.WriteFault took le p sized within h = absurd h
body_fault old mid new before between after buf fields r n fault.NoMemory took le p sized within h = tt
