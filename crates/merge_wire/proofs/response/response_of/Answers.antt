-- A head and what stands behind it are a response, or say what is wrong.
use Rattle.std.proofs.Common.{rules, ◌≡◌, ◌∙◌, ◌<◌, ℕ, List, length, map, take, drop, refl, sym, ap, subst, arith}
use Rattle.std.proofs.lemmas.List.{length-take}
use Rattle.std.proofs.lemmas.Result.{err_from_is_err_and}
use Rattle.httparse.specs.Spans.{header_bytes}
use Rattle.merge_wire.specs.declared.message.Message.{Message}
use Rattle.merge_wire.specs.Fields.{HasLength, IsLengthFault}
use Rattle.merge_wire.specs.Messages.{IsResponse}
use Rattle.merge_wire.proofs.ResponseLemmas.{parsed, length_fault, ended, response_is}
use Rattle.merge_wire.proofs.response.response_of.Goals as goal

pub returns-in_err-length-clause-fault : goal.returns-in_err-length-clause-fault
returns-in_err-length-clause-fault c =
    let p = err_from_is_err_and c.from_residual.result c.from_residual.ensures.1 in
    rw (p.1, p.2)
    (length_fault c.args.bytes.now c.args.fields.now c.args.spans c.in_err-length.field-0.0 (parsed c.args.bytes.now c.args.fields.now c.args.spans c.requires.head c.requires.within (search rules))
    (subst (λ (buf : List ℕ). IsLengthFault (map (header_bytes buf) (take c.args.spans.headers c.args.fields.now)) c.in_err-length.field-0.0) c.front_of.ensures c.in_err-length.ensures.fault))

pub split_at-requires : goal.split_at-requires
split_at-requires c = omega (arith, c.requires.within.section.len_fits, length-take 8192 c.args.bytes.now)

pub returns-then-behind-length-clause-fault : goal.returns-then-behind-length-clause-fault
returns-then-behind-length-clause-fault c =
    ended c.args.bytes.now c.args.fields.now c.args.spans c.in_ok-length.length (parsed c.args.bytes.now c.args.fields.now c.args.spans c.requires.head c.requires.within (search rules))
    (subst (λ (buf : List ℕ). HasLength c.in_ok-length.length (map (header_bytes buf) (take c.args.spans.headers c.args.fields.now))) c.front_of.ensures c.in_ok-length.ensures.ok.0)
    c.in_ok-length.ensures.ok.1
    (subst (λ (l : List ℕ). length l < c.in_ok-length.length) c.split_at.ensures.back c.if-behind-length.true)

pub returns-clause-read : goal.returns-clause-read
returns-clause-read c =
    subst (λ (m : Message). IsResponse c.args.bytes.now m) (sym c.response.ensures)
    (response_is c.args.bytes.now c.args.fields.now c.args.spans c.in_ok-length.length _ (parsed c.args.bytes.now c.args.fields.now c.args.spans c.requires.head c.requires.within (search rules))
    (subst (λ (buf : List ℕ). HasLength c.in_ok-length.length (map (header_bytes buf) (take c.args.spans.headers c.args.fields.now))) c.front_of.ensures c.in_ok-length.ensures.ok.0)
    c.in_ok-length.ensures.ok.1
    (omega (arith, ap length c.split_at.ensures.back))
    (c.in_ok-body.ensures ∙ ap (λ (l : List ℕ). take c.in_ok-length.length l) c.split_at.ensures.back)
    refl refl refl refl)
