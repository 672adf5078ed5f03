-- The head and the body, one behind the other, are the request, or say what is wrong.
use Rattle.std.proofs.Common.{rules, ◌≡◌, ◌∙◌, ◌≤◌, ℕ, List, length, map, take, refl, sym, ap, subst, arith, IsUtf8}
use Rattle.std.proofs.lemmas.Result.{err_from_is_err_and}
use Rattle.httparse.specs.Spans.{header_bytes, span_bytes}
use Rattle.merge_ports.proofs.Known.{Consumes-append}
use Rattle.merge_wire.specs.Fields.{HasLength, IsLengthFault, body_limit}
use Rattle.merge_wire.proofs.MessageLemmas.{parsed, request_is, method_text}
use Rattle.merge_wire.proofs.FaultLemmas.{length_fault, body_fault}
use Rattle.merge_wire.proofs.request.read_message.Goals as goal

pub returns-in_err-length-clause-fault : goal.returns-in_err-length-clause-fault
returns-in_err-length-clause-fault g c =
    let p = err_from_is_err_and c.from_residual-in_err-length.result c.from_residual-in_err-length.ensures.1 in
    rw (p.1, p.2)
    (length_fault _ _ _ _ c.in_ok-head.head c.read_head.new.fields c.in_ok-head.spans c.in_err-length.field-0.0 c.in_ok-head.ensures.taken
    (parsed c.in_ok-head.head c.read_head.new.fields c.in_ok-head.spans c.in_ok-head.ensures.head (omega (arith, c.in_ok-head.ensures.whole)) c.in_ok-head.ensures.limit (search rules))
    (subst (λ (buf : List ℕ). IsLengthFault (map (header_bytes buf) (take c.in_ok-head.spans.headers c.read_head.new.fields)) c.in_err-length.field-0.0) c.as_slice.ensures c.in_err-length.ensures.fault))

pub text_of-requires-clause-text : goal.text_of-requires-clause-text
text_of-requires-clause-text g c =
    subst (λ (buf : List ℕ). IsUtf8 (span_bytes buf c.in_ok-head.spans.method)) (sym c.as_slice-2.ensures)
    (method_text c.in_ok-head.head c.read_head.new.fields c.in_ok-head.spans (parsed c.in_ok-head.head c.read_head.new.fields c.in_ok-head.spans c.in_ok-head.ensures.head (omega (arith, c.in_ok-head.ensures.whole)) c.in_ok-head.ensures.limit (search rules)))

pub returns-in_err-body-clause-fault : goal.returns-in_err-body-clause-fault
returns-in_err-body-clause-fault g c =
    let p = err_from_is_err_and c.from_residual-in_err-body.result c.from_residual-in_err-body.ensures.1 in
    rw (p.1, p.2)
    (body_fault _ (g.S.Source.left c.read_head.new.source) _ _ (g.S.Source.count c.read_head.new.source) _ c.in_ok-head.head c.read_head.new.fields c.in_ok-head.spans c.in_ok-length.length c.in_err-body.field-0.0
    c.in_ok-head.ensures.taken c.in_ok-head.ensures.later
    (parsed c.in_ok-head.head c.read_head.new.fields c.in_ok-head.spans c.in_ok-head.ensures.head (omega (arith, c.in_ok-head.ensures.whole)) c.in_ok-head.ensures.limit (search rules))
    (subst (λ (buf : List ℕ). HasLength c.in_ok-length.length (map (header_bytes buf) (take c.in_ok-head.spans.headers c.read_head.new.fields))) c.as_slice.ensures c.in_ok-length.ensures.ok.0)
    c.in_ok-length.ensures.ok.1 c.in_err-body.ensures.fault)

pub returns-in_err-body-clause-front : goal.returns-in_err-body-clause-front
returns-in_err-body-clause-front g c = (
  _,
  Consumes-append _ (g.S.Source.left c.read_head.new.source) _ _ _ c.in_ok-head.ensures.taken c.in_err-body.ensures.front.1,
)

pub returns-clause-front : goal.returns-clause-front
returns-clause-front g c = (
  _,
  Consumes-append _ (g.S.Source.left c.read_head.new.source) _ _ _ c.in_ok-head.ensures.taken c.in_ok-body.ensures.taken,
)

pub returns-clause-read : goal.returns-clause-read
returns-clause-read g c = (
  _,
  Consumes-append _ (g.S.Source.left c.read_head.new.source) _ _ _ c.in_ok-head.ensures.taken c.in_ok-body.ensures.taken,
  request_is c.in_ok-head.head c.read_head.new.fields c.in_ok-head.spans _ (parsed c.in_ok-head.head c.read_head.new.fields c.in_ok-head.spans c.in_ok-head.ensures.head (omega (arith, c.in_ok-head.ensures.whole)) c.in_ok-head.ensures.limit (search rules))
      (subst (λ (n : ℕ). HasLength n (map (header_bytes c.in_ok-head.head) (take c.in_ok-head.spans.headers c.read_head.new.fields))) (sym c.in_ok-body.ensures.whole)
      (subst (λ (buf : List ℕ). HasLength c.in_ok-length.length (map (header_bytes buf) (take c.in_ok-head.spans.headers c.read_head.new.fields))) c.as_slice.ensures c.in_ok-length.ensures.ok.0))
      (subst (λ (n : ℕ). n ≤ body_limit) (sym c.in_ok-body.ensures.whole) c.in_ok-length.ensures.ok.1)
      (c.in_ok-method.ensures ∙ ap (λ (buf : List ℕ). span_bytes buf c.in_ok-head.spans.method) c.as_slice-2.ensures)
      (c.in_ok-path.ensures ∙ ap (λ (buf : List ℕ). span_bytes buf c.in_ok-head.spans.path) c.as_slice-3.ensures)
      (c.new-2.ensures ∙ c.new.ensures.bytes)
      refl,
)
