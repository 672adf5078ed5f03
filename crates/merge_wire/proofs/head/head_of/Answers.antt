-- What the parser refuses, what has too many lines, and a target that can become no text, is no head.
use Rattle.std.proofs.Common.{◌∙◌, rules, refl, sym, arith}
use Rattle.std.proofs.lemmas.Bool.{true≢false}
use Rattle.httparse.proofs.HeadLemmas.{on_partial}
use Rattle.merge_wire.proofs.BadHeads.{refused_request, too_many_in_request, none_in_request}
use Rattle.merge_wire.proofs.head.head_of.Goals as goal

pub returns-then-lines-gt-LINE_LIMIT-clause-bad : goal.returns-then-lines-gt-LINE_LIMIT-clause-bad
returns-then-lines-gt-LINE_LIMIT-clause-bad c =
    (refl, too_many_in_request c.args.bytes.now (on_partial c.in-Ok-Partial.is c.in-Ok-Partial.field-0-is c.parse_request.ensures.partial) (omega (arith, c.lines.ensures)))

pub can_become_request-requires : goal.can_become_request-requires
can_become_request-requires c = on_partial c.in-Ok-Partial.is c.in-Ok-Partial.field-0-is c.parse_request.ensures.unfinished

pub returns-else-can_become_request-clause-bad : goal.returns-else-can_become_request-clause-bad
returns-else-can_become_request-clause-bad c =
    (refl, none_in_request c.args.bytes.now (λ can. true≢false (sym (c.can_become_request.ensures.1 can) ∙ c.if-can_become_request.false)))

pub returns-in-Err-clause-bad : goal.returns-in-Err-clause-bad
returns-in-Err-clause-bad c = (
  refl,
  refused_request c.args.bytes.now _ c.parse_request.result c.in-Err.field-0 (search rules) c.in-Err.is c.parse_request.ensures.invalid c.parse_request.ensures.no_room c.parse_request.ensures.too_many,
)
