-- What stands behind the first space is the front of a target, or the target has ended.
use Rattle.std.proofs.Common.{◌<◌, ◌∙◌, length, refl, sym, arith}
use Rattle.std.proofs.lemmas.Bool.{true≢false}
use Rattle.merge_wire.proofs.Targets.{unspaced_can, closed_can, open_can, open_text}
use Rattle.merge_wire.proofs.target.can_become_request.Goals as goal

pub returns-then-at-bytes : goal.returns-then-at-bytes
returns-then-at-bytes c = (λ _. unspaced_can c.args.bytes.now c.word_len-at.result c.word_len-at.ensures.count (omega arith) c.requires, λ _. refl)

pub returns-then-is_target : goal.returns-then-is_target
returns-then-is_target c =
    let less : c.word_len-at.result < length c.args.bytes.now = omega (arith, c.word_len-at.ensures.within) in
    let uri = c.is_target.ensures.0 c.if-is_target.true in (
      λ is. open_can c.args.bytes.now _ c.word_len-at.result c.word_len-at.ensures.count less c.split_at.ensures.back (c.begins_text.ensures.0 is) c.requires,
      λ can. c.begins_text.ensures.1 (open_text c.args.bytes.now _ c.word_len-at.result c.word_len-at.ensures.count less c.split_at.ensures.back uri can),
    )

pub returns-else-is_target : goal.returns-else-is_target
returns-else-is_target c =
    let less : c.word_len-at.result < length c.args.bytes.now = omega (arith, c.word_len-at.ensures.within) in (
      λ _. closed_can c.args.bytes.now _ c.word_len-at.result c.word_len-at.ensures.count less c.split_at.ensures.back (λ uri. true≢false (sym (c.is_target.ensures.1 uri) ∙ c.if-is_target.false)) c.requires,
      λ _. refl,
    )
