use Rattle.std.specs.Prelude.{option_copied}
use Rattle.merge_part.specs.declared.link.Link.{Link}
use Rattle.merge_part.proofs.Entries.{entered_none, entered_passed, entered_next}
use Rattle.merge_part.proofs.Reasons.{link_at}
use Rattle.merge_part.proofs.entering.enter_child.Goals as goal
use Rattle.merge_part.proofs.entering.enter_child.Goals.{then-link-key+in_ok-replace, else-link-key}

pub loop-number-init : goal.loop-number-init
loop-number-init c = entered_none (λ (link : Link). link.child) (λ (link : Link). link.column) c.args.links.now c.args.key (option_copied c.args.old) (option_copied c.args.new) c.args.draft.now

pub loop-number-preserved : goal.loop-number-preserved
loop-number-preserved c =
    elim c.if-link-key.branch [
      | then-link-key+in_ok-replace w ↦
          rw w.draft-is (entered_next (λ (link : Link). link.child) (λ (link : Link). link.column) c.args.links.now c.args.key (option_copied c.args.old) (option_copied c.args.new) c.args.draft.now c.loop-number.draft w.replace.new.draft c.loop-number.number _
          (link_at c.args.links.now c.loop-number.number c.loop-number-test.true) w.if-link-key.true (rw (w.content_value-before.ensures, w.content_value-after.ensures) at w.in_ok-replace.ensures) c.loop-number.invariant)
      | else-link-key w ↦
          rw w.draft-is (entered_passed (λ (link : Link). link.child) (λ (link : Link). link.column) c.args.links.now c.args.key (option_copied c.args.old) (option_copied c.args.new) c.args.draft.now c.loop-number.draft c.loop-number.number _
          (link_at c.args.links.now c.loop-number.number c.loop-number-test.true) w.if-link-key.false c.loop-number.invariant)
    ]
