use Rattle.merge_json.proofs.Plain.{reply_plain, reply_flat}
use Rattle.merge_json.proofs.Sent.{reply_again}
use Rattle.merge_json.proofs.AnswerForms.{answered_found}
use Rattle.std.proofs.Common.{◌≡◌, ◌∙◌, ◌≤◌, ℕ, List, length, Some, ap, subst, sym}
use Rattle.serde_json.specs.Written.{compact_text}
use Rattle.merge_json.proofs.ReplyLengths.{reply_fits}
use Rattle.merge_json.proofs.reply.write_reply.Goals as goal

pub write-requires-clause-plain : goal.write-requires-clause-plain
write-requires-clause-plain c = rw c.in_ok-value.ensures.told (reply_plain c.args.reply.now)

pub write-requires-clause-flat : goal.write-requires-clause-flat
write-requires-clause-flat c = rw c.in_ok-value.ensures.told (reply_flat c.args.reply.now)

pub returns-clause-reads_back : goal.returns-clause-reads_back
returns-clause-reads_back c = answered_found _ _ c.args.reply.now (reply_again c.args.reply.now _ _ c.in_ok-body.ensures.reads_back (rw c.in_ok-value.ensures.told c.in_ok-value.ensures.again))

pub returns-clause-short : goal.returns-clause-short
returns-clause-short c = λ short.
    let told = c.in_ok-value.ensures.told in
    let text : c.in_ok-body.body ≡ compact_text _ = c.in_ok-body.ensures.text ∙ ap compact_text told in
    subst (λ (bytes : List ℕ). length bytes ≤ 134_217_728) (sym text) (reply_fits c.args.reply.now _ (c.in_ok-body.ensures.reads_back ∙ ap (λ d. Some d) told) c.in_ok-value.ensures.again short)
