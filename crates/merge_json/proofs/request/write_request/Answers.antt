use Rattle.merge_json.proofs.Plain.{request_plain, request_flat}
use Rattle.merge_json.proofs.Sent.{request_again}
use Rattle.merge_json.proofs.SentForms.{sent_found}
use Rattle.std.proofs.Common.{◌≡◌, ◌∙◌, ◌≤◌, ℕ, List, length, Some, ap, subst, sym}
use Rattle.serde_json.specs.Written.{compact_text}
use Rattle.merge_json.proofs.RequestLengths.{request_fits}
use Rattle.merge_json.proofs.request.write_request.Goals as goal

pub write-requires-clause-plain : goal.write-requires-clause-plain
write-requires-clause-plain c = rw c.in_ok-value.ensures.told (request_plain c.args.request.now)

pub write-requires-clause-flat : goal.write-requires-clause-flat
write-requires-clause-flat c = rw c.in_ok-value.ensures.told (request_flat c.args.request.now)

pub returns-clause-reads_back : goal.returns-clause-reads_back
returns-clause-reads_back c = sent_found _ _ c.args.request.now (request_again c.args.request.now _ _ c.in_ok-body.ensures.reads_back (rw c.in_ok-value.ensures.told c.in_ok-value.ensures.again))

pub returns-clause-short : goal.returns-clause-short
returns-clause-short c = λ short.
    let told = c.in_ok-value.ensures.told in
    let text : c.in_ok-body.body ≡ compact_text _ = c.in_ok-body.ensures.text ∙ ap compact_text told in
    subst (λ (bytes : List ℕ). length bytes ≤ 134_217_728) (sym text) (request_fits c.args.request.now _ (c.in_ok-body.ensures.reads_back ∙ ap (λ d. Some d) told) c.in_ok-value.ensures.again short)
