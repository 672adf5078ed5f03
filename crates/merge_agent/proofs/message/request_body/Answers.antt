-- The body that was written is the one that is posted.
use Rattle.std.proofs.Common.{◌≤◌, ℕ, List, length, subst}
use Rattle.merge_batch.specs.Heads.{kind_of}
use Rattle.merge_json.specs.Limits.{body_limit}
use Rattle.merge_json.specs.Messages.{IsSent}
use Rattle.merge_json.specs.Requests.{path_of}
use Rattle.merge_agent.proofs.message.request_body.Goals as goal

pub returns-clause-readable : goal.returns-clause-readable
returns-clause-readable c = record {
  sent_as = subst (λ (bytes : List ℕ). IsSent (path_of (kind_of c.args.request.now)) bytes c.args.request.now) c.in_ok-body.ensures.text c.in_ok-body.ensures.reads_back;
  fits = λ short. subst (λ (bytes : List ℕ). length bytes ≤ body_limit) c.in_ok-body.ensures.text (c.in_ok-body.ensures.short short);
}
