use Rattle.std.proofs.Common.{rules, subst}
use Rattle.std.specs.List.{AllByRecursion}
use Rattle.merge_json.specs.Written.{ReadsBack}
use Rattle.merge_json.specs.Requests.{want_at}
use Rattle.merge_json.specs.WrittenRequests.{want_data}
use Rattle.merge_json.proofs.RequestsAgain.{ask_again}
use Rattle.merge_json.proofs.written_requests.ask_value.Goals as goal

pub returns-clause-again : goal.returns-clause-again
returns-clause-again c = ask_again c.args.ask.now (search rules) (subst (AllByRecursion (ReadsBack want_at want_data)) c.as_slice-listed.ensures c.in_ok-wants.ensures.again)
