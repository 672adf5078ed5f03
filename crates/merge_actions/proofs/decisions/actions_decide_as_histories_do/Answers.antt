use Rattle.merge_laws.proofs.Lineages.LineagesAlways.{all-alike, all-steps, cases-decided, publishers-alike}
use Rattle.merge_actions.proofs.decisions.actions_decide_as_histories_do.Goals as goal

pub returns : goal.returns
returns c = record { stand = all-alike; publisher = publishers-alike; cases = cases-decided; steps = all-steps }
