use Rattle.std.proofs.Common.{arith}
use Rattle.merge_json.proofs.Again.{bytes_again}
use Rattle.merge_json.proofs.written.bytes_value.Goals as goal

pub returns-clause-again : goal.returns-clause-again
returns-clause-again c = bytes_again c.args.bytes.now (λ i. omega (arith, c.type_inv.bytes i))
