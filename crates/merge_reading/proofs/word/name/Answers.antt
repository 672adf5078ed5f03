use Rattle.std.proofs.Common.{◌≡◌, true, rules, arith}
use Rattle.merge_script.specs.Names.{is_name_text}
use Rattle.merge_reading.proofs.Names.{name_is_text}
use Rattle.merge_reading.proofs.word.name.Goals as goal

pub returns-in-Err : goal.returns-in-Err
returns-in-Err c =
    let named : is_name_text c.args.word.now ≡ true = first_of (cc, search rules, grind arith) in
    absurd (c.in-Err.ensures.cases.0 (name_is_text c.args.word.now named))
