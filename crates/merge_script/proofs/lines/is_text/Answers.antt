use Rattle.std.proofs.Common.{◌∙◌}
use Rattle.merge_script.proofs.Utf8.{is_ok-is_utf8}
use Rattle.merge_script.proofs.lines.is_text.Goals as goal

pub returns-clause-value : goal.returns-clause-value
returns-clause-value c = c.is_ok.ensures.value ∙ is_ok-is_utf8 _ _ c.args.line.now c.from_utf8.result c.from_utf8.ensures.cases
