use Rattle.std.proofs.Common.{None, Some, sym, ◌∙◌}
use Rattle.merge_reading.proofs.Settings.{setting_by}
use Rattle.merge_reading.proofs.word.setting.Goals as goal

pub returns-in_default-2 : goal.returns-in_default-2
returns-in_default-2 c =
    setting_by c.args.word.now _ _ (Some c.in-Some.column) None c.parted.ensures.before c.parted.ensures.after (sym c.in-Some.is ∙ c.in_ok-column.ensures) (sym c.in_default-2.is ∙ c.in_ok-value.ensures)

pub returns : goal.returns
returns c =
    setting_by c.args.word.now _ _ (Some c.in-Some.column) (Some c.in-Some-2.value) c.parted.ensures.before c.parted.ensures.after (sym c.in-Some.is ∙ c.in_ok-column.ensures) (sym c.in-Some-2.is ∙ c.in_ok-value.ensures)
