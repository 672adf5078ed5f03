-- How a desk ended that was closed with the seats that it began with.
use Rattle.std.proofs.Common.{◌∙◌}
use Rattle.merge_service.proofs.Days.{ends-so}
use Rattle.merge_service.proofs.day.hold_day.Goals as goal

pub returns : goal.returns
returns g c = ends-so _ _ _ _ _ _ _ _ _ _ _ _ _ _ _ c.requires.publication c.requires.says c.requires.tables c.close_day-closed.ensures
    (c.serve-served.ensures.numbers ∙ c.in-Ok.ensures.numbers) c.in-Ok.ensures.none.0 c.serve-served.ensures.length c.serve-served.ensures.seats
    c.serve-served.ensures.few c.serve-served.ensures.handed c.serve-served.ensures.whole
