-- What a desk left that was closed.
use Rattle.merge_service.proofs.Days.{closed-so, torn-so}
use Rattle.merge_service.proofs.day.close_day.Goals as goal

pub returns-in-Ok : goal.returns-in-Ok
returns-in-Ok g c = closed-so _ _ _ _ _ _ _ _ _ _ _ c.closed_day.ensures.ended c.closed_day.ensures.tables c.in-Ok.ensures.journal c.in-Ok.ensures.told c.in-Ok.ensures.calls c.in-Ok.ensures.few
    c.in-Ok.ensures.paid c.closed_day.ensures.paid c.requires.paid

pub returns-in-Err : goal.returns-in-Err
returns-in-Err g c = torn-so _ _ _ _ _ _ _ _ _ _ _ _ c.torn_day.ensures.ended c.torn_day.ensures.tables c.in-Err.ensures.differs c.in-Err.ensures.spent c.torn_day.ensures.paid c.requires.paid
