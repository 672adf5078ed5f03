-- Where the desk is not called the seat stays.
use Rattle.std.proofs.Common.{refl}
use Rattle.merge_serve.proofs.Replied.{later_same}
use Rattle.merge_serve.proofs.attending.answer_of.Goals as goal

pub returns-in-Err-Declined-clause-grown : goal.returns-in-Err-Declined-clause-grown
returns-in-Err-Declined-clause-grown g c = later_same _ _ refl

pub returns-clause-grown : goal.returns-clause-grown
returns-clause-grown g c = later_same _ _ refl
