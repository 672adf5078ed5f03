use Rattle.std.proofs.Common.{rules}
use Rattle.merge_sub.proofs.Messages.{ranges-drafted}
use Rattle.merge_sub.proofs.subscriber.Subscriber.draft_ranges.Goals as goal

pub returns-clause-made : goal.returns-clause-made
returns-clause-made c = ranges-drafted _ _ c.self.view_is (search rules) (search rules) c.in_ok-draft_message.field-0 (search rules) c.in_ok-wants.field-0 c.in_ok-wants.ensures
