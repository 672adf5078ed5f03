use Rattle.merge_typed.proofs.Always.{messages-are-typed}
use Rattle.merge_typed.proofs.typed.messages_are_typed.Goals as goal

pub returns : goal.returns
returns c publication rules typed says tallies slips events is = messages-are-typed publication rules typed says tallies slips events is
