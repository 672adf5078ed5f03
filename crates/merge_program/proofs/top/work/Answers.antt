-- The words say a command, or none.
use Rattle.std.proofs.Common.{Option, false, refl, subst, sym, ◌≡◌}
use Rattle.merge_program.specs.declared.command.Command.{Command}
use Rattle.merge_program.specs.Commands.{reads_input}
use Rattle.merge_program.proofs.Addresses.{meant}
use Rattle.merge_program.proofs.Commands.{by-none, by-words, lacking, none-changed, own-said, same-command}
use Rattle.merge_program.proofs.Ends.{nothing-written}
use Rattle.merge_program.proofs.top.work.Goals as goal

pub returns-in-Ok-None-clause-ends : goal.returns-in-Ok-None-clause-ends
returns-in-Ok-None-clause-ends g c = let said = rw c.in-Ok-None.field-0-is at c.in-Ok-None.ensures.ok in by-none _ _ _ _ (sym said) refl refl refl refl refl

pub returns-in-Ok-None-clause-played : goal.returns-in-Ok-None-clause-played
returns-in-Ok-None-clause-played g c = λ play. nothing-written _ _ _ refl

pub returns-in-Ok-None-clause-counted : goal.returns-in-Ok-None-clause-counted
returns-in-Ok-None-clause-counted g c = λ other. refl

pub obey-requires : goal.obey-requires
obey-requires g c = let said = rw c.in-Ok-Some.field-0-is at c.in-Ok-Some.ensures.ok in meant c.args.words.now _ said

pub returns-in-Ok-Some-clause-ends : goal.returns-in-Ok-Some-clause-ends
returns-in-Ok-Some-clause-ends g c = let said = rw c.in-Ok-Some.field-0-is at c.in-Ok-Some.ensures.ok in by-words _ _ _ _ _ said c.obey.ensures.ends

pub returns-in-Ok-Some-clause-played : goal.returns-in-Ok-Some-clause-played
returns-in-Ok-Some-clause-played g c = λ play. let said = rw c.in-Ok-Some.field-0-is at c.in-Ok-Some.ensures.ok in c.obey.ensures.played (same-command _ _ _ said play)

pub returns-in-Ok-Some-clause-silent : goal.returns-in-Ok-Some-clause-silent
returns-in-Ok-Some-clause-silent g c = c.obey.ensures.silent

pub returns-in-Ok-Some-clause-counted : goal.returns-in-Ok-Some-clause-counted
returns-in-Ok-Some-clause-counted g c = c.obey.ensures.counted

pub returns-in-Err-clause-ends : goal.returns-in-Err-clause-ends
returns-in-Err-clause-ends g c = lacking _ _ _ c.in-Err.ensures.err refl refl refl refl

pub returns-in-Err-clause-played : goal.returns-in-Err-clause-played
returns-in-Err-clause-played g c = λ play. nothing-written _ _ _ refl

pub returns-in-Err-clause-counted : goal.returns-in-Err-clause-counted
returns-in-Err-clause-counted g c = λ other. refl

pub returns-in-Ok-Some-clause-unread : goal.returns-in-Ok-Some-clause-unread
returns-in-Ok-Some-clause-unread g c = λ none. let said = rw c.in-Ok-Some.field-0-is at c.in-Ok-Some.ensures.ok in c.obey.ensures.unread (subst (λ (command : Option Command). reads_input command ≡ false) (sym said) none)

pub returns-in-Ok-None-clause-others : goal.returns-in-Ok-None-clause-others
returns-in-Ok-None-clause-others g c = none-changed _ _

pub returns-in-Ok-Some-clause-others : goal.returns-in-Ok-Some-clause-others
returns-in-Ok-Some-clause-others g c = let said = rw c.in-Ok-Some.field-0-is at c.in-Ok-Some.ensures.ok in own-said _ _ _ _ said c.obey.ensures.others

pub returns-in-Err-clause-others : goal.returns-in-Err-clause-others
returns-in-Err-clause-others g c = none-changed _ _
