use Rattle.std.specs.Prelude.{IsTrue}
use Rattle.std.proofs.Common.{◌≡◌, true, false, subst, sym}
use Rattle.merge_table.specs.Contents.{has_room}
use Rattle.merge_join.specs.Entries.{entry_cmp}
use Rattle.merge_join.specs.Index.{Entries}
use Rattle.merge_join.proofs.index.JoinIndex.prepare.Goals as goal

pub returns-clause-slots : goal.returns-clause-slots
returns-clause-slots c = rw (← c.self.view_is) c.in_ok-prepare.ensures.ok

pub returns-clause-kept : goal.returns-clause-kept
returns-clause-kept c = λ entry had. c.prepare.ensures.kept entry (subst (λ (x : Entries). IsTrue (has_room entry_cmp x.room entry)) (sym c.self.view_is) had)

pub returns-in_err-prepare-clause-kept : goal.returns-in_err-prepare-clause-kept
returns-in_err-prepare-clause-kept c = λ entry had. c.prepare.ensures.kept entry (subst (λ (x : Entries). IsTrue (has_room entry_cmp x.room entry)) (sym c.self.view_is) had)

pub returns-in_err-prepare-clause-room : goal.returns-in_err-prepare-clause-room
returns-in_err-prepare-clause-room c = rw (← c.self.view_is) (λ ready. let refused : false ≡ true = c.in_err-prepare.ensures.succeeds ready in absurd cc)
