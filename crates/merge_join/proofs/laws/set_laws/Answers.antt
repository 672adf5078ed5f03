use Rattle.merge_table.proofs.Room.{has_room-insert_key}
use Rattle.merge_join.specs.Entries.{entry_cmp}
use Rattle.merge_join.proofs.Blocks.{found-value}
use Rattle.merge_join.proofs.Members.{entry_total, has-removed, same_entries}
use Rattle.merge_join.proofs.laws.set_laws.Goals as goal

pub returns-clause-insert : goal.returns-clause-insert
returns-clause-insert c = λ set entry other. has_room-insert_key entry_cmp entry_total entry other set

pub returns-clause-remove : goal.returns-clause-remove
returns-clause-remove c = λ set entry other. has-removed set entry other

pub returns-clause-order : goal.returns-clause-order
returns-clause-order c = same_entries

pub returns-clause-found : goal.returns-clause-found
returns-clause-found c = found-value
