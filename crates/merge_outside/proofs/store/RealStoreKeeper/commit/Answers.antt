-- What the keeper of the file did.
use Rattle.merge_outside.proofs.store.RealStoreKeeper.commit.Goals as goal

pub returns-in-Memory-clause-file : goal.returns-in-Memory-clause-file
returns-in-Memory-clause-file c = rw c.in-Memory.is tt

pub returns-in-File-clause-file : goal.returns-in-File-clause-file
returns-in-File-clause-file c = rw c.in-File.is c.commit-in-File.ensures.committed

pub returns-in-Memory-clause-counted : goal.returns-in-Memory-clause-counted
returns-in-Memory-clause-counted c failed = rw c.in-Memory.is tt

pub returns-in-File-clause-counted : goal.returns-in-File-clause-counted
returns-in-File-clause-counted c failed = rw c.in-File.is (c.commit-in-File.ensures.counted failed)
