use Rattle.merge_ident.proofs.book.RangeBook.granted.Goals as goal

pub granted-requires-clause-numbered : goal.granted-requires-clause-numbered
granted-requires-clause-numbered c = rw c.deref.ensures.value c.self.invariant.grants_fit.numbered
