use Rattle.std.proofs.Common.{sym, ◌∙◌}
use Rattle.merge_ident.specs.Books.{IsNext}
use Rattle.merge_ident.proofs.Order.{book-with_next}
use Rattle.merge_ident.proofs.Plans.{next_if_some}
use Rattle.merge_ident.proofs.book.RangeBook.settle.Goals as goal

pub invariant_of-self : goal.invariant_of-self
invariant_of-self c =
    let next : IsNext c.self.inside.grants.items c.in-Some.grant = next_if_some _ _ _ (sym c.new_grant.ensures ∙ c.in-Some.is) (rw (← c.self.view_is) at c.requires.follows.0) in
    rw c.put.ensures.items (book-with_next c.self.inside.rules c.self.inside.grants.items c.in-Some.grant c.self.invariant next)
