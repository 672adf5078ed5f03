use Rattle.std.proofs.Common.{◌≡◌, drop}
use Rattle.merge_ident.specs.Books.{IsReady, book_with_all}
use Rattle.merge_ident.proofs.book.RangeBook.settle_all.Given as goal

-- what is left can be made, and makes of the book what all make
abbrev pub invariant-loop-plan : goal.invariant-loop-plan
invariant-loop-plan l = record {
  ready : IsReady l.self (drop l.plan-index l.plans);
  book : book_with_all l.self (drop l.plan-index l.plans) ≡ book_with_all l.initial.self l.plans;
}
