use Rattle.merge_ident.proofs.Stored.{follows_from_test, follows_last, grants-push, no_grants, test_from_follows}
use Rattle.merge_ident.proofs.laws.books_go_on_by_what_can_follow.Goals as goal

pub returns-clause-none : goal.returns-clause-none
returns-clause-none c = no_grants

pub returns-clause-next : goal.returns-clause-next
returns-clause-next c = λ before grant fit. (λ passes. grants-push before grant fit (follows_from_test before grant passes), λ more. test_from_follows before grant (follows_last before grant fit more))
