-- A range book.
use Rattle.std.specs.Prelude.{◌≡◌, ℕ, ◌+◌, ◌-◌, ◌≤◌, ◌≤ℤ◌, pos, List, [], ◌∷◌, All, Option, Some, None}
use Rattle.merge_ident.specs.declared.grants.Grant.{Grant}
use Rattle.merge_ident.specs.declared.grants.Rule.{Rule}
use Rattle.merge_ident.specs.declared.grants.GrantPlan.{GrantPlan}
use Rattle.merge_ident.specs.Grants.{AreGrants, AreInOrder, natural, greatest_end, granted_to, IsGranted}
use Rattle.merge_ident.specs.Answers.{new_grant, grants_with, grants_with_all}

-- the rules of the articles, all grants, and for how many more there is room
pub record Book : Type 0 where
  pub rules : List Rule
  pub grants : List Grant
  pub room : ℕ

-- values are from 1 on, and a range has some
pub record IsRule (rule : Rule) : Type 0 where
  pub seed : pos 1 ≤ℤ rule.seed
  pub range : 1 ≤ rule.range
  pub pub_range : 1 ≤ rule.pub_range
  pub greatest : pos 1 ≤ℤ rule.greatest

pub record IsBook (rules : List Rule) (grants : List Grant) : Type 0 where
  pub rules_fit : All IsRule rules
  pub grants_fit : AreGrants grants
  pub in_order : AreInOrder grants

-- a grant is the next one of its article and site
pub record IsNext (grants : List Grant) (grant : Grant) : Type 0 where
  pub values : IsGranted grant
  pub behind : greatest_end grant.article grants + 1 ≤ natural grant.range.begin
  pub number : grant.number ≡ granted_to grant.article grant.site.0 grants + 1

abbrev pub IsNextIfAny : List Grant → Option Grant → Type 0
IsNextIfAny grants None = Unit {0}
IsNextIfAny grants (Some grant) = IsNext grants grant

-- how many grants are new
abbrev pub new_count : Option Grant → ℕ
new_count None = 0
new_count (Some grant) = 1

abbrev pub room_for : GrantPlan → ℕ
room_for planned = new_count (new_grant planned.ask planned.answer)

abbrev pub room_for_all : List GrantPlan → ℕ
room_for_all [] = 0
room_for_all (planned ∷ plans) = room_for planned + room_for_all plans

-- what was planned can be made over these grants
abbrev pub Follows : List Grant → GrantPlan → Type 0
Follows grants planned = IsNextIfAny grants (new_grant planned.ask planned.answer)

abbrev pub AllFollow : List Grant → List GrantPlan → Type 0
AllFollow grants [] = Unit {0}
AllFollow grants (planned ∷ plans) = Follows grants planned × AllFollow (grants_with grants planned) plans

-- the book has the room for what was planned, and nothing was granted since
pub record IsReady (book : Book) (plans : List GrantPlan) : Type 0 where
  pub room : room_for_all plans ≤ book.room
  pub follows : AllFollow book.grants plans

-- the book with what was planned
abbrev pub book_with : Book → GrantPlan → Book
book_with book planned = record { rules = book.rules; grants = grants_with book.grants planned; room = book.room - room_for planned }

abbrev pub book_with_all : Book → List GrantPlan → Book
book_with_all book plans = record { rules = book.rules; grants = grants_with_all book.grants plans; room = book.room - room_for_all plans }
