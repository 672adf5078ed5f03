-- What an index of grants holds.
use Rattle.std.specs.Prelude.{◌≡◌, List}
use Rattle.std.specs.List.{AllByRecursion}
use Rattle.std.specs.Map.{values_of}
use Rattle.std.specs.Ordering.{int_cmp, nat_cmp, ordering_then}
use Rattle.std.specs.declared.cmp.Ordering.{Ordering}
use Rattle.merge_ident.specs.declared.grants.Grant.{Grant}
use Rattle.merge_ident.specs.Seen.{IsSeen}
use Rattle.merge_keeper.specs.declared.grants.Begin.{Begin}
use Rattle.merge_keeper.specs.declared.grants.GrantsSoFar.{GrantsSoFar}

-- by article, and then by the first value
abbrev pub begin_cmp : Begin → Begin → Ordering
begin_cmp a b = ordering_then (nat_cmp a.article b.article) (int_cmp a.begin b.begin)

abbrev pub begin_of : Grant → Begin
begin_of grant = record { article = grant.article; begin = grant.range.begin }

-- each grant stands at its begin
abbrev pub AreAtBegins : List (Begin × Grant) → Type 0
AreAtBegins es = AllByRecursion (λ e. e.0 ≡ begin_of e.1) es

-- the grants, by article and begin
abbrev pub grants_in : GrantsSoFar → List Grant
grants_in s = values_of s.by_begin.entries

-- the grants were seen, and each stands at its begin
pub record IsIndex (s : GrantsSoFar) : Type 0 where
  pub seen : IsSeen s.seen.ranges.entries s.seen.lasts.entries (grants_in s)
  pub placed : AreAtBegins s.by_begin.entries
