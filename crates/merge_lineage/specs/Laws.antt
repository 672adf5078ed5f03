-- What holds of every lineage.
use Rattle.std.specs.Prelude.{◌≡◌, ℕ, ◌≤◌, ◌<◌, List, All, IsTrue, ◌↔◌, ◌||◌, ◌&&◌, ◌==◌, nat_le}
use Rattle.merge_types.specs.declared.Dot.{Dot}
use Rattle.merge_lineage.specs.Lineage.{IsAscending, ascending, number_at, knows, Covers, Joins, with_dot, joined}

-- the test of a lineage says whether the sites ascend
abbrev pub AscendingIsTested : Type 0
AscendingIsTested = (dots : List Dot) → IsTrue (ascending dots) ↔ IsAscending dots

-- the numbers of the sites say which lineage it is
abbrev pub NumbersDetermine : Type 0
NumbersDetermine = (a b : List Dot) → IsAscending a → IsAscending b → ((site : ℕ) → number_at a site ≡ number_at b site) → a ≡ b

-- what knows a change knows the earlier ones of its site
abbrev pub KnowsTheEarlier : Type 0
KnowsTheEarlier = (dots : List Dot) (earlier later : Dot) → earlier.site ≡ later.site → earlier.number ≤ later.number → IsTrue (knows dots later) → IsTrue (knows dots earlier)

-- to cover is to know all that the other knows
abbrev pub CoversByKnowing : Type 0
CoversByKnowing = (a b : List Dot) → Covers a b ↔ ((dot : Dot) → IsTrue (knows b dot) → IsTrue (knows a dot))

-- no number is 0, which only a forged message can have
abbrev pub HasNumbers : List Dot → Type 0
HasNumbers dots = All (λ (dot : Dot). 0 < dot.number) dots

abbrev pub CoversItself : Type 0
CoversItself = (a : List Dot) → Covers a a

abbrev pub CoversAlong : Type 0
CoversAlong = (a b c : List Dot) → Covers a b → Covers b c → Covers a c

-- of two lineages without numbers 0 that cover each other, each is the other
abbrev pub CoversBothWays : Type 0
CoversBothWays = (a b : List Dot) → IsAscending a → IsAscending b → HasNumbers a → HasNumbers b → Covers a b → Covers b a → a ≡ b

-- the join is a lineage, and has for each site the greater number
abbrev pub JoinedJoins : Type 0
JoinedJoins = (a b : List Dot) → IsAscending a → IsAscending b → IsAscending (joined a b) × Joins a b (joined a b)

-- and is the only one that has
abbrev pub JoinIsOne : Type 0
JoinIsOne = (a b l : List Dot) → IsAscending a → IsAscending b → IsAscending l → Joins a b l → l ≡ joined a b

-- a join covers both
abbrev pub JoinCoversBoth : Type 0
JoinCoversBoth = (a b : List Dot) → IsAscending a → IsAscending b → Covers (joined a b) a × Covers (joined a b) b

-- and is the least that does
abbrev pub JoinIsLeast : Type 0
JoinIsLeast = (a b upper : List Dot) → IsAscending a → IsAscending b → Covers upper a → Covers upper b → Covers upper (joined a b)

-- a join knows what one of the two knows
abbrev pub JoinKnows : Type 0
JoinKnows = (a b : List Dot) (dot : Dot) → IsAscending a → IsAscending b → knows (joined a b) dot ≡ (knows a dot || knows b dot)

abbrev pub JoinIsAssociative : Type 0
JoinIsAssociative = (a b c : List Dot) → IsAscending a → IsAscending b → IsAscending c → joined (joined a b) c ≡ joined a (joined b c)

abbrev pub JoinIsCommutative : Type 0
JoinIsCommutative = (a b : List Dot) → IsAscending a → IsAscending b → joined a b ≡ joined b a

abbrev pub JoinIsIdempotent : Type 0
JoinIsIdempotent = (a : List Dot) → IsAscending a → joined a a ≡ a

-- an advanced lineage is one, and knows besides what the old one knew the dot and the earlier ones of its site
abbrev pub AdvanceKnows : Type 0
AdvanceKnows = (dots : List Dot) (dot asked : Dot) → IsAscending dots → IsAscending (with_dot dot dots) × (knows (with_dot dot dots) asked ≡ (knows dots asked || (asked.site.0 == dot.site.0 && nat_le asked.number dot.number)))
