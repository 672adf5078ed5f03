-- What versions know: changes that were made of their rows, each with all that was known where it was made.
use Rattle.std.specs.Prelude.{◌≡◌, ◌==◌, ◌&&◌, ℕ, zero, suc, List, [], ◌∷◌, Bool, true, if◌then◌else◌, map, option_map, unwrap_or}
use Rattle.std.specs.List.{AllByRecursion, list_any}
use Rattle.merge_types.specs.declared.identifiers.Dot.{Dot}
use Rattle.merge_model.specs.History.{History, MadeChange, Past, has, made_at}
use Rattle.merge_model.specs.Tables.Keys.{at_number, same_key}
use Rattle.merge_model.specs.History.Model.{Model}
use Rattle.merge_types.specs.declared.row_key.RowKey.{RowKey as Key}
use Rattle.merge_model.specs.Tables.{SubscriberTables}
use Rattle.merge_model.specs.World.{World}

-- The changes that were made.

-- how many changes a site counts as its own; site 0 is the publisher
abbrev pub changes_of : World → ℕ → ℕ
changes_of w site = if site == 0 then w.publisher.changes else unwrap_or (option_map (λ (s : SubscriberTables). s.changes) (at_number w.subscribers site)) 0

abbrev pub number_of_change : MadeChange → ℕ
number_of_change change = change.dot.number

-- the numbers from this one down to 1
abbrev pub counts_down : ℕ → List ℕ
counts_down zero = []
counts_down (suc n) = suc n ∷ counts_down n

-- The changes of a site, the last one first, have the numbers from its count down to 1.
abbrev pub AreNumbered : (ℕ → ℕ) → History → Type 0
AreNumbered count h = (site : ℕ) → map number_of_change (made_at h site) ≡ counts_down (count site)

abbrev pub MadeAreNumbered : Model → Type 0
MadeAreNumbered m = AreNumbered (changes_of m.world) m.history

-- What is known.

abbrev pub same_dot : Dot → Dot → Bool
same_dot a b = (a.site.0 == b.site.0) && (a.number == b.number)

-- whether a change was made
abbrev pub was_made : List MadeChange → Dot → Bool
was_made made dot = list_any (λ (change : MadeChange). same_dot change.dot dot) made

-- whether a change of a row was made
abbrev pub is_made : List MadeChange → Key → Dot → Bool
is_made made key dot = list_any (λ (change : MadeChange). same_dot change.dot dot && same_key key change.key) made

-- who knows a change knows all that was known where it was made
abbrev pub KnowsItsPast : List Dot → MadeChange → Type 0
KnowsItsPast known change = has known change.dot ≡ true → (dot : Dot) → has change.past.known dot ≡ true → has known dot ≡ true

-- of the changes that a version of a row knows
pub record Knows (made : List MadeChange) (key : Key) (known : List Dot) : Type 0 where
  -- each was made of this row
  pub made_here : (dot : Dot) → has known dot ≡ true → is_made made key dot ≡ true
  pub closed : AllByRecursion (λ (change : MadeChange). KnowsItsPast known change) made

abbrev pub RowKnows : List MadeChange → Key × Past → Type 0
RowKnows made row = Knows made row.0 row.1.known

abbrev pub AllKnow : List MadeChange → List (Key × Past) → Type 0
AllKnow made rows = AllByRecursion (RowKnows made) rows

-- of every version: those that sites hold, those in letters, those in conflict tables, and each as a change made it
pub record Knowledge (h : History) : Type 0 where
  pub held : AllByRecursion (λ (site : ℕ × List (Key × Past)). AllKnow h.made site.1) h.pasts
  pub sent : AllByRecursion (AllKnow h.made) h.letters
  pub lost : AllByRecursion (λ (entry : ℕ × (Key × Past)). RowKnows h.made entry.1) h.lost
  pub making : AllByRecursion (λ (change : MadeChange). Knows h.made change.key change.past.known) h.made

abbrev pub KnownWereMade : Model → Type 0
KnownWereMade m = Knowledge m.history

-- The invariant.
pub record Known (count : ℕ → ℕ) (h : History) : Type 0 where
  pub numbered : AreNumbered count h
  pub knowledge : Knowledge h
