-- When a lineage stands for what a version knows, and when two ways to know decide a case alike.
use Rattle.std.specs.Prelude.{◌≡◌, ◌≤◌, ◌==◌, ◌&&◌, List, Bool, true, Option, Some, None}
use Rattle.std.specs.List.{AllByRecursion, list_any}
use Rattle.merge_types.specs.declared.identifiers.Dot.{Dot}
use Rattle.merge_types.specs.declared.changes.Change.{Change}
use Rattle.merge_types.specs.declared.values.Value.{Value}
use Rattle.merge_lineage.specs.Lineage.{IsAscending, knows, number_at}
use Rattle.merge_units.specs.declared.case.Case.{Case}
use Rattle.merge_units.specs.declared.result.Decision.{Decision}
use Rattle.merge_units.specs.declared.version.Body.{Body}
use Rattle.merge_units.specs.declared.version.Version.{Version}
use Rattle.merge_schema.specs.declared.publication.Publication.{Publication}
use Rattle.merge_units.specs.Version.{Knowing, new_tops, tops_of}
use Rattle.merge_units.specs.Cases.{case_by}
use Rattle.merge_units.specs.Results.{result_by}
use Rattle.merge_model.specs.Tables.Changes.{version_after}
use Rattle.merge_model.specs.History.{MadeChange, Past, has}
use Rattle.merge_model.specs.Tables.Keys.{same_key}
use Rattle.merge_model.specs.History.Pasts.{past_after, past_by}
use Rattle.merge_types.specs.declared.row_key.RowKey.{RowKey as Key}
use Rattle.merge_laws.specs.Facts.Knowledge.{Knows, same_dot}

-- A lineage stands for what is known of a row where each change of the row that counts is known exactly where its number is at
-- most the lineage's number of its site. A change that is given up does not count.
abbrev pub StandsAt : Key → List Dot → List Dot → (MadeChange → Bool) → MadeChange → Type 0
StandsAt key lineage known counts change = same_key key change.key ≡ true → counts change ≡ true → knows lineage change.dot ≡ has known change.dot

abbrev pub StandsFor : List MadeChange → (MadeChange → Bool) → Key → List Dot → List Dot → Type 0
StandsFor made counts key lineage known = AllByRecursion (StandsAt key lineage known counts) made

-- what a lineage tells of the known changes, whatever was given up
pub record Tells (lineage known : List Dot) : Type 0 where
  -- each of its numbers is that of a change that is known
  pub reached : (dot : Dot) → number_at lineage dot.site.0 ≡ Some dot.number → has known dot ≡ true
  -- no change is known above it
  pub below : (dot : Dot) → has known dot ≡ true → knows lineage dot ≡ true

-- a later change of the same site and row knew this one where it was made
abbrev pub KnewEarlier : MadeChange → MadeChange → Type 0
KnewEarlier earlier later = same_key later.key earlier.key ≡ true → (later.dot.site.0 == earlier.dot.site.0) ≡ true → earlier.dot.number ≤ later.dot.number → has later.past.known earlier.dot ≡ true

pub record IsKnownLater (made : List MadeChange) (counts : MadeChange → Bool) (change : MadeChange) : Type 0 where
  pub numbered : 1 ≤ change.dot.number
  pub later : counts change ≡ true → AllByRecursion (KnewEarlier change) made

-- Where each change that counts is known to the later ones of its site and row, a lineage that tells of what is known stands for it.
abbrev pub TellingStands : Type 0
TellingStands = (made : List MadeChange) (counts : MadeChange → Bool) (key : Key) (lineage known : List Dot) → AllByRecursion (IsKnownLater made counts) made → Knows made key known → Tells lineage known → StandsFor made counts key lineage known

-- A version tells of what its past knows: by its lineage, and the changes that made its body are known.
pub record Told (version : Version) (known : List Dot) : Type 0 where
  pub ascending : IsAscending version.lineage
  pub tells : Tells version.lineage known
  pub tops : AllByRecursion (λ (top : Dot). has known top ≡ true) (tops_of version.body)

-- of a row that may not be held
abbrev pub HeldTold : Option Version → List Dot → Type 0
HeldTold None known = Unit {0}
HeldTold (Some version) known = Told version known

-- A version that a change or a merge makes tells of what the past knows that it makes.
abbrev pub ToldAfterChange : Type 0
ToldAfterChange = (publication : Publication) (dot : Dot) (identity : Value) (change : Change) (held : Option Version) (past : Past) → HeldTold held past.known
    → HeldTold (version_after publication dot identity change held) (past_after publication dot change past).known

abbrev pub ToldAfterMerge : Type 0
ToldAfterMerge = (case : Case) (decision : Decision) (dot : Dot) (ours theirs : Version) (one other : Past) → Told ours one.known → Told theirs other.known
    → Told (result_by case ours theirs decision dot) (past_by case decision dot one other).known

-- Two ways to know agree on the changes that made a body.
abbrev pub AgreesOn : Knowing → Knowing → Body → Type 0
AgreesOn one other body = AllByRecursion (λ (top : Dot). one top ≡ other top) (tops_of body)

-- whether a change of a row was made, with this dot, that counts
abbrev pub is_counted : List MadeChange → (MadeChange → Bool) → Key → Dot → Bool
is_counted made counts key dot = list_any (λ (change : MadeChange). same_dot change.dot dot && (same_key key change.key && counts change)) made

-- A lineage that stands for what is known agrees with it on a body that changes made which count.
abbrev pub StandingAgrees : Type 0
StandingAgrees = (made : List MadeChange) (counts : MadeChange → Bool) (key : Key) (lineage known : List Dot) (body : Body) → StandsFor made counts key lineage known
    → AllByRecursion (λ (top : Dot). is_counted made counts key top ≡ true) (tops_of body) → AgreesOn (knows lineage) (has known) body

-- Which case it is, and which tops are news, depends on no more than what each side knows of the changes that made the other's body.
abbrev pub CaseIsByTops : Type 0
CaseIsByTops = (here here_too there there_too : Knowing) (ours theirs : Body) → AgreesOn there there_too ours → AgreesOn here here_too theirs → case_by here there ours theirs ≡ case_by here_too there_too ours theirs

abbrev pub NewsIsByTops : Type 0
NewsIsByTops = (there there_too : Knowing) (body : Body) → AgreesOn there there_too body → new_tops there body ≡ new_tops there_too body
