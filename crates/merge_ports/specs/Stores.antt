-- What an outside in memory tells of its stores. A store has the empty path.
use Rattle.std.specs.Prelude.{◌≡◌, ℕ, ◌==◌, ◌||◌, Bool, true, false, not, List, [], ◌∷◌, IsTrue}
use Rattle.std.specs.declared.option.Option.{Option}
use Rattle.std.specs.declared.option.Option.TheVariants.{None, Some}
use Rattle.std.specs.Map.{lookup}
use Rattle.std.specs.BTreeMap.{is_at}
use Rattle.std.specs.Ordering.{nat_cmp}
use Rattle.merge_table.specs.Contents.{has_room}
use Rattle.merge_types.specs.declared.identifiers.SiteId.{SiteId}
use Rattle.merge_ports.specs.Entries.{Map}
use Rattle.merge_ports.specs.Faults.{is_listed}

-- what a keeper tells, where it is there
abbrev pub told_by : {K : Type 0} → (K → Option Map) → Option K → Option Map
told_by told None = None
told_by told (Some keeper) = told keeper

abbrev pub told_in : {K : Type 0} → (K → Option Map) → List (ℕ × K) → SiteId → List ℕ → Option Map
told_in told rows site [] = told_by told (lookup (is_at (nat_cmp site.0)) rows)
told_in told rows site (byte ∷ path) = None

-- there is room for the keeper of a site
abbrev pub HasPlace : List ℕ → SiteId → List ℕ → Type 0
HasPlace slots site path = (path ≡ []) × IsTrue (has_room nat_cmp slots site.0)

-- a keeper is there, and none of its calls has failed
abbrev pub is_fresh : {K : Type 0} → (K → ℕ) → Option K → Bool
is_fresh count None = false
is_fresh count (Some keeper) = count keeper == 0

abbrev pub has_no_path : List ℕ → Bool
has_no_path [] = true
has_no_path (byte ∷ path) = false

-- an opening fails: its number is listed, its path is not empty, or no keeper is there that has not failed
abbrev pub opening_fails : {K : Type 0} → (K → ℕ) → (failing : List ℕ) (call : ℕ) (path : List ℕ) → Option K → Bool
opening_fails count failing call path found = is_listed failing call || (not (has_no_path path) || not (is_fresh count found))
