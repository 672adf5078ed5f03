-- A walk through the index of mappings finds the entries of a site between two generations.
use Rattle.std.specs.Prelude.{◌≡◌, ◌++◌, ◌&&◌, ◌||◌, ◌==◌, ℕ, Bool, true, false, List, [], ◌∷◌, Option, Some, None, refl, cond, filter, map, nat_le, nat_lt}
use Rattle.std.specs.BTreeMap.Range.{entries_between, range_contains}
use Rattle.std.specs.List.{AllByRecursion}
use Rattle.std.specs.List.Sorted.{IsStrictlySortedBy}
use Rattle.std.specs.Map.{keys_of}
use Rattle.std.specs.declared.cmp.Ordering.TheVariants.{Less}
use Rattle.std.specs.declared.ops.Bound.TheVariants.{Included, Unbounded}
use Rattle.std.proofs.Common.{arith, sym, ap, ◌∙◌, append_assoc, append-nil}
use Rattle.std.proofs.lemmas.Bool.Decides.{nat_tests}
use Rattle.std.proofs.lemmas.List.Kept.{IsStrictlySortedBy-filter}
use Rattle.merge_types.specs.declared.row_key.RowKey.{RowKey as Key}
use Rattle.merge_steps.specs.MoveEntries.{move_entry_cmp}
use Rattle.merge_steps.specs.MoveWalks.{is_in_walk, is_within, key_of_move}
use Rattle.merge_steps.specs.declared.site_moves.MoveEntry.{MoveEntry}

abbrev pub Entries : Type 0
Entries = List (MoveEntry × Unit {0})

-- the first entry that there could be of a site from a generation on
abbrev pub start_of : ℕ → ℕ → MoveEntry
start_of site first = record { site = site; generation = first; key = record { article = 0; row = record { 0 = 0 } } }

abbrev pub is_from : ℕ → ℕ → MoveEntry → Bool
is_from site first entry = range_contains move_entry_cmp (Included (start_of site first)) Unbounded entry

-- what stands from there on
abbrev pub not_below : ℕ → ℕ → MoveEntry → Bool
not_below site first entry = nat_lt site entry.site || ((entry.site == site) && nat_le first entry.generation)

pub from-is : (site first : ℕ) (e : MoveEntry) → is_from site first e ≡ not_below site first e
from-is site first e = grind (arith, nat_tests)

below-fails : (site first : ℕ) (to : Option ℕ) (e : MoveEntry) (within : Bool) → not_below site first e ≡ false → ((e.site == site) && (nat_le first e.generation && within)) ≡ false
below-fails site first to e within below = grind (arith, nat_tests, below)

-- behind an entry past the end none is in the walk
later-fails : (site first : ℕ) (to : Option ℕ) (e y : MoveEntry) → not_below site first e ≡ true → ((e.site == site) && is_within to e.generation) ≡ false → move_entry_cmp e y ≡ Less → is_in_walk site first to y ≡ false
later-fails site first None e y from past less = grind (arith, nat_tests, from, past, less)
later-fails site first (Some to) e y from past less = grind (arith, nat_tests, from, past, less)

here-fails : (site first : ℕ) (e : MoveEntry) (within : Bool) → ((e.site == site) && within) ≡ false → ((e.site == site) && (nat_le first e.generation && within)) ≡ false
here-fails site first e within past = grind (arith, past)

here-passes : (site first : ℕ) (e : MoveEntry) (within : Bool) → not_below site first e ≡ true → ((e.site == site) && within) ≡ true → ((e.site == site) && (nat_le first e.generation && within)) ≡ true
here-passes site first e within from is = grind (arith, nat_tests, from, is)

none-behind : (site first : ℕ) (to : Option ℕ) (e : MoveEntry) (left : List MoveEntry) → not_below site first e ≡ true → ((e.site == site) && is_within to e.generation) ≡ false → AllByRecursion (λ (y : MoveEntry). move_entry_cmp e y ≡ Less) left
    → filter (is_in_walk site first to) left ≡ []
none-behind site first to e [] from past above = refl
none-behind site first to e (y ∷ left) from past above =
    ap (λ (b : Bool). (let kept : List MoveEntry = cond b (y ∷ filter (is_in_walk site first to) left) (filter (is_in_walk site first to) left) in kept)) (later-fails site first to e y from past above.0)
    ∙ none-behind site first to e left from past above.1

-- A walk with these entries left: with the rows of what is left, those so far make up all.
pub record Walking (site first : ℕ) (to : Option ℕ) (all : List MoveEntry) (old found : List Key) (left : List MoveEntry) : Type 0 where
  pub rows : found ++ map key_of_move (filter (is_in_walk site first to) left) ≡ old ++ map key_of_move (filter (is_in_walk site first to) all)
  pub sorted : IsStrictlySortedBy move_entry_cmp left
  pub behind : AllByRecursion (λ (e : MoveEntry). not_below site first e ≡ true) left

start-step : (site first : ℕ) (to : Option ℕ) (e : MoveEntry) (u : Unit {0}) (es : Entries) (b : Bool) → is_from site first e ≡ b
    → filter (is_in_walk site first to) (keys_of (entries_between move_entry_cmp (Included (start_of site first)) Unbounded es)) ≡ filter (is_in_walk site first to) (keys_of es)
    → filter (is_in_walk site first to) (keys_of (let kept : Entries = cond b ((e, u) ∷ entries_between move_entry_cmp (Included (start_of site first)) Unbounded es) (entries_between move_entry_cmp (Included (start_of site first)) Unbounded es) in kept))
    ≡ filter (is_in_walk site first to) (e ∷ keys_of es)
start-step site first to e u es true is same = ap (λ (rest : List MoveEntry). (let kept : List MoveEntry = cond (is_in_walk site first to e) (e ∷ rest) rest in kept)) same
start-step site first to e u es false is same =
    same ∙ sym (ap (λ (b : Bool). (let kept : List MoveEntry = cond b (e ∷ filter (is_in_walk site first to) (keys_of es)) (filter (is_in_walk site first to) (keys_of es)) in kept)) (below-fails site first to e (is_within to e.generation) (sym (from-is site first e) ∙ is)))

start-same : (site first : ℕ) (to : Option ℕ) (es : Entries) → filter (is_in_walk site first to) (keys_of (entries_between move_entry_cmp (Included (start_of site first)) Unbounded es)) ≡ filter (is_in_walk site first to) (keys_of es)
start-same site first to [] = refl
start-same site first to ((e, u) ∷ es) = start-step site first to e u es (is_from site first e) refl (start-same site first to es)

behind-step : (site first : ℕ) (e : MoveEntry) (u : Unit {0}) (rest : Entries) (b : Bool) → is_from site first e ≡ b → AllByRecursion (λ (x : MoveEntry). not_below site first x ≡ true) (keys_of rest)
    → AllByRecursion (λ (x : MoveEntry). not_below site first x ≡ true) (keys_of (let kept : Entries = cond b ((e, u) ∷ rest) rest in kept))
behind-step site first e u rest true is all = (sym (from-is site first e) ∙ is, all)
behind-step site first e u rest false is all = all

pub start-behind : (site first : ℕ) (es : Entries) → AllByRecursion (λ (x : MoveEntry). not_below site first x ≡ true) (keys_of (entries_between move_entry_cmp (Included (start_of site first)) Unbounded es))
start-behind site first [] = tt
start-behind site first ((e, u) ∷ es) = behind-step site first e u (entries_between move_entry_cmp (Included (start_of site first)) Unbounded es) (is_from site first e) refl (start-behind site first es)

pub keys-filter : (test : MoveEntry → Bool) (es : Entries) → keys_of (filter (λ (e : MoveEntry × Unit {0}). test e.0) es) ≡ filter test (keys_of es)
keys-filter test [] = refl
keys-filter test ((e, u) ∷ es) = elim (test e) as (λ (b : Bool). keys_of (cond b ((e, u) ∷ filter (λ (x : MoveEntry × Unit {0}). test x.0) es) (filter (λ (x : MoveEntry × Unit {0}). test x.0) es)) ≡ cond b (e ∷ filter test (keys_of es)) (filter test (keys_of es))) [
  | true ↦ ap (λ (ks : List MoveEntry). e ∷ ks) (keys-filter test es)
  | false ↦ keys-filter test es
]

-- the walk begins at the first entry of the site from the generation on
pub walk-start : (site first : ℕ) (to : Option ℕ) (es left : Entries) (old : List Key) → IsStrictlySortedBy move_entry_cmp (keys_of es) → left ≡ entries_between move_entry_cmp (Included (start_of site first)) Unbounded es
    → Walking site first to (keys_of es) old old (keys_of left)
walk-start site first to es left old sorted is = rw is record {
  rows = ap (λ (ks : List MoveEntry). old ++ map key_of_move ks) (start-same site first to es);
  sorted = rw (keys-filter (is_from site first) es) (IsStrictlySortedBy-filter move_entry_cmp (is_from site first) (keys_of es) sorted);
  behind = start-behind site first es;
}

-- an entry that is not past the end is found
pub walk-step : (site first : ℕ) (to : Option ℕ) (all : List MoveEntry) (old found : List Key) (e : MoveEntry) (left : List MoveEntry) → ((e.site == site) && is_within to e.generation) ≡ true
    → Walking site first to all old found (e ∷ left) → Walking site first to all old (found ++ e.key ∷ []) left
unfolding IsStrictlySortedBy
walk-step site first to all old found e left is walking =
    let passes : is_in_walk site first to e ≡ true = here-passes site first e (is_within to e.generation) walking.behind.0 is in
    record {
      rows = append_assoc found (e.key ∷ []) (map key_of_move (filter (is_in_walk site first to) left)) ∙ (rw passes at walking.rows);
      sorted = walking.sorted.1;
      behind = walking.behind.1;
    }

-- at an entry past the end all are found
pub walk-stop : (site first : ℕ) (to : Option ℕ) (all : List MoveEntry) (old found : List Key) (e : MoveEntry) (left : List MoveEntry) → ((e.site == site) && is_within to e.generation) ≡ false
    → Walking site first to all old found (e ∷ left) → found ≡ old ++ map key_of_move (filter (is_in_walk site first to) all)
unfolding IsStrictlySortedBy
walk-stop site first to all old found e left past walking =
    let none : filter (is_in_walk site first to) (e ∷ left) ≡ [] =
    ap (λ (b : Bool). (let kept : List MoveEntry = cond b (e ∷ filter (is_in_walk site first to) left) (filter (is_in_walk site first to) left) in kept)) (here-fails site first e (is_within to e.generation) past)
    ∙ none-behind site first to e left walking.behind.0 past walking.sorted.0 in
    sym (append-nil found) ∙ ap (λ (ks : List MoveEntry). found ++ map key_of_move ks) (sym none) ∙ walking.rows

-- and where none is left
pub walk-end : (site first : ℕ) (to : Option ℕ) (all : List MoveEntry) (old found : List Key) → Walking site first to all old found [] → found ≡ old ++ map key_of_move (filter (is_in_walk site first to) all)
walk-end site first to all old found walking = sym (append-nil found) ∙ walking.rows
