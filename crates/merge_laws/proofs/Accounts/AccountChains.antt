-- What a chain has, by the change that it is rooted in, and what versions know of each other's chains.
use Rattle.std.specs.Prelude.{◌≡◌, ◌||◌, ℕ, zero, suc, List, [], ◌∷◌, Bool, true, false, not, refl, map, slice_get, unwrap_or}
use Rattle.std.specs.List.{AllByRecursion, AllZip, list_any}
use Rattle.std.proofs.Common.{arith, subst, sym, inl, inr}
use Rattle.merge_types.specs.declared.identifiers.Dot.{Dot}
use Rattle.merge_units.specs.declared.version.Body.{Body}
use Rattle.merge_units.specs.declared.version.Body.TheVariants.{Dead, Live}
use Rattle.merge_units.specs.declared.version.Cell.{Cell}
use Rattle.merge_units.specs.Version.{Knowing, has_news, tops_of}
use Rattle.merge_model.specs.History.{Chains, MadeChange, OfCells, OfDead, has}
use Rattle.merge_model.specs.Laws.Promises.{InCell, InRow, Place, descends}
use Rattle.merge_types.specs.declared.row_key.RowKey.{RowKey as Key}
use Rattle.merge_laws.specs.Facts.Accounts.{CellGrown, ChainIsRooted, Grown, GrownAlone, IsNotUnited, is_made_at, is_set}
use Rattle.merge_laws.specs.Facts.Knowledge.{KnowsItsPast, same_dot}
use Rattle.merge_laws.proofs.Known.ChangeDots.{AreDistinct}
use Rattle.merge_laws.proofs.Known.Knowing.{IsFresh}
use Rattle.merge_laws.proofs.Pasts.DotTests.{dots-same}

-- The dots of changes.

-- of a new dot nothing was made
pub fresh-at : (made : List MadeChange) (key : Key) (dot : Dot) (place : Place) → IsFresh made dot → is_made_at made key dot place ≡ false
fresh-at [] key dot place fresh = refl
fresh-at (c ∷ made) key dot place fresh = grind (arith, fresh.0, fresh-at made key dot place fresh.1)

pub fresh-set : (made : List MadeChange) (dot : Dot) → IsFresh made dot → is_set made dot ≡ false
fresh-set [] dot fresh = refl
fresh-set (c ∷ made) dot fresh = grind (arith, fresh.0, fresh-set made dot fresh.1)

-- a change that sets cells is no delete
set-first : (c : MadeChange) (made : List MadeChange) (key : Key) (dot : Dot) (b : Bool) → same_dot c.dot dot ≡ b → AreDistinct (c ∷ made) → (is_set made dot ≡ true → is_made_at made key dot InRow ≡ false) → is_set (c ∷ made) dot ≡ true → is_made_at (c ∷ made) key dot InRow ≡ false
set-first c made key dot true e distinct rest set =
    let fresh : IsFresh made dot = subst (λ (x : Dot). IsFresh made x) (dots-same c.dot dot e) distinct.0 in
    grind (arith, e, set, fresh-at made key dot InRow fresh, fresh-set made dot fresh)
set-first c made key dot false e distinct rest set = grind (arith, e, set, rest)

pub set-kept : (made : List MadeChange) (key : Key) (dot : Dot) → AreDistinct made → is_set made dot ≡ true → is_made_at made key dot InRow ≡ false
set-kept [] key dot distinct set = refl
set-kept (c ∷ made) key dot distinct set = set-first c made key dot (same_dot c.dot dot) refl distinct (set-kept made key dot distinct.1) set

-- What is known of a chain: whoever knows the change in which it is rooted knows all of it.
pub rooted-known : (made : List MadeChange) (top : Dot) (chain known : List Dot) → ChainIsRooted made top chain → AllByRecursion (KnowsItsPast known) made → has known top ≡ true → (dot : Dot) → has chain dot ≡ true → has known dot ≡ true
rooted-known [] top chain known rooted closed is dot inside = absurd rooted
rooted-known (c ∷ made) top chain known (inl here) closed is dot inside =
    closed.0 (subst (λ (x : Dot). has known x ≡ true) (sym (dots-same c.dot top here.0)) is) dot (here.1 dot inside)
rooted-known (c ∷ made) top chain known (inr there) closed is dot inside = rooted-known made top chain known there closed.1 is dot inside

-- the chain of a cell
abbrev pub chain_at : List (List Dot) → ℕ → List Dot
chain_at chains k = unwrap_or (slice_get chains k) []

pub cells-known : (made : List MadeChange) (cells : List Cell) (chains : List (List Dot)) (known : List Dot) → AllZip (CellGrown made) cells chains → AllByRecursion (KnowsItsPast known) made
    → AllByRecursion (λ (top : Dot). has known top ≡ true) (map (λ (cell : Cell). cell.top) cells) → (k : ℕ) (dot : Dot) → has (chain_at chains k) dot ≡ true → has known dot ≡ true
cells-known made [] [] known grown closed tops k dot inside = absurd cc
cells-known made [] (chain ∷ chains) known grown closed tops k dot inside = absurd grown
cells-known made (cell ∷ cells) [] known grown closed tops k dot inside = absurd cc
cells-known made (cell ∷ cells) (chain ∷ chains) known grown closed tops zero dot inside = rooted-known made cell.top chain known grown.0.rooted closed tops.0 dot inside
cells-known made (cell ∷ cells) (chain ∷ chains) known grown closed tops (suc k) dot inside = cells-known made cells chains known grown.1 closed tops.1 k dot inside

-- who knows the changes that made a body knows all that it descends from
pub body-known : (cells : ℕ) (made : List MadeChange) (key : Key) (body : Body) (chains : Chains) (known : List Dot) → GrownAlone cells made key body chains → AllByRecursion (KnowsItsPast known) made
    → AllByRecursion (λ (top : Dot). has known top ≡ true) (tops_of body) → (place : Place) (dot : Dot) → descends chains place dot ≡ true → has known dot ≡ true
body-known cells made key (Live body) (OfCells chains) known grown closed tops (InCell k) dot inside = cells-known made body chains known grown.0.1 closed tops k dot inside
body-known cells made key (Live body) (OfCells chains) known grown closed tops InRow dot inside = absurd cc
body-known cells made key (Dead top) (OfDead chain) known grown closed tops place dot inside = rooted-known made top chain known grown.1.rooted closed tops.0 dot inside
body-known cells made key (Live body) (OfDead chain) known grown closed tops place dot inside = absurd grown.0
body-known cells made key (Dead top) (OfCells chains) known grown closed tops place dot inside = absurd grown.0

-- without news each top is known
all-told : (there : Knowing) (tops : List Dot) → list_any (λ (top : Dot). not (there top)) tops ≡ false → AllByRecursion (λ (top : Dot). there top ≡ true) tops
all-told there [] none = tt
all-told there (top ∷ tops) none = (grind (arith, none), all-told there tops (grind (arith, none)))

pub tops-known : (there : Knowing) (body : Body) → has_news there body ≡ false → AllByRecursion (λ (top : Dot). there top ≡ true) (tops_of body)
tops-known there body none = all-told there (tops_of body) none

-- As changes are made.
pub rooted-later : (c : MadeChange) (made : List MadeChange) (top : Dot) (chain : List Dot) → ChainIsRooted made top chain → ChainIsRooted (c ∷ made) top chain
rooted-later c made top chain rooted = inr rooted

pub set-later : (c : MadeChange) (made : List MadeChange) (dot : Dot) → is_set made dot ≡ true → is_set (c ∷ made) dot ≡ true
set-later c made dot set = grind (arith, set)

pub at-later : (c : MadeChange) (made : List MadeChange) (key : Key) (dot : Dot) (place : Place) → is_made_at made key dot place ≡ true → is_made_at (c ∷ made) key dot place ≡ true
at-later c made key dot place is = grind (arith, is)

pub cells-later : (c : MadeChange) (made : List MadeChange) (cells : List Cell) (chains : List (List Dot)) → AllZip (CellGrown made) cells chains → AllZip (CellGrown (c ∷ made)) cells chains
cells-later c made [] [] grown = tt
cells-later c made [] (chain ∷ chains) grown = absurd grown
cells-later c made (cell ∷ cells) [] grown = absurd grown
cells-later c made (cell ∷ cells) (chain ∷ chains) grown = (
  record { rooted = rooted-later c made cell.top chain grown.0.rooted; set = λ dot inside. set-later c made dot (grown.0.set dot inside) },
  cells-later c made cells chains grown.1,
)

pub grown-later : (c : MadeChange) (cells : ℕ) (made : List MadeChange) (key : Key) (body : Body) (chains : Chains) → Grown cells made key body chains → Grown cells (c ∷ made) key body chains
grown-later c cells made key (Live body) (OfCells chains) grown = (grown.0, cells-later c made body chains grown.1)
grown-later c cells made key (Dead top) (OfDead chain) grown = (grown.0, at-later c made key top InRow grown.1)
grown-later c cells made key (Live body) (OfDead chain) grown = absurd grown
grown-later c cells made key (Dead top) (OfCells chains) grown = absurd grown

once-later : (c : MadeChange) (made : List MadeChange) (body : Body) (chains : Chains) → IsNotUnited made body chains → IsNotUnited (c ∷ made) body chains
once-later c made (Dead top) (OfDead chain) once = record { rooted = rooted-later c made top chain once.rooted; once = λ dot inside. (let was : (same_dot top dot || is_set made dot) ≡ true = once.once dot inside in grind (arith, was)) }
once-later c made (Dead top) (OfCells chains) once = tt
once-later c made (Live body) (OfCells chains) once = tt
once-later c made (Live body) (OfDead chain) once = tt

pub alone-later : (c : MadeChange) (cells : ℕ) (made : List MadeChange) (key : Key) (body : Body) (chains : Chains) → GrownAlone cells made key body chains → GrownAlone cells (c ∷ made) key body chains
alone-later c cells made key body chains grown = (grown-later c cells made key body chains grown.0, once-later c made body chains grown.1)
