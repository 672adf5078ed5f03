-- The history of a world: what the promises speak of, and what no table holds.
-- The room holds pasts, what each step notes, and the model.
pub mod Pasts
pub mod Noting
pub mod Model
use Rattle.std.specs.List.{list_any}
use Rattle.std.specs.Prelude.{Bool, List, Option, [], filter, slice_get, suc, unwrap_or, zero, ℕ, ℤ, ◌&&◌, ◌==◌, ◌||◌}
use Rattle.merge_types.specs.declared.identifiers.Dot.{Dot}
use Rattle.merge_model.specs.Tables.Keys.{at_number, row_at}
use Rattle.merge_types.specs.declared.row_key.RowKey.{RowKey as Key}

-- whether a list of changes, read as a set, has one
abbrev pub has : List Dot → Dot → Bool
has dots dot = list_any (λ (other : Dot). (other.site.0 == dot.site.0) && (other.number == dot.number)) dots

-- The changes whose effects a body descends from: of each cell of a live row, in order, or of a deleted row as a whole.
pub data Chains : Type 0 where
  OfCells : List (List Dot) → Chains
  OfDead : List Dot → Chains

-- What a version of a row comes from: the changes that it knows, and its chains. All are read as sets.
-- A row that a site does not hold is a version that knows nothing.
pub record Past : Type 0 where
  pub known : List Dot
  pub chains : Chains

abbrev pub no_past : Past
no_past = record { known = []; chains = OfCells [] }

-- A change as it was made: its row, the cells that it made or whether it deleted the row, the identity value that it took
-- where it is an insert that takes one, and the chains that it left there.
-- It stands in the generation that was open at its site.
pub record MadeChange : Type 0 where
  pub dot : Dot
  pub key : Key
  pub generation : ℕ
  pub cells : List ℕ
  pub deletes : Bool
  pub identity : Option ℤ
  pub past : Past

-- The publisher's lines. A changed row, and a row that came into a site's partition or left it, are entries.
-- That a site's leaving is no longer told is a line too, and no entry.
pub data LineKind : Type 0 where
  Changed : LineKind
  EnteredFor : (site : ℕ) → LineKind
  LeftFor : (site : ℕ) → LineKind
  GoneFor : (site : ℕ) → LineKind

pub record Line : Type 0 where
  pub key : Key
  pub kind : LineKind
  pub generation : ℕ

pub record History : Type 0 where
  -- all changes of the world, the last one first
  pub made : List MadeChange
  -- the pasts of the rows that each site holds
  pub pasts : List (ℕ × List (Key × Past))
  -- the last one first
  pub lines : List Line
  -- the generations of the sites that have acted, or that a join covered
  pub done : List (ℕ × ℕ)
  -- the changes that items knew which acted
  pub accepted : List Dot
  -- with each letter of the pool the pasts of the versions in it
  pub letters : List (List (Key × Past))
  -- each version that was ever added to a conflict table, with the site of the table
  pub lost : List (ℕ × (Key × Past))
  -- the rows whose tombstones were purged
  pub purged : List Key
  -- for each site the publisher's last closed generation as the site's last join acted
  pub bases : List (ℕ × ℕ)

abbrev pub no_history : History
no_history = record {
  made = [];
  pasts = [];
  lines = [];
  done = [];
  accepted = [];
  letters = [];
  lost = [];
  purged = [];
  bases = [];
}

abbrev pub pasts_at : History → ℕ → List (Key × Past)
pasts_at h site = unwrap_or (at_number h.pasts site) []

abbrev pub past_in : List (Key × Past) → Key → Past
past_in pasts key = unwrap_or (row_at pasts key) no_past

abbrev pub past_at : History → ℕ → Key → Past
past_at h site key = past_in (pasts_at h site) key

-- with a letter of the pool
abbrev pub pasts_with : History → ℕ → List (Key × Past)
pasts_with h zero = []
pasts_with h (suc number) = unwrap_or (slice_get h.letters number) []

-- a generation of a site has acted
abbrev pub is_done : History → ℕ → ℕ → Bool
is_done h site generation = list_any (λ (entry : ℕ × ℕ). (entry.0 == site) && (entry.1 == generation)) h.done

-- the publisher's own changes are accepted as they are made
abbrev pub is_accepted : History → Dot → Bool
is_accepted h dot = (dot.site.0 == 0) || has h.accepted dot

-- the changes of a site
abbrev pub made_at : History → ℕ → List MadeChange
made_at h site = filter (λ (change : MadeChange). change.dot.site.0 == site) h.made
