-- What a site decides by. A step reads these and neither lineages nor histories itself.
-- The room holds the two ways to decide: by tables, and by the history.
pub mod ByNumbers
pub mod ByHistory
use Rattle.std.specs.Prelude.{Bool, List, Option, ℕ}
use Rattle.merge_units.specs.declared.version.Version.{Version}
use Rattle.merge_units.specs.Version.{Knowing}
use Rattle.merge_types.specs.declared.row_key.RowKey.{RowKey as Key}

-- what the publisher decides by. Sites are named by number
pub record PublisherJudge : Type 0 where
  -- a site's last generation that has acted, and its last change number in it
  pub received : ℕ → ℕ
  pub received_number : ℕ → ℕ
  -- the greatest change number of a site that the publisher has met
  pub seen : ℕ → ℕ
  -- whether a site's generation has acted
  pub has_acted : ℕ → ℕ → Bool
  -- whether some generation of a site up to this one has not acted, so that a batch behind it would leave a gap
  pub is_gap : ℕ → ℕ → Bool
  -- whether the change of a site that made a row has not acted, by its number
  pub is_unmet : ℕ → ℕ → Bool
  -- what the publisher's version of a row knows, and what an incoming one does
  pub knows_here : Key → Version → Knowing
  pub knows_there : Key → Version → Knowing
  -- whether the last line of a row for a site says that it left
  pub has_left : Key → ℕ → Bool
  -- the rows that have a line for a site
  pub moved_rows : ℕ → List Key
  -- the generation in which a row was touched for a site, by whether it is in its partition
  pub touch : Key → ℕ → Bool → Option ℕ

-- what a subscriber decides by
pub record SubscriberJudge : Type 0 where
  -- the rows that the site changed in the generations behind one, up to another, by article and row, each with the last such generation
  pub changed_between : ℕ → ℕ → List (Key × ℕ)
  -- whether the site changed a row in a generation above this one
  pub is_unsent : ℕ → Key → Bool
