-- What a run meets outside of itself.
use Rattle.std.specs.Prelude.{List, Option, ℕ, ◌≡◌}
use Rattle.merge_types.specs.declared.identifiers.SiteId.{SiteId}
use Rattle.merge_outside.specs.Offers.{Offers}
use Rattle.merge_ports.specs.Entries.{Map}
use Rattle.merge_ports.specs.declared.outside.Counts.{Counts}
use Rattle.merge_program.specs.Runs.{Sides}

-- What is told before a run and behind it, each part where it is told, and how many faults there were by then.
pub record Visit : Type 0 where
  -- the bytes of the input; and the texts at paths, the moments of a clock, and the link, before and behind
  pub input : Option (List ℕ)
  pub offers : Offers
  pub behind : Offers
  -- the maps of the stores, before and behind
  pub stored : SiteId → List ℕ → Option Map
  pub kept : SiteId → List ℕ → Option Map
  -- what the output told, before and behind
  pub was : Option (List ℕ)
  pub written : Option (List ℕ)
  -- the faults of the outside, before and behind
  pub old : Counts
  pub new : Counts
  -- the writes that failed, before and behind, and the reads of the input
  pub writes : ℕ
  pub refused : ℕ
  pub reads : ℕ
  pub failed : ℕ

-- A run ended before its site was started: nothing was written, all stores are told as before, what is told of texts, links and clocks
-- stays, and no link failed.
pub record IsIdle (v : Visit) : Type 0 where
  pub silent : v.written ≡ v.was
  pub same : v.kept ≡ v.stored
  pub unasked : v.behind ≡ v.offers
  pub unlinked : v.new.links ≡ v.old.links

-- the output and the faults of stores
abbrev pub sides_of : Visit → Sides
sides_of v = record { was = v.was; written = v.written; before = v.old.stores; after = v.new.stores }
