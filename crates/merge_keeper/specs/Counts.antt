-- What an index of the entries of generations tells.
use Rattle.std.specs.Prelude.{ℕ, unwrap_or}
use Rattle.std.specs.Map.{lookup}
use Rattle.std.specs.BTreeMap.{is_at}
use Rattle.std.specs.Ordering.{nat_cmp}
use Rattle.merge_keeper.specs.declared.counts.Counts.{Counts}

-- how many entries it has of a generation
abbrev pub count_at : Counts → ℕ → ℕ
count_at counts generation = unwrap_or (lookup (is_at (nat_cmp generation)) counts.counts.rows) 0
