-- How entries fill generations. Entries are numbered from 0 as they are added.
use Rattle.std.specs.Prelude.{◌≡◌, ℕ, ◌+◌, ◌/◌, ◌%◌, ◌==◌, List, map, if◌then◌else◌}
use Rattle.std.specs.List.{range_with_len}
use Rattle.merge_types.specs.Limits.{entry_limit}
use Rattle.merge_gens.specs.declared.filling.Filling.{Filling}

-- the generation of the entry with this number: the open one takes entries up to the limit, the one behind it the next, and so on
abbrev pub generation_of : Filling → ℕ → ℕ
generation_of filling number = filling.last_closed + 1 + (filling.filled + number) / entry_limit

-- the generations of so many entries, in the order in which they are added
abbrev pub generations_of : Filling → ℕ → List ℕ
generations_of filling count = map (generation_of filling) (range_with_len 0 count)

-- after so many entries each generation that is full has closed, and the open one holds the rest
abbrev pub filled_by : Filling → ℕ → Filling
filled_by filling count = record {
  last_closed = filling.last_closed + (filling.filled + count) / entry_limit;
  filled = (filling.filled + count) % entry_limit;
}

-- the open generation closes where it holds an entry, and the next one is open
abbrev pub filling_after_close : Filling → Filling
filling_after_close filling = if filling.filled == 0 then filling else record { last_closed = filling.last_closed + 1; filled = 0 }

-- one more entry: it is the last of its generation where it makes a thousand, and the generation closes
abbrev pub with_entry : Filling → Filling
with_entry filling = if filling.filled + 1 == entry_limit then record { last_closed = filling.last_closed + 1; filled = 0 } else record { last_closed = filling.last_closed; filled = filling.filled + 1 }

-- entries fill generations one after another: each stands in the one that is open as it is added, and several are one after the other
pub record FillsOneByOne (filling : Filling) : Type 0 where
  pub none : filled_by filling 0 ≡ filling
  pub more : (count : ℕ) → filled_by filling (count + 1) ≡ with_entry (filled_by filling count)
  pub stands : (number : ℕ) → generation_of filling number ≡ (filled_by filling number).last_closed + 1
