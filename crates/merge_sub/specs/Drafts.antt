-- The changes of a step, and what a draft promises.
use Rattle.std.specs.Prelude.{◌≡◌, ◌++◌, ℕ, None, Option, Some, option_map}
use Rattle.std.specs.Ordering.{nat_cmp}
use Rattle.merge_types.specs.RowKeys.{key_cmp}
use Rattle.merge_table.specs.Edits.{IsReady, rows_after_all}
use Rattle.merge_gens.specs.Book.{forgotten_if_any}
use Rattle.merge_gens.specs.Entries.{entry_cmp}
use Rattle.merge_gens.specs.Index.{entries_after_all}
use Rattle.merge_gens.specs.Plan.{IsPrepared, book_after_plan}
use Rattle.merge_conflict.specs.Table as conflicts
use Rattle.merge_model.specs.Tables.{SubscriberTables}
use Rattle.merge_sub.specs.Held.{Held, IsSound, tables_of}
use Rattle.merge_sub.specs.declared.changes.Changes.{Changes}
use Rattle.merge_sub.specs.declared.changes.Draft.{Draft}

-- the tables after a step's changes
abbrev pub after : Changes → SubscriberTables → SubscriberTables
after c s = record {
  site = s.site;
  changes = c.state.changes;
  gens = forgotten_if_any (book_after_plan s.gens c.gens) c.done;
  conflict_count = c.state.conflict_count;
  latest = c.state.latest;
  seq = c.state.seq;
  outstanding = c.state.outstanding;
  received = c.state.received;
  watermark = c.state.watermark;
  is_joined = c.state.is_joined;
  rows = rows_after_all key_cmp s.rows c.rows;
  conflicts = s.conflicts ++ c.conflicts.rows;
  held = rows_after_all nat_cmp s.held c.held;
}

-- the tables after a draft, and what the call answers
abbrev pub drafted : {A : Type 0} → SubscriberTables → Draft × A → SubscriberTables × A
drafted s made = (after made.0.changes s, made.1)

-- the same, where there may be nothing to do
abbrev pub drafted_if_any : {A : Type 0} → SubscriberTables → Option (Draft × A) → Option (SubscriberTables × A)
drafted_if_any s made = option_map (drafted s) made

-- the memory for a step is there, and all is sound after it
pub record IsDrafted (h : Held) (d : Draft) : Type 0 where
  pub gens : IsPrepared h.gens d.changes.gens
  pub rows : IsReady key_cmp h.rows.slots d.changes.rows
  pub held : IsReady nat_cmp h.held.slots d.changes.held
  pub conflicts : conflicts.IsReady h.conflicts d.changes.conflicts
  pub unsent : IsReady entry_cmp h.unsent.slots d.index.changes
  pub sound : IsSound h.publication (after d.changes (tables_of h)) (entries_after_all h.unsent.entries d.index.changes)

-- where there is anything to do
abbrev pub IsDraftedIfAny : {A : Type 0} → Held → Option (Draft × A) → Type 0
IsDraftedIfAny h None = Unit {0}
IsDraftedIfAny h (Some made) = IsDrafted h made.0

-- where a step may do nothing
abbrev pub after_if_any : Option Draft → SubscriberTables → SubscriberTables
after_if_any None s = s
after_if_any (Some draft) s = after draft.changes s

abbrev pub IsDraftedIfNeeded : Held → Option Draft → Type 0
IsDraftedIfNeeded h None = Unit {0}
IsDraftedIfNeeded h (Some draft) = IsDrafted h draft
