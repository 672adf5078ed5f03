-- What contracts see of a membership.
use Rattle.std.specs.Prelude.{◌+◌, ◌*◌, ◌≤◌, List, length}
use Rattle.std.specs.Coded.{Coded}
use Rattle.merge_filter.specs.declared.filters.Filter.{Filter}
use Rattle.merge_filter.specs.Code.{syntax_code}
use Rattle.merge_table.specs.declared.edit.Edit.{Edit}
use Rattle.merge_table.specs.Edits.{rows_after_all, IsReady}
use Rattle.merge_schema.specs.declared.publication.Publication.{Publication}
use Rattle.merge_types.specs.declared.row_key.RowKey.{RowKey}
use Rattle.merge_part.specs.declared.sites.Sites.{Sites}
use Rattle.merge_part.specs.declared.content.Content.{Content}
use Rattle.merge_part.specs.declared.draft.Held.{Held}
use Rattle.merge_part.specs.declared.index.Indexes.{Indexes}
use Rattle.merge_part.specs.declared.link.Rules.{Rules}
use Rattle.merge_types.specs.RowKeys.{key_cmp}
use Rattle.merge_part.specs.Live.{Live, live_of}
use Rattle.merge_join.specs.declared.entry.JoinEntry.{JoinEntry}
use Rattle.merge_join.specs.Entries.{entry_cmp}
use Rattle.merge_join.specs.Index.{set_after_all}
use Rattle.merge_part.specs.Rules.{AreRules, IsKept}

-- The publication, and what is held. The live rows are `live_in`; how they are held shows in no
-- contract but that a plan is ready.
pub record View : Type 0 where
  pub publication : Publication
  pub rules : Rules
  pub index : Indexes
  pub held : Held

-- filters are stored as their syntax
pub filter_code : Coded Filter
filter_code = syntax_code

-- the live rows with their values, by article and row
abbrev pub live_in : View → Live
live_in view = live_of view.held.rows.rows

-- What is stored, and what holds of it: the rules are those of the publication; and each row is held
-- with the subscribers whose filter it passes, is marked with exactly the partitions that the rule
-- gives it, and is found by its values as a child and as a parent, and by no others.
pub record IsSound (view : View) : Type 0 where
  pub rules : AreRules view.publication view.rules
  pub kept : IsKept view.publication view.rules.links view.index.children.set view.index.parents.set view.held.rows.rows view.held.marks.rows

-- changes of what is held, for which the memory is there
pub record Plan : Type 0 where
  pub rows : List (Edit RowKey Content)
  pub marks : List (Edit RowKey Sites)
  pub children : List (Edit JoinEntry (Unit {0}))
  pub parents : List (Edit JoinEntry (Unit {0}))

-- the live rows after a plan is made
abbrev pub live_after_plan : View → Plan → Live
live_after_plan view plan = live_of (rows_after_all key_cmp view.held.rows.rows plan.rows)

-- the membership has the memory for the plan, and is sound after it
pub record IsPrepared (view : View) (plan : Plan) : Type 0 where
  pub rows : IsReady key_cmp view.held.rows.slots plan.rows
  pub marks : IsReady key_cmp view.held.marks.slots plan.marks
  pub children : IsReady entry_cmp view.index.children.room plan.children
  pub parents : IsReady entry_cmp view.index.parents.room plan.parents
  pub kept : IsKept view.publication view.rules.links (set_after_all view.index.children.set plan.children) (set_after_all view.index.parents.set plan.parents) (rows_after_all key_cmp view.held.rows.rows plan.rows) (rows_after_all key_cmp view.held.marks.rows plan.marks)

-- the memory that is kept is at most for twice what is held
pub record IsCompact (view : View) : Type 0 where
  pub rows : length view.held.rows.slots ≤ 2 * length view.held.rows.rows
  pub marks : length view.held.marks.slots ≤ 2 * length view.held.marks.rows
  pub children : length view.index.children.room ≤ 2 * length view.index.children.set
  pub parents : length view.index.parents.room ≤ 2 * length view.index.parents.set

-- the memory that is kept is at most for twice what is held, and for the plan
pub record IsCompactFor (view : View) (plan : Plan) : Type 0 where
  pub rows : length view.held.rows.slots ≤ 2 * length view.held.rows.rows + length plan.rows
  pub marks : length view.held.marks.slots ≤ 2 * length view.held.marks.rows + length plan.marks
  pub children : length view.index.children.room ≤ 2 * length view.index.children.set + length plan.children
  pub parents : length view.index.parents.room ≤ 2 * length view.index.parents.set + length plan.parents
