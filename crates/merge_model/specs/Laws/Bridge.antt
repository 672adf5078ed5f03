-- The bridge, as a list of equations: each decision by numbers is the one by history.
use Rattle.std.specs.Prelude.{List, false, is_some, true, ℕ, ◌≡◌, ◌≤◌}
use Rattle.merge_lineage.specs.Lineage.{knows}
use Rattle.merge_units.specs.declared.version.Version.{Version}
use Rattle.merge_schema.specs.declared.publication.Publication.{Publication}
use Rattle.merge_model.specs.Judge.ByHistory.{changed_between_by_made, has_acted_by_done, has_left_by_line, is_gap_by_done, is_unmet_by_done, is_unsent_by_made, received_by_done, received_number_by_done, seen_by_accepted, touch_by_line}
use Rattle.merge_model.specs.Judge.ByNumbers.{changed_between_by_rows, has_acted_by_number, has_left_by_mapping, is_gap_by_number, is_unmet_by_number, is_unsent_by_rows, received_by_number, received_number_by_number, seen_by_number, touch_by_mapping}
use Rattle.merge_units.specs.Cases.{case_by}
use Rattle.merge_units.specs.Version.{new_tops}
use Rattle.merge_model.specs.History.{Past, has, past_at, past_in}
use Rattle.merge_model.specs.Tables.Keys.{row_at}
use Rattle.merge_model.specs.History.Model.{Model, model_step, tables_of}
use Rattle.merge_model.specs.World.Steps.{Action, step}
use Rattle.merge_types.specs.declared.row_key.RowKey.{RowKey as Key}
use Rattle.merge_model.specs.Tables.{SubscriberTables}
use Rattle.merge_model.specs.World.{Saying}

-- at the publisher
pub record PublisherDecidesAlike (m : Model) : Type 0 where
  pub received : (site : ℕ) → received_by_number m.world.publisher site ≡ received_by_done m.history site
  pub received_number : (site : ℕ) → received_number_by_number m.world.publisher site ≡ received_number_by_done m.history site
  -- of its own changes the publisher keeps no such number
  pub seen : (site : ℕ) → 1 ≤ site → seen_by_number m.world.publisher site ≡ seen_by_accepted m.history site
  pub has_acted : (site generation : ℕ) → 1 ≤ generation → has_acted_by_number m.world.publisher site generation ≡ has_acted_by_done m.history site generation
  pub is_gap : (site from : ℕ) → is_gap_by_number m.world.publisher site from ≡ is_gap_by_done m.history site from
  pub has_left : (key : Key) (site : ℕ) → has_left_by_mapping m.world.publisher key site ≡ has_left_by_line m.history key site
  -- a row that is in a partition is held. Of a row whose tombstone was purged the lines still have the last change
  pub touch_inside : (key : Key) (site : ℕ) → is_some (row_at m.world.publisher.rows key) ≡ true → touch_by_mapping m.world.publisher key site true ≡ touch_by_line m.history key site true
  pub touch_outside : (key : Key) (site : ℕ) → touch_by_mapping m.world.publisher key site false ≡ touch_by_line m.history key site false

-- at a subscriber
pub record SubscriberDecidesAlike (m : Model) (s : SubscriberTables) : Type 0 where
  pub changed_between : (from to : ℕ) → s.received ≤ from → changed_between_by_rows s from to ≡ changed_between_by_made m.history s.site from to
  pub is_unsent : (received : ℕ) (key : Key) → s.received ≤ received → is_unsent_by_rows s received key ≡ is_unsent_by_made m.history s.site received key

-- of an upload's item that meets the publisher's row: the case, and which of the publisher's tops are news
pub record CaseDecidesAlike (m : Model) (incoming : List (Key × Past)) (key : Key) (held there : Version) : Type 0 where
  pub same_case : case_by (knows held.lineage) (knows there.lineage) held.body there.body ≡ case_by (has (past_at m.history 0 key).known) (has (past_in incoming key).known) held.body there.body
  pub same_news : new_tops (knows there.lineage) held.body ≡ new_tops (has (past_in incoming key).known) held.body
  -- changes are numbered from 1
  pub same_new : (site number : ℕ) → 1 ≤ number → is_unmet_by_number m.world.publisher site number ≡ is_unmet_by_done m.history site number

-- where all decisions are alike, the machine's step from the tables of a model is the model's step with the history left out
abbrev pub StepsAlike : Publication → Saying → Model → Action → Type 0
StepsAlike publication says m action = step publication says (tables_of m) action ≡ (tables_of (model_step publication says m action).0, (model_step publication says m action).1)
