-- The same decisions by histories: by known changes, by sets of generations, and by lines.
use Rattle.std.specs.List.{fold, list_any, range_with_len}
use Rattle.std.specs.Option.{option_map_or}
use Rattle.std.specs.Prelude.{Bool, List, None, Option, Some, [], false, filter, find, if◌then◌else◌, map, max, nat_le, nat_lt, not, option_map, true, unwrap_or, ℕ, ◌&&◌, ◌==◌}
use Rattle.merge_types.specs.declared.identifiers.Dot.{Dot}
use Rattle.merge_types.specs.declared.identifiers.SiteId.{SiteId}
use Rattle.merge_units.specs.declared.version.Version.{Version}
use Rattle.merge_units.specs.Version.{Knowing}
use Rattle.merge_model.specs.History.{Changed, EnteredFor, GoneFor, History, LeftFor, Line, MadeChange, Past, has, is_done, made_at, past_at, past_in, pasts_with}
use Rattle.merge_model.specs.Judge.{PublisherJudge, SubscriberJudge}
use Rattle.merge_model.specs.Tables.Keys.{put_row, row_at, same_key}
use Rattle.merge_types.specs.declared.row_key.RowKey.{RowKey as Key}
use Rattle.merge_model.specs.Tables.{SubscriberTables}
use Rattle.merge_model.specs.World.{Judges}

-- Of the publisher.

-- the greatest generation of a site that has acted
abbrev pub received_by_done : History → ℕ → ℕ
received_by_done h site = fold (λ (most : ℕ) (entry : ℕ × ℕ). if entry.0 == site then max most entry.1 else most) 0 h.done

-- the greatest number of its changes that stand in generations that have acted
abbrev pub received_number_by_done : History → ℕ → ℕ
received_number_by_done h site = fold (λ (most : ℕ) (change : MadeChange). if is_done h site change.generation then max most change.dot.number else most) 0 (made_at h site)

-- the greatest number of an accepted change, or of one in these generations
abbrev pub greatest_accepted : History → ℕ → ℕ
greatest_accepted h site = fold (λ (most : ℕ) (dot : Dot). if dot.site.0 == site then max most dot.number else most) 0 h.accepted

abbrev pub seen_by_accepted : History → ℕ → ℕ
seen_by_accepted h site = max (greatest_accepted h site) (received_number_by_done h site)

abbrev pub has_acted_by_done : History → ℕ → ℕ → Bool
has_acted_by_done h site generation = is_done h site generation

-- some generation up to this one has not acted
abbrev pub is_gap_by_done : History → ℕ → ℕ → Bool
is_gap_by_done h site from = list_any (λ (generation : ℕ). not (is_done h site generation)) (range_with_len 1 from)

-- the change stands in no generation that has acted
abbrev pub is_unmet_by_done : History → ℕ → ℕ → Bool
is_unmet_by_done h site number = not (list_any (λ (change : MadeChange). (change.dot.number == number) && is_done h site change.generation) (made_at h site))

-- a version knows what its past knows
abbrev pub knows_by_past : (Key → Past) → Key → Version → Knowing
knows_by_past past key version = has (past key).known

-- the last line of a row for a site
abbrev pub is_line_for : Key → ℕ → Line → Bool
is_line_for key site line = same_key key line.key && elim line.kind [
  | Changed ↦ false
  | EnteredFor other ↦ other == site
  | LeftFor other ↦ other == site
  | GoneFor other ↦ other == site
]

abbrev pub last_line : History → Key → ℕ → Option Line
last_line h key site = find (is_line_for key site) h.lines

abbrev pub says_left : Option Line → Bool
says_left None = false
says_left (Some line) = elim line.kind [
  | Changed ↦ false
  | EnteredFor site ↦ false
  | LeftFor site ↦ true
  | GoneFor site ↦ false
]

abbrev pub has_left_by_line : History → Key → ℕ → Bool
has_left_by_line h key site = says_left (last_line h key site)

-- the rows that have a line for a site
abbrev pub line_site : Line → Option ℕ
line_site line = elim line.kind [
  | Changed ↦ None
  | EnteredFor site ↦ Some site
  | LeftFor site ↦ Some site
  | GoneFor site ↦ Some site
]

abbrev pub moved_rows_by_line : History → ℕ → List Key
moved_rows_by_line h site = map (λ (line : Line). line.key) (filter (λ (line : Line). option_map_or (λ (other : ℕ). other == site) (line_site line) false) h.lines)

-- the generation of a row's last change
abbrev pub is_change_of : Key → Line → Bool
is_change_of key line = same_key key line.key && elim line.kind [
  | Changed ↦ true
  | EnteredFor site ↦ false
  | LeftFor site ↦ false
  | GoneFor site ↦ false
]

abbrev pub last_change : History → Key → Option ℕ
last_change h key = option_map (λ (line : Line). line.generation) (find (is_change_of key) h.lines)

-- in the partition: the later of the last change and of the coming in; outside: the leaving
abbrev pub touched_inside : ℕ → Option Line → ℕ
touched_inside changed None = changed
touched_inside changed (Some line) = elim line.kind [
  | Changed ↦ changed
  | EnteredFor site ↦ max changed line.generation
  | LeftFor site ↦ changed
  | GoneFor site ↦ changed
]

abbrev pub touched_outside : Option Line → Option ℕ
touched_outside None = None
touched_outside (Some line) = elim line.kind [
  | Changed ↦ None
  | EnteredFor site ↦ None
  | LeftFor site ↦ Some line.generation
  | GoneFor site ↦ None
]

abbrev pub touch_by_line : History → Key → ℕ → Bool → Option ℕ
touch_by_line h key site true = option_map (λ (changed : ℕ). touched_inside changed (last_line h key site)) (last_change h key)
touch_by_line h key site false = touched_outside (last_line h key site)

-- where a message comes in, with the pasts of the versions in it
abbrev pub by_past : History → List (Key × Past) → PublisherJudge
by_past h incoming = record {
  received = received_by_done h;
  received_number = received_number_by_done h;
  seen = seen_by_accepted h;
  has_acted = has_acted_by_done h;
  is_gap = is_gap_by_done h;
  is_unmet = is_unmet_by_done h;
  knows_here = knows_by_past (past_at h 0);
  knows_there = knows_by_past (past_in incoming);
  has_left = has_left_by_line h;
  moved_rows = moved_rows_by_line h;
  touch = touch_by_line h;
}

-- Of a subscriber: by the changes that it made, with the generations in which they stand.

abbrev pub is_between_made : ℕ → ℕ → MadeChange → Bool
is_between_made from to change = nat_lt from change.generation && nat_le change.generation to

-- the greatest generation stays
abbrev pub with_change_of : List (Key × ℕ) → MadeChange → List (Key × ℕ)
with_change_of rows change = put_row rows change.key (max change.generation (unwrap_or (row_at rows change.key) 0))

abbrev pub changed_between_by_made : History → SiteId → ℕ → ℕ → List (Key × ℕ)
changed_between_by_made h site from to = fold with_change_of [] (filter (is_between_made from to) (made_at h site.0))

abbrev pub is_unsent_by_made : History → SiteId → ℕ → Key → Bool
is_unsent_by_made h site received key = list_any (λ (change : MadeChange). nat_lt received change.generation && same_key key change.key) (made_at h site.0)

abbrev pub by_made : History → SiteId → SubscriberJudge
by_made h site = record {
  changed_between = changed_between_by_made h site;
  is_unsent = is_unsent_by_made h site;
}

-- what the sites of a world with this history decide by
abbrev pub by_history : History → Judges
by_history h = record {
  publisher = λ (number : ℕ). by_past h (pasts_with h number);
  subscriber = λ (site : SiteId) (s : SubscriberTables). by_made h site;
}
