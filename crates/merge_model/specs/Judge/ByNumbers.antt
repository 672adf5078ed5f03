-- The decisions of both sites by what their tables hold: by lineages, numbers, mappings and generations.
use Rattle.std.specs.List.{last_or, list_any}
use Rattle.std.specs.Prelude.{Bool, List, None, Option, Some, false, filter, filter_map, map, max, nat_le, nat_lt, option_map, true, unwrap_or, ℕ, ◌&&◌, ◌==◌}
use Rattle.merge_lineage.specs.Lineage.{knows}
use Rattle.merge_units.specs.declared.version.Version.{Version}
use Rattle.merge_gens.specs.declared.sites.SiteState.{SiteState}
use Rattle.merge_units.specs.Version.{Knowing}
use Rattle.merge_model.specs.Judge.{PublisherJudge, SubscriberJudge}
use Rattle.merge_model.specs.Tables.Keys.{at_number, at_row_site, row_at}
use Rattle.merge_model.specs.Subscriber.{generations_at}
use Rattle.merge_gens.specs.declared.moves.MoveKind.TheVariants.{Entered, Left}
use Rattle.merge_types.specs.declared.row_key.RowKey.{RowKey as Key}
use Rattle.merge_gens.specs.declared.moves.Mapping.{Mapping}
use Rattle.merge_units.specs.declared.site_row.PublisherRow.{PublisherRow}
use Rattle.merge_gens.specs.declared.moves.RowSite.{RowSite}
use Rattle.merge_units.specs.declared.site_row.SubscriberRow.{SubscriberRow}
use Rattle.merge_gens.specs.Moves.{is_left}
use Rattle.merge_model.specs.Tables.{PublisherTables, SubscriberTables}

-- Of the publisher.

abbrev pub state_number : (SiteState → ℕ) → PublisherTables → ℕ → ℕ
state_number field p site = unwrap_or (option_map field (at_number p.sites site)) 0

-- generations act in order, so that those up to the received one have acted
abbrev pub received_by_number : PublisherTables → ℕ → ℕ
received_by_number p site = state_number (λ (state : SiteState). state.received) p site

abbrev pub received_number_by_number : PublisherTables → ℕ → ℕ
received_number_by_number p site = state_number (λ (state : SiteState). state.received_number) p site

abbrev pub seen_by_number : PublisherTables → ℕ → ℕ
seen_by_number p site = state_number (λ (state : SiteState). state.seen) p site

abbrev pub has_acted_by_number : PublisherTables → ℕ → ℕ → Bool
has_acted_by_number p site generation = nat_le generation (received_by_number p site)

abbrev pub is_gap_by_number : PublisherTables → ℕ → ℕ → Bool
is_gap_by_number p site from = nat_lt (received_by_number p site) from

abbrev pub is_unmet_by_number : PublisherTables → ℕ → ℕ → Bool
is_unmet_by_number p site number = nat_lt (received_number_by_number p site) number

-- a version knows what its lineage knows
abbrev pub knows_by_lineage : Key → Version → Knowing
knows_by_lineage key version = knows version.lineage

-- a mapping keeps the last move
abbrev pub mapping_at : PublisherTables → Key → ℕ → Option Mapping
mapping_at p key site = at_row_site p.mappings (record { key = key; site = site })

abbrev pub has_left_by_mapping : PublisherTables → Key → ℕ → Bool
has_left_by_mapping p key site = unwrap_or (option_map (λ (mapping : Mapping). is_left mapping.kind) (mapping_at p key site)) false

abbrev pub moved_rows_by_mapping : PublisherTables → ℕ → List Key
moved_rows_by_mapping p site = map (λ (entry : RowSite × Mapping). entry.0.key) (filter (λ (entry : RowSite × Mapping). entry.0.site == site) p.mappings)

-- in the partition: the later of the last change and of the coming in; outside: the leaving
abbrev pub touch_inside : ℕ → Option Mapping → ℕ
touch_inside changed None = changed
touch_inside changed (Some mapping) = elim mapping.kind [
  | Entered ↦ max changed mapping.generation
  | Left ↦ changed
]

abbrev pub touch_outside : Option Mapping → Option ℕ
touch_outside None = None
touch_outside (Some mapping) = elim mapping.kind [
  | Entered ↦ None
  | Left ↦ Some mapping.generation
]

abbrev pub changed_in : PublisherTables → Key → Option ℕ
changed_in p key = option_map (λ (row : PublisherRow). row.changed) (row_at p.rows key)

abbrev pub touch_by_mapping : PublisherTables → Key → ℕ → Bool → Option ℕ
touch_by_mapping p key site true = option_map (λ (changed : ℕ). touch_inside changed (mapping_at p key site)) (changed_in p key)
touch_by_mapping p key site false = touch_outside (mapping_at p key site)

abbrev pub by_numbers : PublisherTables → PublisherJudge
by_numbers p = record {
  received = received_by_number p;
  received_number = received_number_by_number p;
  seen = seen_by_number p;
  has_acted = has_acted_by_number p;
  is_gap = is_gap_by_number p;
  is_unmet = is_unmet_by_number p;
  knows_here = knows_by_lineage;
  knows_there = knows_by_lineage;
  has_left = has_left_by_mapping p;
  moved_rows = moved_rows_by_mapping p;
  touch = touch_by_mapping p;
}

-- Of a subscriber: a row keeps the generations in which the site changed it.

abbrev pub last_between : ℕ → ℕ → List ℕ → Option ℕ
last_between from to generations = last_or None (filter (λ (generation : ℕ). nat_lt from generation && nat_le generation to) generations)

abbrev pub changed_row_between : ℕ → ℕ → Key × SubscriberRow → Option (Key × ℕ)
changed_row_between from to row = option_map (λ (generation : ℕ). (row.0, generation)) (last_between from to row.1.generations)

abbrev pub changed_between_by_rows : SubscriberTables → ℕ → ℕ → List (Key × ℕ)
changed_between_by_rows s from to = filter_map (changed_row_between from to) s.rows

abbrev pub is_unsent_by_rows : SubscriberTables → ℕ → Key → Bool
is_unsent_by_rows s received key = list_any (λ (generation : ℕ). nat_lt received generation) (generations_at s key)

abbrev pub by_rows : SubscriberTables → SubscriberJudge
by_rows s = record {
  changed_between = changed_between_by_rows s;
  is_unsent = is_unsent_by_rows s;
}
