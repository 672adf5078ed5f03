-- The subscriber's tables: how they begin, their generations, and local changes.
-- The room holds its steps: the messages that it makes, the replies that it takes, and making anew.
pub mod Sending
pub mod Taking
pub mod Reinit
use Rattle.std.specs.Prelude.{Err, List, None, Ok, Option, Result, Some, [], false, filter, length, nat_lt, not, option_map, unwrap_or, ℕ, ℤ, ◌++◌, ◌+◌, ◌∷◌}
use Rattle.merge_types.specs.declared.changes.Change.{Change}
use Rattle.merge_types.specs.declared.changes.Change.TheVariants.{Insert}
use Rattle.merge_types.specs.declared.identifiers.Dot.{Dot}
use Rattle.merge_types.specs.declared.identifiers.Moment.{Moment}
use Rattle.merge_types.specs.declared.identifiers.RowId.{RowId}
use Rattle.merge_types.specs.declared.identifiers.SiteId.{SiteId}
use Rattle.merge_types.specs.declared.values.Value.{Value}
use Rattle.merge_types.specs.declared.values.Value.TheVariants.{Int, Null}
use Rattle.merge_units.specs.declared.version.Version.{Version}
use Rattle.merge_gens.specs.Book.{book_after_entries, closed_now}
use Rattle.merge_ident.specs.Holders.{Holder, after_take, answer_to_take}
use Rattle.merge_ident.specs.declared.ranges.IdentityUsedUp.{IdentityUsedUp as IdentityEnd}
use Rattle.merge_schema.specs.declared.publication.Publication.{Publication}
use Rattle.merge_batch.specs.declared.refusal.Refusal.{Refusal}
use Rattle.merge_batch.specs.declared.refusal.Refusal.TheVariants.{IdentityUsedUp, Joining}
use Rattle.merge_model.specs.Tables.Changes.{change_refusal, key_of, version_after}
use Rattle.merge_model.specs.Tables.Keys.{at_number, put_number, put_row, row_at}
use Rattle.merge_model.specs.Publisher.{later, new_holders, no_generations}
use Rattle.merge_model.specs.Tables.Refusals.{counter_end, first_refusal, refused_if, unless}
use Rattle.merge_types.specs.declared.row_key.RowKey.{RowKey as Key}
use Rattle.merge_units.specs.declared.site_row.SubscriberRow.{SubscriberRow}
use Rattle.merge_model.specs.Tables.{SubscriberTables}

abbrev pub empty_subscriber : Publication → SiteId → SubscriberTables
empty_subscriber publication site = record {
  site = site;
  changes = 0;
  gens = no_generations;
  conflict_count = 0;
  latest = record { 0 = 0 };
  seq = 0;
  outstanding = None;
  received = 0;
  watermark = 0;
  is_joined = false;
  rows = [];
  conflicts = [];
  held = new_holders publication;
}

abbrev pub subscriber_last_closed : SubscriberTables → ℕ
subscriber_last_closed s = s.gens.filling.last_closed

-- a generation that closes keeps the number of the last change in it
abbrev pub subscriber_closed : SubscriberTables → SubscriberTables
subscriber_closed s = record s { gens = closed_now s.gens (record { 0 = s.changes }) }

abbrev pub subscriber_at_moment : Moment → SubscriberTables → SubscriberTables
subscriber_at_moment now s = record s { latest = later now s.latest }

abbrev pub subscriber_counters : SubscriberTables → List ℕ
subscriber_counters s = s.changes ∷ subscriber_last_closed s ∷ s.seq ∷ s.conflict_count ∷ []

abbrev pub is_joining : SubscriberTables → Option Refusal
is_joining s = refused_if (not s.is_joined) Joining

abbrev pub close_subscriber_generation : Moment → SubscriberTables → Result (SubscriberTables × ℕ) Refusal
close_subscriber_generation now s = let after = subscriber_closed (subscriber_at_moment now s) in unless (counter_end (subscriber_counters s)) (after, subscriber_last_closed after)

-- Local changes.

abbrev pub subscriber_version_at : SubscriberTables → Key → Option Version
subscriber_version_at s key = option_map (λ (row : SubscriberRow). row.version) (row_at s.rows key)

abbrev pub subscriber_next_dot : SubscriberTables → Dot
subscriber_next_dot s = record { site = s.site; number = s.changes + 1 }

-- an identity value and the ranges that are left
abbrev pub taken_value : SubscriberTables → ℕ → Holder → Result ℤ IdentityEnd → Result (Value × List (ℕ × Holder)) Refusal
taken_value s article holder (Ok value) = Ok (Int value, put_number s.held article (after_take holder))
taken_value s article holder (Err used_up) = Err (IdentityUsedUp used_up.end)

abbrev pub subscriber_drawn : SubscriberTables → Change → Result (Value × List (ℕ × Holder)) Refusal
subscriber_drawn s (Insert article values) = elim (at_number s.held article) [
  | None ↦ Ok (Null, s.held)
  | Some holder ↦ taken_value s article holder (answer_to_take holder)
]
subscriber_drawn s change = Ok (Null, s.held)

abbrev pub subscriber_local_refusal : Publication → Change → SubscriberTables → Option Refusal
subscriber_local_refusal publication change s = let dot = subscriber_next_dot s in first_refusal (
    is_joining s
    ∷ counter_end (subscriber_counters s)
    ∷ change_refusal publication dot change (subscriber_version_at s (key_of dot change)) (length s.rows)
    ∷ [])

-- the generations in which a row was changed, with the open one
abbrev pub generations_at : SubscriberTables → Key → List ℕ
generations_at s key = unwrap_or (option_map (λ (row : SubscriberRow). row.generations) (row_at s.rows key)) []

abbrev pub with_open : ℕ → List ℕ → List ℕ
with_open current generations = filter (λ (generation : ℕ). nat_lt generation current) generations ++ current ∷ []

-- one entry in the open generation
abbrev pub with_version : Key → Version → SubscriberTables → SubscriberTables
with_version key version s = record s {
  rows = put_row s.rows key (record { version = version; generations = with_open (subscriber_last_closed s + 1) (generations_at s key) });
  gens = book_after_entries s.gens 1 (record { 0 = s.changes });
}

abbrev pub with_version_if : Key → Option Version → SubscriberTables → SubscriberTables
with_version_if key None s = s
with_version_if key (Some version) s = with_version key version s

abbrev pub subscriber_made_locally : Publication → Change → Value × List (ℕ × Holder) → SubscriberTables → SubscriberTables × RowId
subscriber_made_locally publication change drawn s =
    let dot = subscriber_next_dot s in
    let key = key_of dot change in
    (with_version_if key (version_after publication dot drawn.0 change (subscriber_version_at s key)) (record s { changes = s.changes + 1; held = drawn.1 }), key.row)

abbrev pub subscriber_local : Publication → Moment → Change → SubscriberTables → Result (SubscriberTables × RowId) Refusal
subscriber_local publication now change s = elim (subscriber_local_refusal publication change s) [
  | Some refusal ↦ Err refusal
  | None ↦ elim (subscriber_drawn s change) [
    | Err refusal ↦ Err refusal
    | Ok drawn ↦ Ok (subscriber_made_locally publication change drawn (subscriber_at_moment now s))
  ]
]
