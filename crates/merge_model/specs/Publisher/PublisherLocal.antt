-- Local changes at the publisher.
use Rattle.std.specs.Option.{option_to_list}
use Rattle.std.specs.Prelude.{Err, List, None, Ok, Option, Result, Some, [], length, map, option_map, true, ℕ, ℤ, ◌+◌, ◌∷◌}
use Rattle.merge_types.specs.declared.changes.Change.{Change}
use Rattle.merge_types.specs.declared.changes.Change.TheVariants.{Insert}
use Rattle.merge_types.specs.declared.identifiers.Dot.{Dot}
use Rattle.merge_types.specs.declared.identifiers.Moment.{Moment}
use Rattle.merge_types.specs.declared.identifiers.RowId.{RowId}
use Rattle.merge_types.specs.declared.values.Value.{Value}
use Rattle.merge_types.specs.declared.values.Value.TheVariants.{Int, Null}
use Rattle.merge_units.specs.declared.version.Version.{Version}
use Rattle.merge_ident.specs.Answers.{Answer, answer_of, ask_of, grants_after}
use Rattle.merge_ident.specs.Grants.{granted_to}
use Rattle.merge_ident.specs.Holders.{Holder, after_receive, after_take, answer_to_take}
use Rattle.merge_ident.specs.declared.grants.Ask.{Ask}
use Rattle.merge_ident.specs.declared.grants.Grant.{Grant}
use Rattle.merge_ident.specs.declared.grants.GrantAnswer.TheVariants.{Granted}
use Rattle.merge_ident.specs.declared.ranges.IdentityUsedUp.{IdentityUsedUp as IdentityEnd}
use Rattle.merge_schema.specs.declared.publication.Publication.{Publication}
use Rattle.merge_batch.specs.declared.refusal.Refusal.{Refusal}
use Rattle.merge_batch.specs.declared.refusal.Refusal.TheVariants.{IdentityUsedUp}
use Rattle.merge_model.specs.Tables.Changes.{change_refusal, key_of, version_after}
use Rattle.merge_model.specs.Publisher.Entries.{Changing, changed_by}
use Rattle.merge_model.specs.Judge.{PublisherJudge}
use Rattle.merge_model.specs.Tables.Keys.{at_number, put_number, row_at}
use Rattle.merge_model.specs.Tables.Publications.{rules_of}
use Rattle.merge_model.specs.Publisher.{at_moment, counters}
use Rattle.merge_model.specs.Tables.Refusals.{counter_end, first_refusal}
use Rattle.merge_types.specs.declared.row_key.RowKey.{RowKey as Key}
use Rattle.merge_units.specs.declared.site_row.PublisherRow.{PublisherRow}
use Rattle.merge_model.specs.Tables.{PublisherTables}

abbrev pub version_at : PublisherTables → Key → Option Version
version_at p key = option_map (λ (row : PublisherRow). row.version) (row_at p.rows key)

abbrev pub next_dot : PublisherTables → Dot
next_dot p = record { site = record { 0 = 0 }; number = p.changes + 1 }

-- an identity value with what is left, the grants included
pub record Drawn : Type 0 where
  pub value : Value
  pub held : List (ℕ × Holder)
  pub grants : List Grant

abbrev pub no_draw : PublisherTables → Drawn
no_draw p = record { value = Null; held = p.held; grants = p.grants }

abbrev pub taken_from : PublisherTables → List Grant → ℕ → Holder → Result ℤ IdentityEnd → Result Drawn Refusal
taken_from p grants article holder (Ok value) = Ok (record { value = Int value; held = put_number p.held article (after_take holder); grants = grants })
taken_from p grants article holder (Err used_up) = Err (IdentityUsedUp used_up.end)

-- the publisher grants itself a range where it has no value left
abbrev pub own_ask : PublisherTables → ℕ → Ask
own_ask p article = ask_of (record { 0 = 0 }) article (granted_to article 0 p.grants) true

abbrev pub after_answer : PublisherTables → ℕ → Holder → Answer → Result Drawn Refusal
after_answer p article holder (Ok (Granted number range)) =
    taken_from p (grants_after p.grants (own_ask p article) (Ok (Granted number range))) article (after_receive holder range) (answer_to_take (after_receive holder range))
after_answer p article holder answer = taken_from p p.grants article holder (answer_to_take holder)

abbrev pub drawn_from : Publication → PublisherTables → ℕ → Holder → Result ℤ IdentityEnd → Result Drawn Refusal
drawn_from publication p article holder (Ok value) = taken_from p p.grants article holder (Ok value)
drawn_from publication p article holder (Err used_up) = after_answer p article holder (answer_of (rules_of publication) p.grants (own_ask p article))

-- the identity value of a new row, where its article has an identity column
abbrev pub draw_for_change : Publication → PublisherTables → Change → Result Drawn Refusal
draw_for_change publication p (Insert article values) = elim (at_number p.held article) [
  | None ↦ Ok (no_draw p)
  | Some holder ↦ drawn_from publication p article holder (answer_to_take holder)
]
draw_for_change publication p change = Ok (no_draw p)

abbrev pub local_refusal : Publication → Change → PublisherTables → Option Refusal
local_refusal publication change p = let dot = next_dot p in first_refusal (
    counter_end (counters p)
    ∷ change_refusal publication dot change (version_at p (key_of dot change)) (length p.rows)
    ∷ [])

abbrev pub changing_locally : Publication → Change → Value → PublisherTables → Changing
changing_locally publication change value p = let dot = next_dot p in let key = key_of dot change in record {
  versions = map (λ (version : Version). (key, version)) (option_to_list (version_after publication dot value change (version_at p key)));
  acted = [];
  uploader = 0;
}

-- the tables with the change's number and with what its identity value took
abbrev pub with_draw : Drawn → PublisherTables → PublisherTables
with_draw drawn p = record p {
  changes = p.changes + 1;
  held = drawn.held;
  grants = drawn.grants;
}

abbrev pub made_locally : Publication → PublisherJudge → Change → Drawn → PublisherTables → PublisherTables × RowId
made_locally publication judge change drawn p = let key = key_of (next_dot p) change in
    (changed_by publication judge (changing_locally publication change drawn.value p) (with_draw drawn p), key.row)

abbrev pub local : Publication → PublisherJudge → Moment → Change → PublisherTables → Result (PublisherTables × RowId) Refusal
local publication judge now change p = elim (local_refusal publication change p) [
  | Some refusal ↦ Err refusal
  | None ↦ elim (draw_for_change publication p change) [
    | Err refusal ↦ Err refusal
    | Ok drawn ↦ Ok (made_locally publication judge change drawn (at_moment now p))
  ]
]
