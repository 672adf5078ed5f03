-- What an insert takes of the publisher's own identity ranges.
use Rattle.std.specs.Ordering.{nat_cmp}
use Rattle.std.specs.Prelude.{◌≡◌, ◌⊎◌, ℕ, Bool, true, false, Err, List, None, Ok, Option, Result, Some, is_some}
use Rattle.merge_types.specs.declared.changes.Change.{Change}
use Rattle.merge_types.specs.declared.values.Value.{Value}
use Rattle.merge_types.specs.declared.values.Value.TheVariants.{Int}
use Rattle.merge_table.specs.Edits.{rows_after_all}
use Rattle.merge_ident.specs.Answers.{Answer, answer_of, grants_with_all}
use Rattle.merge_ident.specs.declared.grants.GrantAnswer.TheVariants.{Granted}
use Rattle.merge_ident.specs.declared.grants.Range.{Range}
use Rattle.merge_ident.specs.Holders.{Holder, answer_to_take}
use Rattle.merge_ident.specs.declared.grants.Grant.{Grant}
use Rattle.merge_ident.specs.declared.grants.Rule.{Rule}
use Rattle.merge_schema.specs.declared.publication.Publication.{Publication}
use Rattle.merge_batch.specs.declared.refusal.Refusal.{Refusal}
use Rattle.merge_batch.specs.declared.refusal.Refusal.TheVariants.{NoMemory}
use Rattle.merge_model.specs.Tables.Keys.{at_number}
use Rattle.merge_model.specs.Tables.Publications.{rules_of}
use Rattle.merge_model.specs.Publisher.PublisherLocal.{Drawn, after_answer, draw_for_change, drawn_from, own_ask, taken_from}
use Rattle.merge_model.specs.Tables.{PublisherTables}
use Rattle.merge_steps.specs.Keeps.{AreHeard}
use Rattle.merge_steps.specs.declared.drawing.Draw.{Draw}

-- the ranges and grants after a draw
abbrev pub drawn_by : List Grant → List (ℕ × Holder) → Draw → Drawn
drawn_by grants held d = record { value = d.value; held = rows_after_all nat_cmp held d.held; grants = grants_with_all grants d.grants }

-- what is taken from a holder, whatever else the tables hold
unfoldable pub Takes : List Grant → List (ℕ × Holder) → ℕ → Holder → Result Drawn Refusal → Type 0
Takes grants held article holder by = (p : PublisherTables) → taken_from (record p { held = held }) grants article holder (answer_to_take holder) ≡ by

-- what is taken where the publisher asks itself for a range
unfoldable pub TakesGranted : List Rule → List Grant → List (ℕ × Holder) → ℕ → Holder → Result Drawn Refusal → Type 0
TakesGranted rules grants held article holder by = (p : PublisherTables) →
    (let q : PublisherTables = record p { held = held; grants = grants } in after_answer q article holder (answer_of rules grants (own_ask q article)) ≡ by)

-- what is taken of a holder, or of a new range where it has no value left
unfoldable pub TakesNext : List Rule → List Grant → List (ℕ × Holder) → ℕ → Holder → Result Drawn Refusal → Type 0
TakesNext rules grants held article holder by = (publication : Publication) → rules_of publication ≡ rules → (p : PublisherTables) →
    (let q : PublisherTables = record p { held = held; grants = grants } in drawn_from publication q article holder (answer_to_take holder) ≡ by)

-- what an insert draws
unfoldable pub Draws : Publication → Change → List Grant → List (ℕ × Holder) → Result Drawn Refusal → Type 0
Draws publication change grants held by = (p : PublisherTables) → draw_for_change publication (record p { held = held; grants = grants }) change ≡ by

-- the ranges are still those that the publisher granted itself, of the same articles
pub record KeepsHeld (grants : List Grant) (held : List (ℕ × Holder)) (d : Draw) : Type 0 where
  pub heard : AreHeard (grants_with_all grants d.grants) (rows_after_all nat_cmp held d.held)
  pub same : (article : ℕ) → is_some (at_number (rows_after_all nat_cmp held d.held) article) ≡ is_some (at_number held article)

-- the range that an answer grants
abbrev pub granted_range : Answer → Option (ℕ × Range)
granted_range (Ok (Granted number range)) = Some (number, range)
granted_range answer = None

-- a call draws what a definition says, and is refused for what it says, or for want of memory where it draws
abbrev pub Gives : (Result Drawn Refusal → Type 0) → List Grant → List (ℕ × Holder) → Result Draw Refusal → Type 0
Gives Says grants held (Ok d) = Says (Ok (drawn_by grants held d))
Gives Says grants held (Err refusal) = ((draw : Drawn) × (refusal ≡ NoMemory) × Says (Ok draw)) ⊎ Says (Err refusal)

-- a whole number
abbrev pub is_whole : Value → Bool
is_whole (Int number) = true
is_whole value = false
