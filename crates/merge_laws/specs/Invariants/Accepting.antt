-- What is accepted: with a change all that it knew, and where the publisher holds the row, it knows the change.
use Rattle.std.specs.Prelude.{◌≡◌, ◌==◌, ◌||◌, List, Bool, true, is_some}
use Rattle.std.specs.List.{AllByRecursion}
use Rattle.merge_types.specs.declared.identifiers.Dot.{Dot}
use Rattle.merge_model.specs.History.{History, MadeChange, Past, has, past_in, pasts_at}
use Rattle.merge_model.specs.Tables.Keys.{row_at, same_key}
use Rattle.merge_types.specs.declared.row_key.RowKey.{RowKey as Key}
use Rattle.merge_units.specs.declared.site_row.PublisherRow.{PublisherRow}
use Rattle.merge_model.specs.World.{World}
use Rattle.merge_laws.specs.Facts.Knowledge.{was_made}

-- a history with these accepted changes accepts one
abbrev pub accepts : List Dot → Dot → Bool
accepts accepted dot = (dot.site.0 == 0) || has accepted dot

-- of a change, where it was made
pub record IsFine (accepted : List Dot) (change : MadeChange) : Type 0 where
  -- what it knew of other sites is accepted
  pub others : (dot : Dot) → has change.past.known dot ≡ true → (dot.site.0 ≡ change.dot.site.0 → ⊥) → accepts accepted dot ≡ true
  -- and all that it knew, where it is accepted
  pub closed : accepts accepted change.dot ≡ true → (dot : Dot) → has change.past.known dot ≡ true → accepts accepted dot ≡ true

-- a version knows each change of its row that is accepted
abbrev pub KnowsAccepted : List MadeChange → List Dot → Key → List Dot → Type 0
KnowsAccepted made accepted key known = AllByRecursion (λ (change : MadeChange). same_key key change.key ≡ true → accepts accepted change.dot ≡ true → has known change.dot ≡ true) made

pub record Accepting (rows : List (Key × PublisherRow)) (made : List MadeChange) (accepted : List Dot) (pasts : List (Key × Past)) : Type 0 where
  pub fine : AllByRecursion (IsFine accepted) made
  -- what is accepted was made
  pub were_made : (dot : Dot) → has accepted dot ≡ true → was_made made dot ≡ true
  pub held : (key : Key) → is_some (row_at rows key) ≡ true → KnowsAccepted made accepted key (past_in pasts key).known

abbrev pub AcceptsWell : World → History → Type 0
AcceptsWell w h = Accepting w.publisher.rows h.made h.accepted (pasts_at h 0)
