-- Events by the places of what they name.
use Rattle.std.specs.Prelude.{Err, List, Result, true, ℕ, ◌≡◌, ◌⊎◌}
use Rattle.merge_types.specs.declared.changes.Change.{Change}
use Rattle.merge_units.specs.Changes.{ColumnsAscend}
use Rattle.merge_schema.specs.declared.publication.Publication.{Publication}
use Rattle.merge_batch.specs.Articles.{has_article}
use Rattle.merge_batch.specs.LocalChanges.{article_of, settings_of}
use Rattle.merge_batch.specs.declared.refusal.Refusal.{Refusal}
use Rattle.merge_batch.specs.declared.refusal.Refusal.TheVariants.{NoMemory, UnknownName}

-- why there are no places: memory is wanting, or the first name that is wrong
abbrev pub IsUnnamed : {A : Type 0} → Result A (List ℕ) → Refusal → Type 0
IsUnnamed by why = (why ≡ NoMemory) ⊎ ((name : List ℕ) × (why ≡ UnknownName name) × (by ≡ Err name))

-- a change of an article of the publication, in which each column is set once
pub record IsPlaced (publication : Publication) (change : Change) : Type 0 where
  pub article : has_article publication (article_of change) ≡ true
  pub ascend : ColumnsAscend (settings_of change)
