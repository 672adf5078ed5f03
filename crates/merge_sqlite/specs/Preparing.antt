-- The statements that a keeper has prepared.
use Rattle.std.specs.Prelude.{◌≡◌, ℕ, List}
use Rattle.sqlite.specs.Outline.{Outline}

-- they are those of these texts: one that shows all entries, one that puts an entry, and one that takes one
abbrev pub AreStatements : List ℕ → List ℕ → List ℕ → Outline → Outline → Outline → Type 0
AreStatements all_text put_text take_text all put take = (all.text ≡ all_text) × (put.text ≡ put_text) × (take.text ≡ take_text)
