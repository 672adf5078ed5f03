-- What the steps take as known, besides what is accounted for.
use Rattle.std.specs.Prelude.{◌≡◌, true, Option, Some, None}
use Rattle.std.specs.List.{AllByRecursion}
use Rattle.std.proofs.Common.{subst}
use Rattle.merge_types.specs.declared.identifiers.Dot.{Dot}
use Rattle.merge_units.specs.declared.version.Version.{Version}
use Rattle.merge_schema.specs.declared.publication.Publication.{Publication}
use Rattle.merge_units.specs.Version.{tops_of}
use Rattle.merge_model.specs.History.{History, Past, has, past_at}
use Rattle.merge_model.specs.Publisher.PublisherLocal.{version_at}
use Rattle.merge_types.specs.declared.row_key.RowKey.{RowKey as Key}
use Rattle.merge_model.specs.World.{World}
use Rattle.merge_laws.specs.Facts.LineagesStand.{AllTold, Owns}
use Rattle.merge_laws.specs.Facts.Standing.{Told}
use Rattle.merge_laws.proofs.Runs.Ground.{Ground}
use Rattle.merge_laws.proofs.Told.ToldRows.{HeldFits, rows-found}
use Rattle.merge_laws.proofs.Told.ToldTables.{row_version}

-- what is known besides
abbrev pub Base : Publication → World → History → Type 0
Base publication w h = Ground publication w h × (AllTold (record { world = w; history = h }) × Owns (record { world = w; history = h }))

pub held-told : (found : Option Version) (version : Version) (key : Key) (past : Past) → found ≡ Some version → HeldFits (λ (k : Key) (v : Version) (p : Past). Told v p.known) key found past → Told version past.known
held-told None version key past at told = absurd cc
held-told (Some other) version key past at told = let same : other ≡ version = cc in subst (λ (v : Version). Told v past.known) same told

-- the changes that made what the publisher holds are known there
pub tops-told : (w : World) (h : History) → AllTold (record { world = w; history = h }) → (key : Key) (version : Version) → version_at w.publisher key ≡ Some version → AllByRecursion (λ (top : Dot). has (past_at h 0 key).known top ≡ true) (tops_of version.body)
tops-told w h told key version at =
    (held-told (version_at w.publisher key) version key (past_at h 0 key) at (rows-found row_version (λ (k : Key) (v : Version) (p : Past). Told v p.known) (past_at h 0) w.publisher.rows told.publisher key)).tops
