-- Every step keeps that each version tells of what its past knows.
use Rattle.std.specs.Prelude.{◌≡◌, ℕ, List, true, Option, Some, None}
use Rattle.std.specs.List.{AllByRecursion}
use Rattle.merge_types.specs.declared.identifiers.Dot.{Dot}
use Rattle.merge_units.specs.Version.{cells_of}
use Rattle.merge_units.specs.declared.version.Body.{Body}
use Rattle.merge_units.specs.declared.version.Body.TheVariants.{Dead, Live}
use Rattle.merge_units.specs.declared.version.Version.{Version}
use Rattle.merge_schema.specs.declared.publication.Publication.{Publication}
use Rattle.merge_units.specs.Version.{tops_of}
use Rattle.merge_model.specs.Tables.Changes.{key_of, version_after}
use Rattle.merge_model.specs.History.{History, Past, has}
use Rattle.merge_model.specs.History.Model.{empty_model}
use Rattle.merge_model.specs.History.Pasts.{past_after}
use Rattle.merge_types.specs.declared.row_key.RowKey.{RowKey as Key}
use Rattle.merge_model.specs.World.{Saying, World}
use Rattle.merge_laws.specs.Facts.LineagesStand.{AllTold}
use Rattle.merge_laws.specs.Facts.Standing.{HeldTold, Told}
use Rattle.merge_laws.proofs.Runs.Ground.{Ground}
use Rattle.merge_laws.proofs.Told.ToldRows.{HeldFits}
use Rattle.merge_laws.proofs.Told.ToldUploads.{GoesOn}
use Rattle.merge_laws.proofs.Told.ToldVersions.{told-after, told-merged}
use Rattle.merge_laws.proofs.Told.ToldWalk.{every-begins, every-keeps}
use Rattle.merge_laws.proofs.Walking.{StepsKeep}

abbrev VersionTold : Key → Version → Past → Type 0
VersionTold key version past = Told version past.known

held-told : (key : Key) (held : Option Version) (past : Past) → HeldFits VersionTold key held past → HeldTold held past.known
held-told key None past fits = tt
held-told key (Some version) past fits = fits

told-held : (key : Key) (held : Option Version) (past : Past) → HeldTold held past.known → HeldFits VersionTold key held past
told-held key None past told = tt
told-held key (Some version) past told = told

-- the tops of a live body are those of its cells, and a dead one has none
live-tops : (known : List Dot) (body : Body) → AllByRecursion (λ (top : Dot). has known top ≡ true) (tops_of body) → AllByRecursion (λ (top : Dot). has known top ≡ true) (tops_of (Live (cells_of body)))
live-tops known (Live cells) all = all
live-tops known (Dead top) all = tt

told-goes_on : (publication : Publication) → GoesOn publication VersionTold
told-goes_on publication = record {
  changed = λ dot identity change held rows past fine fits. told-held (key_of dot change) (version_after publication dot identity change held) (past_after publication dot change past)
      (told-after publication dot identity change held past (held-told (key_of dot change) held past fits));
  merged = λ key case decision dot ours theirs one other is counts own t u. told-merged case ours theirs dot one other t u decision;
  put = λ key version past t. record { ascending = t.ascending; tells = t.tells; tops = live-tops past.known version.body t.tops };
}

abbrev pub OfTold : World → History → Type 0
OfTold w h = AllTold (record { world = w; history = h })

pub told-keeps : (publication : Publication) (says : Saying) → StepsKeep publication says (Ground publication) OfTold
told-keeps publication says = every-keeps publication says VersionTold (told-goes_on publication)

pub told-begins : (publication : Publication) (tallies : List ℕ) → AllTold (empty_model publication tallies)
told-begins publication tallies = every-begins VersionTold publication tallies
