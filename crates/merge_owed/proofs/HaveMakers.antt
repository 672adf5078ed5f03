-- Each row has a maker: its identifier carries the change that made it.
use Rattle.std.specs.Prelude.{List, None, Option, Some, is_some, refl, true, ◌≡◌}
use Rattle.std.proofs.Common.{ap}
use Rattle.merge_types.specs.declared.changes.Change.{Change}
use Rattle.merge_types.specs.declared.changes.Change.TheVariants.{Delete, Insert, Update}
use Rattle.merge_types.specs.declared.identifiers.Dot.{Dot}
use Rattle.merge_types.specs.declared.row_key.RowKey.{RowKey as Key}
use Rattle.merge_types.specs.declared.values.Value.{Value}
use Rattle.merge_units.specs.declared.version.Version.{Version}
use Rattle.merge_schema.specs.declared.publication.Publication.{Publication}
use Rattle.merge_batch.specs.LocalChanges.{key_of, version_after}
use Rattle.merge_batch.specs.Makers.{maker_of}
use Rattle.merge_batch.proofs.Makers.{maker_of-made}
use Rattle.merge_model.specs.History.{MadeChange, Past}
use Rattle.merge_model.specs.History.Pasts.{past_after}
use Rattle.merge_laws.proofs.Told.ToldRows.{HeldFits}
use Rattle.merge_owed.proofs.VersionKept.{GoesOn, IsCarried}

abbrev pub HasMaker : List MadeChange → Key → Version → Past → Type 0
HasMaker made key version past = is_some (maker_of key.row.0) ≡ true

changed-has : (publication : Publication) (made : List MadeChange) (dot : Dot) (change : Change) (value : Value) (held : Option Version) (past : Past) → IsCarried dot → HeldFits (HasMaker made) (key_of dot change) held past
    → HeldFits (HasMaker made) (key_of dot change) (version_after publication dot value change held) (past_after publication dot change past)
changed-has publication made dot (Insert article values) value held past carried fits =
    ap (λ (found : Option Dot). is_some found) (maker_of-made _ dot.site.0 dot.number (record { site_fits = carried.site; from_one = carried.from_one; fits = carried.fits; same = refl }))
changed-has publication made dot (Update article row values) value None past carried fits = tt
changed-has publication made dot (Update article row values) value (Some held) past carried fits = fits
changed-has publication made dot (Delete article row) value None past carried fits = tt
changed-has publication made dot (Delete article row) value (Some held) past carried fits = fits

pub makers-go_on : (publication : Publication) → GoesOn publication HasMaker
makers-go_on publication = record {
  more = λ made others key version past among fits. fits;
  changed = λ made dot generation change value held rows past carried fine fits. changed-has publication made dot change value held past carried fits;
  merged = λ made judge site p key held incoming case decision dot past other is keeps counts one two. one;
}
