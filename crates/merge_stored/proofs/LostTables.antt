-- The rows of a conflict table one behind the other: a start takes each where its version loads.
use Rattle.std.specs.List.{AllByRecursion}
use Rattle.std.specs.Prelude.{List, [], length, true, ℕ, ◌++◌, ◌+◌, ◌<◌, ◌^◌, ◌≡◌, ◌≤◌, ◌∷◌}
use Rattle.std.proofs.Common.{arith, subst, sym}
use Rattle.std.proofs.lemmas.Bool.Decides.{nat_tests}
use Rattle.std.proofs.lemmas.List.{length-append}
use Rattle.merge_types.specs.Limits.{number_limit}
use Rattle.merge_conflict.specs.Kinds.{number_of_kind}
use Rattle.merge_conflict.specs.declared.kind.ConflictKind.{ConflictKind}
use Rattle.merge_conflict.specs.declared.kind.ConflictKind.TheVariants as kind
use Rattle.merge_conflict.specs.declared.row.ConflictRow.{ConflictRow}
use Rattle.merge_schema.specs.Valid.{IsValid}
use Rattle.merge_schema.specs.declared.publication.Publication.{Publication}
use Rattle.merge_batch.specs.Lineages.{is_site}
use Rattle.merge_keeper.specs.Start.{KeepOneByOne, conflict_is_sound, version_is_sound}
use Rattle.merge_keeper.specs.States.{IsConflict, has_kind}
use Rattle.merge_keeper.specs.SubscriberRules.{Numbered, value_of}
use Rattle.merge_model.specs.Laws.Promises.{key_of_conflict}
use Rattle.merge_typed.specs.Typed.{LostIsTyped}
use Rattle.merge_stored.specs.Lost.{LostLoads}
use Rattle.merge_stored.specs.Versions.{VersionLoads}
use Rattle.merge_stored.proofs.Sites.{site-low}

kind-low : (kind : ConflictKind) → number_of_kind kind ≤ 4
kind-low kind.Discarded = omega arith
kind-low kind.RowUpdate = omega arith
kind-low kind.ColumnUpdate = omega arith
kind-low kind.DeleteWins = omega arith
kind-low kind.UpdateWins = omega arith

up-to : (count last : ℕ) (rows : List ConflictRow) → Numbered count last rows → last ≤ count
up-to count last [] is = omega (arith, is)
up-to count last (row ∷ rows) is = (let rest = up-to count (last + 1) rows is.1 in omega (arith, rest))

module _ (publication : Publication) (valid : (resolvers : ℕ) × IsValid resolvers publication) where
  abbrev pub RowLoads : ConflictRow → Type 0
  RowLoads row = VersionLoads publication (key_of_conflict row) row.losing

  abbrev pub IsFromSite : ConflictRow → Type 0
  IsFromSite row = is_site publication row.from.0 ≡ true

  row-conflict : (row : ConflictRow) → RowLoads row → IsFromSite row → row.moment.0 < 2 ^ 64 → IsConflict (value_of row)
  row-conflict row loads from moment =
      let low = kind-low row.kind in
      let site = site-low valid.0 publication valid.1 row.from.0 from in
      let is : has_kind (value_of row).head ≡ true = grind (arith, nat_tests, low) in
      (((loads.key_fits.0, (loads.key_fits.1, (omega (arith, low), (omega (arith, site), (tt, moment))))), is), loads.has_record)

  row-sound : (count last : ℕ) (row : ConflictRow) → row.number ≡ last + 1 → last + 1 ≤ count → IsFromSite row → version_is_sound publication row.article row.losing ≡ true → conflict_is_sound publication last count row ≡ true
  unfolding conflict_is_sound
  row-sound count last row is up from sound = grind (arith, nat_tests, is, up, from, sound)

  pub table-loads : (count : ℕ) → count < number_limit → (front rows : List ConflictRow) (last : ℕ) → length front ≡ last → Numbered count last rows → AllByRecursion IsFromSite rows → AllByRecursion RowLoads rows → AllByRecursion LostIsTyped rows → KeepOneByOne (LostLoads publication count) front rows
  table-loads count low front [] last long numbered each loads typed = tt
  table-loads count low front (row ∷ rows) last long numbered each loads typed =
      let up = up-to count (last + 1) rows numbered.1 in
      let is = numbered.0 in (
        (omega (arith, is, up, low), row-conflict row loads.0 each.0 typed.0.1, subst (λ (n : ℕ). conflict_is_sound publication n count row ≡ true) (sym long) (row-sound count last row is up each.0 loads.0.sound)),
        table-loads count low (front ++ row ∷ []) rows (last + 1) (let more : length (front ++ row ∷ []) ≡ length front + 1 = length-append front (row ∷ []) in omega (arith, more, long)) numbered.1 each.1 loads.1 typed.1,
      )
