-- What a start asks of a subscriber's conflict table, and what making the site anew adds to it.
use Rattle.std.specs.List.{AllByRecursion}
use Rattle.std.specs.Prelude.{Bool, List, None, Some, [], false, if◌then◌else◌, length, refl, true, ℕ, ◌++◌, ◌+◌, ◌≡◌, ◌∷◌}
use Rattle.std.proofs.Common.{arith, subst, sym}
use Rattle.merge_types.specs.declared.row_key.RowKey.{RowKey as Key}
use Rattle.merge_units.specs.declared.site_row.SubscriberRow.{SubscriberRow}
use Rattle.merge_units.specs.declared.version.Body.{Body}
use Rattle.merge_units.specs.declared.version.Body.TheVariants.{Dead, Live}
use Rattle.merge_units.specs.declared.version.Version.{Version}
use Rattle.merge_conflict.specs.declared.row.ConflictRow.{ConflictRow}
use Rattle.merge_schema.specs.Valid.{IsValid}
use Rattle.merge_schema.specs.declared.publication.Publication.{Publication}
use Rattle.merge_batch.specs.Lineages.{is_site}
use Rattle.merge_record.specs.Versions.{IsBody, IsCell}
use Rattle.merge_keeper.specs.Start.{KeepOneByOne, conflict_is_sound, version_is_sound}
use Rattle.merge_keeper.specs.SubscriberRules.{Numbered}
use Rattle.merge_model.specs.Judge.{SubscriberJudge}
use Rattle.merge_model.specs.Laws.Promises.{key_of_conflict}
use Rattle.merge_model.specs.Subscriber.Reinit.{discarded_rows_from, discarded_versions, result_of_reinit}
use Rattle.merge_model.specs.Tables.{SubscriberTables}
use Rattle.merge_model.proofs.Lists.Finding.{all-weaker}
use Rattle.merge_model.proofs.Lists.{OfSome, all-append, all-filter_map}
use Rattle.merge_typed.specs.Typed.{BodyIsTyped, CellIsTyped, LostIsTyped, MomentFits}
use Rattle.merge_stored.specs.Lost.{LostLoads}
use Rattle.merge_stored.proofs.ConflictLists.{anew-long, anew-numbered, numbered-append}
use Rattle.merge_stored.proofs.LostTables.{IsFromSite, RowLoads, table-loads}
use Rattle.merge_stored.proofs.AnyCalls.Acts.{LostStands}
use Rattle.merge_stored.proofs.AnyCalls.Versions.{VersionStands, any, lost-from, version-loads}
use Rattle.merge_stored.proofs.AnyReply.States.{StateStands}

-- Values that a record can have are typed.
pub body-typed : (body : Body) → IsBody body → BodyIsTyped body
body-typed (Live cells) has = all-weaker IsCell CellIsTyped (λ cell is. is.1.1) cells has.1
body-typed (Dead top) has = tt

module _ (publication : Publication) where
  abbrev LostIs : ConflictRow → Type 0
  LostIs row = LostStands publication row × LostIsTyped row

  pub record ConflictsStand (s : SubscriberTables) : Type 0 where
    pub numbered : Numbered s.conflict_count 0 s.conflicts
    pub lost : AllByRecursion LostIs s.conflicts

  -- From what a start asks.

  sound-parts : (before counter : ℕ) (row : ConflictRow) → conflict_is_sound publication before counter row ≡ true → (is_site publication row.from.0 ≡ true) × (version_is_sound publication row.article row.losing ≡ true)
  unfolding conflict_is_sound
  sound-parts before counter row sound = (grind (arith, sound), grind (arith, sound))

  one-from : (count : ℕ) (front : List ConflictRow) (row : ConflictRow) → LostLoads publication count front row → LostIs row
  one-from count front row loads =
      let fields = loads.1.0.0 in
      let parts = sound-parts (length front) count row loads.2 in (
        (lost-from publication (key_of_conflict row) row.losing (fields.0, fields.1.0) loads.1.1 parts.1, parts.0),
        (body-typed row.losing.body loads.1.1.1, fields.1.1.1.1.1),
      )

  each-from : (count : ℕ) (front rows : List ConflictRow) → KeepOneByOne (LostLoads publication count) front rows → AllByRecursion LostIs rows
  each-from count front [] all = tt
  each-from count front (row ∷ rows) all = (one-from count front row all.0, each-from count (front ++ row ∷ []) rows all.1)

  pub conflicts-from : (s : SubscriberTables) → KeepOneByOne (LostLoads publication s.conflict_count) [] s.conflicts → Numbered s.conflict_count 0 s.conflicts → ConflictsStand s
  conflicts-from s all numbered = record { numbered = numbered; lost = each-from s.conflict_count [] s.conflicts all }

  -- And to it.

  pub conflicts-load : (resolvers : ℕ) → IsValid resolvers publication → (s : SubscriberTables) → StateStands s → ConflictsStand s → KeepOneByOne (LostLoads publication s.conflict_count) [] s.conflicts
  conflicts-load resolvers valid s b stands =
      let known : (resolvers : ℕ) × IsValid resolvers publication = (resolvers, valid) in
      table-loads publication known s.conflict_count b.conflict_count [] s.conflicts 0 refl stands.numbered
      (all-weaker LostIs (IsFromSite publication known) (λ row is. is.0.1) s.conflicts stands.lost)
      (all-weaker LostIs (RowLoads publication known) (λ row is. version-loads publication resolvers valid any (λ n. omega arith) (key_of_conflict row) row.losing is.0.0 is.1.0) s.conflicts stands.lost)
      (all-weaker LostIs LostIsTyped (λ row is. is.1) s.conflicts stands.lost)

  -- What is discarded.

  abbrev pub CanBeLost : Key → Version → Type 0
  CanBeLost key version = VersionStands publication any key version × BodyIsTyped version.body

  if-lost : (b : Bool) (row : Key × Version) → CanBeLost row.0 row.1 → OfSome (λ (lost : Key × Version). CanBeLost lost.0 lost.1) (if b then Some row else None)
  if-lost true row is = is
  if-lost false row is = tt

  discards-stand : (judge : SubscriberJudge) (s : SubscriberTables) → AllByRecursion (λ (row : Key × SubscriberRow). CanBeLost row.0 row.1.version) s.rows → AllByRecursion (λ (row : Key × Version). CanBeLost row.0 row.1) (discarded_versions judge s)
  discards-stand judge s rows = all-filter_map (λ (row : Key × SubscriberRow). CanBeLost row.0 row.1.version) (λ (row : Key × Version). CanBeLost row.0 row.1)
      (λ (row : Key × SubscriberRow). if judge.is_unsent s.received row.0 then Some (row.0, row.1.version) else None) (λ row is. if-lost (judge.is_unsent s.received row.0) (row.0, row.1.version) is) s.rows rows

  lost-stand : (s : SubscriberTables) (number : ℕ) (rows : List (Key × Version)) → is_site publication s.site.0 ≡ true → MomentFits s.latest → AllByRecursion (λ (row : Key × Version). CanBeLost row.0 row.1) rows → AllByRecursion LostIs (discarded_rows_from s number rows)
  lost-stand s number [] site fits all = tt
  lost-stand s number (row ∷ rows) site fits all = (((all.0.0, site), (all.0.1, fits)), lost-stand s (number + 1) rows site fits all.1)

  pub anew-conflicts : (judge : SubscriberJudge) (s : SubscriberTables) → is_site publication s.site.0 ≡ true → MomentFits s.latest → AllByRecursion (λ (row : Key × SubscriberRow). CanBeLost row.0 row.1.version) s.rows → ConflictsStand s → ConflictsStand (result_of_reinit judge s).0
  anew-conflicts judge s site fits rows b =
      let found : List (Key × Version) = discarded_versions judge s in
      let lost : List ConflictRow = discarded_rows_from s (s.conflict_count + 1) found in
      let long : length lost ≡ length found = anew-long s (s.conflict_count + 1) found in
      record {
        numbered = numbered-append 0 s.conflict_count (s.conflict_count + length lost) s.conflicts lost b.numbered
            (subst (λ (n : ℕ). Numbered (s.conflict_count + n) s.conflict_count lost) (sym long) (anew-numbered s s.conflict_count (s.conflict_count + 1) found refl));
        lost = all-append LostIs s.conflicts lost b.lost (lost-stand s (s.conflict_count + 1) found site fits (discards-stand judge s rows));
      }
