-- The rows of an upload's items that act: those that the publisher holds get versions.
use Rattle.std.specs.Prelude.{◌≡◌, ◌&&◌, ◌||◌, ◌+◌, ℕ, List, [], ◌∷◌, true, Option, Some, None, refl, is_some, map}
use Rattle.std.specs.List.{cons_option}
use Rattle.std.proofs.Common.{arith, sym, ap, ◌∙◌}
use Rattle.merge_types.specs.declared.identifiers.SiteId.{SiteId}
use Rattle.merge_units.specs.declared.result.Decision.{Decision}
use Rattle.merge_units.specs.declared.version.Version.{Version}
use Rattle.merge_batch.specs.declared.request.UploadItem.{UploadItem}
use Rattle.merge_model.specs.Publisher.Acts.{Act, act_of, acts_from, fate_by, key_of_item, left_by, made_by, version_by, version_of_act, versions_of}
use Rattle.merge_model.specs.Judge.{PublisherJudge}
use Rattle.merge_model.specs.Tables.Keys.{has_key, row_at, same_key}
use Rattle.merge_types.specs.declared.row_key.RowKey.{RowKey as Key}
use Rattle.merge_units.specs.declared.site_row.PublisherRow.{PublisherRow}
use Rattle.merge_model.specs.Tables.{PublisherTables}
use Rattle.merge_model.proofs.Lists.KeyLookUps.{keys-same}
use Rattle.merge_model.proofs.Entries.EntryLists.{or-either}

abbrev key_of_version : Key × Version → Key
key_of_version row = row.0

module _ (judge : PublisherJudge) (site : SiteId) (p : PublisherTables) where
  pub acts-keys : (number : ℕ) (decisions : List Decision) (items : List UploadItem) → map (λ (act : Act). act.key) (acts_from judge site p number decisions items) ≡ map key_of_item items
  acts-keys number decisions [] = refl
  acts-keys number decisions (item ∷ items) =
      let act : Act = act_of judge site p number decisions item in
      ap (λ (keys : List Key). key_of_item item ∷ keys) (acts-keys (number + made_by act.fate) (left_by act.fate decisions) items)

  -- what an item meets gets a version
  met-version : (number : ℕ) (decisions : List Decision) (item : UploadItem) (found : Option PublisherRow) → is_some found ≡ true
      → (let act : Act = record { key = key_of_item item; incoming = item.version; fate = fate_by judge site number decisions item found } in is_some (version_of_act act) ≡ true)
  met-version number decisions item None held = absurd (grind (arith, held))
  met-version number decisions item (Some row) held = refl

  version-head : (key of : Key) (found : Option Version) (versions : List (Key × Version))
      → (let made : Option (Key × Version) = elim found [ None ↦ None | Some version ↦ Some (of, version) ] in has_key (map key_of_version (cons_option made versions)) key ≡ ((is_some made && same_key key of) || has_key (map key_of_version versions) key))
  version-head key of None versions = refl
  version-head key of (Some version) versions = refl

  pub held-changes : (key : Key) → is_some (row_at p.rows key) ≡ true → (number : ℕ) (decisions : List Decision) (items : List UploadItem) → has_key (map key_of_item items) key ≡ true
      → has_key (map key_of_version (versions_of (acts_from judge site p number decisions items))) key ≡ true
  held-changes key held number decisions [] some = absurd (grind (arith, some))
  held-changes key held number decisions (item ∷ items) some =
      let act : Act = act_of judge site p number decisions item in
      let rest : List Act = acts_from judge site p (number + made_by act.fate) (left_by act.fate decisions) items in
      version-head key act.key (version_by act.incoming act.fate) (versions_of rest)
      ∙ or-either (same_key key (key_of_item item)) (has_key (map key_of_item items) key) (is_some (version_of_act act) && same_key key (key_of_item item)) (has_key (map key_of_version (versions_of rest)) key)
      (λ same. (let made : is_some (version_of_act act) ≡ true = met-version number decisions item (row_at p.rows (key_of_item item)) (ap (λ (k : Key). is_some (row_at p.rows k)) (sym (keys-same key (key_of_item item) same)) ∙ held) in grind (arith, made, same)))
      (held-changes key held (number + made_by act.fate) (left_by act.fate decisions) items) some
