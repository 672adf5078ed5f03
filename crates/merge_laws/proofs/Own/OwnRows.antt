-- Which rows are new in an upload, and which are held after a purge.
use Rattle.std.specs.Prelude.{◌≡◌, ◌+◌, ◌&&◌, ◌||◌, ℕ, List, [], ◌∷◌, Bool, true, false, not, Option, Some, None, refl, cond, filter, if◌then◌else◌, is_some, map, option_map}
use Rattle.std.specs.BTreeMap.{is_at}
use Rattle.std.specs.List.{cons_option, list_any}
use Rattle.std.specs.List.Sorted.{IsStrictlySortedBy}
use Rattle.std.specs.Map.{keys_of}
use Rattle.std.proofs.Common.{arith, subst, sym, ap, ◌∙◌}
use Rattle.merge_types.specs.declared.changes.Change.{Change}
use Rattle.merge_types.specs.declared.changes.Change.TheVariants.{Delete, Insert, Update}
use Rattle.merge_types.specs.declared.identifiers.SiteId.{SiteId}
use Rattle.merge_units.specs.declared.result.Decision.{Decision}
use Rattle.merge_units.specs.declared.version.Version.{Version}
use Rattle.merge_batch.specs.declared.request.UploadItem.{UploadItem}
use Rattle.merge_model.specs.Publisher.Acts.{Act, New, Unknown, act_of, acts_from, fate_by, is_new_row, key_of_item, left_by, made_by, version_by, versions_of}
use Rattle.merge_model.specs.Tables.Changes.{is_insert, no_row}
use Rattle.merge_model.specs.Judge.{PublisherJudge}
use Rattle.merge_types.specs.RowKeys.{key_cmp}
use Rattle.merge_model.specs.Tables.Keys.{row_at, same_key}
use Rattle.merge_types.specs.declared.row_key.RowKey.{RowKey as Key}
use Rattle.merge_units.specs.declared.site_row.PublisherRow.{PublisherRow}
use Rattle.merge_model.specs.Tables.{PublisherTables}
use Rattle.merge_model.proofs.Publishers.Sorted.{key_total}
use Rattle.merge_model.proofs.Lists.KeyLookUps.{key-test, keys-same, keys-exact}
use Rattle.merge_model.proofs.Lists.PlaceLookUps.{kept, lookup-filter}

-- The publisher's rows: what is held was held, or is put.

-- what is not inserted is there
pub held-there : {A : Type 0} (f : A → Version) (change : Change) (found : Option A) → is_insert change ≡ false → no_row change (option_map f found) ≡ None → is_some found ≡ true
held-there f change (Some row) other fine = refl
held-there f (Insert article values) None other fine = absurd (grind (arith, other))
held-there f (Update article row values) None other fine = absurd (grind (arith, fine))
held-there f (Delete article row) None other fine = absurd (grind (arith, fine))

-- of an upload: a row that was not held is new
new-one : (judge : PublisherJudge) (site : SiteId) (number : ℕ) (decisions : List Decision) (item : UploadItem) (found : Option PublisherRow) → is_some found ≡ false → is_some (version_by item.version (fate_by judge site number decisions item found)) ≡ true → is_new_row judge site (key_of_item item) ≡ true
new-one judge site number decisions item None none there = elim (is_new_row judge site (key_of_item item)) as (λ (b : Bool). is_some (version_by item.version (if b then New else Unknown)) ≡ true → b ≡ true) [
  | true ↦ (λ e. refl)
  | false ↦ (λ e. absurd (grind (arith, e)))
] there
new-one judge site number decisions item (Some held) none there = absurd (grind (arith, none))

version-any : (test : Key → Bool) (key : Key) (found : Option Version) (rest : List (Key × Version)) → (let one : Option (Key × Version) = elim found [ None ↦ None | Some version ↦ Some (key, version) ] in list_any (λ (v : Key × Version). test v.0) (cons_option one rest) ≡ ((is_some found && test key) || list_any (λ (v : Key × Version). test v.0) rest))
version-any test key None rest = refl
version-any test key (Some version) rest = refl

pub versions-new : (judge : PublisherJudge) (site : SiteId) (p : PublisherTables) (number : ℕ) (decisions : List Decision) (items : List UploadItem) (q : Key) → is_some (row_at p.rows q) ≡ false
    → list_any (λ (v : Key × Version). same_key q v.0) (versions_of (acts_from judge site p number decisions items)) ≡ true → is_new_row judge site q ≡ true
versions-new judge site p number decisions [] q none some = absurd (grind (arith, some))
versions-new judge site p number decisions (item ∷ items) q none some =
    let act : Act = act_of judge site p number decisions item in
    let acts : List Act = acts_from judge site p (number + made_by act.fate) (left_by act.fate decisions) items in
    let key : Key = key_of_item item in
    let both : ((is_some (version_by item.version act.fate) && same_key q key) || list_any (λ (v : Key × Version). same_key q v.0) (versions_of acts)) ≡ true = sym (version-any (same_key q) key (version_by item.version act.fate) (versions_of acts)) ∙ some in
    elim (is_some (version_by item.version act.fate) && same_key q key) as (λ (b : Bool). (is_some (version_by item.version act.fate) && same_key q key) ≡ b → is_new_row judge site q ≡ true) [
      | true ↦ (λ e. (let same : q ≡ key = keys-same q key (grind (arith, e)) in
          subst (λ (k : Key). is_new_row judge site k ≡ true) (sym same) (new-one judge site number decisions item (row_at p.rows key) (ap (λ (k : Key). is_some (row_at p.rows k)) (sym same) ∙ none) (grind (arith, e)))))
      | false ↦ (λ e. versions-new judge site p (number + made_by act.fate) (left_by act.fate decisions) items q none (grind (arith, both, e)))
    ] refl

-- Of a purge: the rows that are held afterwards were held, and are none of those that it took.

none-key : (rows : List (Key × PublisherRow)) (q : Key) → row_at rows q ≡ None → list_any (same_key q) (map (λ (r : Key × PublisherRow). r.0) rows) ≡ false
none-key [] q none = refl
none-key (row ∷ rows) q none = elim (is_at (key_cmp q) row.0) as (λ (b : Bool). is_at (key_cmp q) row.0 ≡ b → (let found : Option PublisherRow = cond b (Some row.1) (row_at rows q) in found) ≡ None → (same_key q row.0 || list_any (same_key q) (map (λ (r : Key × PublisherRow). r.0) rows)) ≡ false) [
  | true ↦ (λ is e. absurd (grind (arith, e)))
  | false ↦ (λ is e. (let here : same_key q row.0 ≡ false = sym (key-test q row.0) ∙ is in let rest = none-key rows q e in grind (arith, here, rest)))
] refl none

kept-both : (old : Key × PublisherRow → Bool) (q : Key) (found : Option PublisherRow) → is_some (kept (λ (r : Key × PublisherRow). not (old r)) q found) ≡ true → (is_some found ≡ true) × (kept old q found ≡ None)
kept-both old q None is = absurd (grind (arith, is))
kept-both old q (Some row) is = elim (old (q, row)) as (λ (b : Bool). is_some (let left : Option PublisherRow = cond (not b) (Some row) None in left) ≡ true → (is_some (let found : Option PublisherRow = Some row in found) ≡ true) × ((let taken : Option PublisherRow = cond b (Some row) None in taken) ≡ None)) [
  | true ↦ (λ e. absurd (grind (arith, e)))
  | false ↦ (λ e. (refl, refl))
] is

pub purge-held : (old : Key × PublisherRow → Bool) (rows : List (Key × PublisherRow)) (q : Key) → IsStrictlySortedBy key_cmp (keys_of rows) → is_some (row_at (filter (λ (r : Key × PublisherRow). not (old r)) rows) q) ≡ true
    → (is_some (row_at rows q) ≡ true) × (list_any (same_key q) (map (λ (r : Key × PublisherRow). r.0) (filter old rows)) ≡ false)
purge-held old rows q sorted is =
    let both = kept-both old q (row_at rows q) (sym (ap (λ (o : Option PublisherRow). is_some o) (lookup-filter key_cmp key_total keys-exact (λ (r : Key × PublisherRow). not (old r)) q rows sorted)) ∙ is) in
    (both.0, none-key (filter old rows) q (lookup-filter key_cmp key_total keys-exact old q rows sorted ∙ both.1))
