-- How many changes, versions and rows the acts of an upload make.
use Rattle.std.specs.List.{cons_option, list_any}
use Rattle.std.specs.Prelude.{Bool, List, None, Option, Some, [], cond, count_by, false, filter, if◌then◌else◌, is_some, length, map, nat_lt, not, refl, true, ℕ, ◌&&◌, ◌+◌, ◌≡◌, ◌≤◌, ◌∷◌}
use Rattle.std.proofs.Common.{ap, arith, ◌∙◌}
use Rattle.std.proofs.lemmas.Bool.Decides.{nat_tests}
use Rattle.std.proofs.lemmas.List.{length-map}
use Rattle.std.proofs.lemmas.List.Sums.{sum_by-cons}
use Rattle.merge_types.specs.Limits.{item_limit, rows_limit}
use Rattle.merge_types.specs.declared.identifiers.Moment.{Moment}
use Rattle.merge_types.specs.declared.identifiers.SiteId.{SiteId}
use Rattle.merge_types.specs.declared.row_key.RowKey.{RowKey as Key}
use Rattle.merge_units.specs.Results.{result_by}
use Rattle.merge_units.specs.declared.result.Decision.{Decision}
use Rattle.merge_units.specs.declared.site_row.PublisherRow.{PublisherRow}
use Rattle.merge_units.specs.declared.version.Version.{Version}
use Rattle.merge_conflict.specs.Losers.{publisher_site}
use Rattle.merge_schema.specs.declared.publication.Publication.{Publication}
use Rattle.merge_batch.specs.Laws.{IsValidUpload}
use Rattle.merge_batch.specs.Uploads.{broken_by_upload}
use Rattle.merge_batch.specs.declared.refusal.Refusal.TheVariants.{TooManyRows}
use Rattle.merge_batch.specs.declared.request.Upload.{Upload}
use Rattle.merge_batch.specs.declared.request.UploadItem.{UploadItem}
use Rattle.merge_batch.proofs.Valid.{valid_upload}
use Rattle.merge_model.specs.Publisher.Acts.{Act, Fate, Met, New, Unknown, act_of, acting_items, acts_from, acts_of, case_met, changes_by, decided_changes, decision_for, fate_by, is_new_row, key_of_item, left_by, made_by, version_of_act, versions_of}
use Rattle.merge_model.specs.World.Faults.{known_by, upload_fault}
use Rattle.merge_model.specs.Judge.{PublisherJudge}
use Rattle.merge_model.specs.Tables.Keys.{row_at}
use Rattle.merge_model.specs.Publisher.PublisherUpload.{is_new, too_many_new}
use Rattle.merge_model.specs.Tables.Refusals.{refused_if}
use Rattle.merge_model.specs.Tables.{PublisherTables}
use Rattle.merge_laws.proofs.Told.ToldItems.{fault-none}
use Rattle.merge_honest.proofs.RowCounts.{given-short, is_fresh}

-- An upload's acts make at most one change each.

decided-few : (decision : Decision) → decided_changes decision ≤ 1
decided-few decision = grind (arith, nat_tests)

made-few : (fate : Fate) → made_by fate ≤ 1
made-few New = omega arith
made-few Unknown = omega arith
made-few (Met held case decision dot) = decided-few decision

acts-few : (judge : PublisherJudge) (site : SiteId) (p : PublisherTables) (number : ℕ) (decisions : List Decision) (items : List UploadItem) → changes_by (acts_from judge site p number decisions items) ≤ length items
acts-few judge site p number decisions [] = omega arith
acts-few judge site p number decisions (item ∷ items) =
    let act : Act = act_of judge site p number decisions item in
    let first = made-few act.fate in
    let rest = acts-few judge site p (number + made_by act.fate) (left_by act.fate decisions) items in
    omega (arith, first, rest)

acts-many : (judge : PublisherJudge) (site : SiteId) (p : PublisherTables) (number : ℕ) (decisions : List Decision) (items : List UploadItem) → length (acts_from judge site p number decisions items) ≡ length items
acts-many judge site p number decisions [] = refl
acts-many judge site p number decisions (item ∷ items) =
    let act : Act = act_of judge site p number decisions item in
    let rest = acts-many judge site p (number + made_by act.fate) (left_by act.fate decisions) items in
    omega (arith, rest)

pub filter-short : {X : Type 0} (keep : X → Bool) (xs : List X) → length (filter keep xs) ≤ length xs
filter-short keep [] = omega arith
filter-short {X} keep (x ∷ xs) = elim (keep x) as (λ (b : Bool). length (cond b (x ∷ filter keep xs) (filter keep xs)) ≤ length (x ∷ xs)) [
  | true ↦ (let rest = filter-short keep xs in grind (arith, rest))
  | false ↦ (let rest = filter-short keep xs in grind (arith, rest))
]

items-few : (publication : Publication) (judge : PublisherJudge) (u : Upload) (p : PublisherTables) → upload_fault publication judge u p ≡ None → length (acting_items judge u) ≤ item_limit
items-few publication judge u p sound =
    let known = known_by publication judge p in
    let valid : IsValidUpload publication known u = (valid_upload publication known u).0 (fault-none (broken_by_upload publication known u) sound) in
    let few = valid.few_items in
    let short : length (acting_items judge u) ≤ length u.items = filter-short (λ (item : UploadItem). not (judge.has_acted u.site.0 item.generation)) u.items in
    omega (arith, few, short)

pub upload-few : (publication : Publication) (judge : PublisherJudge) (u : Upload) (decisions : List Decision) (p q : PublisherTables) → upload_fault publication judge u p ≡ None → changes_by (acts_of judge u decisions q) ≤ item_limit
upload-few publication judge u decisions p q sound =
    let few = items-few publication judge u p sound in
    let acts = acts-few judge u.site q (q.changes + 1) decisions (acting_items judge u) in
    omega (arith, few, acts)

-- Rows that are not held are new, whatever is decided.

module _ (judge : PublisherJudge) (site : SiteId) (p : PublisherTables) (latest : Moment) where
  -- the tables at a moment
  abbrev at : PublisherTables
  at = record p { latest = latest }

  abbrev act_by : ℕ → List Decision → UploadItem → Option PublisherRow → Act
  act_by number decisions item found = record { key = key_of_item item; incoming = item.version; fate = fate_by judge site number decisions item found }

  abbrev fresh_in : List (Key × Version) → ℕ
  fresh_in versions = count_by (λ (v : Key × Version). is_fresh p.rows v.0) versions

  fresh-cons : (v : Key × Version) (versions : List (Key × Version)) → fresh_in (v ∷ versions) ≡ cond (is_fresh p.rows v.0) 1 0 + fresh_in versions
  fresh-cons v versions = sum_by-cons (λ (x : Key × Version). cond (is_fresh p.rows x.0) 1 0) v versions

  one-at-most : (b : Bool) → cond b 1 0 ≤ 1
  one-at-most true = omega arith
  one-at-most false = omega arith

  unheld-step : (item : UploadItem) (b : Bool) (versions : List (Key × Version)) (n : ℕ) → fresh_in versions ≤ n
      → (let fate : Fate = if b then New else Unknown in let act : Act = record { key = key_of_item item; incoming = item.version; fate = fate } in
      fresh_in (cons_option (version_of_act act) versions) ≤ cond (is_new act) 1 0 + n)
  unheld-step item true versions n up =
      let first = fresh-cons (key_of_item item, item.version) versions in
      let one = one-at-most (is_fresh p.rows (key_of_item item)) in
      omega (arith, first, one, up)
  unheld-step item false versions n up = omega (arith, up)

  known-step : (key : Key) (version : Version) (versions : List (Key × Version)) (n : ℕ) → is_fresh p.rows key ≡ false → fresh_in versions ≤ n → fresh_in ((key, version) ∷ versions) ≤ cond false 1 0 + n
  known-step key version versions n known up =
      let first : fresh_in ((key, version) ∷ versions) ≡ cond false 1 0 + fresh_in versions = fresh-cons (key, version) versions ∙ ap (λ (b : Bool). cond b 1 0 + fresh_in versions) known in
      omega (arith, first, up)

  act-step : (item : UploadItem) (number other : ℕ) (decisions others : List Decision) (found : Option PublisherRow) (versions : List (Key × Version)) (n : ℕ) → row_at p.rows (key_of_item item) ≡ found → fresh_in versions ≤ n
      → fresh_in (cons_option (version_of_act (act_by number decisions item found)) versions) ≤ cond (is_new (act_by other others item found)) 1 0 + n
  act-step item number other decisions others None versions n is up = unheld-step item (is_new_row judge site (key_of_item item)) versions n up
  act-step item number other decisions others (Some held) versions n is up =
      let known : is_fresh p.rows (key_of_item item) ≡ false = ap (λ (found : Option PublisherRow). not (is_some found)) is in
      known-step (key_of_item item) (result_by (case_met judge (key_of_item item) held.version item.version) held.version item.version (decision_for (case_met judge (key_of_item item) held.version item.version) decisions) (record { site = publisher_site; number = number })) versions n known up

  fresh-few : (items : List UploadItem) (number other : ℕ) (decisions others : List Decision) → fresh_in (versions_of (acts_from judge site at number decisions items)) ≤ count_by is_new (acts_from judge site p other others items)
  fresh-few [] number other decisions others = omega arith
  fresh-few (item ∷ items) number other decisions others =
      let act : Act = act_of judge site at number decisions item in
      let again : Act = act_of judge site p other others item in
      let acts : List Act = acts_from judge site at (number + made_by act.fate) (left_by act.fate decisions) items in
      let more : List Act = acts_from judge site p (other + made_by again.fate) (left_by again.fate others) items in
      let rest = fresh-few items (number + made_by act.fate) (other + made_by again.fate) (left_by act.fate decisions) (left_by again.fate others) in
      let all = sum_by-cons (λ (x : Act). cond (is_new x) 1 0) again more in
      let step = act-step item number other decisions others (row_at p.rows (key_of_item item)) (versions_of acts) (count_by is_new more) refl rest in
      omega (arith, all, step)

-- Where there is none that is new the rows stay as many, and else there is room for them.

none-counted : {X : Type 0} (test : X → Bool) (xs : List X) → list_any test xs ≡ false → count_by test xs ≡ 0
none-counted test [] none = refl
none-counted test (x ∷ xs) none =
    let here : test x ≡ false = grind (arith, none) in
    let rest : list_any test xs ≡ false = grind (arith, none) in
    sum_by-cons (λ (y : _). cond (test y) 1 0) x xs ∙ ap (λ (b : Bool). cond b 1 0 + count_by test xs) here ∙ (let no = none-counted test xs rest in omega (arith, no))

room-by : (acts : List Act) (rows : ℕ) (b : Bool) → list_any is_new acts ≡ b → rows ≤ rows_limit → refused_if (b && nat_lt rows_limit (rows + count_by is_new acts)) (TooManyRows (rows + count_by is_new acts)) ≡ None → rows + count_by is_new acts ≤ rows_limit
room-by acts rows true is up none = grind (arith, nat_tests, none)
room-by acts rows false is up none = (let no = none-counted is_new acts is in omega (arith, no, up))

-- what an upload gives versions
pub record UploadCounts (judge : PublisherJudge) (u : Upload) (acts : List Act) (p : PublisherTables) : Type 0 where
  pub versions : length (versions_of acts) ≤ item_limit
  pub acted : length (map (λ (act : Act). act.key) acts) ≤ item_limit
  pub rows : length p.rows ≤ rows_limit → too_many_new (acts_of judge u [] p) p ≡ None → length p.rows + count_by (λ (v : Key × Version). is_fresh p.rows v.0) (versions_of acts) ≤ rows_limit

pub upload-items : (publication : Publication) (judge : PublisherJudge) (u : Upload) (decisions : List Decision) (p : PublisherTables) (latest : Moment) → upload_fault publication judge u p ≡ None → UploadCounts judge u (acts_of judge u decisions (record p { latest = latest })) p
upload-items publication judge u decisions p latest sound =
    let few = items-few publication judge u p sound in
    let q : PublisherTables = record p { latest = latest } in
    let acts : List Act = acts_of judge u decisions q in
    let many = acts-many judge u.site q (p.changes + 1) decisions (acting_items judge u) in
    let given = given-short version_of_act acts in
    let keys = length-map acts (λ (act : Act). act.key) in
    record {
      versions = omega (arith, few, many, given);
      acted = omega (arith, few, many, keys);
      rows = λ up none. (
          let room = room-by (acts_of judge u [] p) (length p.rows) (list_any is_new (acts_of judge u [] p)) refl up none in
          let fresh = fresh-few judge u.site p latest (acting_items judge u) (p.changes + 1) (p.changes + 1) decisions [] in
          omega (arith, room, fresh));
    }
