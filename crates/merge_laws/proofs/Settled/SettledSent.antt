-- The last change of a row among the changes of a site in order, and that an upload has each row with its last change.
use Rattle.std.specs.Prelude.{◌≡◌, ◌≤◌, ◌<◌, ◌-◌, ◌==◌, ◌&&◌, ℕ, List, [], ◌∷◌, Bool, true, false, Option, Some, None, refl, if◌then◌else◌, cond, filter_map, find, max, option_map}
use Rattle.std.specs.BTreeMap.{is_at}
use Rattle.std.specs.List.{cons_option, list_any}
use Rattle.std.proofs.Common.{arith, sym, ap, ◌∙◌}
use Rattle.std.proofs.lemmas.Bool.Decides.{nat_tests}
use Rattle.merge_units.specs.declared.version.Version.{Version}
use Rattle.merge_batch.specs.declared.request.UploadItem.{UploadItem}
use Rattle.merge_model.specs.Publisher.Acts.{key_of_item}
use Rattle.merge_model.specs.Judge.ByHistory.{is_between_made}
use Rattle.merge_model.specs.Judge.ByNumbers.{last_between}
use Rattle.merge_model.specs.History.{MadeChange}
use Rattle.merge_model.specs.Judge.{SubscriberJudge}
use Rattle.merge_types.specs.RowKeys.{key_cmp}
use Rattle.merge_model.specs.Tables.Keys.{row_at, same_key}
use Rattle.merge_model.specs.Subscriber.Sending.{upload_item, upload_to}
use Rattle.merge_model.specs.Subscriber.{subscriber_version_at}
use Rattle.merge_types.specs.declared.row_key.RowKey.{RowKey as Key}
use Rattle.merge_units.specs.declared.site_row.SubscriberRow.{SubscriberRow}
use Rattle.merge_model.specs.Tables.{SubscriberTables}
use Rattle.merge_laws.specs.Facts.Numbered.{InOrder}
use Rattle.merge_laws.specs.Facts.Settled.{SendsChanged, changed_of, has_item}
use Rattle.merge_laws.specs.Invariants.Unsent.{RowsTell, generations_in, is_changed_above, last_made}
use Rattle.merge_laws.proofs.Unsent.Changed.{changed_made, made-changed}
use Rattle.merge_model.proofs.Lists.KeyLookUps.{keys-exact}

-- Changes in order: none is in a later generation than the first one.

most-step : (same : Bool) (first rest generation : ℕ) → first ≤ generation → rest ≤ first → (if same then max first rest else rest) ≤ generation
most-step same first rest generation up low = grind (arith, nat_tests, up, low)

pub order-most : (number generation : ℕ) (q : Key) (made : List MadeChange) → InOrder number generation made → changed_of made q ≤ generation
order-most number generation q [] o = omega arith
order-most number generation q (c ∷ made) o = most-step (same_key q c.key) c.generation (changed_of made q) generation o.1.1.0 (order-most (number - 1) c.generation q made o.1.1.1.1)

-- a row that the change is of, and another one
pub changed-same : (q : Key) (c : MadeChange) (made : List MadeChange) → same_key q c.key ≡ true → c.generation ≤ changed_of (c ∷ made) q
changed-same q c made same = grind (arith, nat_tests, same)

pub changed-other : (q : Key) (c : MadeChange) (made : List MadeChange) → same_key q c.key ≡ false → changed_of (c ∷ made) q ≡ changed_of made q
changed-other q c made differs = ap (λ (b : Bool). if b then max c.generation (changed_of made q) else changed_of made q) differs

-- where the last change of a row lies in an interval, it is the last one in it
last-step : (from to : ℕ) (q : Key) (c : MadeChange) (rest : Option MadeChange) (most : ℕ) (same : Bool) → same_key q c.key ≡ same → most ≤ c.generation
    → (from < most → most ≤ to → option_map (λ (x : MadeChange). x.generation) rest ≡ Some most) → from < (if same then max c.generation most else most) → (if same then max c.generation most else most) ≤ to
    → option_map (λ (x : MadeChange). x.generation) (let found : Option MadeChange = cond (is_between_made from to c && same_key q c.key) (Some c) rest in found) ≡ Some (if same then max c.generation most else most)
last-step from to q c rest most true is low h above up =
    let top : max c.generation most ≡ c.generation = grind (arith, nat_tests, low) in
    let between : (is_between_made from to c && same_key q c.key) ≡ true = grind (arith, nat_tests, is, top, above, up) in
    ap (λ (b : Bool). option_map (λ (x : MadeChange). x.generation) (let found : Option MadeChange = cond b (Some c) rest in found)) between ∙ ap (λ (n : ℕ). (let found : Option ℕ = Some n in found)) (sym top)
last-step from to q c rest most false is low h above up =
    let other : (is_between_made from to c && same_key q c.key) ≡ false = grind (arith, is) in
    ap (λ (b : Bool). option_map (λ (x : MadeChange). x.generation) (let found : Option MadeChange = cond b (Some c) rest in found)) other ∙ h above up

pub last-changed : (from to number generation : ℕ) (q : Key) (made : List MadeChange) → InOrder number generation made → from < changed_of made q → changed_of made q ≤ to → last_made from to q made ≡ Some (changed_of made q)
last-changed from to number generation q [] o above up = absurd (omega (arith, above))
last-changed from to number generation q (c ∷ made) o above up =
    last-step from to q c (find (λ (change : MadeChange). is_between_made from to change && same_key q change.key) made) (changed_of made q) (same_key q c.key) refl
    (order-most (number - 1) c.generation q made o.1.1.1.1) (λ low high. last-changed from to (number - 1) c.generation q made o.1.1.1.1 low high) above up

pub up-to : (most from : ℕ) → (from < most → ⊥) → most ≤ from
up-to most from never = grind (arith, nat_tests, never)

pub none-changed : (from to number generation : ℕ) (q : Key) (made : List MadeChange) → InOrder number generation made → generation ≤ to → last_made from to q made ≡ None → changed_of made q ≤ from
none-changed from to number generation q made o up none = up-to (changed_of made q) from (λ above. (
    let most = order-most number generation q made o in
    let last = last-changed from to number generation q made o above (omega (arith, most, up)) in
    grind (arith, none, last)))

-- where the last change is received, no change is above it
pub none-unsent : (received : ℕ) (q : Key) (made : List MadeChange) → changed_of made q ≤ received → is_changed_above received q made ≡ false
none-unsent received q [] up = refl
none-unsent received q (c ∷ made) up = grind (arith, nat_tests, up, none-unsent received q made)

-- The items of an upload.

module _ (s : SubscriberTables) where
  still-there : (test : UploadItem → Bool) (found : Option UploadItem) (items : List UploadItem) → list_any test items ≡ true → list_any test (cons_option found items) ≡ true
  still-there test None items there = there
  still-there test (Some item) items there = grind (arith, there)

  item-first : (q : Key) (entry : Key × ℕ) (generation : ℕ) (version : Version) (items : List UploadItem) → q ≡ entry.0 → entry.1 ≡ generation → subscriber_version_at s q ≡ Some version → has_item (cons_option (upload_item s entry) items) q generation ≡ true
  item-first q entry generation version items same is held =
      let here : subscriber_version_at s entry.0 ≡ Some version = ap (λ (k : Key). subscriber_version_at s k) (sym same) ∙ held in
      let first : upload_item s entry ≡ Some (record { article = entry.0.article; row = entry.0.row; generation = entry.1; version = version }) =
      ap (λ (found : Option Version). option_map (λ (v : Version). (let item : UploadItem = record { article = entry.0.article; row = entry.0.row; generation = entry.1; version = v } in item)) found) here in
      ap (λ (found : Option UploadItem). has_item (cons_option found items) q generation) first ∙ grind (arith, nat_tests, same, is)

  items-step : (q : Key) (entry : Key × ℕ) (entries : List (Key × ℕ)) (generation : ℕ) (version : Version) (here : Bool) → is_at (key_cmp q) entry.0 ≡ here → (row_at entries q ≡ Some generation → has_item (filter_map (upload_item s) entries) q generation ≡ true)
      → (let found : Option ℕ = cond here (Some entry.1) (row_at entries q) in found ≡ Some generation) → subscriber_version_at s q ≡ Some version → has_item (filter_map (upload_item s) (entry ∷ entries)) q generation ≡ true
  items-step q entry entries generation version true at h is held = item-first q entry generation version (filter_map (upload_item s) entries) (keys-exact q entry.0 at) (let same : entry.1 ≡ generation = cc in same) held
  items-step q entry entries generation version false at h is held = still-there (λ (item : UploadItem). same_key q (key_of_item item) && (item.generation == generation)) (upload_item s entry) (filter_map (upload_item s) entries) (h is)

  items-have : (q : Key) (entries : List (Key × ℕ)) (generation : ℕ) (version : Version) → row_at entries q ≡ Some generation → subscriber_version_at s q ≡ Some version → has_item (filter_map (upload_item s) entries) q generation ≡ true
  items-have q [] generation version is held = absurd (grind (arith, is))
  items-have q (entry ∷ entries) generation version is held = items-step q entry entries generation version (is_at (key_cmp q) entry.0) refl (λ there. items-have q entries generation version there held) is held

  -- a row with a change that was not received is held
  abbrev HasVersion : Option SubscriberRow → Type 0
  HasVersion found = (version : Version) × (option_map (λ (row : SubscriberRow). row.version) found ≡ Some version)

  kept-held : (from to generation : ℕ) (q : Key) (found : Option SubscriberRow) → row_at s.rows q ≡ found → last_between from to (generations_in s.rows q) ≡ Some generation → HasVersion found
  kept-held from to generation q None at is = absurd (grind (arith, at, is))
  kept-held from to generation q (Some row) at is = (row.version, refl)

  pub upload-sends : (judge : SubscriberJudge) (made : List MadeChange) (number generation to : ℕ) → judge.changed_between s.received to ≡ changed_made s.received to made → InOrder number generation made → RowsTell made s.received s.rows
      → SendsChanged (changed_of made) (upload_to judge s to)
  upload-sends judge made number generation to same o tells = record {
    items = λ key above up. (
        let last : last_made s.received to key made ≡ Some (changed_of made key) = last-changed s.received to number generation key made o above up in
        let found : row_at (changed_made s.received to made) key ≡ Some (changed_of made key) = made-changed s.received to number generation key made o ∙ last in
        let held = kept-held s.received to (changed_of made key) key (row_at s.rows key) refl (tells.between key s.received to (omega arith) ∙ last) in
        items-have key (judge.changed_between s.received to) (changed_of made key) held.0 (ap (λ (entries : List (Key × ℕ)). row_at entries key) same ∙ found) held.1);
  }
