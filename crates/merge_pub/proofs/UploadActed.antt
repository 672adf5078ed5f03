-- What holds of all that an upload's items did.
use Rattle.std.specs.List.{AllByRecursion, AllPairs, cons_option}
use Rattle.std.specs.Option.{option_to_list}
use Rattle.std.specs.Prelude.{◌≡◌, ◌&&◌, ◌||◌, ◌+◌, ◌++◌, ◌==◌, ◌∷◌, ◌<◌, ◌≤◌, ◌^◌, ℕ, zero, suc, Bool, true, false, List, [], Option, Some, None, All, filter, if◌then◌else◌, length, map, nat_lt, refl}
use Rattle.std.proofs.Common.{arith, sym, ap, ◌∙◌, subst, length-append}
use Rattle.std.proofs.lemmas.Bool.Decides.{nat_tests}
use Rattle.std.proofs.lemmas.List.Elements.{All-from_recursion, All-head, All-nil, All-tail, recursion_from_All}
use Rattle.std.proofs.lemmas.List.Kept.{AllPairs-cons}
use Rattle.merge_types.specs.declared.identifiers.Moment.{Moment}
use Rattle.merge_types.specs.declared.identifiers.SiteId.{SiteId}
use Rattle.merge_types.specs.declared.row_key.RowKey.{RowKey as Key}
use Rattle.merge_units.specs.declared.result.Decision.{Decision}
use Rattle.merge_units.specs.declared.result.Decision.TheVariants.{Custom, KeepPublisher, TakeSubscriber}
use Rattle.merge_units.specs.declared.version.Version.{Version}
use Rattle.merge_units.specs.Cases.{is_conflict}
use Rattle.merge_conflict.specs.Losers.{losing_rows}
use Rattle.merge_conflict.specs.Rising.{RiseAbove}
use Rattle.merge_conflict.specs.declared.losers.Conflict.{Conflict}
use Rattle.merge_conflict.specs.declared.row.ConflictRow.{ConflictRow}
use Rattle.merge_schema.specs.declared.publication.Publication.{Publication}
use Rattle.merge_part.specs.Taking.{EachRowOnce, key_of_change}
use Rattle.merge_part.specs.declared.change.RowChange.{RowChange}
use Rattle.merge_batch.specs.Search.{is_below}
use Rattle.merge_batch.specs.Uploads.{row_of}
use Rattle.merge_batch.specs.declared.request.Upload.{Upload}
use Rattle.merge_batch.specs.declared.request.UploadItem.{UploadItem}
use Rattle.merge_model.specs.Publisher.Acts.{Act, Fate, Met, New, Unknown, act_of, acts_from, changes_by, conflict_of, key_of_item, left_by, lost_by, lost_from, made_by, version_by, version_of_act, versions_of}
use Rattle.merge_model.specs.Judge.{PublisherJudge}
use Rattle.merge_model.specs.Tables.{PublisherTables}
use Rattle.merge_steps.specs.Working.{row_change}

pairs-head : {X : Type 0} (R : X → X → Type 0) (x : X) (xs : List X) → AllPairs R (x ∷ xs) → AllByRecursion (R x) xs
pairs-head R x xs pairs = recursion_from_All (R x) xs (λ k d less. pairs zero (suc k) d (omega arith) (omega (arith, less)))

pairs-tail : {X : Type 0} (R : X → X → Type 0) (x : X) (xs : List X) → AllPairs R (x ∷ xs) → AllPairs R xs
pairs-tail R x xs pairs = λ i j d less inside. pairs (suc i) (suc j) d (omega (arith, less)) (omega (arith, inside))

-- Rows stand once.

abbrev change_keys : (Key → Type 0) → List (Key × Version) → Type 0
change_keys P versions = AllByRecursion (λ (change : RowChange). P (key_of_change change)) (map row_change versions)

one-key : (P : Key → Type 0) (key : Key) → P key → (v : Option Version) (rest : List (Key × Version)) → change_keys P rest
    → change_keys P (cons_option (let o : Option (Key × Version) = elim v [ None ↦ None | Some version ↦ Some (key, version) ] in o) rest)
one-key P key here None rest behind = behind
one-key P key here (Some version) rest behind = (here, behind)

module _ (judge : PublisherJudge) (site : SiteId) (p : PublisherTables) where
  abbrev made_versions : ℕ → List Decision → List UploadItem → List (Key × Version)
  made_versions number decisions items = versions_of (acts_from judge site p number decisions items)

  keys-among : (P : Key → Type 0) (items : List UploadItem) → AllByRecursion (λ (item : UploadItem). P (key_of_item item)) items → (number : ℕ) (decisions : List Decision) → change_keys P (made_versions number decisions items)
  keys-among P [] all number decisions = tt
  keys-among P (item ∷ items) all number decisions =
      let act : Act = act_of judge site p number decisions item in
      one-key P (key_of_item item) all.0 (version_by act.incoming act.fate) (made_versions (number + made_by act.fate) (left_by act.fate decisions) items) (keys-among P items all.1 (number + made_by act.fate) (left_by act.fate decisions))

  -- the rows of items ascend
  abbrev pub IsAbove : UploadItem → UploadItem → Type 0
  IsAbove item other = is_below (row_of item) (row_of other) ≡ true

  abbrev pub Rises : List UploadItem → Type 0
  Rises [] = Unit {0}
  Rises (item ∷ items) = AllByRecursion (IsAbove item) items × Rises items

  above-apart : (item : UploadItem) (key : Key) → is_below (row_of item) (key.article, key.row.0) ≡ true → key_of_item item ≡ key → ⊥
  above-apart item key above same =
      let here : is_below (row_of item) (row_of item) ≡ true = subst (λ (k : Key). is_below (row_of item) (k.article, k.row.0) ≡ true) (sym same) above in
      grind (arith, nat_tests, here)

  once-head : (key : Key) (v : Option Version) (rest : List (Key × Version)) → change_keys (λ (k : Key). key ≡ k → ⊥) rest → EachRowOnce (map row_change rest)
      → EachRowOnce (map row_change (cons_option (let o : Option (Key × Version) = elim v [ None ↦ None | Some version ↦ Some (key, version) ] in o) rest))
  once-head key None rest apart once = once
  once-head key (Some version) rest apart once =
      AllPairs-cons (λ (one other : RowChange). key_of_change one ≡ key_of_change other → ⊥) (row_change (key, version)) (map row_change rest)
      (All-from_recursion (λ (change : RowChange). key ≡ key_of_change change → ⊥) (map row_change rest) apart) once

  none-once : EachRowOnce []
  none-once i j d less within = absurd (omega arith)

  apart-all : (item : UploadItem) (items : List UploadItem) → AllByRecursion (IsAbove item) items → AllByRecursion (λ (other : UploadItem). key_of_item item ≡ key_of_item other → ⊥) items
  apart-all item [] all = tt
  apart-all item (other ∷ items) all = (above-apart item (key_of_item other) all.0, apart-all item items all.1)

  pub rows-once : (items : List UploadItem) → Rises items → (number : ℕ) (decisions : List Decision) → EachRowOnce (map row_change (made_versions number decisions items))
  rows-once [] rises number decisions = none-once
  rows-once (item ∷ items) rises number decisions =
      let act : Act = act_of judge site p number decisions item in
      let behind : List (Key × Version) = made_versions (number + made_by act.fate) (left_by act.fate decisions) items in
      once-head (key_of_item item) (version_by act.incoming act.fate) behind
      (keys-among (λ (k : Key). key_of_item item ≡ k → ⊥) items (apart-all item items rises.0) (number + made_by act.fate) (left_by act.fate decisions))
      (rows-once items rises.1 (number + made_by act.fate) (left_by act.fate decisions))

  -- and they are not more than the items
  few-head : (key : Key) (v : Option Version) (rest : List (Key × Version)) → length (cons_option (let o : Option (Key × Version) = elim v [ None ↦ None | Some version ↦ Some (key, version) ] in o) rest) ≤ 1 + length rest
  few-head key None rest = omega arith
  few-head key (Some version) rest = omega arith

  pub versions-few : (items : List UploadItem) (number : ℕ) (decisions : List Decision) → length (made_versions number decisions items) ≤ length items
  versions-few [] number decisions = omega arith
  versions-few (item ∷ items) number decisions =
      let act : Act = act_of judge site p number decisions item in
      omega (arith, few-head (key_of_item item) (version_by act.incoming act.fate) (made_versions (number + made_by act.fate) (left_by act.fate decisions) items), versions-few items (number + made_by act.fate) (left_by act.fate decisions))

  pub rises-from : (items : List UploadItem) → AllPairs (λ (a b : UploadItem). is_below (row_of a) (row_of b) ≡ true) items → Rises items
  rises-from [] pairs = tt
  rises-from (item ∷ items) pairs = (
    pairs-head (λ (a b : UploadItem). is_below (row_of a) (row_of b) ≡ true) item items pairs,
    rises-from items (pairs-tail (λ (a b : UploadItem). is_below (row_of a) (row_of b) ≡ true) item items pairs),
  )

  kept-above : (item : UploadItem) (f : UploadItem → Bool) (items : List UploadItem) → AllByRecursion (IsAbove item) items → AllByRecursion (IsAbove item) (filter f items)
  kept-above item f [] all = tt
  kept-above item f (other ∷ items) all = elim (f other) as (λ b. AllByRecursion (IsAbove item) (let xs : List UploadItem = if b then other ∷ filter f items else filter f items in xs)) [
    | true ↦ (all.0, kept-above item f items all.1)
    | false ↦ kept-above item f items all.1
  ]

  pub rises-kept : (f : UploadItem → Bool) (items : List UploadItem) → Rises items → Rises (filter f items)
  rises-kept f [] rises = tt
  rises-kept f (item ∷ items) rises = elim (f item) as (λ b. Rises (let xs : List UploadItem = if b then item ∷ filter f items else filter f items in xs)) [
    | true ↦ (kept-above item f items rises.0, rises-kept f items rises.1)
    | false ↦ rises-kept f items rises.1
  ]

fewer-item : {X : Type 0} (f : X → Bool) (x : X) (xs : List X) (b : Bool) → f x ≡ b → length (filter f xs) ≤ length xs → length (filter f (x ∷ xs)) ≤ length (x ∷ xs)
fewer-item f x xs true is few = rw is (omega (arith, few))
fewer-item f x xs false is few = rw is (omega (arith, few))

pub fewer : {X : Type 0} (f : X → Bool) (xs : List X) → length (filter f xs) ≤ length xs
fewer f [] = omega arith
fewer f (x ∷ xs) = fewer-item f x xs (f x) refl (fewer f xs)

-- The numbers of what lost.

abbrev pub UpTo : ℕ → List ConflictRow → Type 0
UpTo most rows = AllByRecursion (λ (row : ConflictRow). row.number ≤ most) rows

pub raise-most : (low high : ℕ) (rows : List ConflictRow) → low ≤ high → UpTo low rows → UpTo high rows
raise-most low high [] below all = tt
raise-most low high (row ∷ rows) below all = (omega (arith, all.0), raise-most low high rows below all.1)

rise-on : (above most : ℕ) (rows more : List ConflictRow) → above ≤ most → RiseAbove above rows → UpTo most rows → RiseAbove most more → RiseAbove above (rows ++ more)
rise-on above most [] [] below rising up_to on = tt
rise-on above most [] (row ∷ more) below rising up_to on = (omega (arith, on.0), on.1)
rise-on above most (row ∷ rows) more below rising up_to on = (rising.0, rise-on row.number most rows more up_to.0 rising.1 up_to.1 on)

pub both-up : (most : ℕ) (rows more : List ConflictRow) → UpTo most rows → UpTo most more → UpTo most (rows ++ more)
both-up most [] more all others = others
both-up most (row ∷ rows) more all others = (all.0, both-up most rows more all.1 others)

-- rows with numbers from the next one on
pub record AreNumbered (above : ℕ) (rows : List ConflictRow) : Type 0 where
  pub rising : RiseAbove above rows
  pub up_to : UpTo (above + length rows) rows

decided-numbered : (n : ℕ) (conflict : Conflict) → conflict.number ≡ n + 1 → (held incoming : Version) (d : Decision) → AreNumbered n (losing_rows conflict held incoming d)
decided-numbered n conflict is held incoming KeepPublisher = record { rising = (omega (arith, is), tt); up_to = (omega (arith, is), tt) }
decided-numbered n conflict is held incoming TakeSubscriber = record { rising = (omega (arith, is), tt); up_to = (omega (arith, is), tt) }
decided-numbered n conflict is held incoming (Custom values) = record { rising = (omega (arith, is), (omega arith, tt)); up_to = (omega (arith, is), (omega (arith, is), tt)) }

none-numbered : (n : ℕ) → AreNumbered n []
none-numbered n = record { rising = tt; up_to = tt }

met-numbered : (b : Bool) (n : ℕ) (conflict : Conflict) → conflict.number ≡ n + 1 → (held incoming : Version) (d : Decision) → AreNumbered n (let rows : List ConflictRow = if b then losing_rows conflict held incoming d else [] in rows)
met-numbered true n conflict is held incoming d = decided-numbered n conflict is held incoming d
met-numbered false n conflict is held incoming d = none-numbered n

module _ (publication : Publication) (site : SiteId) (moment : Moment) where
  lost-numbered : (n : ℕ) (act : Act) (fate : Fate) → AreNumbered n (lost_by publication site moment (n + 1) act fate)
  lost-numbered n act New = none-numbered n
  lost-numbered n act Unknown = record { rising = (omega arith, tt); up_to = (omega arith, tt) }
  lost-numbered n act (Met held case decision dot) = met-numbered (is_conflict case) n (conflict_of publication site moment (n + 1) act.key) refl held act.incoming decision

  numbered-on : (n : ℕ) (rows more : List ConflictRow) → AreNumbered n rows → AreNumbered (n + length rows) more → AreNumbered n (rows ++ more)
  numbered-on n rows more one other = record {
    rising = rise-on n (n + length rows) rows more (omega arith) one.rising one.up_to other.rising;
    up_to = both-up (n + length (rows ++ more)) rows more
        (raise-most (n + length rows) (n + length (rows ++ more)) rows (omega (arith, length-append rows more)) one.up_to)
        (raise-most (n + length rows + length more) (n + length (rows ++ more)) more (omega (arith, length-append rows more)) other.up_to);
  }

  pub all-numbered : (acts : List Act) (n : ℕ) → AreNumbered n (lost_from publication site moment (n + 1) acts)
  all-numbered [] n = none-numbered n
  all-numbered (act ∷ acts) n =
      let rows : List ConflictRow = lost_by publication site moment (n + 1) act act.fate in
      let place : n + length rows + 1 ≡ n + 1 + length rows = omega arith in
      numbered-on n rows (lost_from publication site moment (n + 1 + length rows) acts) (lost-numbered n act act.fate)
      (subst (λ (k : ℕ). AreNumbered (n + length rows) (lost_from publication site moment k acts)) place (all-numbered acts (n + length rows)))
