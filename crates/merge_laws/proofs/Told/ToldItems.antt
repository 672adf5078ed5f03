-- An upload that is not refused names each row once, and so do its acts.
use Rattle.std.specs.Prelude.{◌≡◌, ◌+◌, ℕ, List, [], ◌∷◌, Bool, true, false, Option, Some, None, refl, cond, filter, option_map}
use Rattle.std.specs.List.{AllByRecursion}
use Rattle.std.proofs.Common.{arith}
use Rattle.std.proofs.lemmas.Bool.Decides.{nat_tests}
use Rattle.merge_types.specs.declared.identifiers.Moment.{Moment}
use Rattle.merge_types.specs.declared.identifiers.SiteId.{SiteId}
use Rattle.merge_units.specs.declared.result.Decision.{Decision}
use Rattle.merge_schema.specs.declared.publication.Publication.{Publication}
use Rattle.merge_batch.specs.Known.{Known as Remembered}
use Rattle.merge_batch.specs.Search.{broken_at, broken_by_items, broken_by_message, broken_from, first_broken, is_below}
use Rattle.merge_batch.specs.Uploads.{broken_by_upload, item_rules, row_of, row_rises, upload_rules}
use Rattle.merge_batch.specs.declared.refusal.Refusal.TheVariants.{Gap}
use Rattle.merge_batch.specs.declared.request.Upload.{Upload}
use Rattle.merge_batch.specs.declared.request.UploadItem.{UploadItem}
use Rattle.merge_batch.specs.declared.rules.BrokenRule.{BrokenRule}
use Rattle.merge_batch.proofs.AllMet.{all_met, is_below-along, met-at, none_first, none_mapped, none_second}
use Rattle.merge_model.specs.Publisher.Acts.{Act, act_of, acting_items, acts_from, acts_of, key_of_item, left_by, made_by}
use Rattle.merge_model.specs.World.Faults.{fault_of, known_by, upload_fault}
use Rattle.merge_model.specs.Judge.{PublisherJudge}
use Rattle.merge_model.specs.Tables.Keys.{same_key}
use Rattle.merge_model.specs.Publisher.{counters, site_refusal}
use Rattle.merge_model.specs.Publisher.PublisherUpload.{too_many_new, upload_refusal}
use Rattle.merge_model.specs.Tables.Refusals.{counter_end, refused_if}
use Rattle.merge_types.specs.declared.row_key.RowKey.{RowKey as Key}
use Rattle.merge_model.specs.Tables.{PublisherTables}
use Rattle.merge_model.proofs.Runs.Refusals.{first-none}
use Rattle.merge_model.proofs.Lists.Finding.{all-weaker}
use Rattle.merge_model.proofs.Lists.{all-filter}

abbrev pub ItemsApart : List UploadItem → Type 0
ItemsApart [] = Unit {0}
ItemsApart (item ∷ items) = AllByRecursion (λ (other : UploadItem). same_key (key_of_item other) (key_of_item item) ≡ false) items × ItemsApart items

abbrev pub ActsApart : List Act → Type 0
ActsApart [] = Unit {0}
ActsApart (act ∷ acts) = AllByRecursion (λ (other : Act). same_key other.key act.key ≡ false) acts × ActsApart acts

-- by the rule that rows rise
module _ (publication : Publication) (known : Remembered) (m : Upload) where
  row-rises : (before : Option UploadItem) (item : UploadItem) → first_broken (item_rules publication known m before item) ≡ None → row_rises before item ≡ true
  row-rises before item none = met-at (item_rules publication known m before item) 0 (5, row_rises before item) (all_met (item_rules publication known m before item) none) refl

  rest-met : (start : ℕ) (before : Option UploadItem) (item : UploadItem) (items : List UploadItem) → broken_from (item_rules publication known m) start before (item ∷ items) ≡ None
      → (row_rises before item ≡ true) × (broken_from (item_rules publication known m) (start + 1) (Some item) items ≡ None)
  rest-met start before item items none =
      let here : Option BrokenRule = option_map (broken_at start) (first_broken (item_rules publication known m before item)) in
      let rest : Option BrokenRule = broken_from (item_rules publication known m) (start + 1) (Some item) items in
      (row-rises before item (none_mapped (broken_at start) (first_broken (item_rules publication known m before item)) (none_first here rest none)), none_second here rest none)

  all-above : (start : ℕ) (before : UploadItem) (items : List UploadItem) → broken_from (item_rules publication known m) start (Some before) items ≡ None
      → AllByRecursion (λ (x : UploadItem). is_below (row_of before) (row_of x) ≡ true) items
  all-above start before [] none = tt
  all-above start before (item ∷ items) none =
      let met = rest-met start (Some before) item items none in (
        met.0,
        all-weaker (λ (x : UploadItem). is_below (row_of item) (row_of x) ≡ true) (λ (x : UploadItem). is_below (row_of before) (row_of x) ≡ true) (λ x more. is_below-along (row_of before) (row_of item) (row_of x) met.0 more) items
            (all-above (start + 1) item items met.1),
      )

  below-apart : (a b : UploadItem) → is_below (row_of a) (row_of b) ≡ true → same_key (key_of_item b) (key_of_item a) ≡ false
  below-apart a b below = grind (arith, nat_tests, below)

  all-apart : (start : ℕ) (before : Option UploadItem) (items : List UploadItem) → broken_from (item_rules publication known m) start before items ≡ None → ItemsApart items
  all-apart start before [] none = tt
  all-apart start before (item ∷ items) none =
      let met = rest-met start before item items none in (
        all-weaker (λ (x : UploadItem). is_below (row_of item) (row_of x) ≡ true) (λ (x : UploadItem). same_key (key_of_item x) (key_of_item item) ≡ false) (λ x below. below-apart item x below) items (all-above (start + 1) item items met.1),
        all-apart (start + 1) (Some item) items met.1,
      )

  unbroken-apart : broken_by_upload publication known m ≡ None → ItemsApart m.items
  unfolding broken_by_upload
  unbroken-apart none = all-apart 1 None m.items (none_second (broken_by_message (upload_rules known m)) (broken_by_items (item_rules publication known m) m.items) none)

pub fault-none : (found : Option BrokenRule) → fault_of found ≡ None → found ≡ None
fault-none None e = refl
fault-none (Some broken) e = absurd (grind (arith, e))

pub items-apart : (publication : Publication) (judge : PublisherJudge) (now : Moment) (m : Upload) (p : PublisherTables) → upload_refusal publication judge now m p ≡ None → ItemsApart m.items
items-apart publication judge now m p e =
    let all = first-none (site_refusal publication m.site m.seq now p) _ e in
    let gap = first-none (refused_if (judge.is_gap m.site.0 m.from) (Gap m.from (judge.received m.site.0))) (upload_fault publication judge m p ∷ too_many_new (acts_of judge m [] p) p ∷ counter_end (counters p) ∷ []) all.1 in
    let fault = first-none (upload_fault publication judge m p) (too_many_new (acts_of judge m [] p) p ∷ counter_end (counters p) ∷ []) gap.1 in
    unbroken-apart publication (known_by publication judge p) m (fault-none (broken_by_upload publication (known_by publication judge p) m) fault.0)

-- Those that act.

kept-apart : (b : Bool) (item : UploadItem) (rest : List UploadItem) → AllByRecursion (λ (other : UploadItem). same_key (key_of_item other) (key_of_item item) ≡ false) rest → ItemsApart rest → ItemsApart (cond b (item ∷ rest) rest)
kept-apart true item rest first more = (first, more)
kept-apart false item rest first more = more

pub filter-apart : (test : UploadItem → Bool) (items : List UploadItem) → ItemsApart items → ItemsApart (filter test items)
filter-apart test [] all = tt
filter-apart test (item ∷ items) all = kept-apart (test item) item (filter test items) (all-filter (λ (other : UploadItem). same_key (key_of_item other) (key_of_item item) ≡ false) test items all.0) (filter-apart test items all.1)

module _ (judge : PublisherJudge) (site : SiteId) (p : PublisherTables) where
  acts-differ : (key : Key) (number : ℕ) (decisions : List Decision) (items : List UploadItem) → AllByRecursion (λ (other : UploadItem). same_key (key_of_item other) key ≡ false) items
      → AllByRecursion (λ (act : Act). same_key act.key key ≡ false) (acts_from judge site p number decisions items)
  acts-differ key number decisions [] all = tt
  acts-differ key number decisions (item ∷ items) all = let act : Act = act_of judge site p number decisions item in (all.0, acts-differ key (number + made_by act.fate) (left_by act.fate decisions) items all.1)

  from-apart : (number : ℕ) (decisions : List Decision) (items : List UploadItem) → ItemsApart items → ActsApart (acts_from judge site p number decisions items)
  from-apart number decisions [] all = tt
  from-apart number decisions (item ∷ items) all =
      let act : Act = act_of judge site p number decisions item in
      (acts-differ act.key (number + made_by act.fate) (left_by act.fate decisions) items all.0, from-apart (number + made_by act.fate) (left_by act.fate decisions) items all.1)

pub acts-apart : (publication : Publication) (judge : PublisherJudge) (now : Moment) (m : Upload) (decisions : List Decision) (p q : PublisherTables) → upload_refusal publication judge now m p ≡ None → ActsApart (acts_of judge m decisions q)
acts-apart publication judge now m decisions p q fine = from-apart judge m.site q (q.changes + 1) decisions (acting_items judge m) (filter-apart _ m.items (items-apart publication judge now m p fine))
