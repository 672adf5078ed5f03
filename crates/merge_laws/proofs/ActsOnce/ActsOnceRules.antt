-- An upload that is not refused is not refused without some of its items.
use Rattle.std.specs.Prelude.{◌≡◌, ◌+◌, ℕ, List, [], ◌∷◌, Bool, true, false, Option, Some, None, refl, cond, filter, length, nat_le, option_map}
use Rattle.std.specs.List.{AllByRecursion}
use Rattle.std.proofs.Common.{arith}
use Rattle.std.proofs.lemmas.Bool.Decides.{nat_tests}
use Rattle.std.proofs.lemmas.List.Sums.{count_by-le-length, length-filter}
use Rattle.merge_schema.specs.declared.publication.Publication.{Publication}
use Rattle.merge_batch.specs.Known.{Known as Remembered}
use Rattle.merge_batch.specs.Search.{broken_at, broken_by_items, broken_by_message, broken_from, first_broken}
use Rattle.merge_batch.specs.Uploads.{broken_by_upload, has_few_generations, has_few_items, has_generations, item_rules, numbers_go_on, row_of, row_rises, upload_rules}
use Rattle.merge_batch.specs.declared.request.Upload.{Upload}
use Rattle.merge_batch.specs.declared.request.UploadItem.{UploadItem}
use Rattle.merge_batch.specs.declared.rules.BrokenRule.{BrokenRule}
use Rattle.merge_batch.proofs.AllMet.{all_met, both_met, is_below-along, met-at, none_both, none_broken, none_first, none_mapped, none_second}
use Rattle.merge_model.proofs.Lists.Finding.{all-weaker}

-- an item that is held against another one before it
rises-too : (a b : Bool) (rules : List (ℕ × Bool)) → a ≡ true → first_broken ((5, b) ∷ rules) ≡ None → first_broken ((5, a) ∷ rules) ≡ None
rises-too true true rules rises none = none
rises-too true false rules rises none = absurd (cc none)
rises-too false b rules rises none = absurd (cc rises)

module _ (publication : Publication) (known : Remembered) (u : Upload) where
  abbrev Rises : Option UploadItem → UploadItem → Type 0
  Rises before item = row_rises before item ≡ true

  abbrev broken : ℕ → Option UploadItem → List UploadItem → Option BrokenRule
  broken place before items = broken_from (item_rules publication known u) place before items

  first-fine : (place : ℕ) (before : Option UploadItem) (item : UploadItem) (items : List UploadItem) → broken place before (item ∷ items) ≡ None → first_broken (item_rules publication known u before item) ≡ None
  first-fine place before item items none = none_mapped (broken_at place) (first_broken (item_rules publication known u before item))
      (none_first (option_map (broken_at place) (first_broken (item_rules publication known u before item))) (broken (place + 1) (Some item) items) none)

  rest-fine : (place : ℕ) (before : Option UploadItem) (item : UploadItem) (items : List UploadItem) → broken place before (item ∷ items) ≡ None → broken (place + 1) (Some item) items ≡ None
  rest-fine place before item items none = none_second (option_map (broken_at place) (first_broken (item_rules publication known u before item))) (broken (place + 1) (Some item) items) none

  all-rise : (place : ℕ) (before : UploadItem) (items : List UploadItem) → broken place (Some before) items ≡ None → AllByRecursion (Rises (Some before)) items
  all-rise place before [] none = tt
  all-rise place before (item ∷ items) none =
      let rises : row_rises (Some before) item ≡ true = met-at (item_rules publication known u (Some before) item) 0 (5, row_rises (Some before) item) (all_met (item_rules publication known u (Some before) item) (first-fine place (Some before) item items none)) refl in (
        rises,
        all-weaker (Rises (Some item)) (Rises (Some before)) (λ x more. is_below-along (row_of before) (row_of item) (row_of x) rises more) items (all-rise (place + 1) item items (rest-fine place (Some before) item items none)),
      )

  kept-fine : (b : Bool) (place : ℕ) (before : Option UploadItem) (item : UploadItem) (rest : List UploadItem) → first_broken (item_rules publication known u before item) ≡ None → broken (place + 1) (Some item) rest ≡ None → broken place before rest ≡ None
      → broken place before (cond b (item ∷ rest) rest) ≡ None
  kept-fine true place before item rest here taken left = none_both (broken_at place) (first_broken (item_rules publication known u before item)) (broken (place + 1) (Some item) rest) here taken
  kept-fine false place before item rest here taken left = left

  some-fine : (test : UploadItem → Bool) (place other : ℕ) (before last : Option UploadItem) (items : List UploadItem) → AllByRecursion (Rises last) items → broken place before items ≡ None → broken other last (filter test items) ≡ None
  some-fine test place other before last [] rise none = refl
  some-fine test place other before last (item ∷ items) rise none =
      let rest : broken (place + 1) (Some item) items ≡ None = rest-fine place before item items none in
      kept-fine (test item) other last item (filter test items) (rises-too (row_rises last item) (row_rises before item) _ rise.0 (first-fine place before item items none))
      (some-fine test (place + 1) (other + 1) (Some item) (Some item) items (all-rise (place + 1) item items rest) rest)
      (some-fine test (place + 1) other (Some item) last items rise.1 rest)

  first-rise : (items : List UploadItem) → AllByRecursion (Rises None) items
  first-rise [] = tt
  first-rise (item ∷ items) = (refl, first-rise items)

  fewer : (test : UploadItem → Bool) (items : List UploadItem) → nat_le (length items) 2000 ≡ true → nat_le (length (filter test items)) 2000 ≡ true
  fewer test items few = grind (arith, nat_tests, few, length-filter test items, count_by-le-length test items)

  pub fewer-fine : (test : UploadItem → Bool) → broken_by_upload publication known u ≡ None → broken_by_upload publication known (record u { items = filter test u.items }) ≡ None
  unfolding broken_by_upload
  fewer-fine test none =
      let without : Upload = record u { items = filter test u.items } in
      let rules : List (ℕ × Bool) = upload_rules known u in
      let fine : first_broken rules ≡ None = none_mapped (broken_at 0) (first_broken rules) (none_first (broken_by_message rules) (broken_by_items (item_rules publication known u) u.items) none) in
      let met = all_met rules fine in
      let has : has_generations u ≡ true = met-at rules 0 (1, has_generations u) met refl in
      let few : has_few_generations u ≡ true = met-at rules 1 (2, has_few_generations u) met refl in
      let items : has_few_items u ≡ true = met-at rules 2 (3, has_few_items u) met refl in
      let numbers : numbers_go_on known u ≡ true = met-at rules 3 (4, numbers_go_on known u) met refl in
      none_both (broken_at 0) (first_broken (upload_rules known without)) (broken_by_items (item_rules publication known without) without.items)
      (none_broken (upload_rules known without) (both_met has (both_met few (both_met (fewer test u.items items) (both_met numbers refl)))))
      (some-fine test 1 1 None None u.items (first-rise u.items) (none_second (broken_by_message rules) (broken_by_items (item_rules publication known u) u.items) none))
