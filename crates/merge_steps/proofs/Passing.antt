-- One item more acts.
use Rattle.std.specs.List.{AllByRecursion, cons_option, fold}
use Rattle.std.specs.Option.{option_to_list}
use Rattle.std.specs.Prelude.{◌≡◌, ◌+◌, ◌++◌, ◌∷◌, ◌<◌, ◌≤◌, ℕ, zero, suc, Bool, true, false, List, [], Option, Some, None, All, drop, filter_map, get_or, length, map, refl, take}
use Rattle.std.proofs.Common.{arith, sym, ap, ◌∙◌, subst, append_assoc, append-nil}
use Rattle.std.proofs.Math.Seq.{drop-cons}
use Rattle.std.proofs.lemmas.Grind.{common_steps}
use Rattle.std.proofs.lemmas.List.{take_all, take-append-drop}
use Rattle.std.proofs.lemmas.List.Elements.{filter_map-append}
use Rattle.std.proofs.lemmas.List.Sums.{fold-append}
use mathlib.Core.List.{map-append}
use mathlib.Core.Path.{fun_ext}
use Rattle.merge_types.specs.declared.row_key.RowKey.{RowKey as Key}
use Rattle.std.specs.BTreeMap.{is_at}
use Rattle.std.specs.Cmp.{Equal-is}
use Rattle.merge_types.specs.RowKeys.{key_cmp, key_exact}
use Rattle.merge_units.specs.declared.version.Version.{Version}
use Rattle.merge_units.specs.declared.site_row.PublisherRow.{PublisherRow}
use Rattle.merge_resolve.specs.Asked.{tallies_after, tallies_after_question}
use Rattle.merge_resolve.specs.Questions.{question_of as asked_of}
use Rattle.merge_resolve.specs.declared.asking.Question.{Question}
use Rattle.merge_resolve.specs.declared.case.ConflictCase.{ConflictCase}
use Rattle.merge_resolve.proofs.Asked.{tallies_after-append}
use Rattle.merge_schema.specs.declared.publication.Publication.{Publication}
use Rattle.merge_batch.specs.declared.request.UploadItem.{UploadItem}
use Rattle.merge_model.specs.Publisher.Acts.{key_of_item}
use Rattle.merge_model.specs.Tables.Keys.{row_at}
use Rattle.merge_model.specs.World.{Saying}
use Rattle.merge_steps.specs.Fits.{ItemFits}
use Rattle.merge_steps.specs.Keeps.{FitsHere, RowFits}
use Rattle.merge_steps.specs.Uploading.{AskedSome, Grows, KeepsFits, Pass, question_met, row_with, acts_in, after_act, after_item, after_items, pass_at, question_at, question_in, questions_in, tallies_on}
use Rattle.merge_steps.specs.declared.acting.Acting.{Acting}
use Rattle.merge_steps.specs.declared.acting.Arrival.{Arrival}

one-more : {X : Type 0} (xs : List X) (i : ℕ) (x : X) → i < length xs → x ≡ get_or xs i x → take (i + 1) xs ≡ take i xs ++ x ∷ []
one-more xs i x within is = grind (arith, common_steps, is)

same-saying : (says other : Saying) → ((k n : ℕ) (q : ConflictCase) → says k n q ≡ other k n q) → says ≡ other
same-saying says other same = fun_ext (λ k. fun_ext (λ n. fun_ext (λ q. same k n q)))

module _ (publication : Publication) (rows : List (Key × PublisherRow)) (arrival : Arrival) where
  pub pass-next : (says other : Saying) (first now new : List ℕ) (start acting next : Acting) (items : List UploadItem) (i : ℕ) (item : UploadItem) → i < length items → item ≡ get_or items i item
      → ((k n : ℕ) (q : ConflictCase) → other k n q ≡ says k n q) → pass_at acting now ≡ after_items publication rows arrival says (pass_at start first) (take i items)
      → pass_at next new ≡ after_item publication rows arrival other (pass_at acting now) item → pass_at next new ≡ after_items publication rows arrival says (pass_at start first) (take (i + 1) items)
  unfolding after_items
  pass-next says other first now new start acting next items i item within is steady before after =
      after
      ∙ ap (λ (s : Saying). after_item publication rows arrival s (pass_at acting now) item) (same-saying other says steady)
      ∙ ap (λ (pass : Pass). after_item publication rows arrival says pass item) before
      ∙ sym (fold-append (after_item publication rows arrival says) (pass_at start first) (take i items) (item ∷ []))
      ∙ ap (λ (xs : List UploadItem). fold (after_item publication rows arrival says) (pass_at start first) xs) (sym (one-more items i item within is))

  pub pass-none : (says : Saying) (first : List ℕ) (start : Acting) (items : List UploadItem) → pass_at start first ≡ after_items publication rows arrival says (pass_at start first) (take 0 items)
  unfolding after_items
  pass-none says first start items = refl

  -- How often resolvers were asked.

  item-asked : (b : Bool) (says : Saying) (pass : Pass) (item : UploadItem) → acts_in arrival item ≡ b → (after_item publication rows arrival says pass item).tallies ≡ tallies_on pass.tallies (question_in publication rows arrival item)
  item-asked true says pass item is = rw is refl
  item-asked false says pass item is = rw is refl

  one-asked : (tallies : List ℕ) (q : Option Question) → tallies_on tallies q ≡ tallies_after tallies (map asked_of (option_to_list q))
  one-asked tallies None = refl
  one-asked tallies (Some q) = refl

  one-question : (item : UploadItem) → filter_map (question_in publication rows arrival) (item ∷ []) ≡ option_to_list (question_in publication rows arrival item)
  one-question item = by (question_in publication rows arrival item)
    where
      by : (o : Option Question) → (let qs : List Question = cons_option o [] in qs) ≡ option_to_list o
      by None = refl
      by (Some q) = refl

  questions-more : (items : List UploadItem) (i : ℕ) (item : UploadItem) → i < length items → item ≡ get_or items i item
      → questions_in publication rows arrival (take (i + 1) items) ≡ questions_in publication rows arrival (take i items) ++ option_to_list (question_in publication rows arrival item)
  questions-more items i item within is =
      ap (λ (xs : List UploadItem). questions_in publication rows arrival xs) (one-more items i item within is)
      ∙ filter_map-append (question_in publication rows arrival) (take i items) (item ∷ [])
      ∙ ap (λ (qs : List Question). questions_in publication rows arrival (take i items) ++ qs) (one-question item)

  pub asked-next : (other : Saying) (first now new : List ℕ) (acting next : Acting) (items : List UploadItem) (i : ℕ) (item : UploadItem) → i < length items → item ≡ get_or items i item
      → now ≡ tallies_after first (map asked_of (questions_in publication rows arrival (take i items))) → pass_at next new ≡ after_item publication rows arrival other (pass_at acting now) item
      → new ≡ tallies_after first (map asked_of (questions_in publication rows arrival (take (i + 1) items)))
  asked-next other first now new acting next items i item within is before after =
      let q : Option Question = question_in publication rows arrival item in
      let done : List Question = questions_in publication rows arrival (take i items) in
      ap (λ (pass : Pass). pass.tallies) after
      ∙ item-asked (acts_in arrival item) other (pass_at acting now) item refl
      ∙ one-asked now q
      ∙ ap (λ (ts : List ℕ). tallies_after ts (map asked_of (option_to_list q))) before
      ∙ sym (tallies_after-append first (map asked_of done) (map asked_of (option_to_list q)))
      ∙ ap (tallies_after first) (sym (map-append asked_of done (option_to_list q)))
      ∙ ap (λ (qs : List Question). tallies_after first (map asked_of qs)) (sym (questions-more items i item within is))

  first-within : {C : Type 0} (one rest : List (ℕ × C)) (n : ℕ) → (k : ℕ) × (take n one ≡ take k (one ++ rest))
  first-within [] rest zero = (0, refl)
  first-within [] rest (suc n) = (0, refl)
  first-within (x ∷ one) rest zero = (0, refl)
  first-within {C = C} (x ∷ one) rest (suc n) = let more = first-within one rest n in (suc more.0, ap (λ (xs : List (ℕ × C)). x ∷ xs) more.1)

  some-within : {C : Type 0} (tallies : List ℕ) (done one rest : List (ℕ × C)) (n : ℕ) → (k : ℕ) × (tallies_after (tallies_after tallies done) (take n one) ≡ tallies_after tallies (take k (done ++ (one ++ rest))))
  some-within tallies [] one rest n = let more = first-within one rest n in (more.0, ap (tallies_after tallies) more.1)
  some-within tallies (x ∷ done) one rest n = let more = some-within (tallies_after_question tallies x.0) done one rest n in (suc more.0, more.1)

  pub asked-within : (first now new : List ℕ) (items : List UploadItem) (i : ℕ) (item : UploadItem) → i < length items → item ≡ get_or items i item
      → now ≡ tallies_after first (map asked_of (questions_in publication rows arrival (take i items))) → AskedSome now new (option_to_list (question_in publication rows arrival item))
      → AskedSome first new (questions_in publication rows arrival items)
  asked-within first now new items i item within is before some =
      let q : Option Question = question_in publication rows arrival item in
      let done : List Question = questions_in publication rows arrival (take i items) in
      let rest : List Question = questions_in publication rows arrival (drop (i + 1) items) in
      let more = some-within first (map asked_of done) (map asked_of (option_to_list q)) (map asked_of rest) some.0 in
      let cut : items ≡ take (i + 1) items ++ drop (i + 1) items = sym (take-append-drop (i + 1) items) in
      let all : questions_in publication rows arrival items ≡ done ++ (option_to_list q ++ rest) =
      ap (λ (xs : List UploadItem). questions_in publication rows arrival xs) cut ∙ filter_map-append (question_in publication rows arrival) (take (i + 1) items) (drop (i + 1) items)
      ∙ ap (λ (qs : List Question). qs ++ rest) (questions-more items i item within is) ∙ append_assoc done (option_to_list q) rest in
      let told : map asked_of (questions_in publication rows arrival items) ≡ map asked_of done ++ (map asked_of (option_to_list q) ++ map asked_of rest) =
      ap (map asked_of) all ∙ map-append asked_of done (option_to_list q ++ rest) ∙ ap (λ (xs : List (ℕ × ConflictCase)). map asked_of done ++ xs) (map-append asked_of (option_to_list q) rest) in
      (more.0, some.1 ∙ ap (λ (ts : List ℕ). tallies_after ts (take some.0 (map asked_of (option_to_list q)))) before ∙ more.1 ∙ ap (λ (xs : List (ℕ × ConflictCase)). tallies_after first (take more.0 xs)) (sym told))

  pub asked-all : (first now : List ℕ) (items : List UploadItem) (i : ℕ) → length items ≤ i → now ≡ tallies_after first (map asked_of (questions_in publication rows arrival (take i items))) → AskedSome first now (questions_in publication rows arrival items)
  asked-all first now items i past before =
      let qs : List Question = questions_in publication rows arrival items in (
        length (map asked_of qs),
        before ∙ ap (λ (xs : List UploadItem). tallies_after first (map asked_of (questions_in publication rows arrival xs))) (take_all i items past)
            ∙ ap (tallies_after first) (sym (take_all (length (map asked_of qs)) (map asked_of qs) (omega arith))),
      )

  pub pass-all : (says : Saying) (first now : List ℕ) (start acting : Acting) (items : List UploadItem) (i : ℕ) → length items ≤ i → pass_at acting now ≡ after_items publication rows arrival says (pass_at start first) (take i items)
      → pass_at acting now ≡ after_items publication rows arrival says (pass_at start first) items
  pass-all says first now start acting items i past before = before ∙ ap (λ (xs : List UploadItem). after_items publication rows arrival says (pass_at start first) xs) (take_all i items past)

-- Rows and items that fit do so when more changes are made.

raised-row : (publication : Publication) (low high : ℕ) (row : Key × Version) → low ≤ high → FitsHere publication low row → FitsHere publication high row
raised-row publication low high row below fits = record { fits = fits.fits; known = omega (arith, fits.known) }

pub rows-raised : (publication : Publication) (low high : ℕ) (rows : List (Key × PublisherRow)) → low ≤ high → AllByRecursion (RowFits publication low) rows → AllByRecursion (RowFits publication high) rows
rows-raised publication low high [] below all = tt
rows-raised publication low high (row ∷ rows) below all = (raised-row publication low high (row.0, row.1.version) below all.0, rows-raised publication low high rows below all.1)

pub item-raised : (publication : Publication) (low high : ℕ) (item : UploadItem) → low ≤ high → ItemFits publication low item → ItemFits publication high item
item-raised publication low high item below fits = raised-row publication low high (key_of_item item, item.version) below fits

-- the row that is found fits
found-head : (publication : Publication) (changes : ℕ) (key : Key) (entry : Key × PublisherRow) (rows : List (Key × PublisherRow)) (b : Bool) → is_at (key_cmp key) entry.0 ≡ b → RowFits publication changes entry
    → ((row : PublisherRow) → row_at rows key ≡ Some row → FitsHere publication changes (key, row.version)) → (row : PublisherRow) → row_at (entry ∷ rows) key ≡ Some row → FitsHere publication changes (key, row.version)
found-head publication changes key entry rows true is fits behind row found =
    let same : entry.0 ≡ key = sym (key_exact key entry.0 ((Equal-is (key_cmp key entry.0)).0 is)) in
    let held : entry.1 ≡ row = cc (rw is at found) in
    subst (λ (r : PublisherRow). FitsHere publication changes (key, r.version)) held (subst (λ (k : Key). FitsHere publication changes (k, entry.1.version)) same fits)
found-head publication changes key entry rows false is fits behind row found = behind row (rw is at found)

pub row-found : (publication : Publication) (changes : ℕ) (key : Key) (rows : List (Key × PublisherRow)) → AllByRecursion (RowFits publication changes) rows → (row : PublisherRow) → row_at rows key ≡ Some row → FitsHere publication changes (key, row.version)
row-found publication changes key [] all row found = absurd (cc found)
row-found publication changes key (entry ∷ rows) all row found = found-head publication changes key entry rows (is_at (key_cmp key) entry.0) refl all.0 (row-found publication changes key rows all.1) row found

pub keeps-then : (publication : Publication) (start acting next : Acting) → KeepsFits publication start acting → KeepsFits publication acting next → KeepsFits publication start next
keeps-then publication start acting next one other = λ all. other (one all)

-- An item by the row that is found.

module _ (publication : Publication) (arrival : Arrival) (item : UploadItem) where
  pub act-found : (says : Saying) (pass after : Pass) (row : PublisherRow) (o : Option PublisherRow) → Some row ≡ o → after ≡ after_act publication arrival says pass item (Some (row_with row.version)) → after ≡ after_act publication arrival says pass item o
  act-found says pass after row o is made = subst (λ (x : Option PublisherRow). after ≡ after_act publication arrival says pass item x) is made

  pub act-none : (says : Saying) (pass after : Pass) (o : Option PublisherRow) → None ≡ o → after ≡ after_act publication arrival says pass item None → after ≡ after_act publication arrival says pass item o
  act-none says pass after o is made = subst (λ (x : Option PublisherRow). after ≡ after_act publication arrival says pass item x) is made

  pub asked-found : (old new : List ℕ) (row : PublisherRow) (o : Option PublisherRow) → Some row ≡ o → AskedSome old new (option_to_list (question_met publication arrival item row.version)) → AskedSome old new (option_to_list (question_at publication arrival item o))
  asked-found old new row o is some = subst (λ (x : Option PublisherRow). AskedSome old new (option_to_list (question_at publication arrival item x))) is some

  module _ (rows : List (Key × PublisherRow)) where
    pub due-passed : (says : Saying) (pass after : Pass) → acts_in arrival item ≡ true → after ≡ after_act publication arrival says pass item (row_at rows (key_of_item item)) → after ≡ after_item publication rows arrival says pass item
    due-passed says pass after due made = rw due made

    pub idle-passed : (says : Saying) (pass : Pass) → acts_in arrival item ≡ false → pass ≡ after_item publication rows arrival says pass item
    idle-passed says pass idle = rw idle refl

    pub due-asked : (old new : List ℕ) → acts_in arrival item ≡ true → AskedSome old new (option_to_list (question_at publication arrival item (row_at rows (key_of_item item)))) → AskedSome old new (option_to_list (question_in publication rows arrival item))
    due-asked old new due some = rw due some

pub none-asked : (tallies : List ℕ) (questions : List Question) → AskedSome tallies tallies questions
none-asked tallies questions = (0, refl)

pub nothing-grows : (acting : Acting) → Grows acting acting
nothing-grows acting = record { changes = omega arith; one = omega arith; conflicts = omega arith; two = omega arith }
