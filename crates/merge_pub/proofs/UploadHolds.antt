-- What an upload's items leave is sound.
use Rattle.std.specs.List.{AllByRecursion}
use Rattle.std.specs.Prelude.{◌≡◌, ◌&&◌, ◌+◌, ◌==◌, ◌∷◌, ◌<◌, ◌≤◌, ◌^◌, ℕ, Bool, true, false, List, [], Option, Some, None, All, filter, length, map, nat_le, refl, unwrap_or}
use Rattle.std.specs.List.{list_all}
use Rattle.std.proofs.Common.{arith, sym, ap, ◌∙◌, subst}
use Rattle.std.proofs.lemmas.Bool.{and_parts}
use Rattle.std.proofs.lemmas.Bool.Decides.{nat_tests}
use Rattle.std.proofs.lemmas.List.Elements.{All-weaker}
use Rattle.merge_types.specs.declared.identifiers.Dot.{Dot}
use Rattle.merge_types.specs.declared.identifiers.Moment.{Moment}
use Rattle.merge_lineage.specs.Lineage.{number_at, number_of}
use Rattle.merge_units.specs.declared.result.Decision.{Decision}
use Rattle.merge_conflict.specs.declared.row.ConflictRow.{ConflictRow}
use Rattle.merge_schema.specs.declared.publication.Publication.{Publication}
use Rattle.merge_batch.specs.Known.{Known, seen_of}
use Rattle.merge_batch.specs.Laws.{IsValidItem, IsValidUpload}
use Rattle.merge_batch.specs.Uploads.{was_seen}
use Rattle.merge_batch.specs.declared.request.Upload.{Upload}
use Rattle.merge_batch.specs.declared.request.UploadItem.{UploadItem}
use Rattle.merge_model.specs.Publisher.Acts.{Act, acts_of}
use Rattle.merge_model.specs.Judge.ByNumbers.{by_numbers}
use Rattle.merge_model.specs.Publisher.{at_moment, later}
use Rattle.merge_model.specs.Tables.{PublisherTables}
use Rattle.merge_model.specs.World.{Saying}
use Rattle.merge_steps.specs.Fits.{ItemFits}
use Rattle.merge_types.specs.declared.row_key.RowKey.{RowKey as Key}
use Rattle.merge_units.specs.declared.site_row.PublisherRow.{PublisherRow}
use Rattle.merge_resolve.specs.declared.asking.Question.{Question}
use Rattle.merge_schema.specs.Valid.{IsValid}
use Rattle.merge_steps.specs.Keeps.{FitsHere, KeepsRules, RowFits}
use Rattle.merge_pub.specs.Uploaded.{IsActed, arrival_of, known_in, none_acted}
use Rattle.merge_steps.specs.Uploading.{AskedSome, KeepsFits, acts_in, after_items, pass_at, questions_in}
use Rattle.merge_steps.specs.declared.acting.Acting.{Acting}
use Rattle.merge_steps.specs.declared.acting.Arrival.{Arrival}
use Rattle.merge_pub.proofs.UploadActed.{all-numbered, fewer, rises-from, rises-kept, rows-once, versions-few}
use Rattle.merge_pub.proofs.UploadMade.{acting-whole, the_acts, the_decisions}
use Rattle.merge_pub.proofs.UploadPass.{with_acts_from}

-- An item that is valid fits.

seen-zero : (known : Known) (uploader : ℕ) (dot : Dot) (b : Bool) → (dot.site.0 == 0) ≡ b → was_seen known uploader dot ≡ true → (dot.site.0 == 0) ≡ true → dot.number ≤ known.changes
seen-zero known uploader dot true is seen zero = grind (arith, nat_tests, rw is at seen)
seen-zero known uploader dot false is seen zero = absurd (cc (is, zero))

honest-below : (known : Known) (uploader : ℕ) (dots : List Dot) → list_all (was_seen known uploader) dots ≡ true → number_of dots 0 ≤ known.changes
honest-below known uploader [] honest = omega arith
honest-below known uploader (dot ∷ dots) honest =
    let parts = and_parts (was_seen known uploader dot) (list_all (was_seen known uploader) dots) honest in
    let by : (b : Bool) → (dot.site.0 == 0) ≡ b → number_of (dot ∷ dots) 0 ≤ known.changes = λ b. elim b as (λ c. (dot.site.0 == 0) ≡ c → number_of (dot ∷ dots) 0 ≤ known.changes) [
      | true ↦ λ yes. rw yes (seen-zero known uploader dot true yes parts.0 yes)
      | false ↦ λ no. rw no (honest-below known uploader dots parts.1)
    ] in by (dot.site.0 == 0) refl

pub item-fits : (publication : Publication) (known : Known) (m : Upload) (item : UploadItem) → IsValidItem publication known m item → ItemFits publication known.changes item
item-fits publication known m item valid = record { fits = valid.fits; known = honest-below known m.site.0 item.version.lineage valid.honest }

pub items-fit : (publication : Publication) (p : PublisherTables) (m : Upload) → IsValidUpload publication (known_in publication p) m → All (ItemFits publication p.changes) m.items
items-fit publication p m valid = All-weaker (IsValidItem publication (known_in publication p) m) (ItemFits publication p.changes) (item-fits publication (known_in publication p) m) m.items valid.items

-- All together.

module _ (publication : Publication) (now : Moment) (m : Upload) (p : PublisherTables) (says : Saying) (tallies : List ℕ) (valid : IsValidUpload publication (known_in publication p) m) where
  whole-holds : KeepsFits publication (none_acted p) (with_acts_from publication now m p says (none_acted p) (the_acts publication now m p says tallies))
      → p.changes ≤ (with_acts_from publication now m p says (none_acted p) (the_acts publication now m p says tallies)).changes
      → IsActed publication p (with_acts_from publication now m p says (none_acted p) (the_acts publication now m p says tallies))
  whole-holds keeps rises =
      let arrival : Arrival = arrival_of now m p in
      let acts : List Act = the_acts publication now m p says tallies in
      let numbered = all-numbered publication m.site (later now p.latest) acts p.conflict_count in
      let due : List UploadItem = filter (acts_in arrival) m.items in
      record {
        fits = keeps tt;
        once = rows-once (by_numbers p) m.site (at_moment now p) due (rises-kept (by_numbers p) m.site (at_moment now p) (acts_in arrival) m.items (rises-from (by_numbers p) m.site (at_moment now p) m.items valid.rows_rise)) (p.changes + 1) (the_decisions publication now m p says tallies);
        few = omega (arith, versions-few (by_numbers p) m.site (at_moment now p) due (p.changes + 1) (the_decisions publication now m p says tallies), fewer (acts_in arrival) m.items, valid.few_items);
        changes = rises;
        conflicts = omega arith;
        rising = numbered.rising;
        numbers = numbered.up_to;
      }

pub acted-holds : (publication : Publication) (now : Moment) (m : Upload) (p : PublisherTables) (says : Saying) (tallies after : List ℕ) (arrival : Arrival) (acting : Acting) → arrival ≡ arrival_of now m p
    → pass_at acting after ≡ after_items publication p.rows arrival says (pass_at (none_acted p) tallies) m.items → IsValidUpload publication (known_in publication p) m
    → KeepsFits publication (none_acted p) acting → p.changes ≤ acting.changes → IsActed publication p acting
acted-holds publication now m p says tallies after arrival acting is pass valid keeps rises =
    let whole : acting ≡ with_acts_from publication now m p says (none_acted p) (the_acts publication now m p says tallies) =
    acting-whole publication now m p says tallies acting after (subst (λ (a : Arrival). pass_at acting after ≡ after_items publication p.rows a says (pass_at (none_acted p) tallies) m.items) is pass) in
    subst (IsActed publication p) (sym whole) (whole-holds publication now m p says tallies valid (subst (KeepsFits publication (none_acted p)) whole keeps) (subst (λ (a : Acting). p.changes ≤ a.changes) whole rises))

-- The same, where a publisher's parts stand for what was said of it.

module _ (there publication : Publication) (start : Acting) (p : PublisherTables) (here : there ≡ publication) (is : start ≡ none_acted p) where
  pub rows-at : (rows : List (Key × PublisherRow)) → rows ≡ p.rows → KeepsRules publication p → AllByRecursion (RowFits there start.changes) rows
  rows-at rows same keeps =
      subst (λ (x : Publication). AllByRecursion (RowFits x start.changes) rows) (sym here)
      (subst (λ (a : Acting). AllByRecursion (RowFits publication a.changes) rows) (sym is)
      (subst (λ (r : List (Key × PublisherRow)). AllByRecursion (RowFits publication p.changes) r) (sym same) keeps.rows))

  pub items-at : (m : Upload) (items : List UploadItem) → items ≡ m.items → IsValidUpload publication (known_in publication p) m → All (ItemFits there start.changes) items
  items-at m items sent valid =
      subst (λ (x : Publication). All (ItemFits x start.changes) items) (sym here)
      (subst (λ (a : Acting). All (ItemFits publication a.changes) items) (sym is)
      (subst (λ (xs : List UploadItem). All (ItemFits publication p.changes) xs) (sym sent) (items-fit publication p m valid)))

  pub valid-at : (count : ℕ) → IsValid count publication → (n : ℕ) × IsValid n there
  valid-at count valid = (count, subst (IsValid count) (sym here) valid)

  pub changes-at : p.changes < 2 ^ 61 → start.changes < 2 ^ 61
  changes-at low = subst (λ (a : Acting). a.changes < 2 ^ 61) (sym is) low

  pub conflicts-at : p.conflict_count < 2 ^ 61 → start.conflict_count < 2 ^ 61
  conflicts-at low = subst (λ (a : Acting). a.conflict_count < 2 ^ 61) (sym is) low

  pub passed-at : (rows : List (Key × PublisherRow)) (arrival : Arrival) (says : Saying) (first after : List ℕ) (acting : Acting) (m : Upload) (items : List UploadItem) → rows ≡ p.rows → items ≡ m.items
      → pass_at acting after ≡ after_items there rows arrival says (pass_at start first) items → pass_at acting after ≡ after_items publication p.rows arrival says (pass_at (none_acted p) first) m.items
  passed-at rows arrival says first after acting m items same sent made =
      made
      ∙ ap (λ (x : Publication). after_items x rows arrival says (pass_at start first) items) here
      ∙ ap (λ (r : List (Key × PublisherRow)). after_items publication r arrival says (pass_at start first) items) same
      ∙ ap (λ (a : Acting). after_items publication p.rows arrival says (pass_at a first) items) is
      ∙ ap (λ (xs : List UploadItem). after_items publication p.rows arrival says (pass_at (none_acted p) first) xs) sent

  pub keeps-fits-at : (acting : Acting) → KeepsFits there start acting → KeepsFits publication (none_acted p) acting
  keeps-fits-at acting keeps = subst (λ (x : Publication). KeepsFits x (none_acted p) acting) here (subst (λ (a : Acting). KeepsFits there a acting) is keeps)

  pub rises-at : (acting : Acting) → start.changes ≤ acting.changes → p.changes ≤ acting.changes
  rises-at acting rises = subst (λ (a : Acting). a.changes ≤ acting.changes) is rises

  pub asked-at : (rows : List (Key × PublisherRow)) (arrival : Arrival) (first after : List ℕ) (m : Upload) (items : List UploadItem) → rows ≡ p.rows → items ≡ m.items
      → AskedSome first after (questions_in there rows arrival items) → AskedSome first after (questions_in publication p.rows arrival m.items)
  asked-at rows arrival first after m items same sent some =
      subst (λ (qs : List Question). AskedSome first after qs)
      (ap (λ (x : Publication). questions_in x rows arrival items) here
      ∙ ap (λ (r : List (Key × PublisherRow)). questions_in publication r arrival items) same
      ∙ ap (λ (xs : List UploadItem). questions_in publication p.rows arrival xs) sent) some
