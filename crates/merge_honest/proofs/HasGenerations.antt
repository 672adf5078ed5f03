-- The rule that an upload has a generation: one is made only where something is unsent, and one generation always fits. Rule 1.
use Rattle.std.specs.List.{fold}
use Rattle.std.specs.Prelude.{Bool, List, None, Ok, Option, Some, [], cond, false, filter, length, max, refl, true, unwrap_or, ℕ, ◌+◌, ◌<◌, ◌==◌, ◌≡◌, ◌≤◌, ◌∷◌}
use Rattle.std.proofs.Common.{arith, subst, sym}
use Rattle.std.proofs.lemmas.Bool.Decides.{nat_tests}
use Rattle.merge_types.specs.RowKeys.{key_cmp}
use Rattle.merge_types.specs.declared.identifiers.SiteId.{SiteId}
use Rattle.merge_types.specs.declared.row_key.RowKey.{RowKey as Key}
use Rattle.merge_gens.specs.Filling as fill
use Rattle.merge_gens.specs.declared.filling.Filling.{Filling}
use Rattle.merge_schema.specs.Valid.{IsValid}
use Rattle.merge_schema.specs.declared.publication.Publication.{Publication}
use Rattle.merge_batch.specs.declared.refusal.Refusal.{Refusal}
use Rattle.merge_batch.specs.declared.request.Upload.{Upload}
use Rattle.merge_model.specs.Judge.ByHistory.{by_history, by_made, changed_between_by_made, is_between_made, with_change_of}
use Rattle.merge_model.specs.Failing.{Slips}
use Rattle.merge_model.specs.History.{History, MadeChange, made_at}
use Rattle.merge_model.specs.Judge.{SubscriberJudge}
use Rattle.merge_model.specs.Tables.Keys.{row_at}
use Rattle.merge_model.specs.History.Model.{Model}
use Rattle.merge_model.specs.Tables.Refusals.{unless}
use Rattle.merge_model.specs.Failing.Runs.{model_behind}
use Rattle.merge_model.specs.Subscriber.Sending.{make_upload, sending_refusal, unsent_rows, upload_sent}
use Rattle.merge_model.specs.Subscriber.{subscriber_at_moment, subscriber_closed, subscriber_last_closed}
use Rattle.merge_model.specs.Tables.{SubscriberTables}
use Rattle.merge_model.specs.World.{Saying, World, subscriber_at}
use Rattle.merge_model.specs.declared.event.Event.{Event}
use Rattle.merge_laws.proofs.Runs.Ground.{Ground, grounded-always}
use Rattle.merge_laws.proofs.Walking.{step-keeps}
use Rattle.merge_honest.specs.Filled.{AreFilled, HasGeneration, IsFilled, count_in}
use Rattle.merge_honest.proofs.Batches.{batch-goes}
use Rattle.merge_honest.proofs.Filled.{counts-more, filled-begins, filled-keeps}
use Rattle.merge_honest.proofs.RowCounts.{put-short}
use Rattle.merge_honest.proofs.UploadWalk.{AllUploads, upload-step}

-- There are no more rows than changes.

rows-few : (changes : List MadeChange) (rows : List (Key × ℕ)) → length (fold with_change_of rows changes) ≤ length rows + length changes
rows-few [] rows = omega arith
rows-few (c ∷ changes) rows =
    let first = put-short key_cmp c.key (max c.generation (unwrap_or (row_at rows c.key) 0)) rows in
    let rest = rows-few changes (with_change_of rows c) in
    omega (arith, first, rest)

-- the changes of one generation
kept-step : (b other : Bool) (c : MadeChange) (kept : List MadeChange) (count : ℕ) → (b ≡ true → other ≡ true) → length kept ≤ count → length (cond b (c ∷ kept) kept) ≤ cond other 1 0 + count
kept-step true true c kept count same up = omega (arith, up)
kept-step true false c kept count same up = absurd (let no : false ≡ true = same refl in cc)
kept-step false true c kept count same up = omega (arith, up)
kept-step false false c kept count same up = omega (arith, up)

between-few : (from : ℕ) (made : List MadeChange) → length (filter (is_between_made from (from + 1)) made) ≤ count_in (from + 1) made
between-few from [] = omega arith
between-few from (c ∷ made) =
    let step = kept-step (is_between_made from (from + 1) c) (c.generation == from + 1) c (filter (is_between_made from (from + 1)) made) (count_in (from + 1) made) (λ is. grind (arith, nat_tests, is)) (between-few from made) in
    let more = counts-more (from + 1) c made in
    omega (arith, step, more)

next-few : (h : History) (site : SiteId) (from : ℕ) → length (changed_between_by_made h site from (from + 1)) ≤ count_in (from + 1) (made_at h site.0)
next-few h site from =
    let rows = rows-few (filter (is_between_made from (from + 1)) (made_at h site.0)) [] in
    let changes = between-few from (made_at h site.0) in
    omega (arith, rows, changes)

-- What is made.

made-is : (refusal : Option Refusal) (rows : List (Key × ℕ)) (x made : SubscriberTables × Upload) → (let found : Option (SubscriberTables × Upload) = elim rows [ [] ↦ None | row ∷ rest ↦ Some x ] in unless refusal found) ≡ Ok (Some made) → (1 ≤ length rows) × (x ≡ made)
made-is (Some why) rows x made e = absurd (grind (arith, e))
made-is None [] x made e = absurd (grind (arith, e))
made-is None (row ∷ rest) x made e = (omega arith, cc)

closes-behind : (filling : Filling) (received : ℕ) → received ≤ filling.last_closed → (received ≡ filling.last_closed → 1 ≤ filling.filled) → received < (fill.filling_after_close filling).last_closed
closes-behind filling received up some = elim (filling.filled == 0) as (λ (b : Bool). (filling.filled == 0) ≡ b → received < (fill.filling_after_close filling).last_closed) [
  | true ↦ (λ e. (let none : filling.filled ≡ 0 = grind (arith, nat_tests, e) in
      let differs : received ≡ filling.last_closed → ⊥ = λ same. (let one = some same in omega (arith, one, none)) in grind (arith, nat_tests, e, up, differs)))
  | false ↦ (λ e. grind (arith, nat_tests, e, up))
] refl

module _ (publication : Publication) (w : World) (h : History) (g : Ground publication w h) (f : AreFilled w h) (site : SiteId) (s : SubscriberTables) (at : subscriber_at w site ≡ Some s) where
  abbrev pub judge : SubscriberJudge
  judge = by_made h s.site

  own-filled : IsFilled (made_at h s.site.0) s
  own-filled = subst (λ (n : ℕ). IsFilled (made_at h n) s) (sym (g.received.subscribers site.0 s at).keyed) (f site.0 s at)

  -- something is unsent: it stands in a closed generation, or the open one has an entry
  entered-some : 1 ≤ length (unsent_rows judge s) → s.received ≡ subscriber_last_closed s → 1 ≤ s.gens.filling.filled
  entered-some some same =
      let rows : length (unsent_rows judge s) ≤ count_in (subscriber_last_closed s + 1) (made_at h s.site.0) = subst (λ (from : ℕ). length (changed_between_by_made h s.site from (subscriber_last_closed s + 1)) ≤ count_in (subscriber_last_closed s + 1) (made_at h s.site.0)) (sym same) (next-few h s.site (subscriber_last_closed s)) in
      let entered = own-filled.entered in
      omega (arith, some, rows, entered)

  upload-goes : 1 ≤ length (unsent_rows judge s) → HasGeneration (upload_sent judge (subscriber_closed (subscriber_at_moment w.moment s))).1
  upload-goes some =
      let few = next-few h s.site s.received in
      let limit = own-filled.few (s.received + 1) in
      batch-goes (λ (to : ℕ). length (judge.changed_between s.received to)) s.received (fill.filling_after_close s.gens.filling).last_closed
      (closes-behind s.gens.filling s.received (g.received.subscribers site.0 s at).own (entered-some some)) (omega (arith, few, limit))

  pub makes-generation : (made : SubscriberTables × Upload) → make_upload judge w.moment s ≡ Ok (Some made) → HasGeneration made.1
  makes-generation made is =
      let both = made-is (sending_refusal s) (unsent_rows judge s) (upload_sent judge (subscriber_closed (subscriber_at_moment w.moment s))) made is in
      subst (λ (x : SubscriberTables × Upload). HasGeneration x.1) both.1 (upload-goes both.0)

-- Every list of events.

abbrev pub Begun : World → History → Type 0
Begun w h = AreFilled w h × AllUploads HasGeneration w

pub begun-always : (publication : Publication) (says : Saying) (tallies : List ℕ) (slips : Slips) (events : List Event) → (resolvers : ℕ) × IsValid resolvers publication
    → (let m : Model = model_behind publication says tallies slips events in Begun m.world m.history)
begun-always publication says tallies slips events valid =
    (grounded-always publication says tallies slips events valid Begun
    (λ m action g b. (
      step-keeps publication says (Ground publication) AreFilled (λ w h ground. ground.received) (filled-keeps publication says) m action g b.0,
      upload-step HasGeneration publication says (by_history m.history) m.world b.1 (λ site s at made is. makes-generation publication m.world m.history g b.0 site s at made is) action,
    ))
    (λ w h others b. b) (filled-begins publication tallies, tt)).1
