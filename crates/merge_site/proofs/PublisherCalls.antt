-- A call of the publisher, by the step that was worked out for it and by what became of that.
use Rattle.std.proofs.Common.{◌≡◌, ◌∙◌, ◌||◌, ℕ, Bool, true, false, nat_lt, sym, ap, subst}
use Rattle.std.specs.Prelude.{Err, IfOk, Ok, Option, Result}
use Rattle.merge_types.specs.declared.identifiers.Moment.{Moment}
use Rattle.merge_schema.specs.declared.publication.Publication.{Publication}
use Rattle.merge_batch.specs.declared.refusal.Refusal.{Refusal}
use Rattle.merge_model.specs.World.Calls.{Called, RefusesOnlyAs, always_commits, is_later}
use Rattle.merge_model.specs.Publisher.{close_generation}
use Rattle.merge_model.proofs.Failing.Quiet.{closings-quiet}
use Rattle.merge_model.specs.Publisher.PublisherPurge.{purge}
use Rattle.merge_model.specs.Tables.{PublisherTables}
use Rattle.merge_model.specs.declared.outcome.Forgotten.{Forgotten}
use Rattle.merge_ports.specs.Entries.{Map}
use Rattle.merge_pub.specs.After.{after}
use Rattle.merge_pub.specs.Held.{Held, publication_of, tables_of}
use Rattle.merge_pub.specs.PurgeDrafts.{after_purge}
use Rattle.merge_steps.specs.declared.changes.Draft.{Draft}
use Rattle.merge_pub.specs.declared.purging.PurgeDraft.{PurgeDraft}
use Rattle.merge_world.specs.Views.{PublisherView}
use Rattle.merge_site.specs.Calls.{IsRefused, WorkedOut}
use Rattle.merge_site.specs.Publishers.{IsKeptPublisher, tables_after_draft}
use Rattle.merge_site.proofs.Called.{none-filled}

abbrev pub view_of : Held → ℕ → Option Map → PublisherView
view_of h faults told = record { publication = publication_of h; tables = tables_of h; faults = faults; told = told }

-- what was kept still is, once a draft was made
pub still-kept : (h now : Held) (told : Option Map) → tables_of now ≡ tables_of h → IsKeptPublisher (tables_of h) told → IsKeptPublisher (tables_of now) told
still-kept h now told same kept = rw same kept

module _ {A : Type 0} {kept : Option Map} (old : PublisherView) (h now new : Held) (before after' : ℕ) (seen : view_of h before kept ≡ old) (same : tables_of now ≡ tables_of h) where
  -- by what is seen of it
  pub seen-called : (by : PublisherView → Result (PublisherTables × A) Refusal) (of : PublisherView → A → Bool) (commits : Bool) (worked : Result (Draft × A) Refusal) (result : Result A Refusal)
      → IfOk worked (λ made. by (view_of h before kept) ≡ Ok (tables_after_draft (tables_of h) made))
      → ((why : Refusal) → worked ≡ Err why → IsRefused (by (view_of h before kept)) why)
      → ((b : Result (PublisherTables × A) Refusal) (o : A → Bool) → WorkedOut (tables_after_draft (tables_of now)) b worked → IfOk worked (λ made. commits ≡ true → o made.1 ≡ true) → Called b o (tables_of now) (tables_of new) before after' result)
      → IfOk worked (λ made. commits ≡ true → of (view_of h before kept) made.1 ≡ true)
      → Called (by old) (of old) old.tables (tables_of new) old.faults after' result
  seen-called by of commits worked result made refused called makes =
      let b = by (view_of h before kept) in
      let out : WorkedOut (tables_after_draft (tables_of now)) b worked = record { done = subst (λ (t : PublisherTables). IfOk worked (λ d. b ≡ Ok (tables_after_draft t d))) (sym same) made; refused = refused } in
      subst (λ (v : PublisherView). Called (by v) (of v) v.tables (tables_of new) v.faults after' result) seen
      (subst (λ (t : PublisherTables). Called b (of (view_of h before kept)) t (tables_of new) before after' result) same (called b (of (view_of h before kept)) out makes))

  pub pub-called : (by : Publication → PublisherTables → Result (PublisherTables × A) Refusal) (of : PublisherTables → A → Bool) (commits : Bool) (worked : Result (Draft × A) Refusal) (result : Result A Refusal)
      → IfOk worked (λ made. by (publication_of h) (tables_of h) ≡ Ok (tables_after_draft (tables_of h) made))
      → ((why : Refusal) → worked ≡ Err why → IsRefused (by (publication_of h) (tables_of h)) why)
      → ((b : Result (PublisherTables × A) Refusal) (o : A → Bool) → WorkedOut (tables_after_draft (tables_of now)) b worked → IfOk worked (λ made. commits ≡ true → o made.1 ≡ true) → Called b o (tables_of now) (tables_of new) before after' result)
      → IfOk worked (λ made. commits ≡ true → of (tables_of h) made.1 ≡ true)
      → Called (by old.publication old.tables) (of old.tables) old.tables (tables_of new) old.faults after' result
  pub-called by of = seen-called (λ (v : PublisherView). by v.publication v.tables) (λ (v : PublisherView). of v.tables)

-- a closing that commits nothing changes nothing
pub closing-still : (h now : Held) (moment : Moment) (worked : Result (Draft × ℕ) Refusal) (commits : Bool) → tables_of now ≡ tables_of h → commits ≡ (is_later moment (tables_of h).latest || nat_lt 0 (tables_of h).gens.filling.filled)
    → IfOk worked (λ made. close_generation moment (tables_of h) ≡ Ok (tables_after_draft (tables_of h) made)) → IfOk worked (λ made. commits ≡ false → after made.0.changes (tables_of now) ≡ tables_of now)
closing-still h now moment (Err why) commits same is made = tt
closing-still h now moment (Ok worked) commits same is made = λ quiet.
    subst (λ (t : PublisherTables). after worked.0.changes t ≡ t) (sym same) (closings-quiet moment (tables_of h) (tables_after_draft (tables_of h) worked) made (sym is ∙ quiet))

-- a purge that was worked out and made
pub purge-made : {kept : Option Map} (old : PublisherView) (h now new : Held) (before after' : ℕ) (moment : Moment) → view_of h before kept ≡ old → tables_of now ≡ tables_of h → after' ≡ before → (d : PurgeDraft) (forgotten : Forgotten) → purge (publication_of h) moment (tables_of h) ≡ (after_purge d (tables_of h), forgotten) → tables_of new ≡ after_purge d (tables_of now)
    → Called (Ok (purge old.publication moment old.tables)) always_commits old.tables (tables_of new) old.faults after' (Ok forgotten)
purge-made old h now new before after' moment seen same still d forgotten made settled =
    let is : tables_of new ≡ after_purge d (tables_of h) = settled ∙ ap (λ (t : PublisherTables). after_purge d t) same in
    subst (λ (v : PublisherView). Called (Ok (purge v.publication moment v.tables)) always_commits v.tables (tables_of new) v.faults after' (Ok forgotten)) seen
    (ap (λ (done : PublisherTables × Forgotten). (let r : Result (PublisherTables × Forgotten) Refusal = Ok done in r)) (made ∙ ap (λ (t : PublisherTables). (let done : PublisherTables × Forgotten = (t, forgotten) in done)) (sym is)), still)

-- and takes no memory, so it is refused as the definition refuses it
pub closing-nothing : {kept : Option Map} (old : PublisherView) (h : Held) (before : ℕ) → view_of h before kept ≡ old → (moment : Moment) (commits : Bool) (worked : Result (Draft × ℕ) Refusal) (result : Result ℕ Refusal)
    → commits ≡ (is_later moment (tables_of h).latest || nat_lt 0 (tables_of h).gens.filling.filled)
    → ((tables_of h).gens.filling.filled ≡ 0 → RefusesOnlyAs (close_generation moment (tables_of h)) worked) → (commits ≡ false → RefusesOnlyAs worked result)
    → (is_later moment old.tables.latest || nat_lt 0 old.tables.gens.filling.filled) ≡ false → RefusesOnlyAs (close_generation moment old.tables) result
closing-nothing old h before seen moment commits worked result is empty fails quiet =
    let still : (is_later moment (tables_of h).latest || nat_lt 0 (tables_of h).gens.filling.filled) ≡ false =
    subst (λ (v : PublisherView). (is_later moment v.tables.latest || nat_lt 0 v.tables.gens.filling.filled) ≡ false) (sym seen) quiet in
    λ why was. subst (λ (v : PublisherView). close_generation moment v.tables ≡ Err why) seen
    (empty (none-filled (is_later moment (tables_of h).latest) (tables_of h).gens.filling.filled still) why (fails (is ∙ still) why was))
