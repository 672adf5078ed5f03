-- Local changes by what they name, as events.
use Rattle.std.proofs.Common.{◌≡◌, ℕ, true, false, List, Result, Ok, Err, refl, ap, sym, subst, ◌∙◌, inl, inr}
use Rattle.merge_types.specs.declared.changes.Change.{Change}
use Rattle.merge_types.specs.declared.identifiers.RowId.{RowId}
use Rattle.merge_types.specs.declared.identifiers.SiteId.{SiteId}
use Rattle.merge_schema.specs.declared.publication.Publication.{Publication}
use Rattle.merge_batch.specs.declared.refusal.Refusal.{Refusal}
use Rattle.merge_batch.specs.declared.refusal.Refusal.TheVariants as refusal
use Rattle.merge_model.specs.World.Events.{answered_change, change_answer, happens, is_site, where_site}
use Rattle.merge_model.specs.Failing.{Faulty, faulty}
use Rattle.merge_model.specs.World.Naming.{delete_by, insert_by, update_by}
use Rattle.merge_model.specs.Failing.Reach.{stepping}
use Rattle.merge_model.specs.World.Steps.{Make}
use Rattle.merge_model.specs.World.{Saying, World}
use Rattle.merge_model.specs.declared.answer.Answer.{Answer}
use Rattle.merge_model.specs.declared.answer.Answer.TheVariants.{Refused}
use Rattle.merge_model.specs.declared.event.Event.{Event}
use Rattle.merge_model.specs.declared.event.Event.TheVariants as event
use Rattle.merge_model.specs.declared.event.NamedValue.{NamedValue}
use Rattle.merge_model.specs.declared.outcome.Outcome.{Outcome}
use Rattle.merge_model.specs.declared.outcome.Outcome.TheVariants.{Refuses}
use Rattle.merge_world.proofs.Happenings.{does-happen-as, looks-happen, looks-want, so-refused, unknown-site, where-if}
use Rattle.merge_world.proofs.Locals.{wants-room}
use Rattle.merge_world.specs.Happenings.{ChangeIsAnswered, Happened, seconds_of}
use Rattle.merge_world.specs.Naming.{IsUnnamed}
use Rattle.merge_world.specs.Views.{Does, HandedView, SitesView, world_of}

-- An event that names a change.
module _ (e : Event) (site : SiteId) (named : Result Change (List ℕ)) (u : SitesView) (none : seconds_of e ≡ 0)
    (same : (says : Saying) (w : Faulty World) → happens u.publication (stepping u.publication says) w e
    ≡ where_site u.publication (stepping u.publication says) site w (λ (v : Faulty World). answered_change u.publication (stepping u.publication says) site v named)) where
  abbrev change-of : Saying → Faulty World → Result Change (List ℕ) → Faulty World × Answer
  change-of says w by = answered_change u.publication (stepping u.publication says) site w by

  here : is_site u.publication site ≡ true → (by : Result Change (List ℕ)) → named ≡ by → (says : Saying) (w : Faulty World) → happens u.publication (stepping u.publication says) w e ≡ change-of says w by
  here is by so says w = same says w ∙ (ap (where-if u.publication says site w (λ (v : Faulty World). change-of says v named)) is ∙ ap (change-of says w) so)

  change-happens : is_site u.publication site ≡ true → (change : Change) → named ≡ Ok change → (v : SitesView) (outcome : Outcome) → Does (Make site change) u v outcome → (h : HandedView) → Happened e u v h h (change_answer change outcome)
  change-happens is change so v outcome does h = does-happen-as e (Make site change) (change_answer change) u v outcome none (here is (Ok change) so) does h

  pub change-made : is_site u.publication site ≡ true → (change : Change) → named ≡ Ok change → (v : SitesView) (answer : Answer) → ChangeIsAnswered site change u v answer → (h : HandedView) → Happened e u v h h answer
  change-made is change so v answer changed h = subst (λ (a : Answer). Happened e u v h h a) (sym changed.answered) (change-happens is change so v changed.outcome changed.does h)

  change-wants : is_site u.publication site ≡ true → (by : Result Change (List ℕ)) → named ≡ by → (h : HandedView) → Happened e u u h h (Refused refusal.NoMemory)
  change-wants is (Ok change) so h = change-happens is change so u (Refuses refusal.NoMemory) (wants-room (Make site change) refl u u refl) h
  change-wants is (Err name) so h = looks-want e u (Refused (refusal.UnknownName name)) none (λ says w. Refused (refusal.UnknownName name)) (λ says tallies l. refl) (λ says tallies l. here is (Err name) so says (faulty (world_of u tallies) l)) h

  pub change-unnamed : is_site u.publication site ≡ true → (why : Refusal) → IsUnnamed named why → (h : HandedView) → Happened e u u h h (Refused why)
  change-unnamed is why (inl wanting) h = subst (λ (r : Refusal). Happened e u u h h (Refused r)) (sym wanting) (change-wants is named refl h)
  change-unnamed is why (inr (name, wrong, so)) h = subst (λ (r : Refusal). Happened e u u h h (Refused r)) (sym wrong)
      (looks-happen e u (Refused (refusal.UnknownName name)) none (λ says w. Refused (refusal.UnknownName name)) (λ says tallies l. refl) (λ says tallies l. here is (Err name) so says (faulty (world_of u tallies) l)) h)

  pub change-nowhere : is_site u.publication site ≡ false → (h : HandedView) → Happened e u u h h (Refused (refusal.UnknownSite site))
  change-nowhere off h = unknown-site e u site none
      (λ says tallies l. same says (faulty (world_of u tallies) l) ∙ ap (where-if u.publication says site (faulty (world_of u tallies) l) (λ (v : Faulty World). change-of says v named)) off) h

-- The events by name, where the publication and the values were handed on.
module _ (u : SitesView) (site : SiteId) (p : Publication) (same : p ≡ u.publication) (name : List ℕ) where
  module _ (values given : List NamedValue) (all : given ≡ values) where
    insert-same : insert_by p name given ≡ insert_by u.publication name values
    insert-same = ap (λ (q : Publication). insert_by q name given) same ∙ ap (λ (l : List NamedValue). insert_by u.publication name l) all

    pub insert-made : is_site u.publication site ≡ true → (change : Change) → insert_by p name given ≡ Ok change → (v : SitesView) (answer : Answer) → ChangeIsAnswered site change u v answer → (h : HandedView)
        → Happened (event.Insert site name values) u v h h answer
    insert-made is change so v answer changed h = change-made (event.Insert site name values) site (insert_by u.publication name values) u refl (λ says w. refl) is change (sym insert-same ∙ so) v answer changed h

    pub insert-unnamed : is_site u.publication site ≡ true → (why : Refusal) → IsUnnamed (insert_by p name given) why → (h : HandedView) → Happened (event.Insert site name values) u u h h (Refused why)
    insert-unnamed is why wrong h = change-unnamed (event.Insert site name values) site (insert_by u.publication name values) u refl (λ says w. refl) is why
        (subst (λ (r : Result Change (List ℕ)). IsUnnamed r why) insert-same wrong) h

    module _ (row : RowId) where
      update-same : update_by p name row given ≡ update_by u.publication name row values
      update-same = ap (λ (q : Publication). update_by q name row given) same ∙ ap (λ (l : List NamedValue). update_by u.publication name row l) all

      pub update-made : is_site u.publication site ≡ true → (change : Change) → update_by p name row given ≡ Ok change → (v : SitesView) (answer : Answer) → ChangeIsAnswered site change u v answer → (h : HandedView)
          → Happened (event.Update site name row values) u v h h answer
      update-made is change so v answer changed h = change-made (event.Update site name row values) site (update_by u.publication name row values) u refl (λ says w. refl) is change (sym update-same ∙ so) v answer changed h

      pub update-unnamed : is_site u.publication site ≡ true → (why : Refusal) → IsUnnamed (update_by p name row given) why → (h : HandedView) → Happened (event.Update site name row values) u u h h (Refused why)
      update-unnamed is why wrong h = change-unnamed (event.Update site name row values) site (update_by u.publication name row values) u refl (λ says w. refl) is why
          (subst (λ (r : Result Change (List ℕ)). IsUnnamed r why) update-same wrong) h

  module _ (row : RowId) where
    delete-same : delete_by p name row ≡ delete_by u.publication name row
    delete-same = ap (λ (q : Publication). delete_by q name row) same

    pub delete-made : is_site u.publication site ≡ true → (change : Change) → delete_by p name row ≡ Ok change → (v : SitesView) (answer : Answer) → ChangeIsAnswered site change u v answer → (h : HandedView)
        → Happened (event.Delete site name row) u v h h answer
    delete-made is change so v answer changed h = change-made (event.Delete site name row) site (delete_by u.publication name row) u refl (λ says w. refl) is change (sym delete-same ∙ so) v answer changed h

    pub delete-unnamed : is_site u.publication site ≡ true → (why : Refusal) → IsUnnamed (delete_by p name row) why → (h : HandedView) → Happened (event.Delete site name row) u u h h (Refused why)
    delete-unnamed is why wrong h = change-unnamed (event.Delete site name row) site (delete_by u.publication name row) u refl (λ says w. refl) is why
        (subst (λ (r : Result Change (List ℕ)). IsUnnamed r why) delete-same wrong) h

module _ (u : SitesView) (site : SiteId) (off : is_site u.publication site ≡ false) (why : Refusal) (is : why ≡ refusal.UnknownSite site) (h : HandedView) where
  pub insert-nowhere : (name : List ℕ) (values : List NamedValue) → Happened (event.Insert site name values) u u h h (Refused why)
  insert-nowhere name values = so-refused (event.Insert site name values) u h site why is (change-nowhere (event.Insert site name values) site (insert_by u.publication name values) u refl (λ says w. refl) off h)

  pub update-nowhere : (name : List ℕ) (row : RowId) (values : List NamedValue) → Happened (event.Update site name row values) u u h h (Refused why)
  update-nowhere name row values = so-refused (event.Update site name row values) u h site why is (change-nowhere (event.Update site name row values) site (update_by u.publication name row values) u refl (λ says w. refl) off h)

  pub delete-nowhere : (name : List ℕ) (row : RowId) → Happened (event.Delete site name row) u u h h (Refused why)
  delete-nowhere name row = so-refused (event.Delete site name row) u h site why is (change-nowhere (event.Delete site name row) site (delete_by u.publication name row) u refl (λ says w. refl) off h)
