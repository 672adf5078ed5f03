-- How a run of `show` ends.
use Rattle.std.proofs.Common.{Err, List, Ok, Option, Result, ap, false, inl, inr, length, refl, subst, sym, true, ℕ, ◌≡◌, ◌≤◌, ◌∙◌}
use Rattle.std.specs.Io.KnownBytes.{Appends}
use Rattle.std.specs.Prelude.{IfSome, OnErr, OnOk}
use Rattle.merge_types.specs.declared.identifiers.SiteId.{SiteId}
use Rattle.merge_ports.specs.Entries.{Map}
use Rattle.merge_ports.specs.Faults.{Rose}
use Rattle.merge_ports.specs.Parts.{AppendsFront}
use Rattle.merge_schema.specs.Answers.{IsAnswer}
use Rattle.merge_schema.specs.declared.publication.Publication.{Publication}
use Rattle.merge_model.specs.World.Events.{is_site}
use Rattle.merge_model.specs.World.Naming.{article_by}
use Rattle.merge_keeper.specs.Start.{Loaded}
use Rattle.merge_world.specs.Views.{SitesView}
use Rattle.merge_command.specs.Shown.{shown_text}
use Rattle.merge_command.specs.declared.stop.Unwritten.{Unwritten}
use Rattle.merge_command.specs.declared.stop.Unwritten.TheVariants as unwritten
use Rattle.merge_program.specs.declared.command.Place.{Place}
use Rattle.merge_program.specs.declared.ending.Ending.{Ending}
use Rattle.merge_program.specs.declared.ending.Ending.TheVariants.{Damaged, NoEvent, NoMemory, NotTaken, ReadFault, Refused, StoreFault, TooLong, UnknownArticle, UnknownSite, Usage}
use Rattle.merge_program.specs.Files.{HasSite, IsNamed, IsUnnamed, IsUnpublished, IsUnread}
use Rattle.merge_program.specs.Opening.{IsUnopened}
use Rattle.merge_program.specs.Runs.{Sides}
use Rattle.merge_program.specs.Showing.{RowsDone, RowsEnd, ShowEnds, ShownBy, ShownEnds}
use Rattle.merge_program.specs.Sited.{IsDamageAt, IsKeptAt, IsReadAt}
use Rattle.merge_program.specs.Stopping.{shown_by}
use Rattle.merge_program.specs.Visits.{IsIdle, Visit}
use Rattle.merge_program.proofs.Changes.{accepted, has-site, refused-file}

-- Rows.

module _ (here : SiteId) (article : ℕ) (old : SitesView) (was written : Option (List ℕ)) (writes refused : ℕ) where
  abbrev Ends : Ending → Type 0
  Ends ending = RowsEnd ending here article old was written writes refused

  ends-by : (r : Result Unit Unwritten) → OnOk r (Appends was written (shown_text old here article)) → OnErr r (AppendsFront was written (shown_text old here article))
      → (r ≡ Err unwritten.NoMemory → written ≡ was) → (r ≡ Err unwritten.WriteFault → Rose writes refused) → Ends (shown_by r)
  ends-by (Ok done) ok part unsaid write = ok
  ends-by (Err unwritten.WriteFault) ok part unsaid write = (part, write refl)
  ends-by (Err unwritten.NoMemory) ok part unsaid write = unsaid refl

  pub rows-end : (ending : Ending) (r : Result Unit Unwritten) → ending ≡ shown_by r → OnOk r (Appends was written (shown_text old here article)) → OnErr r (AppendsFront was written (shown_text old here article))
      → (r ≡ Err unwritten.NoMemory → written ≡ was) → (r ≡ Err unwritten.WriteFault → Rose writes refused) → Ends ending
  rows-end ending r is ok part unsaid write = subst Ends (sym is) (ends-by r ok part unsaid write)

-- A site.

module _ (publication : Publication) (here : SiteId) (article : ℕ) (stored : Option Map) (was written : Option (List ℕ)) (before after : ℕ) (map : Option Map) (writes refused : ℕ) where
  abbrev sides : Sides
  sides = record { was = was; written = written; before = before; after = after }

  abbrev Site : Ending → Type 0
  Site ending = ShownEnds ending publication here article stored sides map writes refused

  done-ends : (ending : Ending) (old : SitesView) → IsReadAt publication here stored old → RowsDone ending here article old sides map writes refused → Site ending
  done-ends StoreFault old read done = absurd done.ends
  done-ends (Damaged table key) old read done = absurd done.ends
  done-ends NoMemory old read done = inr (old, read, done)
  done-ends other old read done = (old, read, done)

  pub shown-ends : (ending : Ending) (old : SitesView) → IsReadAt publication here stored old → RowsEnd ending here article old was written writes refused → IsKeptAt here old map → Site ending
  shown-ends ending old read ends kept = done-ends ending old read (record { ends = ends; kept = kept })

  pub unopened-ends : {T : Type 0} (load : Map → Loaded T) (ending : Ending) → ((table : ℕ) (key : List ℕ) → IsUnopened load (Damaged table key) stored map before after → IsDamageAt publication here stored table key) → IsUnopened load ending stored map before after
      → written ≡ was → Site ending
  unopened-ends load StoreFault damage u same = (u.cause, record { silent = same; same = u.same })
  unopened-ends load (Damaged table key) damage u same = (damage table key u, record { silent = same; same = u.same })
  unopened-ends load NoMemory damage u same = inl (record { silent = same; same = u.same })
  unopened-ends load other damage u same = absurd u.cause

-- the rows of the article that a publication has by this name
pub rows-named : (p publication : Publication) → p ≡ publication → (name : List ℕ) (P : ℕ → Type 0) → ((article : ℕ) → article_by p name ≡ Ok article → P article) → (article : ℕ) → article_by publication name ≡ Ok article → P article
rows-named p publication same name P all article named = all article (ap (λ (q : Publication). article_by q name) same ∙ named)

pub known-of : (p publication : Publication) → p ≡ publication → (site : SiteId) → is_site publication site ≡ true → is_site p site ≡ true
known-of p publication same site known = ap (λ (q : Publication). is_site q site) same ∙ known

pub named-of : (p publication : Publication) → p ≡ publication → (name : List ℕ) → (place : ℕ) × (article_by publication name ≡ Ok place) → (place : ℕ) × (article_by p name ≡ Ok place)
named-of p publication same name (place, named) = (place, ap (λ (q : Publication). article_by q name) same ∙ named)

-- The whole.

module _ (place : Place) (name : List ℕ) (resolvers : ℕ) (v : Visit) where
  abbrev Show : Ending → Type 0
  Show ending = ShowEnds ending place name resolvers v

  abbrev whole : Sides
  whole = record { was = v.was; written = v.written; before = v.old.stores; after = v.new.stores }

  abbrev Named : Publication → ℕ → Type 0
  Named publication article = IsNamed (v.offers.texts place.publication) resolvers place.site name publication article

  named-so : (publication : Publication) (article : ℕ) → Named publication article → (ending : Ending)
      → ShownEnds ending publication place.site article (v.stored place.site place.store) whole (v.kept place.site place.store) v.writes v.refused → Show ending
  named-so publication article named Usage p = absurd p.2.ends
  named-so publication article named (NotTaken line) p = absurd p.2.ends
  named-so publication article named (NoEvent line word) p = absurd p.2.ends
  named-so publication article named (Refused fault) p = absurd p.2.ends
  named-so publication article named ReadFault p = absurd p.2.ends
  named-so publication article named TooLong p = absurd p.2.ends
  named-so publication article named UnknownSite p = absurd p.2.ends
  named-so publication article named UnknownArticle p = absurd p.2.ends
  named-so publication article named NoMemory p = inr (publication, article, named, p)
  named-so publication article named other p = (publication, article, named, p)

  pub named-ends : (publication : Publication) → (article : ℕ) × Named publication article → (ending : Ending)
      → (told : SiteId → List ℕ → Option Map) → told ≡ v.stored → (before : ℕ) → before ≡ v.old.stores
      → ShownBy ending publication place.site name (told place.site place.store) (record { was = v.was; written = v.written; before = before; after = v.new.stores }) (v.kept place.site place.store) v.writes v.refused → Show ending
  named-ends publication (article, named) ending told stored before same p = named-so publication article named ending
      (subst (λ (n : ℕ). ShownEnds ending publication place.site article (v.stored place.site place.store) (record { was = v.was; written = v.written; before = n; after = v.new.stores }) (v.kept place.site place.store) v.writes v.refused) same
      (subst (λ (f : SiteId → List ℕ → Option Map). ShownEnds ending publication place.site article (f place.site place.store) (record { was = v.was; written = v.written; before = before; after = v.new.stores }) (v.kept place.site place.store) v.writes v.refused) stored
      (p article named.named)))

  unnamed-so : (ending : Ending) → IsUnnamed ending (v.offers.texts place.publication) resolvers place.site name v.old.texts v.new.texts → IsIdle v → Show ending
  unnamed-so (Refused fault) p idle = (p, idle)
  unnamed-so ReadFault p idle = (p, idle)
  unnamed-so TooLong p idle = (p, idle)
  unnamed-so UnknownSite p idle = (p, idle)
  unnamed-so UnknownArticle p idle = (p, idle)
  unnamed-so NoMemory p idle = inl idle
  unnamed-so other p idle = absurd p

  pub unnamed-ends : (ending : Ending) → IsUnnamed ending (v.offers.texts place.publication) resolvers place.site name v.old.texts v.new.texts
      → v.written ≡ v.was → v.kept ≡ v.stored → v.behind ≡ v.offers → v.new.links ≡ v.old.links → Show ending
  unnamed-ends ending p silent same unasked unlinked = unnamed-so ending p (record { silent = silent; same = same; unasked = unasked; unlinked = unlinked })

-- What was read, and why not.

module _ (told : Option (List ℕ)) (resolvers : ℕ) (site : SiteId) (name : List ℕ) (before after : ℕ) where
  abbrev Unnamed : Ending → Type 0
  Unnamed ending = IsUnnamed ending told resolvers site name before after

  pub by-file : (ending : Ending) → IsUnread ending told before after → Unnamed ending
  by-file ReadFault p = p
  by-file TooLong p = p
  by-file NoMemory p = tt
  by-file other p = absurd p

  module _ (text : List ℕ) (all : IfSome told (λ (left : List ℕ). text ≡ left)) (fits : length text ≤ 67108864) (slice : List ℕ) (is : slice ≡ text) where
    has : (publication : Publication) → IsAnswer resolvers slice (Ok publication) → is_site publication site ≡ true → HasSite told resolvers site publication
    has publication answer known = has-site told told resolvers site before after before after text all fits slice is publication answer known

    pub by-text : (ending : Ending) → IsUnpublished ending resolvers slice → Unnamed ending
    by-text (Refused fault) p = refused-file told told resolvers site before after before after text all fits slice is fault p
    by-text NoMemory p = tt
    by-text other p = absurd p

    pub by-site : (ending : Ending) (publication : Publication) → IsAnswer resolvers slice (Ok publication) → (ending ≡ UnknownSite) × (is_site publication site ≡ false) → Unnamed ending
    by-site ending publication answer p = subst Unnamed (sym p.0) (record { publication = publication; read = accepted told told resolvers site before after before after text all fits slice is publication answer; unknown = p.1 })

    pub by-article : (ending : Ending) (publication : Publication) → IsAnswer resolvers slice (Ok publication) → is_site publication site ≡ true → (ending ≡ UnknownArticle) × (article_by publication name ≡ Err name) → Unnamed ending
    by-article ending publication answer known p = subst Unnamed (sym p.0) (record { publication = publication; there = has publication answer known; unknown = p.1 })

    pub is-named : (publication : Publication) → IsAnswer resolvers slice (Ok publication) → is_site publication site ≡ true → (article : ℕ) × (article_by publication name ≡ Ok article)
        → (article : ℕ) × IsNamed told resolvers site name publication article
    is-named publication answer known (article, named) = (article, record { there = has publication answer known; named = named })
