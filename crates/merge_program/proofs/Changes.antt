-- How a run of `change` ends.
use Rattle.std.proofs.Common.{Err, List, None, Ok, Option, Result, Some, false, inl, inr, length, refl, subst, sym, true, ℕ, ◌≡◌, ◌≢◌, ◌≤◌}
use Rattle.std.specs.Prelude.{IfSome, OnOk}
use Rattle.merge_types.specs.declared.identifiers.SiteId.{SiteId}
use Rattle.merge_link.specs.Moments.{Moments}
use Rattle.merge_ports.specs.Entries.{Map}
use Rattle.merge_ports.specs.Faults.{Rose}
use Rattle.merge_script.specs.Lines.{lines_of}
use Rattle.merge_schema.specs.Answers.{IsAnswer}
use Rattle.merge_schema.specs.declared.fault.SchemaFault.{SchemaFault}
use Rattle.merge_schema.specs.declared.fault.SchemaFault.TheVariants as schema
use Rattle.merge_schema.specs.declared.publication.Publication.{Publication}
use Rattle.merge_model.specs.World.Events.{is_site}
use Rattle.merge_keeper.specs.Start.{Loaded}
use Rattle.merge_world.specs.Views.{SitesView}
use Rattle.merge_command.specs.Changed.{Changed, ChangedInPart}
use Rattle.merge_command.specs.Taken.{halt_of, is_halt}
use Rattle.merge_command.specs.declared.stop.Stop.{Stop}
use Rattle.merge_command.specs.declared.stop.Stop.TheVariants as stop
use Rattle.merge_command.specs.declared.stop.Unwritten.TheVariants as unwritten
use Rattle.merge_program.specs.declared.command.Place.{Place}
use Rattle.merge_program.specs.declared.ending.Ending.{Ending}
use Rattle.merge_program.specs.declared.ending.Ending.TheVariants.{Damaged, NoMemory, ReadFault, Refused, StoreFault, TooLong, UnknownArticle, UnknownSite, Usage}
use Rattle.merge_program.specs.Changing.{ChangeEnds, LinesDone, LinesEnd, SiteEnds}
use Rattle.merge_program.specs.Files.{HasSite, IsAccepted, IsGiven, IsRefusedFile, IsShort, IsUnaccepted, IsUngiven, IsUnpublished, IsUnread}
use Rattle.merge_program.specs.Opening.{IsUnopened}
use Rattle.merge_program.specs.Runs.{Sides}
use Rattle.merge_program.specs.Sited.{IsDamageAt, IsKeptAt, IsReadAt}
use Rattle.merge_program.specs.Stopping.{changed_by}
use Rattle.merge_program.specs.Stores.{RoseBy}
use Rattle.merge_program.specs.Visits.{IsIdle, Visit}
use Rattle.merge_program.proofs.Ends.{some-of}

-- Lines.

module _ (here : SiteId) (lines : List (List ℕ)) (old new : SitesView) (began told : Option Moments) (was written : Option (List ℕ)) (writes refused : ℕ) where
  abbrev Ends : Ending → Type 0
  Ends ending = LinesEnd ending here lines old new began told was written writes refused

  ends-by : (r : Result Unit Stop) → OnOk r (halt_of here lines ≡ None) → OnOk r (Changed here lines old new began told was written)
      → ((why : Stop) → r ≡ Err why → is_halt why ≡ true → halt_of here lines ≡ Some why)
      → ((why : Stop) → r ≡ Err why → is_halt why ≡ true → Changed here lines old new began told was written)
      → (r ≡ Err (stop.Unwritten unwritten.WriteFault) → Rose writes refused)
      → Ends (changed_by r)
  ends-by (Ok done) none all halted before write = (none, all)
  ends-by (Err (stop.NoEvent line word)) none all halted before write = (halted (stop.NoEvent line word) refl refl, before (stop.NoEvent line word) refl refl)
  ends-by (Err (stop.NotTaken line)) none all halted before write = (halted (stop.NotTaken line) refl refl, before (stop.NotTaken line) refl refl)
  ends-by (Err (stop.Unwritten unwritten.WriteFault)) none all halted before write = write refl
  ends-by (Err (stop.Unwritten unwritten.NoMemory)) none all halted before write = tt

  pub lines-end : (ending : Ending) (r : Result Unit Stop) → ending ≡ changed_by r → OnOk r (halt_of here lines ≡ None) → OnOk r (Changed here lines old new began told was written)
      → ((why : Stop) → r ≡ Err why → is_halt why ≡ true → halt_of here lines ≡ Some why)
      → ((why : Stop) → r ≡ Err why → is_halt why ≡ true → Changed here lines old new began told was written)
      → (r ≡ Err (stop.Unwritten unwritten.WriteFault) → Rose writes refused)
      → Ends ending
  lines-end ending r is none all halted before write = subst Ends (sym is) (ends-by r none all halted before write)

-- A site.

module _ (publication : Publication) (here : SiteId) (stored : Option Map) (lines : List (List ℕ)) (began : Option Moments) (was written : Option (List ℕ)) (before after : ℕ) (map : Option Map) (writes refused : ℕ) where
  abbrev sides : Sides
  sides = record { was = was; written = written; before = before; after = after }

  abbrev Site : Ending → Type 0
  Site ending = SiteEnds ending publication here stored lines began sides map writes refused

  done-ends : (ending : Ending) (old : SitesView) → IsReadAt publication here stored old → LinesDone ending here lines old began sides map writes refused → Site ending
  done-ends StoreFault old read done = absurd done.ends
  done-ends (Damaged table key) old read done = absurd done.ends
  done-ends NoMemory old read done = inr (old, read, done)
  done-ends other old read done = (old, read, done)

  -- the site was started, and its keeper was given back
  pub site-ends : (ending : Ending) (old new : SitesView) (told : Option Moments) → IsReadAt publication here stored old
      → LinesEnd ending here lines old new began told was written writes refused → ChangedInPart here lines old new began told was written → IsKeptAt here new map
      → (opened : ℕ) → opened ≡ before → RoseBy new.faults opened after → Site ending
  site-ends ending old new told read ends part kept opened same few =
      done-ends ending old read (record { new = new; told = told; ends = ends; part = part; kept = kept; few = subst (λ (n : ℕ). RoseBy new.faults n after) same few })

  -- the site did not start, and nothing was written
  pub unopened-ends : {T : Type 0} (load : Map → Loaded T) (ending : Ending) → ((table : ℕ) (key : List ℕ) → IsUnopened load (Damaged table key) stored map before after → IsDamageAt publication here stored table key) → IsUnopened load ending stored map before after
      → written ≡ was → Site ending
  unopened-ends load StoreFault damage u same = (u.cause, record { silent = same; same = u.same })
  unopened-ends load (Damaged table key) damage u same = (damage table key u, record { silent = same; same = u.same })
  unopened-ends load NoMemory damage u same = inl (record { silent = same; same = u.same })
  unopened-ends load other damage u same = absurd u.cause

-- The whole.

module _ (place : Place) (resolvers : ℕ) (v : Visit) where
  abbrev Change : Ending → Type 0
  Change ending = ChangeEnds ending place resolvers v

  abbrev Given : Publication → List ℕ → Type 0
  Given publication script = IsGiven (v.offers.texts place.publication) v.input resolvers place.site publication script

  given-so : (publication : Publication) (script : List ℕ) → Given publication script → (ending : Ending)
      → SiteEnds ending publication place.site (v.stored place.site place.store) (lines_of script) v.offers.moments (record { was = v.was; written = v.written; before = v.old.stores; after = v.new.stores }) (v.kept place.site place.store) v.writes v.refused
      → Change ending
  given-so publication script given Usage p = absurd p.2.ends
  given-so publication script given UnknownArticle p = absurd p.2.ends
  given-so publication script given (Refused fault) p = absurd p.2.ends
  given-so publication script given ReadFault p = absurd p.2.ends
  given-so publication script given TooLong p = absurd p.2.ends
  given-so publication script given UnknownSite p = absurd p.2.ends
  given-so publication script given NoMemory p = inr (publication, script, given, p)
  given-so publication script given other p = (publication, script, given, p)

  pub given-ends : (publication : Publication) (script slice : List ℕ) → slice ≡ script → Given publication script → (ending : Ending)
      → (told : SiteId → List ℕ → Option Map) → told ≡ v.stored → (moments : Option Moments) → moments ≡ v.offers.moments → (before : ℕ) → before ≡ v.old.stores
      → SiteEnds ending publication place.site (told place.site place.store) (lines_of slice) moments (record { was = v.was; written = v.written; before = before; after = v.new.stores }) (v.kept place.site place.store) v.writes v.refused
      → Change ending
  given-ends publication script slice is given ending told stored moments coming before same p = given-so publication script given ending
      (subst (λ (l : List ℕ). SiteEnds ending publication place.site (v.stored place.site place.store) (lines_of l) v.offers.moments (record { was = v.was; written = v.written; before = v.old.stores; after = v.new.stores }) (v.kept place.site place.store) v.writes v.refused) is
      (subst (λ (n : ℕ). SiteEnds ending publication place.site (v.stored place.site place.store) (lines_of slice) v.offers.moments (record { was = v.was; written = v.written; before = n; after = v.new.stores }) (v.kept place.site place.store) v.writes v.refused) same
      (subst (λ (m : Option Moments). SiteEnds ending publication place.site (v.stored place.site place.store) (lines_of slice) m (record { was = v.was; written = v.written; before = before; after = v.new.stores }) (v.kept place.site place.store) v.writes v.refused) coming
      (subst (λ (f : SiteId → List ℕ → Option Map). SiteEnds ending publication place.site (f place.site place.store) (lines_of slice) moments (record { was = v.was; written = v.written; before = before; after = v.new.stores }) (v.kept place.site place.store) v.writes v.refused) stored p))))

  ungiven-so : (ending : Ending) → IsUngiven ending (v.offers.texts place.publication) v.input resolvers place.site v.old.texts v.new.texts v.reads v.failed → IsIdle v → Change ending
  ungiven-so (Refused fault) p idle = (p, idle)
  ungiven-so ReadFault p idle = (p, idle)
  ungiven-so TooLong p idle = (p, idle)
  ungiven-so UnknownSite p idle = (p, idle)
  ungiven-so NoMemory p idle = inl idle
  ungiven-so other p idle = absurd p

  pub ungiven-ends : (ending : Ending) → IsUngiven ending (v.offers.texts place.publication) v.input resolvers place.site v.old.texts v.new.texts v.reads v.failed
      → v.written ≡ v.was → v.kept ≡ v.stored → v.behind ≡ v.offers → v.new.links ≡ v.old.links → Change ending
  ungiven-ends ending p silent same unasked unlinked = ungiven-so ending p (record { silent = silent; same = same; unasked = unasked; unlinked = unlinked })

-- What was read, and why not.

module _ (told input : Option (List ℕ)) (resolvers : ℕ) (site : SiteId) (before after reads failed : ℕ) where
  abbrev Ungiven : Ending → Type 0
  Ungiven ending = IsUngiven ending told input resolvers site before after reads failed

  pub by-file : (ending : Ending) → failed ≡ reads → IsUnread ending told before after → Ungiven ending
  by-file ReadFault same p = inl (p, same)
  by-file TooLong same p = inl (p, same)
  by-file NoMemory same p = tt
  by-file other same p = absurd p

  pub by-input : (text : List ℕ) → IfSome told (λ (left : List ℕ). text ≡ left) → length text ≤ 67108864 → (ending : Ending) → IsUnread ending input reads failed → Ungiven ending
  by-input text whole fits ReadFault p = inr (some-of (λ (t : List ℕ). length t ≤ 67108864) told text whole fits, p)
  by-input text whole fits TooLong p = inr (some-of (λ (t : List ℕ). length t ≤ 67108864) told text whole fits, p)
  by-input text whole fits NoMemory p = tt
  by-input text whole fits other p = absurd p

  -- the text of the file was read
  module _ (text : List ℕ) (whole : IfSome told (λ (left : List ℕ). text ≡ left)) (fits : length text ≤ 67108864) (slice : List ℕ) (is : slice ≡ text) where
    unaccepted : (fault : SchemaFault) → IsAnswer resolvers slice (Err fault) → IfSome told (IsUnaccepted resolvers fault)
    unaccepted fault answer = some-of (IsUnaccepted resolvers fault) told text whole (record { fits = fits; read = subst (λ (t : List ℕ). IsAnswer resolvers t (Err fault)) is answer })

    pub accepted : (publication : Publication) → IsAnswer resolvers slice (Ok publication) → IfSome told (IsAccepted resolvers publication)
    accepted publication answer = some-of (IsAccepted resolvers publication) told text whole (record { fits = fits; read = subst (λ (t : List ℕ). IsAnswer resolvers t (Ok publication)) is answer })

    pub refused-file : (fault : SchemaFault) → IsAnswer resolvers slice (Err fault) × (fault ≢ schema.NoMemory) → IsRefusedFile told resolvers fault
    refused-file fault p = record { read = unaccepted fault p.0; known = p.1 }

    -- and so was the input
    module _ (script : List ℕ) (all : IfSome input (λ (bytes : List ℕ). script ≡ bytes)) (short : length script ≤ 67108864) where
      is-short : IsShort input
      is-short = some-of (λ (t : List ℕ). length t ≤ 67108864) input script all short

      pub by-text : (ending : Ending) → IsUnpublished ending resolvers slice → Ungiven ending
      by-text (Refused fault) p = (refused-file fault p, is-short)
      by-text NoMemory p = tt
      by-text other p = absurd p

      pub by-site : (ending : Ending) (publication : Publication) → IsAnswer resolvers slice (Ok publication) → (ending ≡ UnknownSite) × (is_site publication site ≡ false) → Ungiven ending
      by-site ending publication answer p = subst Ungiven (sym p.0) (record { publication = publication; read = accepted publication answer; unknown = p.1 }, is-short)

    pub has-site : (publication : Publication) → IsAnswer resolvers slice (Ok publication) → is_site publication site ≡ true → HasSite told resolvers site publication
    has-site publication answer known = record { read = accepted publication answer; known = known }

    pub is-given : (publication : Publication) → IsAnswer resolvers slice (Ok publication) → is_site publication site ≡ true → (script : List ℕ) → IfSome input (λ (bytes : List ℕ). script ≡ bytes) → length script ≤ 67108864 → IsGiven told input resolvers site publication script
    is-given publication answer known script all short = record { there = has-site publication answer known; whole = all; fits = short }
