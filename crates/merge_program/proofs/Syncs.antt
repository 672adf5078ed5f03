-- How a run of `sync` ends.
use Rattle.std.proofs.Common.{Err, List, Ok, Option, Result, ap, false, inl, inr, length, refl, subst, sym, true, ℕ, ◌∙◌, ◌≡◌, ◌≤◌}
use Rattle.std.specs.Prelude.{IfSome}
use Rattle.merge_types.specs.declared.identifiers.SiteId.{SiteId}
use Rattle.merge_link.specs.Moments.{Moments}
use Rattle.merge_link.specs.declared.link.Exchange.{Exchange}
use Rattle.merge_outside.specs.Offers.{Offers}
use Rattle.merge_ports.specs.declared.outside.Counts.{Counts}
use Rattle.merge_ports.specs.Entries.{Map}
use Rattle.merge_ports.specs.Faults.{Rose}
use Rattle.merge_schema.specs.Answers.{IsAnswer}
use Rattle.merge_schema.specs.Places.{is_subscription}
use Rattle.merge_schema.specs.declared.publication.Publication.{Publication}
use Rattle.merge_sync.specs.Ends.{Ends}
use Rattle.merge_sync.specs.Stores.{Around}
use Rattle.merge_sync.specs.declared.stop.Stop.{Stop}
use Rattle.merge_sync.specs.declared.stop.Stop.TheVariants as break
use Rattle.merge_program.specs.declared.command.Place.{Place}
use Rattle.merge_program.specs.declared.ending.Ending.{Ending}
use Rattle.merge_program.specs.declared.ending.Ending.TheVariants.{BadReply, Damaged, Declined, Expired, LinkFault, NoMemory, ReadFault, Refused, StoreFault, TooLong, UnknownArticle, UnknownSite, WriteFault}
use Rattle.merge_program.specs.Endings.{status_of}
use Rattle.merge_program.specs.Files.{HasSubscription, IsUnpublished, IsUnread, IsUnsubscribed}
use Rattle.merge_program.specs.Statuses.{is_silent}
use Rattle.merge_program.specs.Stopping.{synced_by}
use Rattle.merge_program.specs.Syncing.{SubscribedEnds, SyncEnds, around_of}
use Rattle.merge_program.specs.Visits.{IsIdle, Visit}
use Rattle.merge_program.proofs.Changes.{accepted, refused-file}

-- What each ending of a session tells.

module _ (publication : Publication) (place : Place) (address : List ℕ) (v : Visit) where
  abbrev Session : Result Unit Stop → Type 0
  Session r = Ends address publication place.site (around_of place v) v.was v.written v.writes v.refused r

  write-failed : (r : Result Unit Stop) → WriteFault ≡ synced_by r → Session r → Rose v.writes v.refused
  write-failed (Err break.WriteFault) is p = p.1
  write-failed (Err break.UnknownSite) is p = absurd (cc is)
  write-failed (Err break.StoreFault) is p = absurd (cc is)
  write-failed (Err (break.Damaged table key)) is p = absurd (cc is)
  write-failed (Err break.LinkFault) is p = absurd (cc is)
  write-failed (Err (break.Expired last_sync now)) is p = absurd (cc is)
  write-failed (Err (break.BadReply at)) is p = absurd (cc is)
  write-failed (Err (break.Refused number)) is p = absurd (cc is)
  write-failed (Err break.NoMemory) is p = absurd (cc is)
  write-failed (Ok told) is p = absurd (cc is)

  store-failed : (r : Result Unit Stop) → StoreFault ≡ synced_by r → Session r → Rose v.old.stores v.new.stores
  store-failed (Err break.StoreFault) is p = p.1.0
  store-failed (Err break.UnknownSite) is p = absurd (cc is)
  store-failed (Err break.WriteFault) is p = absurd (cc is)
  store-failed (Err (break.Damaged table key)) is p = absurd (cc is)
  store-failed (Err break.LinkFault) is p = absurd (cc is)
  store-failed (Err (break.Expired last_sync now)) is p = absurd (cc is)
  store-failed (Err (break.BadReply at)) is p = absurd (cc is)
  store-failed (Err (break.Refused number)) is p = absurd (cc is)
  store-failed (Err break.NoMemory) is p = absurd (cc is)
  store-failed (Ok told) is p = absurd (cc is)

  link-failed : (r : Result Unit Stop) → LinkFault ≡ synced_by r → Session r → Rose v.old.links v.new.links
  link-failed (Err break.LinkFault) is p = p.1.0
  link-failed (Err break.UnknownSite) is p = absurd (cc is)
  link-failed (Err break.WriteFault) is p = absurd (cc is)
  link-failed (Err break.StoreFault) is p = absurd (cc is)
  link-failed (Err (break.Damaged table key)) is p = absurd (cc is)
  link-failed (Err (break.Expired last_sync now)) is p = absurd (cc is)
  link-failed (Err (break.BadReply at)) is p = absurd (cc is)
  link-failed (Err (break.Refused number)) is p = absurd (cc is)
  link-failed (Err break.NoMemory) is p = absurd (cc is)
  link-failed (Ok told) is p = absurd (cc is)

  -- nothing is written of a session that was not done
  undone-silent : (ending : Ending) (r : Result Unit Stop) → ending ≡ synced_by r → Session r → is_silent (status_of ending) ≡ true → v.written ≡ v.was
  undone-silent ending (Err break.UnknownSite) is p silent = p.0
  undone-silent ending (Err break.LinkFault) is p silent = p.0
  undone-silent ending (Err (break.Expired last_sync now)) is p silent = p.0
  undone-silent ending (Err (break.BadReply at)) is p silent = p.0
  undone-silent ending (Err (break.Refused number)) is p silent = p.0
  undone-silent ending (Err break.StoreFault) is p silent = p.0
  undone-silent ending (Err (break.Damaged table key)) is p silent = p.0
  undone-silent ending (Err break.NoMemory) is p silent = p.0
  undone-silent ending (Err break.WriteFault) is p silent = let no : is_silent (status_of ending) ≡ false = ap (λ (e : Ending). is_silent (status_of e)) is in absurd (cc (no, silent))
  undone-silent ending (Ok told) is p silent = let no : is_silent (status_of ending) ≡ false = ap (λ (e : Ending). is_silent (status_of e)) is in absurd (cc (no, silent))

module _ (place : Place) (address : List ℕ) (resolvers : ℕ) (v : Visit) where
  abbrev Sync : Ending → Type 0
  Sync ending = SyncEnds ending place address resolvers v

  pub sync-unwritten : Sync WriteFault → Rose v.writes v.refused
  sync-unwritten (publication, there, s) = write-failed publication place address v s.synced s.ending_is s.ends

  pub sync-unstored : Sync StoreFault → Rose v.old.stores v.new.stores
  sync-unstored (publication, there, s) = store-failed publication place address v s.synced s.ending_is s.ends

  pub sync-unlinked : Sync LinkFault → Rose v.old.links v.new.links
  sync-unlinked (publication, there, s) = link-failed publication place address v s.synced s.ending_is s.ends

  undone-so : (ending : Ending) → SubscribedEnds ending place address resolvers v → is_silent (status_of ending) ≡ true → v.written ≡ v.was
  undone-so ending (publication, there, s) silent = undone-silent publication place address v ending s.synced s.ending_is s.ends silent

  pub sync-silent : (ending : Ending) → Sync ending → is_silent (status_of ending) ≡ true → v.written ≡ v.was
  sync-silent (Refused fault) p silent = p.1.silent
  sync-silent ReadFault p silent = p.1.silent
  sync-silent TooLong p silent = p.1.silent
  sync-silent UnknownSite p silent = p.1.silent
  sync-silent UnknownArticle p silent = absurd p
  sync-silent LinkFault p silent = undone-so LinkFault p silent
  sync-silent (Expired last_sync now) p silent = undone-so (Expired last_sync now) p silent
  sync-silent (BadReply at) p silent = undone-so (BadReply at) p silent
  sync-silent (Declined number) p silent = undone-so (Declined number) p silent
  sync-silent other p silent = absurd (cc silent)

  -- The whole.

  subscribed-so : (publication : Publication) → HasSubscription (v.offers.texts place.publication) resolvers place.site publication → (r : Result Unit Stop)
      → Ends address publication place.site (around_of place v) v.was v.written v.writes v.refused r → Sync (synced_by r)
  subscribed-so publication there (Ok told) p = (publication, there, record { synced = Ok told; ending_is = refl; ends = p })
  subscribed-so publication there (Err break.UnknownSite) p = let known = there.known in let unknown = p.1.0 in absurd (cc (known, unknown))
  subscribed-so publication there (Err break.StoreFault) p = (publication, there, record { synced = Err break.StoreFault; ending_is = refl; ends = p })
  subscribed-so publication there (Err (break.Damaged table key)) p = (publication, there, record { synced = Err (break.Damaged table key); ending_is = refl; ends = p })
  subscribed-so publication there (Err break.LinkFault) p = (publication, there, record { synced = Err break.LinkFault; ending_is = refl; ends = p })
  subscribed-so publication there (Err (break.Expired last_sync now)) p = (publication, there, record { synced = Err (break.Expired last_sync now); ending_is = refl; ends = p })
  subscribed-so publication there (Err (break.BadReply at)) p = (publication, there, record { synced = Err (break.BadReply at); ending_is = refl; ends = p })
  subscribed-so publication there (Err (break.Refused number)) p = (publication, there, record { synced = Err (break.Refused number); ending_is = refl; ends = p })
  subscribed-so publication there (Err break.WriteFault) p = (publication, there, record { synced = Err break.WriteFault; ending_is = refl; ends = p })
  subscribed-so publication there (Err break.NoMemory) p = inr (publication, there, record { synced = Err break.NoMemory; ending_is = refl; ends = p })

  -- what is told around the session is told as before the file was read
  around-same : (around : Around) (told : Option Map) (responses : Option (List (List ℕ))) (moments : Option Moments) (carried : Option (List Exchange)) (peer : Option (List ℕ)) (stores links : ℕ)
      → told ≡ v.stored place.site place.store → responses ≡ v.offers.responses → moments ≡ v.offers.moments → carried ≡ v.offers.exchanges → peer ≡ v.offers.peer → stores ≡ v.old.stores → links ≡ v.old.links
      → around ≡ record (around_of place v) { stored = told; responses = responses; moments = moments; was_carried = carried; was_peer = peer; stores = stores; links = links } → around ≡ around_of place v
  around-same around told responses moments carried peer stores links first second third fourth fifth sixth seventh is = is
      ∙ (ap (λ (o : Option Map). record (around_of place v) { stored = o; responses = responses; moments = moments; was_carried = carried; was_peer = peer; stores = stores; links = links }) first
      ∙ (ap (λ (o : Option (List (List ℕ))). record (around_of place v) { responses = o; moments = moments; was_carried = carried; was_peer = peer; stores = stores; links = links }) second
      ∙ (ap (λ (o : Option Moments). record (around_of place v) { moments = o; was_carried = carried; was_peer = peer; stores = stores; links = links }) third
      ∙ (ap (λ (o : Option (List Exchange)). record (around_of place v) { was_carried = o; was_peer = peer; stores = stores; links = links }) fourth
      ∙ (ap (λ (o : Option (List ℕ)). record (around_of place v) { was_peer = o; stores = stores; links = links }) fifth
      ∙ (ap (λ (n : ℕ). record (around_of place v) { stores = n; links = links }) sixth
      ∙ ap (λ (n : ℕ). record (around_of place v) { links = n }) seventh))))))

  pub subscribed-ends : (ending : Ending) (r : Result Unit Stop) → ending ≡ synced_by r → (publication : Publication) → HasSubscription (v.offers.texts place.publication) resolvers place.site publication
      → (told : SiteId → List ℕ → Option Map) → told ≡ v.stored → (offers : Offers) → offers ≡ v.offers → (counts : Counts) → counts.stores ≡ v.old.stores → counts.links ≡ v.old.links
      → Ends address publication place.site (record (around_of place v) { stored = told place.site place.store; responses = offers.responses; moments = offers.moments; was_carried = offers.exchanges; was_peer = offers.peer; stores = counts.stores; links = counts.links }) v.was v.written v.writes v.refused r
      → Sync ending
  subscribed-ends ending r is publication there told stored offers same counts stores links p = subst Sync (sym is) (subscribed-so publication there r (subst (λ (a : Around). Ends address publication place.site a v.was v.written v.writes v.refused r)
      (around-same _ (told place.site place.store) offers.responses offers.moments offers.exchanges offers.peer counts.stores counts.links (ap (λ (f : SiteId → List ℕ → Option Map). f place.site place.store) stored) (ap (λ (o : Offers). o.responses) same) (ap (λ (o : Offers). o.moments) same) (ap (λ (o : Offers). o.exchanges) same) (ap (λ (o : Offers). o.peer) same) stores links refl) p))

  unsubscribed-so : (ending : Ending) → IsUnsubscribed ending (v.offers.texts place.publication) resolvers place.site v.old.texts v.new.texts → IsIdle v → Sync ending
  unsubscribed-so (Refused fault) p idle = (p, idle)
  unsubscribed-so ReadFault p idle = (p, idle)
  unsubscribed-so TooLong p idle = (p, idle)
  unsubscribed-so UnknownSite p idle = (p, idle)
  unsubscribed-so NoMemory p idle = inl idle
  unsubscribed-so other p idle = absurd p

  pub unsubscribed-ends : (ending : Ending) → IsUnsubscribed ending (v.offers.texts place.publication) resolvers place.site v.old.texts v.new.texts
      → v.written ≡ v.was → v.kept ≡ v.stored → v.behind ≡ v.offers → v.new.links ≡ v.old.links → Sync ending
  unsubscribed-ends ending p silent same unasked unlinked = unsubscribed-so ending p (record { silent = silent; same = same; unasked = unasked; unlinked = unlinked })

-- What was read, and why not.

module _ (told : Option (List ℕ)) (resolvers : ℕ) (site : SiteId) (before after : ℕ) where
  abbrev Unsubscribed : Ending → Type 0
  Unsubscribed ending = IsUnsubscribed ending told resolvers site before after

  pub by-file : (ending : Ending) → IsUnread ending told before after → Unsubscribed ending
  by-file ReadFault p = p
  by-file TooLong p = p
  by-file NoMemory p = tt
  by-file other p = absurd p

  module _ (text : List ℕ) (all : IfSome told (λ (left : List ℕ). text ≡ left)) (fits : length text ≤ 67108864) (slice : List ℕ) (is : slice ≡ text) where
    pub by-text : (ending : Ending) → IsUnpublished ending resolvers slice → Unsubscribed ending
    by-text (Refused fault) p = refused-file told told resolvers site before after before after text all fits slice is fault p
    by-text NoMemory p = tt
    by-text other p = absurd p

    pub by-subscription : (ending : Ending) (publication : Publication) → IsAnswer resolvers slice (Ok publication) → (ending ≡ UnknownSite) × (is_subscription publication site.0 ≡ false) → Unsubscribed ending
    by-subscription ending publication answer p = subst Unsubscribed (sym p.0) (record { publication = publication; read = accepted told told resolvers site before after before after text all fits slice is publication answer; unknown = p.1 })

    pub is-subscribed : (publication : Publication) → IsAnswer resolvers slice (Ok publication) → is_subscription publication site.0 ≡ true → HasSubscription told resolvers site publication
    is-subscribed publication answer known = record { read = accepted told told resolvers site before after before after text all fits slice is publication answer; known = known }
