-- What each status tells of why a run ended.
use Rattle.std.proofs.Common.{List, None, Option, Some, ap, arith, inl, inr, length, refl, subst, sym, true, ℕ, ◌≡◌, ◌≢◌, ◌⊎◌}
use Rattle.std.specs.Prelude.{IsTrue}
use Rattle.merge_types.specs.declared.identifiers.Moment.{Moment}
use Rattle.merge_types.specs.declared.identifiers.SiteId.{SiteId}
use Rattle.merge_ports.specs.Entries.{Map}
use Rattle.merge_ports.specs.Faults.{Rose}
use Rattle.merge_schema.specs.declared.fault.SchemaFault.{SchemaFault}
use Rattle.merge_world.specs.Views.{HandedView}
use Rattle.merge_program.specs.declared.command.Command.{Command}
use Rattle.merge_program.specs.declared.command.Command.TheVariants.{Change, Make, Play, Show, Sync}
use Rattle.merge_program.specs.declared.command.Place.{Place}
use Rattle.merge_program.specs.declared.ending.Ending.{Ending}
use Rattle.merge_program.specs.declared.ending.Ending.TheVariants.{BadReply, Damaged, Declined, Done, Expired, LinkFault, NoEvent, NoMemory, NotTaken, ReadFault, Refused, StoreFault, TooLong, UnknownArticle, UnknownSite, Usage, WriteFault}
use Rattle.merge_program.specs.Changing.{ChangeEnds}
use Rattle.merge_program.specs.Endings.{status_of}
use Rattle.merge_program.specs.Making.{FrontWritten, IsMade, MakeEnds, SummaryWritten, is_make_status}
use Rattle.merge_program.specs.Runs.{Sides}
use Rattle.merge_program.specs.Showing.{ShowEnds}
use Rattle.merge_program.specs.Statuses.{CommandEnds, Tells, is_silent, is_status}
use Rattle.merge_program.specs.Visits.{Visit}
use Rattle.merge_program.proofs.Syncs.{sync-unlinked, sync-unstored, sync-unwritten}

pub is-known : (ending : Ending) → IsTrue (is_status (status_of ending))
is-known Done = refl
is-known Usage = refl
is-known (Refused fault) = refl
is-known (NoEvent line word) = refl
is-known (NotTaken line) = refl
is-known ReadFault = refl
is-known WriteFault = refl
is-known StoreFault = refl
is-known (Damaged table key) = refl
is-known NoMemory = refl
is-known UnknownSite = refl
is-known UnknownArticle = refl
is-known LinkFault = refl
is-known (Expired last_sync now) = refl
is-known (BadReply place) = refl
is-known (Declined number) = refl
is-known TooLong = refl

-- Statuses of `make`.

module _ (customers : ℕ) (handed : HandedView) (sides : Sides) (stored : SiteId → Option Map) (writes refused : ℕ) where
  abbrev Made : Ending → Type 0
  Made ending = MakeEnds ending customers handed sides stored writes refused

  pub made-status : (ending : Ending) → Made ending → IsTrue (is_make_status (status_of ending))
  made-status Done p = refl
  made-status WriteFault p = refl
  made-status StoreFault p = refl
  made-status (Damaged table key) p = refl
  made-status NoMemory p = refl
  made-status other p = absurd p.0

  pub never-silent : (ending : Ending) → Made ending → is_silent (status_of ending) ≡ true → ⊥
  never-silent Done p is = cc is
  never-silent WriteFault p is = cc is
  never-silent StoreFault p is = cc is
  never-silent (Damaged table key) p is = cc is
  never-silent NoMemory p is = cc is
  never-silent other p is = p.0

  made-done : (ending : Ending) → Made ending → status_of ending ≡ 0 → SummaryWritten customers handed sides
  made-done Done p is = p.0
  made-done other p is = absurd (omega (arith, is))

  made-write : (ending : Ending) → Made ending → status_of ending ≡ 5 → FrontWritten customers handed sides × Rose writes refused
  made-write WriteFault p is = (p.0, p.1)
  made-write other p is = absurd (omega (arith, is))

  made-silent : (ending : Ending) → Made ending → status_of ending ≢ 0 → status_of ending ≢ 5 → sides.written ≡ sides.was
  made-silent Done p some cut = absurd (some refl)
  made-silent WriteFault p some cut = absurd (cut refl)
  made-silent other p some cut = p.1

  pub is-made : (ending : Ending) → Made ending → (status : ℕ) → status ≡ status_of ending → IsMade status customers handed sides
  is-made ending made status is = subst (λ (n : ℕ). IsMade n customers handed sides) (sym is) (record {
    whole = λ whole. made-done ending made whole;
    front = λ cut. (made-write ending made cut).0;
    nothing = λ some uncut. made-silent ending made some uncut;
    known = made-status ending made;
  })

-- A run of `change` or `show` that ends before its site starts has written nothing.
pub change-silent : (place : Place) (resolvers : ℕ) (v : Visit) (ending : Ending) → ChangeEnds ending place resolvers v → is_silent (status_of ending) ≡ true → v.written ≡ v.was
change-silent place resolvers v (Refused fault) p is = p.1.silent
change-silent place resolvers v ReadFault p is = p.1.silent
change-silent place resolvers v TooLong p is = p.1.silent
change-silent place resolvers v UnknownSite p is = p.1.silent
change-silent place resolvers v UnknownArticle p is = absurd p
change-silent place resolvers v LinkFault p is = absurd p.3.2.ends
change-silent place resolvers v (Expired last_sync now) p is = absurd p.3.2.ends
change-silent place resolvers v (BadReply at) p is = absurd p.3.2.ends
change-silent place resolvers v (Declined number) p is = absurd p.3.2.ends
change-silent place resolvers v other p is = absurd (cc is)

pub show-silent : (place : Place) (article : List ℕ) (resolvers : ℕ) (v : Visit) (ending : Ending) → ShowEnds ending place article resolvers v → is_silent (status_of ending) ≡ true → v.written ≡ v.was
show-silent place article resolvers v (Refused fault) p is = p.1.silent
show-silent place article resolvers v ReadFault p is = p.1.silent
show-silent place article resolvers v TooLong p is = p.1.silent
show-silent place article resolvers v UnknownSite p is = p.1.silent
show-silent place article resolvers v UnknownArticle p is = p.1.silent
show-silent place article resolvers v LinkFault p is = absurd p.3.2.ends
show-silent place article resolvers v (Expired last_sync now) p is = absurd p.3.2.ends
show-silent place article resolvers v (BadReply at) p is = absurd p.3.2.ends
show-silent place article resolvers v (Declined number) p is = absurd p.3.2.ends
show-silent place article resolvers v other p is = absurd (cc is)

-- Statuses of any command.

module _ (handed : HandedView) (v : Visit) where
  abbrev Ended : Option Command → Ending → Type 0
  Ended command ending = CommandEnds command ending handed v

  no-words : (command : Option Command) → Ended command Usage → command ≡ None
  no-words None p = refl
  no-words (Some Play) p = absurd p
  no-words (Some (Make customers)) p = absurd p.0
  no-words (Some (Change place)) p = absurd p
  no-words (Some (Show place article)) p = absurd p
  no-words (Some (Sync place address)) p = absurd p

  unread : (command : Option Command) → Ended command ReadFault → Rose v.reads v.failed ⊎ Rose v.old.texts v.new.texts
  unread None p = let is = p.0 in absurd (cc is)
  unread (Some Play) p = inl p
  unread (Some (Make customers)) p = absurd p.0
  unread (Some (Change place)) (inl text, untouched) = inr text.0
  unread (Some (Change place)) (inr input, untouched) = inl input.1
  unread (Some (Show place article)) p = inr p.0
  unread (Some (Sync place address)) p = inr p.0

  unwritten : (command : Option Command) → Ended command WriteFault → Rose v.writes v.refused
  unwritten None p = let is = p.0 in absurd (cc is)
  unwritten (Some Play) p = p.0
  unwritten (Some (Make customers)) p = p.1
  unwritten (Some (Change place)) p = p.3.2.ends
  unwritten (Some (Show place article)) p = p.3.2.ends.1
  unwritten (Some (Sync place address)) p = sync-unwritten place address (length handed.tallies) v p

  unstored : (command : Option Command) → Ended command StoreFault → Rose v.old.stores v.new.stores
  unstored None p = let is = p.0 in absurd (cc is)
  unstored (Some Play) p = p.0
  unstored (Some (Make customers)) p = p.0
  unstored (Some (Change place)) p = p.3.0
  unstored (Some (Show place article)) p = p.3.0
  unstored (Some (Sync place address)) p = sync-unstored place address (length handed.tallies) v p

  -- a link fails in `sync` alone
  unlinked : (command : Option Command) → Ended command LinkFault → Rose v.old.links v.new.links
  unlinked None p = let is = p.0 in absurd (cc is)
  unlinked (Some Play) p = absurd p
  unlinked (Some (Make customers)) p = absurd p.0
  unlinked (Some (Change place)) p = absurd p.3.2.ends
  unlinked (Some (Show place article)) p = absurd p.3.2.ends
  unlinked (Some (Sync place address)) p = sync-unlinked place address (length handed.tallies) v p

  by-none : (command : Option Command) (ending : Ending) → Ended command ending → command ≡ None → status_of ending ≡ 1
  by-none None ending p none = ap status_of p.0
  by-none (Some other) ending p none = absurd (cc none)

  module _ (command : Option Command) where
    done : (ending : Ending) → Ended command ending → status_of ending ≡ 0 → Ended command Done
    done Done p is = p
    done other p is = absurd (omega (arith, is))

    usage : (ending : Ending) → Ended command ending → status_of ending ≡ 1 → (command ≡ None) ⊎ ((line : ℕ) × Ended command (NotTaken line))
    usage Usage p is = inl (no-words command p)
    usage (NotTaken line) p is = inr (line, p)
    usage other p is = absurd (omega (arith, is))

    refused : (ending : Ending) → Ended command ending → status_of ending ≡ 2 → (fault : SchemaFault) × Ended command (Refused fault)
    refused (Refused fault) p is = (fault, p)
    refused other p is = absurd (omega (arith, is))

    no-event : (ending : Ending) → Ended command ending → status_of ending ≡ 3 → (line : ℕ) × (word : ℕ) × Ended command (NoEvent line word)
    no-event (NoEvent line word) p is = (line, word, p)
    no-event other p is = absurd (omega (arith, is))

    read : (ending : Ending) → Ended command ending → status_of ending ≡ 4 → Rose v.reads v.failed ⊎ Rose v.old.texts v.new.texts
    read ReadFault p is = unread command p
    read other p is = absurd (omega (arith, is))

    -- the input is read without a fault in a run that ends otherwise
    counted : (ending : Ending) → (ending ≢ ReadFault → v.failed ≡ v.reads) → status_of ending ≢ 4 → v.failed ≡ v.reads
    counted ending same other = same (λ is. other (ap status_of is))

    write : (ending : Ending) → Ended command ending → status_of ending ≡ 5 → Rose v.writes v.refused
    write WriteFault p is = unwritten command p
    write other p is = absurd (omega (arith, is))

    stores : (ending : Ending) → Ended command ending → status_of ending ≡ 6 → Rose v.old.stores v.new.stores
    stores StoreFault p is = unstored command p
    stores other p is = absurd (omega (arith, is))

    damaged : (ending : Ending) → Ended command ending → status_of ending ≡ 10 → (table : ℕ) × (key : List ℕ) × Ended command (Damaged table key)
    damaged (Damaged table key) p is = (table, key, p)
    damaged other p is = absurd (omega (arith, is))

    links : (ending : Ending) → Ended command ending → status_of ending ≡ 7 → Rose v.old.links v.new.links
    links LinkFault p is = unlinked command p
    links other p is = absurd (omega (arith, is))

    expired : (ending : Ending) → Ended command ending → status_of ending ≡ 8 → (last_sync : Moment) × (now : Moment) × Ended command (Expired last_sync now)
    expired (Expired last_sync now) p is = (last_sync, now, p)
    expired other p is = absurd (omega (arith, is))

    reply : (ending : Ending) → Ended command ending → status_of ending ≡ 9 → (place : ℕ) × Ended command (BadReply place)
    reply (BadReply place) p is = (place, p)
    reply other p is = absurd (omega (arith, is))

    declined : (ending : Ending) → Ended command ending → status_of ending ≡ 12 → Ended command UnknownSite ⊎ (Ended command UnknownArticle ⊎ ((number : ℕ) × Ended command (Declined number)))
    declined UnknownSite p is = inl p
    declined UnknownArticle p is = inr (inl p)
    declined (Declined number) p is = inr (inr (number, p))
    declined other p is = absurd (omega (arith, is))

    long : (ending : Ending) → Ended command ending → status_of ending ≡ 14 → Ended command TooLong
    long TooLong p is = p
    long other p is = absurd (omega (arith, is))

    told-by : (ending : Ending) → Ended command ending → (is_silent (status_of ending) ≡ true → v.written ≡ v.was) → (ending ≢ ReadFault → v.failed ≡ v.reads) → Tells (status_of ending) command handed v
    told-by ending p silent same = record {
      done = λ is. done ending p is;
      usage = λ is. usage ending p is;
      refused = λ is. refused ending p is;
      no_event = λ is. no-event ending p is;
      read = λ is. read ending p is;
      counted = λ other. counted ending same other;
      write = λ is. write ending p is;
      stores = λ is. stores ending p is;
      damaged = λ is. damaged ending p is;
      links = λ is. links ending p is;
      expired = λ is. expired ending p is;
      reply = λ is. reply ending p is;
      declined = λ is. declined ending p is;
      long = λ is. long ending p is;
      no_command = λ none. by-none command ending p none;
      silent = silent;
      known = is-known ending;
    }

    pub tells : (status : ℕ) (ending : Ending) → status ≡ status_of ending → Ended command ending → (is_silent (status_of ending) ≡ true → v.written ≡ v.was) → (ending ≢ ReadFault → v.failed ≡ v.reads) → Tells status command handed v
    tells status ending is p silent same = subst (λ (n : ℕ). Tells n command handed v) (sym is) (told-by ending p silent same)
