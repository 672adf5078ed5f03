-- What a start asks of the ranges that a subscriber holds follows from what each call keeps of them, and leads to it.
use Rattle.std.specs.List.{AllByRecursion}
use Rattle.std.specs.Option.{option_map}
use Rattle.std.specs.Prelude.{List, Some, [], filter, map, nat_lt, refl, true, ℕ, ◌≡◌, ◌∷◌}
use Rattle.std.proofs.Common.{arith, subst, sym}
use Rattle.merge_ident.specs.Holders.{Holder, Received, has_values, range_of}
use Rattle.merge_schema.specs.Valid.{IsValid}
use Rattle.merge_schema.specs.declared.publication.Identity.{Identity}
use Rattle.merge_schema.specs.declared.publication.Publication.{Publication}
use Rattle.merge_record.specs.Tables.{IsHeld, IsRange}
use Rattle.merge_keeper.specs.Entries.{held_ranges, was_received}
use Rattle.merge_keeper.specs.Start.{are_kept, holder_of, identity_at}
use Rattle.merge_keeper.specs.SubscriberRules.{held_with}
use Rattle.merge_keeper.specs.SubscriberStart.{held_is_sound}
use Rattle.merge_model.specs.Publisher.{holder_for, new_holders}
use Rattle.merge_model.specs.Tables.Publications.{identities}
use Rattle.merge_model.proofs.Lists.Finding.{all-weaker}
use Rattle.merge_model.proofs.Lists.{all-both, all-filter}
use Rattle.merge_typed.specs.Typed.{HolderIsTyped}
use Rattle.merge_typed.proofs.Holders.{HolderFits, holder-typed, new-fits}
use Rattle.merge_stored.specs.Loading.{HeldEntryLoads}
use Rattle.merge_stored.specs.Ranges.{AllHeldLoad, HeldLoads}
use Rattle.merge_stored.proofs.HeldKeys.{HasKeys}
use Rattle.merge_stored.proofs.HeldWalk.{EntryIsWell}
use Rattle.merge_stored.proofs.HoldersWell.{IsUnused, IsWell, PartsAreWell}
use Rattle.merge_stored.proofs.Ranges.{held-loads}
use Rattle.merge_stored.proofs.AnyCalls.HeldFrom.{all-with, keys-from, reads, well-from, wells-from}

abbrev EntryFits : ℕ × Holder → Type 0
EntryFits entry = HolderFits entry.1

-- each article with an identity column, what is held of it as calls leave it, and numbers that fit
pub record HoldersStand (publication : Publication) (held : List (ℕ × Holder)) : Type 0 where
  pub keys : HasKeys publication held
  pub well : AllByRecursion EntryIsWell held
  pub fits : AllByRecursion EntryFits held

abbrev pub AllHeld : Publication → List (ℕ × Holder) → Type 0
AllHeld publication held = AllByRecursion (HeldEntryLoads publication) (filter was_received held) × (held_with (new_holders publication) (filter was_received held) ≡ held)

-- To what a start asks.

pub holders-load : (resolvers : ℕ) (publication : Publication) → IsValid resolvers publication → (held : List (ℕ × Holder)) → HoldersStand publication held → AllHeld publication held
holders-load resolvers publication valid held stands =
    let loads : AllHeldLoad publication held = held-loads resolvers publication valid held stands.keys stands.well in (
      all-both (HeldLoads publication) HolderIsTyped (HeldEntryLoads publication) (λ entry is fits. (is.article, fits, is.sound, is.same)) (filter was_received held) loads.received
          (all-filter HolderIsTyped was_received held (all-weaker EntryFits HolderIsTyped holder-typed held stands.fits)),
      loads.all_held,
    )

-- And from it.

parts-values : (held : List Received) → PartsAreWell held → AllByRecursion (λ received. has_values received ≡ true) held
parts-values [] parts = tt
parts-values (first ∷ rest) parts = (parts.0, all-weaker IsUnused (λ received. has_values received ≡ true) (λ received is. is.1) rest parts.1)

each-range : (held : List Received) → AllByRecursion IsRange (map range_of held) → AllByRecursion (λ (received : Received). IsRange received.range) held
each-range [] all = tt
each-range (received ∷ held) all = (all.0, each-range held all.1)

entry-fits : (entry : ℕ × Holder) → IsWell entry.1 → IsHeld (held_ranges entry.1) → EntryFits entry
entry-fits entry well fits = record {
  have = fits.0;
  last_end = fits.1.0;
  held = record { two = well.two; values = parts-values entry.1.held well.parts };
  each = each-range entry.1.held fits.1.1.0.0.1;
}

module _ (publication : Publication) where
  abbrev ReadsBack : ℕ × Holder → Type 0
  ReadsBack entry = option_map (λ (identity : Identity). holder_of identity (held_ranges entry.1)) (identity_at publication entry.0) ≡ Some entry.1

  sound-parts : (entry : ℕ × Holder) → held_is_sound publication entry.0 (held_ranges entry.1) ≡ true → (are_kept (held_ranges entry.1).ranges (held_ranges entry.1).next ≡ true) × (nat_lt 0 entry.1.have ≡ true)
  unfolding held_is_sound
  sound-parts entry sound = (grind (arith, sound), grind (arith, sound))

  entry-well : (entry : ℕ × Holder) → HeldEntryLoads publication entry → EntryIsWell entry
  entry-well entry loads = (let sound = sound-parts entry loads.2 in well-from publication entry (reads publication entry loads.3) sound.0 sound.1)

  new-entries-fit : (places : List (ℕ × Identity)) → AllByRecursion EntryFits (map holder_for places)
  new-entries-fit [] = tt
  new-entries-fit (place ∷ places) = (new-fits place.1.threshold, new-entries-fit places)

  pub holders-from : (held : List (ℕ × Holder)) → AllHeld publication held → HoldersStand publication held
  holders-from held all =
      let ps : List (ℕ × Holder) = filter was_received held in
      let well : AllByRecursion EntryIsWell ps = all-weaker (HeldEntryLoads publication) EntryIsWell entry-well ps all.0 in
      let fits : AllByRecursion EntryFits ps = all-weaker (HeldEntryLoads publication) EntryFits (λ entry loads. entry-fits entry (entry-well entry loads) loads.1) ps all.0 in record {
        keys = keys-from publication held (all-weaker (HeldEntryLoads publication) ReadsBack (λ entry loads. loads.3) ps all.0) all.1;
        well = wells-from publication held well all.1;
        fits = subst (λ (l : List (ℕ × Holder)). AllByRecursion EntryFits l) all.1 (all-with EntryFits ps (new_holders publication) fits (new-entries-fit (identities publication)));
      }

  -- In the beginning nothing was received.
  none-received : (places : List (ℕ × Identity)) → filter was_received (map holder_for places) ≡ []
  none-received [] = refl
  none-received (place ∷ places) = none-received places

  pub new-holders-stand : HoldersStand publication (new_holders publication)
  new-holders-stand = holders-from (new_holders publication) (
    subst (λ (l : List (ℕ × Holder)). AllByRecursion (HeldEntryLoads publication) l) (sym-none (identities publication)) tt,
    subst (λ (l : List (ℕ × Holder)). held_with (new_holders publication) l ≡ new_holders publication) (sym-none (identities publication)) refl,
  )
    where
      sym-none : (places : List (ℕ × Identity)) → [] ≡ filter was_received (map holder_for places)
      sym-none places = sym (none-received places)
