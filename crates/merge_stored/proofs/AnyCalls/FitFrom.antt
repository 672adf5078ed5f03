-- Tables that keep the rules of a start have values of their types.
use Rattle.std.specs.Int.{w64}
use Rattle.std.specs.List.{AllByRecursion, list_all}
use Rattle.std.specs.Prelude.{Bool, FitsSigned, List, [], false, filter, map, nat_lt, negsuc, not, pos, refl, true, ℕ, ℤ, ◌&&◌, ◌<◌, ◌^◌, ◌≡◌, ◌∷◌}
use Rattle.std.proofs.Common.{arith, subst, sym, ◌∙◌}
use Rattle.std.proofs.lemmas.Bool.Decides.{nat_tests}
use Rattle.std.proofs.lemmas.Int.{ints}
use Rattle.merge_types.specs.declared.row_key.RowKey.{RowKey as Key}
use Rattle.merge_units.specs.declared.site_row.PublisherRow.{PublisherRow}
use Rattle.merge_units.specs.declared.version.Body.{Body}
use Rattle.merge_units.specs.declared.version.Body.TheVariants.{Dead, Live}
use Rattle.merge_gens.specs.declared.closings.Closing.{Closing}
use Rattle.merge_gens.specs.declared.sites.SiteState.{SiteState}
use Rattle.merge_ident.specs.Holders.{AreHeld, Holder, Received, has_values, range_of}
use Rattle.merge_ident.specs.declared.grants.Grant.{Grant}
use Rattle.merge_ident.specs.declared.grants.Range.{Range}
use Rattle.merge_schema.specs.Valid.{IsValid}
use Rattle.merge_schema.specs.declared.publication.Publication.{Publication}
use Rattle.merge_record.specs.Tables.{IsHeld, IsRange}
use Rattle.merge_record.specs.Versions.{IsBody, IsCell}
use Rattle.merge_record.specs.declared.ranges.HeldRanges.{HeldRanges}
use Rattle.merge_keeper.specs.Entries.{held_ranges, was_received}
use Rattle.merge_keeper.specs.PublisherRules.{held_pair}
use Rattle.merge_keeper.specs.PublisherStart as start_publisher
use Rattle.merge_keeper.specs.Stored.{HasGrantKey}
use Rattle.merge_keeper.specs.declared.publisher_record.PublisherRecord.{PublisherRecord}
use Rattle.merge_keeper.specs.declared.publisher_record.PublisherRecord.TheVariants.{Closed, Granted, Held, Lost, Mapped, Row, State, Subscribed}
use Rattle.merge_model.specs.Tables.{PublisherTables}
use Rattle.merge_model.proofs.Lists.Finding.{all-weaker}
use Rattle.merge_model.proofs.Lists.{all-both, all-filter, all-passing, all-three}
use Rattle.merge_typed.specs.Typed.{BodyIsTyped, CellIsTyped, GrantIsTyped, LostIsTyped, MomentFits}
use Rattle.merge_typed.proofs.Acts.{RowIsTyped}
use Rattle.merge_typed.proofs.Holders.{HolderFits}
use Rattle.merge_typed.proofs.OwnRanges.{OwnFits}
use Rattle.merge_stored.specs.Keeping.{PublisherKeeps}
use Rattle.merge_stored.specs.Lost.{LostLoads}
use Rattle.merge_stored.specs.Own.{OwnIsHeld}
use Rattle.merge_stored.specs.PublisherLoading.{PublisherRowLoads}
use Rattle.merge_stored.specs.Subscriptions.{SiteLoads}
use Rattle.merge_stored.proofs.HeldWalk.{EntryIsWell}
use Rattle.merge_stored.proofs.HoldersWell.{IsUnused, PartsAreWell}
use Rattle.merge_stored.proofs.RangeLists.{Pair, by_grant, granted}
use Rattle.merge_stored.proofs.Tallies.{none-pass, none-tallied, tally-none}
use Rattle.merge_stored.proofs.AnyCalls.FromRules.{one-by-one}
use Rattle.merge_stored.proofs.AnyCalls.GrantsFrom.{Kept, all-kept-records, count, keyed-from, of-held, owns-received}
use Rattle.merge_stored.proofs.AnyCalls.RoomFrom.{has-room}
use Rattle.merge_stored.proofs.AnyCalls.Values.{Fit}
use Rattle.merge_laws.proofs.Runs.ValidRules.{valid-rules}

-- Bodies.

body-typed : (body : Body) → IsBody body → BodyIsTyped body
body-typed (Live cells) is = all-weaker IsCell CellIsTyped (λ cell c. c.1.1) cells is.1
body-typed (Dead top) is = tt

-- Whether numbers and ranges fit can be tested.

abbrev fits_test : ℤ → Bool
fits_test (pos n) = nat_lt n (2 ^ 63)
fits_test (negsuc n) = nat_lt n (2 ^ 63)

fits-so : (z : ℤ) → FitsSigned w64 z → fits_test z ≡ true
fits-so (pos n) fits = (let low : n < 2 ^ 63 = omega (arith, ints, fits) in grind (arith, nat_tests, low))
fits-so (negsuc n) fits = (let low : n < 2 ^ 63 = omega (arith, ints, fits) in grind (arith, nat_tests, low))

fits-of : (z : ℤ) → fits_test z ≡ true → FitsSigned w64 z
fits-of (pos n) is = (let low : n < 2 ^ 63 = grind (arith, nat_tests, is) in omega (arith, ints, low))
fits-of (negsuc n) is = (let low : n < 2 ^ 63 = grind (arith, nat_tests, is) in omega (arith, ints, low))

two-so : (a b : Bool) → a ≡ true → b ≡ true → (a && b) ≡ true
two-so a b one other = grind (arith, one, other)

two-of : (a b : Bool) → (a && b) ≡ true → (a ≡ true) × (b ≡ true)
two-of a b is = (grind (arith, is), grind (arith, is))

abbrev range_test : Range → Bool
range_test range = fits_test range.begin && fits_test range.end

range-so : (range : Range) → IsRange range → range_test range ≡ true
range-so range is = two-so (fits_test range.begin) (fits_test range.end) (fits-so range.begin is.0) (fits-so range.end is.1)

range-of : (range : Range) → range_test range ≡ true → IsRange range
range-of range is = (let both = two-of (fits_test range.begin) (fits_test range.end) is in (fits-of range.begin both.0, fits-of range.end both.1))

ranges-so : (ranges : List Range) → AllByRecursion IsRange ranges → list_all range_test ranges ≡ true
ranges-so [] all = refl
ranges-so (range ∷ ranges) all = two-so (range_test range) (list_all range_test ranges) (range-so range all.0) (ranges-so ranges all.1)

ranges-of : (ranges : List Range) → list_all range_test ranges ≡ true → AllByRecursion IsRange ranges
ranges-of [] is = tt
ranges-of (range ∷ ranges) is = (let both = two-of (range_test range) (list_all range_test ranges) is in (range-of range both.0, ranges-of ranges both.1))

abbrev held_test : HeldRanges → Bool
held_test held = nat_lt held.have (2 ^ 64) && (fits_test held.last_end && list_all range_test held.ranges)

held-so : (held : HeldRanges) → IsHeld held → held_test held ≡ true
held-so held is =
    let have : held.have < 2 ^ 64 = is.0 in
    two-so (nat_lt held.have (2 ^ 64)) (fits_test held.last_end && list_all range_test held.ranges) (grind (arith, nat_tests, have))
    (two-so (fits_test held.last_end) (list_all range_test held.ranges) (fits-so held.last_end is.1.0) (ranges-so held.ranges is.1.1.0.0.1))

record HeldFit (held : HeldRanges) : Type 0 where
  have : held.have < 2 ^ 64
  last_end : FitsSigned w64 held.last_end
  ranges : AllByRecursion IsRange held.ranges

held-of : (held : HeldRanges) → held_test held ≡ true → HeldFit held
held-of held is =
    let both = two-of (nat_lt held.have (2 ^ 64)) (fits_test held.last_end && list_all range_test held.ranges) is in
    let more = two-of (fits_test held.last_end) (list_all range_test held.ranges) both.1 in
    record { have = (let low = both.0 in grind (arith, nat_tests, low)); last_end = fits-of held.last_end more.0; ranges = ranges-of held.ranges more.1 }

-- Holders.

unused-have : (rest : List Received) → AllByRecursion IsUnused rest → AllByRecursion (λ (received : Received). has_values received ≡ true) rest
unused-have rest all = all-weaker IsUnused (λ (received : Received). has_values received ≡ true) (λ received is. is.1) rest all

parts-have : (held : List Received) → PartsAreWell held → AllByRecursion (λ (received : Received). has_values received ≡ true) held
parts-have [] parts = tt
parts-have (first ∷ rest) parts = (parts.0, unused-have rest parts.1)

each-range : (held : List Received) → AllByRecursion IsRange (map range_of held) → AllByRecursion (λ (received : Received). IsRange received.range) held
each-range [] all = tt
each-range (first ∷ rest) all = (all.0, each-range rest all.1)

received-fits : (entry : ℕ × Holder) → HeldFit (held_ranges entry.1) → EntryIsWell entry → HolderFits entry.1
received-fits entry fit well = record { have = fit.have; last_end = fit.last_end; held = record { two = well.two; values = parts-have entry.1.held well.parts }; each = each-range entry.1.held fit.ranges }

fresh-fits : (holder : Holder) → holder.have ≡ 0 → (holder.held ≡ []) × (holder.last_end ≡ pos 0) → HolderFits holder
fresh-fits holder none is = record {
  have = omega (arith, none);
  last_end = subst (λ (z : ℤ). FitsSigned w64 z) (sym is.1) (omega (arith, ints));
  held = subst AreHeld (sym is.0) (record { two = omega arith; values = tt });
  each = subst (λ (l : List Received). AllByRecursion (λ (received : Received). IsRange received.range) l) (sym is.0) tt;
}

own-by : (grants : List Grant) (entry : ℕ × Holder) (b : Bool) → was_received entry ≡ b → (was_received entry ≡ true → OwnFits grants entry) → EntryIsWell entry → OwnFits grants entry
own-by grants entry true is received well = received is
own-by grants entry false is received well =
    let none : entry.1.have ≡ 0 = grind (arith, nat_tests, is) in
    record { fits = fresh-fits entry.1 none (well.fresh none); few = omega (arith, none) }

not-of : (b : Bool) → b ≡ true → not b ≡ false
not-of true is = refl
not-of false is = absurd cc

not-true : (b : Bool) → not b ≡ false → b ≡ true
not-true true is = refl
not-true false is = absurd cc

module _ (resolvers : ℕ) (publication : Publication) (valid : IsValid resolvers publication) (p : PublisherTables) (rules : PublisherKeeps publication p) where
  abbrev R : List (ℕ × Holder)
  R = filter was_received p.held

  abbrev rs : List PublisherRecord
  rs = map (λ (e : Pair). e.1) (granted (map held_pair R) p.grants)

  -- Records of ranges.

  abbrev unranged : Grant → Bool
  unranged g = not (range_test g.range)

  abbrev unheld : PublisherRecord → Bool
  unheld (Held a held) = not (held_test held)
  unheld r = false

  abbrev Typed : PublisherRecord → Type 0
  Typed r = (by_grant unranged r ≡ false) × (unheld r ≡ false)

  record-typed : (front : List PublisherRecord) (r : PublisherRecord) → Kept resolvers publication valid p rules front r → Typed r
  record-typed front (Granted g) kept = (not-of (range_test g.range) (range-so g.range kept.0.1), refl)
  record-typed front (Held a held) kept = (refl, not-of (held_test held) (held-so held kept.0.1))
  record-typed front (State state) kept = (refl, refl)
  record-typed front (Row key row) kept = (refl, refl)
  record-typed front (Mapped place move) kept = (refl, refl)
  record-typed front (Closed closing) kept = (refl, refl)
  record-typed front (Lost row) kept = (refl, refl)
  record-typed front (Subscribed site state) kept = (refl, refl)

  records-typed : AllByRecursion Typed rs
  records-typed = one-by-one (Kept resolvers publication valid p rules) Typed record-typed [] rs (all-kept-records resolvers publication valid p rules)

  ranged-each : (gs : List Grant) → list_all (λ (g : Grant). range_test g.range) gs ≡ true → AllByRecursion HasGrantKey gs → AllByRecursion GrantIsTyped gs
  ranged-each [] all keys = tt
  ranged-each (g ∷ gs) all keys = (let both = two-of (range_test g.range) (list_all (λ (x : Grant). range_test x.range) gs) all in ((range-of g.range both.0, keys.0.1.1), ranged-each gs both.1 keys.1))

  grants-typed : AllByRecursion GrantIsTyped p.grants
  grants-typed =
      let none = tally-none (by_grant unranged) rs (all-weaker Typed (λ (r : PublisherRecord). by_grant unranged r ≡ false) (λ r is. is.0) rs records-typed) in
      ranged-each p.grants (none-tallied (λ (g : Grant). range_test g.range) p.grants (sym (count resolvers publication valid p rules unranged) ∙ none)) rules.keyed

  held-each : (ps : List (ℕ × Holder)) → AllByRecursion (λ (e : Pair). unheld e.1 ≡ false) (map held_pair ps) → AllByRecursion (λ (entry : ℕ × Holder). HeldFit (held_ranges entry.1)) ps
  held-each [] all = tt
  held-each (q ∷ ps) all = (held-of (held_ranges q.1) (not-true (held_test (held_ranges q.1)) all.0), held-each ps all.1)

  helds-fit : AllByRecursion (λ (entry : ℕ × Holder). HeldFit (held_ranges entry.1)) R
  helds-fit =
      let none = tally-none unheld rs (all-weaker Typed (λ (r : PublisherRecord). unheld r ≡ false) (λ r is. is.1) rs records-typed) in
      held-each R (none-pass (λ (e : Pair). unheld e.1) (map held_pair R) (sym (of-held resolvers publication valid p rules unheld (λ g. refl)) ∙ none))

  wells : AllByRecursion EntryIsWell p.held
  wells = (keyed-from resolvers publication valid p rules).1

  received-own : (entry : ℕ × Holder) → OwnIsHeld p.grants entry.0 entry.1 → HeldFit (held_ranges entry.1) → EntryIsWell entry → OwnFits p.grants entry
  received-own entry own fit well = record { fits = received-fits entry fit well; few = (let have = own.have in omega (arith, have)) }

  held-own : AllByRecursion (OwnFits p.grants) p.held
  held-own =
      let received : AllByRecursion (OwnFits p.grants) R = all-three (λ (entry : ℕ × Holder). OwnIsHeld p.grants entry.0 entry.1) (λ (entry : ℕ × Holder). HeldFit (held_ranges entry.1)) EntryIsWell (OwnFits p.grants) received-own R
      (owns-received resolvers publication valid p rules) helds-fit (all-filter EntryIsWell was_received p.held wells) in
      all-both (λ (entry : ℕ × Holder). was_received entry ≡ true → OwnFits p.grants entry) EntryIsWell (OwnFits p.grants) (λ entry own well. own-by p.grants entry (was_received entry) refl own well) p.held (all-passing (OwnFits p.grants) was_received p.held received) wells

  -- All together.

  pub fit-from : Fit resolvers publication valid p
  fit-from = record {
    ranges = record { book = record { book = record { rules_fit = valid-rules resolvers publication valid; grants_fit = rules.granted; in_order = rules.in_order }; typed = grants-typed; room = has-room p.grants rules.in_order rules.granted.ranges }; held = held-own };
    moments = record {
      closings = all-weaker (λ (closing : Closing). (closing.generation < 2 ^ 64) × (closing.moment.0 < 2 ^ 64) × (start_publisher.closing_is_sound p.gens.filling.last_closed closing ≡ true)) (λ (closing : Closing). MomentFits closing.moment) (λ closing is. is.1) p.gens.closings rules.closings;
      sites = all-weaker (SiteLoads publication p) (λ (site : ℕ × SiteState). site.1.last_sync < 2 ^ 64) (λ site is. is.1.1.1.1.1.1) p.sites rules.sites;
      latest = rules.fits.1.1.1.1.1;
    };
    values = record {
      rows = one-by-one (PublisherRowLoads publication p) (λ (row : Key × PublisherRow). RowIsTyped row.1) (λ front row loads. body-typed row.1.version.body loads.1.0.1) [] p.rows rules.rows;
      conflicts = one-by-one (LostLoads publication p.conflict_count) LostIsTyped (λ front row loads. (body-typed row.losing.body loads.1.1.1, loads.1.0.0.1.1.1.1.1)) [] p.conflicts rules.conflicts;
      latest = rules.fits.1.1.1.1.1;
    };
  }
