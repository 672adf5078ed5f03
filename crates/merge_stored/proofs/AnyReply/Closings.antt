-- What a start asks of the closed generations that a subscriber keeps, and what each step leaves of them.
use Rattle.std.specs.List.{AllByRecursion, range_with_len}
use Rattle.std.specs.Prelude.{Bool, List, None, Option, Some, [], cond, false, filter, map, nat_lt, suc, true, zero, ℕ, ◌++◌, ◌+◌, ◌-◌, ◌<◌, ◌≡◌, ◌≤◌, ◌∷◌}
use Rattle.std.proofs.Common.{arith, subst}
use Rattle.std.proofs.lemmas.Bool.Decides.{nat_tests}
use Rattle.merge_types.specs.declared.identifiers.Moment.{Moment}
use Rattle.merge_types.specs.declared.row_key.RowKey.{RowKey as Key}
use Rattle.merge_units.specs.declared.version.Version.{Version}
use Rattle.merge_gens.specs.Book.{closing_at, closings_between}
use Rattle.merge_gens.specs.Filling as fill
use Rattle.merge_gens.specs.declared.closings.Closing.{Closing}
use Rattle.merge_gens.specs.declared.filling.Filling.{Filling}
use Rattle.merge_ident.specs.Holders.{Holder}
use Rattle.merge_schema.specs.declared.publication.Publication.{Publication}
use Rattle.merge_keeper.specs.Start.{KeepOneByOne}
use Rattle.merge_keeper.specs.SubscriberRules.{Run, with_closings}
use Rattle.merge_keeper.specs.SubscriberStart as start_subscriber
use Rattle.merge_keeper.specs.SubscriberStart.{last_number}
use Rattle.merge_model.specs.Publisher.{new_holders}
use Rattle.merge_model.specs.Subscriber.Taking.{with_received}
use Rattle.merge_model.specs.Subscriber.{subscriber_closed, subscriber_last_closed, with_version_if}
use Rattle.merge_model.specs.Tables.{SubscriberTables}
use Rattle.merge_model.proofs.Lists.Finding.{all-weaker}
use Rattle.merge_model.proofs.Lists.{all-append, all-filter}
use Rattle.merge_stored.specs.Closings.{SubscriberClosingLoads}
use Rattle.merge_stored.specs.Stored.{subscriber_stored}
use Rattle.merge_stored.proofs.ClosingLists.{last-of-more, run-forgotten, run-moved}
use Rattle.merge_stored.proofs.Outstanding.{closed-up}
use Rattle.merge_stored.proofs.SubscriberClosings.{ClosingsRun}
use Rattle.merge_stored.proofs.AnyReply.States.{StateStands, entered-rises}

-- The number of the last change in a generation is one of a change that was made, and does not fall from one to the next.
abbrev pub NumbersRise : ℕ → List Closing → Type 0
NumbersRise low [] = Unit {0}
NumbersRise low (closing ∷ closings) = (low ≤ closing.moment.0) × NumbersRise closing.moment.0 closings

abbrev pub IsMade : ℕ → Closing → Type 0
IsMade changes closing = closing.moment.0 ≤ changes

pub record ClosingsStand (s : SubscriberTables) : Type 0 where
  pub run : ClosingsRun s
  pub rise : NumbersRise 0 s.gens.closings
  pub made : AllByRecursion (IsMade s.changes) s.gens.closings

module _ (publication : Publication) (s : SubscriberTables) where
  abbrev Loads : List Closing → Closing → Type 0
  Loads front closing = SubscriberClosingLoads publication s front closing

  -- From what a start asks.

  one-from : (front : List Closing) (closing : Closing) → Loads front closing → (last_number front ≤ closing.moment.0) × (closing.moment.0 ≤ s.changes)
  unfolding start_subscriber.closing_is_sound
  one-from front closing loads = (let sound = loads.2 in (grind (arith, nat_tests, sound), grind (arith, nat_tests, sound)))

  each-from : (front closings : List Closing) → KeepOneByOne Loads front closings → NumbersRise (last_number front) closings × AllByRecursion (IsMade s.changes) closings
  each-from front [] all = (tt, tt)
  each-from front (closing ∷ closings) all =
      let here = one-from front closing all.0 in
      let rest = each-from (front ++ closing ∷ []) closings all.1 in
      ((here.0, subst (λ (n : ℕ). NumbersRise n closings) (last-of-more front closing) rest.0), (here.1, rest.1))

  pub closings-from : KeepOneByOne Loads [] s.gens.closings → ClosingsRun s → ClosingsStand s
  closings-from all run = (let each = each-from [] s.gens.closings all in record { run = run; rise = each.0; made = each.1 })

  -- And to it.

  module _ (b : StateStands s) where
    one-sound : (front : List Closing) (closing : Closing) → s.received < closing.generation → closing.generation ≤ subscriber_last_closed s → last_number front ≤ closing.moment.0 → closing.moment.0 ≤ s.changes
        → start_subscriber.closing_is_sound (with_closings (subscriber_stored s) (new_holders publication) front) closing ≡ true
    unfolding start_subscriber.closing_is_sound
    one-sound front closing above low rise up = grind (arith, nat_tests, above, low, rise, up)

    each-loads : (front closings : List Closing) (next : ℕ) → s.received < next → Run (subscriber_last_closed s) next closings → NumbersRise (last_number front) closings → AllByRecursion (IsMade s.changes) closings → KeepOneByOne Loads front closings
    each-loads front [] next above run rise made = tt
    each-loads front (closing ∷ closings) next above run rise made =
        let same = run.0 in
        let low : next ≤ subscriber_last_closed s = (let is = run.1 in grind (arith, nat_tests, is)) in
        let first = rise.0 in
        let up = made.0 in
        let changes = b.changes in
        let closed = b.closed in
        let more = last-of-more front closing in (
          (omega (arith, same, low, closed), omega (arith, up, changes), one-sound front closing (omega (arith, same, above)) (omega (arith, same, low)) first up),
          each-loads (front ++ closing ∷ []) closings (next + 1) (omega (arith, above)) run.2 (rise-to (last_number (front ++ closing ∷ [])) closing.moment.0 closings more rise.1) made.1,
        )
      where
        rise-to : (n m : ℕ) (rest : List Closing) → n ≡ m → NumbersRise m rest → NumbersRise n rest
        rise-to n m [] same rises = tt
        rise-to n m (c ∷ rest) same rises = ((let low = rises.0 in omega (arith, same, low)), rises.1)

    pub closings-load : ClosingsStand s → KeepOneByOne Loads [] s.gens.closings
    closings-load stands = each-loads [] s.gens.closings (s.received + 1) (omega arith) stands.run stands.rise stands.made

-- More closings.

rise-lower : (low high : ℕ) (closings : List Closing) → low ≤ high → NumbersRise high closings → NumbersRise low closings
rise-lower low high [] up rise = tt
rise-lower low high (closing ∷ closings) up rise = ((let first = rise.0 in omega (arith, up, first)), rise.1)

rise-append : (low most : ℕ) (closings more : List Closing) → NumbersRise low closings → AllByRecursion (IsMade most) closings → low ≤ most → NumbersRise most more → NumbersRise low (closings ++ more)
rise-append low most [] more rise made up rest = rise-lower low most more up rest
rise-append low most (closing ∷ closings) more rise made up rest = (rise.0, rise-append closing.moment.0 most closings more rise.1 made.1 made.0 rest)

between-rise : (moment : Moment) (from count : ℕ) → NumbersRise moment.0 (map (closing_at moment) (range_with_len from count))
between-rise moment from zero = tt
between-rise moment from (suc count) = (omega arith, between-rise moment (from + 1) count)

between-made : (moment : Moment) (from count : ℕ) → AllByRecursion (IsMade moment.0) (map (closing_at moment) (range_with_len from count))
between-made moment from zero = tt
between-made moment from (suc count) = (omega arith, between-made moment (from + 1) count)

made-more : (changes later : ℕ) (closings : List Closing) → changes ≤ later → AllByRecursion (IsMade changes) closings → AllByRecursion (IsMade later) closings
made-more changes later closings up made = all-weaker (IsMade changes) (IsMade later) (λ closing low. omega (arith, low, up)) closings made

moved-rise : (from to changes : ℕ) (closings : List Closing) → NumbersRise 0 closings → AllByRecursion (IsMade changes) closings → NumbersRise 0 (closings ++ closings_between from to (record { 0 = changes }))
moved-rise from to changes closings rise made = rise-append 0 changes closings (closings_between from to (record { 0 = changes })) rise made (omega arith) (between-rise (record { 0 = changes }) (from + 1) (to - from))

moved-made : (from to changes : ℕ) (closings : List Closing) → AllByRecursion (IsMade changes) closings → AllByRecursion (IsMade changes) (closings ++ closings_between from to (record { 0 = changes }))
moved-made from to changes closings made = all-append (IsMade changes) closings (closings_between from to (record { 0 = changes })) made (between-made (record { 0 = changes }) (from + 1) (to - from))

pub closed-closings : (s : SubscriberTables) → ClosingsStand s → ClosingsStand (subscriber_closed s)
closed-closings s b =
    let to : ℕ = (fill.filling_after_close s.gens.filling).last_closed in record {
      run = run-moved (subscriber_last_closed s) to (s.received + 1) (record { 0 = s.changes }) s.gens.closings (closed-up s.gens.filling) b.run;
      rise = moved-rise (subscriber_last_closed s) to s.changes s.gens.closings b.rise b.made;
      made = moved-made (subscriber_last_closed s) to s.changes s.gens.closings b.made;
    }

-- A local change.

pub changed-closings : (key : Key) (found : Option Version) (held : List (ℕ × Holder)) (s : SubscriberTables) → ClosingsStand s → (let u : SubscriberTables = record s { changes = s.changes + 1; held = held } in ClosingsStand (with_version_if key found u))
changed-closings key None held s b = record { run = b.run; rise = b.rise; made = made-more s.changes (s.changes + 1) s.gens.closings (omega arith) b.made }
changed-closings key (Some version) held s b =
    let to : ℕ = (fill.filled_by s.gens.filling 1).last_closed in
    let made = made-more s.changes (s.changes + 1) s.gens.closings (omega arith) b.made in record {
      run = run-moved (subscriber_last_closed s) to (s.received + 1) (record { 0 = s.changes + 1 }) s.gens.closings (entered-rises s.gens.filling) b.run;
      rise = moved-rise (subscriber_last_closed s) to (s.changes + 1) s.gens.closings b.rise made;
      made = moved-made (subscriber_last_closed s) to (s.changes + 1) s.gens.closings made;
    }

-- A reply that says how far the publisher is.

kept-by : (b : Bool) (low : ℕ) (closing : Closing) (kept : List Closing) → low ≤ closing.moment.0 → NumbersRise closing.moment.0 kept → NumbersRise low (cond b (closing ∷ kept) kept)
kept-by true low closing kept up rise = (up, rise)
kept-by false low closing kept up rise = rise-lower low closing.moment.0 kept up rise

rise-kept : (low : ℕ) (keep : Closing → Bool) (closings : List Closing) → NumbersRise low closings → NumbersRise low (filter keep closings)
rise-kept low keep [] rise = tt
rise-kept low keep (closing ∷ closings) rise = kept-by (keep closing) low closing (filter keep closings) rise.0 (rise-kept closing.moment.0 keep closings rise.1)

pub received-closings : (received : ℕ) (s : SubscriberTables) → s.received ≤ received → received ≤ subscriber_last_closed s → ClosingsStand s → ClosingsStand (with_received received s)
received-closings received s low up b =
    let keep : Closing → Bool = λ c. nat_lt received c.generation in record {
      run = run-forgotten (subscriber_last_closed s) (s.received + 1) received s.gens.closings (omega (arith, low)) up b.run;
      rise = rise-kept 0 keep s.gens.closings b.rise;
      made = all-filter (IsMade s.changes) keep s.gens.closings b.made;
    }
