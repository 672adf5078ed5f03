-- A start takes each row of a subscriber behind those in front of it: its generations ascend, and have room.
use Rattle.std.specs.List.{AllByRecursion, list_all}
use Rattle.std.specs.Prelude.{Bool, List, [], cond, false, if◌then◌else◌, length, nat_le, nat_lt, refl, sum_by, true, ℕ, ◌&&◌, ◌++◌, ◌+◌, ◌<◌, ◌==◌, ◌^◌, ◌||◌, ◌≡◌, ◌≤◌, ◌∷◌}
use Rattle.std.proofs.Common.{ap, arith}
use Rattle.std.proofs.lemmas.Bool.Decides.{nat_tests}
use Rattle.std.proofs.lemmas.List.Sums.{sum_by-cons}
use Rattle.merge_types.specs.Limits.{counter_limit, entry_limit}
use Rattle.merge_types.specs.declared.row_key.RowKey.{RowKey as Key}
use Rattle.merge_units.specs.declared.site_row.SubscriberRow.{SubscriberRow}
use Rattle.merge_gens.specs.declared.filling.Filling.{Filling}
use Rattle.merge_schema.specs.declared.publication.Publication.{Publication}
use Rattle.merge_record.specs.Rows.{AreGenerations, numbers_ascend}
use Rattle.merge_keeper.specs.Start.{KeepOneByOne, row_was_made, version_is_sound}
use Rattle.merge_keeper.specs.SubscriberRules as of_subscriber
use Rattle.merge_keeper.specs.SubscriberStart as start_subscriber
use Rattle.merge_keeper.specs.declared.stored.SubscriberStored.{SubscriberStored}
use Rattle.merge_model.specs.History.Model.{Model}
use Rattle.merge_model.specs.Publisher.{new_holders}
use Rattle.merge_model.specs.Failing.Runs.{model_behind}
use Rattle.merge_model.specs.Subscriber.{subscriber_last_closed}
use Rattle.merge_model.specs.Tables.{SubscriberTables}
use Rattle.merge_model.proofs.Lists.Finding.{all-weaker}
use Rattle.merge_laws.specs.Laws.{OfEveryValidRun}
use Rattle.merge_honest.proofs.KnownItems.{all-true}
use Rattle.merge_honest.proofs.Rules.{Known, known-always}
use Rattle.merge_stored.specs.Entries.{Ascends, RowsHaveRoom, room_of, times_kept, total_kept}
use Rattle.merge_stored.specs.Loading.{SubscriberRowLoads, SubscriberRowsLoad}
use Rattle.merge_stored.specs.Stored.{subscriber_stored}
use Rattle.merge_stored.specs.Versions.{VersionIsStored}
use Rattle.merge_stored.proofs.Generations.{times-cons}
use Rattle.merge_stored.proofs.SubscriberRows.{Rows, room-above, room-closed, room-open, rows-have-room, total-cons}
use Rattle.merge_stored.proofs.Versions.{versions-load}

-- Each generation that is kept is kept at least once.
there-by : (g x : ℕ) (xs : List ℕ) → 1 ≤ times_kept g xs → 1 ≤ times_kept g (x ∷ xs)
there-by g x xs some = (let one = times-cons g x xs in omega (arith, one, some))

here-once : (g : ℕ) (xs : List ℕ) → 1 ≤ times_kept g (g ∷ xs)
here-once g xs =
    let one = times-cons g g xs in
    let same : cond (g == g) 1 0 ≡ 1 = (let itself : (g == g) ≡ true = grind (arith, nat_tests) in ap (λ (b : Bool). (let n : ℕ = cond b 1 0 in n)) itself) in
    omega (arith, one, same)

pub each-there : (xs : List ℕ) → AllByRecursion (λ (g : ℕ). 1 ≤ times_kept g xs) xs
each-there [] = tt
each-there (x ∷ xs) = (here-once x xs, all-weaker (λ (g : ℕ). 1 ≤ times_kept g xs) (λ (g : ℕ). 1 ≤ times_kept g (x ∷ xs)) (λ g some. there-by g x xs some) xs (each-there xs))

-- the entries of a generation, as a start counts them
pub entries-are : (g : ℕ) (rows : Rows) → sum_by (start_subscriber.times_in g) rows ≡ total_kept (times_kept g) rows
entries-are g [] = refl
entries-are g (row ∷ rows) = (let one = sum_by-cons (start_subscriber.times_in g) row rows in let other = total-cons (times_kept g) row rows in let rest = entries-are g rows in omega (arith, one, other, rest))

pub total-more : (weigh : List ℕ → ℕ) (front : Rows) (row : Key × SubscriberRow) → total_kept weigh (front ++ row ∷ []) ≡ total_kept weigh front + weigh row.1.generations
total-more weigh [] row = (let nothing : Rows = [] in let one = total-cons weigh row nothing in omega (arith, one))
total-more weigh (first ∷ front) row = (let one = total-cons weigh first (front ++ row ∷ []) in let other = total-cons weigh first front in let rest = total-more weigh front row in omega (arith, one, other, rest))

-- Where a generation has room for one more, a start says so.
pub has-room : (received entries : ℕ) (filling : Filling) (g : ℕ) (a b : Bool) → nat_le g filling.last_closed ≡ a → (g == filling.last_closed + 1) ≡ b → entries < room_of filling g
    → (nat_le g received || (nat_le g (filling.last_closed + 1) && nat_lt entries (if nat_le g filling.last_closed then entry_limit else filling.filled))) ≡ true
has-room received entries filling g true b closed is low =
    let here : g ≤ filling.last_closed = grind (arith, nat_tests, closed) in
    let room = room-closed filling g here in
    let up : entries < entry_limit = omega (arith, room, low) in
    grind (arith, nat_tests, here, up, closed)
has-room received entries filling g false true closed is low =
    let here : g ≡ filling.last_closed + 1 = grind (arith, nat_tests, is) in
    let room = room-open filling g here in
    let up : entries < filling.filled = omega (arith, room, low) in
    grind (arith, nat_tests, here, up, closed)
has-room received entries filling g false false closed is low =
    let above : filling.last_closed + 1 < g = grind (arith, nat_tests, closed, is) in
    let room = room-above filling g above in
    absurd (omega (arith, room, low))

-- it is at most the open one
pub at-most-open : (filling : Filling) (g : ℕ) (a b : Bool) → nat_le g filling.last_closed ≡ a → (g == filling.last_closed + 1) ≡ b → 0 < room_of filling g → g ≤ filling.last_closed + 1
at-most-open filling g true b closed is some = (let here : g ≤ filling.last_closed = grind (arith, nat_tests, closed) in omega (arith, here))
at-most-open filling g false true closed is some = (let here : g ≡ filling.last_closed + 1 = grind (arith, nat_tests, is) in omega (arith, here))
at-most-open filling g false false closed is some = (
    let above : filling.last_closed + 1 < g = grind (arith, nat_tests, closed, is) in
    let room = room-above filling g above in absurd (omega (arith, room, some)))

module _ (publication : Publication) (s : SubscriberTables) (changes : s.changes ≤ counter_limit) (closed : subscriber_last_closed s ≤ counter_limit) where
  abbrev with_front : Rows → SubscriberStored
  with_front front = of_subscriber.with_rows (subscriber_stored s) (new_holders publication) front

  -- one row
  module _ (front : Rows) (row : Key × SubscriberRow) (room : (g : ℕ) → total_kept (times_kept g) front + times_kept g row.1.generations ≤ room_of s.gens.filling g) where
    space-of : (g : ℕ) → 1 ≤ times_kept g row.1.generations → start_subscriber.has_space (with_front front) g ≡ true
    space-of g some =
        let up = room g in
        let low : total_kept (times_kept g) front < room_of s.gens.filling g = omega (arith, up, some) in
        let same = entries-are g front in
        let entries : sum_by (start_subscriber.times_in g) front < room_of s.gens.filling g = omega (arith, low, same) in
        has-room s.received (sum_by (start_subscriber.times_in g) front) s.gens.filling g (nat_le g s.gens.filling.last_closed) (g == s.gens.filling.last_closed + 1) refl refl entries

    spaces : list_all (start_subscriber.has_space (with_front front)) row.1.generations ≡ true
    spaces = all-true (start_subscriber.has_space (with_front front)) row.1.generations (all-weaker (λ (g : ℕ). 1 ≤ times_kept g row.1.generations) (λ (g : ℕ). start_subscriber.has_space (with_front front) g ≡ true) space-of row.1.generations (each-there row.1.generations))

    generation-low : (g : ℕ) → 1 ≤ times_kept g row.1.generations → g < 2 ^ 64
    generation-low g some =
        let up = room g in
        let low = at-most-open s.gens.filling g (nat_le g s.gens.filling.last_closed) (g == s.gens.filling.last_closed + 1) refl refl (omega (arith, up, some)) in
        omega (arith, low, closed)

    generations-fit : length row.1.generations ≤ s.changes → numbers_ascend row.1.generations ≡ true → AreGenerations row.1.generations
    generations-fit few ascend = ((omega (arith, few, changes), all-weaker (λ (g : ℕ). 1 ≤ times_kept g row.1.generations) (λ (g : ℕ). g < 2 ^ 64) generation-low row.1.generations (each-there row.1.generations)), ascend)

    row-sound : version_is_sound publication row.0.article row.1.version ≡ true → row_was_made s.site.0 s.changes row.0 row.1.version ≡ true → start_subscriber.row_is_sound publication (with_front front) row.0 row.1 ≡ true
    unfolding start_subscriber.row_is_sound
    row-sound sound made = (let space = spaces in grind (arith, sound, made, space))

    row-loads : VersionIsStored publication s.site.0 s.changes row.0 row.1.version → length row.1.generations ≤ s.changes → numbers_ascend row.1.generations ≡ true → SubscriberRowLoads publication s front row
    row-loads stored few ascend = (stored.loads.key_fits, (stored.loads.has_record, generations-fit few ascend), row-sound stored.loads.sound stored.made)

  -- one behind the other
  rows-load : (front rows : Rows) → ((g : ℕ) → total_kept (times_kept g) front + total_kept (times_kept g) rows ≤ room_of s.gens.filling g) → total_kept length rows ≤ s.changes → AllByRecursion Ascends rows
      → AllByRecursion (λ (row : Key × SubscriberRow). VersionIsStored publication s.site.0 s.changes row.0 row.1.version) rows → KeepOneByOne (SubscriberRowLoads publication s) front rows
  rows-load front [] room few ascend stored = tt
  rows-load front (row ∷ rows) room few ascend stored =
      let counted = total-cons length row rows in (
        row-loads front row (λ g. (let up = room g in let one = total-cons (times_kept g) row rows in omega (arith, up, one))) stored.0 (omega (arith, few, counted)) ascend.0,
        rows-load (front ++ row ∷ []) rows (λ g. (let up = room g in let one = total-cons (times_kept g) row rows in let more = total-more (times_kept g) front row in omega (arith, up, one, more))) (omega (arith, few, counted)) ascend.1 stored.1,
      )

pub subscriber-rows-load : OfEveryValidRun SubscriberRowsLoad
subscriber-rows-load resolvers publication valid says tallies slips events n s at typed =
    let m : Model = model_behind publication says tallies slips events in
    let k : Known publication m = known-always publication says tallies slips events (resolvers, valid) in
    let b = k.bounded.subscribers n s at in
    let r : RowsHaveRoom s = rows-have-room publication says tallies slips events (resolvers, valid) n s at in
    rows-load publication s b.changes b.closed [] s.rows (λ g. (let up = r.room g in omega (arith, up))) (let few = r.few in omega (arith, few)) r.ascend ((versions-load resolvers publication valid says tallies slips events).subscribers n s at typed)
