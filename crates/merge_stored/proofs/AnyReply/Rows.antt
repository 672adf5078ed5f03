-- What a start asks of a subscriber's rows, one behind the other, and what each step leaves of them.
use Rattle.std.specs.List.{AllByRecursion, list_all}
use Rattle.std.specs.List.Sorted.{IsStrictlySortedBy}
use Rattle.std.specs.Map.{keys_of}
use Rattle.std.specs.Prelude.{Bool, List, [], cond, false, if◌then◌else◌, length, nat_le, nat_lt, refl, suc, sum_by, true, zero, ℕ, ◌&&◌, ◌++◌, ◌+◌, ◌<◌, ◌==◌, ◌^◌, ◌||◌, ◌≡◌, ◌≤◌, ◌∷◌}
use Rattle.std.proofs.Common.{ap, arith, subst}
use Rattle.std.proofs.lemmas.Bool.Decides.{nat_tests}
use Rattle.merge_types.specs.Limits.{entry_limit}
use Rattle.merge_types.specs.RowKeys.{key_cmp}
use Rattle.merge_types.specs.declared.row_key.RowKey.{RowKey as Key}
use Rattle.merge_units.specs.declared.site_row.SubscriberRow.{SubscriberRow}
use Rattle.merge_gens.specs.declared.filling.Filling.{Filling}
use Rattle.merge_schema.specs.Valid.{IsValid}
use Rattle.merge_schema.specs.declared.publication.Publication.{Publication}
use Rattle.merge_record.specs.Rows.{AreGenerations, ascend_behind, numbers_ascend}
use Rattle.merge_keeper.specs.Start.{KeepOneByOne, row_was_made, version_is_sound}
use Rattle.merge_keeper.specs.SubscriberRules as of_subscriber
use Rattle.merge_keeper.specs.SubscriberStart as start_subscriber
use Rattle.merge_keeper.specs.declared.stored.SubscriberStored.{SubscriberStored}
use Rattle.merge_model.specs.Publisher.{new_holders}
use Rattle.merge_model.specs.Subscriber.{subscriber_last_closed}
use Rattle.merge_model.specs.Tables.{SubscriberTables}
use Rattle.merge_model.proofs.Lists.Finding.{all-weaker}
use Rattle.merge_typed.specs.Typed.{BodyIsTyped}
use Rattle.merge_honest.proofs.KnownItems.{all-true}
use Rattle.merge_stored.specs.Entries.{room_of, times_kept, total_kept}
use Rattle.merge_stored.specs.Loading.{SubscriberRowLoads}
use Rattle.merge_stored.specs.Stored.{subscriber_stored}
use Rattle.merge_stored.specs.Versions.{VersionIsStored}
use Rattle.merge_stored.proofs.Generations.{times-cons}
use Rattle.merge_stored.proofs.SubscriberRows.{Rows, room-closed, room-open, total-cons}
use Rattle.merge_stored.proofs.SubscriberRowsLoad.{each-there, entries-are, has-room, total-more}
use Rattle.merge_stored.proofs.AnyReply.Conflicts.{body-typed}
use Rattle.merge_stored.proofs.AnyReply.States.{StateStands}
use Rattle.merge_stored.proofs.AnyReply.Versions.{OwnStands, own-from, own-stored}

-- A row's generations ascend, and have been open.
abbrev pub HasOpened : ℕ → ℕ → Type 0
HasOpened last g = g ≤ last + 1

abbrev pub Opened : ℕ → List ℕ → Type 0
Opened last generations = (numbers_ascend generations ≡ true) × AllByRecursion (HasOpened last) generations

abbrev pub RowIs : Publication → ℕ → ℕ → ℕ → Key × SubscriberRow → Type 0
RowIs publication site changes last row = OwnStands publication site changes row.0 row.1.version × (BodyIsTyped row.1.version.body × Opened last row.1.generations)

-- There is room for each entry that is not received.
pub record RowsStand (publication : Publication) (s : SubscriberTables) : Type 0 where
  pub ascending : IsStrictlySortedBy key_cmp (keys_of s.rows)
  pub each : AllByRecursion (RowIs publication s.site.0 s.changes (subscriber_last_closed s)) s.rows
  pub room : (g : ℕ) → s.received < g → total_kept (times_kept g) s.rows ≤ room_of s.gens.filling g

-- Numbers that ascend come once, and are few below a bound.

absent-behind : (g low : ℕ) (xs : List ℕ) → g ≤ low → ascend_behind low xs ≡ true → times_kept g xs ≡ 0
absent-behind g low [] up ascend = refl
absent-behind g low (x ∷ xs) up ascend =
    let above : nat_lt low x ≡ true = grind (arith, ascend) in
    let later : ascend_behind x xs ≡ true = grind (arith, ascend) in
    let high : low < x = grind (arith, nat_tests, above) in
    let differs : (g == x) ≡ false = grind (arith, nat_tests, up, high) in
    let rest = absent-behind g x xs (omega (arith, up, high)) later in
    let one = times-cons g x xs in
    let none : cond (g == x) 1 0 ≡ 0 = ap (λ (b : Bool). (let n : ℕ = cond b 1 0 in n)) differs in
    omega (arith, one, none, rest)

once-by : (b : Bool) (g x : ℕ) (xs : List ℕ) → (g == x) ≡ b → ascend_behind x xs ≡ true → times_kept g xs ≤ 1 → cond b 1 0 + times_kept g xs ≤ 1
once-by true g x xs is later rest =
    let same : g ≤ x = grind (arith, nat_tests, is) in
    let none = absent-behind g x xs same later in
    omega (arith, none)
once-by false g x xs is later rest = omega (arith, rest)

once-behind : (g low : ℕ) (xs : List ℕ) → ascend_behind low xs ≡ true → times_kept g xs ≤ 1
once-behind g low [] ascend = omega arith
once-behind g low (x ∷ xs) ascend =
    let later : ascend_behind x xs ≡ true = grind (arith, ascend) in
    let one = times-cons g x xs in
    let here = once-by (g == x) g x xs refl later (once-behind g x xs later) in
    omega (arith, one, here)

once : (g : ℕ) (xs : List ℕ) → numbers_ascend xs ≡ true → times_kept g xs ≤ 1
once g [] ascend = omega arith
once g (x ∷ xs) ascend =
    let one = times-cons g x xs in
    let here = once-by (g == x) g x xs refl ascend (once-behind g x xs ascend) in
    omega (arith, one, here)

long-behind : (low top : ℕ) (xs : List ℕ) → ascend_behind low xs ≡ true → AllByRecursion (λ (x : ℕ). x ≤ top) xs → low ≤ top → length xs + low ≤ top
long-behind low top [] ascend all up = omega (arith, up)
long-behind low top (x ∷ xs) ascend all up =
    let above : nat_lt low x ≡ true = grind (arith, ascend) in
    let later : ascend_behind x xs ≡ true = grind (arith, ascend) in
    let high : low < x = grind (arith, nat_tests, above) in
    let rest = long-behind x top xs later all.1 all.0 in
    omega (arith, high, rest)

few-of : (top : ℕ) (xs : List ℕ) → numbers_ascend xs ≡ true → AllByRecursion (λ (x : ℕ). x ≤ top) xs → length xs ≤ top + 1
few-of top [] ascend all = omega arith
few-of top (x ∷ xs) ascend all = (let rest = long-behind x top xs ascend all.1 all.0 in omega (arith, rest))

-- what passes for all passes for each that is there
there-by : (b : Bool) (test : ℕ → Bool) (g x n : ℕ) → (g == x) ≡ b → test x ≡ true → 1 ≤ cond b 1 0 + n → (1 ≤ n → test g ≡ true) → test g ≡ true
there-by true test g x n is here some rest = (let same : x ≡ g = grind (arith, nat_tests, is) in subst (λ (k : ℕ). test k ≡ true) same here)
there-by false test g x n is here some rest = rest (omega (arith, some))

passes : (test : ℕ → Bool) (g : ℕ) (xs : List ℕ) → list_all test xs ≡ true → 1 ≤ times_kept g xs → test g ≡ true
passes test g [] all some = absurd (omega (arith, some))
passes test g (x ∷ xs) all some =
    let one = times-cons g x xs in
    there-by (g == x) test g x (times_kept g xs) refl (grind (arith, all)) (omega (arith, one, some)) (λ more. passes test g xs (grind (arith, all)) more)

-- Where a start sees room for one more there is.

space-room : (received entries : ℕ) (filling : Filling) (g : ℕ) (a b : Bool) → nat_le g filling.last_closed ≡ a → (g == filling.last_closed + 1) ≡ b → received < g
    → (nat_le g received || (nat_le g (filling.last_closed + 1) && nat_lt entries (if nat_le g filling.last_closed then entry_limit else filling.filled))) ≡ true → entries + 1 ≤ room_of filling g
space-room received entries filling g true b closed is above space =
    let here : g ≤ filling.last_closed = grind (arith, nat_tests, closed) in
    let room = room-closed filling g here in
    let less : nat_lt entries entry_limit ≡ true = grind (arith, nat_tests, closed, above, space) in
    let low : entries < entry_limit = grind (arith, nat_tests, less) in
    omega (arith, room, low)
space-room received entries filling g false true closed is above space =
    let here : g ≡ filling.last_closed + 1 = grind (arith, nat_tests, is) in
    let room = room-open filling g here in
    let less : nat_lt entries filling.filled ≡ true = grind (arith, nat_tests, closed, above, space) in
    let low : entries < filling.filled = grind (arith, nat_tests, less) in
    omega (arith, room, low)
space-room received entries filling g false false closed is above space =
    let high : filling.last_closed + 1 < g = grind (arith, nat_tests, closed, is) in
    absurd (grind (arith, nat_tests, high, above, space))

opened-by : (a b c : Bool) (g received last : ℕ) → nat_le g received ≡ a → nat_le g (last + 1) ≡ b → (a || (b && c)) ≡ true → received ≤ last → g ≤ last + 1
opened-by true b c g received last is other space own = (let low : g ≤ received = grind (arith, nat_tests, is) in omega (arith, low, own))
opened-by false true c g received last is other space own = grind (arith, nat_tests, other)
opened-by false false c g received last is other space own = absurd cc

module _ (publication : Publication) (s : SubscriberTables) (b : StateStands s) where
  abbrev with_front : Rows → SubscriberStored
  with_front front = of_subscriber.with_rows (subscriber_stored s) (new_holders publication) front

  abbrev Loads : Rows → Key × SubscriberRow → Type 0
  Loads front row = SubscriberRowLoads publication s front row

  abbrev has_space : Rows → ℕ → Bool
  has_space front g = start_subscriber.has_space (with_front front) g

  -- From what a start asks.

  record Parts (front : Rows) (row : Key × SubscriberRow) : Type 0 where
    sound : version_is_sound publication row.0.article row.1.version ≡ true
    made : row_was_made s.site.0 s.changes row.0 row.1.version ≡ true
    spaces : list_all (has_space front) row.1.generations ≡ true

  three : (a b c : Bool) → (a && b && c) ≡ true → (a ≡ true) × (b ≡ true) × (c ≡ true)
  three a b c is = (grind (arith, is), grind (arith, is), grind (arith, is))

  parts-of : (front : Rows) (row : Key × SubscriberRow) → start_subscriber.row_is_sound publication (with_front front) row.0 row.1 ≡ true → Parts front row
  unfolding start_subscriber.row_is_sound
  parts-of front row sound =
      let all = three (version_is_sound publication row.0.article row.1.version) (row_was_made s.site.0 s.changes row.0 row.1.version) (list_all (has_space front) row.1.generations) sound in
      record { sound = all.0; made = all.1; spaces = all.2 }

  each-opened : (front : Rows) (xs : List ℕ) → list_all (has_space front) xs ≡ true → AllByRecursion (HasOpened (subscriber_last_closed s)) xs
  each-opened front [] all = tt
  each-opened front (g ∷ xs) all =
      let space : has_space front g ≡ true = grind (arith, all) in (
        opened-by (nat_le g s.received) (nat_le g (subscriber_last_closed s + 1)) (nat_lt (start_subscriber.entries_in (with_front front) g) (start_subscriber.limit_of (with_front front) g)) g s.received (subscriber_last_closed s) refl refl space b.own,
        each-opened front xs (grind (arith, all)),
      )

  one-from : (front : Rows) (row : Key × SubscriberRow) → Loads front row → RowIs publication s.site.0 s.changes (subscriber_last_closed s) row
  one-from front row loads =
      let parts = parts-of front row loads.2 in (
        own-from publication s.site.0 s.changes row.0 row.1.version loads.0 loads.1.0 parts.sound parts.made,
        (body-typed row.1.version.body loads.1.0.1, (loads.1.1.1, each-opened front row.1.generations parts.spaces)),
      )

  each-from : (front rows : Rows) → KeepOneByOne Loads front rows → AllByRecursion (RowIs publication s.site.0 s.changes (subscriber_last_closed s)) rows
  each-from front [] all = tt
  each-from front (row ∷ rows) all = (one-from front row all.0, each-from (front ++ row ∷ []) rows all.1)

  -- how often a row has a generation, once or not at all
  one-by : (n : ℕ) (front : Rows) (row : Key × SubscriberRow) (g : ℕ) → times_kept g row.1.generations ≡ n → s.received < g → Loads front row → total_kept (times_kept g) front ≤ room_of s.gens.filling g → total_kept (times_kept g) front + times_kept g row.1.generations ≤ room_of s.gens.filling g
  one-by zero front row g is above loads low = omega (arith, is, low)
  one-by (suc n) front row g is above loads low =
      let parts = parts-of front row loads.2 in
      let most = once g row.1.generations loads.1.1.1 in
      let space : has_space front g ≡ true = passes (has_space front) g row.1.generations parts.spaces (omega (arith, is)) in
      let entries = entries-are g front in
      let room = space-room s.received (sum_by (start_subscriber.times_in g) front) s.gens.filling g (nat_le g s.gens.filling.last_closed) (g == s.gens.filling.last_closed + 1) refl refl above space in
      omega (arith, most, entries, room)

  rooms-from : (g : ℕ) → s.received < g → (front rows : Rows) → KeepOneByOne Loads front rows → total_kept (times_kept g) front ≤ room_of s.gens.filling g → total_kept (times_kept g) front + total_kept (times_kept g) rows ≤ room_of s.gens.filling g
  rooms-from g above front [] all low = omega (arith, low)
  rooms-from g above front (row ∷ rows) all low =
      let here = one-by (times_kept g row.1.generations) front row g refl above all.0 low in
      let more = total-more (times_kept g) front row in
      let one = total-cons (times_kept g) row rows in
      let rest = rooms-from g above (front ++ row ∷ []) rows all.1 (omega (arith, here, more)) in
      omega (arith, more, one, rest)

  pub rows-from : IsStrictlySortedBy key_cmp (keys_of s.rows) → KeepOneByOne Loads [] s.rows → RowsStand publication s
  rows-from ascending all = record {
    ascending = ascending;
    each = each-from [] s.rows all;
    room = λ g above. (let up = rooms-from g above [] s.rows all (omega arith) in omega (arith, up));
  }

  -- And to it.

  module _ (front : Rows) (row : Key × SubscriberRow) (room : (g : ℕ) → s.received < g → total_kept (times_kept g) front + times_kept g row.1.generations ≤ room_of s.gens.filling g) where
    space-by : (g : ℕ) (received : Bool) → nat_le g s.received ≡ received → 1 ≤ times_kept g row.1.generations → has_space front g ≡ true
    space-by g true is some = grind (arith, is)
    space-by g false is some =
        let above : s.received < g = grind (arith, nat_tests, is) in
        let up = room g above in
        let same = entries-are g front in
        let entries : sum_by (start_subscriber.times_in g) front < room_of s.gens.filling g = omega (arith, up, some, same) in
        has-room s.received (sum_by (start_subscriber.times_in g) front) s.gens.filling g (nat_le g s.gens.filling.last_closed) (g == s.gens.filling.last_closed + 1) refl refl entries

    spaces : list_all (has_space front) row.1.generations ≡ true
    spaces = all-true (has_space front) row.1.generations
        (all-weaker (λ (g : ℕ). 1 ≤ times_kept g row.1.generations) (λ (g : ℕ). has_space front g ≡ true) (λ g some. space-by g (nat_le g s.received) refl some) row.1.generations (each-there row.1.generations))

    row-sound : version_is_sound publication row.0.article row.1.version ≡ true → row_was_made s.site.0 s.changes row.0 row.1.version ≡ true → start_subscriber.row_is_sound publication (with_front front) row.0 row.1 ≡ true
    unfolding start_subscriber.row_is_sound
    row-sound sound made = (let space = spaces in grind (arith, sound, made, space))

    generations-fit : Opened (subscriber_last_closed s) row.1.generations → AreGenerations row.1.generations
    generations-fit opened =
        let closed = b.closed in
        let few = few-of (subscriber_last_closed s + 1) row.1.generations opened.0 opened.1 in
        ((omega (arith, few, closed), all-weaker (HasOpened (subscriber_last_closed s)) (λ (g : ℕ). g < 2 ^ 64) (λ g low. omega (arith, low, closed)) row.1.generations opened.1), opened.0)

    row-loads : (resolvers : ℕ) → IsValid resolvers publication → RowIs publication s.site.0 s.changes (subscriber_last_closed s) row → Loads front row
    row-loads resolvers valid is =
        let changes = b.changes in
        let stored : VersionIsStored publication s.site.0 s.changes row.0 row.1.version = own-stored publication resolvers valid s.site.0 s.changes (omega (arith, changes)) row.0 row.1.version is.0 is.1.0 in
        (stored.loads.key_fits, (stored.loads.has_record, generations-fit is.1.1), row-sound stored.loads.sound stored.made)

  each-loads : (resolvers : ℕ) → IsValid resolvers publication → (front rows : Rows) → ((g : ℕ) → s.received < g → total_kept (times_kept g) front + total_kept (times_kept g) rows ≤ room_of s.gens.filling g) → AllByRecursion (RowIs publication s.site.0 s.changes (subscriber_last_closed s)) rows → KeepOneByOne Loads front rows
  each-loads resolvers valid front [] room all = tt
  each-loads resolvers valid front (row ∷ rows) room all = (
    row-loads front row (λ g above. (let up = room g above in let one = total-cons (times_kept g) row rows in omega (arith, up, one))) resolvers valid all.0,
    each-loads resolvers valid (front ++ row ∷ []) rows (λ g above. (let up = room g above in let one = total-cons (times_kept g) row rows in let more = total-more (times_kept g) front row in omega (arith, up, one, more))) all.1,
  )

  pub rows-load : (resolvers : ℕ) → IsValid resolvers publication → RowsStand publication s → KeepOneByOne Loads [] s.rows
  rows-load resolvers valid stands = each-loads resolvers valid [] s.rows (λ g above. (let up = stands.room g above in omega (arith, up))) stands.each
