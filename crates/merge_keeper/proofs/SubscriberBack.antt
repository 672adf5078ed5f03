-- What a subscriber's store loads to keeps the rules, and the store has no other record than those of its tables.
use Rattle.std.proofs.Common.{◌≡◌, ◌∙◌, ℕ, ◌+◌, ◌^◌, ◌<◌, ◌≤◌, ◌==◌, ◌&&◌, nat_le, nat_lt, Bool, true, false, cond, List, [], ◌∷◌, ◌++◌, map, filter, length, Option, Some, None, is_some, Result, Ok, Err, refl, sym, ap, subst, arith}
use Rattle.std.specs.List.{AllByRecursion}
use Rattle.std.specs.List.Sorted.{IsStrictlySortedBy}
use Rattle.std.specs.Map.{keys_of}
use Rattle.std.specs.Option.{option_map}
use Rattle.std.specs.Ordering.{nat_cmp}
use Rattle.std.specs.declared.cmp.Ordering.TheVariants.{Less}
use Rattle.std.proofs.lemmas.Bool.{eqb-true}
use Rattle.std.proofs.lemmas.Bool.Decides.{nat_tests}
use Rattle.std.proofs.lemmas.Cmp.{ranked}
use Rattle.std.proofs.lemmas.List.{append-nil}
use Rattle.merge_types.specs.RowKeys.{key_cmp}
use Rattle.merge_types.specs.declared.identifiers.Moment.{Moment}
use Rattle.merge_types.specs.declared.identifiers.SiteId.{SiteId}
use Rattle.merge_types.specs.declared.row_key.RowKey.{RowKey}
use Rattle.merge_units.specs.declared.site_row.SubscriberRow.{SubscriberRow}
use Rattle.merge_gens.specs.declared.closings.Closing.{Closing}
use Rattle.merge_conflict.specs.declared.row.ConflictRow.{ConflictRow}
use Rattle.merge_ident.specs.Holders.{Holder}
use Rattle.merge_schema.specs.declared.publication.Publication.{Publication}
use Rattle.merge_ports.specs.declared.entry.EntryKey.{EntryKey}
use Rattle.merge_ports.specs.Entries.{Map, entry_cmp}
use Rattle.merge_record.specs.Rows.{IsSubscriberRow}
use Rattle.merge_record.specs.Tables.{held_bytes, IsHeld, IsRowKey}
use Rattle.merge_record.specs.declared.ranges.HeldRanges.{HeldRanges}
use Rattle.merge_keeper.specs.Encoded.{encoded_entry}
use Rattle.merge_keeper.specs.Entries.{closing_entries, closing_key, closing_pair, closing_value, conflict_key, conflict_pair, conflict_value, held_entries, held_key, held_ranges, row_entry_key, state_key, subscriber_row_value, was_received}
use Rattle.merge_keeper.specs.Given.{IsBeginning, IsMap}
use Rattle.merge_keeper.specs.Orders.{IsSubscriberOrdered}
use Rattle.merge_keeper.specs.Start.{are_kept, conflict_is_sound, holder_of, identity_at, last_conflict, last_conflict_behind, loaded_behind, KeepOneByOne, Loading}
use Rattle.merge_keeper.specs.States.{subscriber_spelling, IsSubscriberState}
use Rattle.merge_keeper.specs.Stored.{subscriber_records, subscriber_state}
use Rattle.merge_keeper.specs.SubscriberRules.{held_with, state_of, KeepRules, Numbered, Run}
use Rattle.merge_keeper.specs.SubscriberStart.{closing_is_sound, first_missing, generation_in, go_from, has_closings, held_is_sound, last_number, loading_of_subscriber, next_behind_entry, no_state, reading_of, row_is_sound, state_is_sound, subscriber_first_state, subscriber_loaded, tables_with, talk_is_sound, with_record}
use Rattle.merge_keeper.specs.declared.states.SubscriberState.{SubscriberState}
use Rattle.merge_keeper.specs.declared.stored.SubscriberStored.{SubscriberStored}
use Rattle.merge_keeper.specs.declared.subscriber_record.SubscriberRecord.{SubscriberRecord}
use Rattle.merge_keeper.specs.declared.subscriber_record.SubscriberRecord.TheVariants.{State, Row, Closed, Lost, Held}
use Rattle.merge_keeper.proofs.Back.{after, found, key_at, split, Ascend, AreFrom, Sound}
use Rattle.merge_keeper.proofs.First.{ok_is}
use Rattle.merge_keeper.proofs.Follow.{closing_keys_order, conflict_keys_order, held_keys_order, row_keys_order}
use Rattle.merge_keeper.proofs.Fronts.{all_mapped, all_so, and_first, and_second, each_so, map_as, map_parts, map_twice, one_by_one, same_number, sorted_as, sorted_split}
use Rattle.merge_keeper.proofs.HeldBack.{after_one_more, held_after, held_keys, held_put, holder_pair, none_left, received_back, restored, IsReceived}
use Rattle.merge_keeper.proofs.Sought.{conflict_entry, last_append, last_skips, numbered_found}
use Rattle.merge_keeper.proofs.SubscriberLoad.{closing_entry, held_entry, missing_skips, one_passed}
use Rattle.merge_keeper.proofs.SubscriberReads.{entry_of, record_is, Fits}
use Rattle.merge_keeper.proofs.SubscriberStates.{sound_state, state_back, state_own}

no_truth : false ≡ true → ⊥
no_truth e = cc

-- ---- which records stand in which table

row_of : (r : SubscriberRecord) → (entry_of r).0.table ≡ 2 → (x : RowKey × SubscriberRow) × (r ≡ Row x.0 x.1)
row_of (State s) e = absurd (omega (arith, e))
row_of (Row key row) e = ((key, row), refl)
row_of (Closed c) e = absurd (omega (arith, e))
row_of (Lost row) e = absurd (omega (arith, e))
row_of (Held article held) e = absurd (omega (arith, e))

closing_of : (r : SubscriberRecord) → (entry_of r).0.table ≡ 4 → (x : Closing) × (r ≡ Closed x)
closing_of (State s) e = absurd (omega (arith, e))
closing_of (Row key row) e = absurd (omega (arith, e))
closing_of (Closed c) e = (c, refl)
closing_of (Lost row) e = absurd (omega (arith, e))
closing_of (Held article held) e = absurd (omega (arith, e))

lost_of : (r : SubscriberRecord) → (entry_of r).0.table ≡ 5 → (x : ConflictRow) × (r ≡ Lost x)
lost_of (State s) e = absurd (omega (arith, e))
lost_of (Row key row) e = absurd (omega (arith, e))
lost_of (Closed c) e = absurd (omega (arith, e))
lost_of (Lost row) e = (row, refl)
lost_of (Held article held) e = absurd (omega (arith, e))

held_of : (r : SubscriberRecord) → (entry_of r).0.table ≡ 6 → (x : ℕ × HeldRanges) × (r ≡ Held x.0 x.1)
held_of (State s) e = absurd (omega (arith, e))
held_of (Row key row) e = absurd (omega (arith, e))
held_of (Closed c) e = absurd (omega (arith, e))
held_of (Lost row) e = absurd (omega (arith, e))
held_of (Held article held) e = ((article, held), refl)

past_three : (r : SubscriberRecord) → 3 ≤ (entry_of r).0.table → 4 ≤ (entry_of r).0.table
past_three (State s) h = absurd (omega (arith, h))
past_three (Row key row) h = absurd (omega (arith, h))
past_three (Closed c) h = omega arith
past_three (Lost row) h = omega arith
past_three (Held article held) h = omega arith

not_past_six : (r : SubscriberRecord) → 7 ≤ (entry_of r).0.table → ⊥
not_past_six (State s) h = omega (arith, h)
not_past_six (Row key row) h = omega (arith, h)
not_past_six (Closed c) h = omega (arith, h)
not_past_six (Lost row) h = omega (arith, h)
not_past_six (Held article held) h = omega (arith, h)

none_past_six : (rs : List SubscriberRecord) → AreFrom entry_of 7 rs → rs ≡ []
none_past_six [] h = refl
none_past_six (r ∷ rs) h = absurd (not_past_six r h.0)

-- a second state breaks a rule
from_two : (publication : Publication) (t : SubscriberStored) (rs : List SubscriberRecord) → Sound (loading_of_subscriber publication) Fits t rs → AreFrom entry_of 2 rs
from_two publication t [] h = tt
from_two publication t (State s ∷ rs) h = absurd (no_truth h.0.1)
from_two publication t (Row key row ∷ rs) h = (omega arith, from_two publication (with_record publication t (Row key row)) rs h.1)
from_two publication t (Closed c ∷ rs) h = (omega arith, from_two publication (with_record publication t (Closed c)) rs h.1)
from_two publication t (Lost row ∷ rs) h = (omega arith, from_two publication (with_record publication t (Lost row)) rs h.1)
from_two publication t (Held article held ∷ rs) h = (omega arith, from_two publication (with_record publication t (Held article held)) rs h.1)

-- ---- closed generations run on

abbrev Rises : ℕ → List Closing → Type 0
Rises next [] = Unit {0}
Rises next (c ∷ cs) = (next ≤ c.generation) × Rises (c.generation + 1) cs

rises_less : (n m : ℕ) (cs : List Closing) → n ≤ m → Rises m cs → Rises n cs
rises_less n m [] le h = tt
rises_less n m (c ∷ cs) le h = (omega (arith, le, h.0), h.1)

less_all : (n : ℕ) (cs : List Closing) → AllByRecursion (λ k. nat_cmp n k ≡ Less) (map (λ (c : Closing). c.generation) cs) → AllByRecursion (λ (c : Closing). n + 1 ≤ c.generation) cs
less_all n [] h = tt
less_all n (c ∷ cs) h = let lt : n < c.generation = ranked n c.generation Less (sym h.0) in (omega (arith, lt), less_all n cs h.1)

rises_of : (next : ℕ) (cs : List Closing) → AllByRecursion (λ (c : Closing). next ≤ c.generation) cs → IsStrictlySortedBy nat_cmp (map (λ (c : Closing). c.generation) cs) → Rises next cs
unfolding IsStrictlySortedBy
rises_of next [] all up = tt
rises_of next (c ∷ cs) all up = (all.0, rises_of (c.generation + 1) cs (less_all c.generation cs up.0) up.1)

stays : (last next : ℕ) (cs : List Closing) → AllByRecursion (λ (c : Closing). c.generation < 2 ^ 64) cs → Rises (next + 1) cs → first_missing last next (map closing_entry cs) ≡ next
stays last next [] fits h = refl
stays last next (c ∷ cs) fits h =
    let differs : (c.generation == next) ≡ false = grind (arith, nat_tests, h.0) in
    one_passed last next c (map closing_entry cs) fits.0
    ∙ ap (λ (b : Bool). first_missing last (cond (b && nat_le c.generation last) (next + 1) next) (map closing_entry cs)) differs
    ∙ stays last next cs fits.1 (rises_less (next + 1) (c.generation + 1) cs (omega (arith, h.0)) h.1)

passes : (last next generation : ℕ) → generation ≡ next → generation ≤ last → next_behind_entry last next (Some generation) ≡ next + 1
passes last next generation same within =
    let here : (generation == next) ≡ true = grind (arith, nat_tests, same) in
    let le : nat_le generation last ≡ true = grind (arith, nat_tests, within) in
    rw (here, le) refl

run_step : (last next : ℕ) (c : Closing) (cs : List Closing) → AllByRecursion (λ (c : Closing). c.generation < 2 ^ 64) (c ∷ cs) → Rises next (c ∷ cs) → c.generation ≤ last → last < first_missing last next (map closing_entry (c ∷ cs))
    → (Rises (next + 1) cs → next + 1 ≤ last + 1 → last < first_missing last (next + 1) (map closing_entry cs) → Run last (next + 1) cs) → (b : Bool) → (c.generation == next) ≡ b → Run last next (c ∷ cs)
run_step last next c cs fits up within most later true e =
    let same : c.generation ≡ next = eqb-true c.generation next e in
    let most_too : last < first_missing last (next + 1) (map closing_entry cs)
    = subst (λ (n : ℕ). last < n) (one_passed last next c (map closing_entry cs) fits.0 ∙ ap (λ (n : ℕ). first_missing last n (map closing_entry cs)) (passes last next c.generation same within)) most in
    (same, grind (arith, nat_tests, same, within), later (subst (λ (n : ℕ). Rises (n + 1) cs) same up.1) (omega (arith, same, within)) most_too)
run_step last next c cs fits up within most later false e =
    let above : next + 1 ≤ c.generation = grind (arith, nat_tests, up.0, e) in
    let same : first_missing last next (map closing_entry (c ∷ cs)) ≡ next = stays last next (c ∷ cs) fits (above, up.1) in
    absurd (omega (arith, above, within, same, most))

run_found : (last next : ℕ) (cs : List Closing) → AllByRecursion (λ (c : Closing). c.generation < 2 ^ 64) cs → Rises next cs → AllByRecursion (λ (c : Closing). c.generation ≤ last) cs → next ≤ last + 1
    → last < first_missing last next (map closing_entry cs) → Run last next cs
run_found last next [] fits up within le most = omega (arith, le, most)
run_found last next (c ∷ cs) fits up within le most =
    run_step last next c cs fits up within.0 most (λ up le most. run_found last (next + 1) cs fits.1 up within.1 le most) (c.generation == next) refl

missing_append : (last next : ℕ) (front rest : Map) → first_missing last next (front ++ rest) ≡ first_missing last (first_missing last next front) rest
missing_append last next [] rest = refl
missing_append last next (e ∷ front) rest = missing_append last (next_behind_entry last next (generation_in e.0)) front rest

bounds_of : (t : SubscriberStored) (c : Closing) → closing_is_sound t c ≡ true → (t.received + 1 ≤ c.generation) × (c.generation ≤ t.filling.last_closed)
unfolding closing_is_sound
bounds_of t c h =
    let above : Bool = nat_lt t.received c.generation in
    let within : Bool = nat_le c.generation t.filling.last_closed in
    let rises : Bool = nat_le (last_number t.closings) c.moment.0 in
    let a = and_first (above && within && rises) (nat_le c.moment.0 t.changes) h in
    let b = and_first (above && within) rises a in
    (grind (arith, nat_tests, and_first above within b), grind (arith, nat_tests, and_second above within b))

-- ---- what is held

received_of : (publication : Publication) (article : ℕ) (held : HeldRanges) → held_is_sound publication article held ≡ true → IsReceived publication (article, held)
unfolding held_is_sound
received_of publication article held h =
    let identity : Bool = is_some (identity_at publication article) in
    let kept : Bool = are_kept held.ranges held.next in
    let a = and_first (identity && kept) (nat_lt 0 held.have) h in
    record { identity = and_first identity kept a; kept = and_second identity kept a; have = and_second (identity && kept) (nat_lt 0 held.have) h }

abbrev IsHeldSo : Publication → ℕ × Holder → Type 0
IsHeldSo publication p = (p.0 < 2 ^ 8) × IsHeld (held_ranges p.1) × (held_is_sound publication p.0 (held_ranges p.1) ≡ true) × (option_map (λ identity. holder_of identity (held_ranges p.1)) (identity_at publication p.0) ≡ Some p.1)

pub held_so : (publication : Publication) (x : ℕ × HeldRanges) → Fits (Held x.0 x.1) → held_is_sound publication x.0 x.1 ≡ true → IsHeldSo publication (holder_pair publication x)
held_so publication x fits sound =
    let r = restored publication x (received_of publication x.0 x.1 sound) in
    subst (λ (h : HeldRanges). (x.0 < 2 ^ 8) × IsHeld h × (held_is_sound publication x.0 h ≡ true) × (option_map (λ identity. holder_of identity h) (identity_at publication x.0) ≡ Some (holder_pair publication x).1))
    (sym r.ranges) (fits.0, fits.1, sound, r.same)

-- ---- the state stands in front

begun_by_test : (q s : SubscriberState) (key : EntryKey) (b : Bool) → (let r : Result SubscriberState EntryKey = cond b (Ok q) (Err key) in r) ≡ Ok s → (q ≡ s) × (b ≡ true)
begun_by_test q s key true e = (ok_is q s e, refl)
begun_by_test q s key false e = absurd cc

record Begins (site : SiteId) (all : Map) (o : Option SubscriberRecord) (s : SubscriberState) : Type 0 where
  read : o ≡ Some (State s)
  sound : state_is_sound site (last_conflict all) s ≡ true
  closings : has_closings all s ≡ true

begins : (site : SiteId) (all : Map) (key : EntryKey) (o : Option SubscriberRecord) (s : SubscriberState) → subscriber_first_state site all key o ≡ Ok s → Begins site all o s
begins site all key None s e = absurd cc
begins site all key (Some (Row k row)) s e = absurd cc
begins site all key (Some (Closed c)) s e = absurd cc
begins site all key (Some (Lost row)) s e = absurd cc
begins site all key (Some (Held article held)) s e = absurd cc
begins site all key (Some (State q)) s e =
    let h = begun_by_test q s key (state_is_sound site (last_conflict all) q && has_closings all q) e in
    let both : (state_is_sound site (last_conflict all) s && has_closings all s) ≡ true = subst (λ (x : SubscriberState). (state_is_sound site (last_conflict all) x && has_closings all x) ≡ true) h.0 h.1 in
    record {
      read = ap (λ (x : SubscriberState). (let o : Option SubscriberRecord = Some (State x) in o)) h.0;
      sound = and_first (state_is_sound site (last_conflict all) s) (has_closings all s) both;
      closings = and_second (state_is_sound site (last_conflict all) s) (has_closings all s) both;
    }

goes_from : (publication : Publication) (site : SiteId) (held : List (ℕ × Holder)) (es : Map) (t : SubscriberStored) (r : Result SubscriberState EntryKey) → go_from publication site held es r ≡ Ok t
    → (s : SubscriberState) × (r ≡ Ok s) × (loaded_behind (loading_of_subscriber publication) (tables_with site held s) es ≡ Ok t)
goes_from publication site held es t (Ok s) e = (s, refl, e)
goes_from publication site held es t (Err key) e = absurd cc

-- ---- the lists behind it

abbrev row_con : RowKey × SubscriberRow → SubscriberRecord
row_con x = Row x.0 x.1

abbrev held_con : ℕ × HeldRanges → SubscriberRecord
held_con x = Held x.0 x.1

abbrev tables : SiteId → List (ℕ × Holder) → SubscriberState → List (RowKey × SubscriberRow) → List Closing → List ConflictRow → List (ℕ × Holder) → SubscriberStored
tables site held s rows closings conflicts now = record (tables_with site held s) { rows = rows; closings = closings; conflicts = conflicts; held = now }

abbrev row_entry : RowKey × SubscriberRow → EntryKey × List ℕ
row_entry = encoded_entry row_entry_key subscriber_row_value

abbrev ranges_entry : ℕ × HeldRanges → EntryKey × List ℕ
ranges_entry x = (held_key x.0, held_bytes x.1)

-- all lists of what loads, each member of which keeps the rules behind those before it
record Lists (publication : Publication) (site : SiteId) (held : List (ℕ × Holder)) (s : SubscriberState) (rs : List SubscriberRecord) : Type 0 where
  rows : List (RowKey × SubscriberRow)
  closings : List Closing
  conflicts : List ConflictRow
  ranges : List (ℕ × HeldRanges)
  parts : rs ≡ map row_con rows ++ (map Closed closings ++ (map Lost conflicts ++ map held_con ranges))
  now_is : after (loading_of_subscriber publication) (tables_with site held s) rs ≡ tables site held s rows closings conflicts (held_after publication held ranges)
  rows_sound : KeepOneByOne (λ f x. Fits (row_con x) × (row_is_sound publication (tables site held s f [] [] held) x.0 x.1 ≡ true)) [] rows
  closings_sound : KeepOneByOne (λ f x. Fits (Closed x) × (closing_is_sound (tables site held s rows f [] held) x ≡ true)) [] closings
  conflicts_sound : KeepOneByOne (λ f x. Fits (Lost x) × (conflict_is_sound publication (length f) s.front.conflicts x ≡ true)) [] conflicts
  ranges_sound : AllByRecursion (λ x. Fits (held_con x) × (held_is_sound publication x.0 x.1 ≡ true)) ranges
  rows_up : IsStrictlySortedBy key_cmp (keys_of rows)
  closings_up : IsStrictlySortedBy nat_cmp (map (λ (c : Closing). c.generation) closings)
  conflicts_up : IsStrictlySortedBy nat_cmp (map (λ (row : ConflictRow). row.number) conflicts)
  ranges_up : IsStrictlySortedBy nat_cmp (map (λ (x : ℕ × HeldRanges). x.0) ranges)

lists : (publication : Publication) (site : SiteId) (held : List (ℕ × Holder)) (s : SubscriberState) (rs : List SubscriberRecord) → Ascend entry_of rs → Sound (loading_of_subscriber publication) Fits (tables_with site held s) rs → Lists publication site held s rs
lists publication site held s rs up sound =
    let l : Loading SubscriberStored SubscriberRecord = loading_of_subscriber publication in
    let a = split l entry_of Fits row_con (λ f. tables site held s f [] [] held) 2 row_of (λ f x. refl) [] rs up (from_two publication (tables_with site held s) rs sound) sound in
    let up_a = sorted_split entry_cmp (key_at entry_of) row_con a.members a.rest (subst (Ascend entry_of) a.parts up) in
    let b = split l entry_of Fits Closed (λ f. tables site held s a.members f [] held) 4 closing_of (λ f x. refl) [] a.rest up_a.1 (all_so (λ r. 3 ≤ (entry_of r).0.table) (λ r. 4 ≤ (entry_of r).0.table) past_three a.rest a.above) a.rest_sound in
    let up_b = sorted_split entry_cmp (key_at entry_of) Closed b.members b.rest (subst (Ascend entry_of) b.parts up_a.1) in
    let c = split l entry_of Fits Lost (λ f. tables site held s a.members b.members f held) 5 lost_of (λ f x. refl) [] b.rest up_b.1 b.above b.rest_sound in
    let up_c = sorted_split entry_cmp (key_at entry_of) Lost c.members c.rest (subst (Ascend entry_of) c.parts up_b.1) in
    let d = split l entry_of Fits held_con (λ f. tables site held s a.members b.members c.members (held_after publication held f)) 6 held_of
    (λ f x. ap (tables site held s a.members b.members c.members) (after_one_more publication held f x)) [] c.rest up_c.1 c.above c.rest_sound in
    let up_d = sorted_split entry_cmp (key_at entry_of) held_con d.members d.rest (subst (Ascend entry_of) d.parts up_c.1) in
    let none : d.rest ≡ [] = none_past_six d.rest d.above in
    let ranges_are : c.rest ≡ map held_con d.members = d.parts ∙ ap (λ (l : List SubscriberRecord). map held_con d.members ++ l) none ∙ append-nil (map held_con d.members) in
    record {
      rows = a.members;
      closings = b.members;
      conflicts = c.members;
      ranges = d.members;
      parts = a.parts ∙ ap (λ (l : List SubscriberRecord). map row_con a.members ++ l) (b.parts ∙ ap (λ (l : List SubscriberRecord). map Closed b.members ++ l) (c.parts ∙ ap (λ (l : List SubscriberRecord). map Lost c.members ++ l) ranges_are));
      now_is = a.after_is ∙ b.after_is ∙ c.after_is ∙ d.after_is ∙ ap (after l (tables site held s a.members b.members c.members (held_after publication held d.members))) none;
      rows_sound = a.sound;
      closings_sound = b.sound;
      conflicts_sound = c.sound;
      ranges_sound = each_so _ _ (λ f x q. q) [] d.members d.sound;
      rows_up = sorted_as entry_cmp key_cmp (λ (x : RowKey × SubscriberRow). row_entry_key x.0) (λ (x : RowKey × SubscriberRow). x.0) (λ (x : RowKey × SubscriberRow). IsRowKey x.0) (λ x y p q. row_keys_order.same x.0 y.0 p q) a.members (each_so _ _ (λ f x q. q.0.0) [] a.members a.sound) up_a.0;
      closings_up = sorted_as entry_cmp nat_cmp (λ (x : Closing). closing_key x.generation) (λ (x : Closing). x.generation) (λ (x : Closing). x.generation < 2 ^ 64) (λ x y p q. closing_keys_order.same x.generation y.generation p q) b.members (each_so _ _ (λ f x q. q.0.0) [] b.members b.sound) up_b.0;
      conflicts_up = sorted_as entry_cmp nat_cmp (λ (x : ConflictRow). conflict_key x.number) (λ (x : ConflictRow). x.number) (λ (x : ConflictRow). x.number < 2 ^ 64) (λ x y p q. conflict_keys_order.same x.number y.number p q) c.members (each_so _ _ (λ f x q. q.0.0) [] c.members c.sound) up_c.0;
      ranges_up = sorted_as entry_cmp nat_cmp (λ (x : ℕ × HeldRanges). held_key x.0) (λ (x : ℕ × HeldRanges). x.0) (λ (x : ℕ × HeldRanges). x.0 < 2 ^ 8) (λ x y p q. held_keys_order.same x.0 y.0 p q) d.members (each_so _ _ (λ f x q. q.0.0) [] d.members d.sound) up_d.0;
    }

-- the entries of the lists
entries_of : (rows : List (RowKey × SubscriberRow)) (closings : List Closing) (conflicts : List ConflictRow) (ranges : List (ℕ × HeldRanges))
    → map entry_of (map row_con rows ++ (map Closed closings ++ (map Lost conflicts ++ map held_con ranges))) ≡ map row_entry rows ++ (map closing_entry closings ++ (map conflict_entry conflicts ++ map ranges_entry ranges))
entries_of rows closings conflicts ranges =
    map_parts entry_of row_con rows (map Closed closings ++ (map Lost conflicts ++ map held_con ranges))
    ∙ ap (λ (m : Map). map row_entry rows ++ m)
    (map_parts entry_of Closed closings (map Lost conflicts ++ map held_con ranges)
    ∙ ap (λ (m : Map). map closing_entry closings ++ m) (map_parts entry_of Lost conflicts (map held_con ranges) ∙ ap (λ (m : Map). map conflict_entry conflicts ++ m) (map_twice entry_of held_con ranges)))

-- ---- all of it

pub record LoadedBack (publication : Publication) (site : SiteId) (held : List (ℕ × Holder)) (es : Map) (t : SubscriberStored) : Type 0 where
  pub keeps : KeepRules publication held t
  pub records : es ≡ subscriber_records t
  pub ordered : IsSubscriberOrdered t
  pub site_is : t.site ≡ site
  pub articles : keys_of t.held ≡ keys_of held

module _ (publication : Publication) (site : SiteId) (held : List (ℕ × Holder)) (beginning : IsBeginning publication held) (s : SubscriberState) (all : Map) (fits : IsSubscriberState s) (sound : state_is_sound site (last_conflict all) s ≡ true) (closed : has_closings all s ≡ true)
    (rs : List SubscriberRecord) (all_is : all ≡ (state_key, subscriber_spelling s) ∷ map entry_of rs) (x : Lists publication site held s rs) where
  abbrev holders : List (ℕ × Holder)
  holders = map (holder_pair publication) x.ranges

  abbrev last : ℕ
  last = s.front.last_closed

  abbrev now : SubscriberStored
  now = tables site held s x.rows x.closings x.conflicts (held_after publication held x.ranges)

  same : state_of (tables_with site held s) ≡ s
  same = state_back site held (last_conflict all) s fits sound

  -- what was found

  entries_are : map entry_of rs ≡ map row_entry x.rows ++ (map closing_entry x.closings ++ (map conflict_entry x.conflicts ++ map ranges_entry x.ranges))
  entries_are = ap (map entry_of) x.parts ∙ entries_of x.rows x.closings x.conflicts x.ranges

  abbrev listed : Map
  listed = (state_key, subscriber_spelling s) ∷ (map row_entry x.rows ++ (map closing_entry x.closings ++ (map conflict_entry x.conflicts ++ map ranges_entry x.ranges)))

  all_listed : all ≡ listed
  all_listed = all_is ∙ ap (λ (m : Map). (state_key, subscriber_spelling s) ∷ m) entries_are

  missing_is : first_missing last (s.talk.received + 1) all ≡ first_missing last (s.talk.received + 1) (map closing_entry x.closings)
  missing_is =
      ap (first_missing last (s.talk.received + 1)) all_listed
      ∙ missing_skips row_entry (λ x. refl) last (s.talk.received + 1) x.rows (map closing_entry x.closings ++ (map conflict_entry x.conflicts ++ map ranges_entry x.ranges))
      ∙ missing_append last (s.talk.received + 1) (map closing_entry x.closings) (map conflict_entry x.conflicts ++ map ranges_entry x.ranges)
      ∙ missing_skips conflict_entry (λ x. refl) last (first_missing last (s.talk.received + 1) (map closing_entry x.closings)) x.conflicts (map ranges_entry x.ranges)
      ∙ ap (first_missing last (first_missing last (s.talk.received + 1) (map closing_entry x.closings))) (sym (append-nil (map ranges_entry x.ranges)))
      ∙ missing_skips ranges_entry (λ x. refl) last (first_missing last (s.talk.received + 1) (map closing_entry x.closings)) x.ranges []

  last_found : last_conflict all ≡ last_conflict_behind 0 (map conflict_entry x.conflicts)
  last_found =
      ap last_conflict all_listed
      ∙ last_skips row_entry (λ x. refl) 0 x.rows (map closing_entry x.closings ++ (map conflict_entry x.conflicts ++ map ranges_entry x.ranges))
      ∙ last_skips closing_entry (λ x. refl) 0 x.closings (map conflict_entry x.conflicts ++ map ranges_entry x.ranges)
      ∙ last_append 0 (map conflict_entry x.conflicts) (map ranges_entry x.ranges)
      ∙ ap (last_conflict_behind (last_conflict_behind 0 (map conflict_entry x.conflicts))) (sym (append-nil (map ranges_entry x.ranges)))
      ∙ last_skips ranges_entry (λ x. refl) (last_conflict_behind 0 (map conflict_entry x.conflicts)) x.ranges []

  closing_bounds : AllByRecursion (λ (c : Closing). (s.talk.received + 1 ≤ c.generation) × (c.generation ≤ last)) x.closings
  closing_bounds = each_so _ _ (λ f c q. bounds_of (tables site held s x.rows f [] held) c q.1) [] x.closings x.closings_sound

  runs : Run last (s.talk.received + 1) x.closings
  runs =
      let most : nat_lt last (first_missing last (s.talk.received + 1) (map closing_entry x.closings)) ≡ true = sym (ap (nat_lt last) missing_is) ∙ closed in
      let state = sound_state site (last_conflict all) s sound in
      run_found last (s.talk.received + 1) x.closings (each_so _ _ (λ f c q. q.0.0) [] x.closings x.closings_sound)
      (rises_of (s.talk.received + 1) x.closings (all_so _ _ (λ c q. q.0) x.closings closing_bounds) x.closings_up) (all_so _ _ (λ c q. q.1) x.closings closing_bounds)
      (omega (arith, state.received)) (grind (arith, nat_tests, most))

  numbers : Numbered s.front.conflicts 0 x.conflicts
  numbers =
      let state = sound_state site (last_conflict all) s sound in
      numbered_found publication s.front.conflicts [] x.conflicts (one_by_one _ _ (λ f row q. (q.0.0, q.1)) [] x.conflicts x.conflicts_sound) (omega arith) (subst (λ (n : ℕ). s.front.conflicts ≤ n) last_found state.conflicts)

  got : AllByRecursion (IsReceived publication) x.ranges
  got = all_so _ _ (λ y q. received_of publication y.0 y.1 q.1) x.ranges x.ranges_sound

  put_is : held_after publication held x.ranges ≡ held_with held holders
  put_is = held_put publication held x.ranges got

  holder_keys : keys_of holders ≡ map (λ (y : ℕ × HeldRanges). y.0) x.ranges
  holder_keys = map_twice (λ (p : ℕ × Holder). p.0) (holder_pair publication) x.ranges

  received_are : filter was_received (held_after publication held x.ranges) ≡ holders
  received_are =
      ap (filter was_received) put_is
      ∙ received_back held holders beginning.ascends beginning.none (subst (IsStrictlySortedBy nat_cmp) (sym holder_keys) x.ranges_up)
      (all_mapped _ (holder_pair publication) x.ranges (all_so _ _ (λ y r. (restored publication y r).received) x.ranges got))
      (all_mapped _ (holder_pair publication) x.ranges (all_so _ _ (λ y r. beginning.each y.0 r.identity) x.ranges got))

  keeps_rules : KeepRules publication held now
  keeps_rules = record {
    fits = subst IsSubscriberState (sym same) fits;
    state = ap (state_is_sound site s.front.conflicts) same ∙ state_own site (last_conflict all) s sound;
    rows = subst (λ (q : SubscriberState). KeepOneByOne (λ front row. IsRowKey row.0 × IsSubscriberRow row.1 × (row_is_sound publication (tables site held q front [] [] held) row.0 row.1 ≡ true)) [] x.rows) (sym same)
        (one_by_one _ _ (λ f y q. (q.0.0, q.0.1, q.1)) [] x.rows x.rows_sound);
    closings = subst (λ (q : SubscriberState). KeepOneByOne (λ front closing. (closing.generation < 2 ^ 64) × (closing.moment.0 < 2 ^ 64) × (closing_is_sound (tables site held q x.rows front [] held) closing ≡ true)) [] x.closings) (sym same)
        (one_by_one _ _ (λ f y q. (q.0.0, q.0.1, q.1)) [] x.closings x.closings_sound);
    run = runs;
    conflicts = one_by_one _ _ (λ f y q. (q.0.0, q.0.1, q.1)) [] x.conflicts x.conflicts_sound;
    numbered = numbers;
    received = subst (AllByRecursion (IsHeldSo publication)) (sym received_are) (all_mapped _ (holder_pair publication) x.ranges (all_so _ _ (λ y q. held_so publication y q.0 q.1) x.ranges x.ranges_sound));
    all_held = ap (held_with held) received_are ∙ sym put_is;
  }

  held_entries_are : held_entries (held_after publication held x.ranges) ≡ map ranges_entry x.ranges
  held_entries_are =
      ap (map held_entry) received_are
      ∙ map_twice held_entry (holder_pair publication) x.ranges
      ∙ map_as _ _ x.ranges (all_so _ _ (λ y r. ap (λ (h : HeldRanges). (let e : EntryKey × List ℕ = (held_key y.0, held_bytes h) in e)) (restored publication y r).ranges) x.ranges got)

  records_are : all ≡ subscriber_records now
  records_are =
      all_listed
      ∙ ap (λ (q : SubscriberState). (let m : Map = (state_key, subscriber_spelling q) ∷ (map row_entry x.rows ++ (map closing_entry x.closings ++ (map conflict_entry x.conflicts ++ map ranges_entry x.ranges))) in m)) (sym same)
      ∙ ap (λ (m : Map). (let all : Map = (state_key, subscriber_state now) ∷ (map row_entry x.rows ++ (map closing_entry x.closings ++ (map conflict_entry x.conflicts ++ m))) in all)) (sym held_entries_are)
      ∙ ap (λ (m : Map). (let all : Map = (state_key, subscriber_state now) ∷ (map row_entry x.rows ++ (m ++ (map conflict_entry x.conflicts ++ held_entries now.held))) in all)) (sym (map_twice (encoded_entry closing_key closing_value) closing_pair x.closings))
      ∙ ap (λ (m : Map). (let all : Map = (state_key, subscriber_state now) ∷ (map row_entry x.rows ++ (closing_entries x.closings ++ (m ++ held_entries now.held))) in all)) (sym (map_twice (encoded_entry conflict_key conflict_value) conflict_pair x.conflicts))

  articles_are : keys_of now.held ≡ keys_of held
  articles_are = ap keys_of put_is ∙ held_keys held holders

  is_back : LoadedBack publication site held all now
  is_back = record {
    keeps = keeps_rules;
    records = records_are;
    ordered = record {
      rows = x.rows_up;
      closings = subst (IsStrictlySortedBy nat_cmp) (sym (map_twice (λ (p : ℕ × Moment). p.0) closing_pair x.closings)) x.closings_up;
      conflicts = subst (IsStrictlySortedBy nat_cmp) (sym (map_twice (λ (p : ℕ × ConflictRow). p.0) conflict_pair x.conflicts)) x.conflicts_up;
      held = subst (IsStrictlySortedBy nat_cmp) (sym articles_are) beginning.ascends;
    };
    site_is = refl;
    articles = articles_are;
  }

pub loaded_back : (publication : Publication) (site : SiteId) (held : List (ℕ × Holder)) (e : EntryKey × List ℕ) (es : Map) (t : SubscriberStored) → IsMap (e ∷ es) → IsBeginning publication held
    → subscriber_loaded publication site held (e ∷ es) ≡ Ok t → LoadedBack publication site held (e ∷ es) t
unfolding IsStrictlySortedBy
loaded_back publication site held e es t map_fits beginning h =
    let g = goes_from publication site held es t (subscriber_first_state site (e ∷ es) e.0 (reading_of e)) h in
    let b = begins site (e ∷ es) e.0 (reading_of e) g.0 g.1 in
    let first = record_is e map_fits.bytes.0 (State g.0) b.read in
    let f = found (loading_of_subscriber publication) entry_of Fits record_is es (tables_with site held g.0) t map_fits.bytes.1 g.2 in
    let up : Ascend entry_of f.records = subst (IsStrictlySortedBy entry_cmp) (ap keys_of f.entries ∙ map_twice (λ (p : EntryKey × List ℕ). p.0) entry_of f.records) map_fits.ascends.1 in
    let x = lists publication site held g.0 f.records up f.sound in
    let all_is : e ∷ es ≡ (state_key, subscriber_spelling g.0) ∷ map entry_of f.records = ap (λ (q : EntryKey × List ℕ). (let m : Map = q ∷ es in m)) first.0 ∙ ap (λ (m : Map). (state_key, subscriber_spelling g.0) ∷ m) f.entries in
    subst (LoadedBack publication site held (e ∷ es)) (sym x.now_is ∙ f.now_is) (is_back publication site held beginning g.0 (e ∷ es) first.1 b.sound b.closings f.records all_is x)

-- ---- a store of no entries

none_sound : (site : SiteId) → state_is_sound site 0 (no_state site) ≡ true
unfolding state_is_sound talk_is_sound
none_sound site = rw (same_number site.0) refl

none_fits : (site : SiteId) → site.0 < 2 ^ 16 → IsSubscriberState (no_state site)
none_fits site lt = ((lt, (omega arith, (omega arith, (omega arith, (omega arith, omega arith))))), ((omega arith, (omega arith, (omega arith, (omega arith, (omega arith, (omega arith, (omega arith, omega arith))))))), refl))

pub none_keeps : (publication : Publication) (site : SiteId) (held : List (ℕ × Holder)) → site.0 < 2 ^ 16 → IsBeginning publication held → KeepRules publication held (tables_with site held (no_state site))
none_keeps publication site held lt beginning =
    let none : filter was_received held ≡ [] = none_left held beginning.none in
    record {
      fits = none_fits site lt;
      state = none_sound site;
      rows = tt;
      closings = tt;
      run = refl;
      conflicts = tt;
      numbered = refl;
      received = subst (AllByRecursion (IsHeldSo publication)) (sym none) tt;
      all_held = ap (held_with held) none;
    }

pub none_ordered : (publication : Publication) (site : SiteId) (held : List (ℕ × Holder)) → IsBeginning publication held → IsSubscriberOrdered (tables_with site held (no_state site))
unfolding IsStrictlySortedBy
none_ordered publication site held beginning = record { rows = tt; closings = tt; conflicts = tt; held = beginning.ascends }

-- ---- what is said of whatever loads

pub loaded_keeps : (publication : Publication) (site : SiteId) (held : List (ℕ × Holder)) (es : Map) (t : SubscriberStored) → site.0 < 2 ^ 16 → IsMap es → IsBeginning publication held → subscriber_loaded publication site held es ≡ Ok t → KeepRules publication held t
loaded_keeps publication site held [] t lt map_fits beginning h = subst (KeepRules publication held) (ok_is (tables_with site held (no_state site)) t h) (none_keeps publication site held lt beginning)
loaded_keeps publication site held (e ∷ es) t lt map_fits beginning h = (loaded_back publication site held e es t map_fits beginning h).keeps

pub loaded_ordered : (publication : Publication) (site : SiteId) (held : List (ℕ × Holder)) (es : Map) (t : SubscriberStored) → IsMap es → IsBeginning publication held → subscriber_loaded publication site held es ≡ Ok t → IsSubscriberOrdered t
loaded_ordered publication site held [] t map_fits beginning h = subst IsSubscriberOrdered (ok_is (tables_with site held (no_state site)) t h) (none_ordered publication site held beginning)
loaded_ordered publication site held (e ∷ es) t map_fits beginning h = (loaded_back publication site held e es t map_fits beginning h).ordered

pub loaded_articles : (publication : Publication) (site : SiteId) (held : List (ℕ × Holder)) (es : Map) (t : SubscriberStored) → IsMap es → IsBeginning publication held → subscriber_loaded publication site held es ≡ Ok t → (t.site ≡ site) × (keys_of t.held ≡ keys_of held)
loaded_articles publication site held [] t map_fits beginning h = subst (λ (t : SubscriberStored). (t.site ≡ site) × (keys_of t.held ≡ keys_of held)) (ok_is (tables_with site held (no_state site)) t h) (refl, refl)
loaded_articles publication site held (e ∷ es) t map_fits beginning h = let b = loaded_back publication site held e es t map_fits beginning h in (b.site_is, b.articles)
