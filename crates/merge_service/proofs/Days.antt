-- A day at a desk and at its door.
use Rattle.std.proofs.Common.{Bool, suc, zero, Err, List, Ok, Option, Result, None, Some, [], ap, arith, false, length, length-append, map, min, refl, slice_index_or, subst, sym, true, ℕ, ◌+◌, ◌-◌, ◌<◌, ◌^◌, ◌∙◌, ◌∷◌, ◌≡◌, ◌≤◌}
use Rattle.std.proofs.lemmas.Bool.{ltb-false, ltb-true}
use Rattle.std.proofs.lemmas.List.Sums.{sum_by-cons}
use Rattle.std.specs.List.{sum_by}
use Rattle.std.specs.Prelude.{IfSome, if◌then◌else◌, nat_lt}
use Rattle.merge_ports.specs.Faults.{Rose}
use Rattle.merge_ports.specs.declared.outside.OpenFault.{OpenFault}
use Rattle.merge_ports.specs.declared.outside.OpenFault.TheVariants as opening
use Rattle.merge_schema.specs.declared.publication.Publication.{Publication}
use Rattle.merge_model.specs.Tables.{PublisherTables}
use Rattle.merge_model.specs.World.{Saying}
use Rattle.merge_desk.proofs.Differing.{differing-called}
use Rattle.merge_desk.proofs.OneThread.{all-as-one}
use Rattle.merge_desk.specs.Comparing.{AllToldAsKept}
use Rattle.merge_desk.specs.Ending.{IsDiffering}
use Rattle.merge_desk.specs.Views.{AreToldInCalls, IsJournal, SeatView, numbers_from, seat_calls, seat_marks, seat_number}
use Rattle.merge_desk.specs.declared.comparing.Difference.{Difference}
use Rattle.merge_desk.specs.declared.entry.Entry.{Entry}
use Rattle.merge_desk.specs.declared.mark.Mark.{Mark}
use Rattle.merge_serve.specs.Closing.{IsLater}
use Rattle.merge_service.specs.Days.{IsClosing, IsDay, IsOutcome, IsToldDay, IsTornDay, result_of_outcome}
use Rattle.merge_service.specs.Stops.{stop_of_door}
use Rattle.merge_service.specs.declared.day.Outcome.{Outcome}
use Rattle.merge_service.specs.declared.day.Outcome.TheVariants as outcome
use Rattle.merge_service.specs.declared.stop.Stop.{Stop}
use Rattle.merge_service.specs.declared.stop.Stop.TheVariants.{DoorFault}

-- seats that are numbered up to one at least are some
pub some-seats : (seats : List SeatView) (n : ℕ) → map seat_number seats ≡ numbers_from 1 n → 1 ≤ n → 0 < length seats
some-seats [] zero numbered some = absurd (omega (arith, some))
some-seats [] (suc n) numbered some = absurd (cc numbered)
some-seats (s ∷ seats) n numbered some = omega arith

-- a desk that has answered nothing
pub no-journal : (publication : Publication) (says : Saying) (old : PublisherTables) → IsJournal publication says old [] old
no-journal publication says old = record { tables = refl; marks = refl; decided = tt }

-- Each mark that a seat was told stands for a call that it made, and each call that was answered for a mark.

marks-within : (seats : List SeatView) → AreToldInCalls seats → sum_by seat_marks seats ≤ sum_by seat_calls seats
marks-within [] few =
    let marks : sum_by seat_marks [] ≡ 0 = refl in
    let calls : sum_by seat_calls [] ≡ 0 = refl in
    omega (arith, marks, calls)
marks-within (s ∷ seats) few =
    let marks : sum_by seat_marks (s ∷ seats) ≡ length s.told + sum_by seat_marks seats = sum_by-cons seat_marks s seats in
    let calls : sum_by seat_calls (s ∷ seats) ≡ s.calls + sum_by seat_calls seats = sum_by-cons seat_calls s seats in
    let here : length s.told ≤ s.calls = few.0 in
    let others : sum_by seat_marks seats ≤ sum_by seat_calls seats = marks-within seats few.1 in
    omega (arith, marks, calls, here, others)

calls-more : (s t : SeatView) → IsLater s t → t.calls ≤ s.calls + length t.told
calls-more s t later =
    let told : length t.told ≡ length s.told + length later.more = ap (λ (ms : List Mark). length ms) later.told ∙ length-append s.told later.more in
    let calls : t.calls ≡ s.calls + length later.more = later.calls in
    omega (arith, told, calls)

calls-told : (first seats : List SeatView) → length seats ≡ length first → ((i : ℕ) (d : SeatView) → i < length first → IsLater (slice_index_or first i d) (slice_index_or seats i d))
    → sum_by seat_calls seats ≤ sum_by seat_calls first + sum_by seat_marks seats
calls-told [] [] same later =
    let calls : sum_by seat_calls [] ≡ 0 = refl in
    omega (arith, calls)
calls-told [] (t ∷ ts) same later = absurd (omega (arith, same))
calls-told (s ∷ ss) [] same later = absurd (omega (arith, same))
calls-told (s ∷ ss) (t ∷ ts) same later =
    let head : IsLater s t = later 0 s (omega arith) in
    let here : t.calls ≤ s.calls + length t.told = calls-more s t head in
    let others : sum_by seat_calls ts ≤ sum_by seat_calls ss + sum_by seat_marks ts = calls-told ss ts (omega (arith, same)) (λ i d less. later (suc i) d (omega (arith, less))) in
    let calls : sum_by seat_calls (t ∷ ts) ≡ t.calls + sum_by seat_calls ts = sum_by-cons seat_calls t ts in
    let before : sum_by seat_calls (s ∷ ss) ≡ s.calls + sum_by seat_calls ss = sum_by-cons seat_calls s ss in
    let marks : sum_by seat_marks (t ∷ ts) ≡ length t.told + sum_by seat_marks ts = sum_by-cons seat_marks t ts in
    omega (arith, here, others, calls, before, marks)

-- A desk was closed whose seats were told what its journal has of them.
pub closed-so : (publication : Publication) (says : Saying) (old new was : PublisherTables) (seats : List SeatView) (journal : List Entry) (accepted spent given : ℕ) (out : Outcome)
    → out ≡ outcome.Closed journal accepted → new ≡ was → IsJournal publication says old journal was → AllToldAsKept journal seats → length journal ≡ sum_by seat_calls seats → AreToldInCalls seats
    → length journal ≤ spent → spent ≤ given → given ≡ accepted → IsClosing publication says old seats accepted new out
closed-so publication says old new was seats journal accepted spent given out is stands kept told calls few paid within all =
    subst (λ (o : Outcome). IsClosing publication says old seats accepted new o) (sym is)
    (subst (λ (t : PublisherTables). IsJournal publication says old journal t) (sym stands) kept, told, calls, few, omega (arith, paid, within, all), refl)

-- One was closed of which a seat was told something else.
pub torn-so : (publication : Publication) (says : Saying) (old new was : PublisherTables) (seats : List SeatView) (journal : List Entry) (d : Difference) (accepted spent given : ℕ) (out : Outcome)
    → out ≡ outcome.Differs d → new ≡ was → IsDiffering publication says old journal was seats d
    → length journal ≤ spent → spent ≤ given → given ≡ accepted → IsClosing publication says old seats accepted new out
torn-so publication says old new was seats journal d accepted spent given out is stands differs paid within all =
    subst (λ (o : Outcome). IsClosing publication says old seats accepted new o) (sym is)
    (journal, subst (λ (t : PublisherTables). IsDiffering publication says old journal t seats d) (sym stands) differs, omega (arith, paid, within, all))

-- How a desk ends that was closed with the seats of so many workers, which have called since it began.
module _ (publication : Publication) (says : Saying) (old new : PublisherTables) (seats : List SeatView) (workers requests accepted : ℕ) (handed : Option ℕ) (faults : ℕ)
    (numbered : map seat_number seats ≡ numbers_from 1 workers) (answered : sum_by seat_calls seats ≤ sum_by seat_marks seats)
    (few : accepted ≤ requests) (each : IfSome handed (λ (n : ℕ). n ≡ accepted)) (whole : accepted < requests → 0 < faults) where
  told-day : (journal : List Entry) → IsJournal publication says old journal new → AllToldAsKept journal seats → length journal ≡ sum_by seat_calls seats → AreToldInCalls seats → IsToldDay publication says workers journal old new
  told-day journal kept told calls within =
      let most : sum_by seat_marks seats ≤ sum_by seat_calls seats = marks-within seats within in record {
        kept = kept;
        seats = seats;
        numbered = numbered;
        told = all-as-one publication old journal kept.marks seats told;
        whole = omega (arith, most, answered, calls);
      }

  torn-day : (d : Difference) (journal : List Entry) → IsDiffering publication says old journal new seats d → length journal ≤ accepted → IsTornDay publication says old new workers requests handed d
  torn-day d journal differs paid = record {
    journal = journal;
    seats = seats;
    accepted = accepted;
    differing = differs;
    numbered = numbered;
    some = differing-called publication says old journal new seats d differs;
    paid = paid;
    few = few;
    each = each;
  }

  ends-by : (out : Outcome) → IsClosing publication says old seats accepted new out → IsOutcome publication says old new workers requests handed faults out
  ends-by outcome.Unstarted p = absurd p
  ends-by (outcome.Differs d) p = torn-day d p.0 p.1 p.2
  ends-by (outcome.Closed journal many) p =
      let same : many ≡ accepted = p.5 in
      let paid : length journal ≤ accepted = p.4 in
      (told-day journal p.0 p.1 p.2 p.3, subst (λ (k : ℕ). IfSome handed (λ (n : ℕ). n ≡ k)) (sym same) each, omega (arith, few, same), (λ less. whole (omega (arith, less, same))), omega (arith, paid, same))

-- the same of the desk of a publisher, whose seats had made no call
pub ends-so : (p publication : Publication) (s says : Saying) (o old new : PublisherTables) (first seats : List SeatView) (workers requests accepted : ℕ) (handed : Option ℕ) (faults : ℕ) (out : Outcome)
    → p ≡ publication → s ≡ says → o ≡ old → IsClosing p s o seats accepted new out → map seat_number seats ≡ numbers_from 1 workers
    → sum_by seat_calls first ≡ 0 → length seats ≡ length first → ((i : ℕ) (d : SeatView) → i < length first → IsLater (slice_index_or first i d) (slice_index_or seats i d))
    → accepted ≤ requests → IfSome handed (λ (n : ℕ). n ≡ accepted) → (accepted < requests → 0 < faults) → IsOutcome publication says old new workers requests handed faults out
ends-so p publication s says o old new first seats workers requests accepted handed faults out same said began closing numbered none length-same later few each whole =
    let called : sum_by seat_calls seats ≤ sum_by seat_calls first + sum_by seat_marks seats = calls-told first seats length-same later in
    let answered : sum_by seat_calls seats ≤ sum_by seat_marks seats = omega (arith, called, none) in
    ends-by publication says old new seats workers requests accepted handed faults numbered answered few each whole out
    (subst (λ (t : PublisherTables). IsClosing publication says t seats accepted new out) began
    (subst (λ (x : Saying). IsClosing publication x o seats accepted new out) said
    (subst (λ (x : Publication). IsClosing x s o seats accepted new out) same closing)))

-- the journal of a desk is one since these tables
module _ (publication : Publication) (says : Saying) (old new : PublisherTables) (workers requests : ℕ) (handed : Option ℕ) (before : ℕ) where
  all-handed : (accepted : ℕ) (o : Option ℕ) → requests ≤ accepted → accepted ≤ requests → IfSome o (λ (n : ℕ). n ≡ accepted) → IfSome o (λ (n : ℕ). n ≡ requests)
  all-handed accepted None most few same = tt
  all-handed accepted (Some n) most few same = omega (arith, most, few, same)

  module _ (faults after : ℕ) (counted : after ≡ min (before + faults) (2 ^ 64 - 1)) where
    abbrev Day : Result (List Entry) Stop → Type 0
    Day r = IsDay publication says old new workers requests handed before after r

    risen : 0 < faults → Rose before after
    risen some = omega (arith, some, counted)

    closed-day : (journal : List Entry) (accepted : ℕ) → IsToldDay publication says workers journal old new → IfSome handed (λ (n : ℕ). n ≡ accepted) → accepted ≤ requests → (accepted < requests → 0 < faults) → length journal ≤ accepted
        → (b : Bool) → (b ≡ true → accepted < requests) → (b ≡ false → requests ≤ accepted) → Day (if b then Err DoorFault else Ok journal)
    closed-day journal accepted day same few whole paid true less most = (risen (whole (less refl)), (journal, day.kept))
    closed-day journal accepted day same few whole paid false less most = (day, all-handed accepted handed (most refl) few same, omega (arith, paid, few))

    pub day-by : (o : Outcome) → IsOutcome publication says old new workers requests handed faults o → Day (result_of_outcome o requests)
    day-by outcome.Unstarted p = p
    day-by (outcome.Differs d) p = p
    day-by (outcome.Closed journal accepted) p = closed-day journal accepted p.0 p.1 p.2 p.3 p.4 (nat_lt accepted requests) (ltb-true accepted requests) (ltb-false accepted requests)

    pub day-so : (o : Outcome) (r : Result (List Entry) Stop) → r ≡ result_of_outcome o requests → (told : Option ℕ) → handed ≡ told → IsOutcome publication says old new workers requests told faults o → Day r
    day-so o r is told same p = subst Day (sym is) (day-by o (subst (λ (h : Option ℕ). IsOutcome publication says old new workers requests h faults o) (sym same) p))

pub counted-so : (mid before faults after : ℕ) → mid ≡ before → after ≡ min (mid + faults) (2 ^ 64 - 1) → after ≡ min (before + faults) (2 ^ 64 - 1)
counted-so mid before faults after same counted = omega (arith, same, counted)

-- a day of the publisher is one from its tables, as it ended
pub day-of : (p publication : Publication) (s says : Saying) (o old new : PublisherTables) (workers requests : ℕ) (handed : Option ℕ) (before after : ℕ) (r q : Result (List Entry) Stop)
    → p ≡ publication → s ≡ says → o ≡ old → r ≡ q → IsDay p s o new workers requests handed before after r → IsDay publication says old new workers requests handed before after q
day-of p publication s says o old new workers requests handed before after r q same said began is day =
    subst (λ (x : Result (List Entry) Stop). IsDay publication says old new workers requests handed before after x) is
    (subst (λ (t : PublisherTables). IsDay publication says t new workers requests handed before after r) began
    (subst (λ (x : Saying). IsDay publication x o new workers requests handed before after r) said
    (subst (λ (x : Publication). IsDay x s o new workers requests handed before after r) same day)))

-- the door was not opened
module _ (publication : Publication) (says : Saying) (old : PublisherTables) (workers requests : ℕ) (handed : Option ℕ) (before after : ℕ) where
  closed-door : (fault : OpenFault) → (fault ≡ opening.Failed → Rose before after) → IsDay publication says old old workers requests handed before after (Err (stop_of_door fault))
  closed-door opening.Failed rose = (rose refl, ([], no-journal publication says old))
  closed-door opening.NoMemory rose = refl

  pub no-door : (fault : OpenFault) (stop : Stop) → stop ≡ stop_of_door fault → (fault ≡ opening.Failed → Rose before after) → IsDay publication says old old workers requests handed before after (Err stop)
  no-door fault stop is rose = subst (λ (s : Stop). IsDay publication says old old workers requests handed before after (Err s)) (sym is) (closed-door fault rose)
