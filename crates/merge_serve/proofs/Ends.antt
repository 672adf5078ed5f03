-- A connection that was attended may be closed, and seats grow.
use Rattle.std.proofs.Common.{◌≡◌, ◌≢◌, ◌≤◌, ◌<◌, ◌+◌, ◌++◌, ◌==◌, ◌∙◌, Bool, List, ap, append_assoc, arith, false, length, length-append, refl, slice_index_or, slice_set, subst, sym, true, ℕ}
use Rattle.std.proofs.lemmas.Bool.Decides.{Decides-eqb, nat_tests}
use Rattle.std.proofs.lemmas.List.{get_or-set_other, get_or-set_same, get_or_default}
use Rattle.merge_types.specs.declared.identifiers.Moment.{Moment}
use Rattle.merge_desk.specs.Views.{IsNotedAs, SeatView, seat_noted}
use Rattle.merge_ports.specs.Faults.{Rose}
use Rattle.merge_serve.specs.Attending.{IsAttended, Traffic}
use Rattle.merge_serve.specs.Closing.{IsFresh, IsLater, IsServed, WasClosedAs}
use Rattle.merge_serve.specs.declared.attending.Attended.{Attended}
use Rattle.merge_serve.specs.declared.attending.Attended.TheVariants as attended

-- a count of 0 that rose is not as before
rose-none : (before after : ℕ) → before ≡ 0 → Rose before after → after ≡ before → ⊥
rose-none before after none rose same = omega (arith, none, same, rose)

served_same : (now : Moment) (first a b : Traffic) (s t : SeatView) (done : Attended) → WasClosedAs s t → IsFresh first a → IsAttended now a b s t done → IsServed first b t
served_same now first a b s t (attended.Answered status) closed fresh (answer, due, responds) reads writes =
    rw (← fresh.same) (now, answer, s, closed, (due, responds.1))
served_same now first a b s t attended.ReadFault closed fresh (rose, written, same) reads writes = absurd (rose-none a.read_faults b.read_faults fresh.unread rose (reads ∙ ap (λ (x : Traffic). x.read_faults) (sym fresh.same)))
served_same now first a b s t attended.WriteFault closed fresh (answer, due, responds) reads writes = absurd (rose-none a.write_faults b.write_faults fresh.unfailed responds.0 (writes ∙ ap (λ (x : Traffic). x.write_faults) (sym fresh.same)))

pub served_by : (now : Moment) (first a b : Traffic) (s t : SeatView) (done : Attended) → WasClosedAs s s → IsNotedAs s t → IsFresh first a → IsAttended now a b s t done → IsServed first b t
served_by now first a b s t done closed noted fresh done_so =
    served_same now first a b s t done (noted.0 ∙ closed.0, noted.1 ∙ closed.1, noted.2 ∙ closed.2) fresh done_so

-- a seat that is noted
pub closed_noted : (s t : SeatView) → t ≡ seat_noted s → WasClosedAs t t
closed_noted s t e = rw e (refl, refl, refl)

pub later_noted : (s t u : SeatView) → IsLater s t → u ≡ seat_noted t → IsLater s u
later_noted s t u later e = rw e (record {
  number = later.number;
  call_parts = later.call_parts;
  fault_parts = later.fault_parts;
  more = later.more;
  told = later.told;
  calls = later.calls;
  faults = later.faults;
})

pub later_then : (s t u : SeatView) → IsLater s t → IsLater t u → IsLater s u
later_then s t u a b = record {
  number = b.number ∙ a.number;
  call_parts = b.call_parts ∙ a.call_parts;
  fault_parts = b.fault_parts ∙ a.fault_parts;
  more = a.more ++ b.more;
  told = b.told ∙ ap (λ ms. ms ++ b.more) a.told ∙ append_assoc s.told a.more b.more;
  calls = omega (arith, a.calls, b.calls, length-append a.more b.more);
  faults = omega (arith, a.faults, b.faults);
}

-- all seats are later, and the first once more
module _ (old new : List SeatView) (any more : SeatView) (same : length new ≡ length old) (grown : (i : ℕ) (d : SeatView) → i < length old → IsLater (slice_index_or old i d) (slice_index_or new i d)) (some : 0 < length old)
    (later : IsLater (slice_index_or new 0 any) more) where
  later-at : (i : ℕ) (d : SeatView) → i < length old → (b : Bool) → (i == 0) ≡ b → IsLater (slice_index_or old i d) (slice_index_or (slice_set new 0 more) i d)
  later-at i d inside true first =
      let begins : 0 < length new = omega (arith, same, some) in
      let before : IsLater (slice_index_or old 0 d) (slice_index_or new 0 any) = subst (λ (s : SeatView). IsLater (slice_index_or old 0 d) s) (sym (get_or_default new 0 any d begins)) (grown 0 d some) in
      rw ((Decides-eqb i 0).0 first, get_or-set_same new 0 more d begins) (later_then (slice_index_or old 0 d) (slice_index_or new 0 any) more before later)
  later-at i d inside false behind =
      let other : i ≢ 0 = grind (arith, nat_tests, behind) in
      rw (get_or-set_other new 0 i more d other) (grown i d inside)

  pub first-later : (i : ℕ) (d : SeatView) → i < length old → IsLater (slice_index_or old i d) (slice_index_or (slice_set new 0 more) i d)
  first-later i d inside = later-at i d inside (i == 0) refl
