-- What a site holds of the ranges of an article: only of the first range values were used, and each has some left.
-- So it is read back from what is stored of it.
use Rattle.std.specs.List.{AllByRecursion, list_all}
use Rattle.std.specs.Prelude.{Bool, List, [], cond, false, filter, length, map, nat_le, pos, refl, true, ℕ, ℤ, ◌-ℤ◌, ◌+◌, ◌≡◌, ◌≤ℤ◌, ◌≤◌, ◌∷◌}
use Rattle.std.proofs.Common.{ap, arith, subst, sym, ◌∙◌}
use Rattle.std.proofs.lemmas.Bool.Decides.{nat_tests}
use Rattle.std.proofs.lemmas.Int.{ints}
use Rattle.merge_ident.specs.Grants.{natural}
use Rattle.merge_ident.specs.Holders.{Holder, HasValues, Received, after_receive, after_take, has_values, held_after_receive, held_after_take, held_from, new_holder, next_of, range_of, unused, used_once_more}
use Rattle.merge_ident.specs.declared.grants.Range.{Range}
use Rattle.merge_ident.proofs.Taken.{next-has_values, unused_has_values}
use Rattle.merge_schema.specs.declared.publication.Identity.{Identity}
use Rattle.merge_keeper.specs.Entries.{held_ranges, next_held}
use Rattle.merge_keeper.specs.Start as start
use Rattle.merge_keeper.specs.Start.{are_kept, holder_of, is_next_in}

-- a range of which no value was used
abbrev pub IsUnused : Received → Type 0
IsUnused received = (received.used ≡ 0) × (has_values received ≡ true)

abbrev pub PartsAreWell : List Received → Type 0
PartsAreWell [] = Unit {0}
PartsAreWell (first ∷ rest) = (has_values first ≡ true) × AllByRecursion IsUnused rest

-- where no range was received it is as new
pub record IsWell (holder : Holder) : Type 0 where
  pub two : length holder.held ≤ 2
  pub parts : PartsAreWell holder.held
  pub fresh : holder.have ≡ 0 → (holder.held ≡ []) × (holder.last_end ≡ pos 0)

unused-kept : (rest : List Received) → AllByRecursion IsUnused rest → filter has_values rest ≡ rest
unused-kept [] all = refl
unused-kept (received ∷ rest) all = kept-by (has_values received) received rest all.0.1 (unused-kept rest all.1)
  where
    kept-by : (b : Bool) (received : Received) (rest : List Received) → b ≡ true → filter has_values rest ≡ rest → cond b (received ∷ filter has_values rest) (filter has_values rest) ≡ received ∷ rest
    kept-by true received rest is same = ap (λ (l : List Received). received ∷ l) same
    kept-by false received rest is same = absurd cc

rest-parts : (rest : List Received) → AllByRecursion IsUnused rest → PartsAreWell rest
rest-parts [] all = tt
rest-parts (received ∷ rest) all = (all.0.1, all.1)

-- what a take leaves of the first range and those behind it
pub record Leaves (count : ℕ) (held : List Received) : Type 0 where
  pub few : length held ≤ count
  pub parts : PartsAreWell held

take-by : (b : Bool) (first : Received) (rest : List Received) → has_values (used_once_more first) ≡ b → AllByRecursion IsUnused rest → filter has_values rest ≡ rest → Leaves (length rest + 1) (cond b (used_once_more first ∷ filter has_values rest) (filter has_values rest))
take-by true first rest is all same = (
    let kept : AllByRecursion IsUnused (filter has_values rest) = subst (λ (l : List Received). AllByRecursion IsUnused l) (sym same) all in
    let long : length (filter has_values rest) ≡ length rest = ap (λ (l : List Received). length l) same in
    record { few = omega (arith, long); parts = (is, kept) })
take-by false first rest is all same = (
    let kept : AllByRecursion IsUnused (filter has_values rest) = subst (λ (l : List Received). AllByRecursion IsUnused l) (sym same) all in
    let long : length (filter has_values rest) ≡ length rest = ap (λ (l : List Received). length l) same in
    record { few = omega (arith, long); parts = rest-parts (filter has_values rest) kept })

held-taken : (held : List Received) → PartsAreWell held → Leaves (length held) (held_after_take held)
held-taken [] parts = record { few = omega arith; parts = tt }
held-taken (first ∷ rest) parts = (let l = take-by (has_values (used_once_more first)) first rest refl parts.1 (unused-kept rest parts.1) in let few = l.few in record { few = omega (arith, few); parts = l.parts })

none-taken : (held : List Received) → held ≡ [] → held_after_take held ≡ []
none-taken [] is = refl
none-taken (first ∷ rest) is = absurd cc

pub take-well : (holder : Holder) → IsWell holder → IsWell (after_take holder)
take-well holder well = (let l = held-taken holder.held well.parts in record {
  two = (let few = l.few in let two = well.two in omega (arith, few, two));
  parts = l.parts;
  fresh = λ none. (none-taken holder.held (well.fresh none).0, (well.fresh none).1);
})

receive-parts : (held : List Received) (range : Range) → length held ≤ 2 → PartsAreWell held → HasValues range → Leaves 2 (held_after_receive held range)
receive-parts [] range two parts some = record { few = omega arith; parts = (unused_has_values range some, tt) }
receive-parts (a ∷ []) range two parts some = record { few = omega arith; parts = (parts.0, ((refl, unused_has_values range some), tt)) }
receive-parts (a ∷ b ∷ []) range two parts some = record { few = omega arith; parts = (parts.1.0.1, ((refl, unused_has_values range some), tt)) }
receive-parts (a ∷ b ∷ c ∷ held) range two parts some = absurd (omega (arith, two))

pub receive-well : (holder : Holder) (range : Range) → HasValues range → IsWell holder → IsWell (after_receive holder range)
receive-well holder range some well = (let l = receive-parts holder.held range well.two well.parts some in record {
  two = l.few;
  parts = l.parts;
  fresh = λ none. absurd (omega (arith, none));
})

pub new-is-well : (threshold : ℕ) → IsWell (new_holder threshold)
new-is-well threshold = record { two = omega arith; parts = tt; fresh = λ none. (refl, refl) }

-- What is stored of it reads back.

natural-back : (begin : ℤ) (used : ℕ) (d : ℤ) → d ≡ pos used → natural d ≡ used
natural-back begin used d is = ap natural is

used-back : (received : Received) → natural (next_of received -ℤ received.range.begin) ≡ received.used
used-back received = natural-back received.range.begin received.used (next_of received -ℤ received.range.begin) (omega (arith, ints))

rest-back : (rest : List Received) → AllByRecursion IsUnused rest → map unused (map range_of rest) ≡ rest
rest-back [] all = refl
rest-back (received ∷ rest) all =
    ap (λ (n : ℕ). (let r : Received = record { range = received.range; used = n } in r) ∷ map unused (map range_of rest)) (sym all.0.0) ∙ ap (λ (l : List Received). received ∷ l) (rest-back rest all.1)

held-back : (held : List Received) → PartsAreWell held → held_from (map range_of held) (next_held held) ≡ held
held-back [] parts = refl
held-back (first ∷ rest) parts =
    ap (λ (n : ℕ). (let r : Received = record { range = first.range; used = n } in r) ∷ map unused (map range_of rest)) (used-back first) ∙ ap (λ (l : List Received). first ∷ l) (rest-back rest parts.1)

pub holder-back : (identity : Identity) (holder : Holder) → holder.threshold ≡ identity.threshold → IsWell holder → holder_of identity (held_ranges holder) ≡ holder
holder-back identity holder same well =
    ap (λ (n : ℕ). (let h : Holder = record { threshold = n; have = holder.have; last_end = holder.last_end; held = held_from (map range_of holder.held) (next_held holder.held) } in h)) (sym same)
    ∙ ap (λ (l : List Received). record holder { held = l }) (held-back holder.held well.parts)

-- And it is kept as a start asks.

range-some : (received : Received) → has_values received ≡ true → start.has_values received.range ≡ true
range-some received some = (let up = next-has_values received some in let low : received.range.begin ≤ℤ received.range.end = omega (arith, ints, up) in grind (arith, ints, nat_tests, low))

rest-some : (rest : List Received) → AllByRecursion IsUnused rest → list_all start.has_values (map range_of rest) ≡ true
rest-some [] all = refl
rest-some (received ∷ rest) all = (let first = range-some received all.0.1 in let more = rest-some rest all.1 in grind (arith, first, more))

ranges-some : (held : List Received) → PartsAreWell held → list_all start.has_values (map range_of held) ≡ true
ranges-some [] parts = refl
ranges-some (first ∷ rest) parts = (let one = range-some first parts.0 in let more = rest-some rest parts.1 in grind (arith, one, more))

next-in : (held : List Received) → PartsAreWell held → is_next_in (map range_of held) (next_held held) ≡ true
next-in [] parts = grind (arith, ints, nat_tests)
next-in (first ∷ rest) parts = (let up = next-has_values first parts.0 in let low : first.range.begin ≤ℤ next_of first = omega (arith, ints) in grind (arith, ints, nat_tests, up, low))

ranges-few : (held : List Received) → length (map range_of held) ≡ length held
ranges-few [] = refl
ranges-few (first ∷ rest) = (let more = ranges-few rest in omega (arith, more))

pub kept-well : (holder : Holder) → IsWell holder → are_kept (held_ranges holder).ranges (held_ranges holder).next ≡ true
unfolding are_kept
kept-well holder well =
    let long = ranges-few holder.held in
    let two : nat_le (length (map range_of holder.held)) 2 ≡ true = (let few = well.two in grind (arith, nat_tests, long, few)) in
    let some = ranges-some holder.held well.parts in
    let next = next-in holder.held well.parts in
    grind (arith, two, some, next)
