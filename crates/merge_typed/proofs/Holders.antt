-- What a site holds of an article's ranges: its numbers fit, as values are taken and ranges are received.
use Rattle.std.specs.Int.{w64}
use Rattle.std.specs.List.{AllByRecursion}
use Rattle.std.specs.Prelude.{FitsSigned, IfOk, List, [], length, map, negsuc, pos, refl, true, ℕ, ℤ, ◌++◌, ◌+◌, ◌-◌, ◌<◌, ◌^◌, ◌≡◌, ◌≤ℤ◌, ◌≤◌, ◌∷◌}
use Rattle.std.proofs.Common.{arith}
use Rattle.std.proofs.lemmas.Bool.Decides.{nat_tests}
use Rattle.std.proofs.lemmas.Int.{ints}
use Rattle.jiff_core.proofs.SignedLemmas.{signed_arith}
use Rattle.merge_ident.specs.Grants.{natural}
use Rattle.merge_ident.specs.Holders.{AreHeld, HasValues, Holder, Received, after_receive, after_take, answer_by_held, answer_to_take, has_values, held_after_take, new_holder, next_of, range_of, unused, used_once_more}
use Rattle.merge_ident.specs.declared.grants.Range.{Range}
use Rattle.merge_ident.proofs.Taken.{held-receive, held-take, next-has_values}
use Rattle.merge_record.specs.Tables.{IsRange}
use Rattle.merge_keeper.specs.Entries.{next_held}
use Rattle.merge_model.proofs.Lists.Finding.{all-more}
use Rattle.merge_model.proofs.Lists.{all-filter, all-map}
use Rattle.merge_typed.specs.Typed.{HolderIsTyped}
use Rattle.merge_typed.proofs.Entries.{all-left}

-- Whole numbers between two that fit.

pub up-fits : (b : ℤ) (n : ℕ) → FitsSigned w64 b → n ≤ natural b → FitsSigned w64 (pos n)
up-fits (pos m) n fits up = omega (arith, signed_arith, fits, up)
up-fits (negsuc m) n fits up = omega (arith, signed_arith, up)

down-fits : (a : ℤ) (n : ℕ) → FitsSigned w64 a → a ≤ℤ negsuc n → FitsSigned w64 (negsuc n)
down-fits (pos m) n fits low = absurd (omega (arith, ints, low))
down-fits (negsuc m) n fits low = let less : n ≤ m = omega (arith, ints, low) in omega (arith, signed_arith, fits, less)

pub natural-rises : (a b : ℤ) → a ≤ℤ b → natural a ≤ natural b
natural-rises (pos m) (pos n) up = omega (arith, ints, up)
natural-rises (pos m) (negsuc n) up = absurd (omega (arith, ints, up))
natural-rises (negsuc m) (pos n) up = omega arith
natural-rises (negsuc m) (negsuc n) up = omega arith

pub natural-low : (z : ℤ) → FitsSigned w64 z → natural z < 2 ^ 63
natural-low (pos n) fits = omega (arith, signed_arith, fits)
natural-low (negsuc n) fits = omega arith

pub within : (a b z : ℤ) → FitsSigned w64 a → FitsSigned w64 b → a ≤ℤ z → z ≤ℤ b → FitsSigned w64 z
within a b (pos n) one other low up = up-fits b n other (natural-rises (pos n) b up)
within a b (negsuc n) one other low up = down-fits a n one low

-- Holders.

abbrev ReceivedFits : Received → Type 0
ReceivedFits received = IsRange received.range

pub record HolderFits (holder : Holder) : Type 0 where
  pub have : holder.have < 2 ^ 64
  pub last_end : FitsSigned w64 holder.last_end
  pub held : AreHeld holder.held
  pub each : AllByRecursion ReceivedFits holder.held

next-fits : (first : Received) → has_values first ≡ true → IsRange first.range → FitsSigned w64 (next_of first)
next-fits first some is = let low : first.range.begin ≤ℤ next_of first = omega (arith, ints) in within first.range.begin first.range.end (next_of first) is.0 is.1 low (next-has_values first some)

next-held : (held : List Received) → AllByRecursion (λ received. has_values received ≡ true) held → AllByRecursion ReceivedFits held → FitsSigned w64 (next_held held)
next-held [] values each = omega (arith, signed_arith)
next-held (first ∷ rest) values each = next-fits first values.0 each.0

ranges-long : (held : List Received) → length (map range_of held) ≡ length held
ranges-long [] = refl
ranges-long (first ∷ rest) = (let more = ranges-long rest in omega (arith, more))

pub holder-typed : (entry : ℕ × Holder) → HolderFits entry.1 → HolderIsTyped entry
holder-typed entry f =
    let long = ranges-long entry.1.held in
    let two = f.held.two in
    let few : length (map range_of entry.1.held) ≤ 2 = omega (arith, long, two) in
    (f.have, (f.last_end, (((omega (arith, few), all-map ReceivedFits IsRange range_of (λ received is. is) entry.1.held f.each), grind (arith, nat_tests, few)), next-held entry.1.held f.held.values f.each)))

value-by : (last_end : ℤ) (held : List Received) → AllByRecursion (λ received. has_values received ≡ true) held → AllByRecursion ReceivedFits held → IfOk (answer_by_held last_end held) (λ value. FitsSigned w64 value)
value-by last_end [] values each = tt
value-by last_end (first ∷ rest) values each = next-fits first values.0 each.0

pub value-fits : (holder : Holder) → HolderFits holder → IfOk (answer_to_take holder) (λ value. FitsSigned w64 value)
value-fits holder f = value-by holder.last_end holder.held f.held.values f.each

taken-each : (held : List Received) → AllByRecursion ReceivedFits held → AllByRecursion ReceivedFits (held_after_take held)
taken-each [] all = tt
taken-each (first ∷ rest) all = all-filter ReceivedFits has_values (used_once_more first ∷ rest) (all.0, all.1)

pub take-fits : (holder : Holder) → HolderFits holder → HolderFits (after_take holder)
take-fits holder f = record { have = f.have; last_end = f.last_end; held = held-take holder.held f.held; each = taken-each holder.held f.each }

pub receive-fits : (holder : Holder) (range : Range) → IsRange range → HasValues range → holder.have + 1 < 2 ^ 64 → HolderFits holder → HolderFits (after_receive holder range)
receive-fits holder range is some low f = record {
  have = low;
  last_end = is.1;
  held = held-receive holder.held range f.held some;
  each = all-left ReceivedFits (length (holder.held ++ unused range ∷ []) - 2) (holder.held ++ unused range ∷ []) (all-more ReceivedFits holder.held (unused range) f.each is);
}

pub new-fits : (threshold : ℕ) → HolderFits (new_holder threshold)
new-fits threshold = record { have = omega arith; last_end = omega (arith, signed_arith); held = record { two = omega arith; values = tt }; each = tt }
