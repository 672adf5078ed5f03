-- Holders that keep the rules of a start: their articles and thresholds are the publication's, and they are read back from what is stored.
use Rattle.std.specs.List.{AllByRecursion, list_all}
use Rattle.std.specs.Option.{option_map}
use Rattle.std.specs.Prelude.{Bool, List, None, Option, Some, [], false, filter, if◌then◌else◌, int_le, length, map, nat_le, negsuc, pos, refl, true, ℕ, ℤ, ◌&&◌, ◌+ℤ◌, ◌-ℤ◌, ◌<ℤ◌, ◌<◌, ◌==◌, ◌≡◌, ◌≤ℤ◌, ◌≤◌, ◌∷◌}
use Rattle.std.proofs.Common.{ap, arith, subst, sym, ◌∙◌}
use Rattle.std.proofs.lemmas.Bool.Decides.{nat_tests}
use Rattle.std.proofs.lemmas.Int.{ints}
use Rattle.merge_ident.specs.Grants.{natural}
use Rattle.merge_ident.specs.Holders.{Holder, Received, has_values, held_from, unused}
use Rattle.merge_ident.specs.declared.grants.Range.{Range}
use Rattle.merge_ident.proofs.Taken.{unused_has_values}
use Rattle.merge_schema.specs.declared.publication.Identity.{Identity}
use Rattle.merge_schema.specs.declared.publication.Publication.{Publication}
use Rattle.merge_keeper.specs.Entries.{held_ranges, was_received}
use Rattle.merge_keeper.specs.Start as start
use Rattle.merge_keeper.specs.Start.{are_kept, holder_of, identity_at, is_next_in, replaced_at, with_value_at}
use Rattle.merge_keeper.specs.SubscriberRules.{held_with}
use Rattle.merge_model.specs.Publisher.{holder_for, new_holders}
use Rattle.merge_model.specs.Tables.Publications.{identities}
use Rattle.merge_model.proofs.Lists.Finding.{some_same}
use Rattle.merge_stored.proofs.HeldKeys.{HasKeys, IsOfIdentity, each-identity, identities-at, key_threshold}
use Rattle.merge_stored.proofs.HoldersWell.{IsUnused, IsWell, PartsAreWell, new-is-well}

-- What is put in the place of what there was.

module _ (P : ℕ × Holder → Type 0) where
  one-by : (b : Bool) (n : ℕ) (new : Holder) (p : ℕ × Holder) → P (n, new) → P p → (let q : ℕ × Holder = if b then (n, new) else p in P q)
  one-by true n new p here other = here
  one-by false n new p here other = other

  all-replaced : (n : ℕ) (new : Holder) (held : List (ℕ × Holder)) → P (n, new) → AllByRecursion P held → AllByRecursion P (with_value_at held n new)
  all-replaced n new [] here all = tt
  all-replaced n new (p ∷ held) here all = (one-by (p.0 == n) n new p here all.0, all-replaced n new held here all.1)

  pub all-with : (ps held : List (ℕ × Holder)) → AllByRecursion P ps → AllByRecursion P held → AllByRecursion P (held_with held ps)
  all-with [] held news all = all
  all-with (p ∷ ps) held news all = all-with ps (with_value_at held p.0 p.1) news.1 (all-replaced p.0 p.1 held news.0 all)

-- Thresholds stay those of the articles.

module _ (publication : Publication) where
  same-threshold : (a b : ℕ × Holder) → a.0 ≡ b.0 → IsOfIdentity publication a → IsOfIdentity publication b → a.1.threshold ≡ b.1.threshold
  same-threshold a b same one other =
      let found : (let o : Option Identity = Some one.identity in o) ≡ Some other.identity = sym one.found ∙ ap (identity_at publication) same ∙ other.found in
      let is : one.identity ≡ other.identity = some_same one.identity other.identity found in
      one.threshold ∙ ap (λ (i : Identity). i.threshold) is ∙ sym other.threshold

  key-by : (b : Bool) (n : ℕ) (new : Holder) (p : ℕ × Holder) → (p.0 == n) ≡ b → IsOfIdentity publication (n, new) → IsOfIdentity publication p → (let q : ℕ × Holder = if b then (n, new) else p in key_threshold q) ≡ key_threshold p
  key-by true n new p is here other =
      let same : n ≡ p.0 = grind (arith, nat_tests, is) in
      let threshold : new.threshold ≡ p.1.threshold = same-threshold (n, new) p same here other in
      ap (λ (k : ℕ). (let q : ℕ × ℕ = (k, new.threshold) in q)) same ∙ ap (λ (k : ℕ). (let q : ℕ × ℕ = (p.0, k) in q)) threshold
  key-by false n new p is here other = refl

  keys-replaced : (n : ℕ) (new : Holder) (held : List (ℕ × Holder)) → IsOfIdentity publication (n, new) → AllByRecursion (IsOfIdentity publication) held → map key_threshold (with_value_at held n new) ≡ map key_threshold held
  keys-replaced n new [] here all = refl
  keys-replaced n new (p ∷ held) here all =
      ap (λ (k : ℕ × ℕ). k ∷ map key_threshold (with_value_at held n new)) (key-by (p.0 == n) n new p refl here all.0) ∙ ap (λ (l : List (ℕ × ℕ)). key_threshold p ∷ l) (keys-replaced n new held here all.1)

  keys-with : (ps held : List (ℕ × Holder)) → AllByRecursion (IsOfIdentity publication) ps → AllByRecursion (IsOfIdentity publication) held → map key_threshold (held_with held ps) ≡ map key_threshold held
  keys-with [] held news all = refl
  keys-with (p ∷ ps) held news all = keys-with ps (with_value_at held p.0 p.1) news.1 (all-replaced (IsOfIdentity publication) p.0 p.1 held news.0 all) ∙ keys-replaced p.0 p.1 held news.0 all

  -- what reads back is of its article
  abbrev ReadsBack : ℕ × Holder → Type 0
  ReadsBack entry = option_map (λ (identity : Identity). holder_of identity (held_ranges entry.1)) (identity_at publication entry.0) ≡ Some entry.1

  pub record Reads (entry : ℕ × Holder) : Type 0 where
    pub identity : Identity
    pub found : identity_at publication entry.0 ≡ Some identity
    pub same : holder_of identity (held_ranges entry.1) ≡ entry.1

  reads-by : (entry : ℕ × Holder) (found : Option Identity) → identity_at publication entry.0 ≡ found → option_map (λ (identity : Identity). holder_of identity (held_ranges entry.1)) found ≡ Some entry.1 → Reads entry
  reads-by entry None is back = absurd cc
  reads-by entry (Some identity) is back = record { identity = identity; found = is; same = some_same (holder_of identity (held_ranges entry.1)) entry.1 back }

  pub reads : (entry : ℕ × Holder) → ReadsBack entry → Reads entry
  reads entry back = reads-by entry (identity_at publication entry.0) refl back

  of-identity : (entry : ℕ × Holder) → Reads entry → IsOfIdentity publication entry
  of-identity entry r = record { identity = r.identity; found = r.found; threshold = ap (λ (h : Holder). h.threshold) (sym r.same) }

  new-identities : AllByRecursion (IsOfIdentity publication) (new_holders publication)
  new-identities = each-identity publication (new_holders publication) (identities publication) refl (identities-at publication)

  all-identities : (ps : List (ℕ × Holder)) → AllByRecursion ReadsBack ps → AllByRecursion (IsOfIdentity publication) ps
  all-identities [] all = tt
  all-identities (p ∷ ps) all = (of-identity p (reads p all.0), all-identities ps all.1)

  pub keys-from : (held : List (ℕ × Holder)) → AllByRecursion ReadsBack (filter was_received held) → held_with (new_holders publication) (filter was_received held) ≡ held → HasKeys publication held
  keys-from held received all = ap (λ (l : List (ℕ × Holder)). map key_threshold l) (sym all) ∙ keys-with (filter was_received held) (new_holders publication) (all-identities (filter was_received held) received) new-identities

  -- Holders are well.

  natural-less : (a b : ℤ) → pos 0 ≤ℤ a → a <ℤ b → natural a < natural b
  natural-less (pos m) (pos n) from less = omega (arith, ints, less)
  natural-less (pos m) (negsuc n) from less = absurd (omega (arith, ints, less))
  natural-less (negsuc m) b from less = absurd (omega (arith, ints, from))

  next-used : (range : Range) (next : ℤ) → is_next_in (range ∷ []) next ≡ true → has_values (record { range = range; used = natural (next -ℤ range.begin) }) ≡ true
  next-used range next is =
      let low : int_le range.begin next ≡ true = grind (arith, is) in
      let high : int_le next range.end ≡ true = grind (arith, is) in
      let from : range.begin ≤ℤ next = grind (arith, ints, nat_tests, low) in
      let to : next ≤ℤ range.end = grind (arith, ints, nat_tests, high) in
      let less = natural-less (next -ℤ range.begin) ((range.end +ℤ pos 1) -ℤ range.begin) (omega (arith, ints, from)) (omega (arith, ints, to)) in
      grind (arith, nat_tests, less)

  unused-is : (range : Range) → start.has_values range ≡ true → IsUnused (unused range)
  unused-is range some = (refl, unused_has_values range (grind (arith, ints, nat_tests, some)))

  rest-unused : (ranges : List Range) → list_all start.has_values ranges ≡ true → AllByRecursion IsUnused (map unused ranges)
  rest-unused [] all = tt
  rest-unused (range ∷ ranges) all = (unused-is range (grind (arith, all)), rest-unused ranges (grind (arith, all)))

  parts-well : (ranges : List Range) (next : ℤ) → list_all start.has_values ranges ≡ true → is_next_in ranges next ≡ true → PartsAreWell (held_from ranges next)
  parts-well [] next all is = tt
  parts-well (range ∷ ranges) next all is = (next-used range next is, rest-unused ranges (grind (arith, all)))

  from-long : (ranges : List Range) (next : ℤ) → length (held_from ranges next) ≡ length ranges
  from-long [] next = refl
  from-long (range ∷ ranges) next = (let rest = unused-long ranges in omega (arith, rest))
    where
      unused-long : (more : List Range) → length (map unused more) ≡ length more
      unused-long [] = refl
      unused-long (first ∷ more) = (let rest = unused-long more in omega (arith, rest))

  three : (a b c : Bool) → (a && b && c) ≡ true → (a ≡ true) × (b ≡ true) × (c ≡ true)
  three a b c is = (grind (arith, is), grind (arith, is), grind (arith, is))

  kept-parts : (ranges : List Range) (next : ℤ) → are_kept ranges next ≡ true → (nat_le (length ranges) 2 ≡ true) × (list_all start.has_values ranges ≡ true) × (is_next_in ranges next ≡ true)
  unfolding are_kept
  kept-parts ranges next kept = three (nat_le (length ranges) 2) (list_all start.has_values ranges) (is_next_in ranges next) kept

  pub well-from : (entry : ℕ × Holder) → Reads entry → are_kept (held_ranges entry.1).ranges (held_ranges entry.1).next ≡ true → was_received entry ≡ true → IsWell entry.1
  well-from entry r kept received =
      let ranges : List Range = (held_ranges entry.1).ranges in
      let next : ℤ = (held_ranges entry.1).next in
      let parts = kept-parts ranges next kept in
      let two = parts.0 in
      let long = from-long ranges next in
      let same : held_from ranges next ≡ entry.1.held = ap (λ (h : Holder). h.held) r.same in
      let even : length (held_from ranges next) ≡ length entry.1.held = ap (λ (l : List Received). length l) same in
      let few : length ranges ≤ 2 = grind (arith, nat_tests, two) in
      record {
        two = omega (arith, even, long, few);
        parts = subst PartsAreWell same (parts-well ranges next parts.1 parts.2);
        fresh = λ none. absurd (grind (arith, nat_tests, received, none));
      }

  new-wells : (places : List (ℕ × Identity)) → AllByRecursion (λ (entry : ℕ × Holder). IsWell entry.1) (map holder_for places)
  new-wells [] = tt
  new-wells (place ∷ places) = (new-is-well place.1.threshold, new-wells places)

  pub wells-from : (held : List (ℕ × Holder)) → AllByRecursion (λ (entry : ℕ × Holder). IsWell entry.1) (filter was_received held) → held_with (new_holders publication) (filter was_received held) ≡ held → AllByRecursion (λ (entry : ℕ × Holder). IsWell entry.1) held
  wells-from held received all = subst (λ (l : List (ℕ × Holder)). AllByRecursion (λ (entry : ℕ × Holder). IsWell entry.1) l) all (all-with (λ (entry : ℕ × Holder). IsWell entry.1) (filter was_received held) (new_holders publication) received (new-wells (identities publication)))
