-- The publisher's records of what it holds and granted keep the rule of a start, after every list of events.
use Rattle.std.specs.BTreeMap.{is_at}
use Rattle.std.specs.List.{AllByRecursion, Contains}
use Rattle.std.specs.List.Sorted.{IsStrictlySortedBy}
use Rattle.std.specs.Map.{keys_of}
use Rattle.std.specs.Ordering.{nat_cmp}
use Rattle.std.specs.Prelude.{Bool, List, Option, Some, [], cond, false, filter, refl, true, ℕ, ◌≡◌, ◌∷◌}
use Rattle.std.specs.declared.cmp.Ordering.TheVariants.{Less}
use Rattle.std.proofs.Common.{ap, arith, subst, sym, ◌∙◌}
use Rattle.std.proofs.lemmas.Bool.Decides.{nat_tests}
use Rattle.std.proofs.lemmas.List.Elements.{All-contains, All-from_recursion, recursion_from_All}
use Rattle.merge_table.proofs.Room.{AreAbove}
use Rattle.merge_ident.specs.Grants.{AreGrants, AreInOrder, IsGranted}
use Rattle.merge_ident.specs.Holders.{Holder}
use Rattle.merge_ident.specs.declared.grants.Grant.{Grant}
use Rattle.merge_schema.specs.Valid.{IsValid}
use Rattle.merge_schema.specs.declared.publication.Publication.{Publication}
use Rattle.merge_keeper.specs.Entries.{held_ranges, was_received}
use Rattle.merge_keeper.specs.PublisherRules as of_publisher
use Rattle.merge_keeper.specs.Stored.{HasGrantKey}
use Rattle.merge_model.specs.Failing.{Slips}
use Rattle.merge_model.specs.Tables.Keys.{at_number}
use Rattle.merge_model.specs.Publisher.{new_holders}
use Rattle.merge_model.specs.Failing.Runs.{model_behind}
use Rattle.merge_model.specs.Tables.{PublisherTables}
use Rattle.merge_model.specs.World.{Saying}
use Rattle.merge_model.specs.declared.event.Event.{Event}
use Rattle.merge_model.proofs.Lists.Finding.{all-weaker}
use Rattle.merge_model.proofs.Lists.{all-both, all-filter, all-three}
use Rattle.merge_typed.specs.Typed.{GrantIsTyped, HolderIsTyped, PublisherIsTyped}
use Rattle.merge_laws.proofs.Runs.ValidRules.{valid-rules}
use Rattle.merge_honest.proofs.HeldRanges.{new-well}
use Rattle.merge_stored.specs.Own.{OwnIsHeld}
use Rattle.merge_stored.specs.PublisherLoading.{RangeRuleHolds}
use Rattle.merge_stored.specs.Ranges.{AllHeldLoad, GrantsLoad, HeldLoads}
use Rattle.merge_stored.specs.Stored.{publisher_stored}
use Rattle.merge_stored.proofs.GrantRule.{GrantOk, Related}
use Rattle.merge_stored.proofs.GrantsKnown.{GrantIsKnown, grants-known}
use Rattle.merge_stored.proofs.HeldKeys.{HasKeys, keys-same}
use Rattle.merge_stored.proofs.HeldWalk.{own-keys}
use Rattle.merge_stored.proofs.Own.{own-held}
use Rattle.merge_stored.proofs.RangeRule.{Facts, GrantFull, HeldOk, contained, range-rule, ranges-last, related-all}
use Rattle.merge_stored.proofs.Ranges.{ranges-load}

-- Each holder is found at its article.

unkeyed : (n : ℕ) (held : List (ℕ × Holder)) → AreAbove nat_cmp n (keys_of held) → AllByRecursion (λ (e : ℕ × Holder). nat_cmp n e.0 ≡ Less) held
unkeyed n [] above = tt
unkeyed n (entry ∷ held) above = (above.0, unkeyed n held above.1)

at-by : (b c : Bool) (first : Holder) (rest : Option Holder) → b ≡ c → (let found : Option Holder = cond b (Some first) rest in found) ≡ cond c (Some first) rest
at-by b c first rest same = ap (λ (b : Bool). (let found : Option Holder = cond b (Some first) rest in found)) same

pub self-at : (held : List (ℕ × Holder)) → IsStrictlySortedBy nat_cmp (keys_of held) → AllByRecursion (λ (e : ℕ × Holder). at_number held e.0 ≡ Some e.1) held
unfolding IsStrictlySortedBy
self-at [] sorted = tt
self-at (x ∷ xs) sorted = (
  at-by (is_at (nat_cmp x.0) x.0) true x.1 (at_number xs x.0) (grind (arith, nat_tests)),
  all-both (λ (e : ℕ × Holder). nat_cmp x.0 e.0 ≡ Less) (λ (e : ℕ × Holder). at_number xs e.0 ≡ Some e.1) (λ (e : ℕ × Holder). at_number (x ∷ xs) e.0 ≡ Some e.1)
      (λ e less at. at-by (is_at (nat_cmp e.0) x.0) false x.1 (at_number xs e.0) (grind (arith, nat_tests, less)) ∙ at) xs (unkeyed x.0 xs sorted.0) (self-at xs sorted.1),
)

above-filter : (keep : ℕ × Holder → Bool) (n : ℕ) (held : List (ℕ × Holder)) → AreAbove nat_cmp n (keys_of held) → AreAbove nat_cmp n (keys_of (filter keep held))
above-filter keep n [] above = tt
above-filter keep n (entry ∷ held) above = elim (keep entry) as (λ (b : Bool). AreAbove nat_cmp n (keys_of (cond b (entry ∷ filter keep held) (filter keep held)))) [
  | true ↦ (above.0, above-filter keep n held above.1)
  | false ↦ above-filter keep n held above.1
]

pub sorted-filter : (keep : ℕ × Holder → Bool) (held : List (ℕ × Holder)) → IsStrictlySortedBy nat_cmp (keys_of held) → IsStrictlySortedBy nat_cmp (keys_of (filter keep held))
unfolding IsStrictlySortedBy
sorted-filter keep [] sorted = tt
sorted-filter keep (entry ∷ held) sorted = elim (keep entry) as (λ (b : Bool). IsStrictlySortedBy nat_cmp (keys_of (cond b (entry ∷ filter keep held) (filter keep held)))) [
  | true ↦ (above-filter keep entry.0 held sorted.0, sorted-filter keep held sorted.1)
  | false ↦ sorted-filter keep held sorted.1
]

-- Of grants in order each stands to each.
pub grants-ok : (grants : List Grant) → AreInOrder grants → AreGrants grants → AllByRecursion HasGrantKey grants → AllByRecursion (GrantOk grants) grants
grants-ok grants order granted keys =
    let some = all-three (Contains grants) HasGrantKey IsGranted (λ (g : Grant). Contains grants g × HasGrantKey g × IsGranted g) (λ g there key values. (there, key, values)) grants (contained grants) keys (recursion_from_All IsGranted grants granted.ranges) in
    all-both (λ (g : Grant). Contains grants g × HasGrantKey g × IsGranted g) (λ (g : Grant). AllByRecursion (Related g) grants) (GrantOk grants)
    (λ g is related. record { there = is.0; key = is.1; values = is.2; related = λ h there. All-contains (Related g) grants h (All-from_recursion (Related g) grants related) there }) grants some (related-all grants order)

-- Grants that load and are known, and what is held of them.
pub range-rule-of : (publication : Publication) (p : PublisherTables) → GrantsLoad p.grants → AllHeldLoad publication p.held → HasKeys publication p.held → ((article : ℕ) (holder : Holder) → at_number p.held article ≡ Some holder → OwnIsHeld p.grants article holder) → AllByRecursion (GrantIsKnown publication) p.grants
    → PublisherIsTyped p → RangeRuleHolds publication p
range-rule-of publication p grants_load held_load has_keys own known typed =
    let begun = keys-same p.held (new_holders publication) has_keys in
    let sorted : IsStrictlySortedBy nat_cmp (keys_of p.held) = subst (λ (keys : List ℕ). IsStrictlySortedBy nat_cmp keys) (sym begun) (new-well publication 0).ascend in
    let keys : AllByRecursion HasGrantKey p.grants = grants_load.keyed typed.grants in
    let oks : AllByRecursion (GrantOk p.grants) p.grants = grants-ok p.grants grants_load.in_order grants_load.granted keys in
    let facts : Facts publication p.grants p.held = record {
      numbered = grants_load.granted.numbered;
      keys = keys;
      grants_full = all-three (GrantOk p.grants) (GrantIsKnown publication) GrantIsTyped (GrantFull publication p.grants) (λ g ok is fits. record { ok = ok; known = is; range = fits.0 }) p.grants oks known typed.grants;
      helds = all-three (HeldLoads publication) HolderIsTyped (λ (e : ℕ × Holder). OwnIsHeld p.grants e.0 e.1) (λ (e : ℕ × Holder). HeldOk publication p.grants e.0 (held_ranges e.1))
          (λ e is fits mine. record { low = is.article; fits = fits; sound = is.sound; have = mine.have; last = ranges-last p.grants e.0 e.1.have e.1.held mine.last }) (filter was_received p.held) held_load.received
          (all-filter HolderIsTyped was_received p.held typed.held)
          (all-filter (λ (e : ℕ × Holder). OwnIsHeld p.grants e.0 e.1) was_received p.held
          (all-weaker (λ (e : ℕ × Holder). at_number p.held e.0 ≡ Some e.1) (λ (e : ℕ × Holder). OwnIsHeld p.grants e.0 e.1) (λ e at. own e.0 e.1 at) p.held (self-at p.held sorted)));
      ascend = sorted-filter was_received p.held sorted;
      begun = begun;
      own = own;
    } in
    range-rule publication p.grants p.held facts (of_publisher.with_conflicts (publisher_stored p) (new_holders publication) p.conflicts) refl refl

pub range-rule-holds : (resolvers : ℕ) (publication : Publication) → IsValid resolvers publication → (says : Saying) (tallies : List ℕ) (slips : Slips) (events : List Event)
    → (let p : PublisherTables = (model_behind publication says tallies slips events).world.publisher in PublisherIsTyped p → RangeRuleHolds publication p)
range-rule-holds resolvers publication valid says tallies slips events typed =
    let p : PublisherTables = (model_behind publication says tallies slips events).world.publisher in
    let loads = ranges-load resolvers publication valid says tallies slips events in
    range-rule-of publication p loads.grants loads.publisher (own-keys publication (valid-rules resolvers publication valid) says tallies slips events (resolvers, valid)).0
    (own-held resolvers publication valid says tallies slips events) (grants-known publication says tallies slips events (resolvers, valid)) typed
