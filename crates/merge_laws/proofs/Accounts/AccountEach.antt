-- Where the invariant holds, every change is accounted for.
use Rattle.std.specs.Prelude.{◌≡◌, ◌<◌, ◌==◌, ◌&&◌, ◌||◌, List, [], Bool, true, false, Option, Some, None, refl, nat_lt, option_map, unwrap_or}
use Rattle.std.specs.List.{list_any}
use Rattle.std.proofs.Common.{arith, sym, ap, ◌∙◌}
use Rattle.std.proofs.lemmas.Bool.Decides.{nat_tests}
use Rattle.std.proofs.lemmas.List.Elements.{All-from_recursion}
use Rattle.merge_schema.specs.declared.publication.Publication.{Publication}
use Rattle.merge_model.specs.Judge.ByHistory.{is_unsent_by_made}
use Rattle.merge_model.specs.History.{History, MadeChange, has, made_at, past_at}
use Rattle.merge_model.specs.Tables.Keys.{at_number, same_key}
use Rattle.merge_model.specs.History.Model.{Model}
use Rattle.merge_model.specs.Laws.Promises.{AllAccounted, Place, descends, is_accounted, is_kept, received_at}
use Rattle.merge_model.specs.Tables.{SubscriberTables}
use Rattle.merge_model.specs.World.{World}
use Rattle.merge_laws.specs.Facts.Accounts.{IsSafe, OfAccounts, is_kept_elsewhere, is_made_at, is_settled, makes}
use Rattle.merge_laws.specs.Facts.LineagesStand.{is_of}
use Rattle.merge_laws.specs.Facts.Numbered.{Numbered}
use Rattle.merge_laws.proofs.Accounts.AccountElements.{IsIn, all-in, any-in, each-in, made-in, places-all}
use Rattle.merge_model.proofs.Lists.KeyLookUps.{key-itself}

module _ (publication : Publication) (w : World) (h : History) (n : Numbered w h) (a : OfAccounts publication w h) where
  abbrev m : Model
  m = record { world = w; history = h }

  -- a change that is safe is kept
  safe-kept : (c : MadeChange) (place : Place) → IsIn c h.made → makes c place ≡ true → IsSafe h c → is_kept m c place ≡ true
  safe-kept c place is does safe =
      let made : is_made_at h.made c.key c.dot place ≡ true = made-in h.made c place is does in
      let known : has (past_at h 0 c.key).known c.dot ≡ true → (descends (past_at h 0 c.key).chains place c.dot || is_kept_elsewhere h.lost h.purged c.key place c.dot) ≡ true = (a.held 0 c.key).holds c.dot place made in
      let either = safe place does in
      grind (arith, known, either)

  -- one that is not settled is in its own site's row
  unsent-kept : (c : MadeChange) (place : Place) (s : SubscriberTables) → IsIn c h.made → makes c place ≡ true → at_number w.subscribers c.dot.site.0 ≡ Some s → s.received < c.generation → is_kept m c place ≡ true
  unsent-kept c place s is does at above =
      let made : is_made_at h.made c.key c.dot place ≡ true = made-in h.made c place is does in
      let own : is_of c.dot.site.0 c ≡ true = grind (arith, nat_tests) in
      let known : has (past_at h c.dot.site.0 c.key).known c.dot ≡ true = all-in (λ (x : MadeChange). is_of c.dot.site.0 x ≡ true → s.received < x.generation → has (past_at h c.dot.site.0 x.key).known x.dot ≡ true) h.made c (a.unsent c.dot.site.0 s at) is own above in
      let holds : (descends (past_at h c.dot.site.0 c.key).chains place c.dot || is_kept_elsewhere h.lost h.purged c.key place c.dot) ≡ true = (a.held c.dot.site.0 c.key).holds c.dot place made known in
      let received : received_at w c.dot.site ≡ s.received = ap (λ (found : Option SubscriberTables). unwrap_or (option_map (λ (t : SubscriberTables). t.received) found) 0) at in
      let unsent : is_unsent_by_made h c.dot.site (received_at w c.dot.site) c.key ≡ true =
      any-in (λ (x : MadeChange). x.dot.site.0 == c.dot.site.0) (λ (x : MadeChange). nat_lt (received_at w c.dot.site) x.generation && same_key c.key x.key) h.made c is own (grind (arith, nat_tests, received, above, key-itself c.key)) in
      grind (arith, holds, unsent)

  settled-kept : (c : MadeChange) (place : Place) → IsIn c h.made → makes c place ≡ true → is_settled w.subscribers h c ≡ true → is_kept m c place ≡ true
  settled-kept c place is does settled = safe-kept c place is does (all-in (λ (x : MadeChange). is_settled w.subscribers h x ≡ true → IsSafe h x) h.made c a.settled is settled)

  stranger-none : (c : MadeChange) → IsIn c h.made → made_at h c.dot.site.0 ≡ [] → ⊥
  stranger-none c is none =
      let found : list_any (λ (x : MadeChange). true) (made_at h c.dot.site.0) ≡ true = any-in (λ (x : MadeChange). x.dot.site.0 == c.dot.site.0) (λ (x : MadeChange). true) h.made c is (grind (arith, nat_tests)) refl in
      absurd (let no : false ≡ true = sym (ap (λ (xs : List MadeChange). list_any (λ (x : MadeChange). true) xs) none) ∙ found in cc)

  site-kept : (c : MadeChange) (place : Place) (found : Option SubscriberTables) → at_number w.subscribers c.dot.site.0 ≡ found → (c.dot.site.0 == 0) ≡ false → IsIn c h.made → makes c place ≡ true → is_settled w.subscribers h c ≡ false → is_kept m c place ≡ true
  site-kept c place None at away is does above = absurd (stranger-none c is (n.strangers c.dot.site.0 (λ zero. grind (arith, nat_tests, away, zero)) at))
  site-kept c place (Some s) at away is does above =
      let received : received_at w c.dot.site ≡ s.received = ap (λ (found : Option SubscriberTables). unwrap_or (option_map (λ (t : SubscriberTables). t.received) found) 0) at in
      unsent-kept c place s is does at (grind (arith, nat_tests, above, received))

  kept-by : (c : MadeChange) (place : Place) (b z : Bool) → is_settled w.subscribers h c ≡ b → (c.dot.site.0 == 0) ≡ z → IsIn c h.made → makes c place ≡ true → is_kept m c place ≡ true
  kept-by c place true z settled zero is does = settled-kept c place is does settled
  kept-by c place false true settled zero is does = absurd (grind (arith, settled, zero))
  kept-by c place false false settled zero is does = site-kept c place (at_number w.subscribers c.dot.site.0) refl zero is does settled

  pub all-accounted : AllAccounted m
  all-accounted = All-from_recursion (λ (c : MadeChange). is_accounted m c ≡ true) h.made
      (each-in (λ (c : MadeChange). is_accounted m c ≡ true) h.made (λ c is. places-all (is_kept m c) c (λ place does. kept-by c place (is_settled w.subscribers h c) (c.dot.site.0 == 0) refl refl is does)))
