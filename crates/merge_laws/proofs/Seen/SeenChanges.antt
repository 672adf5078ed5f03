-- The last change of an upload's generations has acted before, or stands in an item that acts.
use Rattle.std.specs.Prelude.{◌≡◌, ◌≤◌, ◌<◌, ◌&&◌, ℕ, List, Bool, true, false, refl, filter, max, nat_le, not}
use Rattle.std.specs.List.{AllByRecursion}
use Rattle.std.proofs.Common.{arith, subst, ap, ◌∙◌}
use Rattle.std.proofs.lemmas.Bool.Decides.{nat_tests}
use Rattle.merge_batch.specs.declared.request.UploadItem.{UploadItem}
use Rattle.merge_model.specs.Judge.ByNumbers.{received_number_by_number}
use Rattle.merge_model.specs.History.{MadeChange, Past, is_accepted, is_done, made_at}
use Rattle.merge_model.specs.History.Model.{Model}
use Rattle.merge_types.specs.declared.row_key.RowKey.{RowKey as Key}
use Rattle.merge_laws.specs.Facts.LineagesStand.{counts_in, is_of, is_sent}
use Rattle.merge_laws.specs.Facts.Numbered.{is_up_to, last_of}
use Rattle.merge_model.proofs.Lists.{all-both, all-kept, all-passing}
use Rattle.merge_laws.proofs.Seen.SeenSites.{ItemTold, highest, sent-highest}
use Rattle.merge_laws.proofs.Numbered.Through.{each-within, last-bound}

-- Of a site whose generations have acted up to a received one.

not-both : (b : Bool) → not (b && false) ≡ true
not-both true = refl
not-both false = refl

module _ (m : Model) (n from to received : ℕ) (incoming : List (Key × Past)) (items : List UploadItem) (told : AllByRecursion (ItemTold incoming) items)
    (done : (generation : ℕ) → 1 ≤ generation → is_done m.history n generation ≡ nat_le generation received) (begins : from ≤ received)
    (number : received_number_by_number m.world.publisher n ≡ last_of received (made_at m.history n)) where
  abbrev acting : List UploadItem
  acting = filter (λ (item : UploadItem). not (is_done m.history n item.generation)) items

  abbrev most : ℕ
  most = max (last_of received (made_at m.history n)) (highest acting n 0)

  abbrev Sent : MadeChange → Type 0
  Sent c = is_of n c ≡ true → from < c.generation → c.generation ≤ to → counts_in m c ≡ true → is_sent incoming items c ≡ true

  -- a change above the last received one is not given up
  counts-above : (c : MadeChange) → c.dot.site.0 ≡ n → nat_le c.dot.number (last_of received (made_at m.history n)) ≡ false → counts_in m c ≡ true
  counts-above c own above =
      let low : nat_le c.dot.number (received_number_by_number m.world.publisher c.dot.site.0) ≡ false =
      ap (λ (k : ℕ). nat_le c.dot.number (received_number_by_number m.world.publisher k)) own ∙ ap (λ (k : ℕ). nat_le c.dot.number k) number ∙ above in
      ap (λ (b : Bool). not (not (is_accepted m.history c.dot) && b)) low ∙ not-both (not (is_accepted m.history c.dot))

  acted-not : (c : MadeChange) (generation : ℕ) → received < c.generation → c.generation ≤ generation → is_done m.history n generation ≡ false
  acted-not c generation behind up = done generation (omega (arith, behind, up)) ∙ (let late : nat_le generation received ≡ false = grind (arith, nat_tests, behind, up) in late)

  new-bound : (c : MadeChange) → c.dot.site.0 ≡ n → received < c.generation → c.generation ≤ to → nat_le c.dot.number (last_of received (made_at m.history n)) ≡ false → Sent c → c.dot.number ≤ highest acting n 0
  new-bound c own behind up above sent =
      let there : is_sent incoming items c ≡ true = sent (grind (arith, nat_tests, own)) (omega (arith, begins, behind)) up (counts-above c own above) in
      subst (λ (k : ℕ). c.dot.number ≤ highest acting k 0) own (sent-highest incoming c (is_done m.history n) (λ generation later. acted-not c generation behind later) items told there 0)

  change-test : (c : MadeChange) (within old : Bool) → nat_le c.dot.number (last_of received (made_at m.history n)) ≡ within → nat_le c.generation received ≡ old → c.dot.site.0 ≡ n → is_up_to to c ≡ true
      → (is_up_to received c ≡ true → c.dot.number ≤ last_of received (made_at m.history n)) → Sent c → c.dot.number ≤ most
  change-test c true old is at own up low sent = grind (arith, nat_tests, is)
  change-test c false true is at own up low sent = let below : c.dot.number ≤ last_of received (made_at m.history n) = low (grind (arith, nat_tests, at, up)) in absurd (grind (arith, nat_tests, is, below))
  change-test c false false is at own up low sent =
      let bound : c.dot.number ≤ highest acting n 0 = new-bound c own (grind (arith, nat_tests, at)) (grind (arith, nat_tests, up)) is sent in
      grind (arith, nat_tests, bound)

  pub last-sent : AllByRecursion Sent m.history.made → last_of to (made_at m.history n) ≤ most
  last-sent all = last-bound to most (made_at m.history n) (all-kept (λ (c : MadeChange). is_up_to to c ≡ true → c.dot.number ≤ most) (is_of n) m.history.made
      (all-both (λ (c : MadeChange). is_of n c ≡ true → is_up_to received c ≡ true → c.dot.number ≤ last_of received (made_at m.history n)) Sent (λ (c : MadeChange). is_of n c ≡ true → is_up_to to c ≡ true → c.dot.number ≤ most)
      (λ c low sent of up. change-test c (nat_le c.dot.number (last_of received (made_at m.history n))) (nat_le c.generation received) refl refl (grind (arith, nat_tests, of)) up (low of) sent) m.history.made
      (all-passing (λ (c : MadeChange). is_up_to received c ≡ true → c.dot.number ≤ last_of received (made_at m.history n)) (is_of n) m.history.made (each-within received (made_at m.history n))) all))
