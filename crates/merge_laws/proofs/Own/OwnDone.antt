-- A change that counts and stands in a generation that has acted is accepted.
use Rattle.std.specs.Prelude.{◌≡◌, ◌≤◌, ◌-◌, ◌||◌, ℕ, List, [], ◌∷◌, Bool, true, false, Option, Some, None, refl, is_some, nat_le}
use Rattle.std.specs.List.{AllByRecursion}
use Rattle.std.proofs.Common.{arith, subst, sym, ap, ◌∙◌}
use Rattle.std.proofs.lemmas.Bool.Decides.{nat_tests}
use Rattle.merge_schema.specs.declared.publication.Publication.{Publication}
use Rattle.merge_model.specs.Judge.ByNumbers.{received_by_number, received_number_by_number}
use Rattle.merge_model.specs.History.{History, MadeChange, has, is_done, made_at, past_at}
use Rattle.merge_model.specs.Tables.Keys.{at_number, row_at, same_key}
use Rattle.merge_types.specs.declared.row_key.RowKey.{RowKey as Key}
use Rattle.merge_model.specs.Tables.{SubscriberTables}
use Rattle.merge_model.specs.World.{World}
use Rattle.merge_laws.specs.Invariants.Accepting.{AcceptsWell, accepts}
use Rattle.merge_laws.specs.Facts.LineagesStand.{KnowsAll, OwnKnown, counts_in, is_of}
use Rattle.merge_laws.specs.Facts.Numbered.{InOrder, Numbered, is_up_to, last_of}
use Rattle.merge_model.proofs.Lists.Finding.{all-weaker}
use Rattle.merge_laws.proofs.Runs.Ground.{Ground}
use Rattle.merge_model.proofs.Lists.{all-both, all-passing}
use Rattle.merge_laws.proofs.Own.OwnActs.{own-accepts}
use Rattle.merge_laws.proofs.Own.OwnKnowing.{every-site}
use Rattle.merge_laws.proofs.Own.OwnParts.{OwnRest, at_model}
use Rattle.merge_laws.proofs.Numbered.Through.{each-within}

-- generations are numbered from 1
order-first : (number generation : ℕ) (made : List MadeChange) → InOrder number generation made → AllByRecursion (λ (c : MadeChange). 1 ≤ c.generation) made
order-first number generation [] o = tt
order-first number generation (c ∷ made) o = (o.1.1.1.0, order-first (number - 1) c.generation made o.1.1.1.1)

site-first : (w : World) (h : History) (i : Numbered w h) (site : ℕ) (found : Option SubscriberTables) → (site ≡ 0 → ⊥) → at_number w.subscribers site ≡ found → AllByRecursion (λ (c : MadeChange). 1 ≤ c.generation) (made_at h site)
site-first w h i site None named is = subst (λ (made : List MadeChange). AllByRecursion (λ (c : MadeChange). 1 ≤ c.generation) made) (sym (i.strangers site named is)) tt
site-first w h i site (Some s) named is = order-first _ _ (made_at h site) ((i.subscribers site s is).order named)

module _ (publication : Publication) (w : World) (h : History) (g : Ground publication w h) where
  -- what has acted has a number that was received
  done-number : (site : ℕ) (c : MadeChange) (first : Bool) → nat_le 1 c.generation ≡ first → is_done h site c.generation ≡ true → (is_up_to (received_by_number w.publisher site) c ≡ true → c.dot.number ≤ last_of (received_by_number w.publisher site) (made_at h site)) → c.dot.number ≤ received_number_by_number w.publisher site
  done-number site c true first done within =
      let low : 1 ≤ c.generation = grind (arith, nat_tests, first) in
      let up = g.received.done site c.generation low in
      let taken = g.numbered.taken site in
      let most = within (grind (arith, first, up, done)) in
      omega (arith, taken, most)
  done-number site c false first done within =
      let zero_generation : c.generation ≡ 0 = grind (arith, nat_tests, first) in
      let none = ap (λ (n : ℕ). is_done h site n) zero_generation ∙ g.numbered.first site in
      absurd (grind (arith, none, done))

  pub done-numbers : AllByRecursion (λ (c : MadeChange). is_done h c.dot.site.0 c.generation ≡ true → c.dot.number ≤ received_number_by_number w.publisher c.dot.site.0) h.made
  done-numbers = every-site (λ (c : MadeChange). is_done h c.dot.site.0 c.generation ≡ true → c.dot.number ≤ received_number_by_number w.publisher c.dot.site.0) h.made
      (λ site. all-weaker (λ (c : MadeChange). is_of site c ≡ true → is_up_to (received_by_number w.publisher site) c ≡ true → c.dot.number ≤ last_of (received_by_number w.publisher site) (made_at h site))
      (λ (c : MadeChange). c.dot.site.0 ≡ site → is_done h c.dot.site.0 c.generation ≡ true → c.dot.number ≤ received_number_by_number w.publisher c.dot.site.0)
      (λ c within same done. subst (λ (n : ℕ). c.dot.number ≤ received_number_by_number w.publisher n) (sym same)
      (done-number site c (nat_le 1 c.generation) refl (ap (λ (n : ℕ). is_done h n c.generation) (sym same) ∙ done) (within (grind (arith, nat_tests, same))))) h.made
      (all-passing (λ (c : MadeChange). is_up_to (received_by_number w.publisher site) c ≡ true → c.dot.number ≤ last_of (received_by_number w.publisher site) (made_at h site)) (is_of site) h.made
      (each-within (received_by_number w.publisher site) (made_at h site))))

  counted-accepted : (c : MadeChange) → (is_done h c.dot.site.0 c.generation ≡ true → c.dot.number ≤ received_number_by_number w.publisher c.dot.site.0) → is_done h c.dot.site.0 c.generation ≡ true → counts_in (at_model w h) c ≡ true → accepts h.accepted c.dot ≡ true
  counted-accepted c within done counted = let low = within done in grind (arith, nat_tests, low, counted)

  pub done-accepted : AllByRecursion (λ (c : MadeChange). is_done h c.dot.site.0 c.generation ≡ true → counts_in (at_model w h) c ≡ true → accepts h.accepted c.dot ≡ true) h.made
  done-accepted = all-weaker (λ (c : MadeChange). is_done h c.dot.site.0 c.generation ≡ true → c.dot.number ≤ received_number_by_number w.publisher c.dot.site.0) (λ (c : MadeChange). is_done h c.dot.site.0 c.generation ≡ true → counts_in (at_model w h) c ≡ true → accepts h.accepted c.dot ≡ true)
      counted-accepted h.made done-numbers

  either-accepts : (c : MadeChange) (b : Bool) → is_of 0 c ≡ b → (is_of 0 c || is_done h c.dot.site.0 c.generation) ≡ true → (is_done h c.dot.site.0 c.generation ≡ true → accepts h.accepted c.dot ≡ true) → accepts h.accepted c.dot ≡ true
  either-accepts c true own is done = own-accepts h.accepted c.dot (grind (arith, nat_tests, own))
  either-accepts c false own is done = done (grind (arith, own, is))

  -- so the publisher's version of a row that it holds knows all that has acted
  pub acted-known : AcceptsWell w h → (key : Key) → is_some (row_at w.publisher.rows key) ≡ true → KnowsAll (at_model w h) key (λ (change : MadeChange). is_of 0 change || is_done h change.dot.site.0 change.generation) (past_at h 0 key).known
  acted-known p key there = all-both (λ (c : MadeChange). is_done h c.dot.site.0 c.generation ≡ true → counts_in (at_model w h) c ≡ true → accepts h.accepted c.dot ≡ true)
      (λ (c : MadeChange). same_key key c.key ≡ true → accepts h.accepted c.dot ≡ true → has (past_at h 0 key).known c.dot ≡ true)
      (λ (c : MadeChange). same_key key c.key ≡ true → (is_of 0 c || is_done h c.dot.site.0 c.generation) ≡ true → counts_in (at_model w h) c ≡ true → has (past_at h 0 key).known c.dot ≡ true)
      (λ c done knows row is counted. knows row (either-accepts c (is_of 0 c) refl is (λ acted. done acted counted))) h.made done-accepted (p.held key there)

  pub whole : AcceptsWell w h → OwnRest (at_model w h) → OwnKnown (at_model w h)
  whole p rest = record { making = rest.making; own = rest.own; acted = acted-known p; uploads = rest.uploads; replies = rest.replies }

  -- a generation up to the received one has acted
  pub received-acted : (site : ℕ) → (site ≡ 0 → ⊥) → AllByRecursion (λ (c : MadeChange). is_of site c ≡ true → c.generation ≤ received_by_number w.publisher site → is_done h c.dot.site.0 c.generation ≡ true) h.made
  received-acted site named = all-weaker (λ (c : MadeChange). is_of site c ≡ true → 1 ≤ c.generation) (λ (c : MadeChange). is_of site c ≡ true → c.generation ≤ received_by_number w.publisher site → is_done h c.dot.site.0 c.generation ≡ true)
      (λ c first own up. (let low = first own in let same : c.dot.site.0 ≡ site = grind (arith, nat_tests, own) in let done = g.received.done site c.generation low in
      ap (λ (n : ℕ). is_done h n c.generation) same ∙ done ∙ grind (arith, nat_tests, up))) h.made
      (all-passing (λ (c : MadeChange). 1 ≤ c.generation) (is_of site) h.made (site-first w h g.numbered site (at_number w.subscribers site) named refl))
