-- What a version knows, as changes are made and versions are merged, and which changes are new.
use Rattle.std.specs.Prelude.{◌≡◌, ◌≤◌, ◌-◌, ◌||◌, ◌<◌, ◌==◌, ◌++◌, ℕ, zero, suc, List, [], ◌∷◌, Bool, true, false, refl, map, filter, cond}
use Rattle.std.specs.List.{AllByRecursion, list_any}
use Rattle.std.proofs.Common.{arith, sym, ap, ◌∙◌}
use Rattle.std.proofs.lemmas.Bool.Decides.{nat_tests}
use Rattle.std.proofs.lemmas.List.Folds.{list_any-append}
use Rattle.merge_types.specs.declared.identifiers.Dot.{Dot}
use Rattle.merge_types.specs.declared.changes.Change.{Change}
use Rattle.merge_types.specs.declared.changes.Change.TheVariants.{Delete, Insert, Update}
use Rattle.merge_schema.specs.declared.publication.Publication.{Publication}
use Rattle.merge_model.specs.History.{History, MadeChange, Past, has}
use Rattle.merge_model.specs.History.Pasts.{past_after}
use Rattle.merge_types.specs.declared.row_key.RowKey.{RowKey as Key}
use Rattle.merge_laws.specs.Facts.Knowledge.{AreNumbered, KnowsItsPast, Knows, counts_down, is_made, number_of_change, same_dot, was_made}
use Rattle.merge_model.proofs.Lists.{all-of}

-- A new change.

-- no change has this dot
abbrev pub IsFresh : List MadeChange → Dot → Type 0
IsFresh made dot = AllByRecursion (λ (change : MadeChange). same_dot change.dot dot ≡ false) made

pub fresh-any : (made : List MadeChange) (key : Key) (dot : Dot) → IsFresh made dot → is_made made key dot ≡ false
fresh-any [] key dot fresh = refl
fresh-any (c ∷ made) key dot fresh = grind (arith, fresh.0, fresh-any made key dot fresh.1)

pub fresh-anywhere : (made : List MadeChange) (dot : Dot) → IsFresh made dot → list_any (λ (x : MadeChange). same_dot x.dot dot) made ≡ false
fresh-anywhere [] dot fresh = refl
fresh-anywhere (c ∷ made) dot fresh = grind (arith, fresh.0, fresh-anywhere made dot fresh.1)

-- what was made of a row was made
pub made-was : (made : List MadeChange) (key : Key) (dot : Dot) → is_made made key dot ≡ true → was_made made dot ≡ true
made-was [] key dot is = absurd (grind (arith, is))
made-was (c ∷ made) key dot is = grind (arith, is, made-was made key dot)

-- a number above the count is no change's
pub down-above : (count number : ℕ) → count < number → list_any (λ (n : ℕ). n == number) (counts_down count) ≡ false
down-above zero number above = refl
down-above (suc n) number above = grind (arith, nat_tests, above, down-above n number (omega (arith, above)))

pub down-parts : (n k : ℕ) (rest : List ℕ) → k ∷ rest ≡ counts_down n → (k ≡ n) × ((1 ≤ n) × (rest ≡ counts_down (n - 1)))
down-parts zero k rest e = absurd (grind (arith, e))
down-parts (suc n) k rest e = (let heads : k ≡ suc n = cc in heads, (omega arith, let tails : rest ≡ counts_down n = cc in tails ∙ ap counts_down (let same : n ≡ suc n - 1 = omega arith in same)))

fresh-step : (c : MadeChange) (dot : Dot) (rest : List MadeChange) (b : Bool) → (c.dot.site.0 == dot.site.0) ≡ b
    → list_any (λ (n : ℕ). n == dot.number) (map number_of_change (cond b (c ∷ rest) rest)) ≡ false → (same_dot c.dot dot ≡ false) × (list_any (λ (n : ℕ). n == dot.number) (map number_of_change rest) ≡ false)
fresh-step c dot rest true is none = (grind (arith, none, is), grind (arith, none))
fresh-step c dot rest false is none = (grind (arith, is), none)

pub fresh-among : (made : List MadeChange) (dot : Dot) → list_any (λ (n : ℕ). n == dot.number) (map number_of_change (filter (λ (c : MadeChange). c.dot.site.0 == dot.site.0) made)) ≡ false → IsFresh made dot
fresh-among [] dot none = tt
fresh-among (c ∷ made) dot none =
    let step = fresh-step c dot (filter (λ (x : MadeChange). x.dot.site.0 == dot.site.0) made) (c.dot.site.0 == dot.site.0) refl none in
    (step.0, fresh-among made dot step.1)

pub fresh-above : (count : ℕ → ℕ) (h : History) (dot : Dot) → AreNumbered count h → count dot.site.0 < dot.number → IsFresh h.made dot
fresh-above count h dot numbered above =
    fresh-among h.made dot (ap (λ (ns : List ℕ). list_any (λ (n : ℕ). n == dot.number) ns) (numbered dot.site.0) ∙ down-above (count dot.site.0) dot.number above)

-- What versions know.

pub knows-nothing : (made : List MadeChange) (key : Key) → Knows made key []
knows-nothing made key = record {
  made_here = λ dot known. absurd (grind (arith, known));
  closed = all-of (λ (c : MadeChange). KnowsItsPast [] c) (λ c known. absurd (grind (arith, known))) made;
}

-- what is known stays so as changes are made
pub knows-later : (made : List MadeChange) (c : MadeChange) (key : Key) (known : List Dot) → IsFresh made c.dot → Knows made key known → Knows (c ∷ made) key known
knows-later made c key known fresh k = record {
  made_here = λ dot is. grind (arith, k.made_here dot is);
  closed = (λ is dot was. absurd (grind (arith, k.made_here c.dot is, fresh-any made key c.dot fresh)), k.closed);
}

-- a change knows itself besides what its row knew
new-closed : (made : List MadeChange) (dot : Dot) (known : List Dot) → IsFresh made dot → AllByRecursion (λ (c : MadeChange). KnowsItsPast known c) made → AllByRecursion (λ (c : MadeChange). KnowsItsPast (dot ∷ known) c) made
new-closed [] dot known fresh all = tt
new-closed (c ∷ made) dot known fresh all = (
  λ is other was. (let before : has known c.dot ≡ true = grind (arith, nat_tests, is, fresh.0) in grind (arith, all.0 before other was)),
  new-closed made dot known fresh.1 all.1,
)

pub knows-new : (made : List MadeChange) (c : MadeChange) (known : List Dot) → c.past.known ≡ c.dot ∷ known → IsFresh made c.dot → Knows made c.key known → Knows (c ∷ made) c.key (c.dot ∷ known)
knows-new made c known is fresh k = record {
  made_here = λ dot here. grind (arith, nat_tests, here, k.made_here dot);
  closed = (λ here dot was. sym (ap (λ (dots : List Dot). has dots dot) is) ∙ was, new-closed made c.dot known fresh k.closed);
}

-- two versions merged know what one of the two knew
both-closed : (made : List MadeChange) (a b : List Dot) → AllByRecursion (λ (c : MadeChange). KnowsItsPast a c) made → AllByRecursion (λ (c : MadeChange). KnowsItsPast b c) made
    → AllByRecursion (λ (c : MadeChange). KnowsItsPast (a ++ b) c) made
both-closed [] a b one other = tt
both-closed (c ∷ made) a b one other = (
  λ is dot was. grind (arith, list_any-append (λ (x : Dot). same_dot x c.dot) a b, list_any-append (λ (x : Dot). same_dot x dot) a b, is, one.0, other.0),
  both-closed made a b one.1 other.1,
)

pub knows-both : (made : List MadeChange) (key : Key) (a b : List Dot) → Knows made key a → Knows made key b → Knows made key (a ++ b)
knows-both made key a b one other = record {
  made_here = λ dot is. grind (arith, list_any-append (λ (x : Dot). same_dot x dot) a b, is, one.made_here dot, other.made_here dot);
  closed = both-closed made a b one.closed other.closed;
}

-- what is known after a change is the change, or was known before
pub after-known : (publication : Publication) (dot : Dot) (change : Change) (past : Past) (other : Dot) → has (past_after publication dot change past).known other ≡ true → (same_dot dot other || has past.known other) ≡ true
after-known publication dot (Insert article values) past other is = grind (arith, is)
after-known publication dot (Update article row values) past other is = is
after-known publication dot (Delete article row) past other is = is
