-- The calculus of what is reached.
use Rattle.std.proofs.Common.{◌≡◌, ◌≤◌, ◌+◌, ◌++◌, [], ℕ, count_by, refl, ap, ◌∙◌, arith, append_assoc}
use Rattle.std.proofs.lemmas.Grind.{common_steps}
use Rattle.merge_model.specs.Failing.Reach.{Reaches, is_store_fault}
use Rattle.merge_model.specs.Failing.{Slips}

-- nothing happens
pub stays : {A : Type 0} (a : Slips → A) (before after : ℕ) → before ≤ after → Reaches a a before after
stays a before after le = record { slips = []; goes = λ rest. refl; few = grind (arith, le) }

count-append : (xs ys : Slips) → count_by is_store_fault (xs ++ ys) ≡ count_by is_store_fault xs + count_by is_store_fault ys
count-append xs ys = grind (arith, common_steps)

-- one after the other
pub then : {A : Type 0} (a b c : Slips → A) (before middle after : ℕ) → Reaches a b before middle → Reaches b c middle after → Reaches a c before after
then a b c before middle after first second = record {
  slips = first.slips ++ second.slips;
  goes = λ rest. ap a (append_assoc first.slips second.slips rest) ∙ (first.goes (second.slips ++ rest) ∙ second.goes rest);
  few = let e = count-append first.slips second.slips in grind (arith, e, first.few, second.few);
}

-- under a function
pub under : {A B : Type 0} (f : A → B) (a b : Slips → A) (before after : ℕ) → Reaches a b before after → Reaches (λ l. f (a l)) (λ l. f (b l)) before after
under f a b before after r = record { slips = r.slips; goes = λ rest. ap f (r.goes rest); few = r.few }

-- the same, by an equation at each list of slips
pub same-start : {A : Type 0} (a a' b : Slips → A) (before after : ℕ) → ((l : Slips) → a l ≡ a' l) → Reaches a' b before after → Reaches a b before after
same-start a a' b before after e r = record { slips = r.slips; goes = λ rest. e (r.slips ++ rest) ∙ r.goes rest; few = r.few }

pub same-end : {A : Type 0} (a b b' : Slips → A) (before after : ℕ) → ((l : Slips) → b l ≡ b' l) → Reaches a b before after → Reaches a b' before after
same-end a b b' before after e r = record { slips = r.slips; goes = λ rest. r.goes rest ∙ e rest; few = r.few }
