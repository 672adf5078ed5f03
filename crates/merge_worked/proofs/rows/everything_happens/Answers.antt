-- The run is computed once, and each clause is a part of what it gives.
use Rattle.std.proofs.Common.{ap}
use Rattle.std.specs.Prelude.{refl, Bool, List, [], pos, true, ℕ, ℤ, ◌∷◌, ◌≡◌}
use Rattle.merge_model.specs.History.Model.{Model}
use Rattle.merge_model.specs.Script.Play.{opened_play}
use Rattle.merge_worked.specs.EverythingHappens.{everything_happened, publication, purge_comes}
use Rattle.merge_worked.specs.Happened.{all_are_accounted, all_letters_stand, all_rows_stand, all_sessions_settle, all_stay_inside, all_tables_stand, changes_given_up, changes_lost, changes_made, changes_purged, changes_unsent, generations_done, held_at_settled, old_are_past, old_generations, owed_to_settled, ranges_granted, rows_held, rows_put, rows_removed, settled_sites, values_taken, versions_lost}
use Rattle.merge_worked.proofs.Happened.{accounted, all-stand, settled-hold}
use Rattle.merge_worked.proofs.Valid.{everything-valid}
use Rattle.merge_worked.proofs.rows.everything_happens.Goals as goal

record Happened : Type 0 where
  pub made : ℕ
  pub lost : ℕ
  pub purged : ℕ
  pub given_up : ℕ
  pub versions : ℕ
  pub generations : List (ℕ × ℕ)
  pub values : List ℤ
  pub ranges : ℕ
  pub accounted : Bool
  pub rows_stand : Bool
  pub letters_stand : Bool
  pub tables_stand : Bool
  pub settled : List ℕ
  pub holding : List ℕ
  pub put : ℕ
  pub removed : ℕ
  pub inside : Bool

abbrev happened_in : Model → Happened
happened_in m = record {
  made = changes_made m;
  lost = changes_lost m;
  purged = changes_purged m;
  given_up = changes_given_up m;
  versions = versions_lost m;
  generations = generations_done m;
  values = values_taken m;
  ranges = ranges_granted m;
  accounted = all_are_accounted m;
  rows_stand = all_rows_stand m;
  letters_stand = all_letters_stand m;
  tables_stand = all_tables_stand m;
  settled = settled_sites publication m;
  holding = rows_held publication m;
  put = rows_put publication m;
  removed = rows_removed publication m;
  inside = all_stay_inside publication m;
}

happened : happened_in everything_happened ≡ record {
  made = 28;
  lost = 11;
  purged = 9;
  given_up = 1;
  versions = 8;
  generations = (2, 1) ∷ (1, 1) ∷ (3, 1) ∷ (3, 2) ∷ (2, 2) ∷ (1, 2) ∷ [];
  values = pos 51 ∷ pos 5 ∷ pos 4 ∷ pos 3 ∷ pos 2 ∷ pos 1 ∷ [];
  ranges = 7;
  accounted = true;
  rows_stand = true;
  letters_stand = true;
  tables_stand = true;
  settled = 1 ∷ 2 ∷ 3 ∷ [];
  holding = 5 ∷ 5 ∷ 4 ∷ [];
  put = 14;
  removed = 3;
  inside = true;
}
unfolding opened_play everything_happened
happened = refl

held : held_at_settled publication everything_happened ≡ owed_to_settled publication everything_happened
unfolding opened_play everything_happened
held = refl

-- the same of the model as the purge comes
record Coming : Type 0 where
  pub unsent : ℕ
  pub accounted : Bool
  pub sessions : Bool
  pub old : List ℕ
  pub past : Bool

abbrev coming_in : Model → Coming
coming_in m = record {
  unsent = changes_unsent m;
  accounted = all_are_accounted m;
  sessions = all_sessions_settle publication m;
  old = old_generations publication m;
  past = old_are_past publication m;
}

coming : coming_in purge_comes ≡ record { unsent = 1; accounted = true; sessions = true; old = 1 ∷ 2 ∷ 3 ∷ 4 ∷ []; past = true }
unfolding opened_play purge_comes
coming = refl

pub returns-clause-valid : goal.returns-clause-valid
returns-clause-valid c = everything-valid

pub returns-clause-machine : goal.returns-clause-machine
unfolding opened_play
returns-clause-machine c = refl

pub returns-clause-model : goal.returns-clause-model
unfolding opened_play
returns-clause-model c = refl

pub returns-clause-made : goal.returns-clause-made
returns-clause-made c = ap (λ (h : Happened). h.made) happened

pub returns-clause-lost : goal.returns-clause-lost
returns-clause-lost c = ap (λ (h : Happened). h.lost) happened

pub returns-clause-purged : goal.returns-clause-purged
returns-clause-purged c = ap (λ (h : Happened). h.purged) happened

pub returns-clause-given_up : goal.returns-clause-given_up
returns-clause-given_up c = ap (λ (h : Happened). h.given_up) happened

pub returns-clause-versions : goal.returns-clause-versions
returns-clause-versions c = ap (λ (h : Happened). h.versions) happened

pub returns-clause-generations : goal.returns-clause-generations
returns-clause-generations c = ap (λ (h : Happened). h.generations) happened

pub returns-clause-values : goal.returns-clause-values
returns-clause-values c = ap (λ (h : Happened). h.values) happened

pub returns-clause-ranges : goal.returns-clause-ranges
returns-clause-ranges c = ap (λ (h : Happened). h.ranges) happened

pub returns-clause-accounted : goal.returns-clause-accounted
returns-clause-accounted c = ap (λ (h : Happened). h.accounted) happened

pub returns-clause-rows_stand : goal.returns-clause-rows_stand
returns-clause-rows_stand c = ap (λ (h : Happened). h.rows_stand) happened

pub returns-clause-letters_stand : goal.returns-clause-letters_stand
returns-clause-letters_stand c = ap (λ (h : Happened). h.letters_stand) happened

pub returns-clause-tables_stand : goal.returns-clause-tables_stand
returns-clause-tables_stand c = ap (λ (h : Happened). h.tables_stand) happened

pub returns-clause-all_accounted : goal.returns-clause-all_accounted
returns-clause-all_accounted c = accounted everything_happened (ap (λ (h : Happened). h.accounted) happened)

pub returns-clause-all_stand : goal.returns-clause-all_stand
returns-clause-all_stand c = all-stand everything_happened (ap (λ (h : Happened). h.rows_stand) happened) (ap (λ (h : Happened). h.letters_stand) happened) (ap (λ (h : Happened). h.tables_stand) happened)

pub returns-clause-settled : goal.returns-clause-settled
returns-clause-settled c = ap (λ (h : Happened). h.settled) happened

pub returns-clause-holding : goal.returns-clause-holding
returns-clause-holding c = ap (λ (h : Happened). h.holding) happened

pub returns-clause-held : goal.returns-clause-held
returns-clause-held c = held

pub returns-clause-all_hold : goal.returns-clause-all_hold
returns-clause-all_hold c = settled-hold publication everything_happened held

pub returns-clause-put : goal.returns-clause-put
returns-clause-put c = ap (λ (h : Happened). h.put) happened

pub returns-clause-removed : goal.returns-clause-removed
returns-clause-removed c = ap (λ (h : Happened). h.removed) happened

pub returns-clause-inside : goal.returns-clause-inside
returns-clause-inside c = ap (λ (h : Happened). h.inside) happened

pub returns-clause-unsent : goal.returns-clause-unsent
returns-clause-unsent c = ap (λ (c : Coming). c.unsent) coming

pub returns-clause-accounted_before : goal.returns-clause-accounted_before
returns-clause-accounted_before c = ap (λ (c : Coming). c.accounted) coming

pub returns-clause-sessions : goal.returns-clause-sessions
returns-clause-sessions c = ap (λ (c : Coming). c.sessions) coming

pub returns-clause-old : goal.returns-clause-old
returns-clause-old c = ap (λ (c : Coming). c.old) coming

pub returns-clause-past : goal.returns-clause-past
returns-clause-past c = ap (λ (c : Coming). c.past) coming
