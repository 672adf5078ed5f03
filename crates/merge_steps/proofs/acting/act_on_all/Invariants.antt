use Rattle.std.specs.Prelude.{◌≡◌, ◌+◌, ◌*◌, ◌≤◌, ℕ, map, take}
use Rattle.merge_resolve.specs.Asked.{says_at, tallies_after}
use Rattle.merge_resolve.specs.Questions.{question_of as asked_of}
use Rattle.merge_resolve.specs.declared.case.ConflictCase.{ConflictCase}
use Rattle.merge_steps.specs.Uploading.{KeepsFits, after_items, pass_at, questions_in}
use Rattle.merge_steps.proofs.acting.act_on_all.Given as goal

-- the items so far have acted, and their questions were asked
abbrev pub invariant-loop-item : goal.invariant-loop-item
invariant-loop-item g l =
    let now = map (λ r. (goal.Resolver-dyn g (r.vtable, r.value)).tally_of r.value) l.resolvers.items in
    let first = map (λ r. (goal.Resolver-dyn g (r.vtable, r.value)).tally_of r.value) l.fn.resolvers.items in
    let says = says_at (λ r. (goal.Resolver-dyn g (r.vtable, r.value)).says r.value) l.fn.resolvers.items in
    record {
      steady : (k n : ℕ) (q : ConflictCase) → says_at (λ r. (goal.Resolver-dyn g (r.vtable, r.value)).says r.value) l.resolvers.items k n q ≡ says k n q;
      passed : pass_at l.acting now ≡ after_items l.publication l.rows.rows l.arrival says (pass_at l.fn.acting first) (take l.item-index l.items);
      asked : now ≡ tallies_after first (map asked_of (questions_in l.publication l.rows.rows l.arrival (take l.item-index l.items)));
      rises : l.fn.acting.changes ≤ l.acting.changes;
      changes : l.acting.changes ≤ l.fn.acting.changes + l.item-index;
      conflicts : l.acting.conflict_count ≤ l.fn.acting.conflict_count + 2 * l.item-index;
      fits : KeepsFits l.publication l.fn.acting l.acting;
    }
